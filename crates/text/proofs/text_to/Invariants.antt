use Rattle.std.proofs.Common.{take}
use Rattle.text.specs.Printing.{Prints}
use Rattle.text.proofs.text_to.Given as goal

-- the bytes so far are laid
abbrev pub invariant-loop-b : goal.invariant-loop-b
invariant-loop-b l = Prints (take l.b-index l.text) l.to l.here l.initial.out l.out
