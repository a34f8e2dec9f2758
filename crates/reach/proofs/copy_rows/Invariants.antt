-- `reach::copy_rows` meets its contract. Assumes nothing.
use Rattle.reach.specs.Closing.{RowsCopied}
use Rattle.reach.proofs.copy_rows.Given as goal

abbrev pub invariant-loop-r : goal.invariant-loop-r
invariant-loop-r l = RowsCopied l.w l.v l.initial.m l.from l.r l.m
