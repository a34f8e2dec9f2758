-- `writer::copy_to`: as many bytes are copied as were passed.
use Rattle.std.proofs.Common.{◌≡◌, ◌++◌}
use lib.ListN.{take, drop}
use Rattle.writer.proofs.copy_to.Given as goal

abbrev pub invariant-loop-i : goal.invariant-loop-i
invariant-loop-i l = l.out ≡ take l.i l.src ++ drop l.i l.initial.out
