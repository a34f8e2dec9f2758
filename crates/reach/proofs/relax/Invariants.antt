-- `reach::relax` meets its contract. Assumes nothing.
use Rattle.reach.specs.Closing.{Relaxed}
use Rattle.reach.proofs.relax.Given as goal

abbrev pub invariant-loop-i : goal.invariant-loop-i
invariant-loop-i l = Relaxed l.w l.n l.k l.initial.m l.i l.m
