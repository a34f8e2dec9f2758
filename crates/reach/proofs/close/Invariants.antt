-- `reach::close` meets its contract. Assumes nothing.
use Rattle.reach.proofs.Closures.{Closed}
use Rattle.reach.proofs.close.Given as goal

abbrev pub invariant-loop-k : goal.invariant-loop-k
invariant-loop-k l = Closed l.w l.n l.initial.m l.k l.m
