-- `reach::or_words` meets its contract. Assumes nothing.
use Rattle.reach.specs.Closing.{Ored}
use Rattle.reach.proofs.or_words.Given as goal

abbrev pub invariant-loop-x : goal.invariant-loop-x
invariant-loop-x l = Ored l.initial.m l.d l.s l.x l.m
