-- `filing::named::collect` meets its contract. Assumes nothing.
use mathlib.Core.Path.{◌≡◌}
use Rattle.filing.specs.Named.{collect_of}
use Rattle.filing.proofs.named.collect.Given as goal

abbrev pub invariant-loop-k : goal.invariant-loop-k
invariant-loop-k l = l.m ≡ collect_of l.t l.k l.i l.initial.m
