-- `opening::shape::bounds_at` meets its contract. Assumes nothing.
use Rattle.std.proofs.Common.{ℕ, ◌-◌, List}
use Rattle.grammar.specs.Judge.{many}
use Rattle.opening.specs.End.{Walk}
use Rattle.opening.specs.Walk.{Walked}
use Rattle.opening.specs.Shape.{bound_at}
use Rattle.opening.proofs.shape.bounds_at.Given as goal

-- whatever ends the rest from here ends the whole
abbrev pub invariant-loop : goal.invariant-loop
invariant-loop l =
    (r : Walk) (fin : List ℕ) → Walked (many (bound_at l.kind l.d l.src.bytes.now) (l.count - l.counter) l.end.at l.end.node) l.end.node r l.out fin
    → Walked (many (bound_at l.kind l.d l.src.bytes.now) l.count l.fn.from.at l.fn.from.node) l.fn.from.node r l.initial.out fin
