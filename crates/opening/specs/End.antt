-- How a walk ends: with the offset and the index where it goes on, or with a refusal's number and offset. Internal: an auditor goes by the judge.
use Rattle.std.specs.Prelude.{ℕ, Result, Ok, Err}
use Rattle.answer.specs.Refusal.{number_of}
use Rattle.answer.specs.declared.refusal.Fault.{Fault}
use Rattle.grammar.specs.declared.Position.{Position}

pub data Walk : Type 0 where
  Next : (at node : ℕ) → Walk
  Stop : (refusal at : ℕ) → Walk

unfoldable pub ended : Result Position Fault → Walk
ended (Ok p) = Next p.at p.node
ended (Err f) = Stop (number_of f.refusal) f.place
