-- Document 01, "The register": what is kept of a judged blob beside its set of rows.
use Rattle.std.specs.Prelude.{ℕ, Result, Ok, Err}
use Rattle.std.proofs.Math.Option.{some}
use Rattle.grammar.specs.Judge.{Out}
use Rattle.filing.specs.Outcome.{state_of, code_of, place_of}
use Rattle.filing.specs.declared.Refused.{Refused}

-- a row's state, with the number and the place of its refusal
pub record Finding : Type 0 where
  pub state : ℕ
  pub code : ℕ
  pub place : ℕ

abbrev pub finding : (state code place : ℕ) → Finding
finding state code place = record { state = state; code = code; place = place }

abbrev pub finding_of : Out → Finding
finding_of o = finding (state_of (some o)) (code_of (some o)) (place_of (some o))

-- 2 accepted, 1 refused: what judging answers, as it is kept
abbrev pub kept_of : {A : Type 0} → Result A Refused → Finding
kept_of (Ok a) = finding 2 0 0
kept_of (Err r) = finding 1 r.code r.place
