-- What `write_within` gives and leaves with so many bytes of its own. Internal: an auditor goes by grammar's `writing`.
use Rattle.std.specs.Prelude.{ℕ, ◌≡◌, List, length, Option, Some, None, Result}
use Rattle.number.specs.declared.token.Counts.{Counts}
use Rattle.grammar.specs.Emit.{emitted}
use Rattle.grammar.specs.Writer.{confirmed}
use Rattle.answer.specs.Answers.{panel_of}
use Rattle.answer.specs.Written.{Writes}
use Rattle.answer.specs.declared.refusal.Fault.{Fault}
use Rattle.emission.specs.End.{Stop}
use Rattle.emission.specs.Emission.{result_of}

-- the writer's answer and output; or nothing is written, since the emission stops within so many bytes
abbrev pub WritesWithin : (room kind : ℕ) → Counts → List ℕ → Option (Result ℕ Fault) → (old new : List ℕ) → Type 0
WritesWithin room kind counts t (Some r) old new = Writes (confirmed kind counts t (length old) (emitted t)) (panel_of r) old new
WritesWithin room kind counts t None old new = (new ≡ old) × (result_of (emitted t) 0 room ≡ Stop)
