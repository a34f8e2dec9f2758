-- How an emission ends: with the offset and the record where it goes on; or the table has no blob that fits. Internal: an auditor goes by
-- grammar's `writing`.
use Rattle.std.specs.Prelude.{ℕ, Option, Some, None}
use Rattle.grammar.specs.declared.Position.{Position}

pub data Emit : Type 0 where
  Next : (at node : ℕ) → Emit
  Stop : Emit

unfoldable pub ended : Option Position → Emit
ended (Some p) = Next p.at p.node
ended None = Stop
