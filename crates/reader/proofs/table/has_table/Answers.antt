-- `reader::table::has_table` meets its contract. Assumes nothing.
use native.Mathlib.Omega.{arith}
use Rattle.reader.proofs.Tables.{has-over}
use Rattle.reader.proofs.table.has_table.Goals as goal

pub returns-in_default : goal.returns-in_default
returns-in_default c = has-over _ _ _ _ (omega arith)
