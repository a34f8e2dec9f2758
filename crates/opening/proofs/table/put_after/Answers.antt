-- `opening::table::put_after` meets its contract. Assumes nothing.
use mathlib.Core.Path.{sym}
use Rattle.opening.proofs.Stamp.{after_in, after_out}
use Rattle.opening.proofs.table.put_after.Goals as goal

pub returns-then-i-out : goal.returns-then-i-out
returns-then-i-out c = sym (after_in _ _ _ c.if-i-out.true)

pub returns-else-i-out : goal.returns-else-i-out
returns-else-i-out c = sym (after_out _ _ _ c.if-i-out.false)
