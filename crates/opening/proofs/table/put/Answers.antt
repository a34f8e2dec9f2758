-- `opening::table::put` meets its contract. Assumes nothing.
use Rattle.opening.proofs.Stamp.{put-stores, put-nothing}
use Rattle.opening.proofs.table.put.Goals as goal

pub returns-then-i-out : goal.returns-then-i-out
returns-then-i-out c = put-stores _ _ _ c.if-i-out.true

pub returns-else-i-out : goal.returns-else-i-out
returns-else-i-out c = put-nothing _ _ _ c.if-i-out.false
