-- `sheet::fill` meets its contract. Assumes nothing.
use Rattle.text.proofs.Laying.{prints_then}
use Rattle.sheet.proofs.fill.Goals as goal

pub returns : goal.returns
returns c = (prints_then _ _ _ _ _ _ _ _ c.head_to-here.ensures c.acks_to.ensures.prints).1
