-- `sheet::lines::field_to` meets its contract. Assumes nothing.
use Rattle.text.proofs.Laying.{prints_more}
use Rattle.sheet.proofs.lines.field_to.Goals as goal

pub returns : goal.returns
returns c =
    prints_more _ _ _ _ _ _ c.byte_to-here.ensures c.decimal_to.ensures
