-- `sheet::rows::Rows::head_to` meets its contract. Assumes nothing.
use Rattle.text.proofs.Laying.{prints_then}
use Rattle.sheet.proofs.rows.Rows.head_to.Goals as goal

pub returns : goal.returns
returns c = prints_then _ _ _ _ _ _ _ _ c.text_to-here.ensures c.lines_to.ensures
