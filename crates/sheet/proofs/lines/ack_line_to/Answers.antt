-- `sheet::lines::ack_line_to` meets its contract. Assumes nothing.
use Rattle.sheet.specs.Lines.{ack_line}
use Rattle.text.proofs.Laying.{prints_then}
use Rattle.sheet.proofs.lines.ack_line_to.Goals as goal

pub returns : goal.returns
unfolding ack_line
returns c =
    prints_then _ _ _ _ _ _ _ _
    (prints_then _ _ _ _ _ _ _ _
    (prints_then _ _ _ _ _ _ _ _ c.text_to-word.ensures c.field_to-named.ensures)
    c.field_to-answered.ensures)
    c.byte_to.ensures
