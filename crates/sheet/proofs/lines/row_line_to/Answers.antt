-- `sheet::lines::row_line_to` meets its contract. Assumes nothing.
use Rattle.sheet.specs.Lines.{row_line}
use Rattle.text.proofs.Laying.{prints_then}
use Rattle.sheet.proofs.lines.row_line_to.Goals as goal

pub returns : goal.returns
unfolding row_line
returns c =
    prints_then _ _ _ _ _ _ _ _
    (prints_then _ _ _ _ _ _ _ _
    (prints_then _ _ _ _ _ _ _ _
    (prints_then _ _ _ _ _ _ _ _
    (prints_then _ _ _ _ _ _ _ _ c.decimal_to-named.ensures (rw c.standing_name.ensures at c.text_to-stood.ensures))
    c.field_to-found.ensures)
    c.field_to-placed.ensures)
    c.field_to-marked.ensures)
    c.byte_to.ensures
