-- `sheet::lines::refusal_line_to` meets its contract. Assumes nothing.
use Rattle.sheet.specs.Lines.{refusal_line}
use Rattle.text.proofs.Laying.{prints_then}
use Rattle.sheet.proofs.lines.refusal_line_to.Goals as goal

pub returns : goal.returns
unfolding refusal_line
returns c =
    prints_then _ _ _ _ _ _ _ _
    (prints_then _ _ _ _ _ _ _ _ c.text_to-words.ensures c.field_to-placed.ensures)
    c.byte_to.ensures
