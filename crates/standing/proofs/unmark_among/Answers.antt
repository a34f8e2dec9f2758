-- `standing::unmark_among` meets its contract. Assumes nothing.
use mathlib.Core.Path.{◌∙◌}
use Rattle.standing.proofs.Standings.{loses_in}
use Rattle.standing.proofs.unmark_among.Goals as goal

pub returns : goal.returns
returns c =
    let a = c.args in
    (simp (c.over.ensures.width, c.over.ensures.rows) at c.unmark.ensures) ∙ loses_in a.w a.v a.n a.sets.now c.over.result.words.now c.over.ensures.closed a.i c.requires.5 a.marks.now
