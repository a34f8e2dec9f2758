-- `standing::standing_among` meets its contract. Assumes nothing.
use mathlib.Core.Path.{◌∙◌}
use Rattle.standing.proofs.Standings.{standing-in}
use Rattle.standing.proofs.standing_among.Goals as goal

pub returns : goal.returns
returns c =
    let a = c.args in
    (simp (c.over.ensures.width, c.over.ensures.rows) at c.standing_of.ensures) ∙ standing-in a.w a.v a.n a.sets.now c.over.result.words.now c.over.ensures.closed a.states.now a.i c.requires.5
