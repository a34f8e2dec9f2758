-- `standing::standings_among` meets its contract. Assumes nothing.
use mathlib.Core.Path.{◌∙◌}
use Rattle.standing.proofs.Standings.{standing-in, filled-cong}
use Rattle.standing.proofs.standings_among.Goals as goal

pub returns : goal.returns
returns c =
    let a = c.args in
    (simp (c.over.ensures.width, c.over.ensures.rows) at c.fill_standings.ensures)
    ∙ filled-cong _ _ _ _ (λ i hi. standing-in a.w a.v a.n a.sets.now c.over.result.words.now c.over.ensures.closed a.states.now i hi)
