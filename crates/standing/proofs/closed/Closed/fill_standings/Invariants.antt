-- `standing::closed::Closed::fill_standings` meets its contract. Assumes nothing.
use mathlib.Core.Path.{◌≡◌}
use Rattle.standing.specs.Standing.{filled}
use Rattle.standing.specs.Closed.{standing_of}
use Rattle.standing.proofs.closed.Closed.fill_standings.Given as goal

abbrev pub invariant-loop-i : goal.invariant-loop-i
invariant-loop-i l = l.all ≡ filled l.initial.all l.i (standing_of l.self.width l.self.words.now l.states l.self.rows)
