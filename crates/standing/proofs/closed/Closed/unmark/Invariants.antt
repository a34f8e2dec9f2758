-- `standing::closed::Closed::unmark` meets its contract. Assumes nothing.
use mathlib.Core.Path.{◌≡◌}
use Rattle.standing.specs.Standing.{cleared}
use Rattle.standing.specs.Closed.{loses_of}
use Rattle.standing.proofs.closed.Closed.unmark.Given as goal

abbrev pub invariant-loop-j : goal.invariant-loop-j
invariant-loop-j l = l.marks ≡ cleared l.initial.marks l.j (loses_of l.self.width l.self.words.now l.i)
