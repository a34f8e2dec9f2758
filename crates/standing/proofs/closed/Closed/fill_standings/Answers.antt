-- `standing::closed::Closed::fill_standings` meets its contract. Assumes nothing.
use Rattle.std.proofs.Common.{ap₂, ◌∙◌}
use mathlib.Core.List.{List}
use Prim.Native.Nat.{ℕ}
use lib.ListN.{set}
use Rattle.standing.proofs.Standings.{filled_none, filled_more}
use Rattle.standing.proofs.closed.Closed.fill_standings.Goals as goal

pub loop-i-init : goal.loop-i-init
loop-i-init c = filled_none _ _

pub loop-i-preserved : goal.loop-i-preserved
loop-i-preserved c =
    ap₂ (λ (l : List ℕ) (x : ℕ). set l c.loop-i.i x) c.loop-i.invariant (c.into.ensures ∙ c.standing_of.ensures) ∙ filled_more _ _ _
