-- An accepted blob names only rows that there are. For a list of any numbers.
-- Assumes nothing.
use Prim.Native.Nat.{ℕ, ◌≤◌}
use mathlib.Core.Path.{◌≡◌}
use mathlib.Core.Bool.{true, false≢true}
use mathlib.Core.Logic.{⊎_elim}
use mathlib.Core.List.{List, [], ◌∷◌}
use mathlib.Core.Option.{some}
use Rattle.number.specs.declared.token.Counts.{Counts}
use Rattle.grammar.specs.Table.{is_modifier_of}
use Rattle.grammar.specs.Judge.{Out, fault, done}
use Rattle.grammar.specs.declared.Node.{Node}
use Rattle.grammar.proofs.Sound.{Holds, holds}
use Rattle.grammar.proofs.Modifiers.{Ranged, none, more, ranged_judge}
use Rattle.bits.proofs.Bools.{or_cases}
use Rattle.filing.specs.Outcome.{judged, has, names_row}

module _ (counts : Counts) where
  has_within : (rs : List Node) → Ranged counts rs → (r : ℕ) → has (is_modifier_of r) rs ≡ true → (1 ≤ r) × (r ≤ counts.specs)
  unfolding has
  has_within [] none r e = absurd (false≢true e)
  has_within (x ∷ rs) (more f g) r e = ⊎_elim (f r) (has_within rs g r) (or_cases (is_modifier_of r x) (has (is_modifier_of r) rs) e)

  -- of any outcome
  names_of : (o : Out) → Holds (λ at n rs. Ranged counts rs) o → (r : ℕ) → names_row (some o) r ≡ true → (1 ≤ r) × (r ≤ counts.specs)
  names_of (fault code off) h r e = absurd (false≢true e)
  names_of (done at n rs) (holds h) r e = has_within rs h r e

pub names_within : (counts : Counts) (blob : List ℕ) (r : ℕ) → names_row (some (judged counts blob)) r ≡ true → (1 ≤ r) × (r ≤ counts.specs)
names_within counts blob r e = names_of counts (judged counts blob) (ranged_judge 0 counts blob) r e
