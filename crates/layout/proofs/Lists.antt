-- Laws of `list_from`: one item at a time, and how long it is.
-- Assumes nothing.
use Prim.Native.Nat.{ℕ, zero, suc, ◌-◌, ◌<◌, ◌≤◌}
use mathlib.Core.Path.{◌≡◌, refl, sym, ap, ◌∙◌, subst}
use mathlib.Core.List.{List, [], ◌∷◌}
use native.Mathlib.Omega.{arith}
use lib.ListN.{length}
use Rattle.number.specs.Checked.{Checked, on_checked}
use Rattle.std.specs.Prelude.{Ok, Err}
use Rattle.answer.specs.declared.refusal.Refusal.{Refusal}
use Rattle.number.specs.Number.{found}
use Rattle.layout.specs.Layout.{list_from}

module _ {A : Type 0} (item : ℕ → Checked) (value : ℕ → ℕ → A) (at : ℕ) where
  abbrev begun : ℕ → Checked → List A
  begun k c = on_checked c (λ v next. value v next ∷ list_from item value k next) (λ code. [])

  pub list_none : (left : ℕ) → left ≤ 0 → list_from item value left at ≡ []
  unfolding list_from
  list_none zero h = refl
  list_none (suc k) h = absurd (omega arith)

  module _ {r : Checked} (er : r ≡ item at) where
    pub list_cut : (left : ℕ) → 0 < left → {refusal : Refusal} → r ≡ Err refusal → list_from item value left at ≡ []
    unfolding list_from
    list_cut zero h e = absurd (omega arith)
    list_cut (suc k) h e = ap (begun k) (sym er ∙ e)

    pub list_next : (left : ℕ) → 0 < left → {v next : ℕ} → r ≡ found v next → list_from item value left at ≡ value v next ∷ list_from item value (left - 1) next
    unfolding list_from
    list_next zero h e = absurd (omega arith)
    list_next (suc k) h {v} {next} e =
        let z : k ≡ suc k - 1 = omega arith in
        subst (λ j. list_from item value (suc k) at ≡ value v next ∷ list_from item value j next) z
        (ap (begun k) (sym er ∙ e))

pub list_length : {A : Type 0} (item : ℕ → Checked) (value : ℕ → ℕ → A) (k at : ℕ) → length (list_from item value k at) ≤ k
unfolding list_from
list_length item value zero at = omega arith
list_length {A} item value (suc k) at = picked (item at) (λ next. list_length item value k next)
  where
    picked : (c : Checked) → ((next : ℕ) → length (list_from item value k next) ≤ k)
        → length (on_checked c (λ v next. value v next ∷ list_from item value k next) (λ refusal. [])) ≤ suc k
    picked (Ok n) h = let z = h n.next in omega arith
    picked (Err refusal) h = omega arith
