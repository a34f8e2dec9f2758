-- Laws of `sections` and `items`, the ways through the two loops of `sections_of`: w is what the whole sheet gives.
-- Assumes nothing.
use Prim.Native.Nat.{ℕ, zero, suc, ◌+◌, ◌-◌, ◌<◌, ◌≤◌}
use mathlib.Core.Path.{◌≡◌, sym, ap, ◌∙◌, subst}
use mathlib.Core.List.{List}
use mathlib.Core.Bool.{cond}
use native.Mathlib.Omega.{arith}
use lib.ListN.{length, get_or, drop, drop_of_length-le}
use lib.Dec.{ltb}
use borrow.Author.Tests.{lt-ltb, le-ltb}
use Rattle.std.specs.Prelude.{Ok, Err}
use Rattle.std.proofs.lemmas.List.{at_drop_more}
use Rattle.answer.specs.declared.refusal.Refusal.{Refusal}
use Rattle.number.specs.declared.Number.{Number}
use Rattle.number.specs.Checked.{Checked, on_checked}
use Rattle.layout.specs.Layout.{Parsed, section_count, item_at, items, note_of, sections}
use Rattle.layout.specs.declared.Layout.{Layout}
use Rattle.layout.specs.declared.Section.{Section}

module _ (s : List ℕ) {w : Parsed} where
  -- the sections of a list from its n-th on
  module _ (is : List Section) (n at : ℕ) (l : Layout) (x : sections (drop n is) s at l ≡ w) where
    module _ (h : length is ≤ n) where
      ended : cond (ltb at (length s)) (Err at) (Ok l) ≡ w
      unfolding sections
      ended = subst (λ js. sections js s at l ≡ w) (drop_of_length-le is h) x

      pub all_read : length s ≤ at → Ok l ≡ w
      all_read k = rw (le-ltb at (length s) k) at ended

      pub left_over : at < length s → Err at ≡ w
      left_over k = rw (lt-ltb at (length s) k) at ended

    -- its count first
    module _ (h : n < length is) (d : Section) where
      abbrev i : Section
      i = get_or is n d

      abbrev after : Checked → Parsed
      after c = on_checked c (λ count next. items (item_at i s) count next (λ end. sections (drop (n + 1) is) s end (note_of i count next l))) (λ code. Err at)

      step : after (section_count i s at) ≡ w
      unfolding sections
      step = sym (at_drop_more (λ js. sections js s at l) is n d h) ∙ x

      pub count-bad : {refusal : Refusal} → section_count i s at ≡ Err refusal → Err at ≡ w
      count-bad e = sym (ap after e) ∙ step

      pub count-good : {count : Number} → section_count i s at ≡ Ok count → {m : Layout} → m ≡ note_of i count.value count.next l → {k : ℕ} → k ≡ count.value
          → items (item_at i s) k count.next (λ end. sections (drop (n + 1) is) s end m) ≡ w
      count-good {count} e em ek = rw (em, ek) (sym (ap after e) ∙ step)

-- so many items from an offset on
module _ (item : ℕ → Checked) (at : ℕ) (then : ℕ → Parsed) where
  abbrev behind : ℕ → Checked → Parsed
  behind k c = on_checked c (λ v next. items item k next then) (λ code. Err at)

  module _ {w : Parsed} where
    pub item_bad : (left : ℕ) → 0 < left → items item left at then ≡ w → {refusal : Refusal} → item at ≡ Err refusal → Err at ≡ w
    unfolding items
    item_bad zero h x e = absurd (omega arith)
    item_bad (suc k) h x e = sym (ap (behind k) e) ∙ x

    pub item_good : (left : ℕ) → 0 < left → items item left at then ≡ w → {n : Number} → item at ≡ Ok n → items item (left - 1) n.next then ≡ w
    unfolding items
    item_good zero h x e = absurd (omega arith)
    item_good (suc k) h x {n} e =
        let z : k ≡ suc k - 1 = omega arith in
        subst (λ j. items item j n.next then ≡ w) z (sym (ap (behind k) e) ∙ x)

    pub items-read : (left : ℕ) → left ≤ 0 → items item left at then ≡ w → then at ≡ w
    unfolding items
    items-read zero h x = x
    items-read (suc k) h x = absurd (omega arith)
