-- The steps of the closure: one more word or row copied, one more word joined, one more row relaxed, one more row closed over.
-- Assumes nothing.
use Prim.Native.Nat.{ℕ, zero, suc, ◌-◌, ◌+◌, ◌*◌, ◌/◌, ◌%◌, ◌<◌, ◌≤◌}
use mathlib.Core.Path.{◌≡◌, refl, sym, ap, ap₂, ◌∙◌, subst}
use mathlib.Core.List.{List}
use mathlib.Core.Bool.{Bool, true, false, ◌||◌, ◌&&◌, or-false}
use mathlib.Core.Logic.{inl, inr, ⊎_elim, by_cases}
use native.Mathlib.Omega.{arith}
use native.Mathlib.Decide.{ℕ_discrete, dec_lt}
use native.Mathlib.Nat.{le_refl}
use lib.ListN.{length, get_or, set, length-set}
use lib.Seq.{paste}
use borrow.Rule.Slice.PartMut.{put_mid}
use Rattle.std.specs.List.{between}
use Rattle.std.proofs.lemmas.List.Edits.{paste_none, paste_more, length-between, get_or-between}
use Rattle.std.proofs.lemmas.Slice.{put_mid-paste}
use lib.Seq.{get_or-set_same, get_or-set_other}
use lib.Bits.{bit_or}
use native.Mathlib.Numerals.{add-one}
use Rattle.reach.specs.Reach.{thru}
use Rattle.reach.specs.Closure.{ClosureOf}
use Rattle.bits.specs.Bits.{word_bits, bit_at, bit}
use Rattle.reach.specs.Closing.{Written, Copied, RowsCopied, Ored, RowRelaxed, Relaxed}
use Rattle.bits.proofs.BitLaws.{Apart, word_lt, pos_apart, bit-or}
use Rattle.reach.proofs.Reaching.{thru-cong}

-- ---- words written one after the other
pub written_none : (l : List ℕ) (d : ℕ) (f : ℕ → ℕ) → Written l d f 0 l
written_none l d f = record { len = refl; done = λ y h. absurd (omega arith); rest = λ p h. refl }

pub written-more : {l₀ l : List ℕ} {d x : ℕ} (f : ℕ → ℕ) (v : ℕ) → Written l₀ d f x l → v ≡ f x → d + x < length l₀ → Written l₀ d f (x + 1) (set l (d + x) v)
written-more {l₀} {l} {d} {x} f v o e h = record {
  len = length-set l (d + x) v ∙ o.len;
  done = λ y hy. by_cases (ℕ_discrete y x)
      (λ q. subst (λ (z : ℕ). get_or (set l (d + x) v) (d + z) 0 ≡ f z) (sym q) (get_or-set_same l (d + x) v 0 (omega (arith, o.len)) ∙ e))
      (λ ne. get_or-set_other l (d + x) (d + y) v 0 (omega arith) ∙ o.done y (omega arith));
  rest = λ p hp. get_or-set_other l (d + x) p v 0 (⊎_elim (λ a. omega arith) (λ a. omega arith) hp)
      ∙ o.rest p (⊎_elim (λ a. inl a) (λ a. inr (omega arith)) hp);
}

-- a part of the list written
pub written-paste : (l zs : List ℕ) (d x : ℕ) → d + x ≤ length l → x ≤ length zs → Written l d (λ y. get_or zs y 0) x (paste l d zs x)
written-paste l zs d zero h k = subst (Written l d (λ y. get_or zs y 0) 0) (paste_none l d zs) (written_none l d (λ y. get_or zs y 0))
written-paste l zs d (suc x) h k =
    let o = written-more (λ y. get_or zs y 0) (get_or zs x 0) (written-paste l zs d x (omega arith) (omega arith)) refl (omega arith) in
    subst (λ (n : ℕ). Written l d (λ y. get_or zs y 0) n (paste l d zs n)) (add-one x)
    (subst (Written l d (λ y. get_or zs y 0) (x + 1)) (paste_more l d zs x 0 (omega arith) (omega arith)) o)

-- .. with words of another table
pub copied-put : (l t ys : List ℕ) (d s w : ℕ) → d + w ≤ length l → s + w ≤ length t → ys ≡ between s (s + w) t → Copied l t d s w (put_mid d (d + w - d) l ys)
copied-put l t ys d s w h k e =
    let n : length (between s (s + w) t) ≡ w = length-between t s (s + w) k ∙ omega arith in
    let o = written-paste l (between s (s + w) t) d w h (omega arith) in
    let p : Written l d (λ y. get_or (between s (s + w) t) y 0) w (put_mid d (d + w - d) l ys) = subst (Written l d (λ y. get_or (between s (s + w) t) y 0) w) (sym (put_mid-paste d (d + w - d) l ys _ w e (omega arith) (sym n))) o in
    record { len = p.len; done = λ y hy. p.done y hy ∙ get_or-between t s (s + w) y 0 (omega arith); rest = p.rest }

-- one more word joined; the source is not written
pub ored_more : {l₀ l : List ℕ} {d s x : ℕ} (w : ℕ) → Ored l₀ d s x l → x < w → d + w ≤ length l₀ → Apart d s w
    → Ored l₀ d s (x + 1) (set l (d + x) (bit_or (get_or l (d + x) 0) (get_or l (s + x) 0)))
ored_more {l₀} {l} {d} {s} {x} w o h in-d apart =
    let kept : get_or l (s + x) 0 ≡ get_or l₀ (s + x) 0 = ⊎_elim (λ a. o.rest (s + x) (inl (omega arith))) (λ a. o.rest (s + x) (inr (omega arith))) apart in
    written-more _ _ o (ap₂ bit_or (o.rest (d + x) (inr (omega arith))) kept) (omega arith)

-- ---- rows copied
pub rows-copied_none : (w v : ℕ) (l t : List ℕ) → RowsCopied w v l t 0 l
rows-copied_none w v l t = record { len = refl; done = λ r s h hs. absurd (omega arith) }

pub rows-copied_more : {w v i : ℕ} {l₀ t l l' : List ℕ} → RowsCopied w v l₀ t i l → Copied l t (i * w) (i * v) w l' → RowsCopied w v l₀ t (i + 1) l'
unfolding bit_at
rows-copied_more {w} {v} {i} {l₀} {t} {l} {l'} a b = record {
  len = b.len ∙ a.len;
  done = λ r s h hs. by_cases (ℕ_discrete r i)
      (λ (e : r ≡ i). subst (λ (x : ℕ). bit (get_or l' (x * w + s / word_bits) 0) (s % word_bits) ≡ bit (get_or t (x * v + s / word_bits) 0) (s % word_bits)) (sym e)
      (ap (λ (x : ℕ). bit x (s % word_bits)) (b.done (s / word_bits) (word_lt hs))))
      (λ ne. ap (λ (x : ℕ). bit x (s % word_bits)) (b.rest (r * w + s / word_bits) (pos_apart w r i (s / word_bits) ne (word_lt hs))) ∙ a.done r s (omega arith) hs);
}

-- ---- rows
module _ (w k i : ℕ) (l₀ l : List ℕ) where
  pub relaxed_or : bit_at w l₀ i k ≡ true → Ored l₀ (i * w) (k * w) w l → RowRelaxed w k i l₀ l
  unfolding bit_at
  relaxed_or hk o = record {
    len = o.len;
    here = λ s hs. rw (hk, o.done (s / word_bits) (word_lt hs)) (bit-or _ _ _);
    others = λ r s ne hs. ap (λ (x : ℕ). bit x (s % word_bits)) (o.rest (r * w + s / word_bits) (pos_apart w r i (s / word_bits) ne (word_lt hs)));
  }

  pub relaxed_not : bit_at w l₀ i k ≡ false → RowRelaxed w k i l₀ l₀
  relaxed_not hk = record { len = refl; here = λ s hs. rw hk (sym (or-false _)); others = λ r s ne hs. refl }

absorb : (a b : Bool) → a ≡ (a || (b && a))
absorb true b = refl
absorb false true = refl
absorb false false = refl

pub relaxed_self : (w k : ℕ) (l : List ℕ) → RowRelaxed w k k l l
relaxed_self w k l = record { len = refl; here = λ s hs. absorb (bit_at w l k s) (bit_at w l k k); others = λ r s ne hs. refl }

pub relaxed_none : (w n k : ℕ) (l : List ℕ) → Relaxed w n k l 0 l
relaxed_none w n k l = record { len = refl; done = λ r s h hs. absurd (omega arith); rest = λ r s h hn hs. refl }

module _ {w n k i : ℕ} {l₀ l l' : List ℕ} (a : Relaxed w n k l₀ i l) (b : RowRelaxed w k i l l') (hi : i < n) (hk : k < n) (nw : n ≤ word_bits * w) where
  -- row k is as it was
  row_k : (s : ℕ) → s < word_bits * w → bit_at w l k s ≡ bit_at w l₀ k s
  row_k s hs =
      by_cases (dec_lt k i) (λ (h : k < i). a.done k s h hs ∙ sym (absorb (bit_at w l₀ k s) (bit_at w l₀ k k))) (λ nh. a.rest k s (omega arith) hk hs)

  row_i : (s : ℕ) → s < word_bits * w → bit_at w l' i s ≡ (bit_at w l₀ i s || (bit_at w l₀ i k && bit_at w l₀ k s))
  row_i s hs =
      let e₁ : bit_at w l i s ≡ bit_at w l₀ i s = a.rest i s (le_refl i) hi hs in
      let e₂ : bit_at w l i k ≡ bit_at w l₀ i k = a.rest i k (le_refl i) hi (omega arith) in
      b.here s hs ∙ rw (e₁, e₂, row_k s hs)

  pub relaxed_more : Relaxed w n k l₀ (i + 1) l'
  relaxed_more = record {
    len = b.len ∙ a.len;
    done = λ r s h hs. by_cases (ℕ_discrete r i)
        (λ e. subst (λ (x : ℕ). bit_at w l' x s ≡ (bit_at w l₀ x s || (bit_at w l₀ x k && bit_at w l₀ k s))) (sym e) (row_i s hs))
        (λ ne. b.others r s ne hs ∙ a.done r s (omega arith) hs);
    rest = λ r s h hn hs. b.others r s (omega arith) hs ∙ a.rest r s (omega arith) hn hs;
  }

-- l holds what l₀ reaches by rows below k
abbrev pub Closed : ℕ → ℕ → List ℕ → ℕ → List ℕ → Type 0
Closed w n l₀ k l = (r s : ℕ) → r < n → s < word_bits * w → bit_at w l r s ≡ thru (bit_at w l₀) k r s

pub closed_none : (w n : ℕ) (l : List ℕ) → Closed w n l 0 l
unfolding thru
closed_none w n l r s hr hs = refl

pub closed_more : (w n k : ℕ) (l₀ l l' : List ℕ) → n ≤ word_bits * w → k < n → Closed w n l₀ k l → Relaxed w n k l n l' → Closed w n l₀ (k + 1) l'
unfolding thru
closed_more w n k l₀ l l' nw hk c x r s hr hs =
    rw add-one (x.done r s hr hs ∙ rw (c r s hr hs, c r k hr (omega arith), c k s hk hs))

-- a copy of the n rows, closed
pub closure_of : (w v n : ℕ) (sets l₀ l m : List ℕ) → n ≤ word_bits * w → RowsCopied w v l₀ sets n l → Closed w n l n m → ClosureOf w v n sets m
closure_of w v n sets l₀ l m nw h c r s hr hs =
    c r s hr (omega arith) ∙ thru-cong n (bit_at w l) (bit_at v sets) (λ i j hi hj. h.done i j hi (omega arith)) n (le_refl n) r s hr hs
