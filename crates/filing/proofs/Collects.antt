-- The rows that a node table's modifiers name, the bits that are set for them, and what judging leaves of a row's set.
-- Assumes nothing.
use Prim.Native.Nat.{ℕ, zero, suc, ◌+◌, ◌-◌, ◌*◌, ◌/◌, ◌%◌, ◌<◌, ◌≤◌}
use mathlib.Core.Path.{◌≡◌, refl, sym, ap, ◌∙◌}
use mathlib.Core.List.{List, [], ◌∷◌, ◌++◌}
use mathlib.Core.Option.{some}
use mathlib.Core.Bool.{Bool, true, false, cond, ◌||◌, ◌&&◌, or-false, or_assoc}
use mathlib.Core.Logic.{◌⊎◌, by_cases}
use native.Mathlib.Omega.{arith}
use native.Mathlib.Numerals.{add-one}
use native.Mathlib.Decide.{dec_le}
use native.Mathlib.Nat.{le_refl}
use lib.ListN.{length, get_or, get_or-append}
use lib.Dec.{leb, eqb}
use borrow.Author.Tests.{eqb-true, eqb-false, eq-eqb, ne_eqb, leb-true, le-leb}
use Rattle.grammar.specs.Table.{is_modifier, is_modifier_of, six, flat}
use Rattle.grammar.specs.Judge.{Out, fault, done}
use Rattle.grammar.specs.declared.Node.{Node}
use Rattle.grammar.proofs.Sound.{Holds, holds}
use Rattle.grammar.proofs.Bounds.{Ends}
use Rattle.grammar.proofs.Emits.{length_flat}
use Rattle.answer.specs.Size.{max_size, words}
use Rattle.bits.specs.Bits.{bit_at, put_bit, clear_words}
use Rattle.bits.specs.Any.{any}
use Rattle.bits.proofs.BitLaws.{at_put, at_put_other, get_or-put_out, length_put, length_zeroed, get_or-zeroed_out, at_emptied, at_emptied_other, eqb_same}
use Rattle.bits.proofs.Any.{any-cong, any-shift}
use Rattle.filing.specs.Outcome.{has, names_row}
use Rattle.std.specs.Prelude.{Option, Some, None, unwrap_or}
use Rattle.filing.specs.Named.{row_named, index_of, collect_of, named_by}

cond_le : (b : Bool) (x n : ℕ) → leb x n ≡ b → cond b x 0 ≤ n
cond_le true x n e = leb-true x n e
cond_le false x n e = omega arith

cond_zero : (b : Bool) (x n : ℕ) → x ≤ n → cond b x 0 ≤ n
cond_zero true x n e = e
cond_zero false x n e = omega arith

pub row_le : (t : List ℕ) (k : ℕ) → row_named t k ≤ max_size
unfolding row_named
row_le t k =
    let a = get_or t (6 * k + 1) 0 in
    cond_zero (is_modifier (get_or t (6 * k) 0)) (cond (eqb (a % 4) 2) (cond (leb (a / 4) (max_size)) (a / 4) 0) 0) (max_size)
    (cond_zero (eqb (a % 4) 2) (cond (leb (a / 4) (max_size)) (a / 4) 0) (max_size) (cond_le (leb (a / 4) (max_size)) (a / 4) (max_size) refl))

-- an index is of the row after it
pub index-some : (row j : ℕ) → Some j ≡ index_of row → row ≡ j + 1
index-some zero j e = absurd (cc)
index-some (suc k) j e =
    let h : Some j ≡ Some (suc k - 1) = simp (ne_eqb (suc k) 0 (omega arith)) at e in
    let f : j ≡ suc k - 1 = ap (λ (o : Option ℕ). unwrap_or o 0) h in
    omega arith

pub index_none : (row : ℕ) → None ≡ index_of row → row ≡ 0
index_none zero e = refl
index_none (suc k) e =
    let h : None ≡ Some (suc k - 1) = simp (ne_eqb (suc k) 0 (omega arith)) at e in
    cc

eqb_pred : (r s : ℕ) → (r ≡ 0 → ⊥) → eqb s (r - 1) ≡ eqb r (s + 1)
eqb_pred r s ne = eqb_same s (r - 1) r (s + 1) (λ e. omega arith) (λ e. omega arith)

-- ---- the bits set for the records of t in row i
module _ (t : List ℕ) (i : ℕ) (m : List ℕ) where
  length_cond : (b : Bool) (l : List ℕ) (s : ℕ) → length (cond b l (put_bit words l i s)) ≡ length l
  length_cond true l s = refl
  length_cond false l s = length_put words l i s

  pub length_collected : (n : ℕ) → length (collect_of t n i m) ≡ length m
  unfolding collect_of
  length_collected zero = refl
  length_collected (suc n) = length_cond (eqb (row_named t n) 0) (collect_of t n i m) (row_named t n - 1) ∙ length_collected n

  pub collected_none : m ≡ collect_of t 0 i m
  unfolding collect_of
  collected_none = refl

  pub collected_kept : (k : ℕ) → row_named t k ≡ 0 → collect_of t k i m ≡ collect_of t (k + 1) i m
  unfolding collect_of
  collected_kept k e = rw add-one (rw (eq-eqb (row_named t k) 0 e))

  pub collected_put : (k : ℕ) → (row_named t k ≡ 0 → ⊥) → put_bit words (collect_of t k i m) i (row_named t k - 1) ≡ collect_of t (k + 1) i m
  unfolding collect_of
  collected_put k e = rw add-one (rw (ne_eqb (row_named t k) 0 e))

  at_next : (n s : ℕ) → i * words + words ≤ length m → (b : Bool) → eqb (row_named t n) 0 ≡ b
      → bit_at words (collect_of t n i m) i s ≡ (bit_at words m i s || any n (λ k. eqb (row_named t k) (s + 1)))
      → bit_at words (cond b (collect_of t n i m) (put_bit words (collect_of t n i m) i (row_named t n - 1))) i s
      ≡ (bit_at words m i s || (any n (λ k. eqb (row_named t k) (s + 1)) || eqb (row_named t n) (s + 1)))
  at_next n s h true e ih =
      let z : eqb (row_named t n) (s + 1) ≡ false = ne_eqb (row_named t n) (s + 1) (let y = eqb-true (row_named t n) 0 e in omega arith) in
      rw (z, or-false (any n (λ k. eqb (row_named t k) (s + 1)))) ih
  at_next n s h false e ih =
      let ne = eqb-false (row_named t n) 0 e in
      at_put words (collect_of t n i m) i (row_named t n - 1) s (omega (arith, length_collected n, row_le t n))
      ∙ ap (λ (x : Bool). bit_at words (collect_of t n i m) i s || x) (eqb_pred (row_named t n) s ne)
      ∙ ap (λ (x : Bool). x || eqb (row_named t n) (s + 1)) ih
      ∙ or_assoc (bit_at words m i s) (any n (λ k. eqb (row_named t k) (s + 1))) (eqb (row_named t n) (s + 1))

  -- bit s is set exactly when it was, or some record names row s + 1
  at_collected : (n s : ℕ) → i * words + words ≤ length m → bit_at words (collect_of t n i m) i s ≡ (bit_at words m i s || any n (λ k. eqb (row_named t k) (s + 1)))
  unfolding collect_of any
  at_collected zero s h = sym (or-false _)
  at_collected (suc n) s h = at_next n s h (eqb (row_named t n) 0) refl (at_collected n s h)

  other_next : (j n s : ℕ) → (j ≡ i → ⊥) → s < max_size → (b : Bool) → eqb (row_named t n) 0 ≡ b
      → bit_at words (cond b (collect_of t n i m) (put_bit words (collect_of t n i m) i (row_named t n - 1))) j s ≡ bit_at words (collect_of t n i m) j s
  other_next j n s ne hs true e = refl
  other_next j n s ne hs false e =
      let nz = eqb-false (row_named t n) 0 e in
      at_put_other words (collect_of t n i m) i (row_named t n - 1) j s ne (omega (arith, row_le t n)) hs

  -- the other rows keep theirs
  at_collected_other : (j n s : ℕ) → (j ≡ i → ⊥) → s < max_size → bit_at words (collect_of t n i m) j s ≡ bit_at words m j s
  unfolding collect_of
  at_collected_other j zero s ne hs = refl
  at_collected_other j (suc n) s ne hs = other_next j n s ne hs (eqb (row_named t n) 0) refl ∙ at_collected_other j n s ne hs

  out_next : (p n : ℕ) → (p < i * words) ⊎ (i * words + words ≤ p) → (b : Bool) → eqb (row_named t n) 0 ≡ b
      → get_or (cond b (collect_of t n i m) (put_bit words (collect_of t n i m) i (row_named t n - 1))) p 0 ≡ get_or (collect_of t n i m) p 0
  out_next p n h true e = refl
  out_next p n h false e =
      let nz = eqb-false (row_named t n) 0 e in
      get_or-put_out words (collect_of t n i m) i (row_named t n - 1) p (omega (arith, row_le t n)) h

  -- a word out of row i keeps its number
  get_or-collected_out : (p n : ℕ) → (p < i * words) ⊎ (i * words + words ≤ p) → get_or (collect_of t n i m) p 0 ≡ get_or m p 0
  unfolding collect_of
  get_or-collected_out p zero h = refl
  get_or-collected_out p (suc n) h = out_next p n h (eqb (row_named t n) 0) refl ∙ get_or-collected_out p n h

-- only the first n records count
pub collected_cong : (t u : List ℕ) (i : ℕ) (m : List ℕ) (n : ℕ) → ((k : ℕ) → k < n → row_named t k ≡ row_named u k)
    → collect_of t n i m ≡ collect_of u n i m
unfolding collect_of
collected_cong t u i m zero e = refl
collected_cong t u i m (suc n) e = rw (collected_cong t u i m n (λ k h. e k (omega arith)), e n (le_refl (suc n)))

-- what stands behind a table's records names nothing
pub named-front : (rs : List Node) (x : List ℕ) (k : ℕ) → k < length rs → row_named (flat rs ++ x) k ≡ row_named (flat rs) k
unfolding row_named
named-front rs x k h =
    rw (
      get_or-append (flat rs) x 0 (6 * k) (omega (arith, length_flat rs)),
      get_or-append (flat rs) x 0 (6 * k + 1) (omega (arith, length_flat rs)),
    )

-- ---- the flat table's rows are those of its records

-- a record's own test, by its numbers
token-test : (a s : ℕ) → s < max_size → eqb (cond (eqb (a % 4) 2) (cond (leb (a / 4) (max_size)) (a / 4) 0) 0) (s + 1) ≡ eqb a (4 * (s + 1) + 2)
token-test a s h = go (eqb (a % 4) 2) (leb (a / 4) (max_size)) refl refl
  where
    go : (x y : Bool) → eqb (a % 4) 2 ≡ x → leb (a / 4) (max_size) ≡ y → eqb (cond x (cond y (a / 4) 0) 0) (s + 1) ≡ eqb a (4 * (s + 1) + 2)
    go true true e f = let z = eqb-true (a % 4) 2 e in eqb_same (a / 4) (s + 1) a (4 * (s + 1) + 2) (λ q. omega arith) (λ q. omega arith)
    go true false e f =
        by_cases (dec_le (a / 4) (max_size)) (λ (l : a / 4 ≤ max_size). absurd (mathlib.Core.Bool.true≢false (sym (le-leb _ _ l) ∙ f)))
        (λ nl. ne_eqb 0 (s + 1) (omega arith) ∙ sym (ne_eqb a (4 * (s + 1) + 2) (λ q. nl (omega arith))))
    go false y e f =
        let z = eqb-false (a % 4) 2 e in
        ne_eqb 0 (s + 1) (omega arith) ∙ sym (ne_eqb a (4 * (s + 1) + 2) (λ q. z (omega arith)))

record_test : (r : Node) (x : List ℕ) (s : ℕ) → s < max_size → eqb (row_named (six r ++ x) 0) (s + 1) ≡ is_modifier_of (s + 1) r
unfolding row_named
record_test r x s h = go (is_modifier r.kind)
  where
    go : (b : Bool) → eqb (cond b (cond (eqb (r.a % 4) 2) (cond (leb (r.a / 4) (max_size)) (r.a / 4) 0) 0) 0) (s + 1) ≡ (b && eqb r.a (4 * (s + 1) + 2))
    go true = token-test r.a s h
    go false = ne_eqb 0 (s + 1) (omega arith)

named-tail : (r : Node) (x : List ℕ) (k : ℕ) → row_named (six r ++ x) (suc k) ≡ row_named x k
unfolding row_named
named-tail r x k =
    let e : 6 * suc k ≡ suc (suc (suc (suc (suc (suc (6 * k)))))) = omega arith in
    let f : 6 * suc k + 1 ≡ suc (suc (suc (suc (suc (suc (6 * k + 1)))))) = omega arith in
    rw (f, e)

-- some record of the flat table names row s + 1
any-flat : (rs : List Node) (s : ℕ) → s < max_size → any (length rs) (λ k. eqb (row_named (flat rs) k) (s + 1)) ≡ has (is_modifier_of (s + 1)) rs
unfolding flat has any
any-flat [] s h = refl
any-flat (r ∷ rs) s h =
    any-shift (length rs) (λ k. eqb (row_named (six r ++ flat rs) k) (s + 1))
    ∙ rw (
      record_test r (flat rs) s h,
      any-cong (length rs) (λ k. eqb (row_named (six r ++ flat rs) (suc k)) (s + 1)) (λ k. eqb (row_named (flat rs) k) (s + 1))
          (λ k hk. ap (λ (y : ℕ). eqb y (s + 1)) (named-tail r (flat rs) k)),
      any-flat rs s h,
    )

-- ---- what judging leaves
module _ (i : ℕ) (m : List ℕ) where
  pub length_named : (o : Out) → length (named_by o i m) ≡ length m
  unfolding named_by
  length_named (fault code place) = length_zeroed m (i * words) words
  length_named (done at n rs) = length_collected (flat rs) i (clear_words m (i * words) words) n ∙ length_zeroed m (i * words) words

  -- row i's set is what the blob names
  pub at_named : (o : Out) → Holds (Ends 0) o → (s : ℕ) → i * words + words ≤ length m → s < max_size → bit_at words (named_by o i m) i s ≡ names_row (some o) (s + 1)
  unfolding named_by
  at_named (fault code place) h s l hs = at_emptied words m i s l hs
  at_named (done a n rs) (holds h) s l hs =
      let e : n ≡ length rs = omega (arith, h) in
      at_collected (flat rs) i (clear_words m (i * words) words) n s (omega (arith, length_zeroed m (i * words) words))
      ∙ rw (at_emptied words m i s l hs, e) (any-flat rs s hs)

  -- the other rows keep theirs
  pub at_named_other : (o : Out) (j s : ℕ) → (j ≡ i → ⊥) → s < max_size → bit_at words (named_by o i m) j s ≡ bit_at words m j s
  unfolding named_by
  at_named_other (fault code place) j s ne hs = at_emptied_other words m i j s ne hs
  at_named_other (done a n rs) j s ne hs = at_collected_other (flat rs) i (clear_words m (i * words) words) j n s ne hs ∙ at_emptied_other words m i j s ne hs

  -- and no word out of row i is written
  pub get_or-named_out : (o : Out) (p : ℕ) → (p < i * words) ⊎ (i * words + words ≤ p) → get_or (named_by o i m) p 0 ≡ get_or m p 0
  unfolding named_by
  get_or-named_out (fault code place) p h = get_or-zeroed_out m (i * words) words p h
  get_or-named_out (done a n rs) p h = get_or-collected_out (flat rs) i (clear_words m (i * words) words) p n h ∙ get_or-zeroed_out m (i * words) words p h
