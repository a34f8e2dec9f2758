-- What the checks of a number say of it, and what they give, from facts about the numbers: one law for each way out.
-- `Bytes s` says that s is a list of bytes, as every slice of bytes is (`slice_bytes`, number/proofs/Slices.antt).
-- Assumes nothing.
use Prim.Native.Nat.{ℕ, ◌+◌, ◌≤◌, ◌<◌}
use mathlib.Core.Path.{◌≡◌, refl, sym, ◌∙◌}
use mathlib.Core.Bool.{Bool, true, false, cond, ◌&&◌}
use mathlib.Core.List.{List, [], ◌∷◌}
use lib.ListN.{length, get_or}
use lib.Dec.{ltb, leb}
use native.Mathlib.Omega.{arith}
use borrow.Author.Tests.{ltb-true, leb-true, le-leb, lt-leb, lt-ltb, le-ltb}
use Rattle.number.specs.Number.{Bytes, limit, found, number_at}
use Rattle.number.specs.Checked.{Checked, checked, checked_at, number_refusals, on_checked, count_of, count_at, count_refusals}
use Rattle.number.specs.Token.{tag_of, row_of, type_spec_tag, type_spec_token, rows_of, token_of, token_at, token_refusals}
use Rattle.number.specs.declared.Number.{Number}
use Rattle.number.specs.declared.NumberError.{NumberError}
use Rattle.answer.specs.declared.refusal.Refusal.{Refusal}
use Rattle.answer.specs.Refusal.{number_of}
use Rattle.std.specs.Prelude.{Result, Ok, Err}
use Rattle.number.specs.declared.NumberError.TheVariants.{Cut, BadByte, TooLong}
use Rattle.answer.specs.declared.refusal.Refusal.TheVariants.{CountOutOfRange, WrongTag, RowOutOfRange}
use Rattle.number.specs.declared.token.Counts.{Counts}
use Rattle.number.proofs.Cases.{one_byte}
use Rattle.number.proofs.Laws.{onward, decoded}

-- ---- what it says of a number that it passed

pub checked-good : (o : Result Number NumberError) (v next : ℕ) → checked o ≡ found v next → o ≡ found v next
unfolding checked
checked-good (Ok n) v next e = cc
checked-good (Err error) v next e = absurd cc

-- it ends past its start and within the list
pub checked-onward : (s : List ℕ) (at v next : ℕ) → checked_at s at ≡ found v next → (at < next) × (next ≤ length s)
unfolding checked_at
checked-onward s at v next e = onward s at v next (checked-good (number_at s at) v next e)

-- a number that was read is below 2^29
pub checked-small : (s : List ℕ) (at v next : ℕ) (y : Checked) → Bytes s → y ≡ checked_at s at → y ≡ found v next → v < limit
unfolding checked_at
checked-small s at v next y bytes e g = (decoded s at v next bytes (checked-good (number_at s at) v next (sym e ∙ g))).small

-- ---- what can come out of a check

-- R holds of each refusal of a list
abbrev pub Each : (ℕ → Type 0) → List ℕ → Type 0
Each R [] = Unit {0}
Each R (refusal ∷ refusals) = R refusal × Each R refusals

-- a way out of a check of the number c: the number, of which the rule holds, or a refusal, of which R holds
pub data Way (c : Checked) (Rule R : ℕ → Type 0) : Checked → Type 0 where
  passed : {v next : ℕ} → c ≡ found v next → Rule v → Way c Rule R (found v next)
  refused : (refusal : Refusal) → R (number_of refusal) → Way c Rule R (Err refusal)

abbrev pub CountRule : (low high : ℕ) → ℕ → Type 0
CountRule low high v = (low ≤ v) × (v ≤ high)

abbrev pub TokenRule : (tags : ℕ) → Counts → ℕ → Type 0
TokenRule tags counts t = (tag_of t < tags) × (1 ≤ row_of t) × (row_of t ≤ rows_of counts (tag_of t))

module _ (R : ℕ → Type 0) (s : List ℕ) (at : ℕ) where
  pub number-way : Each R number_refusals → Way (checked_at s at) (λ v. Unit {0}) R (checked_at s at)
  unfolding checked_at checked
  number-way r = go (number_at s at)
    where
      go : (o : Result Number NumberError) → Way (checked o) (λ v. Unit {0}) R (checked o)
      go (Ok n) = passed refl tt
      go (Err Cut) = refused _ r.0
      go (Err BadByte) = refused _ r.1.0
      go (Err TooLong) = refused _ r.1.0

  -- a check of a number that was read
  then_way : {Rule : ℕ → Type 0} {good : ℕ → ℕ → Checked} (c : Checked) → Way c (λ v. Unit {0}) R c
      → ((v next : ℕ) → Way (found v next) Rule R (good v next)) → Way c Rule R (on_checked c good Err)
  then_way (Ok n) w f = f n.value n.next
  then_way (Err refusal) (refused _ r) f = refused refusal r

  pub count-way : (low high : ℕ) → Each R count_refusals → Way (checked_at s at) (CountRule low high) R (count_at low high s at)
  unfolding count_at count_of
  count-way low high r = then_way (checked_at s at) (number-way r.1) (λ v next. go v next (leb low v) (leb v high) refl refl)
    where
      go : (v next : ℕ) (a b : Bool) → leb low v ≡ a → leb v high ≡ b → Way (found v next) (CountRule low high) R (cond (a && b) (found v next) (Err CountOutOfRange))
      go v next true true l u = passed refl (leb-true low v l, leb-true v high u)
      go v next true false l u = refused _ r.0
      go v next false b l u = refused _ r.0

  pub token-way : (tags : ℕ) (counts : Counts) → Each R token_refusals → Way (checked_at s at) (TokenRule tags counts) R (token_at tags counts s at)
  unfolding token_at token_of
  token-way tags counts r = then_way (checked_at s at) (number-way r.1.1) (λ t next. go t next _ _ _ refl refl refl)
    where
      go : (t next : ℕ) (a b c : Bool) → ltb (tag_of t) tags ≡ a → leb 1 (row_of t) ≡ b → leb (row_of t) (rows_of counts (tag_of t)) ≡ c
          → Way (found t next) (TokenRule tags counts) R (cond a (cond (b && c) (found t next) (Err RowOutOfRange)) (Err WrongTag))
      go t next true true true e l u = passed refl (ltb-true _ _ e, leb-true _ _ l, leb-true _ _ u)
      go t next true true false e l u = refused _ r.1.0
      go t next true false c e l u = refused _ r.1.0
      go t next false b c e l u = refused _ r.0

way_good : {c : Checked} {Rule R : ℕ → Type 0} {v next : ℕ} → Way c Rule R (found v next) → (c ≡ found v next) × Rule v
way_good (passed e h) = (e, h)

pub count-good : (low high : ℕ) (s : List ℕ) (at v next : ℕ) → count_at low high s at ≡ found v next → (checked_at s at ≡ found v next) × CountRule low high v
count-good low high s at v next e = let w = rw e at (count-way (λ r. Unit {0}) s at low high _) in way_good w

-- a count is at most what it may be
pub count_most : (low high : ℕ) (s : List ℕ) (at v next : ℕ) (y : Checked) → y ≡ count_at low high s at → y ≡ found v next → v ≤ high
count_most low high s at v next y e g = (count-good low high s at v next (sym e ∙ g)).1.1

-- a token of a TypeSpec row that passed
pub spec_row : (tags : ℕ) (counts : Counts) (t row : ℕ) → TokenRule tags counts t → t ≡ type_spec_token row → (1 ≤ row) × (row ≤ counts.specs)
unfolding rows_of
spec_row tags counts t row h e =
    let tag : tag_of t ≡ type_spec_tag = omega arith in
    let this : row_of t ≡ row = omega arith in
    let k = rw (tag, this) at h.2 in
    (omega (arith, h.1), k)

-- ---- the eliminator

-- a function of what it gives, way by way
pub checked-through : {A B : Type 0} (f : A → B) (c : Checked) {good : ℕ → ℕ → A} {bad : Refusal → A} {good' : ℕ → ℕ → B} {bad' : Refusal → B}
    → ((v next : ℕ) → good' v next ≡ f (good v next)) → ((refusal : Refusal) → bad' refusal ≡ f (bad refusal)) → on_checked c good' bad' ≡ f (on_checked c good bad)
checked-through f (Ok n) g b = g n.value n.next
checked-through f (Err refusal) g b = b refusal

-- a test that both ways pass
pub checked-test : {A : Type 0} (test : A → Bool) (c : Checked) (good : ℕ → ℕ → A) (bad : Refusal → A) → ((v next : ℕ) → test (good v next) ≡ true) → ((refusal : Refusal) → test (bad refusal) ≡ true)
    → test (on_checked c good bad) ≡ true
checked-test test (Ok n) good bad f g = f n.value n.next
checked-test test (Err refusal) good bad f g = g refusal

-- y is what a call gave, and its contract says that it is x

module _ {A : Type 0} {y x : Checked} (e : y ≡ x) (good : ℕ → ℕ → A) (bad : Refusal → A) where
  pub on_bad : {c : Refusal} → y ≡ Err c → bad c ≡ on_checked x good bad
  on_bad g = rw (sym e ∙ g)

  pub on_good : {v next : ℕ} {r : A} → y ≡ found v next → r ≡ good v next → r ≡ on_checked x good bad
  on_good g h = rw (sym e ∙ g) h

-- ---- the ways out

module _ (s : List ℕ) (at : ℕ) where
  -- what a number is checked to, by the number
  pub checks : {n o : Result Number NumberError} → o ≡ number_at s at → o ≡ n → checked n ≡ checked_at s at
  unfolding checked_at
  checks e f = rw (← e, f)

  pub check-small : (v : ℕ) → at < length s → v ≡ get_or s at 0 → v < 0x80 → found v (at + 1) ≡ checked_at s at
  unfolding checked_at checked
  check-small v h e l = rw (e, one_byte s at h (rw (sym e) l))

  module _ {o : Checked} (is : o ≡ checked_at s at) where
    module _ (low high : ℕ) where
      pub count-bad : {c : Refusal} → o ≡ Err c → Err c ≡ count_at low high s at
      unfolding count_at count_of
      count-bad e = rw (← is, e)

      module _ {v z : ℕ} (good : o ≡ found v z) where
        pub count_low : v < low → Err CountOutOfRange ≡ count_at low high s at
        unfolding count_at count_of
        count_low l = rw (← is, good, lt-leb low v l)

        pub count-high : low ≤ v → high < v → Err CountOutOfRange ≡ count_at low high s at
        unfolding count_at count_of
        count-high l u = rw (← is, good, le-leb low v l, lt-leb v high u)

        pub count-in : low ≤ v → v ≤ high → found v z ≡ count_at low high s at
        unfolding count_at count_of
        count-in l u = rw (← is, good, le-leb low v l, le-leb v high u)

    module _ (tags : ℕ) (counts : Counts) where
      pub token-bad : {c : Refusal} → o ≡ Err c → Err c ≡ token_at tags counts s at
      unfolding token_at token_of
      token-bad e = rw (← is, e)

      module _ {v z : ℕ} (good : o ≡ found v z) {tag row : ℕ} (tagged : tag ≡ tag_of v) (numbered : row ≡ row_of v) where
        pub token-tag : tags ≤ tag → Err WrongTag ≡ token_at tags counts s at
        unfolding token_at token_of
        token-tag l = rw (← is, good, ← tagged, le-ltb tag tags l)

        pub token-zero : tag < tags → row ≡ 0 → Err RowOutOfRange ≡ token_at tags counts s at
        unfolding token_at token_of
        token-zero l e = rw (← is, good, ← tagged, ← numbered, lt-ltb tag tags l, e)

        module _ {rows : ℕ} (counted : rows ≡ rows_of counts tag) where
          pub token-past : tag < tags → (row ≡ 0 → ⊥) → rows < row → Err RowOutOfRange ≡ token_at tags counts s at
          unfolding token_at token_of
          token-past l m u = rw (← is, good, ← tagged, ← numbered, lt-ltb tag tags l, le-leb 1 row (omega arith), ← counted, lt-leb row rows u)

          pub token-in : tag < tags → (row ≡ 0 → ⊥) → row ≤ rows → found v z ≡ token_at tags counts s at
          unfolding token_at token_of
          token-in l m u = rw (← is, good, ← tagged, ← numbered, lt-ltb tag tags l, le-leb 1 row (omega arith), ← counted, le-leb row rows u)
