-- The laws of compressed numbers that the grammar's proofs cite.
--     encoded, reads_back   an encoding that stands anywhere in a list is read as its number
--     decoded               what is read as a number is that number's encoding, and nothing else
--     onward                the next offset is past the number and within the list, for a list of any numbers
--     next_width            the next offset is the number's width past it, for a list of any numbers
--     encode-bytes, bytes-append   an encoding is bytes, and so are bytes after bytes
-- `Bytes s` says that s is a list of bytes, as every slice of bytes is (`slice_bytes`, number/proofs/Slices.antt).
-- Assumes nothing.
use Prim.Native.Nat.{ℕ, zero, suc, ◌+◌, ◌/◌, ◌%◌, ◌≤◌, ◌<◌}
use mathlib.Core.Path.{◌≡◌, refl, ap, ap₂, subst, ◌∙◌}
use mathlib.Core.Bool.{Bool, true, false}
use mathlib.Core.Logic.{◌⊎◌, inl, inr, ⊎_elim}
use mathlib.Core.List.{List, [], ◌∷◌, ◌++◌}
use lib.ListN.{length, get_or}
use lib.Dec.{ltb}
use native.Mathlib.Omega.{arith}
use borrow.Author.Tests.{ltb-true, ltb-false}
use Rattle.std.specs.Prelude.{Err}
use Rattle.number.specs.Number.{Bytes, limit, number, found, number_at, encode, whole, value2, value4, width}
use Rattle.number.specs.declared.NumberError.TheVariants.{Cut, BadByte, TooLong}
use Rattle.number.proofs.Cases.{width-1, width-2, width-4, at_end, one_byte, two_byte, four_byte, bad-byte, cut, too_long, fit}
use Rattle.number.proofs.Encodes.{encode-1, encode-2, encode-4, encode-none}
use Rattle.number.proofs.Stands.{Standing, Stands, within}

pub split : (a b : ℕ) → (a < b) ⊎ (b ≤ a)
split a b = go (ltb a b) refl
  where
    go : (t : Bool) → ltb a b ≡ t → (a < b) ⊎ (b ≤ a)
    go true e = inl (ltb-true a b e)
    go false e = inr (ltb-false a b e)

-- a number's three forms, and none
by_size : (P : Type 0) (v : ℕ) → (v < 0x80 → P) → (0x80 ≤ v → v < 0x4000 → P) → (0x4000 ≤ v → v < limit → P) → (limit ≤ v → P) → P
by_size P v one two four none =
    ⊎_elim one
    (λ a. ⊎_elim (two a) (λ b. ⊎_elim (four b) none (split v limit)) (split v 0x4000))
    (split v 0x80)

-- ---- an encoding is read back

module _ (s : List ℕ) (at v z : ℕ) where
  one-back : v < 0x80 → Standing s at (v ∷ []) z → number_at s at ≡ found v z
  one-back l h = one_byte s at h.0 (omega arith) ∙ ap₂ found h.1 h.2

  two_back : 0x80 ≤ v → v < 0x4000 → Standing s at ((0x80 + v / 0x100) ∷ v % 0x100 ∷ []) z → number_at s at ≡ found v z
  unfolding value2
  two_back l u h =
      let e : value2 s at ≡ v = omega arith in
      two_byte s at h.0 (omega arith) (omega arith)
      ∙ fit s at 2 0x80 (value2 s at) (omega arith) (omega arith)
      ∙ ap₂ found e (omega arith)

  four_back : 0x4000 ≤ v → v < limit
      → Standing s at ((0xC0 + v / 0x1000000) ∷ v / 0x10000 % 0x100 ∷ v / 0x100 % 0x100 ∷ v % 0x100 ∷ []) z → number_at s at ≡ found v z
  unfolding value4
  four_back l u h =
      let e₂ : at + 1 + 1 ≡ at + 2 = omega arith in
      let e₃ : at + 2 + 1 ≡ at + 3 = omega arith in
      let h₂ : Standing s (at + 2) ((v / 0x100 % 0x100) ∷ (v % 0x100) ∷ []) z = rw e₂ at h.2.2 in
      let h₃ : Standing s (at + 3) ((v % 0x100) ∷ []) z = rw e₃ at h₂.2 in
      let d₂ : v / 0x10000 ≡ v / 0x100 / 0x100 = omega arith in
      let d₃ : v / 0x1000000 ≡ v / 0x10000 / 0x100 = omega arith in
      let top : get_or s at 0 % 0x20 ≡ v / 0x1000000 = omega arith in
      let e : value4 s at ≡ v = omega arith in
      four_byte s at h.0 (omega arith) (omega arith)
      ∙ fit s at 4 0x4000 (value4 s at) (omega arith) (omega arith)
      ∙ ap₂ found e (omega arith)

  pub encoded : v < limit → Stands s at (encode v) z → number_at s at ≡ found v z
  encoded k h =
      by_size _ v
      (λ u. one-back u (rw (encode-1 v u) at h.here))
      (λ l u. two_back l u (rw (encode-2 v l u) at h.here))
      (λ l u. four_back l u (rw (encode-4 v l u) at h.here))
      (λ l. absurd (omega arith))

-- between any bytes p and r
pub reads_back : (p r : List ℕ) (v : ℕ) → v < limit → number_at (p ++ (encode v ++ r)) (length p) ≡ found v (length p + length (encode v))
reads_back p r v k = encoded _ _ v _ k (within p (encode v) r)

-- ---- what is read as a number is its encoding

pub record Decoded (s : List ℕ) (at v next : ℕ) : Type 0 where
  pub small : v < limit
  pub stands : Stands s at (encode v) next

module _ (s : List ℕ) (at : ℕ) (bytes : Bytes s) where
  is_1 : at < length s → get_or s at 0 < 0x80 → Decoded s at (get_or s at 0) (at + 1)
  is_1 h l = record { small = omega arith; stands = record { here = rw (encode-1 (get_or s at 0) l) (h, refl, refl) } }

  is_2 : at + 2 ≤ length s → 0x80 ≤ get_or s at 0 → get_or s at 0 < 0xC0 → 0x80 ≤ value2 s at → Decoded s at (value2 s at) (at + 2)
  unfolding value2
  is_2 h l u m =
      let b₁ = bytes (at + 1) in
      record {
        small = omega arith;
        stands =
            record { here = rw (encode-2 (value2 s at) m (omega arith)) (omega arith, omega arith, (omega arith, omega arith, omega arith)) };
      }

  is_4 : at + 4 ≤ length s → 0xC0 ≤ get_or s at 0 → get_or s at 0 < 0xE0 → 0x4000 ≤ value4 s at → Decoded s at (value4 s at) (at + 4)
  unfolding value4
  is_4 h l u m =
      let b₁ = bytes (at + 1) in
      let b₂ = bytes (at + 2) in
      let b₃ = bytes (at + 3) in
      let e₂ : at + 1 + 1 ≡ at + 2 = omega arith in
      let e₃ : at + 2 + 1 ≡ at + 3 = omega arith in
      let small : value4 s at < limit = omega arith in
      record {
        small = small;
        stands =
            record {
              here =
                  rw (encode-4 (value4 s at) m small, e₂, e₃)
                  (omega arith, omega arith, (omega arith, omega arith, (omega arith, omega arith, (omega arith, omega arith, omega arith))));
            };
      }

-- what holds of each form that gives a number holds of what is read
module _ (s : List ℕ) (at v next : ℕ) (e : number_at s at ≡ found v next) (P : ℕ → ℕ → Type 0) where
  -- the case that gives a number is this one
  this : (v' next' : ℕ) → number_at s at ≡ found v' next' → P v' next' → P v next
  this v' next' f d =
      let same : number v' next' ≡ number v next = cc in
      let ev : v' ≡ v = ap (λ n. n.value) same in
      let en : next' ≡ next = ap (λ n. n.next) same in
      subst (λ (n : ℕ). P v n) en (subst (λ (x : ℕ). P x next') ev d)

  not_cut : number_at s at ≡ Err Cut → P v next
  not_cut f = absurd cc

  not_bad : number_at s at ≡ Err BadByte → P v next
  not_bad f = absurd cc

  not_long : number_at s at ≡ Err TooLong → P v next
  not_long f = absurd cc

  -- a form of k bytes
  long_form : (k least v' : ℕ) → number_at s at ≡ whole s at k least v'
      → (at + k ≤ length s → least ≤ v' → P v' (at + k)) → P v next
  long_form k least v' f d =
      ⊎_elim (λ c. not_cut (f ∙ cut s at k least v' c))
      (λ h. ⊎_elim (λ c. not_long (f ∙ too_long s at k least v' h c)) (λ l. this v' (at + k) (f ∙ fit s at k least v' h l) (d h l)) (split v' least))
      (split (length s) (at + k))

  by_form :
      (at < length s → get_or s at 0 < 0x80 → P (get_or s at 0) (at + 1))
      → (at + 2 ≤ length s → 0x80 ≤ get_or s at 0 → get_or s at 0 < 0xC0 → 0x80 ≤ value2 s at → P (value2 s at) (at + 2))
      → (at + 4 ≤ length s → 0xC0 ≤ get_or s at 0 → get_or s at 0 < 0xE0 → 0x4000 ≤ value4 s at → P (value4 s at) (at + 4))
      → P v next
  by_form one two four = ⊎_elim inside (λ h. not_cut (at_end s at h)) (split at (length s))
    where
      inside : at < length s → P v next
      inside h =
          ⊎_elim (λ b. this _ _ (one_byte s at h b) (one h b))
          (λ a. ⊎_elim (λ b. long_form 2 0x80 _ (two_byte s at h a b) (λ i l. two i a b l))
          (λ a. ⊎_elim (λ b. long_form 4 0x4000 _ (four_byte s at h a b) (λ i l. four i a b l))
          (λ a. not_bad (bad-byte s at h a)) (split (get_or s at 0) 0xE0))
          (split (get_or s at 0) 0xC0)) (split (get_or s at 0) 0x80)

pub onward : (s : List ℕ) (at v next : ℕ) → number_at s at ≡ found v next → (at < next) × (next ≤ length s)
onward s at v next e =
    by_form s at v next e (λ x n. (at < n) × (n ≤ length s)) (λ h b. omega arith) (λ h a b l. omega arith) (λ h a b l. omega arith)

pub next_width : (s : List ℕ) (at v next : ℕ) → number_at s at ≡ found v next → next ≡ at + width (get_or s at 0)
next_width s at v next e =
    by_form s at v next e (λ x n. n ≡ at + width (get_or s at 0)) (λ h b. rw (width-1 _ b)) (λ h a b l. rw (width-2 _ a b)) (λ h a b l. rw (width-4 _ a b))

pub decoded : (s : List ℕ) (at v next : ℕ) → Bytes s → number_at s at ≡ found v next → Decoded s at v next
decoded s at v next bytes e = by_form s at v next e (Decoded s at) (is_1 s at bytes) (is_2 s at bytes) (is_4 s at bytes)

-- ---- lists of bytes

-- element by element
abbrev AllBytes : List ℕ → Type 0
AllBytes [] = Unit {0}
AllBytes (b ∷ bs) = (b < 256) × AllBytes bs

bytes_of : (bs : List ℕ) → AllBytes bs → Bytes bs
bytes_of [] h i = omega arith
bytes_of (b ∷ bs) h zero = h.0
bytes_of (b ∷ bs) h (suc i) = bytes_of bs h.1 i

pub bytes-append : (xs ys : List ℕ) → Bytes xs → Bytes ys → Bytes (xs ++ ys)
bytes-append [] ys h k i = k i
bytes-append (x ∷ xs) ys h k zero = h 0
bytes-append (x ∷ xs) ys h k (suc i) = bytes-append xs ys (λ j. h (suc j)) k i

pub encode-bytes : (v : ℕ) → Bytes (encode v)
encode-bytes v =
    bytes_of (encode v)
    (by_size (AllBytes (encode v)) v
    (λ u. rw (encode-1 v u) (omega arith, tt))
    (λ l u. rw (encode-2 v l u) (omega arith, (omega arith, tt)))
    (λ l u. rw (encode-4 v l u) (omega arith, (omega arith, (omega arith, (omega arith, tt)))))
    (λ l. rw (encode-none v l) tt))

pub no_bytes : Bytes []
no_bytes i = omega arith

-- two numbers, and those before something
pub bytes-two : (x y : ℕ) → Bytes (encode x ++ encode y)
bytes-two x y = bytes-append (encode x) (encode y) (encode-bytes x) (encode-bytes y)

pub bytes-front : (x : ℕ) (bs : List ℕ) → Bytes bs → Bytes (encode x ++ bs)
bytes-front x bs h = bytes-append (encode x) bs (encode-bytes x) h
