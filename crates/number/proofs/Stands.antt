-- A stretch of a list: where it stands, how it is joined and split, and when it is the whole list.
-- Assumes nothing.
use Prim.Native.Nat.{ℕ, suc, ◌+◌, ◌<◌, zero-le, suc-le-suc}
use native.Mathlib.Omega.{arith}
use native.Mathlib.Numerals.{add-one}
use mathlib.Core.Path.{◌≡◌, refl, ap, ◌∙◌}
use mathlib.Core.List.{List, [], ◌∷◌, ◌++◌}
use lib.ListN.{length, get_or, drop, drop_of_length-le}
use lib.Seq.{drop-cons}

-- the bytes bs stand in s from a up to z
abbrev pub Standing : List ℕ → ℕ → List ℕ → ℕ → Type 0
Standing s a [] z = a ≡ z
Standing s a (b ∷ bs) z = (a < length s) × (get_or s a 0 ≡ b) × Standing s (a + 1) bs z

module _ (s : List ℕ) where
  joined : (a m z : ℕ) (xs ys : List ℕ) → Standing s a xs m → Standing s m ys z → Standing s a (xs ++ ys) z
  joined a m z [] ys h k = rw h k
  joined a m z (x ∷ xs) ys h k = (h.0, h.1, joined (a + 1) m z xs ys h.2 k)

  -- where a front stands, its end is known
  standing-length : (a z : ℕ) (bs : List ℕ) → Standing s a bs z → z ≡ a + length bs
  standing-length a z [] h = omega arith
  standing-length a z (b ∷ bs) h = let e = standing-length (a + 1) z bs h.2 in omega arith

  parted : (a z : ℕ) (xs ys : List ℕ) → Standing s a (xs ++ ys) z → (m : ℕ) × Standing s a xs m × Standing s m ys z
  parted a z [] ys h = (a, refl, h)
  parted a z (x ∷ xs) ys h = let r = parted (a + 1) z xs ys h.2 in (r.0, (h.0, h.1, r.1), r.2)

  -- what stands from a to the end is all that is there
  remaining : (a z : ℕ) (bs : List ℕ) → Standing s a bs z → z ≡ length s → drop a s ≡ bs
  remaining a z [] h e = drop_of_length-le s {i = a} (omega arith)
  remaining a z (b ∷ bs) h e = drop-cons s a 0 h.0 ∙ (rw (← add-one a, h.1, remaining (a + 1) z bs h.2 e))

shift : (x : ℕ) (s : List ℕ) (a z : ℕ) (bs : List ℕ) → Standing s a bs z → Standing (x ∷ s) (suc a) bs (suc z)
shift x s a z [] h = ap suc h
shift x s a z (b ∷ bs) h =
    let e : suc a + 1 ≡ suc (a + 1) = omega arith in
    (suc-le-suc h.0, h.1, rw e (shift x s (a + 1) z bs h.2))

-- a list stands at the front of one that it begins
front : (bs r : List ℕ) → Standing (bs ++ r) 0 bs (0 + length bs)
front [] r = refl
front (b ∷ bs) r =
    let e : 0 + length (b ∷ bs) ≡ suc (0 + length bs) = omega arith in
    rw e (suc-le-suc zero-le, refl, shift b (bs ++ r) 0 (0 + length bs) bs (front bs r))

-- a list stands in itself
standing-whole : (s : List ℕ) → Standing s 0 s (length s)
standing-whole [] = refl
standing-whole (x ∷ s) = (suc-le-suc zero-le, refl, shift x s 0 (length s) s (standing-whole s))

-- the same as a record, from whose type antt reads the list and the offsets
pub record Stands (s : List ℕ) (a : ℕ) (bs : List ℕ) (z : ℕ) : Type 0 where
  pub here : Standing s a bs z

abbrev pub nothing : {s : List ℕ} {a : ℕ} → Stands s a [] a
nothing = record { here = refl }

pub byte : {s : List ℕ} {a z b : ℕ} {bs : List ℕ} → a < length s → get_or s a 0 ≡ b → Stands s (a + 1) bs z → Stands s a (b ∷ bs) z
byte l e h = record { here = (l, e, h.here) }

pub join : {s : List ℕ} {a m z : ℕ} {xs ys : List ℕ} → Stands s a xs m → Stands s m ys z → Stands s a (xs ++ ys) z
join {s} {a} {m} {z} {xs} {ys} h k = record { here = joined s a m z xs ys h.here k.here }

pub stands_length : {s : List ℕ} {a z : ℕ} {bs : List ℕ} → Stands s a bs z → z ≡ a + length bs
stands_length {s} {a} {z} {bs} h = standing-length s a z bs h.here

pub split : {s : List ℕ} {a z : ℕ} (xs ys : List ℕ) → Stands s a (xs ++ ys) z → (m : ℕ) × Stands s a xs m × Stands s m ys z
split {s} {a} {z} xs ys h =
    let r = parted s a z xs ys h.here in
    (r.0, record { here = r.1 }, record { here = r.2 })

pub all_of : {s bs : List ℕ} → Stands s 0 bs (length s) → s ≡ bs
all_of {s} {bs} h = remaining s 0 (length s) bs h.here refl

pub whole : (s : List ℕ) → Stands s 0 s (length s)
whole s = record { here = standing-whole s }

pub moved : {s : List ℕ} {a a' z : ℕ} {bs : List ℕ} → a ≡ a' → Stands s a bs z → Stands s a' bs z
moved e h = rw (← e) h

-- bytes stand where they are between others
pub within : (p bs r : List ℕ) → Stands (p ++ (bs ++ r)) (length p) bs (length p + length bs)
within [] bs r = record { here = front bs r }
within (x ∷ p) bs r =
    let e : length (x ∷ p) + length bs ≡ suc (length p + length bs) = omega arith in
    rw e (record { here = shift x (p ++ (bs ++ r)) (length p) (length p + length bs) bs (within p bs r).here })
