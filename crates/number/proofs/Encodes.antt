-- The cases of `encode`, and what a run of stores that writes an encoding leaves.
-- Assumes nothing.
use Prim.Native.Nat.{ℕ, ◌+◌, ◌/◌, ◌%◌, ◌≤◌, ◌<◌}
use mathlib.Core.Path.{◌≡◌}
use mathlib.Core.List.{List, [], ◌∷◌}
use lib.ListN.{length, set}
use lib.Seq.{sets, sets-eq}
use native.Mathlib.Numerals.{add-one, add-two, add-three}
use native.Mathlib.Omega.{arith}
use borrow.Author.Tests.{lt-ltb, le-ltb, le-leb, lt-leb}
use Rattle.number.specs.Number.{limit, encode, put_at}

pub encode-1 : (v : ℕ) → v < 0x80 → encode v ≡ v ∷ []
unfolding encode
encode-1 v h = simp (lt-ltb _ _ h)

pub encode-2 : (v : ℕ) → 0x80 ≤ v → v < 0x4000 → encode v ≡ (0x80 + v / 0x100) ∷ v % 0x100 ∷ []
unfolding encode
encode-2 v l h = simp (le-ltb _ _ l, lt-ltb _ _ h)

pub encode-4 : (v : ℕ) → 0x4000 ≤ v → v < limit
    → encode v ≡ (0xC0 + v / 0x1000000) ∷ v / 0x10000 % 0x100 ∷ v / 0x100 % 0x100 ∷ v % 0x100 ∷ []
unfolding encode
encode-4 v l h =
    let l' : 0x80 ≤ v = omega arith in
    simp (le-ltb _ _ l', le-ltb _ _ l, lt-ltb _ _ h)

pub encode-none : (v : ℕ) → limit ≤ v → encode v ≡ []
unfolding encode
encode-none v h =
    let h₁ : 0x80 ≤ v = omega arith in
    let h₂ : 0x4000 ≤ v = omega arith in
    simp (le-ltb _ _ h₁, le-ltb _ _ h₂, le-ltb _ _ h)

module _ (out : List ℕ) (at : ℕ) (bs : List ℕ) where
  pub put-fits : at + length bs ≤ length out → sets out at bs ≡ put_at out at bs
  unfolding put_at
  put-fits h = simp (le-leb _ _ h) (sets-eq bs out at h)

  pub put-short : length out < at + length bs → out ≡ put_at out at bs
  unfolding put_at
  put-short h = simp (lt-leb _ _ h)

module _ (out : List ℕ) (at v : ℕ) where
  pub put-0 : limit ≤ v → at ≤ length out → out ≡ put_at out at (encode v)
  put-0 g h = rw (encode-none v g) (put-fits out at [] (omega arith))

  pub put_1 : v < 0x80 → at + 1 ≤ length out → set out at v ≡ put_at out at (encode v)
  put_1 l h = rw (encode-1 v l) (put-fits out at (v ∷ []) h)

  pub put_2 : 0x80 ≤ v → v < 0x4000 → at + 2 ≤ length out → set (set out at (0x80 + v / 0x100)) (at + 1) (v % 0x100) ≡ put_at out at (encode v)
  put_2 l u h = rw (encode-2 v l u, add-one) (put-fits out at ((0x80 + v / 0x100) ∷ v % 0x100 ∷ []) h)

  pub put_4 : 0x4000 ≤ v → v < limit → at + 4 ≤ length out
      → set (set (set (set out at (0xC0 + v / 0x1000000)) (at + 1) (v / 0x10000 % 0x100)) (at + 2) (v / 0x100 % 0x100)) (at + 3) (v % 0x100)
      ≡ put_at out at (encode v)
  put_4 l u h =
      rw (encode-4 v l u, add-one, add-two, add-three)
      (put-fits out at ((0xC0 + v / 0x1000000) ∷ v / 0x10000 % 0x100 ∷ v / 0x100 % 0x100 ∷ v % 0x100 ∷ []) h)
