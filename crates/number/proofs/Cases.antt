-- The cases of `width`, of `number_at` and of `whole`, each from the facts that lead to it.
-- Assumes nothing.
use Prim.Native.Nat.{ℕ, ◌+◌, ◌≤◌, ◌<◌}
use mathlib.Core.Path.{◌≡◌}
use mathlib.Core.List.{List}
use lib.ListN.{length, get_or}
use native.Mathlib.Omega.{arith}
use borrow.Author.Tests.{le-leb, lt-leb, lt-ltb, le-ltb}
use Rattle.std.specs.Prelude.{Err}
use Rattle.number.specs.Number.{found, number_at, whole, value2, value4, width}
use Rattle.number.specs.declared.NumberError.TheVariants.{Cut, BadByte, TooLong}

module _ (b : ℕ) where
  pub width-1 : b < 0x80 → width b ≡ 1
  unfolding width
  width-1 h = simp (lt-ltb _ _ h)

  pub width-2 : 0x80 ≤ b → b < 0xC0 → width b ≡ 2
  unfolding width
  width-2 a h = simp (le-ltb _ _ a, lt-ltb _ _ h)

  pub width-4 : 0xC0 ≤ b → b < 0xE0 → width b ≡ 4
  unfolding width
  width-4 a h =
      let a' : 0x80 ≤ b = omega arith in
      simp (le-ltb _ _ a', le-ltb _ _ a, lt-ltb _ _ h)

  pub width-bad : 0xE0 ≤ b → width b ≡ 1
  unfolding width
  width-bad a =
      let a' : 0x80 ≤ b = omega arith in
      let a'' : 0xC0 ≤ b = omega arith in
      simp (le-ltb _ _ a', le-ltb _ _ a'', le-ltb _ _ a)

module _ (s : List ℕ) (at : ℕ) where
  pub at_end : length s ≤ at → number_at s at ≡ Err Cut
  unfolding number_at
  at_end h = simp (le-leb _ _ h)

  pub one_byte : at < length s → get_or s at 0 < 0x80 → number_at s at ≡ found (get_or s at 0) (at + 1)
  unfolding number_at
  one_byte h b = simp (lt-leb _ _ h, lt-ltb _ _ b)

  pub two_byte : at < length s → 0x80 ≤ get_or s at 0 → get_or s at 0 < 0xC0 → number_at s at ≡ whole s at 2 0x80 (value2 s at)
  unfolding number_at
  two_byte h a b = simp (lt-leb _ _ h, le-ltb _ _ a, lt-ltb _ _ b)

  pub four_byte : at < length s → 0xC0 ≤ get_or s at 0 → get_or s at 0 < 0xE0 → number_at s at ≡ whole s at 4 0x4000 (value4 s at)
  unfolding number_at
  four_byte h a b =
      let a' : 0x80 ≤ get_or s at 0 = omega arith in
      simp (lt-leb _ _ h, le-ltb _ _ a', le-ltb _ _ a, lt-ltb _ _ b)

  pub bad-byte : at < length s → 0xE0 ≤ get_or s at 0 → number_at s at ≡ Err BadByte
  unfolding number_at
  bad-byte h a =
      let a' : 0x80 ≤ get_or s at 0 = omega arith in
      let a'' : 0xC0 ≤ get_or s at 0 = omega arith in
      simp (lt-leb _ _ h, le-ltb _ _ a', le-ltb _ _ a'', le-ltb _ _ a)

  module _ (k least v : ℕ) where
    pub cut : length s < at + k → whole s at k least v ≡ Err Cut
    unfolding whole
    cut h = simp (lt-leb _ _ h)

    pub too_long : at + k ≤ length s → v < least → whole s at k least v ≡ Err TooLong
    unfolding whole
    too_long h l = simp (le-leb _ _ h, lt-leb _ _ l)

    pub fit : at + k ≤ length s → least ≤ v → whole s at k least v ≡ found v (at + k)
    unfolding whole
    fit h l = simp (le-leb _ _ h, le-leb _ _ l)
