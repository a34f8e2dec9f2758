-- A number goes by its own bytes: where another list agrees up to its end, the same stands there.
-- Assumes nothing.
use Prim.Native.Nat.{ℕ, ◌+◌, ◌≤◌, ◌<◌}
use mathlib.Core.Path.{◌≡◌, sym, ap, ◌∙◌}
use mathlib.Core.Logic.{◌⊎◌, inl, inr, ⊎_elim}
use mathlib.Core.List.{List}
use lib.ListN.{length, get_or, take, length-take}
use lib.Seq.{length-take-le, get_or-take}
use native.Mathlib.Omega.{arith}
use borrow.Author.Tests.{le-leb}
use Rattle.std.specs.Prelude.{Err}
use Rattle.number.specs.Number.{found, number_at, whole, value2, value4, width}
use Rattle.number.specs.Checked.{checked, checked_at}
use Rattle.number.specs.declared.NumberError.TheVariants.{Cut}
use Rattle.answer.specs.declared.refusal.Refusal.TheVariants.{BytesEnd}
use Rattle.number.proofs.Cases.{width-1, width-2, width-4, width-bad, at_end, one_byte, two_byte, four_byte, bad-byte, cut}
use Rattle.number.proofs.Laws.{split, next_width}
use Rattle.number.proofs.Checks.{checked-good}

-- t has the bytes of s before z
pub record Agree (s t : List ℕ) (z : ℕ) : Type 0 where
  pub long : z ≤ length t
  pub same : (i : ℕ) → i < z → get_or t i 0 ≡ get_or s i 0

pub narrow : {s t : List ℕ} {y z : ℕ} → y ≤ z → Agree s t z → Agree s t y
narrow l g = record { long = omega (arith, g.long); same = λ i h. g.same i (omega arith) }

pub agree_take : (s t : List ℕ) (z : ℕ) → z ≤ length s → take z t ≡ take z s → Agree s t z
agree_take s t z l e = record {
  long = omega (arith, length-take z t, length-take-le z s l, ap length e);
  same = λ i h. sym (get_or-take z t i 0 h) ∙ ap (λ x. get_or x i 0) e ∙ get_or-take z s i 0 h;
}

module _ (s t : List ℕ) (at : ℕ) where
  -- all bytes of the number at `at` are there, and they say what is read
  pub record Own : Type 0 where
    pub inside : at + width (get_or s at 0) ≤ length s
    pub alike : Agree s t (at + width (get_or s at 0)) → checked_at t at ≡ checked_at s at

  -- k of them
  own : (k : ℕ) → width (get_or s at 0) ≡ k → at + k ≤ length s → (Agree s t (at + k) → number_at t at ≡ number_at s at) → Own
  unfolding checked_at
  own k e h f = record { inside = rw e h; alike = rw e (λ g. ap checked (f g)) }

  one_alike : at < length s → get_or s at 0 < 0x80 → Agree s t (at + 1) → number_at t at ≡ number_at s at
  one_alike h b g =
      let l = g.long in
      let e = g.same at (omega arith) in
      one_byte t at (omega arith) (omega arith) ∙ rw e (sym (one_byte s at h b))

  bad-alike : at < length s → 0xE0 ≤ get_or s at 0 → Agree s t (at + 1) → number_at t at ≡ number_at s at
  bad-alike h a g =
      let l = g.long in
      let e = g.same at (omega arith) in
      bad-byte t at (omega arith) (omega arith) ∙ sym (bad-byte s at h a)

  whole-alike : (k least v v' : ℕ) → at + k ≤ length s → at + k ≤ length t → v' ≡ v → whole t at k least v' ≡ whole s at k least v
  unfolding whole
  whole-alike k least v v' h l e = rw (e, le-leb _ _ h, le-leb _ _ l)

  two_alike : at + 2 ≤ length s → 0x80 ≤ get_or s at 0 → get_or s at 0 < 0xC0 → Agree s t (at + 2) → number_at t at ≡ number_at s at
  unfolding value2
  two_alike h a b g =
      let l = g.long in
      let e₀ = g.same at (omega arith) in
      let e₁ = g.same (at + 1) (omega arith) in
      two_byte t at (omega arith) (omega arith) (omega arith)
      ∙ whole-alike 2 0x80 (value2 s at) (value2 t at) h l (rw (e₀, e₁))
      ∙ sym (two_byte s at (omega arith) a b)

  four_alike : at + 4 ≤ length s → 0xC0 ≤ get_or s at 0 → get_or s at 0 < 0xE0 → Agree s t (at + 4) → number_at t at ≡ number_at s at
  unfolding value4
  four_alike h a b g =
      let l = g.long in
      let e₀ = g.same at (omega arith) in
      let e₁ = g.same (at + 1) (omega arith) in
      let e₂ = g.same (at + 2) (omega arith) in
      let e₃ = g.same (at + 3) (omega arith) in
      four_byte t at (omega arith) (omega arith) (omega arith)
      ∙ whole-alike 4 0x4000 (value4 s at) (value4 t at) h l (rw (e₀, e₁, e₂, e₃))
      ∙ sym (four_byte s at (omega arith) a b)

  short : number_at s at ≡ Err Cut → checked_at s at ≡ Err BytesEnd
  unfolding checked_at checked
  short e = rw e

  -- bytes that end too early are 2; else what is read is the number's own
  pub checked-own : (checked_at s at ≡ Err BytesEnd) ⊎ Own
  checked-own = ⊎_elim there (λ h. inl (short (at_end s at h))) (split at (length s))
    where
      -- a form of k bytes
      long : (k least v : ℕ) → number_at s at ≡ whole s at k least v → (at + k ≤ length s → Own) → (checked_at s at ≡ Err BytesEnd) ⊎ Own
      long k least v e f = ⊎_elim (λ c. inl (short (e ∙ cut s at k least v c))) (λ l. inr (f l)) (split (length s) (at + k))

      there : at < length s → (checked_at s at ≡ Err BytesEnd) ⊎ Own
      there h =
          ⊎_elim (λ b. inr (own 1 (width-1 _ b) (omega arith) (one_alike h b)))
          (λ a. ⊎_elim (λ b. long 2 0x80 _ (two_byte s at h a b) (λ l. own 2 (width-2 _ a b) l (two_alike l a b)))
          (λ a. ⊎_elim (λ b. long 4 0x4000 _ (four_byte s at h a b) (λ l. own 4 (width-4 _ a b) l (four_alike l a b)))
          (λ a. inr (own 1 (width-bad _ a) (omega arith) (bad-alike h a))) (split (get_or s at 0) 0xE0))
          (split (get_or s at 0) 0xC0)) (split (get_or s at 0) 0x80)

-- a number that passed ends where its first byte says
pub checked-width : (s : List ℕ) (at v next : ℕ) → checked_at s at ≡ found v next → next ≡ at + width (get_or s at 0)
unfolding checked_at
checked-width s at v next e = next_width s at v next (checked-good (number_at s at) v next e)
