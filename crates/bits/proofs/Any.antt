-- Laws of `any`.
-- Assumes nothing.
use Prim.Native.Nat.{ℕ, zero, suc, ◌<◌}
use mathlib.Core.Path.{◌≡◌, refl, sym, subst, ap, ◌∙◌}
use mathlib.Core.List.{List, [], ◌∷◌}
use lib.ListN.{length, get_or}
use Rattle.std.specs.List.{list_any, range_with_len}
use Rattle.std.proofs.lemmas.List.FromFn.{length-range_with_len, get_or-range_with_len}
use mathlib.Core.Bool.{Bool, true, false, ◌||◌, or-false, or_assoc, false≢true}
use mathlib.Core.Logic.{⊎_elim, by_cases}
use native.Mathlib.Omega.{arith}
use native.Mathlib.Decide.{ℕ_discrete}
use native.Mathlib.Nat.{le_refl}
use Rattle.bits.specs.Any.{any}
use Rattle.bits.proofs.Bools.{or_left, or_right, or_cases}

pub any-intro : (n : ℕ) (p : ℕ → Bool) (j : ℕ) → j < n → p j ≡ true → any n p ≡ true
unfolding any
any-intro zero p j h e = absurd (omega arith)
any-intro (suc n) p j h e =
    by_cases (ℕ_discrete j n) (λ (q : j ≡ n). or_right (any n p) (subst (λ (x : ℕ). p x ≡ true) q e))
    (λ ne. or_left (p n) (any-intro n p j (omega arith) e))

pub any-elim : (n : ℕ) (p : ℕ → Bool) → any n p ≡ true → (j : ℕ) × (j < n) × (p j ≡ true)
unfolding any
any-elim zero p e = absurd (false≢true e)
any-elim (suc n) p e = ⊎_elim (λ a. let x = any-elim n p a in (x.0, omega (arith, x.1), x.2)) (λ b. (n, le_refl (suc n), b)) (or_cases (any n p) (p n) e)

pub any_none : (p : ℕ → Bool) → any 0 p ≡ false
unfolding any
any_none p = refl

pub any-cong : (n : ℕ) (p q : ℕ → Bool) → ((j : ℕ) → j < n → p j ≡ q j) → any n p ≡ any n q
unfolding any
any-cong zero p q e = refl
any-cong (suc n) p q e = rw (any-cong n p q (λ j h. e j (omega arith)), e n (le_refl (suc n)))

-- the first index apart
pub any-shift : (n : ℕ) (p : ℕ → Bool) → any (suc n) p ≡ (p 0 || any n (λ k. p (suc k)))
unfolding any
any-shift zero p = sym (or-false (p 0))
any-shift (suc n) p = rw (any-shift n p) (or_assoc (p 0) (any n (λ k. p (suc k))) (p (suc n)))

-- of a list's elements, by their indices
pub list_any-any : (p : ℕ → Bool) (xs : List ℕ) → list_any p xs ≡ any (length xs) (λ k. p (get_or xs k 0))
list_any-any p [] = sym (any_none (λ k. p (get_or [] k 0)))
list_any-any p (x ∷ xs) = ap (λ b. p x || b) (list_any-any p xs) ∙ sym (any-shift (length xs) (λ k. p (get_or (x ∷ xs) k 0)))

-- .. and of the numbers below n
pub list_any-range : (p : ℕ → Bool) (n : ℕ) → list_any p (range_with_len 0 n) ≡ any n p
list_any-range p n =
    list_any-any p (range_with_len 0 n)
    ∙ subst (λ (k : ℕ). any k (λ j. p (get_or (range_with_len 0 n) j 0)) ≡ any n (λ j. p (get_or (range_with_len 0 n) j 0))) (sym (length-range_with_len 0 n)) refl
    ∙ any-cong n _ _ (λ j h. ap p (get_or-range_with_len 0 n j 0 h ∙ omega arith))
