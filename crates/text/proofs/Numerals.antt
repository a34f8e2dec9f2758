-- Laws of `numeral`: the ways out of `numeral_to`, and that a numeral says its number.
-- Assumes nothing.
use Prim.Native.Nat.pow
use Prim.Native.Nat.{ℕ, zero, suc, ◌+◌, ◌*◌, ◌-◌, ◌/◌, ◌%◌, ◌^◌, ◌<◌, ◌≤◌}
use mathlib.Core.Path.{◌≡◌, refl, sym, ◌∙◌, subst}
use mathlib.Core.Bool.{Bool, true, false, cond}
use mathlib.Core.List.{List, [], ◌∷◌, ◌++◌}
use native.Mathlib.Omega.{arith}
use lib.ListN.{length, length-append}
use lib.Dec.{ltb}
use borrow.Author.Tests.{lt-ltb, le-ltb, ltb-false}
use Rattle.text.specs.Numeral.{numeral}
use Rattle.text.specs.Printing.{Prints}
use Rattle.text.proofs.Laying.{prints_none, prints_then}

pub numeral-none : (k n to : ℕ) (out : List ℕ) → k ≡ 0 → Prints (numeral k n) to to out out
unfolding numeral
numeral-none k n to out e = subst (λ j. Prints (numeral j n) to to out out) (sym e) (prints_none to out)

pub numeral-digit : (k n to : ℕ) (old : List ℕ) → (k ≡ 0 → ⊥) → n < 10 → {r : ℕ} {new : List ℕ} → Prints ((48 + n) ∷ []) to r old new
    → Prints (numeral k n) to r old new
unfolding numeral
numeral-digit zero n to old ne h p = absurd (ne refl)
numeral-digit (suc k) n to old ne h p = rw (lt-ltb n 10 h) p

pub numeral-more : (k n to r q : ℕ) (old mid new : List ℕ) → (k ≡ 0 → ⊥) → 10 ≤ n → Prints (numeral (k - 1) (n / 10)) to r old mid
    → Prints ((48 + n % 10) ∷ []) r q mid new → Prints (numeral k n) to q old new
unfolding numeral
numeral-more zero n to r q old mid new ne h p b = absurd (ne refl)
numeral-more (suc k) n to r q old mid new ne h p b =
    let z : suc k - 1 ≡ k = omega arith in
    rw (le-ltb n 10 h) (prints_then (numeral k (n / 10)) ((48 + n % 10) ∷ []) to r q old mid new (subst (λ j. Prints (numeral j (n / 10)) to r old mid) z p) b)

-- ---- a numeral says its number

-- the number that decimal digits say, read from the left
abbrev pub says : ℕ → List ℕ → ℕ
says n [] = n
says n (d ∷ ds) = says (n * 10 + (d - 48)) ds

says_append : (xs ys : List ℕ) (n : ℕ) → says n (xs ++ ys) ≡ says (says n xs) ys
says_append [] ys n = refl
says_append (x ∷ xs) ys n = says_append xs ys (n * 10 + (x - 48))

pub numeral-says : (k n : ℕ) → n < 10 ^ k → says 0 (numeral k n) ≡ n
unfolding numeral
numeral-says zero n h = omega arith
numeral-says (suc k) n h = go (ltb n 10) refl (numeral-says k (n / 10))
  where
    go : (b : Bool) → ltb n 10 ≡ b → (n / 10 < 10 ^ k → says 0 (numeral k (n / 10)) ≡ n / 10) → says 0 (cond b ((48 + n) ∷ []) (numeral k (n / 10) ++ ((48 + n % 10) ∷ []))) ≡ n
    go true e f = omega arith
    go false e f =
        let l = ltb-false n 10 e in
        let p : 10 ^ suc k ≡ 10 ^ k * 10 = pow.suc 10 k in
        let i = f (omega (arith, h, p)) in
        says_append (numeral k (n / 10)) ((48 + n % 10) ∷ []) 0 ∙ omega (arith, i)

-- a numeral has at most k digits
pub numeral-length : (k n : ℕ) → length (numeral k n) ≤ k
unfolding numeral
numeral-length zero n = omega arith
numeral-length (suc k) n = picked (ltb n 10) (numeral-length k (n / 10))
  where
    picked : (b : Bool) → length (numeral k (n / 10)) ≤ k → length (cond b ((48 + n) ∷ []) (numeral k (n / 10) ++ ((48 + n % 10) ∷ []))) ≤ suc k
    picked true h = omega arith
    picked false h = omega (arith, length-append (numeral k (n / 10)) ((48 + n % 10) ∷ []), h)
