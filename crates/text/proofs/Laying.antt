-- Laws of `next_offset`, `further`, `laid` and `Prints`.
-- Assumes nothing.
use Prim.Native.Nat.{ℕ, zero, suc, ◌+◌, ◌<◌, ◌≤◌, min}
use mathlib.Core.Path.{◌≡◌, refl, sym, ap, ◌∙◌, subst}
use mathlib.Core.Bool.{Bool, true, false, cond}
use mathlib.Core.List.{List, [], ◌∷◌, ◌++◌}
use native.Mathlib.Omega.{arith}
use native.Mathlib.Numerals.{add-one}
use lib.ListN.{length, get_or, set, take, length-append}
use lib.Dec.{ltb}
use lib.Seq.{sets}
use borrow.Author.Tests.{lt-ltb}
use Rattle.std.proofs.lemmas.Bool.Decides.{nat_tests}
use Rattle.std.proofs.lemmas.List.{take_more}
use Rattle.text.specs.Printing.{max_offset, next_offset, further, laid, Prints}

-- the offset behind one that is no greater than the greatest
pub saturates : (to : ℕ) → to ≤ max_offset → min (to + 1) max_offset ≡ next_offset to
unfolding next_offset
saturates to h = go (ltb to max_offset) refl
  where
    go : (b : Bool) → ltb to max_offset ≡ b → min (to + 1) max_offset ≡ cond b (to + 1) to
    go true e = grind (arith, nat_tests)
    go false e = grind (arith, nat_tests)

pub further-add : (j k to : ℕ) → further to (j + k) ≡ further (further to j) k
unfolding further
further-add zero k to = let z : 0 + k ≡ k = omega arith in ap (further to) z
further-add (suc j) k to = let z : suc j + k ≡ suc (j + k) = omega arith in ap (further to) z ∙ further-add j k (next_offset to)

laid-append : (x y out : List ℕ) (to : ℕ) → laid out to (x ++ y) ≡ laid (laid out to x) (further to (length x)) y
unfolding laid further
laid-append [] y out to = refl
laid-append (b ∷ x) y out to = laid-append x y (set out to b) (next_offset to)

-- a text that ends below the greatest offset
pub further-is : (k to : ℕ) → to + k ≤ max_offset → further to k ≡ to + k
unfolding further next_offset
further-is zero to h = omega arith
further-is (suc k) to h = rw (lt-ltb to max_offset (omega arith)) (further-is k (to + 1) (omega arith) ∙ omega arith)

-- ---- Prints
pub prints_none : (to : ℕ) (out : List ℕ) → Prints [] to to out out
unfolding laid further
prints_none to out = (refl, refl)

pub prints_then : (x y : List ℕ) (to r q : ℕ) (old mid new : List ℕ) → Prints x to r old mid → Prints y r q mid new → Prints (x ++ y) to q old new
prints_then x y to r q old mid new p t = (
  t.0 ∙ ap (λ a. further a (length y)) p.0 ∙ sym (further-add (length x) (length y) to) ∙ ap (further to) (sym (length-append x y)),
  t.1 ∙ ap (λ a. laid mid a y) p.0 ∙ ap (λ o. laid o (further to (length x)) y) p.1 ∙ sym (laid-append x y old to),
)

-- a byte, then the rest
pub prints_more : (b : ℕ) (text : List ℕ) (to q : ℕ) (old : List ℕ) {r : ℕ} {mid : List ℕ} (new : List ℕ) → Prints (b ∷ []) to r old mid
    → Prints text r q mid new → Prints (b ∷ text) to q old new
prints_more b text to q old new p t = prints_then (b ∷ []) text to _ q old _ new p t

-- what prints the front of a text, then its next byte, prints one byte more of it
pub prints_next : (text : List ℕ) (i : ℕ) → i < length text → (to r q : ℕ) (old mid new : List ℕ)
    → Prints (take i text) to r old mid → Prints (get_or text i 0 ∷ []) r q mid new → Prints (take (i + 1) text) to q old new
prints_next text i h to r q old mid new p t =
    subst (λ l. Prints l to q old new) (sym (take_more text i 0 h)) (prints_then _ _ to r q old mid new p t)

-- where there is an offset for every byte, laying is setting them one after the other
pub laid-sets : (text out : List ℕ) (to : ℕ) → to + length text ≤ max_offset → laid out to text ≡ sets out to text
unfolding laid next_offset
laid-sets [] out to h = refl
laid-sets (b ∷ text) out to h =
    ap (λ k. laid (set out to b) k text) (ap (λ t. cond t (to + 1) to) (lt-ltb to max_offset (omega arith)) ∙ add-one to) ∙ laid-sets text (set out to b) (suc to) (omega arith)
