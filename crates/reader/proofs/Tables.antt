-- A table held against the one that a walk left: compared number by number.
-- Assumes nothing.
use Prim.Native.Nat.{ℕ, suc, ◌+◌, ◌*◌, ◌≤◌, ◌<◌}
use native.Mathlib.Omega.{arith}
use mathlib.Core.Path.{◌≡◌, refl, sym, ap, ◌∙◌}
use mathlib.Core.Bool.{Bool, true, false, ◌&&◌}
use mathlib.Core.List.{List, [], ◌∷◌}
use lib.ListN.{length, take}
use lib.Seq.{take_at, length-take-le}
use lib.Dec.{eqb}
use lib.Pointwise.{pointwise}
use Rattle.number.specs.declared.token.Counts.{Counts}
use Rattle.grammar.specs.Table.{flat}
use Rattle.grammar.specs.Limits.{max_nodes}
use Rattle.grammar.specs.Judge.{Out, fault, done, judge}
use Rattle.grammar.specs.Writer.{same_numbers, has_table}
use Rattle.grammar.specs.declared.Node.{Node}
use Rattle.grammar.proofs.Sound.{Holds, holds}
use Rattle.grammar.proofs.Bounds.{Ends, ends-judge}
use Rattle.grammar.proofs.Refusals.{judge-refuses, refusal_byte}
use Rattle.grammar.proofs.Emits.{length_flat}
use Rattle.opening.specs.Table.{stamp}
use Rattle.opening.specs.Walk.{leaves}
use Rattle.opening.proofs.Stamp.{stamp-flat}
use Rattle.reader.specs.Answer.{answer_of}
use Rattle.reader.specs.Blob.{Judged}
use Rattle.answer.specs.declared.Answer.{Answer}

-- ---- the same up to i

pub same_lengths : (a b : List ℕ) → (length a ≡ length b → ⊥) → false ≡ same_numbers a b
unfolding same_numbers
same_lengths [] [] h = absurd (h refl)
same_lengths [] (y ∷ ys) h = refl
same_lengths (x ∷ xs) [] h = refl
same_lengths (x ∷ xs) (y ∷ ys) h = go (eqb x y) (same_lengths xs ys (λ e. h (ap suc e)))
  where
    go : (t : Bool) → false ≡ same_numbers xs ys → false ≡ (t && same_numbers xs ys)
    go true e = e
    go false e = refl

-- what `==` of two slices of numbers computes
pub equal-same : (xs ys : List ℕ) → pointwise eqb xs ys ≡ same_numbers xs ys
unfolding same_numbers
equal-same [] [] = refl
equal-same [] (y ∷ ys) = refl
equal-same (x ∷ xs) [] = refl
equal-same (x ∷ xs) (y ∷ ys) = ap (λ t. eqb x y && t) (equal-same xs ys)

-- ---- has_table_within

-- a table that no judgement gives, since it has another length
other_length : (t : List ℕ) (at n : ℕ) (rs : List Node) → n ≡ length rs → (6 * n ≡ length t → ⊥) → false ≡ has_table t (done at n rs)
unfolding has_table
other_length t at n rs l h = same_lengths (flat rs) t (λ e. h (ap (λ (k : ℕ). 6 * k) l ∙ sym (length_flat rs) ∙ e))

-- a is what the walk answered, o₁ what it left of the records o
module _ (kind : ℕ) (counts : Counts) (s o : List ℕ) (a : Answer) (o₁ : List ℕ) (x : Judged (judge kind counts s) a o o₁) (t : List ℕ) where
  pub has-not : (a.code ≡ 0 → ⊥) → false ≡ has_table t (judge kind counts s)
  unfolding has_table answer_of
  has-not z = go (judge kind counts s) x.result
    where
      go : (q : Out) → a ≡ answer_of q → false ≡ has_table t q
      go (fault c p) e = refl
      go (done e m rs) g = absurd (z (ap (λ (y : Answer). y.code) g))

  -- where the answer is 0
  module _ (z : a.code ≡ 0) where
    data Took : Type 0 where
      took : (at : ℕ) (rs : List Node) → judge kind counts s ≡ done at a.place rs → a.place ≤ max_nodes → a.place ≡ length rs → o₁ ≡ stamp 0 rs o → Took

    all : Took
    unfolding answer_of leaves
    all = go (judge kind counts s) refl (ends-judge kind counts s) x.result x.left
      where
        go : (q : Out) → judge kind counts s ≡ q → Holds (Ends 0) q → a ≡ answer_of q → leaves q 0 o o₁ → Took
        go (fault c p) g h e l =
            let i = (refusal_byte c (judge-refuses kind counts s c p g).0).0 in
            let k : 0 ≡ c = sym z ∙ ap (λ (y : Answer). y.code) e in
            absurd (omega arith)
        go (done at n rs) g (holds h) e l =
            let k : n ≡ a.place = sym (ap (λ (y : Answer). y.place) e) in
            took at rs (g ∙ ap (λ (j : ℕ). done at j rs) k) (omega (arith, h.0)) (omega (arith, h.1)) l

    pub has-few : a.place ≤ max_nodes
    has-few = go all
      where
        go : Took → a.place ≤ max_nodes
        go (took at rs g m l u) = m

    pub has_other : (6 * a.place ≡ length t → ⊥) → false ≡ has_table t (judge kind counts s)
    has_other h = go all
      where
        go : Took → false ≡ has_table t (judge kind counts s)
        go (took at rs g m l u) = other_length t at a.place rs l h ∙ sym (ap (has_table t) g)

    module _ (e : 6 * a.place ≡ length t) (f : length t ≤ length o) where
      pub has_same : (r : Bool) → r ≡ same_numbers (take (6 * a.place) o₁) t → r ≡ has_table t (judge kind counts s)
      unfolding has_table
      has_same r q = go all
        where
          go : Took → r ≡ has_table t (judge kind counts s)
          go (took at rs g m l u) =
              let i : 6 * (0 + length rs) ≤ length o = omega arith in
              let k : length (flat rs) ≡ 6 * a.place = length_flat rs ∙ ap (λ (j : ℕ). 6 * j) (sym l) in
              let v : take (6 * a.place) o₁ ≡ flat rs = ap (take (6 * a.place)) (u ∙ stamp-flat rs 0 o i) ∙ take_at (flat rs) _ (6 * a.place) k in
              q ∙ ap (λ (y : List ℕ). same_numbers y t) v ∙ sym (ap (has_table t) g)

-- ---- has_table

-- no blob has more nodes
pub has-over : (kind : ℕ) (counts : Counts) (s t : List ℕ) → 6 * max_nodes < length t → false ≡ has_table t (judge kind counts s)
unfolding has_table
has-over kind counts s t h = go (judge kind counts s) (ends-judge kind counts s)
  where
    go : (q : Out) → Holds (Ends 0) q → false ≡ has_table t q
    go (fault c p) z = refl
    go (done at n rs) (holds z) = other_length t at n rs (omega (arith, z.1)) (λ e. omega (arith, z.0))

pub part_length : (n : ℕ) (o : List ℕ) → n ≤ length o → n ≡ length (take n o)
part_length n o h = sym (length-take-le n o h)
