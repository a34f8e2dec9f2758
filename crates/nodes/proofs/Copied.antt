-- Laws of `copy_records`: nothing copied is the list as it was; one more record stored is one more copied; the length stays.
use mathlib.Core.Path.{◌≡◌, refl, sym, ◌∙◌, ap}
use Prim.Native.Nat.{ℕ, zero, suc, ◌+◌, ◌<◌, ◌≤◌}
use native.Mathlib.Nat.{add-zero, not-suc-le-zero, le_of_suc-le-suc}
use native.Mathlib.Omega.{arith}
use mathlib.Core.List.{List, [], ◌∷◌, ◌++◌}
use lib.ListN.{length, set, drop}
use Rattle.grammar.specs.Table.{record_at}
use Rattle.grammar.specs.declared.Node.{Node}
use Rattle.nodes.specs.Nodes.{nodes_from, copy_records}

module _ (flat : List ℕ) where
  pub copied_none : (old : List Node) → copy_records flat 0 old ≡ old
  unfolding nodes_from
  copied_none old = refl

  set_from : (j i : ℕ) (old : List Node) → i < length old → set (nodes_from flat j i ++ drop i old) i (record_at flat (j + i)) ≡ nodes_from flat j (suc i) ++ drop (suc i) old
  unfolding nodes_from
  set_from j i [] l = absurd (not-suc-le-zero l)
  set_from j zero (x ∷ xs) l = ap {B = List Node} (λ (k : ℕ). record_at flat k ∷ xs) (add-zero j)
  set_from j (suc i) (x ∷ xs) l =
      let e : j + suc i ≡ (j + 1) + i = omega arith in
      ap {B = List Node} (λ (k : ℕ). record_at flat j ∷ set (nodes_from flat (j + 1) i ++ drop i xs) i (record_at flat k)) e
      ∙ ap {B = List Node} (λ r. record_at flat j ∷ r) (set_from (j + 1) i xs (le_of_suc-le-suc l))

  pub copied_one_more : (i : ℕ) (old : List Node) → i < length old → set (copy_records flat i old) i (record_at flat i) ≡ copy_records flat (i + 1) old
  copied_one_more i old l =
      let e : 0 + i ≡ i = omega arith in
      let f : suc i ≡ i + 1 = omega arith in
      ap {B = List Node} (λ (k : ℕ). set (copy_records flat i old) i (record_at flat k)) (sym e) ∙ set_from 0 i old l ∙ ap {B = List Node} (λ (k : ℕ). copy_records flat k old) f

  length_from : (j i : ℕ) (old : List Node) → i ≤ length old → length (nodes_from flat j i ++ drop i old) ≡ length old
  unfolding nodes_from
  length_from j zero old l = refl
  length_from j (suc i) [] l = absurd (not-suc-le-zero l)
  length_from j (suc i) (x ∷ xs) l = ap suc (length_from (j + 1) i xs (le_of_suc-le-suc l))

  pub copied_length : (i : ℕ) (old : List Node) → i ≤ length old → length (copy_records flat i old) ≡ length old
  copied_length i old l = length_from 0 i old l
