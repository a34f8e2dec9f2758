-- Demand 2, the reader: a blob is accepted exactly when the grammar derives all its bytes, and the table is that derivation's, which is
-- the only one.
-- Assumes nothing.
use Prim.Native.Nat.{ℕ, ◌≤◌}
use native.Mathlib.Omega.{arith}
use mathlib.Core.Path.{◌≡◌, refl, sym, subst}
use mathlib.Core.Bool.{true, ◌&&◌}
use mathlib.Core.List.{List}
use lib.ListN.{length}
use lib.Dec.{leb, eqb}
use borrow.Author.Tests.{leb-true, le-leb, eqb-true, eq-eqb}
use Rattle.number.specs.Number.{Bytes}
use Rattle.number.specs.declared.token.Counts.{Counts}
use Rattle.number.proofs.Stands.{all_of, whole}
use Rattle.grammar.specs.Kinds.{max_kind, root_of}
use Rattle.grammar.specs.Limits.{max_bytes, max_rows, max_depth}
use Rattle.grammar.specs.Table.{flat}
use Rattle.grammar.specs.Judge.{fault, done, check, node, known_counts, judge, reading}
use Rattle.grammar.specs.Derives.{Derives, Signature}
use Rattle.grammar.specs.Emit.{wrote, emitted}
use Rattle.grammar.specs.declared.Node.{Node}
use Rattle.grammar.proofs.Sound.{Holds, holds, holds_done, holds_bind, holds_check, holds_node, both_left, both_right}
use Rattle.grammar.proofs.Complete.{Meets, both, bind-last, check-pass, node-back}
use Rattle.grammar.proofs.Size.{Sized, derives_size}
use Rattle.grammar.proofs.Emits.{derives_emit}

module _ (kind : ℕ) (counts : Counts) (s : List ℕ) where
  holds_judge : Bytes s → Holds (λ a n rs. (a ≡ length s) × Signature kind counts s n rs) (judge kind counts s)
  unfolding judge
  holds_judge bytes =
      holds_check (leb kind max_kind) 12 0 _
      (λ e₁. holds_check (known_counts counts) 13 0 _
      (λ e₂. holds_check (leb (length s) max_bytes) 1 0 _
      (λ e₃. holds_bind (node max_depth s counts (root_of kind) 0 0) _ (holds_node s bytes max_depth counts (root_of kind) 0 0)
      (λ a n rs r. holds_check (eqb a (length s)) 9 a _
      (λ e₄.
      let ea : a ≡ length s = eqb-true a (length s) e₄ in
      let eb : s ≡ r.0 = all_of (rw ea at r.2) in
      holds (
        ea,
        record {
          known_kind = leb-true _ _ e₁;
          defs = leb-true _ _ (both_left _ _ (both_left _ _ e₂));
          refs = leb-true _ _ (both_right (leb counts.defs max_rows) _ (both_left _ _ e₂));
          specs = leb-true _ _ (both_right (leb counts.defs max_rows && leb counts.refs max_rows) _ e₂);
          short = leb-true _ _ e₃;
          derived =
              subst (λ (bs : List ℕ). Derives max_depth counts (root_of kind) 0 0 (length s) n bs rs) (sym eb)
              (subst (λ (z : ℕ). Derives max_depth counts (root_of kind) 0 0 z n r.0 rs) ea r.1);
        },
      ))))))

  -- what is accepted is all the blob's bytes, derived with this table
  pub accepted : Bytes s → (a n : ℕ) (rs : List Node) → judge kind counts s ≡ done a n rs → (a ≡ length s) × Signature kind counts s n rs
  accepted bytes a n rs e = holds_done (judge kind counts s) (holds_judge bytes) e

  -- the row counts are known
  pub counts-known : {n : ℕ} {rs : List Node} → Signature kind counts s n rs → known_counts counts ≡ true
  counts-known g = both _ _ (both _ _ (le-leb _ _ g.defs) (le-leb _ _ g.refs)) (le-leb _ _ g.specs)

  -- what is derived is accepted, with the derivation's table
  pub derivable : (n : ℕ) (rs : List Node) → Signature kind counts s n rs → judge kind counts s ≡ done (length s) n rs
  unfolding judge
  derivable n rs g =
      let m : Meets (judge kind counts s) (length s) n rs (length s) =
      check-pass (leb kind max_kind) 12 0 _ (le-leb _ _ g.known_kind)
      (check-pass (known_counts counts) 13 0 _ (counts-known g)
      (check-pass (leb (length s) max_bytes) 1 0 _ (le-leb _ _ g.short)
      (bind-last (node max_depth s counts (root_of kind) 0 0) (λ a k ts. check (eqb a (length s)) 9 a (λ _. done a k ts))
      ((node-back s max_depth counts (root_of kind)).run g.derived (whole s))
      (λ e. check-pass (eqb (length s) (length s)) 9 (length s) _ (eq-eqb (length s) (length s) refl) (record { gives = refl; ends = refl }))))) in
      m.gives

  -- a refused blob has no derivation
  pub refused : (code place : ℕ) → judge kind counts s ≡ fault code place → (n : ℕ) (rs : List Node) → Signature kind counts s n rs → ⊥
  refused code place e n rs g = let f = derivable n rs g in let z : ◌≡◌ {A = ℕ} 0 1 = cc in omega arith

  -- a blob has one table
  pub one_table : {n m : ℕ} {rs ts : List Node} → Signature kind counts s n rs → Signature kind counts s m ts → (n ≡ m) × (rs ≡ ts)
  one_table {n} {m} {rs} {ts} g h =
      let e = derivable n rs g in
      let f = derivable m ts h in
      ((cc), (cc))

  -- the number of nodes is the table's length, and at most 1,024
  pub nodes : {n : ℕ} {rs : List Node} → Signature kind counts s n rs → Sized 0 n rs
  nodes g = (derives_size max_depth counts (root_of kind)).size (omega arith) g.derived

  -- with records lent: accepted exactly when the grammar derives the blob and there is a record for each node
  pub read_accepted : Bytes s → (lent a n : ℕ) (rs : List Node) → reading kind counts s lent ≡ done a n rs
      → (a ≡ length s) × (n ≤ lent) × Signature kind counts s n rs
  unfolding reading
  read_accepted bytes lent a n rs e =
      holds_done _
      (holds_bind (judge kind counts s) _ (holds_judge bytes)
      (λ a₁ n₁ ts g. holds_check {P = λ a₂ n₂ us. (a₂ ≡ length s) × (n₂ ≤ lent) × Signature kind counts s n₂ us}
      (leb n₁ lent) 11 n₁ _ (λ l. holds (g.0, leb-true _ _ l, g.1))))
      e

  pub read_derivable : (lent n : ℕ) (rs : List Node) → Signature kind counts s n rs → n ≤ lent → reading kind counts s lent ≡ done (length s) n rs
  unfolding reading
  read_derivable lent n rs g l = rw (derivable n rs g, le-leb n lent l)

  -- the table is emitted as the blob
  pub emitted-back : {n : ℕ} {rs : List Node} → Signature kind counts s n rs → emitted (flat rs) ≡ wrote s n
  emitted-back {n} {rs} g = derives_emit max_depth counts (root_of kind) (length s) n s rs g.derived
