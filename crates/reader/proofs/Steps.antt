-- Each way through `judge_in`, as one law over plain values. A need cites one of them, with `_` for what the goal shows.
-- Assumes nothing.
use Prim.Native.Nat.{ℕ, ◌≤◌, ◌<◌}
use mathlib.Core.Path.{◌≡◌, refl, sym, ap, ◌∙◌}
use mathlib.Core.Bool.{true, false}
use mathlib.Core.List.{List}
use lib.ListN.{length}
use lib.Dec.{eqb}
use borrow.Author.Tests.{le-leb, lt-leb, eq-eqb, ne_eqb}
use Rattle.number.specs.declared.token.Counts.{Counts}
use Rattle.grammar.specs.Kinds.{max_kind, root_of}
use Rattle.grammar.specs.Limits.{max_bytes, max_depth}
use Rattle.grammar.specs.Judge.{Out, fault, done, bind, check, node, known_counts, judge}
use Rattle.opening.specs.Walk.{leaves, walk_of, Walked}
use Rattle.opening.specs.End.{Walk, Next, Stop}
use Rattle.opening.proofs.Stamp.{length_stamp}
use Rattle.opening.proofs.Walks.{clash}
use Rattle.answer.specs.Answers.{answer}
use Rattle.reader.specs.Answer.{answer_of}
use Rattle.reader.specs.Blob.{Judged}

-- the judge once the root is read: 9 where bytes are left over
abbrev ending : List ℕ → Out → Out
ending s q = bind q (λ at n rs. check (eqb at (length s)) 9 at (λ _. done at n rs))

module _ (s o o₁ : List ℕ) (w : Walk) where
  ending_stop : (q : Out) (c p : ℕ) → Walked q 0 w o o₁ → w ≡ Stop c p → Judged (ending s q) (answer c p) o o₁
  unfolding walk_of leaves answer_of
  ending_stop (fault c' p') c p x g =
      let y : Stop c p ≡ Stop c' p' = sym g ∙ x.result in
      let a : c ≡ c' = cc in
      let b : p ≡ p' = cc in
      record { result = rw (a, b); left = x.left }
  ending_stop (done e m rs) c p x g = clash (sym g ∙ x.result)

  ending_over : (q : Out) (e m : ℕ) → Walked q 0 w o o₁ → w ≡ Next e m → (e ≡ length s → ⊥) → Judged (ending s q) (answer 9 e) o o₁
  unfolding walk_of leaves answer_of
  ending_over (fault c p) e m x g z = clash (sym x.result ∙ g)
  ending_over (done e₁ m₁ rs) e m x g z =
      let y : Next e m ≡ Next e₁ m₁ = sym g ∙ x.result in
      let a : e ≡ e₁ = cc in
      rw (ne_eqb e₁ (length s) (λ q. z (a ∙ q))) record { result = rw a; left = ap length x.left ∙ length_stamp rs 0 o }

  ending_done : (q : Out) (e m : ℕ) → Walked q 0 w o o₁ → w ≡ Next e m → e ≡ length s → Judged (ending s q) (answer 0 m) o o₁
  unfolding walk_of leaves answer_of
  ending_done (fault c p) e m x g z = clash (sym x.result ∙ g)
  ending_done (done e₁ m₁ rs) e m x g z =
      let y : Next e m ≡ Next e₁ m₁ = sym g ∙ x.result in
      let a : e ≡ e₁ = cc in
      let b : m ≡ m₁ = cc in
      rw (eq-eqb e₁ (length s) (sym a ∙ z)) record { result = rw b; left = x.left }

module _ (kind : ℕ) (counts : Counts) (s o : List ℕ) where
  judged-fault : (c p : ℕ) → judge kind counts s ≡ fault c p → Judged (judge kind counts s) (answer c p) o o
  unfolding answer_of leaves
  judged-fault c p e = rw e record { result = refl; left = refl }

  pub unknown_kind : max_kind < kind → Judged (judge kind counts s) (answer 12 0) o o
  unfolding judge
  unknown_kind h = judged-fault 12 0 (rw (lt-leb kind max_kind h))

  module _ (h : kind ≤ max_kind) where
    pub too_many_rows : known_counts counts ≡ false → Judged (judge kind counts s) (answer 13 0) o o
    unfolding judge
    too_many_rows k = judged-fault 13 0 (rw (le-leb kind max_kind h, k))

    module _ (k : known_counts counts ≡ true) where
      pub too_long : max_bytes < length s → Judged (judge kind counts s) (answer 1 0) o o
      unfolding judge
      too_long l = judged-fault 1 0 (rw (le-leb kind max_kind h, k, lt-leb (length s) max_bytes l))

      module _ (l : length s ≤ max_bytes) where
        judge-is : judge kind counts s ≡ ending s (node max_depth s counts (root_of kind) 0 0)
        unfolding judge
        judge-is = rw (le-leb kind max_kind h, k, le-leb (length s) max_bytes l)

        module _ (w : Walk) (o₁ : List ℕ) (x : Walked (node max_depth s counts (root_of kind) 0 0) 0 w o o₁) where
          pub blob-stop : (c p : ℕ) → w ≡ Stop c p → Judged (judge kind counts s) (answer c p) o o₁
          blob-stop c p g = rw judge-is (ending_stop s o o₁ w _ c p x g)

          module _ (e m : ℕ) (g : w ≡ Next e m) where
            pub blob-over : (e ≡ length s → ⊥) → Judged (judge kind counts s) (answer 9 e) o o₁
            blob-over z = rw judge-is (ending_over s o o₁ w _ e m x g z)

            pub blob-done : e ≡ length s → Judged (judge kind counts s) (answer 0 m) o o₁
            blob-done z = rw judge-is (ending_done s o o₁ w _ e m x g z)
