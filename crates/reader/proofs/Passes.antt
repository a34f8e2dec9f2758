-- The ways out of `read`, over what the two walks promise.
-- Assumes nothing.
use Prim.Native.Nat.{ℕ, ◌+◌, ◌*◌, ◌/◌, ◌≤◌, ◌<◌}
use native.Mathlib.Omega.{arith}
use mathlib.Core.Path.{◌≡◌, refl, sym, ap, ◌∙◌}
use mathlib.Core.List.{List, [], ◌∷◌, ◌++◌}
use lib.ListN.{length, take, drop}
use lib.Dec.{leb}
use borrow.Author.Tests.{le-leb, lt-leb}
use Rattle.number.specs.declared.token.Counts.{Counts}
use Rattle.grammar.specs.Table.{flat}
use Rattle.grammar.specs.Judge.{Out, fault, done, bind, check, judge, reading}
use Rattle.grammar.proofs.Sound.{Holds, holds}
use Rattle.grammar.proofs.Bounds.{Ends, ends-judge}
use Rattle.grammar.proofs.Refusals.{judge-refuses, refusal_byte}
use Rattle.opening.specs.Walk.{leaves}
use Rattle.opening.proofs.Stamp.{stamp-flat}
use Rattle.answer.specs.Answers.{answer}
use Rattle.reader.specs.Answer.{answer_of, table_of}
use Rattle.reader.specs.Blob.{Judged}
use Rattle.answer.specs.declared.Answer.{Answer}

-- what read answers and leaves, of any outcome of the judge
abbrev lending : ℕ → Out → Out
lending lent q = bind q (λ at n rs. check (leb n lent) 11 n (λ _. done at n rs))

abbrev Gives : Answer → Out → List ℕ → List ℕ → Type 0
Gives r q o o' = (r ≡ answer_of (lending (length o / 6) q)) × (o' ≡ table_of (lending (length o / 6) q) o)

module _ (r : Answer) (o o₀ o₁ : List ℕ) where
  gives_refusal : (q : Out) → Judged q r o₀ o₁ → (r.code ≡ 0 → ⊥) → Gives r q o o
  unfolding answer_of table_of
  gives_refusal (fault c p) x z = (x.result, refl)
  gives_refusal (done e m rs) x z = absurd (z (ap (λ (a : Answer). a.code) x.result))

  gives_short : (q : Out) → ((c p : ℕ) → q ≡ fault c p → 1 ≤ c) → Judged q r o₀ o₁ → r.code ≡ 0 → length o / 6 < r.place → Gives (answer 11 r.place) q o o
  unfolding answer_of table_of
  gives_short (fault c p) f x z l =
      let g = f c p refl in
      let e : r.code ≡ c = ap (λ (a : Answer). a.code) x.result in
      absurd (omega arith)
  gives_short (done e m rs) f x z l =
      let k : r.place ≡ m = ap (λ (a : Answer). a.place) x.result in
      let h : length o / 6 < m = omega arith in
      (rw (lt-leb m (length o / 6) h, k), rw (lt-leb m (length o / 6) h))

  gives_table : (q : Out) → ((c p : ℕ) → q ≡ fault c p → 1 ≤ c) → Holds (Ends 0) q → Judged q r o₀ o₁ → r.code ≡ 0 → r.place ≤ length o / 6
      → (r₂ : Answer) (o₂ : List ℕ) → Judged q r₂ o o₂ → Gives r₂ q o o₂
  unfolding answer_of table_of leaves
  gives_table (fault c p) f g x z l r₂ o₂ y =
      let i = f c p refl in
      let e : r.code ≡ c = ap (λ (a : Answer). a.code) x.result in
      absurd (omega arith)
  gives_table (done e m rs) f (holds g) x z l r₂ o₂ y =
      let k : r.place ≡ m = ap (λ (a : Answer). a.place) x.result in
      let h : m ≤ length o / 6 = omega arith in
      let n : 0 + length rs ≡ m = sym g.1 in
      let i : 6 * (0 + length rs) ≤ length o = omega arith in (
        rw (le-leb m (length o / 6) h) y.result,
        rw (le-leb m (length o / 6) h) (y.left ∙ stamp-flat rs 0 o i ∙ ap (λ (j : ℕ). flat rs ++ drop (6 * j) o) n),
      )

-- an empty part that was lent and came home left the list as it was
pub home : (l o : List ℕ) → length l ≡ length (take 0 o) → l ++ drop 0 o ≡ o
home [] o h = refl
home (a ∷ l) o h = absurd (omega arith)

-- o is the table, and l the same table after the first walk
module _ (kind : ℕ) (counts : Counts) (s : List ℕ) (r : Answer) (l o o₀ o₁ : List ℕ) (same : l ≡ o) (x : Judged (judge kind counts s) r o₀ o₁) where
  refuses : (c p : ℕ) → judge kind counts s ≡ fault c p → 1 ≤ c
  refuses c p e = (refusal_byte c (judge-refuses kind counts s c p e).0).0

  pub read_refused : (r.code ≡ 0 → ⊥) → (r ≡ answer_of (reading kind counts s (length o / 6))) × (l ≡ table_of (reading kind counts s (length o / 6)) o)
  unfolding reading
  read_refused z = let g = gives_refusal r o o₀ o₁ (judge kind counts s) x z in (g.0, same ∙ g.1)

  pub read_short : r.code ≡ 0 → length l / 6 < r.place → (answer 11 r.place ≡ answer_of (reading kind counts s (length o / 6))) × (l ≡ table_of (reading kind counts s (length o / 6)) o)
  unfolding reading
  read_short z j = let g = gives_short r o o₀ o₁ (judge kind counts s) refuses x z (rw same at j) in (g.0, same ∙ g.1)

  pub read_done : r.code ≡ 0 → r.place ≤ length l / 6 → (r₂ : Answer) (o₂ : List ℕ) → Judged (judge kind counts s) r₂ l o₂
      → (r₂ ≡ answer_of (reading kind counts s (length o / 6))) × (o₂ ≡ table_of (reading kind counts s (length o / 6)) o)
  unfolding reading
  read_done z j r₂ o₂ y = gives_table r o o₀ o₁ (judge kind counts s) refuses (ends-judge kind counts s) x z (rw same at j) r₂ o₂ (rw same at y)
