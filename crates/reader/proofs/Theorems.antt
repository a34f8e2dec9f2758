-- Demand 2 at the reader's level: what the contracts of `judge` and `read` mean, by the declarative grammar. s is the blob, t the table
-- lent, of which every six numbers are a record.
-- Assumes nothing.
use Prim.Native.Nat.{ℕ, ◌*◌, ◌/◌, ◌≤◌}
use native.Mathlib.Omega.{arith}
use mathlib.Core.Path.{◌≡◌, refl}
use mathlib.Core.List.{List, ◌++◌}
use lib.ListN.{length, drop}
use Rattle.number.specs.Number.{Bytes}
use Rattle.number.specs.declared.token.Counts.{Counts}
use Rattle.grammar.specs.Limits.{max_bytes}
use Rattle.grammar.specs.Table.{flat}
use Rattle.grammar.specs.Judge.{Out, fault, done, judge, reading}
use Rattle.grammar.specs.Derives.{Signature}
use Rattle.grammar.specs.declared.Node.{Node}
use Rattle.grammar.proofs.Reading.{read_accepted, read_derivable, accepted, derivable}
use Rattle.grammar.proofs.Sound.{holds_done}
use Rattle.grammar.proofs.Bounds.{ends-judge, ends-reading}
use Rattle.grammar.specs.Refusals.{Refusal}
use Rattle.grammar.proofs.Refusals.{judge-refuses, read_refuses, refusal_byte}
use Rattle.answer.specs.Answers.{answer}
use Rattle.reader.specs.Answer.{answer_of, table_of}
use Rattle.answer.specs.declared.Answer.{Answer}

-- What `read` answers and leaves: the table of the one derivation, or a refusal of the list and the table as it was. There is no third.
pub data Verdict (kind : ℕ) (counts : Counts) (s t : List ℕ) : Answer → List ℕ → Type 0 where
  derived : (n : ℕ) (rs : List Node) → Signature kind counts s n rs → n ≤ length t / 6 → Verdict kind counts s t (answer 0 n) (flat rs ++ drop (6 * n) t)
  refused : (code place : ℕ) → Refusal code → ((n : ℕ) (rs : List Node) → Signature kind counts s n rs → n ≤ length t / 6 → ⊥) → Verdict kind counts s t (answer code place) t

module _ (kind : ℕ) (counts : Counts) (s t : List ℕ) where
  pub read_verdict : Bytes s → Verdict kind counts s t (answer_of (reading kind counts s (length t / 6))) (table_of (reading kind counts s (length t / 6)) t)
  unfolding answer_of table_of
  read_verdict bytes = go (reading kind counts s (length t / 6)) refl
    where
      none : (code place : ℕ) → reading kind counts s (length t / 6) ≡ fault code place → (n : ℕ) (rs : List Node) → Signature kind counts s n rs → n ≤ length t / 6 → ⊥
      none code place e n rs g l =
          let f = read_derivable kind counts s (length t / 6) n rs g l in
          let z : ◌≡◌ {A = ℕ} 0 1 = cc in
          omega arith

      go : (o : Out) → reading kind counts s (length t / 6) ≡ o → Verdict kind counts s t (answer_of o) (table_of o t)
      go (fault code place) e = refused code place (read_refuses kind counts s (length t / 6) code place e).0 (none code place e)
      go (done at n rs) e = let g = read_accepted kind counts s bytes (length t / 6) at n rs e in derived n rs g.2 g.1

  -- a derived blob for which there are records enough is answered with 0 and its nodes, and its table is written
  pub read_derived : (n : ℕ) (rs : List Node) → Signature kind counts s n rs → n ≤ length t / 6
      → (answer_of (reading kind counts s (length t / 6)) ≡ answer 0 n) × (table_of (reading kind counts s (length t / 6)) t ≡ flat rs ++ drop (6 * n) t)
  unfolding answer_of table_of
  read_derived n rs g l = let e = read_derivable kind counts s (length t / 6) n rs g l in (rw e, rw e)

  -- an answer of 0 is given to a derived blob only
  pub read_zero : Bytes s → (answer_of (reading kind counts s (length t / 6))).code ≡ 0 → (n : ℕ) × (rs : List Node) × Signature kind counts s n rs × (n ≤ length t / 6)
  read_zero bytes z = go _ _ (read_verdict bytes) z
    where
      go : (r : Answer) (u : List ℕ) → Verdict kind counts s t r u → r.code ≡ 0 → (n : ℕ) × (rs : List Node) × Signature kind counts s n rs × (n ≤ length t / 6)
      go r u (derived n rs g l) z = (n, rs, g, l)
      go r u (refused code place h f) z = absurd (omega (arith, refusal_byte code h))

-- without a table: 0 and the nodes exactly when the grammar derives the blob
module _ (kind : ℕ) (counts : Counts) (s : List ℕ) where
  pub judge-derived : (n : ℕ) (rs : List Node) → Signature kind counts s n rs → answer_of (judge kind counts s) ≡ answer 0 n
  unfolding answer_of
  judge-derived n rs g = rw (derivable kind counts s n rs g)

  pub judge-zero : Bytes s → (answer_of (judge kind counts s)).code ≡ 0 → (n : ℕ) × (rs : List Node) × Signature kind counts s n rs
  unfolding answer_of
  judge-zero bytes z = go (judge kind counts s) refl z
    where
      go : (o : Out) → judge kind counts s ≡ o → (answer_of o).code ≡ 0 → (n : ℕ) × (rs : List Node) × Signature kind counts s n rs
      go (fault code place) e z = let h = refusal_byte code (judge-refuses kind counts s code place e).0 in absurd (omega arith)
      go (done at n rs) e z = (n, rs, (accepted kind counts s bytes at n rs e).1)

-- the place of an answer is at most 4,096
pub judge-place : (kind : ℕ) (counts : Counts) (s : List ℕ) → (answer_of (judge kind counts s)).place ≤ max_bytes
unfolding answer_of
judge-place kind counts s = go (judge kind counts s) refl
  where
    go : (o : Out) → judge kind counts s ≡ o → (answer_of o).place ≤ max_bytes
    go (fault code place) e = (judge-refuses kind counts s code place e).2
    go (done at n rs) e = let h = (holds_done _ (ends-judge kind counts s) e).0 in omega arith

pub read_place : (kind : ℕ) (counts : Counts) (s : List ℕ) (lent : ℕ) → (answer_of (reading kind counts s lent)).place ≤ max_bytes
unfolding answer_of
read_place kind counts s lent = go (reading kind counts s lent) refl
  where
    go : (o : Out) → reading kind counts s lent ≡ o → (answer_of o).place ≤ max_bytes
    go (fault code place) e = (read_refuses kind counts s lent code place e).2
    go (done at n rs) e = let h = (holds_done _ (ends-reading kind counts s lent) e).0 in omega arith
