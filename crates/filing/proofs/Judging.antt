-- The ways out of `judge_row`: with a record lent for each of 1,024 nodes the reader's outcome is the judge's, and the rows that the
-- table's records name are those of the derivation.
-- Assumes nothing.
use Prim.Native.Nat.{ℕ, ◌*◌, ◌/◌, ◌≤◌, ◌<◌}
use native.Mathlib.Omega.{arith}
use mathlib.Core.Path.{◌≡◌, refl, ap, ◌∙◌}
use mathlib.Core.List.{List, ◌++◌}
use lib.ListN.{length, drop, replicate, length-replicate}
use Rattle.number.specs.declared.token.Counts.{Counts}
use Rattle.grammar.specs.Limits.{max_bytes, max_nodes}
use Rattle.grammar.specs.Table.{flat}
use Rattle.grammar.specs.Judge.{Out, fault, done, judge, reading}
use Rattle.grammar.proofs.Sound.{Holds, holds}
use Rattle.grammar.proofs.Bounds.{Ends, ends-judge, reading-enough}
use Rattle.grammar.proofs.Refusals.{judge-refuses, refusal_byte}
use Rattle.reader.specs.Answer.{answer_of, table_of}
use Rattle.answer.specs.declared.Answer.{Answer}
use Rattle.answer.specs.Size.{words}
use Rattle.bits.specs.Bits.{emptied}
use Rattle.filing.specs.Named.{collect_of, named_by}
use Rattle.filing.specs.Kept.{Finding, finding, finding_of}
use Rattle.filing.proofs.Collects.{collected_cong, named-front}

-- the row's set and finding, of any outcome
abbrev Kept : Out → ℕ → List ℕ → Finding → List ℕ → Type 0
Kept o i m f m' = (f ≡ finding_of o) × (m' ≡ named_by o i m)

module _ (i : ℕ) (m m₁ t t₁ : List ℕ) (r : Answer) (e : m₁ ≡ emptied words m i) where
  kept-refused : (o : Out) → r ≡ answer_of o → (r.code ≡ 0 → ⊥) → Kept o i m (finding 1 r.code r.place) m₁
  unfolding answer_of named_by
  kept-refused (fault code place) a z = (ap (λ (x : Answer). finding 1 x.code x.place) a, e)
  kept-refused (done at n rs) a z = absurd (z (ap (λ (x : Answer). x.code) a))

  kept-accepted : (o : Out) → ((c p : ℕ) → o ≡ fault c p → 1 ≤ c) → Holds (Ends 0) o → r ≡ answer_of o → t₁ ≡ table_of o t → r.code ≡ 0
      → (m₂ : List ℕ) → m₂ ≡ collect_of t₁ r.place i m₁ → Kept o i m (finding 2 0 0) m₂
  unfolding answer_of table_of named_by
  kept-accepted (fault code place) f h a b z m₂ q =
      let g = f code place refl in
      let k : r.code ≡ code = ap (λ (x : Answer). x.code) a in
      absurd (omega arith)
  kept-accepted (done at n rs) f (holds h) a b z m₂ q =
      let k : r.place ≡ n = ap (λ (x : Answer). x.place) a in (
        refl,
        q ∙ rw (b, k, e)
            (collected_cong (flat rs ++ drop (6 * n) t) (flat rs) i (emptied words m i) n
            (λ j l. named-front rs (drop (6 * n) t) j (omega (arith, h)))),
      )

kept-nodes : (r : Answer) (o : Out) → ((c p : ℕ) → o ≡ fault c p → 1 ≤ c) → Holds (Ends 0) o → r ≡ answer_of o → r.code ≡ 0 → r.place ≤ max_nodes
unfolding answer_of
kept-nodes r (fault code place) f h a z =
    let g = f code place refl in
    let k : r.code ≡ code = ap (λ (x : Answer). x.code) a in
    absurd (omega arith)
kept-nodes r (done at n rs) f (holds h) a z = let k : r.place ≡ n = ap (λ (x : Answer). x.place) a in omega (arith, h)

kept_small : (r : Answer) (o : Out) → ((c p : ℕ) → o ≡ fault c p → (c < 256) × (p ≤ max_bytes)) → r ≡ answer_of o → (r.code ≡ 0 → ⊥)
    → (r.code < 256) × (r.place ≤ max_bytes)
unfolding answer_of
kept_small r (fault code place) f a z = rw a (f code place refl)
kept_small r (done at n rs) f a z = absurd (z (ap (λ (x : Answer). x.code) a))

-- the table that is lent to the reader: a record for every node
abbrev lent : List ℕ
lent = replicate (6 * max_nodes) 0

-- t is the table read
module _ (counts : Counts) (s t : List ℕ) (r : Answer)
    (x : (r ≡ answer_of (reading 0 counts s (length lent / 6))) × (t ≡ table_of (reading 0 counts s (length lent / 6)) lent)) where
  same : reading 0 counts s (length lent / 6) ≡ judge 0 counts s
  same = reading-enough 0 counts s (length lent / 6) (omega (arith, length-replicate {A = ℕ} (6 * max_nodes) 0))

  refuses : (c p : ℕ) → judge 0 counts s ≡ fault c p → 1 ≤ c
  refuses c p e = (refusal_byte c (judge-refuses 0 counts s c p e).0).0

  -- a refusal's number and place are kept in 8 and 16 bits
  pub row_small : (r.code ≡ 0 → ⊥) → (r.code < 256) × (r.place ≤ max_bytes)
  row_small z = kept_small r (judge 0 counts s) (λ c p e. let q = judge-refuses 0 counts s c p e in ((refusal_byte c q.0).1, q.2)) (x.0 ∙ ap answer_of same) z

  pub row_nodes : r.code ≡ 0 → r.place ≤ max_nodes
  row_nodes z = kept-nodes r (judge 0 counts s) refuses (ends-judge 0 counts s) (x.0 ∙ ap answer_of same) z

  module _ (i : ℕ) (m m₁ : List ℕ) (e : m₁ ≡ emptied words m i) where
    pub row_refused : (r.code ≡ 0 → ⊥) → Kept (judge 0 counts s) i m (finding 1 r.code r.place) m₁
    row_refused z = kept-refused i m m₁ lent t r e (judge 0 counts s) (x.0 ∙ ap answer_of same) z

    pub row_accepted : r.code ≡ 0 → (m₂ : List ℕ) → m₂ ≡ collect_of t r.place i m₁ → Kept (judge 0 counts s) i m (finding 2 0 0) m₂
    row_accepted z m₂ q =
        kept-accepted i m m₁ lent t r e (judge 0 counts s) refuses (ends-judge 0 counts s) (x.0 ∙ ap answer_of same)
        (x.1 ∙ ap (λ (o : Out). table_of o lent) same) z m₂ q
