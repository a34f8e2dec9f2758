-- Laws of the definitions in specs/Nodes.antt: what `read_within` answers of a prefix of the table is what is said of the whole; what
-- `read_records` asks of an answer and learns of the copy; what `record_of` gives past the end of its records.
-- Assumes nothing.
use Prim.Native.Nat.{ℕ, zero, suc, ◌+◌, ◌*◌, ◌/◌, ◌≤◌, ◌<◌, zero-le}
use native.Mathlib.Nat.{not-suc-le-zero, le_of_suc-le-suc}
use native.Mathlib.Omega.{arith}
use mathlib.Core.Path.{◌≡◌, refl, sym, ap, ◌∙◌}
use mathlib.Core.Bool.{Bool, true, false, cond}
use mathlib.Core.List.{List, [], ◌∷◌, ◌++◌, append_assoc}
use lib.ListN.{length, get_or, take, drop, replicate, length-append, length-drop, length-replicate, get_or-eq_default}
use lib.Seq.{length-take-le}
use lib.Dec.{leb, ltb}
use borrow.Author.Tests.{lt-ltb, le-ltb, leb-true, ltb-true, ltb-false}
use Rattle.number.specs.declared.token.Counts.{Counts}
use Rattle.grammar.specs.Limits.{max_nodes}
use Rattle.grammar.specs.Table.{six, flat}
use Rattle.grammar.specs.Judge.{Out, fault, done, judge, reading}
use Rattle.grammar.specs.declared.Node.{Node}
use Rattle.grammar.proofs.Sound.{Holds, holds, holds_bind, holds_check, holds_done}
use Rattle.grammar.proofs.Bounds.{Ends, ends-judge, ends-reading}
use Rattle.grammar.proofs.Emits.{record_at-six}
use Rattle.grammar.proofs.Refusals.{read_refuses, refusal_byte}
use Rattle.answer.specs.Answers.{answer}
use Rattle.reader.specs.Answer.{answer_of, table_of}
use Rattle.answer.specs.declared.Answer.{Answer}
use Rattle.nodes.specs.Nodes.{blank, shorter, records_of, node_of, reading_within, ReadWithin, nodes_from, copy_records}

-- ---- lists

-- what a shorter prefix lacks, behind the longer one
drop_take : (k m : ℕ) (t : List ℕ) → k ≤ m → drop k (take m t) ++ drop m t ≡ drop k t
drop_take zero zero t l = refl
drop_take zero (suc m) [] l = refl
drop_take zero (suc m) (x ∷ t) l = ap {B = List ℕ} (λ (u : List ℕ). x ∷ u) (drop_take zero m t zero-le)
drop_take (suc k) zero t l = absurd (not-suc-le-zero l)
drop_take (suc k) (suc m) [] l = refl
drop_take (suc k) (suc m) (x ∷ t) l = drop_take k m t (le_of_suc-le-suc l)

-- the prefix that is lent
pub prefix_length : (t : List ℕ) (m : ℕ) → m < length t / 6 → 6 * m ≡ length (take (6 * m) t)
prefix_length t m l = sym (length-take-le (6 * m) t (omega (arith, l)))

-- the records of a flat list are those it was made of
nodes-flat : (rs : List Node) (rest pre : List ℕ) (i : ℕ) → length pre ≡ 6 * i → nodes_from (pre ++ (flat rs ++ rest)) i (length rs) ≡ rs
unfolding nodes_from flat
nodes-flat [] rest pre i h = refl
nodes-flat (r ∷ rs) rest pre i h =
    let z : length (pre ++ six r) ≡ 6 * (i + 1) = length-append pre (six r) ∙ omega (arith, h) in
    let g : pre ++ (six r ++ (flat rs ++ rest)) ≡ (pre ++ six r) ++ (flat rs ++ rest) = sym (append_assoc pre (six r) (flat rs ++ rest)) in
    ap {B = List Node} (λ (x : Node). x ∷ nodes_from (pre ++ (six r ++ (flat rs ++ rest))) (i + 1) (length rs)) (record_at-six r (flat rs ++ rest) pre i h)
    ∙ ap {B = List Node} (λ (t : List ℕ). r ∷ nodes_from t (i + 1) (length rs)) g
    ∙ ap {B = List Node} (λ (x : List Node). r ∷ x) (nodes-flat rs rest (pre ++ six r) (i + 1) z)

-- ---- the shorter of the two lent

shorter-least : (a b : ℕ) → (shorter a b ≤ a) × (shorter a b ≤ b)
shorter-least a b = go (ltb b a) refl
  where
    go : (x : Bool) → ltb b a ≡ x → (cond x b a ≤ a) × (cond x b a ≤ b)
    go true e = (omega (arith, ltb-true b a e), omega arith)
    go false e = (omega arith, omega (arith, ltb-false b a e))

-- no more nodes than are lent
fits_reading : (kind : ℕ) (counts : Counts) (s : List ℕ) (lent : ℕ) → Holds (λ at n rs. n ≤ lent) (reading kind counts s lent)
unfolding reading
fits_reading kind counts s lent =
    holds_bind (judge kind counts s) _ (ends-judge kind counts s) (λ at n rs e. holds_check (leb n lent) 11 n _ (λ l. holds (leb-true n lent l)))

module _ (kind : ℕ) (counts : Counts) (s t : List ℕ) (most : ℕ) where
  abbrev out : Out
  out = reading_within kind counts s t most

  -- ---- read_within

  table-whole : (o : Out) (m : ℕ) → Holds (λ at n rs. n ≤ m) o → table_of o (take (6 * m) t) ++ drop (6 * m) t ≡ table_of o t
  unfolding table_of
  table-whole (fault code place) m h = drop_take 0 (6 * m) t zero-le
  table-whole (done at n rs) m (holds l) =
      append_assoc (flat rs) (drop (6 * n) (take (6 * m) t)) (drop (6 * m) t) ∙ ap (λ (u : List ℕ). flat rs ++ u) (drop_take (6 * n) (6 * m) t (omega (arith, l)))

  -- a prefix is lent
  pub within-prefix : (r : Answer) (u : List ℕ) → most < length t / 6 → r ≡ answer_of (reading kind counts s (length (take (6 * most) t) / 6))
      → u ≡ table_of (reading kind counts s (length (take (6 * most) t) / 6)) (take (6 * most) t) → ReadWithin kind counts s t most r (u ++ drop (6 * most) t)
  within-prefix r u l e f =
      let n : length (take (6 * most) t) ≡ 6 * most = sym (prefix_length t most l) in
      let d : length (take (6 * most) t) / 6 ≡ most = omega (arith, n) in
      let g : shorter (length t / 6) most ≡ most = rw (lt-ltb most (length t / 6) l) refl in
      let h : reading kind counts s (length (take (6 * most) t) / 6) ≡ out = ap (reading kind counts s) (d ∙ sym g) in
      let i : out ≡ reading kind counts s most = ap (reading kind counts s) g in (
        e ∙ ap answer_of h,
        ap (λ (x : List ℕ). x ++ drop (6 * most) t) (f ∙ ap (λ (o : Out). table_of o (take (6 * most) t)) (h ∙ i))
            ∙ table-whole (reading kind counts s most) most (fits_reading kind counts s most)
            ∙ ap (λ (o : Out). table_of o t) (sym i),
      )

  -- the whole is lent
  pub within-whole : (r : Answer) (u : List ℕ) → length t / 6 ≤ most → r ≡ answer_of (reading kind counts s (length t / 6)) → u ≡ table_of (reading kind counts s (length t / 6)) t → ReadWithin kind counts s t most r u
  within-whole r u l e f =
      let g : length t / 6 ≡ shorter (length t / 6) most = rw (le-ltb most (length t / 6) l) refl in
      let h : reading kind counts s (length t / 6) ≡ out = ap (reading kind counts s) g in
      (e ∙ ap answer_of h, f ∙ ap (λ (o : Out). table_of o t) h)

  -- ---- read_records

  fits : (o : Out) (n : ℕ) → out ≡ o → answer 0 n ≡ answer_of o → (6 * n ≤ length t) × (n ≤ most)
  unfolding answer_of
  fits (fault code place) n e a =
      let h = refusal_byte code (read_refuses kind counts s (shorter (length t / 6) most) code place e).0 in
      let z : 0 ≡ code = ap (λ (x : Answer). x.code) a in
      absurd (omega (arith, h, z))
  fits (done at m rs) n e a =
      let z : n ≡ m = ap (λ (x : Answer). x.place) a in
      let l : m ≤ shorter (length t / 6) most = holds_done _ (fits_reading kind counts s (shorter (length t / 6) most)) e in
      let h = shorter-least (length t / 6) most in
      (omega (arith, l, h, z), omega (arith, l, h, z))

  -- what `copy_records` asks
  pub asked : (n : ℕ) (u : List ℕ) → answer 0 n ≡ answer_of out → length u ≡ length t → (6 * n ≤ length u) × (n ≤ most)
  asked n u e l = let h = fits out n refl e in (omega (arith, h, l), omega (arith, h))

  module _ (old : List Node) where
    -- a refusal leaves them
    pub kept_out : (code place : ℕ) → answer code place ≡ answer_of out → (code ≡ 0 → ⊥) → old ≡ records_of out old
    unfolding answer_of records_of
    kept_out code place e z = go out e
      where
        go : (o : Out) → answer code place ≡ answer_of o → old ≡ records_of o old
        go (fault c p) a = refl
        go (done at n rs) a = absurd (z (ap (λ (x : Answer). x.code) a))

    -- the copy is what is said of the outcome
    pub copies_out : (n : ℕ) (u : List ℕ) (after : List Node) → answer 0 n ≡ answer_of out → u ≡ table_of out t → after ≡ copy_records u n old → after ≡ records_of out old
    unfolding answer_of table_of records_of nodes_from
    copies_out n u after e g h = h ∙ ap (λ (v : List ℕ). copy_records v n old) g ∙ go out refl (ends-reading kind counts s (shorter (length t / 6) most)) e
      where
        go : (o : Out) → out ≡ o → Holds (Ends 0) o → answer 0 n ≡ answer_of o → copy_records (table_of o t) n old ≡ records_of o old
        go (fault code place) q x a =
            let w = refusal_byte code (read_refuses kind counts s (shorter (length t / 6) most) code place q).0 in
            let z : 0 ≡ code = ap (λ (y : Answer). y.code) a in
            absurd (omega (arith, w, z))
        go (done at m rs) q (holds x) a =
            let z : n ≡ m = ap (λ (y : Answer). y.place) a in
            let k : m ≡ length rs = omega (arith, x) in
            ap {B = List Node} (λ (i : ℕ). nodes_from (flat rs ++ drop (6 * m) t) 0 i ++ drop i old) z
            ∙ ap {B = List Node} (λ (i : ℕ). nodes_from (flat rs ++ drop (6 * m) t) 0 i ++ drop m old) k
            ∙ ap {B = List Node} (λ (x : List Node). x ++ drop m old) (nodes-flat rs (drop (6 * m) t) [] 0 refl)

-- ---- record_of

-- past the end of the blank records
past_blank : (o : Out) (i : ℕ) → Holds (Ends 0) o → max_nodes ≤ i → get_or (records_of o (replicate max_nodes blank)) i blank ≡ blank
unfolding records_of
past_blank (fault code place) i h l = get_or-eq_default (replicate max_nodes blank) blank {n = i} (omega (arith, length-replicate max_nodes blank, l))
past_blank (done at n rs) i (holds h) l =
    let e = length-append rs (drop n (replicate max_nodes blank)) in
    let f = length-drop n (replicate max_nodes blank) in
    get_or-eq_default (rs ++ drop n (replicate max_nodes blank)) blank {n = i} (omega (arith, e, f, length-replicate max_nodes blank, h, l))

pub node_past : (kind : ℕ) (counts : Counts) (s : List ℕ) (lent i : ℕ) → max_nodes ≤ i → blank ≡ node_of (reading kind counts s lent) i
node_past kind counts s lent i l = sym (past_blank (reading kind counts s lent) i (ends-reading kind counts s lent) l)
