-- Demand 2 back again, at the writer's level: what the contract of `write` means, by the declarative grammar, and that reading and
-- writing undo each other. t is the flat table, o the output lent, u the table lent to the reader.
-- Assumes nothing.
use Prim.Native.Nat.{ℕ, ◌*◌, ◌/◌, ◌≤◌, ◌<◌}
use native.Mathlib.Omega.{arith}
use mathlib.Core.Path.{◌≡◌, refl, sym, ap, ◌∙◌}
use mathlib.Core.Bool.{true, false}
use mathlib.Core.List.{List, ◌++◌}
use mathlib.Core.Logic.{◌⊎◌, inl, inr}
use lib.ListN.{length, take, drop}
use lib.Seq.{take_at}
use lib.Dec.{T}
use Rattle.number.specs.Number.{Bytes}
use Rattle.number.specs.declared.token.Counts.{Counts}
use Rattle.grammar.specs.Kinds.{max_kind}
use Rattle.grammar.specs.Limits.{max_bytes}
use Rattle.grammar.specs.Refusals.{write_refusals, among}
use Rattle.grammar.specs.Table.{flat}
use Rattle.grammar.specs.Judge.{Out, fault, done, known_counts, reading}
use Rattle.grammar.specs.Derives.{HasTable}
use Rattle.grammar.specs.Writer.{writing}
use Rattle.grammar.specs.declared.Node.{Node}
use Rattle.grammar.proofs.Emits.{length_flat}
use Rattle.grammar.proofs.Reading.{nodes, read_accepted}
use Rattle.grammar.proofs.Refusals.{read_refuses, refusal_byte}
use Rattle.grammar.proofs.Writing as grammar
use Rattle.reader.specs.Answer as reader
use Rattle.answer.specs.declared.Answer.{Answer}
use Rattle.answer.specs.Answers.{answer}
use Rattle.reader.proofs.Theorems.{read_derived}
use Rattle.answer.specs.Written.{Written, written, fitted, answer_of, output_of}

-- What `write` answers and leaves: the one blob with the table, or a refusal and the output as it was. There is no sixth.
pub data Verdict (kind : ℕ) (counts : Counts) (t o : List ℕ) : Answer → List ℕ → Type 0 where
  unknown_kind : max_kind < kind → Verdict kind counts t o (answer 12 0) o
  too_many_rows : kind ≤ max_kind → known_counts counts ≡ false → Verdict kind counts t o (answer 13 0) o
  no_blob : kind ≤ max_kind → known_counts counts ≡ true → ((s : List ℕ) → HasTable kind counts s t → ⊥) → Verdict kind counts t o (answer 14 0) o
  short : (s : List ℕ) → HasTable kind counts s t → length o < length s → Verdict kind counts t o (answer 15 (length s)) o
  given : (s : List ℕ) → HasTable kind counts s t → length s ≤ length o → Verdict kind counts t o (answer 0 (length s)) (s ++ drop (length s) o)

module _ (kind : ℕ) (counts : Counts) (t : List ℕ) where
  pub write_verdict : (o : List ℕ) → Verdict kind counts t o (answer_of (writing kind counts t (length o))) (output_of (writing kind counts t (length o)) o)
  unfolding answer_of output_of
  write_verdict o = go _ (grammar.verdict kind counts t (length o))
    where
      go : (w : Written) → grammar.Verdict kind counts t (length o) w → Verdict kind counts t o (answer_of w) (output_of w o)
      go w (grammar.unknown_kind h) = unknown_kind h
      go w (grammar.too_many_rows h k) = too_many_rows h k
      go w (grammar.no_blob h k f) = no_blob h k f
      go w (grammar.short s h l) = short s h l
      go w (grammar.given s h l) = given s h l

  -- done, or refused by a number of the list
  pub write_refuses : (room : ℕ) → let n = (answer_of (writing kind counts t room)).code in (n ≡ 0) ⊎ T (among write_refusals n)
  unfolding answer_of
  write_refuses room = go _ (grammar.verdict kind counts t room)
    where
      go : (w : Written) → grammar.Verdict kind counts t room w → ((answer_of w).code ≡ 0) ⊎ T (among write_refusals (answer_of w).code)
      go w (grammar.unknown_kind h) = inr tt
      go w (grammar.too_many_rows h k) = inr tt
      go w (grammar.no_blob h k f) = inr tt
      go w (grammar.short s h l) = inr tt
      go w (grammar.given s h l) = inl refl

  -- the bytes named are a blob's
  pub write_place : (room : ℕ) → (answer_of (writing kind counts t room)).place ≤ max_bytes
  unfolding answer_of
  write_place room = go _ (grammar.verdict kind counts t room)
    where
      go : (w : Written) → grammar.Verdict kind counts t room w → (answer_of w).place ≤ max_bytes
      go w (grammar.unknown_kind h) = omega arith
      go w (grammar.too_many_rows h k) = omega arith
      go w (grammar.no_blob h k f) = omega arith
      go w (grammar.short s h l) = h.signature.short
      go w (grammar.given s h l) = h.signature.short

  -- reading what was written gives the table back, in as many records as the table has
  pub read_written : (room : ℕ) (s u : List ℕ) → writing kind counts t room ≡ written s → length t ≤ length u
      → (reader.answer_of (reading kind counts s (length u / 6)) ≡ answer 0 (length t / 6)) × (reader.table_of (reading kind counts s (length u / 6)) u ≡ t ++ drop (length t) u)
  read_written room s u e l =
      let h = (grammar.writes kind counts t room s e).0 in
      let c : h.nodes ≡ length h.records = (nodes kind counts s h.signature).count ∙ omega arith in
      let m : length t ≡ 6 * h.nodes = sym (ap length h.table) ∙ length_flat h.records ∙ ap (λ (n : ℕ). 6 * n) (sym c) in
      let d : h.nodes ≡ length t / 6 = omega arith in
      let r = read_derived kind counts s u h.nodes h.records h.signature (omega arith) in
      (r.0 ∙ ap (answer 0) d, r.1 ∙ ap (λ (x : List ℕ). x ++ drop (6 * h.nodes) u) h.table ∙ ap (λ (n : ℕ). t ++ drop n u) (sym m))

module _ (kind : ℕ) (counts : Counts) (s u : List ℕ) (room : ℕ) (bytes : Bytes s) where
  done-back : (at n : ℕ) (rs : List Node) → reading kind counts s (length u / 6) ≡ done at n rs
      → writing kind counts (take (6 * n) (reader.table_of (reading kind counts s (length u / 6)) u)) room ≡ fitted room s
  unfolding reader.table_of
  done-back at n rs e =
      let g = (read_accepted kind counts s bytes (length u / 6) at n rs e).2 in
      let c : n ≡ length rs = (nodes kind counts s g).count ∙ omega arith in
      let m : length (flat rs) ≡ 6 * n = length_flat rs ∙ ap (λ (k : ℕ). 6 * k) (sym c) in
      let v : take (6 * n) (reader.table_of (reading kind counts s (length u / 6)) u) ≡ flat rs = ap (λ (x : Out). take (6 * n) (reader.table_of x u)) e ∙ take_at (flat rs) _ (6 * n) m in
      ap (λ (x : List ℕ). writing kind counts x room) v
      ∙ grammar.writable kind counts (flat rs) room s record { bytes = bytes; nodes = n; records = rs; signature = g; table = refl }

  -- writing the records that were read gives the blob back, or 15 with its length
  pub write_read : (n : ℕ) → reader.answer_of (reading kind counts s (length u / 6)) ≡ answer 0 n
      → writing kind counts (take (6 * n) (reader.table_of (reading kind counts s (length u / 6)) u)) room ≡ fitted room s
  unfolding reader.answer_of
  write_read n e = go (reading kind counts s (length u / 6)) refl e
    where
      go : (x : Out) → reading kind counts s (length u / 6) ≡ x → reader.answer_of x ≡ answer 0 n
          → writing kind counts (take (6 * n) (reader.table_of (reading kind counts s (length u / 6)) u)) room ≡ fitted room s
      go (fault code place) g q =
          let z : code ≡ 0 = ap (λ (a : Answer). a.code) q in
          let r = refusal_byte code (read_refuses kind counts s (length u / 6) code place g).0 in
          absurd (omega arith)
      go (done at m rs) g q = let z : m ≡ n = ap (λ (a : Answer). a.place) q in done-back at n rs (g ∙ ap (λ (k : ℕ). done at k rs) z)
