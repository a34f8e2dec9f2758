-- What is emitted, judged again and held against the table: the ways through `copy_confirmed`, `write_known` and `write`, as laws over plain values.
-- Assumes nothing.
use Prim.Native.Nat.{ℕ, ◌+◌, ◌≤◌, ◌<◌}
use native.Mathlib.Omega.{arith}
use mathlib.Core.Path.{◌≡◌, refl, sym, ap, ◌∙◌}
use mathlib.Core.Bool.{Bool, true, false}
use mathlib.Core.List.{List, ◌++◌}
use lib.ListN.{length, take, drop, replicate, length-replicate}
use lib.Seq.{sets, sets-eq, take_at, length-take-le}
use lib.Dec.{leb}
use borrow.Author.Tests.{le-leb, lt-leb}
use Rattle.number.specs.declared.token.Counts.{Counts}
use Rattle.grammar.specs.Limits.{max_bytes, max_depth}
use Rattle.grammar.specs.Kinds.{max_kind}
use Rattle.grammar.specs.Judge.{fault, check, known_counts, judge}
use Rattle.grammar.specs.Emit.{Emitted, torn, wrote, times, emit, emitted}
use Rattle.grammar.specs.Writer.{has_table, confirmed, writing}
use Rattle.answer.specs.declared.Answer.{Answer}
use Rattle.answer.specs.Answers.{answer}
use Rattle.emission.specs.Emission.{result_of, leaves_of, Emits}
use Rattle.emission.specs.End.{Emit, Next, Stop}
use Rattle.emission.proofs.Laws.{clash, Fit, fits, over, fit, emits_is, found, next_within, times-one}
use Rattle.answer.specs.Written.{answer_of, output_of, Writes}
use Rattle.answer.specs.declared.refusal.Fault.{Fault}
use Rattle.std.specs.Prelude.{Option, Some, None, Result}
use Rattle.writer.specs.Within.{WritesWithin}

-- ---- copy_confirmed: s is the blob, o the output

-- more bytes than a blob has are refused
judge-long : (kind : ℕ) (counts : Counts) (s t : List ℕ) → max_bytes < length s → has_table t (judge kind counts s) ≡ false
unfolding has_table judge
judge-long kind counts s t h = rw (lt-leb _ _ h) (go (leb kind max_kind) (known_counts counts))
  where
    go : (u v : Bool) → has_table t (check u 12 0 (λ _. check v 13 0 (λ _. fault 1 0))) ≡ false
    go true true = refl
    go true false = refl
    go false v = refl

-- an answer and an output are those of what the writer gives
abbrev Gives : Answer → (after before : List ℕ) → (kind : ℕ) → Counts → List ℕ → Emitted → Type 0
Gives r after before kind counts t q = Writes (confirmed kind counts t (length before) q) r before after

module _ (kind : ℕ) (counts : Counts) (t s o : List ℕ) where
  pub copy_not : false ≡ has_table t (judge kind counts s) → Gives (answer 14 0) o o kind counts t (wrote s 0)
  unfolding answer_of output_of
  copy_not e = rw (← e) (refl, refl)

  module _ (e : true ≡ has_table t (judge kind counts s)) where
    pub copy_short : length o < length s → Gives (answer 15 (length s)) o o kind counts t (wrote s 0)
    unfolding answer_of output_of
    copy_short h = rw (← e, lt-leb (length s) (length o) h) (refl, refl)

    pub copy_done : (o₁ : List ℕ) → length s ≤ length o → o₁ ≡ s ++ drop (length s) o → Gives (answer 0 (length s)) o₁ o kind counts t (wrote s 0)
    unfolding answer_of output_of
    copy_done o₁ h j = rw (← e, le-leb (length s) (length o) h) (refl, j)

-- ---- write_within: y is what emitting gave, o₁ what it left of the bytes b

-- one subtree from record 0 on is the whole table's
whole : (t : List ℕ) (y : Emit) (b o₁ : List ℕ) → Emits (times (emit max_depth t) 1 0) 0 y b o₁ → Emits (emitted t) 0 y b o₁
whole t y b o₁ x = emits_is _ _ 0 y b o₁ (sym (times-one (emit max_depth t) 0)) x

module _ (t : List ℕ) (y : Emit) (b o₁ : List ℕ) (x : Emits (times (emit max_depth t) 1 0) 0 y b o₁) (at n : ℕ) (g : y ≡ Next at n) where
  pub blob-within : at ≤ length o₁
  blob-within = next_within _ 0 at n b o₁ (found _ 0 y _ b o₁ g x)

  pub blob-length : length (take at o₁) ≡ at
  blob-length = length-take-le at o₁ blob-within

  blob-emitted : emitted t ≡ wrote (take at o₁) n
  unfolding result_of leaves_of
  blob-emitted = go (emitted t) (whole t y b o₁ x)
    where
      by_fit : (bs : List ℕ) (m : ℕ) → (0 + length bs ≤ length b → o₁ ≡ sets b 0 bs) → Fit bs 0 (length b) y (Next (0 + length bs) m) → wrote bs m ≡ wrote (take at o₁) n
      by_fit bs m f (fits h e) =
          let w : Next at n ≡ Next (0 + length bs) m = sym g ∙ e in
          let i : at ≡ 0 + length bs = cc in
          let j : n ≡ m = cc in
          let l : length bs ≡ at = omega arith in
          let v : o₁ ≡ bs ++ drop (0 + length bs) b = f h ∙ sets-eq bs b 0 h in
          let u : take at o₁ ≡ bs = ap (take at) v ∙ take_at bs _ at l in
          sym (ap (λ (z : List ℕ). wrote z n) u ∙ ap (wrote bs) j)
      by_fit bs m f (over h e) = clash (sym e ∙ g)

      go : (q : Emitted) → Emits q 0 y b o₁ → q ≡ wrote (take at o₁) n
      go torn z = clash (sym z.result ∙ g)
      go (wrote bs m) z = by_fit bs m z.left (fit bs m 0 (length b) y z.result)

  pub write_copied : (kind : ℕ) (counts : Counts) (o : List ℕ) (r : Answer) (o₂ : List ℕ) → Gives r o₂ o kind counts t (wrote (take at o₁) 0) → Gives r o₂ o kind counts t (emitted t)
  write_copied kind counts o r o₂ h = rw blob-emitted h

-- what stopped within n bytes is no result of the emission there
pub stopped-within : (t : List ℕ) (n : ℕ) (o₁ : List ℕ) → Emits (times (emit max_depth t) 1 0) 0 Stop (replicate n 0) o₁ → result_of (emitted t) 0 n ≡ Stop
stopped-within t n o₁ x = ap (result_of (emitted t) 0) (sym (length-replicate {A = ℕ} n 0)) ∙ sym (whole t Stop (replicate n 0) o₁ x).result

-- ---- write_known: more bytes than a blob has

-- where nothing is answered nothing is written
pub within_none : (room kind : ℕ) (counts : Counts) (t : List ℕ) (r : Option (Result ℕ Fault)) (old new : List ℕ) → WritesWithin room kind counts t r old new → ((x : Result ℕ Fault) → r ≡ Some x → ⊥) → new ≡ old
within_none room kind counts t (Some x) old new w h = absurd (h x refl)
within_none room kind counts t None old new w h = w.0

pub gives_kept : (kind : ℕ) (counts : Counts) (t : List ℕ) (r : Answer) (o : List ℕ) {o₁ : List ℕ} → o₁ ≡ o → Gives r o o kind counts t (emitted t) → Gives r o₁ o kind counts t (emitted t)
gives_kept kind counts t r o e h = (h.0, e ∙ h.1)

pub write_stop : (kind : ℕ) (counts : Counts) (t o : List ℕ) → result_of (emitted t) 0 max_bytes ≡ Stop → Gives (answer 14 0) o o kind counts t (emitted t)
unfolding answer_of output_of
write_stop kind counts t o g = go (emitted t) g
  where
    by_fit : (bs : List ℕ) (n : ℕ) → Fit bs 0 max_bytes Stop (Next (0 + length bs) n) → Gives (answer 14 0) o o kind counts t (wrote bs n)
    by_fit bs n (fits h e) = clash e
    by_fit bs n (over h e) = let k : max_bytes < length bs = omega arith in rw (judge-long kind counts bs t k) (refl, refl)

    go : (q : Emitted) → result_of q 0 max_bytes ≡ Stop → Gives (answer 14 0) o o kind counts t q
    go torn z = (refl, refl)
    go (wrote bs n) z = by_fit bs n (fit bs n 0 max_bytes Stop (sym z))

-- ---- write

module _ (kind : ℕ) (counts : Counts) (t o : List ℕ) where
  pub write_kind : max_kind < kind → Writes (writing kind counts t (length o)) (answer 12 0) o o
  unfolding writing answer_of output_of
  write_kind h = rw (lt-leb _ _ h) (refl, refl)

  pub write_rows : kind ≤ max_kind → known_counts counts ≡ false → Writes (writing kind counts t (length o)) (answer 13 0) o o
  unfolding writing answer_of output_of
  write_rows h k = rw (le-leb _ _ h, k) (refl, refl)

  pub write_known : (r : Answer) (o₁ : List ℕ) → kind ≤ max_kind → known_counts counts ≡ true → Gives r o₁ o kind counts t (emitted t) → Writes (writing kind counts t (length o)) r o o₁
  unfolding writing
  write_known r o₁ h k g = rw (le-leb _ _ h, k) g
