-- The ways out of the two functions that print: a text that is laid over the output where it fits.
-- Assumes nothing.
use Prim.Native.Nat.{ℕ, ◌+◌, ◌<◌, ◌≤◌}
use mathlib.Core.Path.{◌≡◌, refl, sym, ap, ◌∙◌}
use mathlib.Core.List.{List, ◌++◌}
use native.Mathlib.Omega.{arith}
use lib.ListN.{length, drop, length-append}
use lib.Seq.{sets-eq}
use mathlib.Core.Bool.{Bool, true, false, cond}
use lib.Dec.{leb}
use borrow.Author.Tests.{lt-leb, le-leb, leb-true}
use Rattle.answer.specs.declared.Answer.{Answer}
use Rattle.answer.specs.Answers.{answer}
use Rattle.answer.specs.Written.{written, refused, answer_of, output_of}
use Rattle.register.specs.declared.Register.{Register}
use Rattle.sheet.specs.Lines.{header}
use Rattle.sheet.specs.Acks.{acks_by, acked_marks}
use Rattle.sheet.specs.Rows.{rows_by, printed_by}
use Rattle.text.specs.Printing.{max_offset, further, laid}
use Rattle.sheet.specs.Text.{Runs}
use Rattle.text.proofs.Laying.{further-is, further-add, laid-sets}

module _ (text : List ℕ) (h : length text ≤ max_offset) {needed : ℕ} (e : needed ≡ further 0 (length text)) (out : List ℕ) where
  needs : needed ≡ length text
  needs = let z : 0 + length text ≡ length text = omega arith in e ∙ further-is (length text) 0 (omega arith) ∙ z

  pub runs_short : length out < needed → Runs text (answer 15 needed) out out
  unfolding Runs answer_of output_of
  runs_short k = let l = lt-leb (length text) (length out) (omega (arith, needs)) in (rw l (ap (λ n. answer 15 n) needs), rw l refl)

  pub runs_fits : needed ≤ length out → {new : List ℕ} → new ≡ laid out 0 text → Runs text (answer 0 needed) out new
  unfolding Runs answer_of output_of
  runs_fits k en =
      let l = le-leb (length text) (length out) (omega (arith, needs)) in
      let z : 0 + length text ≡ length text = omega arith in
      (rw l (ap (λ n. answer 0 n) needs), rw l (en ∙ laid-sets text out 0 (omega arith) ∙ sets-eq text out 0 (omega (arith, needs)) ∙ ap (λ k. text ++ drop k out) z))

-- what is printed is within the output
pub runs_within : (text : List ℕ) (n : ℕ) (out new : List ℕ) → Runs text (answer 0 n) out new → n ≤ length out
unfolding Runs answer_of
runs_within text n out new x = go (leb (length text) (length out)) refl x.0
  where
    go : (b : Bool) → leb (length text) (length out) ≡ b → answer 0 n ≡ answer_of (cond b (written text) (refused 15 (length text))) → n ≤ length out
    go true h e = omega (arith, leb-true (length text) (length out) h, ap (λ (a : Answer). a.place) e)
    go false h e = let z : ◌≡◌ {A = ℕ} 0 15 = ap (λ (a : Answer). a.code) e in absurd (omega arith)

-- the acknowledgements measured first, then the rows by the marks after them
pub sized : (g : Register) (standings marks acks : List ℕ) {after : List ℕ} {size r : ℕ} → after ≡ acked_marks standings g.counts.specs marks acks
    → size ≡ further 0 (length (acks_by standings g.counts.specs marks acks)) → r ≡ further size (length (header ++ rows_by g standings after g.counts.specs 0))
    → r ≡ further 0 (length (printed_by g standings marks acks))
unfolding printed_by
sized g standings marks acks {after} {size} em es er =
    let head = header ++ rows_by g standings (acked_marks standings g.counts.specs marks acks) g.counts.specs 0 in
    let tail = acks_by standings g.counts.specs marks acks in
    let z : length tail + length head ≡ length (head ++ tail) = omega (arith, length-append head tail) in
    er ∙ ap (λ m. further size (length (header ++ rows_by g standings m g.counts.specs 0))) em ∙ ap (λ k. further k (length head)) es
    ∙ sym (further-add (length tail) (length head) 0) ∙ ap (further 0) z
