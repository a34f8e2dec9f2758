-- The ways out of `print`: an accepted sheet's print, by the register that its blobs make.
-- Assumes nothing.
use Prim.Native.Nat.{ℕ, ◌<◌, ◌≤◌, ◌^◌}
use mathlib.Core.Path.{◌≡◌, sym, ap, ◌∙◌, subst}
use mathlib.Core.List.{List, ◌++◌}
use lib.ListN.{length}
use Rattle.answer.specs.Answers.{answer}
use Rattle.answer.specs.Size.{max_size}
use Rattle.register.specs.Calls.{Held, holding, standings_of}
use Rattle.register.specs.declared.Register.{Register}
use Rattle.layout.specs.Layout.{acks_from}
use Rattle.sheet.specs.Lines.{header}
use Rattle.sheet.specs.Filed.{register_of}
use Rattle.sheet.specs.Text.{own_sets, printed, accepted_text, Runs}
use Rattle.text.specs.Printing.{max_offset, further, laid}
use Rattle.sheet.specs.Acks.{acks_by, acked_marks}
use Rattle.sheet.specs.Rows.{rows_by, printed_by}
use Rattle.layout.specs.declared.Layout.{Layout}
use Rattle.register.proofs.Lent.{Provided}
use Rattle.sheet.proofs.Agreement.{register-provided, printed-agree}
use Rattle.sheet.proofs.Fits.{runs_short, runs_fits}
use Rattle.sheet.proofs.Lengths.{printed-length}

module _ (s : List ℕ) (l : Layout) {g : Register} {sets : List ℕ} (eg : holding g sets ≡ register_of s l own_sets) where
  provided : Provided (holding g sets)
  provided = subst (λ (y : Held). Provided y) (sym eg) (register-provided s l own_sets)

  pub rows_fit : g.counts.specs ≤ max_size
  rows_fit = provided.size

module _ (s : List ℕ) (l : Layout) {g : Register} {sets : List ℕ} (eg : holding g sets ≡ register_of s l own_sets) {standings : List ℕ} (es : standings ≡ standings_of g sets) (h : l.acknowledged < 2 ^ 32)
    {needed : ℕ} (en : needed ≡ further 0 (length (printed_by g standings g.marks (acks_from l.acknowledged s l.starts.acks)))) (out : List ℕ) where
  by_register : printed_by g standings g.marks (acks_from l.acknowledged s l.starts.acks) ≡ accepted_text s l
  by_register =
      ap (λ (y : List ℕ). printed_by g y g.marks (acks_from l.acknowledged s l.starts.acks)) es
      ∙ sym (printed-agree g sets (provided s l eg).size (provided s l eg).enough (acks_from l.acknowledged s l.starts.acks))
      ∙ ap (λ (y : Held). printed y (acks_from l.acknowledged s l.starts.acks)) eg

  bound : length (printed_by g standings g.marks (acks_from l.acknowledged s l.starts.acks)) ≤ max_offset
  bound = printed-length g (rows_fit s l eg) standings g.marks l.acknowledged h s l.starts.acks

  pub print_short : length out < needed → Runs (accepted_text s l) (answer 15 needed) out out
  print_short k = subst (λ t. Runs t (answer 15 needed) out out) by_register (runs_short _ bound en out k)

  pub print_fits : needed ≤ length out → {marks : List ℕ} → marks ≡ acked_marks standings g.counts.specs g.marks (acks_from l.acknowledged s l.starts.acks)
      → {new : List ℕ} → new ≡ laid out 0 (header ++ rows_by g standings marks g.counts.specs 0 ++ acks_by standings g.counts.specs g.marks (acks_from l.acknowledged s l.starts.acks))
      → Runs (accepted_text s l) (answer 0 needed) out new
  unfolding printed_by
  print_fits k em {new} e =
      subst (λ t. Runs t (answer 0 needed) out new) by_register
      (runs_fits _ bound en out k
      (e ∙ ap (λ m. laid out 0 (header ++ rows_by g standings m g.counts.specs 0 ++ acks_by standings g.counts.specs g.marks (acks_from l.acknowledged s l.starts.acks))) em))
