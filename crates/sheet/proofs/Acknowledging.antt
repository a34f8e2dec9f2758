-- Laws of acknowledging by standings that are known, one acknowledgement at a time.
-- Assumes nothing.
use Prim.Native.Nat.{ℕ}
use mathlib.Core.Path.{◌≡◌, sym, ap, ◌∙◌, subst}
use mathlib.Core.List.{List, ◌∷◌}
use Rattle.text.specs.Printing.{Prints}
use Rattle.text.proofs.Laying.{prints_then}
use Rattle.sheet.specs.Lines.{ack_line}
use Rattle.sheet.specs.Acks.{ack_row_code, ack_row_marks, acks_by, acked_marks}

module _ (standings : List ℕ) (rows : ℕ) (marks acks : List ℕ) where
  module _ {v : ℕ} {rest : List ℕ} (e : acks ≡ v ∷ rest) {marks' : List ℕ} (em : marks' ≡ ack_row_marks standings rows marks v) where
    pub lines_next : {code : ℕ} → code ≡ ack_row_code standings rows marks v → (to r q : ℕ) (old mid new : List ℕ) → Prints (ack_line v code) to r old mid
        → Prints (acks_by standings rows marks' rest) r q mid new → Prints (acks_by standings rows marks acks) to q old new
    unfolding acks_by
    lines_next ec to r q old mid new p t =
        subst (λ l. Prints (acks_by standings rows marks l) to q old new) (sym e)
        (prints_then _ _ to r q old mid new (subst (λ c. Prints (ack_line v c) to r old mid) ec p)
        (subst (λ m. Prints (acks_by standings rows m rest) r q mid new) em t))

    pub marks_next : {w : List ℕ} → acked_marks standings rows marks acks ≡ w → acked_marks standings rows marks' rest ≡ w
    unfolding acked_marks
    marks_next x = ap (λ m. acked_marks standings rows m rest) em ∙ sym (ap (acked_marks standings rows marks) e) ∙ x
