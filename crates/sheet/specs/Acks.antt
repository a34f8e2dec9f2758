-- Internal: acknowledging by standings that are known and marks alone, without the register.
use Rattle.std.specs.Prelude.{ℕ, ◌-◌, List, [], ◌∷◌, ◌++◌, cond, get_or, set, eqb}
use Rattle.answer.specs.Answers.{row_code, ack_code}
use Rattle.sheet.specs.Lines.{ack_line}

module _ (standings : List ℕ) (rows : ℕ) where
  -- 16, 17, 18 or 0
  unfoldable pub ack_row_code : List ℕ → ℕ → ℕ
  ack_row_code marks row = cond (eqb (row_code rows row) 0) (ack_code (get_or standings (row - 1) 0) (get_or marks (row - 1) 0)) (row_code rows row)

  unfoldable pub ack_row_marks : List ℕ → ℕ → List ℕ
  ack_row_marks marks row = cond (eqb (ack_row_code marks row) 0) (set marks (row - 1) 1) marks

  unfoldable pub acks_by : List ℕ → List ℕ → List ℕ
  acks_by marks [] = []
  acks_by marks (row ∷ acks) = ack_line row (ack_row_code marks row) ++ acks_by (ack_row_marks marks row) acks

  unfoldable pub acked_marks : List ℕ → List ℕ → List ℕ
  acked_marks marks [] = marks
  acked_marks marks (row ∷ acks) = acked_marks (ack_row_marks marks row) acks
