-- Internal: the print by standings that are known and marks alone.
use Rattle.std.specs.Prelude.{ℕ, zero, suc, ◌+◌, List, [], ◌++◌, get_or}
use Rattle.answer.specs.Answers.{asked_of}
use Rattle.answer.specs.declared.Told.{Told}
use Rattle.register.specs.declared.Register.{Register}
use Rattle.sheet.specs.Lines.{header, row_line}
use Rattle.sheet.specs.Acks.{acks_by, acked_marks}

-- what asking row i gives, by these standings and marks
unfoldable pub asked_by : Register → (standings marks : List ℕ) → ℕ → Told
asked_by g standings marks i = asked_of (get_or standings i 0) (get_or g.states i 0) (get_or g.codes i 0) (get_or g.places i 0) (get_or marks i 0)

-- the lines of k rows, from row i on
unfoldable pub rows_by : Register → (standings marks : List ℕ) → (k i : ℕ) → List ℕ
rows_by g standings marks zero i = []
rows_by g standings marks (suc k) i = row_line (i + 1) (asked_by g standings marks i) ++ rows_by g standings marks k (i + 1)

-- the print by these standings, and marks before the acknowledgements
unfoldable pub printed_by : Register → (standings marks acks : List ℕ) → List ℕ
printed_by g standings marks acks =
    header ++ rows_by g standings (acked_marks standings g.counts.specs marks acks) g.counts.specs 0 ++ acks_by standings g.counts.specs marks acks
