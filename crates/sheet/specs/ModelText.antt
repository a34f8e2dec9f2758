-- Document 01, "The night book", for a sheet: what the model prints when it is opened with a sheet's counts, its blobs are filed and its rows
-- acknowledged. It sees nothing of the register. As many numbers are lent as the greatest size needs.
use Rattle.std.specs.Prelude.{ℕ, zero, suc, ◌+◌, ◌*◌, List, [], ◌∷◌, ◌++◌}
use Rattle.number.specs.declared.token.Counts.{Counts}
use Rattle.answer.specs.Size.{max_size, words}
use Rattle.answer.specs.Answers.{told}
use Rattle.register.specs.Model.{Model, Call, filing, acknowledging, asking, Answer, number, report, answer_m, answers_m, end_m, opened_m}
use Rattle.sheet.specs.Lines.{header, row_line, ack_line}

-- the filings of a sheet, from this row on
unfoldable pub filings : ℕ → List (List ℕ) → List Call
filings row [] = []
filings row (blob ∷ blobs) = filing row blob ∷ filings (row + 1) blobs

-- its acknowledgements
unfoldable pub acknowledgings : List ℕ → List Call
acknowledgings [] = []
acknowledgings (row ∷ acks) = acknowledging row ∷ acknowledgings acks

-- the line of an asking, and of an acknowledgement; the other kind of answer has none
abbrev pub report_line : ℕ → Answer → List ℕ
report_line row (number code) = []
report_line row (report code standing finding place mark) = row_line row (told code standing finding place mark)

abbrev pub answer_line : ℕ → Answer → List ℕ
answer_line row (number code) = ack_line row code
answer_line row (report code standing finding place mark) = []

-- k rows from this one on
unfoldable pub rows_m : Model → (k row : ℕ) → List ℕ
rows_m b zero row = []
rows_m b (suc k) row = report_line row (answer_m b (asking row)) ++ rows_m b k (row + 1)

-- each acknowledgement with its answer
unfoldable pub acks_m : List ℕ → List Answer → List ℕ
acks_m [] answers = []
acks_m (row ∷ acks) [] = []
acks_m (row ∷ acks) (a ∷ answers) = answer_line row a ++ acks_m acks answers

unfoldable pub text_m : Counts → List (List ℕ) → List ℕ → List ℕ
text_m counts blobs acks =
    header ++ rows_m (end_m (opened_m counts (max_size * words)) (filings 1 blobs ++ acknowledgings acks)) counts.specs 1
    ++ acks_m acks (answers_m (end_m (opened_m counts (max_size * words)) (filings 1 blobs)) (acknowledgings acks))
