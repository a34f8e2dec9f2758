-- Document 01, "The night book": the model that the register is held against. It is fed the opening's counts and size, and how many numbers
-- are lent (document 02, wish 8), then the name of each call with its arguments except the register and the numbers, and nothing that the
-- program answers or keeps. Row r has the index r - 1.
use Rattle.std.specs.Prelude.{ℕ, ◌+◌, ◌-◌, ◌*◌, List, [], ◌∷◌, Bool, cond, ◌||◌, ltb, eqb}
use Rattle.std.proofs.Math.Option.{Option, none, some}
use Rattle.reach.specs.Reach.{Graph, thru}
use Rattle.standing.specs.Standing.{standing}
use Rattle.number.specs.Token.{no_counts}
use Rattle.number.specs.declared.token.Counts.{Counts}
use Rattle.grammar.specs.Judge.{Out}
use Rattle.grammar.specs.Limits.{max_rows}
use Rattle.answer.specs.Size.{max_size, words}
use Rattle.answer.specs.Answers.{ack_code}
use Rattle.filing.specs.Outcome.{judged, state_of, code_of, place_of, names_row}

-- "It has, for each row, the last blob filed or none, and a mark or none": 0 is no mark
pub record Model : Type 0 where
  pub counts : Counts
  pub blob : ℕ → Option (List ℕ)
  pub mark : ℕ → ℕ

-- a call's name and arguments
pub data Call : Type 0 where
  filing : (row : ℕ) → List ℕ → Call
  acknowledging : (row : ℕ) → Call
  asking : (row : ℕ) → Call

-- "Each number it answers goes with place 0"; an asking has standing, finding, place and mark with it
pub data Answer : Type 0 where
  number : (code : ℕ) → Answer
  report : (code standing finding place mark : ℕ) → Answer

-- ---- "A fresh check works from the book's blobs alone"

abbrev pub check : (List ℕ → Out) → Option (List ℕ) → Option Out
check f none = none
check f (some blob) = some (f blob)

abbrev pub outcome : Model → ℕ → Option Out
outcome b i = check (judged b.counts) (b.blob i)

abbrev pub state_m : Model → ℕ → ℕ
state_m b i = state_of (outcome b i)

-- row i names row j
abbrev pub refers_m : Model → Graph
refers_m b i j = names_row (outcome b i) (j + 1)

abbrev pub standing_m : Model → ℕ → ℕ
standing_m b i = standing b.counts.specs (state_m b) (refers_m b) i

-- ---- the calls

-- "16 for a row it hasn't", else 0
unfoldable pub row_code_m : Model → (row : ℕ) → ℕ
row_code_m b row = cond (eqb row 0 || ltb b.counts.specs row) 16 0

-- row j is row i or reaches it
abbrev pub touched : Model → ℕ → ℕ → Bool
touched b i j = eqb j i || thru (refers_m b) b.counts.specs j i

-- "the blob, good or bad, becomes the row's, and that row and every row that reaches it lose their marks"
unfoldable pub filed_m : Model → ℕ → Option (List ℕ) → Model
filed_m b i blob = record {
  counts = b.counts;
  blob = λ j. cond (eqb j i) blob (b.blob j);
  mark = λ j. cond (touched b i j) 0 (b.mark j);
}

-- "17 if the row stands EMPTY or CLEAN; 18 if it has a mark", else 0
unfoldable pub ack_code_m : Model → ℕ → ℕ
ack_code_m b i = ack_code (standing_m b i) (b.mark i)

-- "and the row has a mark"
unfoldable pub marked_m : Model → (i mark : ℕ) → Model
marked_m b i mark = record { counts = b.counts; blob = b.blob; mark = λ j. cond (eqb j i) mark (b.mark j) }

unfoldable pub answer_m : Model → Call → Answer
answer_m b (filing row blob) = number (row_code_m b row)
answer_m b (acknowledging row) = number (cond (eqb (row_code_m b row) 0) (ack_code_m b (row - 1)) (row_code_m b row))
-- "Asking: 16 with four 0s, else 0 with standing, finding, place and mark"
answer_m b (asking row) =
    cond (eqb (row_code_m b row) 0)
    (report 0 (standing_m b (row - 1)) (code_of (outcome b (row - 1))) (place_of (outcome b (row - 1))) (b.mark (row - 1)))
    (report (row_code_m b row) 0 0 0 0)

unfoldable pub next_m : Model → Call → Model
next_m b (filing row blob) = cond (eqb (row_code_m b row) 0) (filed_m b (row - 1) (some blob)) b
next_m b (acknowledging row) = cond (eqb (row_code_m b row) 0) (cond (eqb (ack_code_m b (row - 1)) 0) (marked_m b (row - 1) 1) b) b
next_m b (asking row) = b

unfoldable pub answers_m : Model → List Call → List Answer
answers_m b [] = []
answers_m b (c ∷ cs) = answer_m b c ∷ answers_m (next_m b c) cs

unfoldable pub end_m : Model → List Call → Model
end_m b [] = b
end_m b (c ∷ cs) = end_m (next_m b c) cs

-- ---- the opening

abbrev pub empty_m : Counts → Model
empty_m counts = record { counts = counts; blob = λ i. none; mark = λ i. 0 }

-- "Where a count or the size is out of bounds, its opening answers 13 or 19 in the order above, and it has no rows; else 0, and it has
-- rows 1 to the size, no blob and no mark"; document 02: "where they are too few for the size its opening gives 27, after 19, and it has no rows"
unfoldable pub opening_m : (counts : Counts) (lent : ℕ) → ℕ
opening_m counts lent =
    cond (ltb max_rows counts.defs || ltb max_rows counts.refs) 13 (cond (eqb counts.specs 0 || ltb max_size counts.specs) 19 (cond (ltb lent (counts.specs * words)) 27 0))

unfoldable pub opened_m : (counts : Counts) (lent : ℕ) → Model
opened_m counts lent = cond (eqb (opening_m counts lent) 0) (empty_m counts) (empty_m no_counts)
