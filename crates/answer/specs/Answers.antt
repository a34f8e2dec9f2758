-- What every call answers, and document 01, "The register": what its calls answer, by the number of rows, the numbers lent and what is kept of a row.
use Rattle.std.specs.Prelude.{ℕ, ◌*◌, cond, ◌||◌, ltb, eqb, Result, Ok, Err}
use Rattle.answer.specs.Size.{max_size, words}
use Rattle.answer.specs.Refusal.{number_of}
use Rattle.answer.specs.declared.refusal.Refusal.{Refusal}
use Rattle.answer.specs.declared.refusal.Fault.{Fault}
use Rattle.answer.specs.declared.Answer.{Answer}
use Rattle.answer.specs.declared.Asked.{Asked}
use Rattle.answer.specs.declared.Told.{Told}

-- a number and its place
abbrev pub answer : (code place : ℕ) → Answer
answer code place = record { code = code; place = place }

-- what a call that reads or writes answers: 0 "done" with the nodes or the bytes written, or a refusal's number and place
abbrev pub panel_of : Result ℕ Fault → Answer
panel_of (Ok place) = answer 0 place
panel_of (Err fault) = answer (number_of fault.refusal) fault.place

-- the number that a call of the register answers: 0 "done", or its refusal's
abbrev pub number_in : {A : Type 0} → Result A Refusal → ℕ
number_in (Ok a) = 0
number_in (Err refusal) = number_of refusal

-- 16 "row not in 1..rows", else 0
unfoldable pub row_code : (rows row : ℕ) → ℕ
row_code rows row = cond (eqb row 0 || ltb rows row) 16 0

-- "Filing, asking and acknowledging first answer 19 for a register whose row number is above" the greatest; then, document 02, 27 where fewer
-- numbers are lent than its rows need; then 16 or 0
unfoldable pub admit_code : (lent rows row : ℕ) → ℕ
admit_code lent rows row = cond (ltb max_size rows) 19 (cond (ltb lent (rows * words)) 27 (row_code rows row))

-- "17 if the row stands EMPTY or CLEAN; 18 if it has a mark", else 0
unfoldable pub ack_code : (standing mark : ℕ) → ℕ
ack_code standing mark = cond (eqb standing 0 || eqb standing 4) 17 (cond (eqb mark 0) 0 18)

-- what asking answers: a number, with the row's standing, finding, place and mark
abbrev pub told : (code standing finding place mark : ℕ) → Told
told code standing finding place mark = record { code = code; standing = standing; finding = finding; place = place; mark = mark }

-- a row's report, with 0 "done"
abbrev pub answered : Asked → Told
answered a = told 0 a.standing a.finding a.place a.mark

-- "a refused asking has all four 0"
abbrev pub told_of : Result Asked Refusal → Told
told_of (Ok a) = answered a
told_of (Err refusal) = told (number_of refusal) 0 0 0 0

-- "finding and place 0 unless BAD", by what is kept of a row
abbrev pub asked_of : (standing state code place mark : ℕ) → Told
asked_of standing state code place mark = told 0 standing (cond (eqb state 1) code 0) (cond (eqb state 1) place 0) mark
