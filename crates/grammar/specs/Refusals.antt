-- Document 01, "Numbers on the panel": the numbers by which reader and writer refuse.
use Rattle.std.specs.Prelude.{ℕ, Bool, false, ◌||◌, List, [], ◌∷◌, T, eqb}

-- the reader: 1 a blob too long, 2 bytes that end early, 3 a malformed number, 4 a count, 5 a code byte, 6 the depth, 7 a tag, 8 a row, 9 bytes left over,
-- 10 the nodes, 11 the records lent, 12 the kind, 13 the row counts
abbrev pub refusals : List ℕ
refusals = 1 ∷ 2 ∷ 3 ∷ 4 ∷ 5 ∷ 6 ∷ 7 ∷ 8 ∷ 9 ∷ 10 ∷ 11 ∷ 12 ∷ 13 ∷ []

-- the writer: 12 and 13 as the reader, 14 no blob that has the table, 15 the output
abbrev pub write_refusals : List ℕ
write_refusals = 12 ∷ 13 ∷ 14 ∷ 15 ∷ []

abbrev pub among : List ℕ → ℕ → Bool
among [] n = false
among (x ∷ xs) n = eqb n x || among xs n

-- a number of the reader's list
abbrev pub Refusal : ℕ → Type 0
Refusal n = T (among refusals n)
