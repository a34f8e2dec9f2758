-- Document 01, "Deposit sheet": the lines that are printed, each ended by 0A, in ASCII.
use Rattle.std.specs.Prelude.{ℕ, List, [], ◌∷◌, ◌++◌, cond, eqb}
use Rattle.answer.specs.declared.Told.{Told}
use Rattle.text.specs.Numeral.{decimal}

abbrev pub newline : List ℕ
newline = 0x0A ∷ []

-- a space and a number
abbrev pub field : ℕ → List ℕ
field n = 0x20 ∷ decimal n

-- "row standing code place mark"
abbrev pub header : List ℕ
header =
    0x72 ∷ 0x6F ∷ 0x77 ∷ 0x20 ∷ 0x73 ∷ 0x74 ∷ 0x61 ∷ 0x6E ∷ 0x64 ∷ 0x69 ∷ 0x6E ∷ 0x67 ∷ 0x20
    ∷ 0x63 ∷ 0x6F ∷ 0x64 ∷ 0x65 ∷ 0x20 ∷ 0x70 ∷ 0x6C ∷ 0x61 ∷ 0x63 ∷ 0x65 ∷ 0x20 ∷ 0x6D ∷ 0x61 ∷ 0x72 ∷ 0x6B ∷ newline

-- " EMPTY", " BAD", " LOOP", " LEANS" and " CLEAN"
unfoldable pub standing_name : ℕ → List ℕ
standing_name n =
    cond (eqb n 0) (0x20 ∷ 0x45 ∷ 0x4D ∷ 0x50 ∷ 0x54 ∷ 0x59 ∷ [])
    (cond (eqb n 1) (0x20 ∷ 0x42 ∷ 0x41 ∷ 0x44 ∷ [])
    (cond (eqb n 2) (0x20 ∷ 0x4C ∷ 0x4F ∷ 0x4F ∷ 0x50 ∷ [])
    (cond (eqb n 3) (0x20 ∷ 0x4C ∷ 0x45 ∷ 0x41 ∷ 0x4E ∷ 0x53 ∷ [])
    (0x20 ∷ 0x43 ∷ 0x4C ∷ 0x45 ∷ 0x41 ∷ 0x4E ∷ []))))

-- a row: its number, standing, finding, place and mark
unfoldable pub row_line : ℕ → Told → List ℕ
row_line row a =
    decimal row ++ standing_name a.standing ++ field a.finding ++ field a.place ++ field a.mark ++ newline

-- "`ack`, row and answer"
unfoldable pub ack_line : (row code : ℕ) → List ℕ
ack_line row code = (0x61 ∷ 0x63 ∷ 0x6B ∷ []) ++ field row ++ field code ++ newline

-- "sheet refused at N"
unfoldable pub refusal_line : ℕ → List ℕ
refusal_line place =
    (0x73 ∷ 0x68 ∷ 0x65 ∷ 0x65 ∷ 0x74 ∷ 0x20 ∷ 0x72 ∷ 0x65 ∷ 0x66 ∷ 0x75 ∷ 0x73 ∷ 0x65 ∷ 0x64 ∷ 0x20 ∷ 0x61 ∷ 0x74 ∷ [])
    ++ field place ++ newline
