-- How long a print can be.
-- Assumes nothing.
use Prim.Native.Nat.{ℕ, zero, suc, ◌+◌, ◌*◌, ◌^◌, ◌<◌, ◌≤◌}
use mathlib.Core.List.{List, [], ◌∷◌, ◌++◌}
use mathlib.Core.Bool.{Bool, true, false, cond}
use native.Mathlib.Omega.{arith}
use native.Mathlib.Nat.{le_refl}
use lib.ListN.{length, length-append}
use lib.Dec.{eqb}
use Rattle.number.specs.Checked.{checked_at}
use Rattle.answer.specs.Size.{max_size}
use Rattle.register.specs.declared.Register.{Register}
use Rattle.answer.specs.declared.Told.{Told}
use Rattle.layout.specs.Layout.{acks_from}
use Rattle.layout.proofs.Lists.{list_length}
use Rattle.text.specs.Numeral.{max_digits, decimal}
use Rattle.text.proofs.Numerals.{numeral-length}
use Rattle.sheet.specs.Lines.{field, newline, header, standing_name, row_line, ack_line, refusal_line}
use Rattle.text.specs.Printing.{max_offset}
use Rattle.sheet.specs.Acks.{ack_row_code, ack_row_marks, acks_by, acked_marks}
use Rattle.sheet.specs.Rows.{asked_by, rows_by, printed_by}

longer : (x y : List ℕ) {a b : ℕ} → length x ≤ a → length y ≤ b → length (x ++ y) ≤ a + b
longer x y h k = omega (arith, length-append x y, h, k)

field-length : (n : ℕ) → length (field n) ≤ 21
field-length n = omega (arith, numeral-length max_digits n)

name_length : (n : ℕ) → length (standing_name n) ≤ 6
unfolding standing_name
name_length n = picked (eqb n 0) (eqb n 1) (eqb n 2) (eqb n 3)
  where
    picked : (a b c d : Bool) → length {A = ℕ} (cond a (0x20 ∷ 0x45 ∷ 0x4D ∷ 0x50 ∷ 0x54 ∷ 0x59 ∷ []) (cond b (0x20 ∷ 0x42 ∷ 0x41 ∷ 0x44 ∷ [])
        (cond c (0x20 ∷ 0x4C ∷ 0x4F ∷ 0x4F ∷ 0x50 ∷ []) (cond d (0x20 ∷ 0x4C ∷ 0x45 ∷ 0x41 ∷ 0x4E ∷ 0x53 ∷ []) (0x20 ∷ 0x43 ∷ 0x4C ∷ 0x45 ∷ 0x41 ∷ 0x4E ∷ []))))) ≤ 6
    picked true b c d = omega arith
    picked false true c d = omega arith
    picked false false true d = omega arith
    picked false false false true = omega arith
    picked false false false false = omega arith

row_length : (row : ℕ) (a : Told) → length (row_line row a) ≤ 90
unfolding row_line
row_length row a =
    let named = decimal row ++ standing_name a.standing in
    let found = named ++ field a.finding in
    let placed = found ++ field a.place in
    longer (placed ++ field a.mark) newline
    (longer placed (field a.mark)
    (longer found (field a.place)
    (longer named (field a.finding) (longer (decimal row) (standing_name a.standing) (numeral-length max_digits row) (name_length a.standing)) (field-length a.finding))
    (field-length a.place))
    (field-length a.mark))
    (le_refl 1)

ack_length : (row code : ℕ) → length (ack_line row code) ≤ 46
unfolding ack_line
ack_length row code =
    let word : List ℕ = 0x61 ∷ 0x63 ∷ 0x6B ∷ [] in
    longer (word ++ field row ++ field code) newline
    (longer (word ++ field row) (field code) (longer word (field row) (le_refl 3) (field-length row)) (field-length code)) (le_refl 1)

pub refusal_length : (place : ℕ) → length (refusal_line place) ≤ max_offset
unfolding refusal_line
refusal_length place =
    let words : List ℕ = 0x73 ∷ 0x68 ∷ 0x65 ∷ 0x65 ∷ 0x74 ∷ 0x20 ∷ 0x72 ∷ 0x65 ∷ 0x66 ∷ 0x75 ∷ 0x73 ∷ 0x65 ∷ 0x64 ∷ 0x20 ∷ 0x61 ∷ 0x74 ∷ [] in
    let z = longer (words ++ field place) newline (longer words (field place) (le_refl 16) (field-length place)) (le_refl 1) in
    omega (arith, z)

rows-length : (g : Register) (standings marks : List ℕ) (k i : ℕ) → length (rows_by g standings marks k i) ≤ 90 * k
unfolding rows_by
rows-length g standings marks zero i = omega arith
rows-length g standings marks (suc k) i =
    let z = longer (row_line (i + 1) (asked_by g standings marks i)) (rows_by g standings marks k (i + 1)) (row_length (i + 1) (asked_by g standings marks i)) (rows-length g standings marks k (i + 1)) in omega (arith, z)

acks_by_length : (standings : List ℕ) (rows : ℕ) (acks marks : List ℕ) → length (acks_by standings rows marks acks) ≤ 46 * length acks
unfolding acks_by
acks_by_length standings rows [] marks = omega arith
acks_by_length standings rows (row ∷ acks) marks =
    let z = longer (ack_line row (ack_row_code standings rows marks row)) (acks_by standings rows (ack_row_marks standings rows marks row) acks) (ack_length row (ack_row_code standings rows marks row)) (acks_by_length standings rows acks (ack_row_marks standings rows marks row)) in
    omega (arith, z)

pub printed-length : (g : Register) → g.counts.specs ≤ max_size → (standings marks : List ℕ) (k : ℕ) → k < 2 ^ 32 → (s : List ℕ) (at : ℕ)
    → length (printed_by g standings marks (acks_from k s at)) ≤ max_offset
unfolding printed_by
printed-length g le standings marks k h s at =
    let acks = acks_from k s at in
    let rows = rows_by g standings (acked_marks standings g.counts.specs marks acks) g.counts.specs 0 in
    let a = longer header rows (le_refl 29) (rows-length g standings (acked_marks standings g.counts.specs marks acks) g.counts.specs 0) in
    let z = longer (header ++ rows) (acks_by standings g.counts.specs marks acks) a (acks_by_length standings g.counts.specs acks marks) in
    omega (arith, z, le, h, list_length (checked_at s) (λ v next. v) k at)
