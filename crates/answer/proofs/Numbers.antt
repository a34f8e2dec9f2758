-- The number of a refusal is not 0, which is "done", and each has its own: what a contract says of a result's number and place, it says of the result.
-- Assumes nothing.
use Prim.Native.Nat.{ℕ}
use mathlib.Core.Path.{◌≡◌, refl, sym, ap, ◌∙◌}
use mathlib.Core.Bool.{cond}
use native.Mathlib.Omega.{arith}
use lib.Dec.{eqb}
use Rattle.std.specs.Prelude.{Result, Ok, Err}
use Rattle.answer.specs.Refusal.{number_of, fault_at}
use Rattle.answer.specs.Answers.{panel_of, told_of}
use Rattle.answer.specs.declared.Answer.{Answer}
use Rattle.answer.specs.declared.Asked.{Asked}
use Rattle.answer.specs.declared.Told.{Told}
use Rattle.answer.specs.declared.refusal.Fault.{Fault}
use Rattle.answer.specs.declared.refusal.Refusal.{Refusal}
use Rattle.answer.specs.declared.refusal.Refusal.TheVariants.{BlobTooLong, BytesEnd, MalformedNumber, CountOutOfRange, ByteNotAllowed, TooDeep, WrongTag, RowOutOfRange, BytesLeft, TooManyNodes, TooFewRecords, UnknownKind, TableTooLarge, NoBlob, OutputTooShort, NoSuchRow, NothingToAcknowledge, AlreadyMarked, SizeOutOfRange, TooFewWords}

pub not_done : (r : Refusal) → number_of r ≡ 0 → ⊥
not_done BlobTooLong e = omega arith
not_done BytesEnd e = omega arith
not_done MalformedNumber e = omega arith
not_done CountOutOfRange e = omega arith
not_done ByteNotAllowed e = omega arith
not_done TooDeep e = omega arith
not_done WrongTag e = omega arith
not_done RowOutOfRange e = omega arith
not_done BytesLeft e = omega arith
not_done TooManyNodes e = omega arith
not_done TooFewRecords e = omega arith
not_done UnknownKind e = omega arith
not_done TableTooLarge e = omega arith
not_done NoBlob e = omega arith
not_done OutputTooShort e = omega arith
not_done NoSuchRow e = omega arith
not_done NothingToAcknowledge e = omega arith
not_done AlreadyMarked e = omega arith
not_done SizeOutOfRange e = omega arith
not_done TooFewWords e = omega arith

abbrev refusal_at : ℕ → Refusal
refusal_at n =
    cond (eqb n 1) BlobTooLong
    (cond (eqb n 2) BytesEnd
    (cond (eqb n 3) MalformedNumber
    (cond (eqb n 4) CountOutOfRange
    (cond (eqb n 5) ByteNotAllowed
    (cond (eqb n 6) TooDeep
    (cond (eqb n 7) WrongTag
    (cond (eqb n 8) RowOutOfRange
    (cond (eqb n 9) BytesLeft
    (cond (eqb n 10) TooManyNodes
    (cond (eqb n 11) TooFewRecords
    (cond (eqb n 12) UnknownKind
    (cond (eqb n 13) TableTooLarge
    (cond (eqb n 14) NoBlob
    (cond (eqb n 15) OutputTooShort
    (cond (eqb n 16) NoSuchRow
    (cond (eqb n 17) NothingToAcknowledge
    (cond (eqb n 18) AlreadyMarked
    (cond (eqb n 19) SizeOutOfRange
    TooFewWords))))))))))))))))))

refusal-back : (r : Refusal) → refusal_at (number_of r) ≡ r
refusal-back BlobTooLong = refl
refusal-back BytesEnd = refl
refusal-back MalformedNumber = refl
refusal-back CountOutOfRange = refl
refusal-back ByteNotAllowed = refl
refusal-back TooDeep = refl
refusal-back WrongTag = refl
refusal-back RowOutOfRange = refl
refusal-back BytesLeft = refl
refusal-back TooManyNodes = refl
refusal-back TooFewRecords = refl
refusal-back UnknownKind = refl
refusal-back TableTooLarge = refl
refusal-back NoBlob = refl
refusal-back OutputTooShort = refl
refusal-back NoSuchRow = refl
refusal-back NothingToAcknowledge = refl
refusal-back AlreadyMarked = refl
refusal-back SizeOutOfRange = refl
refusal-back TooFewWords = refl

-- each refusal has a number of its own
pub number-own : {r s : Refusal} → number_of r ≡ number_of s → r ≡ s
number-own {r} {s} e = sym (refusal-back r) ∙ ap refusal_at e ∙ refusal-back s

-- a result is fixed by its number and place
pub panel-own : (x y : Result ℕ Fault) → panel_of x ≡ panel_of y → x ≡ y
panel-own (Ok a) (Ok b) e = ap Ok (ap (λ (p : Answer). p.place) e)
panel-own (Ok a) (Err f) e = absurd (not_done f.refusal (sym (ap (λ (p : Answer). p.code) e)))
panel-own (Err f) (Ok b) e = absurd (not_done f.refusal (ap (λ (p : Answer). p.code) e))
panel-own (Err f) (Err g) e =
    ap (λ (r : Refusal). Err (fault_at r f.place)) (number-own (ap (λ (p : Answer). p.code) e))
    ∙ ap (λ (k : ℕ). Err (fault_at g.refusal k)) (ap (λ (p : Answer). p.place) e)

-- likewise what asking a row gives
pub told-own : (x y : Result Asked Refusal) → told_of x ≡ told_of y → x ≡ y
told-own (Ok a) (Ok b) e =
    ap (λ (t : Told). Ok (record { standing = t.standing; finding = t.finding; place = t.place; mark = t.mark })) e
told-own (Ok a) (Err r) e = absurd (not_done r (sym (ap (λ (t : Told). t.code) e)))
told-own (Err r) (Ok b) e = absurd (not_done r (ap (λ (t : Told). t.code) e))
told-own (Err r) (Err q) e = ap Err (number-own (ap (λ (t : Told). t.code) e))
