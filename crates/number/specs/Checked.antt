-- Document 01, "Numbers on the panel": the refusals of a number, 2 and 3, and of a count, 4.
use Rattle.std.specs.Prelude.{ℕ, List, [], ◌∷◌, cond, ◌&&◌, leb, Result, Ok, Err}
use Rattle.answer.specs.declared.refusal.Refusal.{Refusal}
use Rattle.answer.specs.declared.refusal.Refusal.TheVariants.{BytesEnd, MalformedNumber, CountOutOfRange}
use Rattle.number.specs.declared.Number.{Number}
use Rattle.number.specs.declared.NumberError.{NumberError}
use Rattle.number.specs.declared.NumberError.TheVariants.{Cut, BadByte, TooLong}
use Rattle.number.specs.Number.{found, number_at}

-- a number that passed its checks and the offset after it, or its refusal
abbrev pub Checked : Type 0
Checked = Result Number Refusal

-- 2 "bytes end inside or before an item", 3 "malformed number"
abbrev pub refusal_of : NumberError → Refusal
refusal_of Cut = BytesEnd
refusal_of BadByte = MalformedNumber
refusal_of TooLong = MalformedNumber

unfoldable pub checked : Result Number NumberError → Checked
checked (Ok n) = Ok n
checked (Err e) = Err (refusal_of e)

unfoldable pub checked_at : List ℕ → ℕ → Checked
checked_at s at = checked (number_at s at)

-- all that a number is refused by: "3 for its first byte, 2, 3 for length"
abbrev pub number_refusals : List ℕ
number_refusals = 2 ∷ 3 ∷ []

-- what was read goes on with the value and the offset after it, or with the refusal
abbrev pub on_checked : {A : Type 0} → Checked → (ℕ → ℕ → A) → (Refusal → A) → A
on_checked (Ok n) good bad = good n.value n.next
on_checked (Err refusal) good bad = bad refusal

-- 4 "a count, Rank, NumSizes or NumLoBounds breaks its rule", which is to be from `low` to `high`
unfoldable pub count_of : (low high : ℕ) → Checked → Checked
count_of low high c = on_checked c (λ v next. cond (leb low v && leb v high) (found v next) (Err CountOutOfRange)) Err

unfoldable pub count_at : (low high : ℕ) → List ℕ → ℕ → Checked
count_at low high s at = count_of low high (checked_at s at)

-- all that a count is refused by: "then 4"
abbrev pub count_refusals : List ℕ
count_refusals = 4 ∷ number_refusals
