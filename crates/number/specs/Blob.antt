-- Document 01, "Deposit sheet": a blob "as length and bytes".
use Rattle.std.specs.Prelude.{ℕ, ◌+◌, List, cond, length, leb, Err}
use Rattle.answer.specs.declared.refusal.Refusal.TheVariants.{BytesEnd}
use Rattle.number.specs.Number.{found}
use Rattle.number.specs.Checked.{Checked, checked_at, on_checked}

-- a blob's length and the offset after it, among n bytes: 2 where they end before it does
unfoldable pub blob_of : (n : ℕ) → Checked → Checked
blob_of n c = on_checked c (λ v next. cond (leb (next + v) n) (found v (next + v)) (Err BytesEnd)) Err

unfoldable pub blob_at : List ℕ → ℕ → Checked
blob_at s at = blob_of (length s) (checked_at s at)
