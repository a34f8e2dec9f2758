-- What it says of an opening that it is not refused.
-- Assumes nothing.
use Prim.Native.Nat.{ℕ, ◌*◌, ◌≤◌}
use mathlib.Core.Path.{◌≡◌, refl}
use mathlib.Core.Bool.{Bool, true, false, cond, ◌||◌}
use native.Mathlib.Omega.{arith}
use lib.Dec.{ltb, eqb}
use borrow.Author.Tests.{ltb-false}
use Rattle.number.specs.declared.token.Counts.{Counts}
use Rattle.answer.specs.Size.{max_size, words}
use Rattle.register.specs.Calls.{too_many, open_code}

module _ (counts : Counts) (lent : ℕ) where
  open_cases : (a b c d : Bool) → ltb max_size counts.specs ≡ c → ltb lent (counts.specs * words) ≡ d
      → ◌≡◌ {A = ℕ} (cond a 13 (cond (b || c) 19 (cond d 27 0))) 0 → (counts.specs ≤ max_size) × (counts.specs * words ≤ lent)
  open_cases true b c d e f z = absurd (omega arith)
  open_cases false true c d e f z = absurd (omega arith)
  open_cases false false true d e f z = absurd (omega arith)
  open_cases false false false true e f z = absurd (omega arith)
  open_cases false false false false e f z = (ltb-false max_size counts.specs e, ltb-false lent (counts.specs * words) f)

  pub open_ok : open_code counts lent ≡ 0 → (counts.specs ≤ max_size) × (counts.specs * words ≤ lent)
  unfolding open_code
  open_ok h = open_cases (too_many counts) (eqb counts.specs 0) (ltb max_size counts.specs) (ltb lent (counts.specs * words)) refl refl h
