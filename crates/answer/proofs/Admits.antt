-- What it says of a call that it is admitted; and what goes by a number that is 0 or a refusal.
-- Assumes nothing.
use Prim.Native.Nat.{ℕ, ◌*◌, ◌≤◌}
use mathlib.Core.Path.{◌≡◌, refl}
use mathlib.Core.Bool.{Bool, true, false, cond, ◌||◌}
use native.Mathlib.Omega.{arith}
use lib.Dec.{ltb, eqb}
use borrow.Author.Tests.{le-ltb, ltb-false, eqb-true, eqb-false}
use Rattle.answer.specs.Size.{max_size, words}
use Rattle.answer.specs.Answers.{row_code, admit_code}

pub record InRow (rows row : ℕ) : Type 0 where
  pub low : 1 ≤ row
  pub high : row ≤ rows

pub row_ok : (rows row : ℕ) → row_code rows row ≡ 0 → InRow rows row
unfolding row_code
row_ok rows row h = go (eqb row 0) (ltb rows row) refl refl h
  where
    go : (c d : Bool) → eqb row 0 ≡ c → ltb rows row ≡ d → ◌≡◌ {A = ℕ} (cond (c || d) 16 0) 0 → InRow rows row
    go true d f h z = absurd (omega arith)
    go false true f h z = absurd (omega arith)
    go false false f h z = let ne : row ≡ 0 → ⊥ = eqb-false row 0 f in record { low = omega arith; high = ltb-false rows row h }

pub record Admitted (lent rows row : ℕ) : Type 0 where
  pub size : rows ≤ max_size
  pub enough : rows * words ≤ lent
  pub low : 1 ≤ row
  pub high : row ≤ rows

pub admit_ok : (lent rows row : ℕ) → admit_code lent rows row ≡ 0 → Admitted lent rows row
unfolding admit_code
admit_ok lent rows row h = go (ltb max_size rows) (ltb lent (rows * words)) refl refl h
  where
    go : (a b : Bool) → ltb max_size rows ≡ a → ltb lent (rows * words) ≡ b → ◌≡◌ {A = ℕ} (cond a 19 (cond b 27 (row_code rows row))) 0 → Admitted lent rows row
    go true b e l z = absurd (omega arith)
    go false true e l z = absurd (omega arith)
    go false false e l z =
        let r = row_ok rows row z in
        record { size = ltb-false max_size rows e; enough = ltb-false lent (rows * words) l; low = r.low; high = r.high }

-- of a register within the size, with enough lent, the row alone decides
pub admit_within : (lent rows row : ℕ) → rows ≤ max_size → rows * words ≤ lent → admit_code lent rows row ≡ row_code rows row
unfolding admit_code
admit_within lent rows row h k = rw (le-ltb max_size rows h, le-ltb lent (rows * words) k)

-- what holds of an answer where a number is 0, and of the one where it is not, holds of the one that the number gives
pub by_code : {A : Type 0} (P : A → Type 0) {x y : A} (n : ℕ) → (n ≡ 0 → P x) → ((n ≡ 0 → ⊥) → P y) → P (cond (eqb n 0) x y)
by_code P {x} {y} n zero-case else-case = go (eqb n 0) refl
  where
    go : (t : Bool) → eqb n 0 ≡ t → P (cond t x y)
    go true e = zero-case (eqb-true n 0 e)
    go false e = else-case (eqb-false n 0 e)
