-- The law of `rows_by`, one row at a time.
-- Assumes nothing.
use Prim.Native.Nat.{ℕ, suc, ◌+◌, ◌-◌, ◌<◌}
use mathlib.Core.Path.{◌≡◌, sym, subst}
use mathlib.Core.List.{List}
use native.Mathlib.Omega.{arith}
use Rattle.answer.specs.declared.Told.{Told}
use Rattle.register.specs.declared.Register.{Register}
use Rattle.sheet.specs.Lines.{row_line}
use Rattle.text.specs.Printing.{Prints}
use Rattle.text.proofs.Laying.{prints_then}
use Rattle.sheet.specs.Rows.{asked_by, rows_by}

module _ (g : Register) (standings marks : List ℕ) where
  pub rows_next : (n i : ℕ) → i < n → {a : Told} → a ≡ asked_by g standings marks i → (to r q : ℕ) (old mid new : List ℕ) → Prints (row_line (i + 1) a) to r old mid
      → Prints (rows_by g standings marks (n - (i + 1)) (i + 1)) r q mid new → Prints (rows_by g standings marks (n - i) i) to q old new
  unfolding rows_by
  rows_next n i h ea to r q old mid new p t =
      let z : n - i ≡ suc (n - (i + 1)) = omega arith in
      subst (λ j. Prints (rows_by g standings marks j i) to q old new) (sym z)
      (prints_then _ _ to r q old mid new (subst (λ a. Prints (row_line (i + 1) a) to r old mid) ea p) t)
