-- The law of `file_all`, one blob at a time.
-- Assumes nothing.
use Prim.Native.Nat.{ℕ, ◌+◌, ◌-◌, ◌≤◌}
use mathlib.Core.Path.{◌≡◌, sym, ap, ◌∙◌, subst}
use mathlib.Core.List.{List, ◌∷◌}
use native.Mathlib.Omega.{arith}
use lib.ListN.{take, drop}
use Rattle.register.specs.Calls.{Changed, Left, left, Held, held, holding, file_of}
use Rattle.register.specs.declared.Register.{Register}
use Rattle.sheet.specs.Filed.{file_all}

module _ {w : Held} (g : Register) (l : List ℕ) (row : ℕ) (blobs : List (List ℕ)) (x : file_all (holding g l) row blobs ≡ w) where
  pub filed-next : (s : List ℕ) (v next : ℕ) (rest : List (List ℕ)) → v ≤ next → blobs ≡ take v (drop (next - v) s) ∷ rest
      → (c : Changed) (m : List ℕ) → left c m ≡ file_of g row (take (next - (next - v)) (drop (next - v) s)) l → file_all (holding c.register m) (row + 1) rest ≡ w
  unfolding file_all
  filed-next s v next rest h e c m ec =
      let z : next - (next - v) ≡ v = omega arith in
      ap (λ (y : Left). file_all (held y) (row + 1) rest) (subst (λ j. left c m ≡ file_of g row (take j (drop (next - v) s)) l) z ec)
      ∙ sym (ap (file_all (holding g l) row) e) ∙ x
