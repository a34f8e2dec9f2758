-- The closed table, as the standings go by it.
use Rattle.std.specs.Prelude.{ℕ, ◌<◌, ◌≡◌, List}
use Rattle.bits.specs.Bits.{bit_at}
use Rattle.reach.specs.Reach.{thru}

-- m has, w words to a row, what each of the first n rows of `sets`, v words to a row, reaches among them. Bits of other rows are not looked at.
abbrev pub ClosureOf : (w v n : ℕ) → (sets m : List ℕ) → Type 0
ClosureOf w v n sets m = (r s : ℕ) → r < n → s < n → bit_at w m r s ≡ thru (bit_at v sets) n r s
