-- A number in decimal, in ASCII.
use Rattle.std.specs.Prelude.{ℕ, zero, suc, ◌+◌, ◌/◌, ◌%◌, List, [], ◌∷◌, ◌++◌, cond, ltb}

-- n in decimal, with no zeros in front: the last k digits where it has more
unfoldable pub numeral : (k n : ℕ) → List ℕ
numeral zero n = []
numeral (suc k) n = cond (ltb n 10) ((48 + n) ∷ []) (numeral k (n / 10) ++ ((48 + n % 10) ∷ []))

-- no number of 64 bits has more digits
abbrev pub max_digits : ℕ
max_digits = 20

abbrev pub decimal : ℕ → List ℕ
decimal n = numeral max_digits n
