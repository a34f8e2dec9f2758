-- Internal: the standings and the marks by a closed table m, w words to a row. The public contracts go by Standing.antt.
use Rattle.std.specs.Prelude.{ℕ, List, Bool, cond, ◌||◌, ◌&&◌, get_or, ltb, eqb}
use Rattle.bits.specs.Bits.{bit_at}
use Rattle.bits.specs.Any.{any}

-- row j is "an EMPTY, BAD or LOOP row" that row i reaches
abbrev pub leans_on : ℕ → List ℕ → List ℕ → ℕ → ℕ → Bool
leans_on w m states i j = bit_at w m i j && (ltb (get_or states j 0) 2 || bit_at w m j j)

-- "Filing r unmarks r and every row that reaches r": row j, when row i is filed
abbrev pub loses_of : ℕ → List ℕ → ℕ → ℕ → Bool
loses_of w m i j = eqb j i || bit_at w m j i

-- the standing of row i among n
unfoldable pub standing_of : ℕ → List ℕ → List ℕ → ℕ → ℕ → ℕ
standing_of w m states n i =
    cond (ltb (get_or states i 0) 2) (get_or states i 0) (cond (bit_at w m i i) 2 (cond (any n (leans_on w m states i)) 3 4))
