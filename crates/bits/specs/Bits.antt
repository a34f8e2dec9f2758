-- Sets of rows as bits: a table of words of 32 bits, w words to a row.
use Rattle.std.specs.Prelude.{ℕ, zero, suc, ◌+◌, ◌*◌, ◌/◌, ◌%◌, ◌^◌, List, Bool, get_or, set, eqb}
use Rattle.std.specs.Int.Bits.{bit_or}

-- the bits of a word
abbrev pub word_bits : ℕ
word_bits = 32

-- bit k of a word
unfoldable pub bit : ℕ → ℕ → Bool
bit x k = eqb (x / 2 ^ k % 2) 1

-- row r's bit s
unfoldable pub bit_at : ℕ → List ℕ → ℕ → ℕ → Bool
bit_at w l r s = bit (get_or l (r * w + s / word_bits) 0) (s % word_bits)

-- the table with row r's bit s set
unfoldable pub put_bit : ℕ → List ℕ → ℕ → ℕ → List ℕ
put_bit w l r s = set l (r * w + s / word_bits) (bit_or (get_or l (r * w + s / word_bits) 0) (2 ^ (s % word_bits)))

-- l with 0 in the x places from d on
unfoldable pub clear_words : List ℕ → (d x : ℕ) → List ℕ
clear_words l d zero = l
clear_words l d (suc x) = set (clear_words l d x) (d + x) 0

-- the table with no bit in row r
abbrev pub emptied : ℕ → List ℕ → ℕ → List ℕ
emptied w l r = clear_words l (r * w) w
