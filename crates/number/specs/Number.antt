-- Document 01, "Numbers and tokens": compressed numbers. What stands at an offset of a list of bytes, and the one encoding of a number.
use Rattle.std.specs.Prelude.{ℕ, ◌+◌, ◌*◌, ◌/◌, ◌%◌, ◌<◌, List, [], ◌∷◌, ◌++◌, cond, length, get_or, take, drop, ltb, leb, Result, Ok, Err}
use Rattle.number.specs.declared.Number.{Number}
use Rattle.number.specs.declared.NumberError.{NumberError}
use Rattle.number.specs.declared.NumberError.TheVariants.{Cut, BadByte, TooLong}

-- a list whose elements are bytes, as those of a slice of bytes are (`slice_bytes`, proofs/Slices.antt)
abbrev pub Bytes : List ℕ → Type 0
Bytes s = (i : ℕ) → get_or s i 0 < 256

-- numbers below this have an encoding: 29 bits
abbrev pub limit : ℕ
limit = 0x20000000

-- the greatest of them
abbrev pub max_number : ℕ
max_number = 0x1FFFFFFF

-- "one byte 00 to 7F; two bytes, first 80 to BF, 14 bits of value; or four bytes, first C0 to DF, 29 bits; most significant byte
-- first", in the shortest form that holds the number. From `limit` on a number has no encoding, which is no bytes here.
unfoldable pub encode : ℕ → List ℕ
encode v =
    cond (ltb v 0x80) (v ∷ [])
    (cond (ltb v 0x4000) ((0x80 + v / 0x100) ∷ v % 0x100 ∷ [])
    (cond (ltb v limit) ((0xC0 + v / 0x1000000) ∷ v / 0x10000 % 0x100 ∷ v / 0x100 % 0x100 ∷ v % 0x100 ∷ [])
    []))

-- the value of the two bytes, or the four, at an offset: all bits but the leading 10 or 110
unfoldable pub value2 : List ℕ → ℕ → ℕ
value2 s at = get_or s at 0 % 0x40 * 0x100 + get_or s (at + 1) 0

unfoldable pub value4 : List ℕ → ℕ → ℕ
value4 s at =
    (get_or s at 0 % 0x20 * 0x100 + get_or s (at + 1) 0) * 0x10000
    + (get_or s (at + 2) 0 * 0x100 + get_or s (at + 3) 0)

-- a number that was read, and the offset after it
abbrev pub number : (value next : ℕ) → Number
number value next = record { value = value; next = next }

abbrev pub found : {E : Type 0} → (value next : ℕ) → Result Number E
found value next = Ok (number value next)

-- a form of k bytes with the value v: "a longer form than the value needs is malformed", which v is below `least`
unfoldable pub whole : List ℕ → ℕ → (k least v : ℕ) → Result Number NumberError
whole s at k least v = cond (leb (at + k) (length s)) (cond (leb least v) (found v (at + k)) (Err TooLong)) (Err Cut)

-- "The leading one bits of the first byte (0, 1 or 2) give the length; three or more are malformed." The order of the faults: no
-- first byte, a bad first byte, bytes that end too early, a longer form than needed.
unfoldable pub number_at : List ℕ → ℕ → Result Number NumberError
number_at s at =
    cond (leb (length s) at) (Err Cut)
    (cond (ltb (get_or s at 0) 0x80) (found (get_or s at 0) (at + 1))
    (cond (ltb (get_or s at 0) 0xC0) (whole s at 2 0x80 (value2 s at))
    (cond (ltb (get_or s at 0) 0xE0) (whole s at 4 0x4000 (value4 s at))
    (Err BadByte))))

-- "The leading one bits of the first byte (0, 1 or 2) give the length": how many bytes a number has that begins with the byte b. A byte
-- that is malformed, "three or more", stands alone.
unfoldable pub width : ℕ → ℕ
width b = cond (ltb b 0x80) 1 (cond (ltb b 0xC0) 2 (cond (ltb b 0xE0) 4 1))

-- the bytes bs in the place of those from `at` on where they fit, and else the list as it is
unfoldable pub put_at : List ℕ → ℕ → List ℕ → List ℕ
put_at out at bs = cond (leb (at + length bs) (length out)) (take at out ++ bs ++ drop (at + length bs) out) out
