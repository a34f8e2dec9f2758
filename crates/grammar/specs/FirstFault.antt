-- Document 01, "Numbers on the panel": "the first fault from the left", seen from outside. An item's refusal goes by the item and by
-- what stands before it, and by no byte behind it.
use Rattle.std.specs.Prelude.{ℕ, ◌+◌, ◌≤◌, ◌≡◌, cond, List, [], ◌∷◌, length, get_or, take, eqb}
use Rattle.number.specs.Number.{width}
use Rattle.grammar.specs.Limits.{max_bytes}
use Rattle.grammar.specs.Judge.{Out, fault}

-- The refusals of an item, which is a code byte or a number, that is there as a whole. Of the others 1, 12 and 13 are of no item, 2 and 9 go by
-- where the blob ends, and 11 goes by the records lent.
abbrev pub item_refusals : List ℕ
item_refusals = 3 ∷ 4 ∷ 5 ∷ 6 ∷ 7 ∷ 8 ∷ 10 ∷ []

-- The offset after the item at p, which `code` refuses. 5 is of one byte. All others are of a number, or of a code byte that is allowed: that
-- is below 80 hex, where a number has one byte too.
unfoldable pub item_end : (code : ℕ) → List ℕ → (p : ℕ) → ℕ
item_end code s p = p + cond (eqb code 5) 1 (width (get_or s p 0))

-- The refusal `code` at p is decided by the bytes of s up to the end of the item at p: they are there, and every blob within the bound that
-- begins with them is refused by `code` at p.
pub record Decided (reader : List ℕ → Out) (s : List ℕ) (code p : ℕ) : Type 0 where
  pub inside : item_end code s p ≤ length s
  pub alike : (t : List ℕ) → length t ≤ max_bytes → take (item_end code s p) t ≡ take (item_end code s p) s → reader t ≡ fault code p
