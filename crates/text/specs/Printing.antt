-- Text laid over lent output from an offset on. It is laid twice: over no output, to learn its length, then over the whole.
use Rattle.std.specs.Prelude.{ℕ, zero, suc, ◌+◌, ◌≡◌, List, [], ◌∷◌, cond, length, set, ltb}

-- the greatest offset
abbrev pub max_offset : ℕ
max_offset = 0xFFFFFFFFFFFFFFFF

-- the next offset; the greatest has none
unfoldable pub next_offset : ℕ → ℕ
next_offset to = cond (ltb to max_offset) (to + 1) to

unfoldable pub further : (to k : ℕ) → ℕ
further to zero = to
further to (suc k) = further (next_offset to) k

-- out with a text from an offset on, as far as it reaches
unfoldable pub laid : List ℕ → ℕ → List ℕ → List ℕ
laid out to [] = out
laid out to (b ∷ text) = laid (set out to b) (next_offset to) text

-- a text is laid over `old`, which gives `new`, from `to` up to r
abbrev pub Prints : List ℕ → (to r : ℕ) → (old new : List ℕ) → Type 0
Prints text to r old new = (r ≡ further to (length text)) × (new ≡ laid old to text)
