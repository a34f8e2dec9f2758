-- What the steps of the closure leave of a table. Internal: the contract of `closure` goes by `thru`.
use Rattle.std.specs.Prelude.{ℕ, ◌+◌, ◌*◌, ◌<◌, ◌≤◌, ◌≡◌, List, ◌||◌, ◌&&◌, ◌⊎◌, length, get_or}
use Rattle.std.specs.Int.Bits.{bit_or}
use Rattle.bits.specs.Bits.{word_bits, bit_at}

-- l is l₀ with f y in the first x places d + y
pub record Written (l₀ : List ℕ) (d : ℕ) (f : ℕ → ℕ) (x : ℕ) (l : List ℕ) : Type 0 where
  pub len : length l ≡ length l₀
  pub done : (y : ℕ) → y < x → get_or l (d + y) 0 ≡ f y
  pub rest : (p : ℕ) → (p < d) ⊎ (d + x ≤ p) → get_or l p 0 ≡ get_or l₀ p 0

-- .. the words of t from s on
abbrev pub Copied : (l₀ t : List ℕ) (d s x : ℕ) (l : List ℕ) → Type 0
Copied l₀ t d s x l = Written l₀ d (λ y. get_or t (s + y) 0) x l

-- .. its own words joined with those from s on
abbrev pub Ored : (l₀ : List ℕ) (d s x : ℕ) (l : List ℕ) → Type 0
Ored l₀ d s x l = Written l₀ d (λ y. bit_or (get_or l₀ (d + y) 0) (get_or l₀ (s + y) 0)) x l

-- l is as long as l₀, and its first i rows, w words to a row, have the bits of those of t, v to a row
pub record RowsCopied (w v : ℕ) (l₀ t : List ℕ) (i : ℕ) (l : List ℕ) : Type 0 where
  pub len : length l ≡ length l₀
  pub done : (r s : ℕ) → r < i → s < word_bits * w → bit_at w l r s ≡ bit_at v t r s

-- l is l₀ with row i relaxed by row k
pub record RowRelaxed (w k i : ℕ) (l₀ l : List ℕ) : Type 0 where
  pub len : length l ≡ length l₀
  pub here : (s : ℕ) → s < word_bits * w → bit_at w l i s ≡ (bit_at w l₀ i s || (bit_at w l₀ i k && bit_at w l₀ k s))
  pub others : (r s : ℕ) → (r ≡ i → ⊥) → s < word_bits * w → bit_at w l r s ≡ bit_at w l₀ r s

-- l is l₀ with its first i rows of n relaxed by row k
pub record Relaxed (w n k : ℕ) (l₀ : List ℕ) (i : ℕ) (l : List ℕ) : Type 0 where
  pub len : length l ≡ length l₀
  pub done : (r s : ℕ) → r < i → s < word_bits * w → bit_at w l r s ≡ (bit_at w l₀ r s || (bit_at w l₀ r k && bit_at w l₀ k s))
  pub rest : (r s : ℕ) → i ≤ r → r < n → s < word_bits * w → bit_at w l r s ≡ bit_at w l₀ r s
