-- Laws of bits: the bits of a join, of one bit set, and of rows emptied.
-- Assumes nothing.
use Prim.Native.Nat.{ℕ, zero, suc, ◌+◌, ◌*◌, ◌/◌, ◌%◌, ◌^◌, ◌-◌, ◌<◌, ◌≤◌, max}
use mathlib.Core.Path.{◌≡◌, refl, sym, ap, ◌∙◌, subst}
use mathlib.Core.List.{List}
use mathlib.Core.Bool.{Bool, false, ◌||◌, or-false}
use mathlib.Core.Logic.{◌⊎◌, inl, inr, ⊎_elim, by_cases}
use native.Mathlib.Omega.{arith}
use native.Mathlib.Nat.{mod-lt, zero-lt-suc, mul-mod_left, pow-suc, mul_comm, mul-div_cancel, div-eq_of_lt, one-mul, mod-eq_of_lt, mul-le-mul_right, zero-div}
use native.Mathlib.Numerals.{add-one}
use native.Mathlib.Decide.{ℕ_discrete, dec_le, dec_lt}
use lib.Pow.{pow_pos, pow-lt, pow-add}
use borrow.Author.Tests.{eq-eqb, ne_eqb}
use lib.Seq.{get_or-set_same, get_or-set_other}
use lib.ListN.{length, get_or, set, length-set, replicate}
use lib.Seq.{paste}
use Rattle.std.proofs.lemmas.List.Edits.{paste_none, fill_from_more}
use lib.Dec.{eqb}
use lib.Bits.{bit_or, or_shr, or_step}
use Rattle.bits.specs.Bits.{word_bits, bit, bit_at, put_bit, clear_words}

-- ---- where a row's words stand

abbrev pub Apart : ℕ → ℕ → ℕ → Type 0
Apart d s w = (s + w ≤ d) ⊎ (d + w ≤ s)

pub word_lt : {s w : ℕ} → s < word_bits * w → s / word_bits < w
word_lt h = omega arith

pub row_in : (n w i : ℕ) → i < n → i * w + w ≤ n * w
row_in n w i h = omega (arith, mul-le-mul_right w h)

pub rows_apart : (w r i : ℕ) → (r ≡ i → ⊥) → Apart (i * w) (r * w) w
rows_apart w r i ne =
    by_cases (dec_lt r i) (λ (h : r < i). inl (omega (arith, mul-le-mul_right w h)))
    (λ nh. let h : i < r = omega arith in inr (omega (arith, mul-le-mul_right w h)))

pub pos_apart : (w r i y : ℕ) → (r ≡ i → ⊥) → y < w → (r * w + y < i * w) ⊎ (i * w + w ≤ r * w + y)
pos_apart w r i y ne h = ⊎_elim (λ a. inl (omega arith)) (λ a. inr (omega arith)) (rows_apart w r i ne)

-- ---- a join
max_digit : (a b : ℕ) → a < 2 → b < 2 → eqb (max a b) 1 ≡ (eqb a 1 || eqb b 1)
max_digit zero zero h k = refl
max_digit zero (suc zero) h k = refl
max_digit zero (suc (suc b)) h k = absurd (omega arith)
max_digit (suc zero) zero h k = refl
max_digit (suc zero) (suc zero) h k = refl
max_digit (suc zero) (suc (suc b)) h k = absurd (omega arith)
max_digit (suc (suc a)) b h k = absurd (omega arith)

or_odd : (a b : ℕ) → bit_or a b % 2 ≡ max (a % 2) (b % 2)
or_odd a b = omega (arith, or_step a b)

pub bit-or : (a b k : ℕ) → bit (bit_or a b) k ≡ (bit a k || bit b k)
unfolding bit
bit-or a b k =
    ap (λ (x : ℕ). eqb (x % 2) 1) (or_shr a b k) ∙ ap (λ (x : ℕ). eqb x 1) (or_odd (a / 2 ^ k) (b / 2 ^ k))
    ∙ max_digit (a / 2 ^ k % 2) (b / 2 ^ k % 2) (mod-lt (a / 2 ^ k) (zero-lt-suc 1)) (mod-lt (b / 2 ^ k) (zero-lt-suc 1))

-- ---- one bit set
pow_low : (d : ℕ) → eqb (2 ^ d % 2) 1 ≡ eqb d 0
pow_low zero = refl
pow_low (suc d) = ap (λ (x : ℕ). eqb (x % 2) 1) (pow-suc 2 d) ∙ ap (λ (x : ℕ). eqb x 1) (mul-mod_left (2 ^ d) 2) ∙ sym (ne_eqb (suc d) 0 (omega arith))

pow_over : (j d : ℕ) → 2 ^ (j + d) / 2 ^ j ≡ 2 ^ d
pow_over j d = ap (λ (x : ℕ). x / 2 ^ j) (pow-add 2 j d ∙ mul_comm (2 ^ j) (2 ^ d)) ∙ mul-div_cancel (2 ^ d) (pow_pos j)

pub eqb_same : (a b c d : ℕ) → (a ≡ b → c ≡ d) → (c ≡ d → a ≡ b) → eqb a b ≡ eqb c d
eqb_same a b c d f g = by_cases (ℕ_discrete a b) (λ e. eq-eqb a b e ∙ sym (eq-eqb c d (f e))) (λ ne. ne_eqb a b ne ∙ sym (ne_eqb c d (λ e. ne (g e))))

pub bit-pow : (k j : ℕ) → bit (2 ^ k) j ≡ eqb j k
unfolding bit
bit-pow k j =
    by_cases (dec_le j k)
    (λ (h : j ≤ k). let e : k ≡ j + (k - j) = omega arith in
    subst (λ (x : ℕ). eqb (2 ^ x / 2 ^ j % 2) 1 ≡ eqb j x) (sym e)
    (ap (λ (x : ℕ). eqb (x % 2) 1) (pow_over j (k - j)) ∙ pow_low (k - j) ∙ eqb_same (k - j) 0 j (j + (k - j)) (λ z. omega arith) (λ z. omega arith)))
    (λ nh. let h : k < j = omega arith in
    ap (λ (x : ℕ). eqb (x % 2) 1) (div-eq_of_lt (pow-lt h)) ∙ sym (ne_eqb j k (omega arith)))

-- in row r the bit s is set, and each other bit is as it was
pub at_put : (w : ℕ) (l : List ℕ) (r s q : ℕ) → r * w + s / word_bits < length l → bit_at w (put_bit w l r s) r q ≡ (bit_at w l r q || eqb q s)
unfolding bit_at put_bit
at_put w l r s q h = by_cases (ℕ_discrete (q / word_bits) (s / word_bits))
    (λ (e : q / word_bits ≡ s / word_bits). rw e
    (ap (λ (x : ℕ). bit x (q % word_bits)) (get_or-set_same l (r * w + s / word_bits) _ 0 h) ∙ bit-or _ _ (q % word_bits)
    ∙ ap (λ (b : Bool). bit (get_or l (r * w + s / word_bits) 0) (q % word_bits) || b) (bit-pow (s % word_bits) (q % word_bits) ∙ eqb_same (q % word_bits) (s % word_bits) q s (λ z. omega arith) (λ z. ap (λ (x : ℕ). x % word_bits) z))))
    (λ ne. ap (λ (x : ℕ). bit x (q % word_bits)) (get_or-set_other l (r * w + s / word_bits) (r * w + q / word_bits) _ 0 (omega arith))
    ∙ sym (ap (λ (b : Bool). bit (get_or l (r * w + q / word_bits) 0) (q % word_bits) || b) (ne_eqb q s (λ z. ne (ap (λ (x : ℕ). x / word_bits) z))) ∙ or-false _))

-- `1 << k` as the code has it
pub one_shift : (k : ℕ) → k < word_bits → 1 * 2 ^ k % 4294967296 ≡ 2 ^ k
one_shift k h = ap (λ (x : ℕ). x % 4294967296) (one-mul (2 ^ k)) ∙ mod-eq_of_lt (pow-lt h)

-- in another row nothing changes
pub at_put_other : (w : ℕ) (l : List ℕ) (r s q t : ℕ) → (q ≡ r → ⊥) → s < word_bits * w → t < word_bits * w → bit_at w (put_bit w l r s) q t ≡ bit_at w l q t
unfolding bit_at put_bit
at_put_other w l r s q t ne hs ht =
    ap (λ (x : ℕ). bit x (t % word_bits))
    (get_or-set_other l (r * w + s / word_bits) (q * w + t / word_bits) _ 0
    (⊎_elim (λ a. omega arith) (λ a. omega arith) (rows_apart w q r ne)))

-- a word out of row r keeps its number
pub get_or-put_out : (w : ℕ) (l : List ℕ) (r s p : ℕ) → s < word_bits * w → (p < r * w) ⊎ (r * w + w ≤ p) → get_or (put_bit w l r s) p 0 ≡ get_or l p 0
unfolding put_bit
get_or-put_out w l r s p hs h = get_or-set_other l (r * w + s / word_bits) p _ 0 (⊎_elim (λ a. omega arith) (λ a. omega arith) h)

pub length_put : (w : ℕ) (l : List ℕ) (r s : ℕ) → length (put_bit w l r s) ≡ length l
unfolding put_bit
length_put w l r s = length-set l (r * w + s / word_bits) _

-- ---- a row emptied
pub zero_bit : (k : ℕ) → bit 0 k ≡ false
unfolding bit
zero_bit k = ap (λ (x : ℕ). eqb (x % 2) 1) (zero-div (2 ^ k))

-- the words that are cleared, as one part of the list
pub zeroed-paste : (l : List ℕ) (d n : ℕ) → d + n ≤ length l → clear_words l d n ≡ paste l d (replicate n 0) n
unfolding clear_words
zeroed-paste l d zero h = paste_none l d (replicate 0 0)
zeroed-paste l d (suc n) h = ap (λ (x : List ℕ). set x (d + n) 0) (zeroed-paste l d n (omega arith)) ∙ fill_from_more l d n 0 (omega arith) ∙ ap (λ (x : ℕ). paste l d (replicate x 0) x) (add-one n)

pub length_zeroed : (l : List ℕ) (d x : ℕ) → length (clear_words l d x) ≡ length l
unfolding clear_words
length_zeroed l d zero = refl
length_zeroed l d (suc x) = length-set (clear_words l d x) (d + x) 0 ∙ length_zeroed l d x

pub get_or-zeroed_out : (l : List ℕ) (d x p : ℕ) → (p < d) ⊎ (d + x ≤ p) → get_or (clear_words l d x) p 0 ≡ get_or l p 0
unfolding clear_words
get_or-zeroed_out l d zero p h = refl
get_or-zeroed_out l d (suc x) p h =
    get_or-set_other (clear_words l d x) (d + x) p 0 0 (⊎_elim (λ a. omega arith) (λ a. omega arith) h)
    ∙ get_or-zeroed_out l d x p (⊎_elim (λ a. inl a) (λ a. inr (omega arith)) h)

get_or-zeroed : (l : List ℕ) (d x y : ℕ) → y < x → d + x ≤ length l → get_or (clear_words l d x) (d + y) 0 ≡ 0
unfolding clear_words
get_or-zeroed l d zero y h k = absurd (omega arith)
get_or-zeroed l d (suc x) y h k =
    by_cases (ℕ_discrete y x)
    (λ (e : y ≡ x). rw e (get_or-set_same (clear_words l d x) (d + x) 0 0 (omega (arith, length_zeroed l d x))))
    (λ ne. get_or-set_other (clear_words l d x) (d + x) (d + y) 0 0 (omega arith) ∙ get_or-zeroed l d x y (omega arith) (omega arith))

pub at_emptied : (w : ℕ) (l : List ℕ) (r s : ℕ) → r * w + w ≤ length l → s < word_bits * w → bit_at w (clear_words l (r * w) w) r s ≡ false
unfolding bit_at
at_emptied w l r s h hs = ap (λ (x : ℕ). bit x (s % word_bits)) (get_or-zeroed l (r * w) w (s / word_bits) (word_lt hs) h) ∙ zero_bit (s % word_bits)

pub at_emptied_other : (w : ℕ) (l : List ℕ) (r q s : ℕ) → (q ≡ r → ⊥) → s < word_bits * w → bit_at w (clear_words l (r * w) w) q s ≡ bit_at w l q s
unfolding bit_at
at_emptied_other w l r q s ne hs = ap (λ (x : ℕ). bit x (s % word_bits)) (get_or-zeroed_out l (r * w) w (q * w + s / word_bits) (pos_apart w q r (s / word_bits) ne (word_lt hs)))

-- the first n rows emptied
pub at_zeroed : (w n : ℕ) (l : List ℕ) (r s : ℕ) → n * w ≤ length l → r < n → s < word_bits * w → bit_at w (clear_words l 0 (n * w)) r s ≡ false
unfolding bit_at
at_zeroed w n l r s h hr hs =
    let e : 0 + (r * w + s / word_bits) ≡ r * w + s / word_bits = omega arith in
    ap (λ (x : ℕ). bit x (s % word_bits))
    (subst (λ (p : ℕ). get_or (clear_words l 0 (n * w)) p 0 ≡ 0) e
    (get_or-zeroed l 0 (n * w) (r * w + s / word_bits) (omega (arith, row_in n w r hr, word_lt hs)) (omega arith)))
    ∙ zero_bit (s % word_bits)
