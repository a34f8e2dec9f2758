-- Laws of `cleared`, `filled` and `standing`.
-- Assumes nothing.
use Prim.Native.Nat.{ℕ, zero, suc, ◌+◌, ◌<◌, ◌≤◌}
use mathlib.Core.Path.{◌≡◌, refl, sym, ap, ◌∙◌, subst}
use mathlib.Core.List.{List}
use mathlib.Core.Bool.{Bool, true, false, cond, ◌||◌}
use mathlib.Core.Logic.{by_cases}
use native.Mathlib.Omega.{arith}
use native.Mathlib.Decide.{ℕ_discrete}
use native.Mathlib.Nat.{le_refl}
use native.Mathlib.Numerals.{add-one}
use lib.ListN.{length, get_or, set, length-set, take}
use Rattle.std.proofs.lemmas.List.{length-take-le, get_or-take}
use lib.Seq.{get_or-set_same, get_or-set_other, set-get_or}
use lib.Dec.{eqb, ltb}
use borrow.Author.Tests.{le-ltb, ltb-false, ne_eqb}
use Rattle.bits.specs.Bits.{bit_at}
use Rattle.bits.specs.Any.{any}
use Rattle.bits.proofs.Bools.{or_neither}
use Rattle.bits.proofs.Any.{any-cong, list_any-any}
use Rattle.std.specs.List.{list_any}
use Rattle.reach.specs.Reach.{Graph, thru}
use Rattle.reach.specs.Closure.{ClosureOf}
use Rattle.reach.proofs.Reaching.{thru-cong}
use Rattle.standing.specs.Standing.{trouble, leaning, standing, cleared, filled, marked_in}
use Rattle.standing.specs.Closed.{leans_on, loses_of, standing_of}

-- ---- cleared
pub length_picked : (b : Bool) (l : List ℕ) (n : ℕ) → length (cond b (set l n 0) l) ≡ length l
length_picked true l n = length-set l n 0
length_picked false l n = refl

pub length_cleared : (l : List ℕ) (n : ℕ) (p : ℕ → Bool) → length (cleared l n p) ≡ length l
unfolding cleared
length_cleared l zero p = refl
length_cleared l (suc n) p = length_picked (p n) (cleared l n p) n ∙ length_cleared l n p

pub cleared-none : (l : List ℕ) (p : ℕ → Bool) → l ≡ cleared l 0 p
unfolding cleared
cleared-none l p = refl

pub cleared-set : (l : List ℕ) (n : ℕ) (p : ℕ → Bool) → p n ≡ true → set (cleared l n p) n 0 ≡ cleared l (n + 1) p
unfolding cleared
cleared-set l n p h = rw add-one (rw h)

pub cleared-kept : (l : List ℕ) (n : ℕ) (p : ℕ → Bool) → p n ≡ false → cleared l n p ≡ cleared l (n + 1) p
unfolding cleared
cleared-kept l n p h = rw add-one (rw h)

pub cleared-cong : (l : List ℕ) (n : ℕ) (p q : ℕ → Bool) → ((j : ℕ) → j < n → p j ≡ q j) → cleared l n p ≡ cleared l n q
unfolding cleared
cleared-cong l zero p q e = refl
cleared-cong l (suc n) p q e = rw (cleared-cong l n p q (λ j h. e j (omega arith)), e n (le_refl (suc n)))

get_or-picked_other : (b : Bool) (l : List ℕ) (n j : ℕ) → (j ≡ n → ⊥) → get_or (cond b (set l n 0) l) j 0 ≡ get_or l j 0
get_or-picked_other true l n j ne = get_or-set_other l n j 0 0 ne
get_or-picked_other false l n j ne = refl

get_or-picked_same : (b : Bool) (l : List ℕ) (n : ℕ) → n < length l → get_or (cond b (set l n 0) l) n 0 ≡ cond b 0 (get_or l n 0)
get_or-picked_same true l n h = get_or-set_same l n 0 0 h
get_or-picked_same false l n h = refl

pub get_or-cleared_out : (l : List ℕ) (n : ℕ) (p : ℕ → Bool) (j : ℕ) → n ≤ j → get_or (cleared l n p) j 0 ≡ get_or l j 0
unfolding cleared
get_or-cleared_out l zero p j h = refl
get_or-cleared_out l (suc n) p j h = get_or-picked_other (p n) (cleared l n p) n j (omega arith) ∙ get_or-cleared_out l n p j (omega arith)

cleared-here : (l : List ℕ) (n : ℕ) (p : ℕ → Bool) → n < length l → get_or (cleared l (suc n) p) n 0 ≡ cond (p n) 0 (get_or l n 0)
unfolding cleared
cleared-here l n p h =
    get_or-picked_same (p n) (cleared l n p) n (omega (arith, length_cleared l n p)) ∙ ap (cond (p n) 0) (get_or-cleared_out l n p n (le_refl n))

pub get_or-cleared : (l : List ℕ) (n : ℕ) (p : ℕ → Bool) (j : ℕ) → j < n → n ≤ length l → get_or (cleared l n p) j 0 ≡ cond (p j) 0 (get_or l j 0)
unfolding cleared
get_or-cleared l zero p j h k = absurd (omega arith)
get_or-cleared l (suc n) p j h k =
    by_cases (ℕ_discrete j n)
    (λ (e : j ≡ n). subst (λ (x : ℕ). get_or (cleared l (suc n) p) x 0 ≡ cond (p x) 0 (get_or l x 0)) (sym e) (cleared-here l n p k))
    (λ ne. get_or-picked_other (p n) (cleared l n p) n j ne ∙ get_or-cleared l n p j (omega arith) (omega arith))

-- where no row has a mark, none is taken
pub cleared-unmarked : (l : List ℕ) (n : ℕ) (p : ℕ → Bool) → any n (marked_in l) ≡ false → cleared l n p ≡ l
unfolding any cleared
cleared-unmarked l zero p h = refl
cleared-unmarked l (suc n) p h =
    let f = or_neither (any n (marked_in l)) (marked_in l n) h in
    let e = cleared-unmarked l n p f.0 in
    let z = ltb-false 0 (get_or l n 0) f.1 in
    let k : get_or l n 0 ≡ 0 = omega arith in
    rw e (same_picked (p n) (ap (set l n) (sym k) ∙ set-get_or l n 0))
  where
    same_picked : (b : Bool) → set l n 0 ≡ l → cond b (set l n 0) l ≡ l
    same_picked true q = q
    same_picked false q = refl

-- the first n marks, by their indices
pub any-taken : (marks : List ℕ) (n : ℕ) → n ≤ length marks → list_any (λ m. ltb 0 m) (take n marks) ≡ any n (marked_in marks)
any-taken marks n h =
    list_any-any (λ m. ltb 0 m) (take n marks)
    ∙ subst (λ (k : ℕ). any k (marked_in (take n marks)) ≡ any n (marked_in (take n marks))) (sym (length-take-le n marks h)) refl
    ∙ any-cong n _ _ (λ j hj. ap (λ m. ltb 0 m) (get_or-take n marks j 0 hj))

-- ---- filled
pub length_filled : (l : List ℕ) (n : ℕ) (f : ℕ → ℕ) → length (filled l n f) ≡ length l
unfolding filled
length_filled l zero f = refl
length_filled l (suc n) f = length-set (filled l n f) n (f n) ∙ length_filled l n f

pub filled_none : (l : List ℕ) (f : ℕ → ℕ) → l ≡ filled l 0 f
unfolding filled
filled_none l f = refl

pub filled_more : (l : List ℕ) (n : ℕ) (f : ℕ → ℕ) → set (filled l n f) n (f n) ≡ filled l (n + 1) f
unfolding filled
filled_more l n f = rw add-one refl

pub filled-cong : (l : List ℕ) (n : ℕ) (f g : ℕ → ℕ) → ((j : ℕ) → j < n → f j ≡ g j) → filled l n f ≡ filled l n g
unfolding filled
filled-cong l zero f g e = refl
filled-cong l (suc n) f g e = rw (filled-cong l n f g (λ j h. e j (omega arith)), e n (le_refl (suc n)))

pub get_or-filled : (l : List ℕ) (n : ℕ) (f : ℕ → ℕ) (j : ℕ) → j < n → n ≤ length l → get_or (filled l n f) j 0 ≡ f j
unfolding filled
get_or-filled l zero f j h k = absurd (omega arith)
get_or-filled l (suc n) f j h k =
    by_cases (ℕ_discrete j n)
    (λ (e : j ≡ n). subst (λ (x : ℕ). get_or (set (filled l n f) n (f n)) x 0 ≡ f x) (sym e) (get_or-set_same (filled l n f) n (f n) 0 (omega (arith, length_filled l n f))))
    (λ ne. get_or-set_other (filled l n f) n j (f n) 0 ne ∙ get_or-filled l n f j (omega arith) (omega arith))

-- ---- standing goes by the first n rows alone
module _ (n : ℕ) (s t : ℕ → ℕ) (g h : Graph) (es : (i : ℕ) → i < n → s i ≡ t i) (eg : (r q : ℕ) → r < n → q < n → g r q ≡ h r q) where
  pub trouble-cong : (j : ℕ) → j < n → trouble n s g j ≡ trouble n t h j
  unfolding trouble
  trouble-cong j hj = rw (es j hj, thru-cong n g h eg n (le_refl n) j j hj hj)

  pub leaning-cong : (i : ℕ) → i < n → leaning n s g i ≡ leaning n t h i
  unfolding leaning
  leaning-cong i hi = any-cong n _ _ (λ j hj. rw (thru-cong n g h eg n (le_refl n) i j hi hj, trouble-cong j hj))

  pub standing-cong : (i : ℕ) → i < n → standing n s g i ≡ standing n t h i
  unfolding standing
  standing-cong i hi = rw (es i hi, thru-cong n g h eg n (le_refl n) i i hi hi, leaning-cong i hi)

-- ---- the same tests over the closed table
by_state : (state x y : ℕ) → x ≡ y → cond (ltb state 2) state x ≡ cond (eqb state 0) 0 (cond (eqb state 1) 1 y)
by_state zero x y e = refl
by_state (suc zero) x y e = refl
by_state (suc (suc state)) x y e = rw (le-ltb (suc (suc state)) 2 (omega arith), ne_eqb (suc (suc state)) 0 (omega arith), ne_eqb (suc (suc state)) 1 (omega arith)) e

module _ (w v n : ℕ) (refs m : List ℕ) (e : ClosureOf w v n refs m) where
  pub loses_in : (i : ℕ) → i < n → (l : List ℕ) → cleared l n (loses_of w m i) ≡ cleared l n (λ j. eqb j i || thru (bit_at v refs) n j i)
  loses_in i hi l = cleared-cong l n _ _ (λ j hj. rw (e j i hj hi))

  module _ (states : List ℕ) where
    leaning-in : (i : ℕ) → i < n → any n (leans_on w m states i) ≡ leaning n (λ j. get_or states j 0) (bit_at v refs) i
    unfolding leaning trouble
    leaning-in i hi = any-cong n _ _ (λ j hj. rw (e i j hi hj, e j j hj hj))

    pub standing-in : (i : ℕ) → i < n → standing_of w m states n i ≡ standing n (λ j. get_or states j 0) (bit_at v refs) i
    unfolding standing standing_of
    standing-in i hi = by_state (get_or states i 0) _ _ (rw (e i i hi hi, leaning-in i hi))
