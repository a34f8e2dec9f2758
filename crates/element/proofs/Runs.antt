-- Tables of runs of bytes: a byte in a run and out of it, and an interval of bytes that no run cuts.
-- Assumes nothing.
use Prim.Native.Nat.{ℕ, suc, ◌≤◌, ◌<◌}
use mathlib.Core.Path.{◌≡◌, refl}
use mathlib.Core.Bool.{Bool, true, false, cond, ◌&&◌, ◌||◌}
use mathlib.Core.List.{List, [], ◌∷◌}
use mathlib.Core.Logic.{◌⊎◌, inl, inr, ⊎_elim}
use native.Mathlib.Omega.{arith}
use lib.Dec.{T, leb, ltb, leb→le, ltb→lt}
use borrow.Author.Tests.{leb-true, le-leb, ltb-true, ltb-false}
use Rattle.element.specs.declared.Place.{Place}
use Rattle.element.specs.declared.Form.{Form}
use Rattle.element.specs.declared.Form.TheVariants.{Refused, Leaf, Named, Variable, Wrap, Modified, Counted, Array, Instance, Callable, Generic}
use Rattle.element.specs.Element.{by_sort, anywhere, nowhere, Entry, run, allowed, within, lookup}

pub inside : (first last b : ℕ) → first ≤ b → b ≤ last → within first last b ≡ true
inside first last b l u = simp (le-leb _ _ l, le-leb _ _ u)

pub outside : (first last b : ℕ) → (first ≤ b → b ≤ last → ⊥) → within first last b ≡ false
outside first last b out = low (leb first b) refl (leb b last) refl
  where
    low : (x : Bool) → leb first b ≡ x → (y : Bool) → leb b last ≡ y → (leb first b && leb b last) ≡ false
    low true e true f = absurd (out (leb-true _ _ e) (leb-true _ _ f))
    low true e false f = rw (e, f)
    low false e y f = rw e

-- whether no entry cuts the bytes from lo up to, not including, hi: each holds all of them or none, up to the first that holds them
abbrev pub uncut : List Entry → (lo hi : ℕ) → Bool
uncut [] lo hi = true
uncut (run first last f ∷ es) lo hi =
    cond (leb hi first || ltb last lo) (uncut es lo hi) (leb first lo && leb hi (suc last))

either : (a b : Bool) → T (a || b) → T a ⊎ T b
either true b t = inl tt
either false b t = inr t

both : (a b : Bool) → T (a && b) → T a × T b
both true true t = (tt, tt)
both true false t = absurd t
both false b t = absurd t

-- such an interval has one form
pub same_run : (es : List Entry) {lo hi b : ℕ} → lo ≤ b → b < hi → T (uncut es lo hi) → lookup es b ≡ lookup es lo
same_run [] l u t = refl
same_run (run first last f ∷ es) {lo} {hi} {b} l u t =
    go (leb hi first || ltb last lo) (λ s. s) (λ s. same_run es l u s) t
  where
    go : (k : Bool) → (T k → T (leb hi first || ltb last lo)) → (T (uncut es lo hi) → lookup es b ≡ lookup es lo)
        → T (cond k (uncut es lo hi) (leb first lo && leb hi (suc last)))
        → cond (within first last b) f (lookup es b) ≡ cond (within first last lo) f (lookup es lo)
    go true e rest s =
        ⊎_elim
        (λ q. let h : hi ≤ first = leb→le _ _ q in simp (outside first last b (λ m n. omega arith), outside first last lo (λ m n. omega arith)) (rest s))
        (λ q. let h : last < lo = ltb→lt _ _ q in simp (outside first last b (λ m n. omega arith), outside first last lo (λ m n. omega arith)) (rest s))
        (either (leb hi first) (ltb last lo) (e tt))
    go false e rest s =
        let p = both (leb first lo) (leb hi (suc last)) s in
        let h : first ≤ lo = leb→le _ _ p.0 in
        let k : hi ≤ suc last = leb→le _ _ p.1 in
        simp (inside first last b (omega arith) (omega arith), inside first last lo (omega arith) (omega arith))

pub lt_or_le : (b n : ℕ) → (b < n) ⊎ (n ≤ b)
lt_or_le b n = go (ltb b n) refl
  where
    go : (t : Bool) → ltb b n ≡ t → (b < n) ⊎ (n ≤ b)
    go true e = inl (ltb-true b n e)
    go false e = inr (ltb-false b n e)

-- a test of forms that all entries pass, and Refused too, is passed by the form of every byte
abbrev pub all_forms : (Form → Bool) → List Entry → Bool
all_forms test [] = true
all_forms test (run first last f ∷ es) = test f && all_forms test es

pub lookup-passes : (test : Form → Bool) (es : List Entry) (b : ℕ) → test Refused ≡ true → all_forms test es ≡ true → test (lookup es b) ≡ true
lookup-passes test [] b r e = r
lookup-passes test (run first last f ∷ es) b r e =
    go (test f) (all_forms test es) refl e (within first last b) (λ a. lookup-passes test es b r a)
  where
    go : (x y : Bool) → test f ≡ x → x && y ≡ true → (t : Bool) → (y ≡ true → test (lookup es b) ≡ true) → test (cond t f (lookup es b)) ≡ true
    go true y p q true k = p
    go true y p q false k = k q
    go false y p q t k = cc

-- the one form that is not allowed
pub refused-form : (f : Form) → allowed f ≡ false → f ≡ Refused
refused-form Refused e = refl
refused-form Leaf e = cc
refused-form Named e = cc
refused-form Variable e = cc
refused-form (Wrap p) e = cc
refused-form (Modified p) e = cc
refused-form (Counted p) e = cc
refused-form Array e = cc
refused-form Instance e = cc
refused-form (Callable p) e = cc
refused-form (Generic p) e = cc

-- where only Callable is allowed
abbrev pub called : Form → Bool
called f = by_sort true false nowhere nowhere nowhere anywhere nowhere f

pub uncalled_form : (f : Form) → called f ≡ true → ((p : Place) → f ≡ Callable p → ⊥) → f ≡ Refused
uncalled_form Refused e h = refl
uncalled_form Leaf e h = cc
uncalled_form Named e h = cc
uncalled_form Variable e h = cc
uncalled_form (Wrap p) e h = cc
uncalled_form (Modified p) e h = cc
uncalled_form (Counted p) e h = cc
uncalled_form Array e h = cc
uncalled_form Instance e h = cc
uncalled_form (Callable p) e h = absurd (h p refl)
uncalled_form (Generic p) e h = cc
