-- Rules over the places: what the checker computes for all of them holds in each.
-- Assumes nothing.
use Prim.Native.Nat.{ℕ, ◌≤◌, ◌<◌}
use mathlib.Core.Path.{◌≡◌, refl, sym, ◌∙◌}
use mathlib.Core.Bool.{Bool, true, false, cond, not, ◌||◌}
use mathlib.Core.List.{List, [], ◌∷◌}
use lib.Dec.{T, eqb}
use denote.Enum.Declared.{tag_of}
use mir.Val.{has_key}
use types.Run.{OneOf, miss}
use Rattle.element.specs.contracts.Place.{the_type}
use Rattle.element.specs.declared.Place.{Place}
use Rattle.element.specs.declared.Form.{Form}
use Rattle.element.specs.declared.Form.TheVariants.{Refused, Callable}
use Rattle.element.specs.Element.{by_sort, nowhere, allowed, lookup, bare, leads, entries, form_of, places, is_type_place}
use Rattle.element.proofs.Runs.{uncut, same_run, all_forms, lookup-passes, called, uncalled_form}

-- a value for each place
abbrev pub each : {A : Type 0} → (Place → A) → List Place → List A
each f [] = []
each f (p ∷ ps) = f p ∷ each f ps

-- two that are the same for every place are the same at this one
pub at_place : {A : Type 0} (f g : Place → A) → each f places ≡ each g places → (p : Place) → f p ≡ g p
unfolding places
at_place f g e Place.Type = cc
at_place f g e Place.Pointee = cc
at_place f g e Place.Param = cc
at_place f g e Place.RetType = cc
at_place f g e Place.Local = cc
at_place f g e Place.Pinned = cc
at_place f g e Place.TypeSpec = cc
at_place f g e Place.ModifiedSpec = cc
at_place f g e Place.FnPtrMethod = cc
at_place f g e Place.FieldSig = cc
at_place f g e Place.LocalVarSig = cc
at_place f g e Place.PropertySig = cc
at_place f g e Place.MethodDefSig = cc

-- ---- places of a type

-- a value in each place of a type, and this one elsewhere
abbrev pub of_types : {A : Type 0} → A → (Place → A) → Place → A
of_types a f p = cond (is_type_place p) (f p) a

pub at_type : {A : Type 0} (a : A) (f g : Place → A) → each (of_types a f) places ≡ each (of_types a g) places → (p : Place) → is_type_place p ≡ true → f p ≡ g p
at_type a f g e p t = rw t at (at_place (of_types a f) (of_types a g) e p)

-- a match that names all other places leaves them to `_`
abbrev pub type_place_tags : List Place → List ℕ
type_place_tags [] = []
type_place_tags (p ∷ ps) = cond (is_type_place p) (tag_of the_type p ∷ type_place_tags ps) (type_place_tags ps)

pub left-types : (p : Place) → OneOf (type_place_tags places) (tag_of the_type p) → is_type_place p ≡ true
unfolding form_of entries bare leads places
left-types p h = go (is_type_place p) (λ n. miss (type_place_tags places) (tag_of the_type p) (rw (at_place (λ q. not (has_key (type_place_tags places) (tag_of the_type q))) (λ q. not (is_type_place q)) refl p) n) h)
  where
    go : (t : Bool) → (T (not t) → ⊥) → t ≡ true
    go true n = refl
    go false n = absurd (n tt)

module _ (p : Place) (t : is_type_place p ≡ true) where
  -- the bytes from lo up to, not including, hi have the form of the first, if no place's entries cut them
  pub type_same : (lo hi : ℕ) → each (of_types true (λ q. uncut (entries q) lo hi)) places ≡ each (of_types true (λ q. true)) places → {b : ℕ} → lo ≤ b → b < hi → form_of p lo ≡ form_of p b
  unfolding form_of
  type_same lo hi e l u =
      let x : uncut (entries p) lo hi ≡ true = at_type true (λ q. uncut (entries q) lo hi) (λ q. true) e p t in
      sym (same_run (entries p) l u (rw x tt))

  -- .. and that is f in all of them
  pub type_run : (lo hi : ℕ) (f : Form) → each (of_types f (λ q. form_of q lo)) places ≡ each (of_types f (λ q. f)) places
      → each (of_types true (λ q. uncut (entries q) lo hi)) places ≡ each (of_types true (λ q. true)) places → {b : ℕ} → lo ≤ b → b < hi → f ≡ form_of p b
  type_run lo hi f d e l u = sym (at_type f (λ q. form_of q lo) (λ q. f) d p t) ∙ type_same lo hi e l u

  pub type_byte : (k : ℕ) (f : Form) → each (of_types f (λ q. form_of q k)) places ≡ each (of_types f (λ q. f)) places → {b : ℕ} → b ≡ k → f ≡ form_of p b
  type_byte k f e h = rw h (sym (at_type f (λ q. form_of q k) (λ q. f) e p t))

  -- a byte that only some of them allow
  pub type_some : (k : ℕ) (f : Form) → each (of_types f (λ q. cond (allowed (form_of q k)) f Refused)) places ≡ each (of_types f (λ q. form_of q k)) places
      → {b : ℕ} → b ≡ k → cond (allowed (form_of p b)) f Refused ≡ form_of p b
  type_some k f e h = rw h (at_type f (λ q. cond (allowed (form_of q k)) f Refused) (λ q. form_of q k) e p t)

-- ---- forms by place

-- a byte below FNPTR that leads no method is refused
pub unled : (b : ℕ) → ((p : Place) → form_of Place.FnPtrMethod b ≡ Callable p → ⊥) → form_of Place.FnPtrMethod b ≡ Refused
unfolding form_of entries leads
unled b h = uncalled_form (lookup leads b) (lookup-passes called leads b refl refl) h

-- the place of FNPTR's method, by its tag
abbrev pub is_fn_ptr_method : Place → Bool
is_fn_ptr_method p = eqb (tag_of the_type p) (tag_of the_type Place.FnPtrMethod)

pub fn_ptr_method : (p : Place) → is_fn_ptr_method p ≡ true → p ≡ Place.FnPtrMethod
unfolding form_of entries bare leads places
fn_ptr_method p e = sym (rw e at (at_place (λ q. cond (is_fn_ptr_method q) Place.FnPtrMethod q) (λ q. q) refl p))

-- a form that a place of a type may have; its children stand in places of a type, but for FNPTR's
abbrev pub type_form : Form → Bool
type_form f = by_sort true true (λ p. is_type_place p || is_fn_ptr_method p) is_type_place nowhere nowhere nowhere f

-- a form that any other place may have, which is that of a signature; its children stand in places of a type
abbrev pub signature_form : Form → Bool
signature_form f = by_sort true false is_type_place nowhere is_type_place is_type_place is_type_place f

-- the forms of the entries of a place are those of a type or of a signature
fits : Place → Bool
fits p = cond (is_type_place p) (all_forms type_form (entries p)) (all_forms signature_form (entries p))

all_fit : (p : Place) → fits p ≡ true
unfolding form_of entries bare leads places fits
all_fit p = at_place fits (λ q. true) refl p

pub type_form-fits : (p : Place) (b : ℕ) → is_type_place p ≡ true → type_form (form_of p b) ≡ true
unfolding form_of fits
type_form-fits p b t = lookup-passes type_form (entries p) b refl (rw t at (all_fit p))

pub signature_form-fits : (p : Place) (b : ℕ) → is_type_place p ≡ false → signature_form (form_of p b) ≡ true
unfolding form_of fits
signature_form-fits p b t = lookup-passes signature_form (entries p) b refl (rw t at (all_fit p))
