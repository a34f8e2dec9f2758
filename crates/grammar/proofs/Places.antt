-- What a place says of the kinds of its nodes.
-- Assumes nothing.
use Prim.Native.Nat.{ℕ}
use mathlib.Core.Path.{◌≡◌, refl}
use mathlib.Core.Bool.{true}
use Rattle.element.specs.Element.{bare, leads, entries, form_of, places, is_type_place}
use Rattle.element.specs.declared.Place.{Place}
use Rattle.element.proofs.Places.{at_type}
use Rattle.grammar.specs.Table.{kind_of}

-- in a place of a type the kind is the byte
pub type_kind : (p : Place) (b : ℕ) → is_type_place p ≡ true → kind_of p b ≡ b
unfolding form_of entries bare leads places
type_kind p b t = at_type 0 (λ q. kind_of q b) (λ q. b) refl p t
