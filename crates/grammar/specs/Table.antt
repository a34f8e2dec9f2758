-- Document 01, "The node table": a node's record, the kinds that are no element bytes, and the flat list of numbers.
use Rattle.std.specs.Prelude.{ℕ, ◌+◌, ◌*◌, Bool, ◌||◌, ◌&&◌, List, [], ◌∷◌, ◌++◌, get_or, eqb}
use Rattle.number.specs.Token.{type_spec_token}
use Rattle.element.specs.declared.Place.{Place}
use Rattle.grammar.specs.declared.Node.{Node}

-- "Each record has: kind, a, b, children, at (offset of the node's first byte), after (index just past its subtree)"
abbrev pub entry : (kind a b children at after : ℕ) → Node
entry kind a b children at after = record { kind = kind; a = a; b = b; children = children; at = at; after = after }

-- "Kind is the element byte, or METHOD 100, FIELD 101, LOCALS 102, PROPERTY 103, SIZE 104, LOW 105 hex"
abbrev pub METHOD : ℕ
METHOD = 0x100

abbrev pub FIELD : ℕ
FIELD = 0x101

abbrev pub LOCALS : ℕ
LOCALS = 0x102

abbrev pub PROPERTY : ℕ
PROPERTY = 0x103

abbrev pub SIZE : ℕ
SIZE = 0x104

abbrev pub LOW : ℕ
LOW = 0x105

-- the kind of a node that begins with the byte b in the place p
abbrev pub kind_of : Place → ℕ → ℕ
kind_of Place.Type b = b
kind_of Place.Pointee b = b
kind_of Place.Param b = b
kind_of Place.RetType b = b
kind_of Place.Local b = b
kind_of Place.Pinned b = b
kind_of Place.TypeSpec b = b
kind_of Place.ModifiedSpec b = b
kind_of Place.FnPtrMethod b = METHOD
kind_of Place.FieldSig b = FIELD
kind_of Place.LocalVarSig b = LOCALS
kind_of Place.PropertySig b = PROPERTY
kind_of Place.MethodDefSig b = METHOD

-- "Mod: 1F or 20": such a node's kind
abbrev pub is_modifier : ℕ → Bool
is_modifier kind = eqb kind 0x1F || eqb kind 0x20

-- "a Mod .. has the token of TypeSpec row s"
abbrev pub is_modifier_of : ℕ → Node → Bool
is_modifier_of s r = is_modifier r.kind && eqb r.a (type_spec_token s)

-- "A flat list of 32-bit numbers, six to a record"
abbrev pub six : Node → List ℕ
six r = r.kind ∷ r.a ∷ r.b ∷ r.children ∷ r.at ∷ r.after ∷ []

unfoldable pub flat : List Node → List ℕ
flat [] = []
flat (r ∷ rs) = six r ++ flat rs

-- the record with index n of a flat list
abbrev pub record_at : List ℕ → ℕ → Node
record_at t n =
    entry (get_or t (6 * n) 0) (get_or t (6 * n + 1) 0) (get_or t (6 * n + 2) 0) (get_or t (6 * n + 3) 0) (get_or t (6 * n + 4) 0) (get_or t (6 * n + 5) 0)
