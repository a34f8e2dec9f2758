-- Document 01, "What the intake desk hands over": the kinds of signatures, and the place in the grammar of each one's root.
use Rattle.std.specs.Prelude.{ℕ, ◌-◌, List, [], ◌∷◌, length, get_or}
use Rattle.element.specs.declared.Place.{Place}

-- "Kinds: 0 TypeSpec, 1 FieldSig, 2 LocalVarSig, 3 PropertySig, 4 MethodDefSig"
abbrev pub roots : List Place
roots = Place.TypeSpec ∷ Place.FieldSig ∷ Place.LocalVarSig ∷ Place.PropertySig ∷ Place.MethodDefSig ∷ []

abbrev pub max_kind : ℕ
max_kind = length roots - 1

-- the root of a kind; no root stands in the place of a Type
unfoldable pub root_of : ℕ → Place
root_of kind = get_or roots kind Place.Type
