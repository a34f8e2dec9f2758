-- Document 01, "Element bytes (hex)" and "The grammar": the code bytes that each place allows, and what follows each of them.
use Rattle.std.specs.Prelude.{ℕ, List, [], ◌∷◌, Bool, true, false, cond, ◌&&◌, leb}
use Rattle.element.specs.declared.Place.{Place}
use Rattle.element.specs.declared.Form.{Form}
use Rattle.element.specs.declared.Form.TheVariants.{Refused, Leaf, Named, Variable, Wrap, Modified, Counted, Array, Instance, Callable, Generic}

-- A value for each sort of form: refused; of a type, with no place; one child; a modifier; counted types; a method, without and with a generic count.
abbrev pub by_sort : {A : Type 0} → (refused plain : A) → (wrap modified counted callable generic : Place → A) → Form → A
by_sort r a w m c k g Refused = r
by_sort r a w m c k g Leaf = a
by_sort r a w m c k g Named = a
by_sort r a w m c k g Variable = a
by_sort r a w m c k g (Wrap p) = w p
by_sort r a w m c k g (Modified p) = m p
by_sort r a w m c k g (Counted p) = c p
by_sort r a w m c k g Array = a
by_sort r a w m c k g Instance = a
by_sort r a w m c k g (Callable p) = k p
by_sort r a w m c k g (Generic p) = g p

abbrev pub anywhere : Place → Bool
anywhere p = true

abbrev pub nowhere : Place → Bool
nowhere p = false

-- every form but Refused
abbrev pub allowed : Form → Bool
allowed f = by_sort false true anywhere anywhere anywhere anywhere anywhere f

-- the bytes from the first to the last, and their form
pub data Entry : Type 0 where
  run : (first last : ℕ) → Form → Entry

abbrev pub one : ℕ → Form → Entry
one b f = run b b f

abbrev pub within : (first last : ℕ) → ℕ → Bool
within first last b = leb first b && leb b last

-- the form of the first entry that has the byte; a byte that no entry has is refused
abbrev pub lookup : List Entry → ℕ → Form
lookup [] b = Refused
lookup (run first last f ∷ rest) b = cond (within first last b) f (lookup rest b)

-- "Bare: 02..0E, 18, 19, 1C; or 11 or 12 with a TypeDef or TypeRef token; or 0F, Mods, then VOID or Bare; or 1D Type; or 14 Type
-- Shape; or 15 ..; or 13 or 1E and a number; or 1B and a Method"
unfoldable pub bare : List Entry
bare =
    run 0x02 0x0E Leaf
    ∷ run 0x18 0x19 Leaf
    ∷ one 0x1C Leaf
    ∷ run 0x11 0x12 Named
    ∷ one 0x0F (Wrap Place.Pointee)
    ∷ one 0x1D (Wrap Place.Type)
    ∷ one 0x14 Array
    ∷ one 0x15 Instance
    ∷ one 0x13 Variable
    ∷ one 0x1E Variable
    ∷ one 0x1B (Wrap Place.FnPtrMethod)
    ∷ []

-- "Mod: 1F or 20, then a token of any of the three tags": modifiers before what stands in the place p
abbrev pub mods : Place → Entry
mods p = run 0x1F 0x20 (Modified p)

abbrev pub void : Entry
void = one 0x01 Leaf

-- "10 Type"
abbrev pub by_ref : Entry
by_ref = one 0x10 (Wrap Place.Type)

abbrev pub typed_by_ref : Entry
typed_by_ref = one 0x16 Leaf

-- "Method: a lead byte .., then ParamCount, RetType, that many Params"
abbrev pub lead : ℕ → Entry
lead b = one b (Callable Place.Param)

-- the same with a generic count
abbrev pub generic_lead : ℕ → Entry
generic_lead b = one b (Generic Place.Param)

-- "a lead byte 00, 05, 20, 25, 60 or 65"
unfoldable pub leads : List Entry
leads = lead 0x00 ∷ lead 0x05 ∷ lead 0x20 ∷ lead 0x25 ∷ lead 0x60 ∷ lead 0x65 ∷ []

unfoldable pub entries : Place → List Entry
-- "Type: Mods, then Bare"
entries Place.Type = mods Place.Type ∷ bare
-- "Mods, then VOID or Bare"
entries Place.Pointee = mods Place.Pointee ∷ void ∷ bare
-- "Param: Mods, then Bare, 10 Type, or 16"
entries Place.Param = mods Place.Param ∷ by_ref ∷ typed_by_ref ∷ bare
-- "RetType: the same, or 01"
entries Place.RetType = mods Place.RetType ∷ by_ref ∷ typed_by_ref ∷ void ∷ bare
-- "Local: Mods, then Bare, 16, 10 Type, 45 Type, or 45 10 Type"
entries Place.Local = mods Place.Local ∷ typed_by_ref ∷ by_ref ∷ one 0x45 (Wrap Place.Pinned) ∷ bare
entries Place.Pinned = by_ref ∷ mods Place.Type ∷ bare
-- "TypeSpec: Mods, then Bare, 01 or 16; but a first byte of 11 or 12 is refused"
entries Place.TypeSpec = run 0x11 0x12 Refused ∷ mods Place.ModifiedSpec ∷ void ∷ typed_by_ref ∷ bare
entries Place.ModifiedSpec = mods Place.ModifiedSpec ∷ void ∷ typed_by_ref ∷ bare
-- "under FNPTR those three are refused"
entries Place.FnPtrMethod = leads
-- "FieldSig: 06 Type"
entries Place.FieldSig = one 0x06 (Wrap Place.Type) ∷ []
-- "LocalVarSig: 07, a count of at least 1, that many Locals"
entries Place.LocalVarSig = one 0x07 (Counted Place.Local) ∷ []
-- "PropertySig: 08 or 28, ParamCount, RetType, Params"
entries Place.PropertySig = lead 0x08 ∷ lead 0x28 ∷ []
-- "As kind 4 also 10, 30 or 70, followed by a generic count of at least 1 before ParamCount"
entries Place.MethodDefSig = generic_lead 0x10 ∷ generic_lead 0x30 ∷ generic_lead 0x70 ∷ leads

unfoldable pub form_of : Place → ℕ → Form
form_of p b = lookup (entries p) b

-- every place, once
unfoldable pub places : List Place
places =
    Place.Type ∷ Place.Pointee ∷ Place.Param ∷ Place.RetType ∷ Place.Local ∷ Place.Pinned ∷ Place.TypeSpec ∷ Place.ModifiedSpec
    ∷ Place.FnPtrMethod ∷ Place.FieldSig ∷ Place.LocalVarSig ∷ Place.PropertySig ∷ Place.MethodDefSig ∷ []

-- a place of a type: one that allows modifiers. All of them have Bare's bytes but for TypeSpec, and what only some have is looked up in the place.
abbrev pub is_type_place : Place → Bool
is_type_place p = allowed (form_of p 0x1F)
