-- The bytes of a node table, from the records alone: the one blob that can have the table, if any has. Nothing is trusted here: what
-- is emitted counts only once it was judged again (Writer.antt).
use Rattle.std.specs.Prelude.{ℕ, zero, suc, ◌+◌, ◌-◌, ◌/◌, cond, List, [], ◌∷◌, ◌++◌, length, leb, eqb}
use Rattle.number.specs.Number.{encode}
use Rattle.grammar.specs.Limits.{max_depth}
use Rattle.grammar.specs.Table.{METHOD, FIELD, LOCALS, PROPERTY, SIZE, LOW, record_at}
use Rattle.grammar.specs.declared.Node.{Node}

-- how a record's numbers and children stand in the blob
pub data Layout : Type 0 where
  plain valued array instance callable field locals size low : Layout

-- the layouts by kind; every other kind is plain
abbrev pub layouts : List (ℕ × Layout)
layouts =
    (0x11, valued) ∷ (0x12, valued) ∷ (0x13, valued) ∷ (0x1E, valued) ∷ (0x1F, valued) ∷ (0x20, valued) ∷ (0x14, array) ∷ (0x15, instance)
    ∷ (METHOD, callable) ∷ (FIELD, field) ∷ (LOCALS, locals) ∷ (PROPERTY, callable) ∷ (SIZE, size) ∷ (LOW, low) ∷ []

abbrev pub layout_in : List (ℕ × Layout) → ℕ → Layout
layout_in [] kind = plain
layout_in (l ∷ ls) kind = cond (eqb kind l.0) l.1 (layout_in ls kind)

unfoldable pub layout_of : ℕ → Layout
layout_of kind = layout_in layouts kind

-- an ARRAY's children are its type, b SIZEs, and LOWs
abbrev pub lows_of : Node → ℕ
lows_of r = r.children - 1 - r.b

-- the ParamCount of the METHOD or PROPERTY with index n of the flat table t: its children but the return type
abbrev pub param_count : List ℕ → ℕ → ℕ
param_count t n = (record_at t n).children - 1

-- What stands in the blob for the record r, which is record n of the flat table t: bytes, then some children, and for an ARRAY so three times.
-- A code or lead byte is written as a number: below 80 hex a number is its own encoding.
unfoldable pub parts_of : Layout → List ℕ → ℕ → Node → List (List ℕ × ℕ)
parts_of plain t n r = (encode r.kind, r.children) ∷ []
parts_of valued t n r = (encode r.kind ++ encode r.a, r.children) ∷ []
parts_of array t n r = (encode r.kind, 1) ∷ (encode r.a ++ encode r.b, r.b) ∷ (encode (lows_of r), lows_of r) ∷ []
parts_of instance t n r = (encode r.kind ++ (encode r.b ++ (encode r.a ++ encode r.children)), r.children) ∷ []
parts_of callable t n r = (encode r.b ++ (cond (eqb r.a 0) [] (encode r.a) ++ encode (param_count t n)), r.children) ∷ []
parts_of field t n r = (0x06 ∷ [], r.children) ∷ []
parts_of locals t n r = (0x07 ∷ encode r.children, r.children) ∷ []
parts_of size t n r = (encode r.a, r.children) ∷ []
parts_of low t n r = (encode r.a, r.children) ∷ []

-- no table of a blob; or the bytes and the index after the records that they are of
pub data Emitted : Type 0 where
  torn : Emitted
  wrote : (bytes : List ℕ) (n : ℕ) → Emitted

abbrev pub and_then : Emitted → (List ℕ → ℕ → Emitted) → Emitted
and_then torn k = torn
and_then (wrote bs n) k = k bs n

-- k subtrees from record n on
unfoldable pub times : (ℕ → Emitted) → ℕ → ℕ → Emitted
times item zero n = wrote [] n
times item (suc k) n = and_then (item n) (λ bs n₁. and_then (times item k n₁) (λ cs n₂. wrote (bs ++ cs) n₂))

unfoldable pub parts : (ℕ → Emitted) → List (List ℕ × ℕ) → ℕ → Emitted
parts item [] n = wrote [] n
parts item (p ∷ ps) n =
    and_then (times item p.1 n) (λ bs n₁. and_then (parts item ps n₁) (λ cs n₂. wrote (p.0 ++ (bs ++ cs)) n₂))

-- the subtree whose root is record n of the flat table t, at most d levels deep
unfoldable pub emit : (d : ℕ) → List ℕ → ℕ → Emitted
emit zero t n = torn
emit (suc d) t n =
    cond (leb (length t / 6) n) torn
    (parts (λ n'. emit d t n') (parts_of (layout_of (record_at t n).kind) t n (record_at t n)) (n + 1))

-- the whole table
abbrev pub emitted : List ℕ → Emitted
emitted t = emit max_depth t 0
