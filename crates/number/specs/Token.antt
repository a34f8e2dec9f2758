-- Document 01, "Numbers and tokens": tokens, with the refusals 7 and 8 of "Numbers on the panel".
use Rattle.std.specs.Prelude.{ℕ, ◌+◌, ◌*◌, ◌/◌, ◌%◌, List, ◌∷◌, cond, ◌&&◌, ltb, leb, eqb, Err}
use Rattle.number.specs.declared.token.Counts.{Counts}
use Rattle.answer.specs.declared.refusal.Refusal.TheVariants.{WrongTag, RowOutOfRange}
use Rattle.number.specs.Number.{found}
use Rattle.number.specs.Checked.{Checked, checked_at, on_checked, number_refusals}

-- "row times 4 plus tag"
abbrev pub tag_of : ℕ → ℕ
tag_of t = t % 4

abbrev pub row_of : ℕ → ℕ
row_of t = t / 4

-- "Tag 0 TypeDef, 1 TypeRef, 2 TypeSpec"
abbrev pub type_spec_tag : ℕ
type_spec_tag = 2

-- the token of a TypeSpec row
abbrev pub type_spec_token : ℕ → ℕ
type_spec_token row = 4 * row + type_spec_tag

-- the row count of a tag's table; no table has tag 3
unfoldable pub rows_of : Counts → ℕ → ℕ
rows_of counts tag = cond (eqb tag 0) counts.defs (cond (eqb tag 1) counts.refs (cond (eqb tag type_spec_tag) counts.specs 0))

-- the tags below this name a type in VALUETYPE, CLASS and GENERICINST: TypeDef and TypeRef
abbrev pub type_tags : ℕ
type_tags = 2

-- the tags below this are good in a modifier: all three
abbrev pub mod_tags : ℕ
mod_tags = 3

-- 7 for the tag, then 8 for the row: "Rows run from 1 to the table's count"
unfoldable pub token_of : (tags : ℕ) → Counts → Checked → Checked
token_of tags counts c =
    on_checked c
    (λ t next. cond (ltb (tag_of t) tags)
    (cond (leb 1 (row_of t) && leb (row_of t) (rows_of counts (tag_of t))) (found t next) (Err RowOutOfRange))
    (Err WrongTag))
    Err

unfoldable pub token_at : (tags : ℕ) → Counts → List ℕ → ℕ → Checked
token_at tags counts s at = token_of tags counts (checked_at s at)

-- all that a token is refused by: "or 7, 8"
abbrev pub token_refusals : List ℕ
token_refusals = 7 ∷ 8 ∷ number_refusals

abbrev pub row_counts : (defs refs specs : ℕ) → Counts
row_counts defs refs specs = record { defs = defs; refs = refs; specs = specs }

-- no rows in any table
abbrev pub no_counts : Counts
no_counts = row_counts 0 0 0
