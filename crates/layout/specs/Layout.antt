-- Document 01, "Deposit sheet": "sections in a fixed order, each after its count", and the place of the first fault. What the sections hold is
-- read where this leaves them.
use Rattle.std.specs.Prelude.{ℕ, zero, suc, ◌-◌, List, [], ◌∷◌, cond, length, take, drop, ltb, Result, Ok, Err}
use Rattle.number.specs.Checked.{Checked, checked_at, count_at, on_checked}
use Rattle.number.specs.Blob.{blob_at}
use Rattle.number.specs.Token.{row_counts, no_counts}
use Rattle.number.specs.declared.token.Counts.{Counts}
use Rattle.grammar.specs.Limits.{max_rows}
use Rattle.answer.specs.Size.{max_size}
use Rattle.layout.specs.declared.Layout.{Layout}
use Rattle.layout.specs.declared.Section.{Section}

-- a sheet's layout, or the place of its first fault
abbrev pub Parsed : Type 0
Parsed = Result Layout ℕ

-- "Sheets over 65,536 bytes"
abbrev pub max_sheet : ℕ
max_sheet = 65536

-- the count of a section: "2, then TypeDef and TypeRef counts; number of TypeSpec blobs (1 to 64) ..; number of acknowledgements"; document 02,
-- wish 8: "Raise it to 512, in .. the sheet"
unfoldable pub section_count : Section → List ℕ → ℕ → Checked
section_count Section.Counts s at = count_at 2 2 s at
section_count Section.Blobs s at = count_at 1 max_size s at
section_count Section.Acks s at = checked_at s at

-- an item of a section: a table count, a blob, a row
unfoldable pub item_at : Section → List ℕ → ℕ → Checked
item_at Section.Counts s at = count_at 0 max_rows s at
item_at Section.Blobs s at = blob_at s at
item_at Section.Acks s at = checked_at s at

-- so many items, one after the other: "Reading stops at the first fault"
unfoldable pub items : (ℕ → Checked) → ℕ → ℕ → (ℕ → Parsed) → Parsed
items item zero at then = then at
items item (suc k) at then = on_checked (item at) (λ v next. items item k next then) (λ code. Err at)

-- the offsets at which the items of the sections begin, and how many blobs and acknowledgements there are
abbrev pub laid_out : (counts blobs acks rows acknowledged : ℕ) → Layout
laid_out counts blobs acks rows acknowledged = record { starts = record { counts = counts; blobs = blobs; acks = acks }; rows = rows; acknowledged = acknowledged }

-- the layout when the count of a section was read, and the offset after it
unfoldable pub note_of : Section → (count next : ℕ) → Layout → Layout
note_of Section.Counts count next l = laid_out next l.starts.blobs l.starts.acks l.rows l.acknowledged
note_of Section.Blobs count next l = laid_out l.starts.counts next l.starts.acks count l.acknowledged
note_of Section.Acks count next l = laid_out l.starts.counts l.starts.blobs next l.rows count

abbrev pub blank_layout : Layout
blank_layout = laid_out 0 0 0 0 0

-- the sections, one after the other, then "the first left over"
unfoldable pub sections : List Section → List ℕ → ℕ → Layout → Parsed
sections [] s at l = cond (ltb at (length s)) (Err at) (Ok l)
sections (i ∷ is) s at l =
    on_checked (section_count i s at) (λ count next. items (item_at i s) count next (λ end. sections is s end (note_of i count next l)))
    (λ code. Err at)

-- "sections in a fixed order"
abbrev pub all_sections : List Section
all_sections = Section.Counts ∷ Section.Blobs ∷ Section.Acks ∷ []

abbrev pub sections_of : List ℕ → Parsed
sections_of s = sections all_sections s 0 blank_layout

-- "65536, tested before all else"
unfoldable pub layout_of : List ℕ → Parsed
layout_of s = cond (ltb max_sheet (length s)) (Err max_sheet) (sections_of s)

-- ---- What stands in the sections of an accepted sheet.

-- the table counts: of TypeDef and TypeRef as they are read, of TypeSpec the number of rows
unfoldable pub counts_of : List ℕ → Layout → Counts
counts_of s l =
    on_checked (checked_at s l.starts.counts)
    (λ defs next. on_checked (checked_at s next) (λ refs end. row_counts defs refs l.rows) (λ code. no_counts)) (λ code. no_counts)

-- k items from an offset on, and what is made of each by its number and the offset after it
unfoldable pub list_from : {A : Type 0} → (ℕ → Checked) → (ℕ → ℕ → A) → ℕ → ℕ → List A
list_from item value zero at = []
list_from item value (suc k) at = on_checked (item at) (λ v next. value v next ∷ list_from item value k next) (λ code. [])

-- k blobs from an offset on
abbrev pub blobs_from : ℕ → List ℕ → ℕ → List (List ℕ)
blobs_from k s at = list_from (blob_at s) (λ v next. take v (drop (next - v) s)) k at

-- k rows from an offset on
abbrev pub acks_from : ℕ → List ℕ → ℕ → List ℕ
acks_from k s at = list_from (checked_at s) (λ v next. v) k at
