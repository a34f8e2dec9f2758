-- Document 01, "Deposit sheet", said of bytes and without reading: what a sheet with these counts, blobs and acknowledgements is.
use Rattle.std.specs.Prelude.{ℕ, ◌<◌, ◌≤◌, ◌≡◌, List, [], ◌∷◌, ◌++◌, length}
use Rattle.number.specs.Number.{limit, encode}
use Rattle.number.specs.declared.token.Counts.{Counts}
use Rattle.grammar.specs.Limits.{max_rows}
use Rattle.answer.specs.Size.{max_size}
use Rattle.layout.specs.Layout.{max_sheet}

-- the items of a list, each spelled, one after the other
unfoldable pub spelled : {A : Type 0} → (A → List ℕ) → List A → List ℕ
spelled item [] = []
spelled item (x ∷ xs) = item x ++ spelled item xs

-- every item is so
unfoldable pub Each : {A : Type 0} → (A → Type 0) → List A → Type 0
Each P [] = Unit {0}
Each P (x ∷ xs) = P x × Each P xs

-- "length and bytes"
abbrev pub blob_spelled : List ℕ → List ℕ
blob_spelled blob = encode (length blob) ++ blob

-- "Compressed numbers, sections in a fixed order, each after its count: 2, then TypeDef and TypeRef counts; number of TypeSpec blobs (1 to 64),
-- each as length and bytes; number of acknowledgements, then rows"; document 02, wish 8: "Raise it to 512, in .. the sheet". Every number of it has
-- an encoding.
pub record Sheet (s : List ℕ) (counts : Counts) (blobs : List (List ℕ)) (acks : List ℕ) : Type 0 where
  pub size : length s ≤ max_sheet
  pub defs-few : counts.defs ≤ max_rows
  pub refs-few : counts.refs ≤ max_rows
  pub rows : counts.specs ≡ length blobs
  pub some_blobs : 1 ≤ length blobs
  pub few_blobs : length blobs ≤ max_size
  pub numbers : (length acks < limit) × Each (λ blob. length blob < limit) blobs × Each (λ row. row < limit) acks
  pub spells : s ≡ encode 2 ++ (encode counts.defs ++ (encode counts.refs ++ (encode (length blobs) ++ (spelled blob_spelled blobs ++ (encode (length acks) ++ spelled encode acks)))))
