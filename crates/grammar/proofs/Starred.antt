-- Document 01, "Blobs on the bench": the rows marked ★ as one table, and one claim over all of them.
-- Assumes nothing.
use Prim.Native.Nat.{ℕ}
use mathlib.Core.Path.{◌≡◌, refl}
use mathlib.Core.List.{List, [], ◌∷◌}
use Rattle.number.specs.Number.{number_at, whole, value2, value4}
use Rattle.number.specs.Checked.{checked, checked_at, count_of, count_at}
use Rattle.number.specs.Token.{rows_of, token_of, token_at}
use Rattle.number.specs.declared.token.Counts.{Counts}
use Rattle.element.specs.Element.{bare, leads, entries, form_of}
use Rattle.grammar.specs.Table.{entry}
use Rattle.grammar.specs.Kinds.{root_of}
use Rattle.grammar.specs.Judge.{Out, fault, done, many, body, node, judge}
use Rattle.grammar.specs.declared.Node.{Node}

-- "Counts are TypeDef 0, TypeRef 18, TypeSpec 1"
abbrev pub counts : Counts
counts = record { defs = 0; refs = 18; specs = 1 }

-- what a row says: a refusal and its place, a whole table, or the number of nodes
pub data Says : Type 0 where
  refused : (code place : ℕ) → Says
  gives : List Node → Says
  nodes : ℕ → Says

pub record Row : Type 0 where
  pub kind : ℕ
  pub blob : List ℕ
  pub says : Says

abbrev pub row : ℕ → List ℕ → Says → Row
row kind blob says = record { kind = kind; blob = blob; says = says }

abbrev pub rows : List Row
rows =
    row 1 (0x06 ∷ 0x08 ∷ []) (gives (entry 0x101 0 0 1 0 2 ∷ entry 0x8 0 0 0 1 2 ∷ []))
    ∷ row 1 (0x06 ∷ []) (refused 2 1)
    ∷ row 1 (0x06 ∷ 0x08 ∷ 0x08 ∷ []) (refused 9 2)
    ∷ row 1 (0x06 ∷ 0x10 ∷ 0x08 ∷ []) (refused 5 1)
    ∷ row 0 (0x0F ∷ 0x20 ∷ 0x06 ∷ 0x08 ∷ []) (gives (entry 0xF 0 0 1 0 3 ∷ entry 0x20 6 0 1 1 3 ∷ entry 0x8 0 0 0 3 3 ∷ []))
    ∷ row 0 [] (refused 2 0)
    ∷ row 0 (0x14 ∷ 0x08 ∷ 0x01 ∷ 0x01 ∷ 0x03 ∷ 0x00 ∷ []) (nodes 3)
    ∷ row 0 (0x14 ∷ 0x08 ∷ 0x00 ∷ 0x00 ∷ 0x00 ∷ []) (refused 4 2)
    ∷ row 0 (0x15 ∷ 0x12 ∷ 0x09 ∷ 0x01 ∷ 0x0E ∷ []) (nodes 2)
    ∷ row 0 (0x13 ∷ 0x80 ∷ 0x80 ∷ []) (gives (entry 0x13 128 0 0 0 1 ∷ []))
    ∷ row 0 (0x13 ∷ 0x80 ∷ 0x7F ∷ []) (refused 3 1)
    ∷ []

-- what the judge finds, told as the row tells it
abbrev pub told : Out → Says → Says
told (fault code place) says = refused code place
told (done at n rs) (refused code place) = nodes n
told (done at n rs) (gives ts) = gives rs
told (done at n rs) (nodes k) = nodes n

abbrev pub found : List Row → List Says
found [] = []
found (r ∷ rs) = told (judge r.kind counts r.blob) r.says ∷ found rs

abbrev pub said : List Row → List Says
said [] = []
said (r ∷ rs) = r.says ∷ said rs

-- every row gives what the document says
pub starred : found rows ≡ said rows
unfolding judge node body many form_of entries bare leads token_at token_of rows_of count_at count_of checked_at checked number_at whole value2 value4 root_of
starred = refl
