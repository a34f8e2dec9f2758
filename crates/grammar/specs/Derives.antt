-- Document 01, "The grammar", as rules that derive bytes and records: a rule for each form of production. No order of refusals is
-- here, and nothing is computed.
-- Each relation says: these bytes, the first of them at the offset `at` and the first node with the index n, are one such thing; the
-- offset after it is at', the index after it n', and these are its records, parents first.
use Rattle.std.specs.Prelude.{ℕ, zero, suc, ◌+◌, ◌≤◌, ◌<◌, ◌≡◌, List, [], ◌∷◌, ◌++◌, length}
use Rattle.number.specs.Number.{Bytes, limit, encode}
use Rattle.number.specs.Token.{tag_of, row_of, rows_of, type_tags, mod_tags}
use Rattle.number.specs.declared.token.Counts.{Counts}
use Rattle.element.specs.Element.{form_of}
use Rattle.element.specs.declared.Place.{Place}
use Rattle.element.specs.declared.Form.{Form}
use Rattle.element.specs.declared.Form.TheVariants.{Leaf, Named, Variable, Wrap, Modified, Counted, Array, Instance, Callable, Generic}
use Rattle.grammar.specs.Kinds.{max_kind, root_of}
use Rattle.grammar.specs.Limits.{max_bytes, max_rows, max_nodes, max_depth, max_rank}
use Rattle.grammar.specs.Table.{entry, kind_of, SIZE, LOW, flat}
use Rattle.grammar.specs.declared.Node.{Node}

abbrev pub Span : Type 1
Span = (at n at' n' : ℕ) → List ℕ → List Node → Type 0

-- the bytes are v's encoding, from `at` to `next`
pub record Numeral (v at next : ℕ) (bs : List ℕ) : Type 0 where
  pub small : v < limit
  pub written : bs ≡ encode v
  pub ends : next ≡ at + length bs

-- t names a row of a table whose tag is below `tags`
pub record Token (tags : ℕ) (counts : Counts) (t : ℕ) : Type 0 where
  pub tag : tag_of t < tags
  pub positive : 1 ≤ row_of t
  pub within : row_of t ≤ rows_of counts (tag_of t)

-- k things, one after the other
pub data Many (X : Span) : (k at n at' n' : ℕ) → List ℕ → List Node → Type 0 where
  none : {at n : ℕ} → Many X zero at n at n [] []
  more : {k at n at₁ n₁ at₂ n₂ : ℕ} {bs cs : List ℕ} {rs ts : List Node}
      → X at n at₁ n₁ bs rs → Many X k at₁ n₁ at₂ n₂ cs ts → Many X (suc k) at n at₂ n₂ (bs ++ cs) (rs ++ ts)

-- a node that is a number alone, whose bytes are as W says, where d levels are left for it
pub data Bound (W : (v at next : ℕ) → List ℕ → Type 0) (kind d : ℕ) : (at n at' n' : ℕ) → List ℕ → List Node → Type 0 where
  bounded : {v at n next : ℕ} {bs : List ℕ} → 1 ≤ d → n < max_nodes → W v at next bs
      → Bound W kind d at n next (n + 1) bs (entry kind v 0 0 at (n + 1) ∷ [])

abbrev pub Size : ℕ → Span
Size d = Bound Numeral SIZE d

abbrev pub Low : ℕ → Span
Low d = Bound Numeral LOW d

-- the byte b may begin a node with index n in the place p, and this follows it
pub record Code (p : Place) (b n : ℕ) (f : Form) : Type 0 where
  pub form : form_of p b ≡ f
  pub room : n < max_nodes

-- c parameters, which are k nodes
pub data Params (X : Span) : (c k at n at' n' : ℕ) → List ℕ → List Node → Type 0 where
  parameters : {c at n at' n' : ℕ} {bs : List ℕ} {rs : List Node} → Many X c at n at' n' bs rs → Params X c c at n at' n' bs rs

-- "ParamCount, RetType, that many Params", which are k nodes in the place p
pub data Call (R : Counts → Place → Span) (counts : Counts) (p : Place) : (k at n at' n' : ℕ) → List ℕ → List Node → Type 0 where
  call : {c k at n next at₁ n₁ at₂ n₂ : ℕ} {cb bs ps : List ℕ} {rs ts : List Node}
      → Numeral c at next cb
      → R counts Place.RetType next n at₁ n₁ bs rs
      → Params (R counts p) c k at₁ n₁ at₂ n₂ ps ts
      → Call R counts p k at n at₂ n₂ (cb ++ (bs ++ ps)) (rs ++ ts)

-- One node in the place p, where R is what may stand one level below, and d levels are left there.
pub data Step (R : Counts → Place → Span) (d : ℕ) (counts : Counts) (p : Place) : (at n at' n' : ℕ) → List ℕ → List Node → Type 0 where
  leaf : {b at n : ℕ} → Code p b n Leaf
      → Step R d counts p at n (at + 1) (n + 1) (b ∷ []) (entry (kind_of p b) 0 0 0 at (n + 1) ∷ [])
  -- 11 or 12 with a TypeDef or TypeRef token
  named : {b t at n next : ℕ} {tb : List ℕ} → Code p b n Named
      → Numeral t (at + 1) next tb → Token type_tags counts t
      → Step R d counts p at n next (n + 1) (b ∷ tb) (entry (kind_of p b) t 0 0 at (n + 1) ∷ [])
  -- 13 or 1E and a number
  variable : {b v at n next : ℕ} {vb : List ℕ} → Code p b n Variable
      → Numeral v (at + 1) next vb
      → Step R d counts p at n next (n + 1) (b ∷ vb) (entry (kind_of p b) v 0 0 at (n + 1) ∷ [])
  -- PTR, BYREF, PINNED, SZARRAY, FNPTR, FIELD and what stands behind
  wrap : {b at n at₁ n₁ : ℕ} {q : Place} {bs : List ℕ} {rs : List Node} → Code p b n (Wrap q)
      → R counts q (at + 1) (n + 1) at₁ n₁ bs rs
      → Step R d counts p at n at₁ n₁ (b ∷ bs) (entry (kind_of p b) 0 0 1 at n₁ ∷ rs)
  -- Mod, then what it modifies
  modified : {b t at n next at₁ n₁ : ℕ} {q : Place} {tb bs : List ℕ} {rs : List Node} → Code p b n (Modified q)
      → Numeral t (at + 1) next tb → Token mod_tags counts t
      → R counts q next (n + 1) at₁ n₁ bs rs
      → Step R d counts p at n at₁ n₁ (b ∷ (tb ++ bs)) (entry (kind_of p b) t 0 1 at n₁ ∷ rs)
  -- 07, a count of at least 1, that many Locals
  counted : {b c at n next at₁ n₁ : ℕ} {q : Place} {cb bs : List ℕ} {rs : List Node} → Code p b n (Counted q)
      → Numeral c (at + 1) next cb → 1 ≤ c
      → Many (R counts q) c next (n + 1) at₁ n₁ bs rs
      → Step R d counts p at n at₁ n₁ (b ∷ (cb ++ bs)) (entry (kind_of p b) 0 0 c at n₁ ∷ rs)
  -- 14 Type Shape
  array : {b rank sizes lows at n at₁ at₂ at₃ at₄ at₅ at₆ n₁ n₂ n₃ : ℕ} {bs rb sb ss lb ls : List ℕ} {rs ts us : List Node}
      → Code p b n Array
      → R counts Place.Type (at + 1) (n + 1) at₁ n₁ bs rs
      → Numeral rank at₁ at₂ rb → 1 ≤ rank → rank ≤ max_rank
      → Numeral sizes at₂ at₃ sb → sizes ≤ rank
      → Many (Size d) sizes at₃ n₁ at₄ n₂ ss ts
      → Numeral lows at₄ at₅ lb → lows ≤ rank
      → Many (Low d) lows at₅ n₂ at₆ n₃ ls us
      → Step R d counts p at n at₆ n₃ (b ∷ (bs ++ (rb ++ (sb ++ (ss ++ (lb ++ ls))))))
      (entry (kind_of p b) rank sizes (1 + sizes + lows) at n₃ ∷ (rs ++ (ts ++ us)))
  -- 15, then 11 or 12, a TypeDef or TypeRef token, a count of at least 1, and that many Types
  inst : {b w t c at n at₁ at₂ at₃ n₁ : ℕ} {tb cb bs : List ℕ} {rs : List Node} → Code p b n Instance
      → 0x11 ≤ w → w ≤ 0x12
      → Numeral t (at + 2) at₁ tb → Token type_tags counts t
      → Numeral c at₁ at₂ cb → 1 ≤ c
      → Many (R counts Place.Type) c at₂ (n + 1) at₃ n₁ bs rs
      → Step R d counts p at n at₃ n₁ (b ∷ (w ∷ (tb ++ (cb ++ bs)))) (entry (kind_of p b) t w c at n₁ ∷ rs)
  -- a Method or a PropertySig
  method : {b k at n at₁ n₁ : ℕ} {q : Place} {bs : List ℕ} {rs : List Node} → Code p b n (Callable q)
      → Call R counts q k (at + 1) (n + 1) at₁ n₁ bs rs
      → Step R d counts p at n at₁ n₁ (b ∷ bs) (entry (kind_of p b) 0 b (k + 1) at n₁ ∷ rs)
  -- a Method with a generic count of at least 1
  generic : {b g k at n next at₁ n₁ : ℕ} {q : Place} {gb bs : List ℕ} {rs : List Node} → Code p b n (Generic q)
      → Numeral g (at + 1) next gb → 1 ≤ g
      → Call R counts q k next (n + 1) at₁ n₁ bs rs
      → Step R d counts p at n at₁ n₁ (b ∷ (gb ++ bs)) (entry (kind_of p b) g b (k + 1) at n₁ ∷ rs)

-- one node of the place p, at most d levels deep
abbrev pub Derives : ℕ → Counts → Place → Span
Derives zero counts p at n at' n' bs rs = ⊥
Derives (suc d) counts p at n at' n' bs rs = Step (Derives d) d counts p at n at' n' bs rs

-- Demand 2: the grammar derives all bytes of the blob s as a signature of this kind, with token rows in range and within the limits;
-- it has n nodes, and rs is its table.
pub record Signature (kind : ℕ) (counts : Counts) (s : List ℕ) (n : ℕ) (rs : List Node) : Type 0 where
  pub known_kind : kind ≤ max_kind
  pub defs : counts.defs ≤ max_rows
  pub refs : counts.refs ≤ max_rows
  pub specs : counts.specs ≤ max_rows
  pub short : length s ≤ max_bytes
  pub derived : Derives max_depth counts (root_of kind) 0 0 (length s) n s rs

-- the blob s is a signature of this kind, and t is its node table, as a flat list
pub record HasTable (kind : ℕ) (counts : Counts) (s t : List ℕ) : Type 0 where
  pub bytes : Bytes s
  pub nodes : ℕ
  pub records : List Node
  pub signature : Signature kind counts s nodes records
  pub table : flat records ≡ t
