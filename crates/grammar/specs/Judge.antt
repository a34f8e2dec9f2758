-- Document 01, "The grammar" and "Numbers on the panel", as a judge that computes: what a blob's bytes give, with every refusal in
-- 01's order. "Order, reader: 12, 13, 1, then the first fault from the left, then 9, then 11."
use Rattle.std.specs.Prelude.{ℕ, zero, suc, ◌+◌, Bool, true, false, ◌&&◌, List, [], ◌∷◌, ◌++◌, length, get_or, ltb, leb, eqb}
use Rattle.number.specs.Number.{max_number}
use Rattle.answer.specs.Refusal.{number_of}
use Rattle.number.specs.Checked.{Checked, checked_at, on_checked, count_at}
use Rattle.number.specs.Token.{type_tags, mod_tags, token_at}
use Rattle.number.specs.declared.token.Counts.{Counts}
use Rattle.element.specs.Element.{within, allowed, form_of}
use Rattle.element.specs.declared.Place.{Place}
use Rattle.element.specs.declared.Form.{Form}
use Rattle.element.specs.declared.Form.TheVariants.{Refused, Leaf, Named, Variable, Wrap, Modified, Counted, Array, Instance, Callable, Generic}
use Rattle.grammar.specs.Kinds.{max_kind, root_of}
use Rattle.grammar.specs.Limits.{max_bytes, max_rows, max_nodes, max_depth, max_rank}
use Rattle.grammar.specs.Table.{entry, kind_of, SIZE, LOW}
use Rattle.grammar.specs.declared.Node.{Node}

-- What judging finds: a refusal's number and the offset that is its place; or the offset and the node index after, and the records between, parents first.
pub data Out : Type 0 where
  fault : (refusal at : ℕ) → Out
  done : (at n : ℕ) (records : List Node) → Out

-- go on after what was read, unless it is refused
abbrev pub bind : Out → (ℕ → ℕ → List Node → Out) → Out
bind (fault refusal at) k = fault refusal at
bind (done at n rs) k = k at n rs

-- go on where the test passes, else this refusal
abbrev pub check : Bool → (refusal at : ℕ) → (Unit {0} → Out) → Out
check true refusal at k = k tt
check false refusal at k = fault refusal at

-- go on with a number that passed its checks; its refusals are at its start
abbrev pub numbered : Checked → ℕ → (ℕ → ℕ → Out) → Out
numbered c at k = on_checked c k (λ refusal. fault (number_of refusal) at)

abbrev pub number : List ℕ → ℕ → (ℕ → ℕ → Out) → Out
number s at k = numbered (checked_at s at) at k

abbrev pub count : (low high : ℕ) → List ℕ → ℕ → (ℕ → ℕ → Out) → Out
count low high s at k = numbered (count_at low high s at) at k

abbrev pub token : (tags : ℕ) → Counts → List ℕ → ℕ → (ℕ → ℕ → Out) → Out
token tags counts s at k = numbered (token_at tags counts s at) at k

-- k nodes one after the other
unfoldable pub many : (ℕ → ℕ → Out) → ℕ → ℕ → ℕ → Out
many item zero at n = done at n []
many item (suc k) at n = bind (item at n) (λ at₁ n₁ rs. bind (many item k at₁ n₁) (λ at₂ n₂ ts. done at₂ n₂ (rs ++ ts)))

-- A node that is a number alone, which was read as c, where d levels are left for it: "At a number: 3 for its first byte, 2, 3 for length,
-- then for a SIZE or LOW 6, 10"
abbrev pub bound : (kind d : ℕ) → Checked → (at n : ℕ) → Out
bound kind d c at n =
    numbered c at
    (λ v next. check (leb 1 d) 6 at
    (λ _. check (ltb n max_nodes) 10 at
    (λ _. done next (n + 1) (entry kind v 0 0 at (n + 1) ∷ []))))

abbrev pub size : (d : ℕ) → List ℕ → (at n : ℕ) → Out
size d s at n = bound SIZE d (checked_at s at) at n

abbrev pub low : (d : ℕ) → List ℕ → (at n : ℕ) → Out
low d s at n = bound LOW d (checked_at s at) at n

-- how a node below is read: the row counts in force, its place, its offset and its index
abbrev pub Reader : Type 0
Reader = Counts → Place → ℕ → ℕ → Out

-- c parameters; what follows goes by how many nodes they are
abbrev pub params : (ℕ → ℕ → Out) → (c at n : ℕ) → (ℕ → ℕ → ℕ → List Node → Out) → Out
params item c at n k = bind (many item c at n) (λ at₁ n₁ rs. k c at₁ n₁ rs)

-- a method from its ParamCount on, which stands at `from`, with parameters in the place p: "then ParamCount, RetType, that many Params"
abbrev pub callable : Reader → List ℕ → Counts → Place → (kind a b at n from : ℕ) → Out
callable read s counts p kind a b at n from =
    number s from
    (λ c next. bind (read counts Place.RetType next (n + 1))
    (λ at₁ n₁ rs. params (read counts p) c at₁ n₁
    (λ k at₂ n₂ ts. done at₂ n₂ (entry kind a b (k + 1) at n₂ ∷ (rs ++ ts)))))

-- "14 Type Shape"; "Shape: Rank 1 to 32; NumSizes at most Rank and that many numbers; NumLoBounds at most Rank and that many numbers";
-- "ARRAY: a Rank, b NumSizes; children are the type, SIZEs, LOWs (value in a)"
abbrev pub array : Reader → (d : ℕ) → List ℕ → Counts → (kind at n : ℕ) → Out
array read d s counts kind at n =
    bind (read counts Place.Type (at + 1) (n + 1))
    (λ at₁ n₁ ts. count 1 max_rank s at₁
    (λ rank at₂. count 0 rank s at₂
    (λ sizes at₃. bind (many (size d s) sizes at₃ n₁)
    (λ at₄ n₂ ss. count 0 rank s at₄
    (λ lows at₅. bind (many (low d s) lows at₅ n₂)
    (λ at₆ n₃ ls. done at₆ n₃ (entry kind rank sizes (1 + sizes + lows) at n₃ ∷ (ts ++ (ss ++ ls)))))))))

-- What follows the code byte b, which stands at `at` and begins the node with index n; d levels are left below it. "Unused a and b
-- are 0."
unfoldable pub body : Reader → (d : ℕ) → List ℕ → Counts → (kind b at n : ℕ) → Form → Out
body read d s counts kind b at n Refused = fault 5 at
body read d s counts kind b at n Leaf = done (at + 1) (n + 1) (entry kind 0 0 0 at (n + 1) ∷ [])
-- "11 or 12 with a TypeDef or TypeRef token"; "Tokens and VAR numbers stand in a"
body read d s counts kind b at n Named =
    token type_tags counts s (at + 1) (λ t next. done next (n + 1) (entry kind t 0 0 at (n + 1) ∷ []))
-- "13 or 1E and a number"
body read d s counts kind b at n Variable =
    number s (at + 1) (λ v next. done next (n + 1) (entry kind v 0 0 at (n + 1) ∷ []))
-- "Mods, PTR, BYREF, PINNED, SZARRAY, FIELD have one child each"; "FNPTR has a METHOD child"
body read d s counts kind b at n (Wrap p) =
    bind (read counts p (at + 1) (n + 1)) (λ at₁ n₁ rs. done at₁ n₁ (entry kind 0 0 1 at n₁ ∷ rs))
-- "Mod: 1F or 20, then a token of any of the three tags"
body read d s counts kind b at n (Modified p) =
    token mod_tags counts s (at + 1)
    (λ t next. bind (read counts p next (n + 1)) (λ at₁ n₁ rs. done at₁ n₁ (entry kind t 0 1 at n₁ ∷ rs)))
-- "a count of at least 1, that many Locals"
body read d s counts kind b at n (Counted p) =
    count 1 max_number s (at + 1)
    (λ c next. bind (many (read counts p) c next (n + 1))
    (λ at₁ n₁ rs. done at₁ n₁ (entry kind 0 0 c at n₁ ∷ rs)))
body read d s counts kind b at n Array = array read d s counts kind at n
-- "15, then 11 or 12, a TypeDef or TypeRef token, a count of at least 1, and that many Types"; "GENERICINST: a token, b 11 or 12"
body read d s counts kind b at n Instance =
    check (ltb (at + 1) (length s)) 2 (at + 1)
    (λ _. check (within 0x11 0x12 (get_or s (at + 1) 0)) 5 (at + 1)
    (λ _. token type_tags counts s (at + 2)
    (λ t at₁. count 1 max_number s at₁
    (λ c at₂. bind (many (read counts Place.Type) c at₂ (n + 1))
    (λ at₃ n₁ rs. done at₃ n₁ (entry kind t (get_or s (at + 1) 0) c at n₁ ∷ rs))))))
-- "METHOD: a generic count, b lead byte; children are the return, then parameters. PROPERTY: b lead byte"
body read d s counts kind b at n (Callable p) = callable read s counts p kind 0 b at n (at + 1)
body read d s counts kind b at n (Generic p) =
    count 1 max_number s (at + 1) (λ g next. callable read s counts p kind g b at n next)

-- The code byte at `at` in the place p, of the node with index n, for which d levels are left: "At a code byte: 2, 5, 6, 10"
abbrev pub opened : (d : ℕ) → List ℕ → Place → (at n : ℕ) → (ℕ → Form → Out) → Out
opened d s p at n k =
    check (ltb at (length s)) 2 at
    (λ _. check (allowed (form_of p (get_or s at 0))) 5 at
    (λ _. check (leb 1 d) 6 at
    (λ _. check (ltb n max_nodes) 10 at
    (λ _. k (get_or s at 0) (form_of p (get_or s at 0))))))

-- one node with all below it, where d levels are left for it
unfoldable pub node : ℕ → List ℕ → Reader
node zero s counts p at n = opened zero s p at n (λ b f. fault 6 at)
node (suc d) s counts p at n =
    opened (suc d) s p at n
    (λ b f. body (λ counts' p' at' n'. node d s counts' p' at' n') d s counts (kind_of p b) b at n f)

-- row counts that the bound allows
abbrev pub known_counts : Counts → Bool
known_counts counts = leb counts.defs max_rows && leb counts.refs max_rows && leb counts.specs max_rows

-- the whole blob, without a table: 12, 13, 1, the first fault from the left, 9
unfoldable pub judge : (kind : ℕ) → Counts → List ℕ → Out
judge kind counts s =
    check (leb kind max_kind) 12 0
    (λ _. check (known_counts counts) 13 0
    (λ _. check (leb (length s) max_bytes) 1 0
    (λ _. bind (node max_depth s counts (root_of kind) 0 0)
    (λ at n rs. check (eqb at (length s)) 9 at
    (λ _. done at n rs)))))

-- the reader where `lent` records are lent: then 11, "fewer records lent than nodes", with the nodes needed
unfoldable pub reading : (kind : ℕ) → Counts → List ℕ → (lent : ℕ) → Out
reading kind counts s lent = bind (judge kind counts s) (λ at n rs. check (leb n lent) 11 n (λ _. done at n rs))
