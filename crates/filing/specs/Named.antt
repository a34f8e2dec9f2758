-- The rows that a flat node table's modifiers name, put as bits into row r of a table of `words` words to a row.
use Rattle.std.specs.Prelude.{ℕ, zero, suc, ◌-◌, cond, List, leb, eqb, Option, Some, None}
use Rattle.number.specs.Token.{tag_of, row_of, type_spec_tag}
use Rattle.answer.specs.Size.{max_size, words}
use Rattle.bits.specs.Bits.{put_bit, emptied}
use Rattle.grammar.specs.Table.{is_modifier, flat, record_at}
use Rattle.grammar.specs.Judge.{Out, fault, done}
use Rattle.grammar.specs.declared.Node.{Node}

-- the row that a record names: 0 unless it is a modifier whose token has TypeSpec's tag and a row that a register may have
abbrev pub named_in : Node → ℕ
named_in r = cond (is_modifier r.kind) (cond (eqb (tag_of r.a) type_spec_tag) (cond (leb (row_of r.a) max_size) (row_of r.a) 0) 0) 0

-- .. and that record k of a flat table names
unfoldable pub row_named : List ℕ → ℕ → ℕ
row_named t k = named_in (record_at t k)

-- .. as an index, if it names one
abbrev pub index_of : ℕ → Option ℕ
index_of row = cond (eqb row 0) None (Some (row - 1))

-- the first n records' rows, put into row r of m
unfoldable pub collect_of : List ℕ → ℕ → ℕ → List ℕ → List ℕ
collect_of t zero r m = m
collect_of t (suc k) r m = cond (eqb (row_named t k) 0) (collect_of t k r m) (put_bit words (collect_of t k r m) r (row_named t k - 1))

-- row r's set after judging: the rows that an accepted blob names, and none of a refused one
unfoldable pub named_by : Out → ℕ → List ℕ → List ℕ
named_by (fault code place) r m = emptied words m r
named_by (done at n rs) r m = collect_of (flat rs) n r (emptied words m r)
