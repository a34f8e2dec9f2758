-- What the reader's second call leaves in the caller's records (document 01, "The node table": "the slice of record structs stands over it, as a
-- second reader call with the same answers that copies the list into the caller's records (both are lent; 11 counts the shorter)").
use Rattle.std.specs.Prelude.{◌≡◌, ℕ, zero, suc, ◌+◌, ◌/◌, cond, List, [], ◌∷◌, ◌++◌, length, drop, get_or, replicate, ltb}
use Rattle.number.specs.declared.token.Counts.{Counts}
use Rattle.grammar.specs.Limits.{max_nodes}
use Rattle.grammar.specs.Table.{entry, record_at}
use Rattle.grammar.specs.Judge.{Out, fault, done, reading}
use Rattle.grammar.specs.declared.Node.{Node}
use Rattle.reader.specs.Answer.{answer_of, table_of, Reads}
use Rattle.answer.specs.Answers.{panel_of}
use Rattle.answer.specs.declared.Answer.{Answer}
use Rattle.nodes.specs.declared.Found.{Found}

-- a record of zeros
abbrev pub blank : Node
blank = entry 0 0 0 0 0 0

-- the shorter of the two lent, in records
abbrev pub shorter : ℕ → ℕ → ℕ
shorter room most = cond (ltb most room) most room

-- the slice of records afterwards: "Any refusal keeps lent records .. unchanged; success changes only the records .. used"
unfoldable pub records_of : Out → List Node → List Node
records_of (fault code place) old = old
records_of (done at n rs) old = rs ++ drop n old

-- record i of a slice of max_nodes blank records
abbrev pub node_of : Out → ℕ → Node
node_of out i = get_or (records_of out (replicate max_nodes blank)) i blank

-- a blob s read where the table t and `most` records are lent
module _ (kind : ℕ) (counts : Counts) (s t : List ℕ) where
  abbrev pub reading_within : ℕ → Out
  reading_within most = reading kind counts s (shorter (length t / 6) most)

  -- `read_records`: the answer, the table and the records afterwards
  abbrev pub ReadRecords : List Node → Answer → List ℕ → List Node → Type 0
  ReadRecords old r after new =
      (r ≡ answer_of (reading_within (length old))) × ((after ≡ table_of (reading_within (length old)) t) × (new ≡ records_of (reading_within (length old)) old))

  -- `record_of`: the answer and record i, and the table afterwards
  abbrev pub RecordOf : ℕ → Found → List ℕ → Type 0
  RecordOf i r after =
      (panel_of r.answer ≡ answer_of (reading_within max_nodes)) × (r.node ≡ node_of (reading_within max_nodes) i) × (after ≡ table_of (reading_within max_nodes) t)

  -- ---- Internal: an auditor goes by the above.

  -- `read_within`: the answer, and the table afterwards
  abbrev pub ReadWithin : ℕ → Answer → List ℕ → Type 0
  ReadWithin most r after = Reads (reading_within most) r t after

-- k records of a flat list from record i on
unfoldable pub nodes_from : List ℕ → ℕ → ℕ → List Node
nodes_from t i zero = []
nodes_from t i (suc k) = record_at t i ∷ nodes_from t (i + 1) k

-- the first count records are the flat list's, the rest is as it was
abbrev pub copy_records : List ℕ → ℕ → List Node → List Node
copy_records t count old = nodes_from t 0 count ++ drop count old
