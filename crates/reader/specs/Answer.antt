-- What the reader answers and what it leaves in the table (document 01, "Numbers on the panel" and "The node table").
use Rattle.std.specs.Prelude.{ℕ, ◌*◌, ◌≡◌, List, ◌++◌, drop}
use Rattle.grammar.specs.Table.{flat}
use Rattle.grammar.specs.Judge.{Out, fault, done}
use Rattle.answer.specs.declared.Answer.{Answer}
use Rattle.answer.specs.Answers.{answer}

-- a refusal's number and place; 0 "done" with the nodes
unfoldable pub answer_of : Out → Answer
answer_of (fault code place) = answer code place
answer_of (done at n rs) = answer 0 n

-- the table t afterwards: "Any refusal keeps lent records .. unchanged; success changes only the records .. used"
unfoldable pub table_of : Out → List ℕ → List ℕ
table_of (fault code place) t = t
table_of (done at n rs) t = flat rs ++ drop (6 * n) t

-- `read`: the answer, and the table before and after
abbrev pub Reads : Out → Answer → (old new : List ℕ) → Type 0
Reads o r old new = (r ≡ answer_of o) × (new ≡ table_of o old)
