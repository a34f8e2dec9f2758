-- What a walk gives and leaves in the table, by the judge's outcomes. Internal: an auditor goes by the judge and by the reader's Answer.antt.
use Rattle.std.specs.Prelude.{ℕ, ◌≡◌, List, length}
use Rattle.grammar.specs.Judge.{Out, fault, done}
use Rattle.opening.specs.Table.{stamp}
use Rattle.opening.specs.End.{Walk, Next, Stop}

-- on a fault only the table's length is promised
unfoldable pub leaves : Out → ℕ → List ℕ → List ℕ → Type 0
leaves (fault refusal q) n before after = length after ≡ length before
leaves (done at m rs) n before after = after ≡ stamp n rs before

unfoldable pub walk_of : Out → Walk
walk_of (fault refusal q) = Stop refusal q
walk_of (done at m rs) = Next at m

-- a walk from index n on: its result, and what it leaves
pub record Walked (o : Out) (n : ℕ) (r : Walk) (before after : List ℕ) : Type 0 where
  pub result : r ≡ walk_of o
  pub left : leaves o n before after
