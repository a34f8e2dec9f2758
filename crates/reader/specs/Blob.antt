-- What `judge_in` gives and leaves in the table, by the judge's outcome. Internal: an auditor goes by Answer.antt and the judge.
use Rattle.std.specs.Prelude.{ℕ, ◌≡◌, List}
use Rattle.grammar.specs.Judge.{Out}
use Rattle.opening.specs.Walk.{leaves}
use Rattle.reader.specs.Answer.{answer_of}
use Rattle.answer.specs.declared.Answer.{Answer}

pub record Judged (o : Out) (r : Answer) (before after : List ℕ) : Type 0 where
  pub result : r ≡ answer_of o
  pub left : leaves o 0 before after
