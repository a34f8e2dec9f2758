-- What a walk over types one after the other gives, by the judge's outcomes. Internal: an auditor goes by the judge and by the reader's Answer.antt.
use Rattle.std.specs.Prelude.{ℕ, ◌≡◌, List, Result, Ok, Err}
use Rattle.answer.specs.Refusal.{number_of}
use Rattle.answer.specs.declared.refusal.Fault.{Fault}
use Rattle.grammar.specs.Judge.{Out}
use Rattle.opening.specs.End.{Walk, Next, Stop}
use Rattle.opening.specs.Walk.{Walked}
use Rattle.walk.specs.declared.Series.{Series}

-- how it ends, without their number
unfoldable pub end_of : Result Series Fault → Walk
end_of (Ok s) = Next s.end.at s.end.node
end_of (Err f) = Stop (number_of f.refusal) f.place

pub record WalkedSeries (o : Out) (items n : ℕ) (r : Result Series Fault) (before after : List ℕ) : Type 0 where
  pub walked : Walked o n (end_of r) before after
  pub counted : (s : Series) → r ≡ Ok s → s.items ≡ items
