-- `standing::closed::Closed::leans` meets its contract. Assumes nothing.
use Rattle.std.proofs.Common.{◌∙◌, rules, tests, arith}
use Rattle.std.proofs.lemmas.Iterator.{YieldsList-from_range}
use Rattle.std.proofs.lemmas.Iterator.Search.{any_from_yields_List}
use Rattle.bits.proofs.Any.{list_any-range}
use Rattle.standing.specs.Closed.{leans_on}
use Rattle.standing.proofs.closed.Closed.leans.Goals as goal

pub returns : goal.returns
returns c =
    any_from_yields_List (leans_on c.args.self.now.width c.args.self.now.words.now c.args.states.now c.args.i) _ _ _ c.any.ensures.ran
    (YieldsList-from_range 0 c.args.self.now.rows c.args.self.now.rows (search rules) (omega arith)) (λ x b q k. search (rules, tests))
    ∙ list_any-range _ c.args.self.now.rows
