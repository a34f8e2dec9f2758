-- `standing::any_marked` meets its contract. Assumes nothing.
use Rattle.std.proofs.Common.{◌∙◌, rules, tests, take}
use Rattle.std.proofs.lemmas.Iterator.{YieldsList-from_slice}
use Rattle.std.proofs.lemmas.Iterator.Search.{any_from_yields_List}
use lib.Dec.{ltb}
use Rattle.standing.proofs.Standings.{any-taken}
use Rattle.standing.proofs.any_marked.Goals as goal

pub returns : goal.returns
returns c =
    any_from_yields_List (λ m. ltb 0 m) _ _ _ c.any.ensures.ran (YieldsList-from_slice (take c.args.n c.args.marks.now) (search rules)) (λ x b q k. search (rules, tests))
    ∙ any-taken c.args.marks.now c.args.n c.requires
