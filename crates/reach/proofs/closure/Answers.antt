-- `reach::closure` meets its contract. Assumes nothing.
use Rattle.reach.proofs.Closures.{closure_of}
use Rattle.reach.proofs.closure.Goals as goal

pub returns : goal.returns
returns c =
    let a = c.args in
    closure_of a.w a.v a.n a.sets.now a.m.now _ _ c.requires.3 c.copy_rows.ensures c.close.ensures
