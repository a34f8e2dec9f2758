-- `reach::close` meets its contract. Assumes nothing.
use Rattle.reach.proofs.Closures.{closed_none, closed_more}
use Rattle.reach.proofs.close.Goals as goal

pub loop-k-init : goal.loop-k-init
loop-k-init c = closed_none _ _ _

pub loop-k-preserved : goal.loop-k-preserved
loop-k-preserved c =
    let l = c.loop-k in
    closed_more c.args.w c.args.n l.k c.args.m.now l.m _ c.requires.1 c.loop-k-test.true l.invariant c.relax.ensures
