-- `opening::shape::bound_of` meets its contract. Assumes nothing.
use Rattle.opening.specs.End.{ended}
use Rattle.opening.proofs.Walks.{seal_put}
use Rattle.opening.proofs.Shapes.{bound-deep, bound-full, bound-done}
use Rattle.opening.proofs.shape.bound_of.Goals as goal

pub returns-then-d-eq0 : goal.returns-then-d-eq0
unfolding ended
returns-then-d-eq0 c = rw c.at.ensures (bound-deep c.args.kind c.args.d c.args.number.value c.args.number.next _ _ _ c.if-d-eq0.true)

pub returns-then-here-ge-MAX_NODES : goal.returns-then-here-ge-MAX_NODES
unfolding ended
returns-then-here-ge-MAX_NODES c =
    rw c.at-then-here-ge-MAX_NODES.ensures (bound-full c.args.kind c.args.d c.args.number.value c.args.number.next _ _ _ c.if-d-eq0.false c.if-here-ge-MAX_NODES.true)

pub returns : goal.returns
unfolding ended
returns c =
    bound-done _ _ _ _ _ _ _ _ _ c.if-d-eq0.false c.if-here-ge-MAX_NODES.false
    (seal_put _ _ _ _ _ (rw c.head_of.ensures at c.seal.ensures))
