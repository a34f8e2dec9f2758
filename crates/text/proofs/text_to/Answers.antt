use Rattle.text.proofs.Laying.{prints_none, prints_next}
use Rattle.text.proofs.text_to.Goals as goal

pub loop-b-init : goal.loop-b-init
loop-b-init c = prints_none _ _

pub loop-b-preserved : goal.loop-b-preserved
loop-b-preserved c = prints_next _ _ c.loop-b-test.true _ _ _ _ _ _ c.loop-b.invariant c.byte_to-here.ensures
