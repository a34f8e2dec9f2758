-- `emission::call_to` meets its contract. Assumes nothing.
use Rattle.emission.proofs.Laws.{spelt_is, spelt_as, spelt_cut, spelt_more}
use Rattle.emission.proofs.Steps.{call-plain, call-generic}
use Rattle.emission.proofs.call_to.Goals as goal

pub returns-then-rec-eq0 : goal.returns-then-rec-eq0
returns-then-rec-eq0 c = spelt_is (call-plain _ _ _ _ c.param_count-count.ensures c.if-rec-eq0.true) c.pair_to.ensures

pub returns-in_err-e : goal.returns-in_err-e
returns-in_err-e c =
    spelt_as c.from_residual.ensures
    (spelt_is (call-generic _ _ _ _ c.param_count-count.ensures c.if-rec-eq0.false) (spelt_cut _ c.in_err-e.ensures))

pub returns : goal.returns
returns c =
    spelt_is (call-generic _ _ _ _ c.param_count-count.ensures c.if-rec-eq0.false) (spelt_more c.in_ok-e.ensures c.pair_to-2.ensures)
