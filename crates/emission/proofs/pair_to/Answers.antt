-- `emission::pair_to` meets its contract. Assumes nothing.
use Rattle.emission.proofs.Laws.{spelt_as, spelt_cut, spelt_more}
use Rattle.emission.proofs.pair_to.Goals as goal

pub returns-in_err-e : goal.returns-in_err-e
returns-in_err-e c = spelt_as c.from_residual.ensures (spelt_cut _ c.in_err-e.ensures)

pub returns : goal.returns
returns c = spelt_more c.in_ok-e.ensures c.number_to-2.ensures
