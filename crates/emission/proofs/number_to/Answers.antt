-- `emission::number_to` meets its contract. Assumes nothing.
use native.Mathlib.Omega.{arith}
use Rattle.emission.proofs.Laws.{number_put}
use Rattle.emission.proofs.number_to.Goals as goal

pub returns : goal.returns
returns c =
    number_put _ _ _ _ _ (omega (arith, c.if-out-len-2.false, c.if-out-len.false, c.number_len-len.ensures)) (omega (arith, c.number_len-len.ensures)) c.put_number.ensures.1
