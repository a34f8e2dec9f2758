-- `opening::types::instance_at` meets its contract. Assumes nothing.
use native.Mathlib.Omega.{arith}
use Rattle.opening.proofs.Heads.{instance_none, instance_other, instance_is}
use Rattle.opening.proofs.types.instance_at.Goals as goal

pub returns-then-src-from : goal.returns-then-src-from
returns-then-src-from c = rw c.at.ensures (instance_none _ _ _ _ c.if-src-from.true)

pub returns-in-17-to-18 : goal.returns-in-17-to-18
returns-in-17-to-18 c =
    instance_is _ _ _ _ c.if-src-from.false _ (omega arith) (omega arith) c.instance_of.ensures

pub returns-in_default : goal.returns-in_default
returns-in_default c = rw c.at-in_default.ensures (instance_other _ _ _ _ c.if-src-from.false (λ l u. omega arith))
