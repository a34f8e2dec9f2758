-- `opening::types::head_at` meets its contract. Assumes nothing.
use Rattle.std.proofs.Common.{rules}
use Rattle.opening.specs.Open.{head_at}
use Rattle.opening.proofs.types.head_at.Goals as goal

pub returns-in_err-token-in-Named : goal.returns-in_err-token-in-Named
unfolding head_at
returns-in_err-token-in-Named c = search rules

pub returns-in_err-number-in-Variable : goal.returns-in_err-number-in-Variable
unfolding head_at
returns-in_err-number-in-Variable c = search rules

pub returns-in_err-token-in-Modified : goal.returns-in_err-token-in-Modified
unfolding head_at
returns-in_err-token-in-Modified c = search rules

pub returns-in-Leaf : goal.returns-in-Leaf
unfolding head_at
returns-in-Leaf c = search rules

pub returns-in_ok-token-in-Named : goal.returns-in_ok-token-in-Named
unfolding head_at
returns-in_ok-token-in-Named c = search rules

pub returns-in_ok-number-in-Variable : goal.returns-in_ok-number-in-Variable
unfolding head_at
returns-in_ok-number-in-Variable c = search rules

pub returns-in-Wrap : goal.returns-in-Wrap
unfolding head_at
returns-in-Wrap c = search rules

pub returns-in_ok-token-in-Modified : goal.returns-in_ok-token-in-Modified
unfolding head_at
returns-in_ok-token-in-Modified c = search rules

pub returns-in-Array : goal.returns-in-Array
unfolding head_at
returns-in-Array c = search rules

pub returns-in-Instance : goal.returns-in-Instance
unfolding head_at
returns-in-Instance c = search rules

pub returns-in_default : goal.returns-in_default
unfolding head_at
returns-in_default c = search rules
