-- `opening::types::instance_of` meets its contract. Assumes nothing.
use Rattle.std.proofs.Common.{rules}
use Rattle.opening.specs.Open.{instance_of}
use Rattle.opening.proofs.types.instance_of.Goals as goal

pub returns-in_err-token : goal.returns-in_err-token
unfolding instance_of
returns-in_err-token c = search rules

pub returns-in_err-count : goal.returns-in_err-count
unfolding instance_of
returns-in_err-count c = search rules

pub returns : goal.returns
unfolding instance_of
returns c = search rules
