-- `opening::signatures::generic_at` meets its contract. Assumes nothing.
use Rattle.std.proofs.Common.{rules}
use Rattle.opening.specs.Lead.{generic_at}
use Rattle.opening.proofs.signatures.generic_at.Goals as goal

pub returns-in_err-count : goal.returns-in_err-count
unfolding generic_at
returns-in_err-count c = search rules

pub returns : goal.returns
unfolding generic_at
returns c = search rules
