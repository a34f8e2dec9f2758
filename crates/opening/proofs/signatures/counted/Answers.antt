-- `opening::signatures::counted` meets its contract. Assumes nothing.
use Rattle.std.proofs.Common.{rules}
use Rattle.opening.specs.Lead.{counted_of}
use Rattle.opening.proofs.signatures.counted.Goals as goal

pub returns-in_err-count : goal.returns-in_err-count
unfolding counted_of
returns-in_err-count c = search rules

pub returns : goal.returns
unfolding counted_of
returns c = search rules
