-- `opening::types::listed` meets its contract. Assumes nothing.
use Rattle.std.proofs.Common.{rules}
use Rattle.opening.specs.Open.{listed_of}
use Rattle.opening.proofs.types.listed.Goals as goal

pub returns-then-head-eq1 : goal.returns-then-head-eq1
unfolding listed_of
returns-then-head-eq1 c = search rules

pub returns : goal.returns
unfolding listed_of
returns c = search rules
