-- `opening::types::wrapped` meets its contract. Assumes nothing.
use Rattle.std.proofs.Common.{rules}
use Rattle.opening.specs.Open.{wrapped_of}
use Rattle.opening.proofs.types.wrapped.Goals as goal

pub returns-then-is_type_place : goal.returns-then-is_type_place
unfolding wrapped_of
returns-then-is_type_place c = search rules

pub returns : goal.returns
unfolding wrapped_of
returns c = search rules
