-- `number::checked::checked_at` meets its contract. Assumes nothing.
use Rattle.std.proofs.Common.{rules}
use Rattle.number.specs.Checked.{checked, checked_at}
use Rattle.number.proofs.Checks.{check-small}
use Rattle.number.proofs.checked.checked_at.Goals as goal

pub returns-then-value-lt128 : goal.returns-then-value-lt128
returns-then-value-lt128 c = check-small _ _ _ c.if-at-s.true c.byte-value.ensures.0 c.if-value-lt128.true

pub returns-in_err-number_at : goal.returns-in_err-number_at
unfolding checked_at checked
returns-in_err-number_at c = search rules

pub returns : goal.returns
unfolding checked_at checked
returns c = search rules
