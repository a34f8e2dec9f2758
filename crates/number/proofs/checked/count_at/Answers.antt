-- `number::checked::count_at` meets its contract. Assumes nothing.
use Rattle.std.proofs.Common.{rules}
use Rattle.number.specs.Checked.{count_of, count_at}
use Rattle.number.proofs.Checks.{count_low, count-high, count-in}
use Rattle.number.proofs.checked.count_at.Goals as goal
use Rattle.number.proofs.checked.count_at.Goals.{then-number-low-via-then-number-low, then-number-low-via-else-number-low+then-high-number}

pub returns-in_err-number : goal.returns-in_err-number
unfolding count_at count_of
returns-in_err-number c = search rules

pub returns-then-number-low : goal.returns-then-number-low
returns-then-number-low c = elim c.then-number-low.branch [
  | then-number-low-via-then-number-low w ↦ count_low _ _ c.checked_at.ensures _ _ c.in_ok-number.was w.if-number-low.true
  | then-number-low-via-else-number-low+then-high-number w ↦
      count-high _ _ c.checked_at.ensures _ _ c.in_ok-number.was w.if-number-low.false w.if-high-number.true
]

pub returns : goal.returns
returns c = count-in _ _ c.checked_at.ensures _ _ c.in_ok-number.was c.if-number-low.false c.if-high-number.false
