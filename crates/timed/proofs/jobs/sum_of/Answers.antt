-- each number ends past its start
use Rattle.std.proofs.Common.{sym, arith}
use Rattle.number.proofs.Checks.{checked-onward}
use Rattle.timed.proofs.jobs.sum_of.Goals as goal

pub loop-at-smaller : goal.loop-at-smaller
loop-at-smaller c = let onward = checked-onward _ _ _ _ (sym c.in-Ok.ensures) in omega arith
