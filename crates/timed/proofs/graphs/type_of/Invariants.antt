use Rattle.std.proofs.Common.{◌≤◌, ◌*◌}
use Rattle.timed.proofs.graphs.type_of.Given as goal

-- three bytes at most to a modifier
abbrev pub invariant-loop : goal.invariant-loop
invariant-loop l = l.blob.length ≤ 3 * l.counter
