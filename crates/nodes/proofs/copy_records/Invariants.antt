-- `nodes::copy_records`: as many records are copied as were passed.
use Rattle.std.proofs.Common.{◌≡◌}
use Rattle.nodes.specs.Nodes.{copy_records}
use Rattle.nodes.proofs.copy_records.Given as goal

abbrev pub invariant-loop-i : goal.invariant-loop-i
invariant-loop-i l = l.records ≡ copy_records l.table l.i l.initial.records
