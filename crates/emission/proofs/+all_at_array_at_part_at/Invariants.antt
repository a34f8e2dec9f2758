-- The cycle of calls of the emission: subtrees one after the other, an array's parts, and one part. The levels left fall.
use Rattle.std.proofs.Common.{◌≡◌, ◌+◌, ◌≤◌, ◌*◌, length, ℕ, List}
use Rattle.grammar.specs.Emit.{emit, times}
use Rattle.emission.specs.Emission.{Emits}
use Rattle.emission.specs.End.{Emit}
use Rattle.emission.proofs.+all_at_array_at_part_at.Given as goal

abbrev pub decreases-all_at : goal.decreases-all_at
decreases-all_at l = 3 * l.d + 1

abbrev pub decreases-array_at : goal.decreases-array_at
decreases-array_at l = 3 * l.d + 2

abbrev pub decreases-part_at : goal.decreases-part_at
decreases-part_at l = 3 * l.d

-- whatever ends the rest from here ends the whole
abbrev pub invariant-all_at-loop-left : goal.invariant-all_at-loop-left
invariant-all_at-loop-left l = (length l.out ≡ length l.initial.out) × (l.here.at ≤ length l.out) × (l.here.node ≤ length l.table) × (l.deep ≤ l.d) × ((r : Emit) (fin : List ℕ) → Emits (times (emit l.deep l.table) l.left l.here.node) l.here.at r l.out fin → Emits (times (emit l.d l.table) l.count l.fn.from.node) l.fn.from.at r l.initial.out fin)

-- a level less, or a subtree
abbrev pub decreases-all_at-loop-left : goal.decreases-all_at-loop-left
decreases-all_at-loop-left l = 0x100000000 * l.deep + l.left
