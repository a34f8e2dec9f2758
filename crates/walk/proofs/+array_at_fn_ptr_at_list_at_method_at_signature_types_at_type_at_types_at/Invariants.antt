-- The cycle of calls of the walk: a type, a list of types, an array, FNPTR and its method, and some types one after the other. The depth left falls.
use Rattle.std.proofs.Common.{◌≡◌, true, ◌+◌, ◌≤◌, ◌<◌, length, ℕ, ◌-◌, ◌*◌, List}
use Rattle.grammar.specs.Judge.{node}
use Rattle.element.specs.Element.{is_type_place}
use Rattle.opening.specs.Means.{series}
use Rattle.opening.specs.Walk.{Walked}
use Rattle.opening.specs.End.{Walk, Next}
use Rattle.walk.proofs.Laws.{Pending}
use Rattle.walk.proofs.+array_at_fn_ptr_at_list_at_method_at_signature_types_at_type_at_types_at.Given as goal

abbrev pub decreases-array_at : goal.decreases-array_at
decreases-array_at l = 3 * l.d + 2

abbrev pub decreases-fn_ptr_at : goal.decreases-fn_ptr_at
decreases-fn_ptr_at l = 3 * l.d + 1

abbrev pub decreases-list_at : goal.decreases-list_at
decreases-list_at l = 3 * l.d + 1

abbrev pub decreases-method_at : goal.decreases-method_at
decreases-method_at l = 3 * l.d

abbrev pub decreases-signature_types_at : goal.decreases-signature_types_at
decreases-signature_types_at l = 3 * l.d + 1

abbrev pub decreases-type_at : goal.decreases-type_at
decreases-type_at l = 3 * l.d + 1

abbrev pub decreases-types_at : goal.decreases-types_at
decreases-types_at l = 3 * l.d

-- as many nodes with one child as levels are used are put, and whatever ends the rest from here ends the whole
abbrev pub invariant-types_at-loop-left : goal.invariant-types_at-loop-left
invariant-types_at-loop-left l =
    let whole : Walk → List ℕ → Type 0 = λ r fin. Walked (series (node l.d l.src.bytes.now l.src.counts l.initial.p) (node l.d l.src.bytes.now l.src.counts l.then) l.count l.fn.from.at l.fn.from.node) l.fn.from.node r l.initial.out fin in
    (length l.out ≡ length l.initial.out) × (is_type_place l.p ≡ true) × (l.deep ≤ l.d) × (l.d - l.deep ≤ l.here.node) × (0 < l.left → Pending whole (node l.deep l.src.bytes.now l.src.counts l.p l.here.at l.here.node) (series (node l.d l.src.bytes.now l.src.counts l.then) (node l.d l.src.bytes.now l.src.counts l.then) (l.left - 1)) l.here.node (l.d - l.deep) l.out) × (l.left ≤ 0 → whole (Next l.here.at l.here.node) l.out)

-- a link uses up a level, and an item's end gives them all back
abbrev pub decreases-types_at-loop-left : goal.decreases-types_at-loop-left
decreases-types_at-loop-left l = l.left * (l.d + 1) + l.deep
