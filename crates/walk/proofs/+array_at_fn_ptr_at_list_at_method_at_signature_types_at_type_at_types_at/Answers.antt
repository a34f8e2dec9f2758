-- The cycle of calls of the walk, goal by goal: each cites a law of Steps or Laws, with `_` for what the goal shows. Assumes nothing.
use Rattle.std.proofs.Common.{rules, ◌≡◌}
use Rattle.std.specs.Prelude.{Ok, Err}
use mathlib.Core.Path.{refl, ap, ◌∙◌}
use native.Mathlib.Omega.{arith}
use Rattle.element.specs.Element.{bare, leads, entries, form_of}
use Rattle.grammar.specs.Judge.{node}
use Rattle.grammar.proofs.Bounds.{ends-many, ends-node}
use Rattle.opening.specs.End.{Next, ended}
use Rattle.opening.specs.Means.{on_open}
use Rattle.opening.specs.Walk.{Walked}
use Rattle.grammar.specs.declared.Position.{Position}
use Rattle.opening.proofs.Walks.{seal_put, found, walked_as, walked_length, walked_seal, walked_small, walked_next, walked_first, series-end, ends-series}
use Rattle.walk.specs.Series.{end_of}
use Rattle.walk.proofs.Laws.{pending_item, pending_link, pending_end, pending_is, fewer_levels, array-stop, array-cut, array-small, array-done}
use Rattle.walk.proofs.Steps.{type_stop, open_bounds, leaf-done, one-bounds, one-node, below_node, series-ended, series-stopped, series-as, below-cut, below-few, below-done, walked_to, listed, one-walked, signature-bounds, signature-stop, signature-led, signature-done}
use Rattle.walk.proofs.+array_at_fn_ptr_at_list_at_method_at_signature_types_at_type_at_types_at.Goals as goal
use Rattle.walk.proofs.+array_at_fn_ptr_at_list_at_method_at_signature_types_at_type_at_types_at.Goals.{types_at-in-Leaf, types_at-in-List+in_ok-end-in-List, types_at-in-FnPtr+in_ok-end-in-FnPtr, types_at-in-Array+in_ok-end-in-Array}

pub array_at-type_at-requires : goal.array_at-type_at-requires
unfolding form_of entries bare leads
array_at-type_at-requires t c =
    (omega (arith, c.decreases), refl)

pub array_at-returns-in_err-typed : goal.array_at-returns-in_err-typed
unfolding form_of entries bare leads ended
array_at-returns-in_err-typed t c =
    let e : c.from_residual.result ≡ Err c.in_err-typed.field-0.0 = search rules in
    rw e (array-stop _ _ _ c.args.kind _ _ _ _ _ c.type_at.ensures _ _ (ap ended c.in_err-typed.was))

pub array_at-shape_at-requires : goal.array_at-shape_at-requires
unfolding form_of entries bare leads ended
array_at-shape_at-requires t c =
    walked_next _ _ _ _ _ _ (ends-node _ _ _ _ _ _) (found _ _ _ _ _ _ (ap ended c.in_ok-typed.was) c.type_at.ensures)

pub array_at-returns-in_err-shape : goal.array_at-returns-in_err-shape
unfolding form_of entries bare leads ended
array_at-returns-in_err-shape t c =
    let e : c.from_residual-in_err-shape.result ≡ Err c.in_err-shape.field-0.0 = search rules in
    rw e (array-cut _ _ _ _ _ _ _ _ _ c.type_at.ensures _ _ (ap ended c.in_ok-typed.was) _ _ c.shape_at.ensures _ c.in_err-shape.was)

pub array_at-seal-requires : goal.array_at-seal-requires
unfolding form_of entries bare leads ended
array_at-seal-requires t c =
    (c.requires.1, omega arith, array-small _ _ _ _ _ _ _ _ _ c.type_at.ensures _ _ (ap ended c.in_ok-typed.was) _ _ c.shape_at.ensures _ c.in_ok-shape.was)

pub array_at-returns : goal.array_at-returns
unfolding form_of entries bare leads ended
array_at-returns t c =
    array-done _ _ _ _ _ _ _ _ _ c.type_at.ensures _ _ (ap ended c.in_ok-typed.was) _ _ c.shape_at.ensures _ c.in_ok-shape.was _ _ (seal_put _ _ _ _ _ c.seal.ensures)

pub fn_ptr_at-seal_end-requires : goal.fn_ptr_at-seal_end-requires
unfolding form_of entries bare leads ended
fn_ptr_at-seal_end-requires t c =
    (c.requires.1, omega (arith, c.requires), walked_small _ _ _ _ _ (ends-node _ _ _ _ _ _) c.method_at-end.ensures)

pub fn_ptr_at-returns : goal.fn_ptr_at-returns
unfolding form_of entries bare leads ended
fn_ptr_at-returns t c = walked_seal _ _ _ _ _ _ _ _ _ c.method_at-end.ensures c.seal_end.ensures

pub list_at-types_at-requires : goal.list_at-types_at-requires
unfolding form_of entries bare leads
list_at-types_at-requires t c =
    (omega (arith, c.decreases), (refl, refl))

pub list_at-returns-in_err-types : goal.list_at-returns-in_err-types
unfolding form_of entries bare leads ended end_of
list_at-returns-in_err-types t c =
    let e : c.from_residual.result ≡ Err c.in_err-types.field-0.0 = search rules in
    rw e (below-cut _ _ _ _ _ _ _ (listed _ _ _ _ _ _ _ c.types_at.ensures) _ _ (ap end_of c.in_err-types.was))

pub list_at-seal-requires : goal.list_at-seal-requires
unfolding form_of entries bare leads end_of
list_at-seal-requires t c =
    (c.requires.1, omega arith, below-few _ _ c.args.head c.args.here.at _ _ _ (listed _ _ _ _ _ _ _ c.types_at.ensures) _ _ (ap end_of c.in_ok-types.was) (ends-many _ (ends-node _ _ _ _) _ _ _ (omega (arith, c.requires.1))))

pub list_at-returns : goal.list_at-returns
unfolding form_of entries bare leads ended end_of
list_at-returns t c =
    below-done _ _ _ _ _ _ _ (listed _ _ _ _ _ _ _ c.types_at.ensures) _ _ (ap end_of c.in_ok-types.was) _ c.seal.ensures

pub method_at-returns-in_err-lead : goal.method_at-returns-in_err-lead
unfolding form_of entries bare leads ended
method_at-returns-in_err-lead t c =
    let e : c.from_residual.result ≡ Err c.in_err-lead.field-0.0 = search rules in
    rw e (signature-stop _ _ _ _ _ _ refl _ c.fn_ptr_lead_at.ensures _ _ c.in_err-lead.was)

pub method_at-overflow_sub-d : goal.method_at-overflow_sub-d
unfolding form_of entries bare leads
method_at-overflow_sub-d t c =
    omega (arith, signature-bounds _ _ _ _ _ refl _ c.fn_ptr_lead_at.ensures _ c.in_ok-lead.was)

pub method_at-signature_types_at-requires : goal.method_at-signature_types_at-requires
unfolding form_of entries bare leads
method_at-signature_types_at-requires t c =
    let b = signature-bounds _ _ _ _ _ refl _ c.fn_ptr_lead_at.ensures _ c.in_ok-lead.was in (omega (arith, b, c.decreases), ((b.1, b.2), (b.3, b.4)))

pub method_at-returns : goal.method_at-returns
unfolding form_of entries bare leads
method_at-returns t c =
    signature-led _ _ _ _ _ _ refl _ c.fn_ptr_lead_at.ensures _ c.in_ok-lead.was _ _ _ c.signature_types_at.ensures

pub signature_types_at-returns-in_err-types : goal.signature_types_at-returns-in_err-types
unfolding form_of entries bare leads ended end_of
signature_types_at-returns-in_err-types t c =
    let e : c.from_residual.result ≡ Err c.in_err-types.field-0.0 = search rules in
    rw e (signature-done _ _ _ _ _ _ _ _ _ (below-cut _ _ _ _ _ _ _ c.types_at.ensures.walked _ _ (ap end_of c.in_err-types.was)))

pub signature_types_at-seal-requires : goal.signature_types_at-seal-requires
unfolding form_of entries bare leads end_of
signature_types_at-seal-requires t c =
    (c.requires.read.1, omega arith, below-few _ _ c.head_of-head.result c.args.here.at _ _ _ c.types_at.ensures.walked _ _ (ap end_of c.in_ok-types.was) (ends-series _ _ (ends-node _ _ _ _) (ends-node _ _ _ _) _ _ _ (omega (arith, c.requires))))

pub signature_types_at-returns : goal.signature_types_at-returns
unfolding form_of entries bare leads ended end_of
signature_types_at-returns t c =
    signature-done _ _ _ _ _ _ _ _ _ (below-done _ _ _ _ _ _ _ c.types_at.ensures.walked _ _ (ap end_of c.in_ok-types.was) _ (rw (c.head_of-head.ensures, c.types_at.ensures.counted _ c.in_ok-types.was) at c.seal.ensures))

pub type_at-returns-in_err-types : goal.type_at-returns-in_err-types
unfolding form_of entries bare leads ended end_of
type_at-returns-in_err-types t c =
    let e : c.from_residual.result ≡ Err c.in_err-types.field-0.0 = search rules in
    rw e (found _ _ _ _ _ _ (ap end_of c.in_err-types.was) (one-walked _ _ _ _ _ _ c.types_at.ensures))

pub type_at-returns : goal.type_at-returns
unfolding form_of entries bare leads ended end_of
type_at-returns t c =
    found _ _ _ _ _ _ (ap end_of c.in_ok-types.was) (one-walked _ _ _ _ _ _ c.types_at.ensures)

pub types_at-loop-left-init : goal.types_at-loop-left-init
unfolding form_of entries bare leads
types_at-loop-left-init t c =
    (refl, c.requires.0, omega arith, omega arith, λ h. pending_item _ _ _ _ _ _ _ _ h (omega arith) (ends-node _ _ _ _ _ _) (λ r fin y. y), λ h. series-end _ _ _ _ _ _ h)

pub types_at-returns-in_err-open : goal.types_at-returns-in_err-open
unfolding form_of entries bare leads
types_at-returns-in_err-open t c =
    let e : c.from_residual.result ≡ Err c.in_err-open.field-0.0 = search rules in
    let i = type_stop _ _ _ _ _ _ c.loop-left.invariant.1 _ c.open_at.ensures _ c.loop-left.out c.in_err-open.was in
    series-as _ _ _ _ _ _ _ e (series-stopped _ _ _ _ _ _ ((c.loop-left.invariant.4 c.loop-left-test.true).stops _ _ i _ _ refl))

pub types_at-overflow_add-after : goal.types_at-overflow_add-after
unfolding form_of entries bare leads
types_at-overflow_add-after t c =
    omega (arith, open_bounds _ _ _ _ _ _ c.loop-left.invariant.1 _ c.open_at.ensures _ (c.in_ok-open.was ∙ ap Ok c.in-Leaf.is) refl)

pub types_at-seal-requires : goal.types_at-seal-requires
unfolding form_of entries bare leads
types_at-seal-requires t c =
    let b = open_bounds _ _ _ _ _ _ c.loop-left.invariant.1 _ c.open_at.ensures _ (c.in_ok-open.was ∙ ap Ok c.in-Leaf.is) refl in (b.2, omega (arith, b), omega (arith, b))

pub types_at-overflow_add-after-in-One : goal.types_at-overflow_add-after-in-One
unfolding form_of entries bare leads
types_at-overflow_add-after-in-One t c =
    omega (arith, one-bounds _ _ _ _ _ _ c.loop-left.invariant.1 _ c.open_at.ensures _ _ _ (c.in_ok-open.was ∙ ap Ok c.in-One.is))

pub types_at-seal-requires-in-One : goal.types_at-seal-requires-in-One
unfolding form_of entries bare leads
types_at-seal-requires-in-One t c =
    let b = one-bounds _ _ _ _ _ _ c.loop-left.invariant.1 _ c.open_at.ensures _ _ _ (c.in_ok-open.was ∙ ap Ok c.in-One.is) in (b.2, omega (arith, b), omega (arith, b))

pub types_at-overflow_sub-deep : goal.types_at-overflow_sub-deep
unfolding form_of entries bare leads
types_at-overflow_sub-deep t c =
    omega (arith, one-bounds _ _ _ _ _ _ c.loop-left.invariant.1 _ c.open_at.ensures _ _ _ (c.in_ok-open.was ∙ ap Ok c.in-One.is))

pub types_at-loop-left-smaller-in-One : goal.types_at-loop-left-smaller-in-One
unfolding form_of entries bare leads
types_at-loop-left-smaller-in-One t c =
    fewer_levels _ _ (one-bounds _ _ _ _ _ _ c.loop-left.invariant.1 _ c.open_at.ensures _ _ _ (c.in_ok-open.was ∙ ap Ok c.in-One.is)).0

pub types_at-loop-left-preserved-in-One : goal.types_at-loop-left-preserved-in-One
unfolding form_of entries bare leads
types_at-loop-left-preserved-in-One t c =
    let l = c.loop-left in
    let b = one-bounds _ _ _ _ _ _ c.loop-left.invariant.1 _ c.open_at.ensures _ _ _ (c.in_ok-open.was ∙ ap Ok c.in-One.is) in
    let x = one-node _ _ _ _ _ _ c.loop-left.invariant.1 _ c.open_at.ensures _ _ _ (c.in_ok-open.was ∙ ap Ok c.in-One.is) in (
      c.seal-in-One.auto.out ∙ l.invariant.0,
      b.3,
      omega (arith, l.invariant.2),
      omega (arith, b, l.invariant),
      λ h. pending_link _ _ _ _ _ _ _ _ _ _ _ _ (omega (arith, b, l.invariant)) (seal_put _ _ _ c.in-One.next _ c.seal-in-One.ensures) (pending_is _ _ _ _ _ _ _ x (l.invariant.4 h)),
      λ h. absurd (omega (arith, h, c.loop-left-test.true)),
    )

pub types_at-overflow_sub-deep-in-List : goal.types_at-overflow_sub-deep-in-List
unfolding form_of entries bare leads
types_at-overflow_sub-deep-in-List t c =
    omega (arith, open_bounds _ _ _ _ _ _ c.loop-left.invariant.1 _ c.open_at.ensures _ (c.in_ok-open.was ∙ ap Ok c.in-List.is) refl)

pub types_at-list_at-requires : goal.types_at-list_at-requires
unfolding form_of entries bare leads
types_at-list_at-requires t c =
    let b = open_bounds _ _ _ _ _ _ c.loop-left.invariant.1 _ c.open_at.ensures _ (c.in_ok-open.was ∙ ap Ok c.in-List.is) refl in (omega (arith, b, c.loop-left.invariant.2, c.decreases), (b.1, b.2))

pub types_at-returns-in_err-end-in-List : goal.types_at-returns-in_err-end-in-List
unfolding form_of entries bare leads on_open ended
types_at-returns-in_err-end-in-List t c =
    let e : c.from_residual-in_err-end-in-List.result ≡ Err c.in_err-end-in-List.field-0.0 = search rules in
    let i = below_node _ _ _ _ _ _ c.loop-left.invariant.1 _ c.open_at.ensures _ (c.in_ok-open.was ∙ ap Ok c.in-List.is) _ _ _ c.list_at.ensures in
    series-as _ _ _ _ _ _ _ e (series-stopped _ _ _ _ _ _ ((c.loop-left.invariant.4 c.loop-left-test.true).stops _ _ i _ _ (ap ended c.in_err-end-in-List.was)))

pub types_at-overflow_sub-deep-in-FnPtr : goal.types_at-overflow_sub-deep-in-FnPtr
unfolding form_of entries bare leads
types_at-overflow_sub-deep-in-FnPtr t c =
    omega (arith, open_bounds _ _ _ _ _ _ c.loop-left.invariant.1 _ c.open_at.ensures _ (c.in_ok-open.was ∙ ap Ok c.in-FnPtr.is) refl)

pub types_at-fn_ptr_at-requires : goal.types_at-fn_ptr_at-requires
unfolding form_of entries bare leads
types_at-fn_ptr_at-requires t c =
    let b = open_bounds _ _ _ _ _ _ c.loop-left.invariant.1 _ c.open_at.ensures _ (c.in_ok-open.was ∙ ap Ok c.in-FnPtr.is) refl in (omega (arith, b, c.loop-left.invariant.2, c.decreases), (b.1, b.2))

pub types_at-returns-in_err-end-in-FnPtr : goal.types_at-returns-in_err-end-in-FnPtr
unfolding form_of entries bare leads on_open ended
types_at-returns-in_err-end-in-FnPtr t c =
    let e : c.from_residual-in_err-end-in-FnPtr.result ≡ Err c.in_err-end-in-FnPtr.field-0.0 = search rules in
    let i = below_node _ _ _ _ _ _ c.loop-left.invariant.1 _ c.open_at.ensures _ (c.in_ok-open.was ∙ ap Ok c.in-FnPtr.is) _ _ _ c.fn_ptr_at.ensures in
    series-as _ _ _ _ _ _ _ e (series-stopped _ _ _ _ _ _ ((c.loop-left.invariant.4 c.loop-left-test.true).stops _ _ i _ _ (ap ended c.in_err-end-in-FnPtr.was)))

pub types_at-overflow_sub-deep-in-Array : goal.types_at-overflow_sub-deep-in-Array
unfolding form_of entries bare leads
types_at-overflow_sub-deep-in-Array t c =
    omega (arith, open_bounds _ _ _ _ _ _ c.loop-left.invariant.1 _ c.open_at.ensures _ (c.in_ok-open.was ∙ ap Ok c.in-Array.is) refl)

pub types_at-array_at-requires : goal.types_at-array_at-requires
unfolding form_of entries bare leads
types_at-array_at-requires t c =
    let b = open_bounds _ _ _ _ _ _ c.loop-left.invariant.1 _ c.open_at.ensures _ (c.in_ok-open.was ∙ ap Ok c.in-Array.is) refl in (omega (arith, b, c.loop-left.invariant.2, c.decreases), (b.1, b.2))

pub types_at-returns-in_err-end-in-Array : goal.types_at-returns-in_err-end-in-Array
unfolding form_of entries bare leads on_open ended
types_at-returns-in_err-end-in-Array t c =
    let e : c.from_residual-in_err-end-in-Array.result ≡ Err c.in_err-end-in-Array.field-0.0 = search rules in
    let i = below_node _ _ _ _ _ _ c.loop-left.invariant.1 _ c.open_at.ensures _ (c.in_ok-open.was ∙ ap Ok c.in-Array.is) _ _ _ c.array_at.ensures in
    series-as _ _ _ _ _ _ _ e (series-stopped _ _ _ _ _ _ ((c.loop-left.invariant.4 c.loop-left-test.true).stops _ _ i _ _ (ap ended c.in_err-end-in-Array.was)))

pub types_at-returns : goal.types_at-returns
unfolding form_of entries bare leads
types_at-returns t c =
    series-ended _ _ _ _ _ _ _ _ (omega arith) (c.loop-left.invariant.5 c.loop-left-test.false)

-- One node of the loop is walked, by what stood before its children; so at the next too.
pub types_at-close-requires : goal.types_at-close-requires
unfolding form_of entries bare leads on_open
types_at-close-requires t c =
    let l = c.loop-left in
    let p = l.invariant.1 in
    let q = c.open_at.ensures in
    let end = c.match-open.end in
    let i : Walked (node l.deep c.args.src.now.bytes.now c.args.src.now.counts l.p l.here.at l.here.node) l.here.node (Next end.at end.node) l.out c.match-open.out = elim c.match-open.branch [
      | types_at-in-Leaf w ↦ walked_as _ _ _ _ _ _ _ w.out-is (ap (λ (x : Position). Next x.at x.node) w.end-is) (leaf-done _ _ _ _ _ _ p _ q _ _ (c.in_ok-open.was ∙ ap Ok w.in-Leaf.is) _ _ _ (seal_put _ _ _ _ _ w.seal.ensures))
      | types_at-in-List+in_ok-end-in-List w ↦ walked_to _ _ _ _ _ _ _ _ w.out-is w.end-is w.in_ok-end-in-List.was (below_node _ _ _ _ _ _ p _ q _ (c.in_ok-open.was ∙ ap Ok w.in-List.is) _ _ _ w.list_at.ensures)
      | types_at-in-FnPtr+in_ok-end-in-FnPtr w ↦ walked_to _ _ _ _ _ _ _ _ w.out-is w.end-is w.in_ok-end-in-FnPtr.was (below_node _ _ _ _ _ _ p _ q _ (c.in_ok-open.was ∙ ap Ok w.in-FnPtr.is) _ _ _ w.fn_ptr_at.ensures)
      | types_at-in-Array+in_ok-end-in-Array w ↦ walked_to _ _ _ _ _ _ _ _ w.out-is w.end-is w.in_ok-end-in-Array.was (below_node _ _ _ _ _ _ p _ q _ (c.in_ok-open.was ∙ ap Ok w.in-Array.is) _ _ _ w.array_at.ensures)
    ] in
    (walked_first _ _ _ _ _ _ (ends-node _ _ _ _ _ _) i, l.invariant.3, omega (arith, walked_next _ _ _ _ _ _ (ends-node _ _ _ _ _ _) i))

pub types_at-loop-left-preserved : goal.types_at-loop-left-preserved
unfolding form_of entries bare leads on_open
types_at-loop-left-preserved t c =
    let l = c.loop-left in
    let p = l.invariant.1 in
    let q = c.open_at.ensures in
    let end = c.match-open.end in
    let i : Walked (node l.deep c.args.src.now.bytes.now c.args.src.now.counts l.p l.here.at l.here.node) l.here.node (Next end.at end.node) l.out c.match-open.out = elim c.match-open.branch [
      | types_at-in-Leaf w ↦ walked_as _ _ _ _ _ _ _ w.out-is (ap (λ (x : Position). Next x.at x.node) w.end-is) (leaf-done _ _ _ _ _ _ p _ q _ _ (c.in_ok-open.was ∙ ap Ok w.in-Leaf.is) _ _ _ (seal_put _ _ _ _ _ w.seal.ensures))
      | types_at-in-List+in_ok-end-in-List w ↦ walked_to _ _ _ _ _ _ _ _ w.out-is w.end-is w.in_ok-end-in-List.was (below_node _ _ _ _ _ _ p _ q _ (c.in_ok-open.was ∙ ap Ok w.in-List.is) _ _ _ w.list_at.ensures)
      | types_at-in-FnPtr+in_ok-end-in-FnPtr w ↦ walked_to _ _ _ _ _ _ _ _ w.out-is w.end-is w.in_ok-end-in-FnPtr.was (below_node _ _ _ _ _ _ p _ q _ (c.in_ok-open.was ∙ ap Ok w.in-FnPtr.is) _ _ _ w.fn_ptr_at.ensures)
      | types_at-in-Array+in_ok-end-in-Array w ↦ walked_to _ _ _ _ _ _ _ _ w.out-is w.end-is w.in_ok-end-in-Array.was (below_node _ _ _ _ _ _ p _ q _ (c.in_ok-open.was ∙ ap Ok w.in-Array.is) _ _ _ w.array_at.ensures)
    ] in
    let x = pending_end _ _ _ _ _ _ (l.invariant.4 c.loop-left-test.true) _ _ i _ _ refl _ c.close.ensures in (
      c.close.auto.out ∙ walked_length _ _ _ _ _ i ∙ l.invariant.0,
      c.requires.1,
      omega arith,
      omega arith,
      λ h. pending_item _ _ _ _ _ _ _ _ h (omega arith) (ends-node _ _ _ _ _ _) x,
      λ h. x _ _ (series-end _ _ _ _ _ _ h),
    )
