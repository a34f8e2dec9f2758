-- The cycle of calls of the emission, goal by goal: each cites a law of Laws or Steps, with `_` for what the goal shows. Assumes nothing.
use Rattle.std.specs.Prelude.{Some}
use mathlib.Core.Path.{refl, ap, ◌∙◌}
use native.Mathlib.Omega.{arith}
use Rattle.grammar.specs.Emit.{emit}
use Rattle.grammar.specs.declared.Position.{Position}
use Rattle.emission.specs.End.{Next, ended}
use Rattle.emission.specs.Emission.{Emits}
use Rattle.emission.proofs.Laws.{emits_as, last_one, part_goes, part_ends, emits_past, next_within, spelt_then, spelt_over, spelt_within, loop_stop, loop_more, loop_end}
use Rattle.emission.proofs.Steps.{emit-deep, emit-past, emit-array, emit-part, emit-short, emit-below, times_below, array-stop, sizes_stop, array-next}
use Rattle.emission.proofs.+all_at_array_at_part_at.Goals as goal
use Rattle.emission.proofs.+all_at_array_at_part_at.Goals.{all_at-in-Goes+else-left-eq1+in_ok-end-in-Goes, all_at-in-Ends}

pub all_at-returns-then-out-from : goal.all_at-returns-then-out-from
unfolding ended
all_at-returns-then-out-from t c =
    emits_past _ _ _ c.if-out-from.true

pub all_at-returns-in_err-part : goal.all_at-returns-in_err-part
unfolding ended
all_at-returns-in_err-part t c =
    rw c.from_residual.ensures (c.loop-left.invariant.4 _ _ (loop_stop _ _ _ _ _ _ _ c.loop-left-test.true c.in_err-part.ensures refl))

pub all_at-loop-left-preserved-then-left-eq1 : goal.all_at-loop-left-preserved-then-left-eq1
all_at-loop-left-preserved-then-left-eq1 t c =
    let l = c.loop-left in
    let g = part_goes _ _ _ _ _ _ _ _ _ c.part_at.ensures (c.in_ok-part.was ∙ ap Some c.in-Goes.is) in
    (c.part_at.auto.out ∙ l.invariant.0, g.2, omega (arith, g.1), omega (arith, l.invariant.3), λ r fin y. l.invariant.4 r fin (last_one _ _ _ _ _ _ _ c.if-left-eq1.true (g.3 r fin y)))

pub all_at-returns-in_err-end-in-Goes : goal.all_at-returns-in_err-end-in-Goes
unfolding ended
all_at-returns-in_err-end-in-Goes t c =
    let g = part_goes _ _ _ _ _ _ _ _ _ c.part_at.ensures (c.in_ok-part.was ∙ ap Some c.in-Goes.is) in
    rw c.from_residual-in_err-end-in-Goes.ensures
    (c.loop-left.invariant.4 _ _ (loop_stop _ _ _ _ _ _ _ c.loop-left-test.true (g.3 _ _ c.in_err-end-in-Goes.ensures) refl))

pub all_at-loop-left-preserved : goal.all_at-loop-left-preserved
unfolding ended
all_at-loop-left-preserved t c =
    let l = c.loop-left in
    let q = c.part_at.ensures in
    let end = c.match-part.end in
    let i : Emits (emit l.deep c.args.table.now l.here.node) l.here.at (Next end.at end.node) l.out c.match-part.out = elim c.match-part.branch [
      | all_at-in-Goes+else-left-eq1+in_ok-end-in-Goes w ↦
          emits_as _ _ _ _ _ _ _ w.out-is (ap (λ (p : Position). Next p.at p.node) w.end-is) ((part_goes _ _ _ _ _ _ _ _ _ q (c.in_ok-part.was ∙ ap Some w.in-Goes.is)).3 _ _ w.in_ok-end-in-Goes.ensures)
      | all_at-in-Ends w ↦ emits_as _ _ _ _ _ _ _ w.out-is (ap (λ (p : Position). Next p.at p.node) w.end-is) (part_ends _ _ _ _ _ _ _ _ q (c.in_ok-part.was ∙ ap Some w.in-Ends.is))
    ] in (
      i.kept ∙ l.invariant.0,
      next_within _ _ _ _ _ _ i,
      emit-below _ _ _ l.invariant.2 _ _ _ _ _ _ i refl,
      l.invariant.3,
      λ r fin y. l.invariant.4 r fin (loop_more _ _ _ _ _ _ _ c.loop-left-test.true i _ _ refl r fin y),
    )

pub all_at-returns : goal.all_at-returns
unfolding ended
all_at-returns t c =
    c.loop-left.invariant.4 _ _ (loop_end _ _ _ _ _ c.loop-left-test.false c.loop-left.invariant.1)

pub array_at-all_at-requires-2 : goal.array_at-all_at-requires-2
unfolding ended
array_at-all_at-requires-2 t c =
    (omega (arith, c.decreases), times_below _ _ _ (omega (arith, c.requires)) _ _ _ _ _ _ _ c.in_ok-typed.ensures refl)

pub array_at-all_at-requires-3 : goal.array_at-all_at-requires-3
unfolding ended
array_at-all_at-requires-3 t c =
    let m = times_below _ _ _ (omega (arith, c.requires)) _ _ _ _ _ _ _ c.in_ok-typed.ensures refl in
    (omega (arith, c.decreases), times_below _ _ _ m _ _ _ _ _ _ _ c.in_ok-sized.ensures refl)

pub array_at-returns-in_err-at : goal.array_at-returns-in_err-at
unfolding ended
array_at-returns-in_err-at t c =
    rw c.from_residual.ensures (array-stop _ _ _ _ _ _ _ _ _ (spelt_over _ _ c.in_err-at.ensures) refl)

pub array_at-returns-in_err-typed : goal.array_at-returns-in_err-typed
unfolding ended
array_at-returns-in_err-typed t c =
    rw c.from_residual-in_err-typed.ensures (array-stop _ _ _ _ _ _ _ _ _ (spelt_then _ _ c.in_ok-at.ensures c.in_err-typed.ensures) refl)

pub array_at-returns-in_err-at-2 : goal.array_at-returns-in_err-at-2
unfolding ended
array_at-returns-in_err-at-2 t c =
    rw c.from_residual-in_err-at-2.ensures (sizes_stop _ _ _ _ _ _ _ _ _ (spelt_then _ _ c.in_ok-at.ensures c.in_ok-typed.ensures) _ _ refl _ _ (spelt_over _ _ c.in_err-at-2.ensures) refl)

pub array_at-returns-in_err-sized : goal.array_at-returns-in_err-sized
unfolding ended
array_at-returns-in_err-sized t c =
    rw c.from_residual-in_err-sized.ensures (sizes_stop _ _ _ _ _ _ _ _ _ (spelt_then _ _ c.in_ok-at.ensures c.in_ok-typed.ensures) _ _ refl _ _ (spelt_then _ _ c.in_ok-at-2.ensures c.in_err-sized.ensures) refl)

pub array_at-returns-in_err-at-3 : goal.array_at-returns-in_err-at-3
unfolding ended
array_at-returns-in_err-at-3 t c =
    rw c.from_residual-in_err-at-3.ensures (array-next _ _ _ _ _ _ _ _ _ (spelt_then _ _ c.in_ok-at.ensures c.in_ok-typed.ensures) _ _ refl _ _ (spelt_then _ _ c.in_ok-at-2.ensures c.in_ok-sized.ensures) _ _ _ _ _ refl (omega arith) (spelt_over _ _ c.in_err-at-3.ensures))

pub array_at-returns : goal.array_at-returns
unfolding ended
array_at-returns t c =
    array-next _ _ _ _ _ _ _ _ _ (spelt_then _ _ c.in_ok-at.ensures c.in_ok-typed.ensures) _ _ refl _ _ (spelt_then _ _ c.in_ok-at-2.ensures c.in_ok-sized.ensures) _ _ _ _ _ refl (omega arith) (spelt_then _ _ c.in_ok-at-3.ensures c.all_at-3.ensures)

pub part_at-returns-then-d-eq0 : goal.part_at-returns-then-d-eq0
part_at-returns-then-d-eq0 t c =
    emit-deep _ _ _ _ _ c.if-d-eq0.true

pub part_at-returns-then-table-n : goal.part_at-returns-then-table-n
part_at-returns-then-table-n t c =
    emit-past _ _ _ _ _ c.if-d-eq0.false c.if-table-n.true

pub part_at-returns-in_err-end : goal.part_at-returns-in_err-end
unfolding ended
part_at-returns-in_err-end t c =
    rw c.from_residual.ensures (emit-array _ _ _ _ c.if-d-eq0.false c.if-table-n.false _ c.record_at-rec.ensures _ _ _ c.if-rec-eq-ARRAY.true c.in_err-end.ensures)

pub part_at-returns-then-rec-eq-ARRAY : goal.part_at-returns-then-rec-eq-ARRAY
unfolding ended
part_at-returns-then-rec-eq-ARRAY t c =
    emit-array _ _ _ _ c.if-d-eq0.false c.if-table-n.false _ c.record_at-rec.ensures _ _ _ c.if-rec-eq-ARRAY.true c.in_ok-end.ensures

pub part_at-returns-in_err-e : goal.part_at-returns-in_err-e
unfolding ended
part_at-returns-in_err-e t c =
    rw c.from_residual-in_err-e.ensures (emit-short _ _ _ _ c.if-d-eq0.false c.if-table-n.false _ c.record_at-rec.ensures _ _ _ _ refl refl c.if-rec-eq-ARRAY.false c.in_err-e.ensures)

pub part_at-returns-then-children-eq0 : goal.part_at-returns-then-children-eq0
unfolding ended
part_at-returns-then-children-eq0 t c =
    emit-part _ _ _ _ c.if-d-eq0.false c.if-table-n.false _ c.record_at-rec.ensures _ _ _ _ _ c.if-rec-eq-ARRAY.false c.in_ok-e.ensures (loop_end _ _ _ _ _ (omega (arith, c.if-children-eq0.true)) (spelt_within c.in_ok-e.ensures))

pub part_at-returns : goal.part_at-returns
part_at-returns t c =
    (omega (arith, c.if-d-eq0.false), omega (arith, c.if-table-n.false), spelt_within c.in_ok-e.ensures, λ r end y. emit-part _ _ _ _ c.if-d-eq0.false c.if-table-n.false _ c.record_at-rec.ensures _ _ _ _ _ c.if-rec-eq-ARRAY.false c.in_ok-e.ensures y)
