-- `opening::shape::shape_at` meets its contract: a number, or some numbers, after the other. Assumes nothing.
use Rattle.std.proofs.Common.{rules, ◌≡◌, ◌≤◌}
use Rattle.std.specs.Prelude.{Err}
use mathlib.Core.Path.{ap, ◌∙◌}
use native.Mathlib.Omega.{arith}
use Rattle.grammar.specs.Limits.{max_rank}
use Rattle.grammar.specs.Table.{SIZE}
use Rattle.grammar.proofs.Bounds.{ends-many}
use Rattle.number.proofs.Checks.{count_most}
use Rattle.opening.specs.End.{ended}
use Rattle.opening.specs.Shape.{lows_at, shape_at}
use Rattle.opening.proofs.Codes.{placed_ok, placed_err}
use Rattle.opening.proofs.Shapes.{ends-bound_at, shaped_as, shape_bad, shape_good, shape_stop, shape_then, shape_done}
use Rattle.opening.proofs.Walks.{found, walked_next}
use Rattle.opening.proofs.shape.shape_at.Goals as goal

pub returns-in_err-rank : goal.returns-in_err-rank
unfolding shape_at
returns-in_err-rank c =
    let e : c.from_residual.result ≡ Err c.in_err-rank.field-0.0 = search rules in
    let p = placed_err c.count_at.result _ c.placed.ensures c.in_err-rank.was in
    shaped_as _ _ _ _ (e ∙ ap Err p.2) (shape_bad _ _ c.count_at.ensures _ _ _ p.0 _ p.1)

pub returns-in_err-sizes : goal.returns-in_err-sizes
unfolding shape_at
returns-in_err-sizes c =
    let e : c.from_residual-in_err-sizes.result ≡ Err c.in_err-sizes.field-0.0 = search rules in
    let rank = placed_ok c.count_at.result _ c.placed.ensures c.in_ok-rank.was in
    let p = placed_err c.count_at-2.result _ c.placed-2.ensures c.in_err-sizes.was in
    shaped_as _ _ _ _ (e ∙ ap Err p.2)
    (shape_good _ _ c.count_at.ensures _ _ _ _ _ _ _ _ rank
    (shape_bad _ _ c.count_at-2.ensures _ _ _ p.0 _ p.1))

pub returns-in_err-sized : goal.returns-in_err-sized
unfolding shape_at ended
returns-in_err-sized c =
    let e : c.from_residual-in_err-sized.result ≡ Err c.in_err-sized.field-0.0 = search rules in
    let rank = placed_ok c.count_at.result _ c.placed.ensures c.in_ok-rank.was in
    let sizes = placed_ok c.count_at-2.result _ c.placed-2.ensures c.in_ok-sizes.was in
    shaped_as _ _ _ _ e
    (shape_good _ _ c.count_at.ensures _ _ _ _ _ _ _ _ rank
    (shape_good _ _ c.count_at-2.ensures _ _ _ _ _ _ _ _ sizes
    (shape_stop _ _ _ _ _ _ c.bounds_at.ensures _ (ap ended c.in_err-sized.was))))

pub returns-in_err-lows : goal.returns-in_err-lows
unfolding shape_at lows_at ended
returns-in_err-lows c =
    let a = c.args in
    let e : c.from_residual-in_err-lows.result ≡ Err c.in_err-lows.field-0.0 = search rules in
    let rank = placed_ok c.count_at.result _ c.placed.ensures c.in_ok-rank.was in
    let sizes = placed_ok c.count_at-2.result _ c.placed-2.ensures c.in_ok-sizes.was in
    let p = placed_err c.count_at-3.result _ c.placed-3.ensures c.in_err-lows.was in
    shaped_as _ _ _ _ (e ∙ ap Err p.2)
    (shape_good _ _ c.count_at.ensures _ _ _ _ _ _ _ _ rank
    (shape_good _ _ c.count_at-2.ensures _ _ _ _ _ _ _ _ sizes
    (shape_then _ _ _ _ _ (lows_at a.d a.src.now.bytes.now a.kind _ _) (ends-many _ (ends-bound_at _ a.d a.src.now.bytes.now) _ _ _ c.requires) c.bounds_at.ensures _ _ (ap ended c.in_ok-sized.was) _ _
    (shape_bad _ _ c.count_at-3.ensures _ _ _ p.0 _ p.1))))

pub returns-in_err-end : goal.returns-in_err-end
unfolding shape_at lows_at ended
returns-in_err-end c =
    let a = c.args in
    let e : c.from_residual-in_err-end.result ≡ Err c.in_err-end.field-0.0 = search rules in
    let rank = placed_ok c.count_at.result _ c.placed.ensures c.in_ok-rank.was in
    let sizes = placed_ok c.count_at-2.result _ c.placed-2.ensures c.in_ok-sizes.was in
    let lows = placed_ok c.count_at-3.result _ c.placed-3.ensures c.in_ok-lows.was in
    shaped_as _ _ _ _ e
    (shape_good _ _ c.count_at.ensures _ _ _ _ _ _ _ _ rank
    (shape_good _ _ c.count_at-2.ensures _ _ _ _ _ _ _ _ sizes
    (shape_then _ _ _ _ _ (lows_at a.d a.src.now.bytes.now a.kind _ _) (ends-many _ (ends-bound_at _ a.d a.src.now.bytes.now) _ _ _ c.requires) c.bounds_at.ensures _ _ (ap ended c.in_ok-sized.was) _ _
    (shape_good _ _ c.count_at-3.ensures _ _ _ _ _ _ _ _ lows
    (shape_stop _ _ _ _ _ _ c.bounds_at-2.ensures _ (ap ended c.in_err-end.was))))))

-- Rank is at most 32, and the others at most Rank
pub overflow_add-children : goal.overflow_add-children
overflow_add-children c =
    let rank : c.in_ok-rank.rank.value ≤ max_rank = count_most _ _ _ _ _ _ _ c.count_at.ensures (placed_ok c.count_at.result _ c.placed.ensures c.in_ok-rank.was) in
    let sizes = count_most _ _ _ _ _ _ _ c.count_at-2.ensures (placed_ok c.count_at-2.result _ c.placed-2.ensures c.in_ok-sizes.was) in
    omega (arith, rank, sizes)

pub overflow_add-children-2 : goal.overflow_add-children-2
overflow_add-children-2 c =
    let rank : c.in_ok-rank.rank.value ≤ max_rank = count_most _ _ _ _ _ _ _ c.count_at.ensures (placed_ok c.count_at.result _ c.placed.ensures c.in_ok-rank.was) in
    let sizes = count_most _ _ _ _ _ _ _ c.count_at-2.ensures (placed_ok c.count_at-2.result _ c.placed-2.ensures c.in_ok-sizes.was) in
    let lows = count_most _ _ _ _ _ _ _ c.count_at-3.ensures (placed_ok c.count_at-3.result _ c.placed-3.ensures c.in_ok-lows.was) in
    omega (arith, rank, sizes, lows)

pub returns : goal.returns
unfolding shape_at lows_at ended
returns c =
    let a = c.args in
    let rank = placed_ok c.count_at.result _ c.placed.ensures c.in_ok-rank.was in
    let sizes = placed_ok c.count_at-2.result _ c.placed-2.ensures c.in_ok-sizes.was in
    let lows = placed_ok c.count_at-3.result _ c.placed-3.ensures c.in_ok-lows.was in
    let ends = ends-many _ (ends-bound_at SIZE a.d a.src.now.bytes.now) _ _ _ c.requires in
    let few = walked_next _ _ _ _ _ _ ends (found _ _ _ _ _ _ (ap ended c.in_ok-sized.was) c.bounds_at.ensures) in
    rw c.head_of.ensures
    (shape_good _ _ c.count_at.ensures _ _ _ _ _ _ _ _ rank
    (shape_good _ _ c.count_at-2.ensures _ _ _ _ _ _ _ _ sizes
    (shape_then _ _ _ _ _ (lows_at a.d a.src.now.bytes.now a.kind _ _) ends c.bounds_at.ensures _ _ (ap ended c.in_ok-sized.was) _ _
    (shape_good _ _ c.count_at-3.ensures _ _ _ _ _ _ _ _ lows
    (shape_done _ _ _ _ _ _ (ends-many _ (ends-bound_at _ a.d a.src.now.bytes.now) _ _ _ few) c.bounds_at-2.ensures _ _ (ap ended c.in_ok-end.was))))))
