-- `opening::shape::bounds_at` meets its contract. Assumes nothing.
use Rattle.std.proofs.Common.{rules, ◌≡◌, ℕ, ◌+◌, ◌-◌}
use Rattle.std.specs.Prelude.{Err}
use mathlib.Core.Path.{ap, subst}
use native.Mathlib.Omega.{arith}
use Rattle.grammar.specs.Judge.{many}
use Rattle.opening.specs.End.{ended}
use Rattle.opening.specs.Walk.{Walked}
use Rattle.opening.specs.Shape.{bound_at}
use Rattle.opening.proofs.Shapes.{ends-bound_at}
use Rattle.opening.proofs.Walks.{loop_stop, loop_more, loop_end}
use Rattle.opening.proofs.shape.bounds_at.Goals as goal

pub returns-in_err-end : goal.returns-in_err-end
unfolding ended
returns-in_err-end c =
    let l = c.loop in
    let e : c.from_residual.result ≡ Err c.in_err-end.field-0.0 = search rules in
    rw e (l.invariant _ _ (loop_stop _ (c.args.count - l.counter) _ _ _ _ _ (omega arith) c.bound_at.ensures _ _ (ap ended c.in_err-end.was)))

pub loop-preserved : goal.loop-preserved
unfolding ended
loop-preserved c r fin y =
    let l = c.loop in
    let f = bound_at c.args.kind c.args.d c.args.src.now.bytes.now in
    let e = c.in_ok-end.end in
    let z : c.args.count - (l.counter + 1) ≡ c.args.count - l.counter - 1 = omega arith in
    l.invariant r fin
    (loop_more f (c.args.count - l.counter) _ _ _ _ _ (omega arith) c.bound_at.ensures (ends-bound_at _ _ _ _ _) _ _ (ap ended c.in_ok-end.was) r fin
    (subst (λ (k : ℕ). Walked (many f k e.at e.node) e.node r c.bound_at.new.out fin) z y))

pub returns : goal.returns
unfolding ended
returns c = c.loop.invariant _ _ (loop_end _ _ _ _ _ (omega arith))
