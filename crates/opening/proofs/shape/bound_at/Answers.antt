-- `opening::shape::bound_at` meets its contract. Assumes nothing.
use Rattle.std.proofs.Common.{rules}
use Rattle.std.specs.Prelude.{Err}
use native.Mathlib.Omega.{arith}
use mathlib.Core.Path.{◌≡◌, sym, ◌∙◌}
use Rattle.opening.specs.End.{ended}
use Rattle.number.proofs.Checks.{checked-onward}
use Rattle.opening.proofs.Codes.{placed_ok, placed_err}
use Rattle.opening.proofs.Shapes.{bound-bad, bound-good}
use Rattle.opening.proofs.shape.bound_at.Goals as goal

pub returns-in_err-number : goal.returns-in_err-number
unfolding ended
returns-in_err-number c =
    let e : c.from_residual.result ≡ Err c.in_err-number.field-0.0 = search rules in
    let p = placed_err c.checked_at.result _ c.placed.ensures c.in_err-number.was in
    rw (e, p.2) (bound-bad c.args.kind c.args.d c.args.here.at c.args.here.node _ _ c.checked_at.ensures p.0 _ p.1)

pub bound_of-requires : goal.bound_of-requires
bound_of-requires c =
    omega (arith, checked-onward _ _ _ _ (sym c.checked_at.ensures ∙ placed_ok c.checked_at.result _ c.placed.ensures c.in_ok-number.was))

pub returns : goal.returns
returns c =
    bound-good c.args.kind c.args.d c.args.here.at _ _ _ c.checked_at.ensures _ _ _ _ _ (placed_ok c.checked_at.result _ c.placed.ensures c.in_ok-number.was) c.bound_of.ensures
