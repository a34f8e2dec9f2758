-- `sheet::rows::Rows::acks_to` meets its contract. Assumes nothing.
use Prim.Native.Nat.{◌+◌, ◌-◌}
use mathlib.Core.Path.{◌≡◌, ◌∙◌}
use native.Mathlib.Omega.{arith}
use Rattle.number.specs.Checked.{checked_at}
use Rattle.layout.proofs.Lists.{list_next}
use Rattle.sheet.proofs.Acknowledging.{lines_next, marks_next}
use Rattle.sheet.proofs.rows.Rows.acks_to.Goals as goal

pub loop-preserved : goal.loop-preserved
loop-preserved c =
    let n = c.args.layout.acknowledged in
    let i = c.loop.counter in
    let z : n - i - 1 ≡ n - (i + 1) = omega arith in
    let l = list_next (checked_at _) (λ v next. v) _ c.checked_at.ensures (n - i) (omega (arith, c.loop-test.true)) c.in-Ok.is in
    let e = rw z at l in
    let p = c.acknowledge-told.ensures in
    (λ q new t. c.loop.invariant.0 q new (lines_next _ _ _ _ e p.marks_after (c.number_in.ensures ∙ p.code) _ _ q _ _ new c.ack_line_to-here.ensures t), marks_next _ _ _ _ e p.marks_after c.loop.invariant.1)
