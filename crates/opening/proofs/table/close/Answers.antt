-- `opening::table::close` meets its contract. Assumes nothing.
use Rattle.std.proofs.Common.{◌≡◌, ℕ, ◌-◌, List}
use mathlib.Core.Path.{sym, ap, ◌∙◌}
use native.Mathlib.Omega.{arith}
use Rattle.opening.specs.Table.{put_after, close_of}
use Rattle.opening.proofs.Stamp.{closes_more, closes_end}
use Rattle.opening.proofs.table.close.Goals as goal

pub loop-i-preserved : goal.loop-i-preserved
loop-i-preserved c =
    let l = c.loop-i in
    let from = c.args.n - c.args.k in
    let e : l.i - 1 - from ≡ l.i - from - 1 = omega arith in
    ap (λ (o : List ℕ). close_of o (l.i - 1) (l.i - 1 - from) c.size32-last.result) c.put_after.ensures
    ∙ ap (λ (j : ℕ). close_of (put_after l.out (l.i - 1) c.size32-last.result) (l.i - 1) j c.size32-last.result) e
    ∙ sym (closes_more l.out l.i (l.i - from) c.size32-last.result (omega arith))
    ∙ l.invariant

pub returns : goal.returns
returns c =
    let l = c.loop-i in
    sym (closes_end _ _ _ _ (omega arith)) ∙ l.invariant ∙ ap (close_of _ _ _) c.size32-last.ensures
