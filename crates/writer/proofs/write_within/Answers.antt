-- `writer::write_within` meets its contract. Assumes nothing.
use mathlib.Core.Path.{refl, ap}
use native.Mathlib.Omega.{arith}
use lib.ListN.{length-replicate}
use Rattle.emission.specs.End.{ended}
use Rattle.writer.proofs.Verdicts.{blob-within, write_copied, stopped-within}
use Rattle.writer.proofs.write_within.Goals as goal

pub returns-in_err-end : goal.returns-in_err-end
unfolding ended
returns-in_err-end g c = rw c.from_residual.ensures (refl, stopped-within _ _ _ c.in_err-end.ensures)

pub shared_whole_as_front-copy_confirmed : goal.shared_whole_as_front-copy_confirmed
unfolding ended
shared_whole_as_front-copy_confirmed g c =
    let h = blob-within _ _ _ _ c.all_at.ensures _ _ (ap ended c.in_ok-end.was) in
    (simp (c.all_at.ensures.kept, length-replicate) at h, omega arith)

pub returns : goal.returns
unfolding ended
returns g c = write_copied _ _ _ _ c.all_at.ensures _ _ (ap ended c.in_ok-end.was) _ _ c.args.out.now _ _ c.copy_confirmed.ensures
