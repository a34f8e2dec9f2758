-- `panel::run` meets its contract: the print is within the output. Assumes nothing.
use Rattle.std.proofs.Common.{arith, length-take-le, sym}
use Rattle.sheet.proofs.Fits.{runs_within}
use Rattle.panel.proofs.run.Goals as goal

pub slice_bounds-out-end : goal.slice_bounds-out-end
slice_bounds-out-end g c = omega (arith, runs_within _ _ _ _ c.in-Ok.ensures, c.run_sheet.auto.out)

pub slice_bounds-write_all-end : goal.slice_bounds-write_all-end
slice_bounds-write_all-end g c =
    sym (length-take-le c.in-Ok.n c.run_sheet.new.out (omega (arith, runs_within _ _ _ _ c.in-Ok.ensures, c.run_sheet.auto.out)))
