-- `sheet::rows::Rows::lines_to` meets its contract. Assumes nothing.
use native.Mathlib.Omega.{arith}
use Rattle.sheet.proofs.RowLines.{rows_next}
use Rattle.sheet.proofs.rows.Rows.lines_to.Goals as goal

pub loop-i-preserved : goal.loop-i-preserved
loop-i-preserved c q new p =
    c.loop-i.invariant q new (rows_next _ _ _ _ _ (omega (arith, c.loop-i-test.true, c.count-i-end.ensures)) c.asked.ensures _ _ q _ _ new c.row_line_to-here.ensures p)
