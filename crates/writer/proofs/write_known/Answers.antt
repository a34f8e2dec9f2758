-- `writer::write_known` meets its contract: what did not fit left the output as it was. Assumes nothing.
use Rattle.std.proofs.Common.{◌≡◌}
use mathlib.Core.Path.{◌∙◌}
use Rattle.writer.proofs.Verdicts.{within_none, gives_kept, write_stop}
use Rattle.writer.proofs.write_known.Goals as goal
use Rattle.writer.proofs.write_known.Goals.{then-table-le48+in_default, else-table-le48, then-table-le768+in_default-write_within, else-table-le768}

pub returns-in-None : goal.returns-in-None
returns-in-None c =
    let a = c.args in
    let first : c.if-table-le48.out ≡ a.out.now = elim c.if-table-le48.branch [
      | then-table-le48+in_default w ↦ w.out-is ∙ within_none _ _ _ _ _ _ _ w.write_within.ensures w.in_default.not-Some
      | else-table-le48 w ↦ w.out-is
    ] in
    let second : c.if-table-le768.out ≡ c.if-table-le48.out = elim c.if-table-le768.branch [
      | then-table-le768+in_default-write_within w ↦ w.out-is ∙ within_none _ _ _ _ _ _ _ w.write_within-then-table-le768.ensures w.in_default-write_within.not-Some
      | else-table-le768 w ↦ w.out-is
    ] in
    rw c.at.ensures
    (gives_kept _ _ _ _ _ (c.in-None.ensures.0 ∙ second ∙ first) (write_stop a.kind a.counts a.table.now a.out.now c.in-None.ensures.1))
