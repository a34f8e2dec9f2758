-- `writer::copy_confirmed` meets its contract. Assumes nothing.
use mathlib.Core.Path.{sym, ◌∙◌}
use Rattle.writer.proofs.Verdicts.{copy_not, copy_short, copy_done}
use Rattle.writer.proofs.copy_confirmed.Goals as goal

pub returns-then-not-has_table : goal.returns-then-not-has_table
returns-then-not-has_table c = rw c.at.ensures (copy_not _ _ _ _ _ (sym c.if-not-has_table.true ∙ c.has_table.ensures))

pub returns-then-out-len : goal.returns-then-out-len
returns-then-out-len c = rw c.at-then-out-len.ensures (copy_short _ _ _ _ _ (sym c.if-not-has_table.false ∙ c.has_table.ensures) c.if-out-len.true)

pub returns : goal.returns
returns c = copy_done _ _ _ _ c.args.out.now (sym c.if-not-has_table.false ∙ c.has_table.ensures) _ c.if-out-len.false c.copy_to.ensures
