-- `reader::read` meets its contract. Assumes nothing.
use Rattle.std.proofs.Common.{rules, ◌≡◌}
use Rattle.std.specs.Prelude.{Err}
use mathlib.Core.Path.{refl}
use Rattle.answer.proofs.Numbers.{not_done}
use Rattle.reader.proofs.Passes.{home, read_refused, read_short, read_done}
use Rattle.reader.proofs.read.Goals as goal

pub returns-in_err-nodes : goal.returns-in_err-nodes
returns-in_err-nodes c =
    let e : c.from_residual.result ≡ Err c.in_err-nodes.field-0.0 = search rules in
    rw e (read_refused _ _ _ _ _ _ _ _ (home _ c.args.table.now c.judge_in.auto.out) c.in_err-nodes.ensures (not_done _))

pub returns-then-table-nodes : goal.returns-then-table-nodes
returns-then-table-nodes c =
    rw c.at.ensures (read_short _ _ _ _ _ _ _ _ (home _ c.args.table.now c.judge_in.auto.out) c.in_ok-nodes.ensures refl c.if-table-nodes.true)

pub returns : goal.returns
returns c =
    read_done _ _ _ _ _ _ _ _ (home _ c.args.table.now c.judge_in.auto.out) c.in_ok-nodes.ensures refl c.if-table-nodes.false _ _ c.judge_in-2.ensures
