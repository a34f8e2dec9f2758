-- `nodes::read_records` meets its contract. Assumes nothing.
use Rattle.std.proofs.Common.{rules, ◌≡◌, length}
use Rattle.std.specs.Prelude.{Err}
use Rattle.answer.proofs.Numbers.{not_done}
use Rattle.nodes.proofs.Answers.{asked, kept_out, copies_out}
use Rattle.nodes.proofs.read_records.Goals as goal

pub returns-in_err-nodes : goal.returns-in_err-nodes
returns-in_err-nodes c =
    let a = c.args in
    let r = c.in_err-nodes.ensures in
    let e : c.from_residual.result ≡ Err c.in_err-nodes.field-0.0 = search rules in
    rw e (r.0, (r.1, kept_out a.kind a.counts a.blob.now a.table.now (length a.records.now) a.records.now _ _ r.0 (not_done _)))

pub copy_records-requires : goal.copy_records-requires
copy_records-requires c = asked _ _ _ _ _ _ _ c.in_ok-nodes.ensures.0 c.read_within.auto.table

pub returns : goal.returns
returns c =
    let a = c.args in
    let r = c.in_ok-nodes.ensures in
    (r.0, (r.1, copies_out a.kind a.counts a.blob.now a.table.now (length a.records.now) a.records.now _ _ _ r.0 r.1 c.copy_records.ensures))
