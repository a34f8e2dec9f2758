-- `nodes::copy_records` meets its contract. Assumes nothing.
use Rattle.std.proofs.Common.{◌≡◌, ◌<◌, length, arith, ap, ◌∙◌, subst, List, ℕ}
use mathlib.Core.Path.{sym}
use lib.ListN.{set}
use Rattle.grammar.specs.Table.{record_at}
use Rattle.grammar.specs.declared.Node.{Node}
use Rattle.nodes.specs.Nodes.{copy_records}
use Rattle.nodes.proofs.Copied.{copied_none, copied_one_more}
use Rattle.nodes.proofs.copy_records.Goals as goal

pub loop-i-init : goal.loop-i-init
loop-i-init c = sym (copied_none _ _)

pub loop-i-preserved : goal.loop-i-preserved
loop-i-preserved c =
    let a = c.args in
    let l = c.loop-i in
    let inside : l.i < length a.records.now = omega (arith, c.loop-i-test.true, c.requires.1) in
    ap {B = List Node} (λ (r : Node). set l.records l.i r) c.record_at.ensures
    ∙ ap {B = List Node} (λ (rs : List Node). set rs l.i (record_at a.table.now l.i)) l.invariant
    ∙ copied_one_more a.table.now l.i a.records.now inside

pub returns : goal.returns
returns c =
    let e : c.loop-i.i ≡ c.args.count = omega arith in
    subst (λ (i : ℕ). c.loop-i.records ≡ copy_records c.args.table.now i c.args.records.now) e c.loop-i.invariant
