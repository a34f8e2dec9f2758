-- `reader::table::has_table_within` meets its contract. Assumes nothing.
use Rattle.std.proofs.Common.{◌≡◌, ℕ, ◌*◌, length}
use mathlib.Core.Path.{refl, sym, ap, ◌∙◌}
use native.Mathlib.Omega.{arith}
use lib.ListN.{take, length-replicate}
use borrow.Author.Tests.{ne_eqb}
use Rattle.grammar.specs.Writer.{same_numbers}
use Rattle.answer.proofs.Numbers.{not_done}
use Rattle.reader.proofs.Tables.{equal-same, has-not, has-few, has_other, has_same}
use Rattle.reader.proofs.table.has_table_within.Goals as goal

pub overflow_mul-nodes : goal.overflow_mul-nodes
overflow_mul-nodes g c =
    let z = has-few _ _ _ _ _ _ c.in-Ok.ensures c.args.table.now refl in omega arith

pub returns-then-nodes-table : goal.returns-then-nodes-table
returns-then-nodes-table g c =
    let t = c.args.table.now in
    let e : 6 * c.in-Ok.nodes ≡ length t = c.if-nodes-table.true in
    has_same _ _ _ _ _ _ c.in-Ok.ensures t refl e (simp length-replicate c.requires.0) _
    (c.eq.ensures ∙ equal-same _ t ∙ ap (λ (k : ℕ). same_numbers (take k c.judge_in.new.out) t) (sym e))

pub returns-else-nodes-table : goal.returns-else-nodes-table
returns-else-nodes-table g c =
    ne_eqb _ _ c.if-nodes-table.false ∙ has_other _ _ _ _ _ _ c.in-Ok.ensures _ refl c.if-nodes-table.false

pub returns-in-Err : goal.returns-in-Err
returns-in-Err g c = has-not _ _ _ _ _ _ c.in-Err.ensures _ (not_done _)
