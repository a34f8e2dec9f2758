-- `nodes::read_within` meets its contract: the reader is lent a prefix of the table, or the whole. Assumes nothing.
use Rattle.nodes.proofs.Answers.{within-prefix, within-whole}
use Rattle.nodes.proofs.read_within.Goals as goal

pub returns-then-most-table : goal.returns-then-most-table
returns-then-most-table c =
    within-prefix _ _ _ c.args.table.now _ _ _ c.if-most-table.true c.read.ensures.0 c.read.ensures.1

pub returns : goal.returns
returns c =
    within-whole _ _ _ c.args.table.now _ _ _ c.if-most-table.false c.read-2.ensures.0 c.read-2.ensures.1
