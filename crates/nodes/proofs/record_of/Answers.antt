-- `nodes::record_of` meets its contract: within the records it is `record_within`'s, past them the record is blank. Assumes nothing.
use Rattle.nodes.proofs.Answers.{node_past}
use Rattle.nodes.proofs.record_of.Goals as goal

pub returns : goal.returns
returns c =
    let r = c.record_within-found.ensures in
    (r.0, node_past _ _ _ _ _ c.if-i-lt-MAX_NODES.false, r.2)
