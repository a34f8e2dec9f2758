-- `opening::code_at` meets its contract. Assumes nothing.
use Rattle.opening.proofs.Codes.{code_none, code_deep, code_full, code_byte}
use Rattle.opening.proofs.code_at.Goals as goal

pub returns-then-src-at : goal.returns-then-src-at
returns-then-src-at c = rw c.at.ensures (code_none _ _ _ _ _ c.if-src-at.true)

pub returns-then-d-eq0 : goal.returns-then-d-eq0
returns-then-d-eq0 c = rw c.at-then-d-eq0.ensures (code_deep _ _ _ _ _ c.if-src-at.false _ c.if-d-eq0.true c.crowded.ensures)

pub returns-then-here-ge-MAX_NODES : goal.returns-then-here-ge-MAX_NODES
returns-then-here-ge-MAX_NODES c = rw c.at-then-here-ge-MAX_NODES.ensures (code_full _ _ _ _ _ c.if-src-at.false _ c.if-d-eq0.false c.if-here-ge-MAX_NODES.true c.crowded-then-here-ge-MAX_NODES.ensures)

pub returns : goal.returns
returns c = code_byte _ _ _ _ _ c.if-src-at.false c.if-d-eq0.false c.if-here-ge-MAX_NODES.false
