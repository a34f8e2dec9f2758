-- `number::token::token_at` meets its contract. Assumes nothing.
use Rattle.std.proofs.Common.{rules}
use Rattle.number.specs.Token.{token_of, token_at}
use Rattle.number.proofs.Checks.{token-tag, token-zero, token-past, token-in}
use Rattle.number.proofs.token.token_at.Goals as goal
use Rattle.number.proofs.token.token_at.Goals.{then-row-eq0-via-then-row-eq0, then-row-eq0-via-else-row-eq0+then-rows_of-row}

pub returns-in_err-token : goal.returns-in_err-token
unfolding token_at token_of
returns-in_err-token c = search rules

pub returns-then-tags-tag : goal.returns-then-tags-tag
returns-then-tags-tag c =
    token-tag _ _ c.checked_at.ensures _ _ c.in_ok-token.was c.tag_of-tag.ensures c.row_of-row.ensures c.if-tags-tag.true

pub returns-then-row-eq0 : goal.returns-then-row-eq0
returns-then-row-eq0 c = elim c.then-row-eq0.branch [
  | then-row-eq0-via-then-row-eq0 w ↦
      token-zero _ _ c.checked_at.ensures _ _ c.in_ok-token.was c.tag_of-tag.ensures c.row_of-row.ensures c.if-tags-tag.false w.if-row-eq0.true
  | then-row-eq0-via-else-row-eq0+then-rows_of-row w ↦
      token-past _ _ c.checked_at.ensures _ _ c.in_ok-token.was c.tag_of-tag.ensures c.row_of-row.ensures w.rows_of.ensures c.if-tags-tag.false w.if-row-eq0.false w.if-rows_of-row.true
]

pub returns : goal.returns
returns c =
    token-in _ _ c.checked_at.ensures _ _ c.in_ok-token.was c.tag_of-tag.ensures c.row_of-row.ensures c.rows_of.ensures c.if-tags-tag.false c.if-row-eq0.false c.if-rows_of-row.false
