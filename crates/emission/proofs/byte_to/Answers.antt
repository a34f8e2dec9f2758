-- `emission::byte_to` meets its contract. Assumes nothing.
use mathlib.Core.Path.{refl}
use Rattle.emission.proofs.Laws.{byte_put, byte_cut}
use Rattle.emission.proofs.byte_to.Goals as goal

pub returns-then-at-out : goal.returns-then-at-out
returns-then-at-out c = byte_put _ _ _ c.requires _ c.if-at-out.true refl

pub returns : goal.returns
returns c = byte_cut _ _ _ c.requires c.if-at-out.false
