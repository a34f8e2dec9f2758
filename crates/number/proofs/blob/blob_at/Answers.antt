-- `number::blob::blob_at` meets its contract. Assumes nothing.
use Rattle.std.proofs.Common.{rules}
use native.Mathlib.Omega.{arith}
use mathlib.Core.Path.{sym, ◌∙◌}
use Rattle.number.specs.Blob.{blob_of, blob_at}
use Rattle.number.proofs.Checks.{checked-onward}
use Rattle.number.proofs.Blobs.{blob-cut, blob-there}
use Rattle.number.proofs.blob.blob_at.Goals as goal

pub returns-in_err-value : goal.returns-in_err-value
unfolding blob_at blob_of
returns-in_err-value c = search rules

pub overflow_add-end : goal.overflow_add-end
overflow_add-end c = omega (arith, checked-onward _ _ _ _ (sym c.checked_at.ensures ∙ c.in_ok-value.was))

pub returns-then-s-end : goal.returns-then-s-end
returns-then-s-end c = blob-cut _ _ c.checked_at.ensures c.in_ok-value.was c.if-s-end.true

pub returns : goal.returns
returns c = blob-there _ _ c.checked_at.ensures c.in_ok-value.was c.if-s-end.false
