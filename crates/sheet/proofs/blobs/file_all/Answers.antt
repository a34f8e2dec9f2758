-- `sheet::blobs::file_all` meets its contract. Assumes nothing.
use Prim.Native.Nat.{◌+◌, ◌-◌}
use mathlib.Core.Path.{◌≡◌}
use native.Mathlib.Omega.{arith}
use lib.ListN.{take, drop}
use Rattle.number.specs.Blob.{blob_at}
use Rattle.number.proofs.Blobs.{blob-within}
use Rattle.layout.proofs.Lists.{list_next}
use Rattle.answer.specs.Answers.{number_in}
use Rattle.register.specs.Calls.{changed}
use Rattle.sheet.proofs.Filed.{filed-next}
use Rattle.sheet.proofs.blobs.file_all.Goals as goal

pub overflow_sub-start : goal.overflow_sub-start
overflow_sub-start c = omega (arith, (blob-within _ _ c.blob_at.ensures c.in-Ok.is).0)

pub slice_bounds-file-end : goal.slice_bounds-file-end
slice_bounds-file-end c = omega (arith, (blob-within _ _ c.blob_at.ensures c.in-Ok.is).1)

pub loop-i-preserved : goal.loop-i-preserved
loop-i-preserved c =
    let n = c.args.layout.rows in
    let i = c.loop-i.i in
    let z : n - i - 1 ≡ n - (i + 1) = omega arith in
    let e = list_next (blob_at c.args.s.now) (λ v next. take v (drop (next - v) c.args.s.now)) _ c.blob_at.ensures (n - i) (omega (arith, c.loop-i-test.true)) c.in-Ok.is in
    filed-next _ _ _ _ c.loop-i.invariant _ _ _ _ (blob-within _ _ c.blob_at.ensures c.in-Ok.is).0 (rw z at e) (changed (number_in c.file.result) c.file.new.self) _ c.file.ensures
