-- `sheet::blobs::file_all` meets its contract. Assumes nothing.
use Rattle.std.proofs.Common.{◌≡◌, ◌+◌, ◌-◌}
use Rattle.layout.specs.Layout.{blobs_from}
use Rattle.register.specs.Calls.{holding}
use Rattle.sheet.specs.Filed.{file_all}
use Rattle.sheet.proofs.blobs.file_all.Given as goal

abbrev pub invariant-loop-i : goal.invariant-loop-i
invariant-loop-i l =
    file_all (holding l.register l.sets) (l.i + 1) (blobs_from (l.fn.layout.rows - l.i) l.s l.at)
    ≡ file_all (holding l.initial.register l.initial.sets) 1 (blobs_from l.fn.layout.rows l.s l.fn.layout.starts.blobs)
