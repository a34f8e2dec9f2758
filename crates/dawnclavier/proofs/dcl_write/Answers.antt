-- `dawnclavier::dcl_write` meets its contract. Assumes nothing.
use mathlib.Core.Path.{ap, ◌∙◌}
use Rattle.dawnclavier.specs.Packed.{pack_of}
use Rattle.writer.proofs.Theorems.{write_place}
use Rattle.dawnclavier.proofs.dcl_write.Goals as goal

pub pack-requires : goal.pack-requires
pack-requires c = rw c.write.ensures.0 (write_place _ _ _ _)

pub returns : goal.returns
returns c =
    rw (← c.row_counts-counts.ensures) (c.pack.ensures ∙ ap pack_of c.write.ensures.0, c.write.ensures.1)
