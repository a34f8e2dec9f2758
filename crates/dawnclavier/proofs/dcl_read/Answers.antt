-- `dawnclavier::dcl_read` meets its contract. Assumes nothing.
use mathlib.Core.Path.{ap, ◌∙◌}
use Rattle.dawnclavier.specs.Packed.{pack_of}
use Rattle.reader.proofs.Theorems.{read_place}
use Rattle.dawnclavier.proofs.dcl_read.Goals as goal

pub pack-requires : goal.pack-requires
pack-requires c = rw c.read.ensures.0 (read_place _ _ _ _)

pub returns : goal.returns
returns c =
    rw (← c.row_counts-counts.ensures) (c.pack.ensures ∙ ap pack_of c.read.ensures.0, c.read.ensures.1)
