-- `dawnclavier::dcl_judge` meets its contract. Assumes nothing.
use mathlib.Core.Path.{ap, ◌∙◌}
use Rattle.dawnclavier.specs.Packed.{pack_of}
use Rattle.reader.proofs.Theorems.{judge-place}
use Rattle.dawnclavier.proofs.dcl_judge.Goals as goal

pub pack-requires : goal.pack-requires
pack-requires c = rw c.judge.ensures (judge-place _ _ _)

pub returns : goal.returns
returns c =
    rw (← c.row_counts-counts.ensures) (c.pack.ensures ∙ ap pack_of c.judge.ensures)
