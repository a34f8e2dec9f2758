-- `walk::root_at` meets its contract. Assumes nothing.
use Rattle.walk.proofs.root_at.Goals as goal

pub returns : goal.returns
returns c =
    rw (← c.root_of-place.ensures) c.signature_at.ensures
