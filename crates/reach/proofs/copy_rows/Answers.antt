-- `reach::copy_rows` meets its contract. Assumes nothing.
use Rattle.reach.proofs.Closures.{rows-copied_more}
use Rattle.reach.proofs.copy_rows.Goals as goal

pub loop-r-preserved : goal.loop-r-preserved
loop-r-preserved c = rows-copied_more c.loop-r.invariant c.copy_words.ensures
