-- `reach::copy_words` meets its contract. Assumes nothing.
use Rattle.reach.proofs.Closures.{copied-put}
use Rattle.reach.proofs.copy_words.Goals as goal

pub returns : goal.returns
returns c =
    let a = c.args in
    copied-put a.m.now a.from.now _ a.d a.s a.w c.requires.0 c.requires.1 c.copy_from_slice.ensures.after
