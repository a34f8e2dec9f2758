-- `standing::closed::Closed::unmark` meets its contract. Assumes nothing.
use mathlib.Core.Path.{sym, ap, ◌∙◌}
use mathlib.Core.List.{List}
use Prim.Native.Nat.{ℕ}
use lib.ListN.{set}
use Rattle.standing.specs.Closed.{loses_of}
use Rattle.standing.proofs.Standings.{cleared-none, cleared-set, cleared-kept}
use Rattle.standing.proofs.closed.Closed.unmark.Goals as goal
use Rattle.standing.proofs.closed.Closed.unmark.Goals.{then-loses, else-loses}

pub loop-j-init : goal.loop-j-init
loop-j-init c = cleared-none _ _

pub loop-j-preserved : goal.loop-j-preserved
loop-j-preserved c =
    let s = c.args.self.now in
    let j = c.loop-j.j in
    let p = loses_of s.width s.words.now c.args.i in
    let i = c.loop-j.invariant in
    let e = sym c.loses.ensures in
    elim c.if-loses.branch [
      | then-loses w ↦ w.marks-is ∙ ap (λ (l : List ℕ). set l j 0) i ∙ cleared-set c.args.marks.now j p (e ∙ w.if-loses.true)
      | else-loses w ↦ w.marks-is ∙ i ∙ cleared-kept c.args.marks.now j p (e ∙ w.if-loses.false)
    ]
