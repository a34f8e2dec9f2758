use Rattle.std.proofs.Common.{sym, ◌∙◌, arith}
use Rattle.std.proofs.lemmas.List.{set_past}
use Rattle.text.specs.Printing.{further, laid}
use Rattle.text.proofs.Laying.{saturates}
use Rattle.text.proofs.byte_to.Goals as goal
use Rattle.text.proofs.byte_to.Goals.{then-to-out, else-to-out}

pub returns : goal.returns
unfolding further laid
returns c =
    let next = c.saturating_add.ensures ∙ saturates c.args.to (omega (arith, c.ranges.to.fits)) in
    elim c.if-to-out.branch [
      | then-to-out w ↦ (next, w.out-is)
      | else-to-out w ↦ (next, w.out-is ∙ sym (set_past _ _ _ w.if-to-out.false))
    ]
