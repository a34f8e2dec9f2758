-- `walk::signature_at` meets its contract. Assumes nothing.
use Rattle.std.proofs.Common.{rules, ◌≡◌}
use Rattle.std.specs.Prelude.{Err}
use Rattle.opening.specs.End.{ended}
use Rattle.walk.proofs.Steps.{signature-bounds, signature-stop, signature-led}
use Rattle.walk.proofs.signature_at.Goals as goal

pub returns-in_err-lead : goal.returns-in_err-lead
unfolding ended
returns-in_err-lead c =
    let e : c.from_residual.result ≡ Err c.in_err-lead.field-0.0 = search rules in
    rw e (signature-stop _ _ _ _ _ _ c.requires _ c.lead_at.ensures _ _ c.in_err-lead.was)

pub signature_types_at-requires-clause-read : goal.signature_types_at-requires-clause-read
signature_types_at-requires-clause-read c =
    let b = signature-bounds _ _ _ _ _ c.requires _ c.lead_at.ensures _ c.in_ok-lead.was in (b.1, b.2)

pub signature_types_at-requires-clause-places : goal.signature_types_at-requires-clause-places
signature_types_at-requires-clause-places c =
    let b = signature-bounds _ _ _ _ _ c.requires _ c.lead_at.ensures _ c.in_ok-lead.was in (b.3, b.4)

pub returns : goal.returns
returns c = signature-led _ _ _ _ _ _ c.requires _ c.lead_at.ensures _ c.in_ok-lead.was _ _ _ c.signature_types_at.ensures
