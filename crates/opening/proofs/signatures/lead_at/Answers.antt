-- `opening::signatures::lead_at` meets its contract. Assumes nothing.
use Rattle.std.proofs.Common.{rules}
use Rattle.std.specs.Prelude.{Err}
use mathlib.Core.Path.{◌≡◌, ◌∙◌}
use Rattle.opening.proofs.Heads.{byte_at, lead-shut, lead-some}
use Rattle.opening.proofs.signatures.lead_at.Goals as goal

pub lead_form-requires : goal.lead_form-requires
lead_form-requires c = byte_at _ _ _ _ _ _ c.code_at.ensures _ c.in_ok-byte.was

pub returns-in_err-byte : goal.returns-in_err-byte
returns-in_err-byte c =
    let e : c.from_residual.result ≡ Err c.in_err-byte.field-0.0 = search rules in
    e ∙ lead-shut _ _ _ _ _ _ c.code_at.ensures _ c.in_err-byte.was

pub returns : goal.returns
returns c =
    lead-some _ _ _ _ _ _ c.code_at.ensures _ c.in_ok-byte.was _ c.signature_form_of-form.ensures _ _ c.kind_of-kind.ensures c.lead_form.ensures
