-- `opening::types::open_at` meets its contract. Assumes nothing.
use Rattle.std.proofs.Common.{rules}
use Rattle.std.specs.Prelude.{Err}
use mathlib.Core.Path.{◌≡◌, ◌∙◌}
use Rattle.opening.proofs.Heads.{byte_at, open_shut, open_some}
use Rattle.opening.proofs.types.open_at.Goals as goal

pub head_at-requires : goal.head_at-requires
head_at-requires c = byte_at _ _ _ _ _ _ c.code_at.ensures _ c.in_ok-byte.was

pub returns-in_err-byte : goal.returns-in_err-byte
returns-in_err-byte c =
    let e : c.from_residual.result ≡ Err c.in_err-byte.field-0.0 = search rules in
    e ∙ open_shut _ _ _ _ _ _ c.code_at.ensures _ _ c.in_err-byte.was

pub returns : goal.returns
returns c =
    open_some _ _ _ _ _ _ c.code_at.ensures _ c.in_ok-byte.was _ c.type_form_of-form.ensures _ _ c.head_at.ensures
