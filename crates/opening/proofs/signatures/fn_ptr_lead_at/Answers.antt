-- `opening::signatures::fn_ptr_lead_at` meets its contract. Assumes nothing.
use Rattle.std.proofs.Common.{rules}
use Rattle.std.specs.Prelude.{Err}
use mathlib.Core.Path.{◌≡◌, ◌∙◌}
use Rattle.opening.proofs.Heads.{byte_at, lead-shut, fn_ptr_lead_some, fn_ptr_lead_none}
use Rattle.opening.proofs.signatures.fn_ptr_lead_at.Goals as goal

pub overflow_add-at : goal.overflow_add-at
overflow_add-at c = let h = byte_at _ _ _ _ _ _ c.code_at.ensures _ c.in_ok-byte.was in search rules

pub returns-in_err-byte : goal.returns-in_err-byte
returns-in_err-byte c =
    let e : c.from_residual.result ≡ Err c.in_err-byte.field-0.0 = search rules in
    e ∙ lead-shut _ _ _ _ _ _ c.code_at.ensures _ c.in_err-byte.was

pub returns-in-Callable : goal.returns-in-Callable
returns-in-Callable c =
    fn_ptr_lead_some _ _ _ _ _ c.code_at.ensures _ c.in_ok-byte.was _ c.fn_ptr_method_form.ensures _ c.in-Callable.is _ c.call_at.ensures

pub returns-in_default : goal.returns-in_default
returns-in_default c =
    rw c.at.ensures (fn_ptr_lead_none _ _ _ _ _ c.code_at.ensures _ c.in_ok-byte.was _ c.fn_ptr_method_form.ensures c.in_default.not-Callable)
