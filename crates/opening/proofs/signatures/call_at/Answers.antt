-- `opening::signatures::call_at` meets its contract. Assumes nothing.
use Rattle.std.proofs.Common.{rules}
use native.Mathlib.Omega.{arith}
use Rattle.opening.specs.Lead.{call_at}
use Rattle.number.proofs.Checks.{checked-small}
use Rattle.opening.proofs.Codes.{placed_ok}
use Rattle.opening.proofs.signatures.call_at.Goals as goal

pub returns-in_err-count : goal.returns-in_err-count
unfolding call_at
returns-in_err-count c = search rules

pub overflow_add-types : goal.overflow_add-types
overflow_add-types c =
    let v = c.in_ok-count.count.value in
    let h = checked-small _ _ _ _ _ (λ i. (c.type_inv.src i).fits) c.checked_at.ensures (placed_ok c.checked_at.result _ c.placed.ensures c.in_ok-count.was) in
    omega arith

pub returns : goal.returns
unfolding call_at
returns c = search rules
