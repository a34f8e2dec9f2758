-- `register::Register::index_of` meets its contract. Assumes nothing.
use mathlib.Core.Path.{refl, sym}
use native.Mathlib.Omega.{arith}
use Rattle.answer.proofs.Admits.{admit_ok}
use Rattle.register.proofs.Register.index_of.Goals as goal

pub overflow_sub-result : goal.overflow_sub-result
overflow_sub-result c = let h = admit_ok _ _ _ (sym c.in_ok-check_call.ensures) in omega arith

pub returns-clause-index : goal.returns-clause-index
returns-clause-index c = let h = admit_ok _ _ _ (sym c.in_ok-check_call.ensures) in (refl, (omega arith, omega arith, omega arith))
