-- `register::Register::acknowledge_at` meets its contract. Assumes nothing.
use borrow.Author.Tests.{eq-eqb, ne_eqb}
use mathlib.Core.Path.{sym}
use Rattle.std.proofs.lemmas.Result.{err_from_is_err_and}
use Rattle.answer.proofs.Numbers.{not_done}
use Rattle.register.specs.Calls.{acknowledge_at}
use Rattle.register.proofs.Register.acknowledge_at.Goals as goal

pub returns-in_err-check_acknowledgement : goal.returns-in_err-check_acknowledgement
unfolding acknowledge_at
returns-in_err-check_acknowledgement c =
    let e = c.in_err-check_acknowledgement in
    let p = err_from_is_err_and c.from_residual.result c.from_residual.ensures.1 in
    rw (p.1, p.2) (simp (← c.standing_at-standing.ensures, ← c.into.ensures, ← e.ensures, ne_eqb _ _ (not_done e.field-0.0)))

pub returns : goal.returns
unfolding acknowledge_at
returns c = simp (← c.standing_at-standing.ensures, ← c.into.ensures, eq-eqb _ _ (sym c.in_ok-check_acknowledgement.ensures))
