-- `register::Register::open` meets its contract. Assumes nothing.
use borrow.Author.Tests.{eq-eqb, ne_eqb}
use mathlib.Core.Path.{sym, ap, ap₂, ◌∙◌}
use native.Mathlib.Omega.{arith}
use Rattle.answer.proofs.Numbers.{not_done}
use Rattle.answer.specs.Refusal.{number_of}
use Rattle.register.specs.Calls.{open_of, changed, left, blank_register}
use Rattle.register.specs.declared.Register.{Register}
use Rattle.register.proofs.Openings.{open_ok}
use Rattle.register.proofs.Register.open.Goals as goal

pub clear_words-requires : goal.clear_words-requires
clear_words-requires c = let h = open_ok _ _ (sym c.in-Ok.ensures) in omega arith

pub returns-in-Ok : goal.returns-in-Ok
unfolding open_of
returns-in-Ok c = simp (eq-eqb _ _ (sym c.in-Ok.ensures)) (ap₂ (λ x l. left (changed 0 x) l) c.blank.ensures c.clear_words.ensures)

pub returns-in-Err : goal.returns-in-Err
unfolding open_of
returns-in-Err c =
    simp (← c.in-Err.ensures, ne_eqb _ _ (not_done c.in-Err.refusal))
    (ap (λ (x : Register). left (changed (number_of c.in-Err.refusal) x) c.args.sets.now) (c.blank-in-Err.ensures ∙ ap blank_register c.no_counts.ensures))
