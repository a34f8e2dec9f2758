-- `number::token::rows_of` meets its contract: at a key `rows_of` computes, and elsewhere all its tests fail. Assumes nothing.
use borrow.Author.Tests.{ne_eqb}
use Rattle.number.specs.Token.{rows_of}
use Rattle.number.proofs.token.rows_of.Goals as goal

pub returns-in-0 : goal.returns-in-0
unfolding rows_of
returns-in-0 c = rw c.in-0.is

pub returns-in-1 : goal.returns-in-1
unfolding rows_of
returns-in-1 c = rw c.in-1.is

pub returns-in-2 : goal.returns-in-2
unfolding rows_of
returns-in-2 c = rw c.in-2.is

pub returns-in_default : goal.returns-in_default
unfolding rows_of
returns-in_default c =
    simp (ne_eqb _ _ c.in_default.in_default-own.rest.1, ne_eqb _ _ c.in_default.in_default-own.rest.0.1, ne_eqb _ _ c.in_default.in_default-own.rest.0.0.1)
