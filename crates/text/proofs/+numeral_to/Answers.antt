-- The recursion that prints a numeral: its ways out.
-- Assumes nothing.
use Rattle.text.proofs.Numerals.{numeral-none, numeral-digit, numeral-more}
use Rattle.text.proofs.+numeral_to.Goals as goal

pub returns-then-k-eq0 : goal.returns-then-k-eq0
returns-then-k-eq0 t c = numeral-none _ _ _ _ c.if-k-eq0.true

pub returns-then-n-lt10 : goal.returns-then-n-lt10
returns-then-n-lt10 t c = numeral-digit _ _ _ _ c.if-k-eq0.false c.if-n-lt10.true c.byte_to.ensures

pub returns : goal.returns
returns t c =
    numeral-more _ _ _ _ _ _ _ _ c.if-k-eq0.false c.if-n-lt10.false c.numeral_to-here.ensures c.byte_to-2.ensures
