-- The recursion that prints a numeral. The digits left fall.
-- Assumes nothing.
use Rattle.text.proofs.+numeral_to.Given as goal

abbrev pub decreases-numeral_to : goal.decreases-numeral_to
decreases-numeral_to l = l.k
