-- `number::token::row_of` meets its contract. Assumes nothing.
use mathlib.Core.Path.{refl}
use Rattle.number.proofs.token.row_of.Goals as goal

pub returns : goal.returns
returns c = refl
