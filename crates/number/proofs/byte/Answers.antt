-- `number::byte` meets its contract: an element of a slice of bytes is below 256. Assumes nothing.
use native.Mathlib.Omega.{arith}
use Rattle.number.proofs.byte.Goals as goal

pub returns : goal.returns
returns c = omega (arith, c.type_inv.s c.args.at)
