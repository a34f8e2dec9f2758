-- `number::two_bytes` meets its contract. Assumes nothing.
use Prim.Native.Nat.{◌<◌}
use mathlib.Core.Path.{sym}
use native.Mathlib.Omega.{arith}
use Rattle.number.specs.Number.{value2}
use Rattle.number.proofs.Cases.{cut, too_long, fit}
use Rattle.number.proofs.two_bytes.Goals as goal

pub returns-then-s-at-lt2 : goal.returns-then-s-at-lt2
returns-then-s-at-lt2 c = sym (cut _ _ 2 0x80 _ (omega arith))

pub returns-then-value-lt128 : goal.returns-then-value-lt128
unfolding value2
returns-then-value-lt128 c =
    let a = c.args in
    let l : value2 a.s.now a.at < 0x80 = omega arith in
    sym (too_long a.s.now a.at 2 0x80 _ (omega arith) l)

pub returns : goal.returns
unfolding value2
returns c =
    let a = c.args in
    simp (c.byte.ensures.0, c.byte-2.ensures.0)
    (sym (fit a.s.now a.at 2 0x80 (value2 a.s.now a.at) (omega arith) (omega arith)))
