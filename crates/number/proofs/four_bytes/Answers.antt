-- `number::four_bytes` meets its contract. Assumes nothing.
use Prim.Native.Nat.{◌<◌}
use mathlib.Core.Path.{sym}
use native.Mathlib.Omega.{arith}
use Rattle.number.specs.Number.{value4}
use Rattle.number.proofs.Cases.{cut, too_long, fit}
use Rattle.number.proofs.four_bytes.Goals as goal

pub returns-then-s-at-lt4 : goal.returns-then-s-at-lt4
returns-then-s-at-lt4 c = sym (cut _ _ 4 0x4000 _ (omega arith))

pub returns-then-value-lt16384 : goal.returns-then-value-lt16384
unfolding value4
returns-then-value-lt16384 c =
    let a = c.args in
    let l : value4 a.s.now a.at < 0x4000 = omega arith in
    sym (too_long a.s.now a.at 4 0x4000 _ (omega arith) l)

pub returns : goal.returns
unfolding value4
returns c =
    let a = c.args in
    simp (
      c.byte.ensures.0,
      c.byte-2.ensures.0,
      c.byte-3.ensures.0,
      c.byte-4.ensures.0,
    )
    (sym (fit a.s.now a.at 4 0x4000 (value4 a.s.now a.at) (omega arith) (omega arith)))
