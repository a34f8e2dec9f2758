-- `number::number_at` meets its contract. Assumes nothing.
use Rattle.number.specs.declared.NumberError.{NumberError}
use Rattle.number.specs.Number.{found}
use Prim.Native.Nat.{ℕ, ◌+◌, ◌-◌, ◌≤◌}
use mathlib.Core.Path.{sym, ap, ◌∙◌}
use native.Mathlib.Omega.{arith}
use lib.Count.{count_leading_zeros}
use lib.ListN.{get_or}
use Rattle.number.proofs.Cases.{at_end, one_byte, two_byte, four_byte, bad-byte}
use Rattle.number.proofs.Ones.{ones_0, ones_1, ones_2, ones_more}
use Rattle.number.proofs.number_at.Goals as goal

pub returns-then-s-at : goal.returns-then-s-at
returns-then-s-at c = sym (at_end _ _ c.if-s-at.true)

-- the byte's bound, what the count says of it, and the case that it leads to
pub returns-in-0 : goal.returns-in-0
returns-in-0 c =
    let a = c.args in
    let small = (c.type_inv.s a.at).fits in
    ap (λ (v : ℕ). found {E = NumberError} v (a.at + 1)) c.byte.ensures.0
    ∙ sym (one_byte a.s.now a.at (omega arith) (ones_0 _ small c.in-0.is))

pub returns-in-1 : goal.returns-in-1
returns-in-1 c =
    let a = c.args in
    let small = (c.type_inv.s a.at).fits in
    let b = ones_1 _ small c.in-1.is in
    c.two_bytes.ensures ∙ sym (two_byte a.s.now a.at (omega arith) b.0 b.1)

pub returns-in-2 : goal.returns-in-2
returns-in-2 c =
    let a = c.args in
    let small = (c.type_inv.s a.at).fits in
    let b = ones_2 _ small c.in-2.is in
    c.four_bytes.ensures ∙ sym (four_byte a.s.now a.at (omega arith) b.0 b.1)

pub returns-in_default : goal.returns-in_default
returns-in_default c =
    let a = c.args in
    let small = (c.type_inv.s a.at).fits in
    let many : 3 ≤ count_leading_zeros 8 (255 - get_or a.s.now a.at 0) = omega arith in
    sym (bad-byte a.s.now a.at (omega arith) (ones_more _ small many))
