-- `reach::relax_row` meets its contract. Assumes nothing.
use native.Mathlib.Omega.{arith}
use Rattle.bits.proofs.BitLaws.{row_in, rows_apart}
use Rattle.reach.proofs.Closures.{relaxed_or}
use Rattle.reach.proofs.relax_row.Goals as goal

pub or_words-requires : goal.or_words-requires
or_words-requires c =
    let a = c.args in
    let p = c.requires in
    (omega (arith, row_in a.n a.w a.i p.3), omega (arith, row_in a.n a.w a.k p.2), rows_apart a.w a.k a.i (omega arith))

pub returns-then-bit_at : goal.returns-then-bit_at
returns-then-bit_at c =
    let a = c.args in
    relaxed_or a.w a.k a.i a.m.now _ (cc) c.or_words.ensures
