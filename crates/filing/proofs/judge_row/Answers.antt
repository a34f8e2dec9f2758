-- `filing::judge_row` meets its contract. Assumes nothing.
use mathlib.Core.Path.{refl}
use native.Mathlib.Omega.{arith}
use Rattle.answer.proofs.Numbers.{not_done}
use Rattle.filing.proofs.Judging.{row_refused, row_accepted, row_nodes, row_small}
use Rattle.filing.proofs.judge_row.Goals as goal

pub collect-requires : goal.collect-requires
collect-requires c = let h = row_nodes _ _ _ _ c.in-Ok.ensures refl in (omega arith, omega arith)

pub overflow_cast-result-in-Err : goal.overflow_cast-result-in-Err
overflow_cast-result-in-Err c = let h = row_small _ _ _ _ c.in-Err.ensures (not_done _) in omega arith

pub returns-in-Ok : goal.returns-in-Ok
returns-in-Ok c = row_accepted _ _ _ _ c.in-Ok.ensures _ _ _ c.clear_words.ensures refl _ c.collect.ensures

pub returns-in-Err : goal.returns-in-Err
returns-in-Err c = rw c.from.ensures (row_refused _ _ _ _ c.in-Err.ensures _ _ _ c.clear_words.ensures (not_done _))
