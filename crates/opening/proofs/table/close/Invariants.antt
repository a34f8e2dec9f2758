-- `opening::table::close` meets its contract. Assumes nothing.
use Rattle.std.proofs.Common.{◌≡◌, ◌-◌}
use Rattle.opening.specs.Table.{close_of}
use Rattle.opening.proofs.table.close.Given as goal

-- what is left to correct gives the same table
abbrev pub invariant-loop-i : goal.invariant-loop-i
invariant-loop-i l = close_of l.out l.i (l.i - l.i-start) l.last ≡ close_of l.initial.out l.n l.k l.last
