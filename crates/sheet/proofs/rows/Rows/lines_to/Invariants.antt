-- `sheet::rows::Rows::lines_to` meets its contract. Assumes nothing.
use Rattle.std.proofs.Common.{ℕ, ◌-◌, List}
use Rattle.sheet.specs.Rows.{rows_by}
use Rattle.text.specs.Printing.{Prints}
use Rattle.sheet.proofs.rows.Rows.lines_to.Given as goal

-- whatever prints the rest from here prints the whole
abbrev pub invariant-loop-i : goal.invariant-loop-i
invariant-loop-i l =
    (q : ℕ) (new : List ℕ) → Prints (rows_by l.self.register l.self.standings l.marks (l.self.register.counts.specs - l.i) l.i) l.here q l.out new
    → Prints (rows_by l.self.register l.self.standings l.marks l.self.register.counts.specs 0) l.to q l.initial.out new
