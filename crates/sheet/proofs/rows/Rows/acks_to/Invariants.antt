-- `sheet::rows::Rows::acks_to` meets its contract. Assumes nothing.
use Rattle.std.proofs.Common.{◌≡◌, ℕ, ◌-◌, List}
use Rattle.layout.specs.Layout.{acks_from}
use Rattle.sheet.specs.Acks.{acks_by, acked_marks}
use Rattle.text.specs.Printing.{Prints}
use Rattle.sheet.proofs.rows.Rows.acks_to.Given as goal

-- whatever prints the rest from here prints the whole, and the marks after the rest are those after the whole
abbrev pub invariant-loop : goal.invariant-loop
invariant-loop l =
    let standings = l.self.standings in
    let rows = l.self.register.counts.specs in
    let rest = acks_from (l.end - l.counter) l.s l.at in
    let all = acks_from l.fn.layout.acknowledged l.s l.fn.layout.starts.acks in
    ((q : ℕ) (new : List ℕ) → Prints (acks_by standings rows l.marks rest) l.here q l.out new → Prints (acks_by standings rows l.initial.marks all) l.to q l.initial.out new)
    × (acked_marks standings rows l.marks rest ≡ acked_marks standings rows l.initial.marks all)
