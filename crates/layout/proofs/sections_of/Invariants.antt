-- `layout::sections_of` meets its contract: two loops left by a label. Assumes nothing.
use Rattle.std.proofs.Common.{◌≡◌, ◌+◌, ◌-◌}
use lib.ListN.{drop}
use Rattle.layout.specs.Layout.{item_at, items, sections, sections_of}
use Rattle.layout.proofs.sections_of.Given as goal

abbrev pub invariant-loop : goal.invariant-loop
invariant-loop l = items (item_at l.section l.s) (l.end - l.counter) l.at (λ e. sections (drop (l.section-index + 1) l.section-items) l.s e l.layout) ≡ sections_of l.s

abbrev pub invariant-loop-section : goal.invariant-loop-section
invariant-loop-section l = sections (drop l.section-index l.section-items) l.s l.at l.layout ≡ sections_of l.s
