-- `layout::sections_of` meets its contract: two loops left by a label. Assumes nothing.
use Rattle.std.proofs.Common.{◌≡◌, ◌+◌, ◌-◌}
use mathlib.Core.Path.{sym, ◌∙◌}
use native.Mathlib.Omega.{arith}
use lib.ListN.{drop}
use Rattle.layout.specs.Layout.{all_sections, sections}
use Rattle.layout.proofs.Walks.{all_read, left_over, count-bad, count-good, item_bad, item_good, items-read}
use Rattle.layout.proofs.sections_of.Goals as goal

pub loop-init : goal.loop-init
loop-init c =
    count-good _ all_sections c.loop-section.section-index _ _ c.loop-section.invariant (omega arith) _ (sym c.section_count.ensures ∙ c.in-Ok.is) c.note-layout.ensures (omega arith)

pub loop-preserved : goal.loop-preserved
loop-preserved c =
    let g = item_good _ _ _ (c.in-Ok.count.value - c.loop.counter) (omega arith) c.loop.invariant (sym c.item_at.ensures ∙ c.in-Ok-item_at.is) in
    let z : c.in-Ok.count.value - c.loop.counter - 1 ≡ c.in-Ok.count.value - (c.loop.counter + 1) = omega arith in
    rw z at g

pub loop-section-preserved : goal.loop-section-preserved
loop-section-preserved c = items-read _ _ (λ e. sections (drop (c.loop-section.section-index + 1) all_sections) c.args.s.now e c.note-layout.result) (c.in-Ok.count.value - c.loop.counter) (omega arith) c.loop.invariant

pub returns : goal.returns
returns c = all_read _ all_sections _ _ _ c.loop-section.invariant c.loop-section-test.false c.if-at-s.false

pub returns-in-Err-item_at : goal.returns-in-Err-item_at
returns-in-Err-item_at c =
    item_bad _ _ _ (c.in-Ok.count.value - c.loop.counter) (omega arith) c.loop.invariant (sym c.item_at.ensures ∙ c.in-Err-item_at.is)

pub returns-in-Err : goal.returns-in-Err
returns-in-Err c =
    count-bad _ all_sections c.loop-section.section-index _ _ c.loop-section.invariant (omega arith) _ (sym c.section_count.ensures ∙ c.in-Err.is)

pub returns-then-at-s : goal.returns-then-at-s
returns-then-at-s c = left_over _ all_sections _ _ _ c.loop-section.invariant c.loop-section-test.false c.if-at-s.true
