-- `filing::named::collect` meets its contract. Assumes nothing.
use Prim.Native.Nat.{ℕ}
use native.Mathlib.Omega.{arith}
use mathlib.Core.Path.{ap₂, ◌∙◌}
use mathlib.Core.List.{List}
use Rattle.answer.specs.Size.{words}
use Rattle.bits.specs.Bits.{put_bit}
use Rattle.filing.specs.Named.{row_named}
use Rattle.filing.proofs.Collects.{collected_none, collected_put, collected_kept, row_le, index-some, index_none}
use Rattle.filing.proofs.named.collect.Goals as goal
use Rattle.filing.proofs.named.collect.Goals.{in-Some, in_default}

pub loop-k-init : goal.loop-k-init
loop-k-init c = collected_none _ _ _

pub put_bit-requires : goal.put_bit-requires
put_bit-requires c =
    let a = c.args in
    let k = c.loop-k.k in
    let e = index-some (row_named a.t.now k) c.in-Some.j c.in-Some.ensures in
    omega (arith, row_le a.t.now k)

pub loop-k-preserved : goal.loop-k-preserved
loop-k-preserved c =
    let a = c.args in
    let l = c.loop-k in
    elim c.match-row_named.branch [
      | in-Some w ↦
          let e = index-some (row_named a.t.now l.k) w.in-Some.j w.in-Some.ensures in
          w.m-is ∙ w.put_bit.ensures ∙ ap₂ (λ (m : List ℕ) (s : ℕ). put_bit words m a.i s) l.invariant (omega arith)
          ∙ collected_put a.t.now a.i a.m.now l.k (omega arith)
      | in_default w ↦ w.m-is ∙ l.invariant ∙ collected_kept a.t.now a.i a.m.now l.k (index_none _ w.in_default.ensures)
    ]
