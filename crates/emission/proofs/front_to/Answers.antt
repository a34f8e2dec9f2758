-- `emission::front_to` meets its contract. Assumes nothing.
use mathlib.Core.Logic.{⊎_elim}
use mathlib.Core.Path.{refl}
use native.Mathlib.Omega.{arith}
use Rattle.grammar.specs.Table.{METHOD, FIELD, LOCALS, PROPERTY, SIZE, LOW}
use Rattle.grammar.specs.Emit.{layout_of, parts_of}
use Rattle.emission.proofs.Laws.{spelt_as, spelt_cut, spelt_more}
use Rattle.emission.proofs.Steps.{front_instance, front_field, front_locals, front_three, front_plain, spelt_front}
use Rattle.emission.proofs.front_to.Goals as goal
use Rattle.emission.proofs.front_to.Goals.{then-kind-lt20, else-kind-lt20+else-kind-lt30+then-kind-lt33, in_default-via-then-kind-lt17, in_default-via-else-kind-lt17+else-kind-lt20+then-kind-lt30, in_default-via-else-kind-lt17+else-kind-lt20+else-kind-lt30+else-kind-lt33}

pub returns-in_err-e-in-21 : goal.returns-in_err-e-in-21
unfolding parts_of layout_of
returns-in_err-e-in-21 c =
    let a = c.args in
    spelt_as c.from_residual.ensures (spelt_front _ _ _ 0x15 c.in-21.is (front_instance a.table.now a.n a.rec) (spelt_cut _ c.in_err-e-in-21.ensures))

pub returns-in_ok-e-in-21 : goal.returns-in_ok-e-in-21
unfolding parts_of layout_of
returns-in_ok-e-in-21 c =
    let a = c.args in spelt_front _ _ _ 0x15 c.in-21.is (front_instance a.table.now a.n a.rec) (spelt_more c.in_ok-e-in-21.ensures c.pair_to-in-21.ensures)

pub returns-in-256 : goal.returns-in-256
unfolding parts_of layout_of
returns-in-256 c =
    ⊎_elim (λ e. spelt_front _ _ _ METHOD e refl c.call_to.ensures) (λ e. spelt_front _ _ _ PROPERTY e refl c.call_to.ensures) c.in-256.is

pub returns-in-257 : goal.returns-in-257
unfolding parts_of layout_of
returns-in-257 c =
    spelt_front _ _ _ FIELD c.in-257.is (front_field c.args.table.now c.args.n c.args.rec) c.number_to.ensures

pub returns-in-258 : goal.returns-in-258
unfolding parts_of layout_of
returns-in-258 c =
    spelt_front _ _ _ LOCALS c.in-258.is (front_locals c.args.table.now c.args.n c.args.rec) c.pair_to-in-258.ensures

pub returns-in-260 : goal.returns-in-260
unfolding parts_of layout_of
returns-in-260 c =
    spelt_front _ _ _ SIZE c.in-260.is refl c.number_to-in-260.ensures

pub returns-in-261 : goal.returns-in-261
unfolding parts_of layout_of
returns-in-261 c =
    spelt_front _ _ _ LOW c.in-261.is refl c.number_to-in-261.ensures

pub returns-in-17 : goal.returns-in-17
unfolding parts_of layout_of
returns-in-17 c =
    let a = c.args in
    let r = a.rec in
    spelt_front _ _ r r.kind refl
    (elim c.in-17-1.branch [
      | then-kind-lt20 w ↦ front_three a.table.now a.n r _ 0x11 refl refl refl (omega arith) (omega arith)
      | else-kind-lt20+else-kind-lt30+then-kind-lt33 w ↦ front_three a.table.now a.n r _ 0x1E refl refl refl (omega arith) (omega arith)
    ])
    c.pair_to-in-17.ensures

pub returns-in_default : goal.returns-in_default
unfolding parts_of layout_of
returns-in_default c =
    let a = c.args in
    let r = a.rec in
    spelt_front _ _ r r.kind refl
    (front_plain a.table.now a.n r (λ e. omega arith) (λ e. omega arith) (λ e. omega arith) (λ e. omega arith) (λ e. omega arith) (λ e. omega arith)
    (elim c.in_default.branch [
      | in_default-via-then-kind-lt17 w ↦ omega arith
      | in_default-via-else-kind-lt17+else-kind-lt20+then-kind-lt30 w ↦ omega arith
      | in_default-via-else-kind-lt17+else-kind-lt20+else-kind-lt30+else-kind-lt33 w ↦ omega arith
    ]))
    c.number_to-in_default.ensures
