-- `element::types::type_form_of` meets its contract. Assumes nothing.
use Prim.Native.Nat.{◌≤◌, ◌<◌}
use native.Mathlib.Omega.{arith}
use mathlib.Core.Path.{◌≡◌, refl, ◌∙◌}
use mathlib.Core.Logic.{⊎_elim}
use Rattle.element.specs.Element.{form_of, entries, bare, leads, places}
use Rattle.element.specs.declared.Place.TheVariants as Place
use Rattle.element.specs.declared.Form.TheVariants.{Refused, Leaf, Variable, Wrap, Array, Instance}
use Rattle.element.proofs.Runs.{lt_or_le}
use Rattle.element.proofs.Places.{type_same, type_run, type_byte, type_some}
use Rattle.element.proofs.types.type_form_of.Goals as goal

pub returns-in-19 : goal.returns-in-19
unfolding form_of entries bare leads places
returns-in-19 c =
    ⊎_elim (λ e. type_byte c.args.place c.requires 0x13 Variable refl e) (λ e. type_byte c.args.place c.requires 0x1E Variable refl e) c.in-19.is

pub returns-in-15 : goal.returns-in-15
unfolding form_of entries bare leads places
returns-in-15 c =
    type_byte c.args.place c.requires 0x0F (Wrap Place.Pointee) refl c.in-15.is

pub returns-in-29 : goal.returns-in-29
unfolding form_of entries bare leads places
returns-in-29 c = type_byte c.args.place c.requires 0x1D (Wrap Place.Type) refl c.in-29.is

pub returns-in-20 : goal.returns-in-20
unfolding form_of entries bare leads places
returns-in-20 c = type_byte c.args.place c.requires 0x14 Array refl c.in-20.is

pub returns-in-21 : goal.returns-in-21
unfolding form_of entries bare leads places
returns-in-21 c = type_byte c.args.place c.requires 0x15 Instance refl c.in-21.is

pub returns-in-27 : goal.returns-in-27
unfolding form_of entries bare leads places
returns-in-27 c =
    type_byte c.args.place c.requires 0x1B (Wrap Place.FnPtrMethod) refl c.in-27.is

pub returns-in-1 : goal.returns-in-1
unfolding form_of entries bare leads places
returns-in-1 c =
    ⊎_elim (λ e. c.where_allowed.ensures ∙ type_some c.args.place c.requires 0x01 Leaf refl e) (λ e. c.where_allowed.ensures ∙ type_some c.args.place c.requires 0x16 Leaf refl e) c.in-1.is

pub returns-in-16 : goal.returns-in-16
unfolding form_of entries bare leads places
returns-in-16 c =
    c.where_allowed-in-16.ensures ∙ type_some c.args.place c.requires 0x10 (Wrap Place.Type) refl c.in-16.is

pub returns-in-69 : goal.returns-in-69
unfolding form_of entries bare leads places
returns-in-69 c =
    c.where_allowed-in-69.ensures ∙ type_some c.args.place c.requires 0x45 (Wrap Place.Pinned) refl c.in-69.is

pub returns-in-17 : goal.returns-in-17
unfolding form_of entries bare leads places
returns-in-17 c =
    let l : 0x11 ≤ c.args.b = omega arith in
    let u : c.args.b < 0x13 = omega arith in
    c.named_form.ensures ∙ type_same c.args.place c.requires 0x11 0x13 refl l u

pub returns-in-31 : goal.returns-in-31
unfolding form_of entries bare leads places
returns-in-31 c =
    let l : 0x1F ≤ c.args.b = grind arith in
    let u : c.args.b < 0x21 = omega arith in
    c.behind.ensures ∙ type_same c.args.place c.requires 0x1F 0x21 refl l u

pub returns-in_default : goal.returns-in_default
unfolding form_of entries bare leads places
returns-in_default c =
    let l : 0x00 ≤ c.args.b = omega arith in
    let u : c.args.b < 0x01 = omega arith in
    type_run c.args.place c.requires 0x00 0x01 Refused refl refl l u

pub returns-in_default-2 : goal.returns-in_default-2
unfolding form_of entries bare leads places
returns-in_default-2 c =
    let l : 0x17 ≤ c.args.b = grind arith in
    let u : c.args.b < 0x18 = omega arith in
    type_run c.args.place c.requires 0x17 0x18 Refused refl refl l u

pub returns-in_default-3 : goal.returns-in_default-3
unfolding form_of entries bare leads places
returns-in_default-3 c =
    let l : 0x1A ≤ c.args.b = omega arith in
    let u : c.args.b < 0x1B = omega arith in
    type_run c.args.place c.requires 0x1A 0x1B Refused refl refl l u

pub returns-in_default-4 : goal.returns-in_default-4
unfolding form_of entries bare leads places
returns-in_default-4 c =
    ⊎_elim (λ h. let l : 0x21 ≤ c.args.b = omega arith in type_run c.args.place c.requires 0x21 0x45 Refused refl refl l h)
    (λ h. let l : 0x46 ≤ c.args.b = omega arith in type_run c.args.place c.requires 0x46 256 Refused refl refl l c.ranges.b.fits)
    (lt_or_le c.args.b 0x45)

pub returns-in-2-to-14 : goal.returns-in-2-to-14
unfolding form_of entries bare leads places
returns-in-2-to-14 c =
    let e : c.args.b ≡ 0x1C = omega arith in
    type_byte c.args.place c.requires 0x1C Leaf refl e

pub returns-in-2-to-14-2 : goal.returns-in-2-to-14-2
unfolding form_of entries bare leads places
returns-in-2-to-14-2 c =
    let l : 0x02 ≤ c.args.b = grind arith in
    let u : c.args.b < 0x0F = omega arith in
    type_run c.args.place c.requires 0x02 0x0F Leaf refl refl l u

pub returns-in-2-to-14-3 : goal.returns-in-2-to-14-3
unfolding form_of entries bare leads places
returns-in-2-to-14-3 c =
    let l : 0x18 ≤ c.args.b = omega arith in
    let u : c.args.b < 0x1A = omega arith in
    type_run c.args.place c.requires 0x18 0x1A Leaf refl refl l u
