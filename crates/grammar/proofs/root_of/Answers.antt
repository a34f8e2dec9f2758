-- `grammar::root_of` meets its contract: at a key the list computes, and no other kind is in it. Assumes nothing.
use Prim.Native.Nat.{◌≤◌}
use mathlib.Core.Path.{sym}
use native.Mathlib.Omega.{arith}
use lib.ListN.{get_or-eq_default}
use Rattle.element.specs.declared.Place.TheVariants as Place
use Rattle.grammar.specs.Kinds.{roots, root_of}
use Rattle.grammar.proofs.root_of.Goals as goal

pub returns-in-0 : goal.returns-in-0
unfolding root_of
returns-in-0 c = rw c.in-0.is

pub returns-in-1 : goal.returns-in-1
unfolding root_of
returns-in-1 c = rw c.in-1.is

pub returns-in-2 : goal.returns-in-2
unfolding root_of
returns-in-2 c = rw c.in-2.is

pub returns-in-3 : goal.returns-in-3
unfolding root_of
returns-in-3 c = rw c.in-3.is

pub returns-in-4 : goal.returns-in-4
unfolding root_of
returns-in-4 c = rw c.in-4.is

pub returns-in_default : goal.returns-in_default
unfolding root_of
returns-in_default c =
    let h : 5 ≤ c.args.kind = omega (arith, c.in_default.in_default-own.rest) in sym (get_or-eq_default roots Place.Type h)
