-- `register::Register::unmark` meets its contract. Assumes nothing.
use mathlib.Core.Path.{◌≡◌, ap, sym, ◌∙◌}
use mathlib.Core.List.{List}
use mathlib.Core.Bool.{false}
use Prim.Native.Nat.{ℕ}
use Rattle.bits.specs.Any.{any}
use Rattle.standing.specs.Standing.{marked_in}
use Rattle.register.specs.declared.Register.{Register}
use Rattle.register.proofs.RowStandings.{marks_none}
use Rattle.register.proofs.Register.unmark.Goals as goal

pub returns-then-not-any_marked : goal.returns-then-not-any_marked
returns-then-not-any_marked c =
    let g = c.args.self.now in
    let none : any g.counts.specs (marked_in g.marks) ≡ false =
    ap (λ (n : ℕ). any n (marked_in g.marks)) (sym c.rows-n.ensures) ∙ sym c.any_marked.ensures ∙ c.if-not-any_marked.true in
    let with : List ℕ → Register = λ m. record { counts = g.counts; states = g.states; codes = g.codes; places = g.places; marks = m } in
    ap with (marks_none g c.args.sets.now c.args.i none)
