-- `register::Register::file_at` meets its contract. Assumes nothing.
use Prim.Native.Nat.{ℕ}
use mathlib.Core.Path.{◌≡◌, ap, sym, ◌∙◌}
use mathlib.Core.List.{List}
use lib.ListN.{set}
use Rattle.filing.specs.Kept.{Finding, finding, finding_of, kept_of}
use Rattle.filing.specs.Named.{named_by}
use Rattle.register.specs.Calls.{judged, left, changed, filed, file_at, marks_after}
use Rattle.register.specs.declared.Register.{Register}
use Rattle.register.proofs.Register.file_at.Goals as goal
use Rattle.register.proofs.Register.file_at.Goals.{in-Ok, in-Err}

-- a row's finding written beside the marks
module _ (g u : Register) (i : ℕ) (blob l l' : List ℕ)
    (e : u ≡ record { counts = g.counts; states = g.states; codes = g.codes; places = g.places; marks = marks_after g i l }) (n : l' ≡ named_by (judged u.counts blob) i l) where
  kept : (f : Finding) → f ≡ finding_of (judged u.counts blob)
      → left (changed 0 record { counts = u.counts; states = set u.states i f.state; codes = set u.codes i f.code; places = set u.places i f.place; marks = u.marks }) l'
      ≡ file_at g i (judged g.counts blob) l
  unfolding filed
  kept f h = rw (h, n, e)

pub returns : goal.returns
returns c =
    let g = c.args.self.now in
    let j = c.judge_row.ensures in
    elim c.match-judge_row.branch [
      | in-Ok w ↦ rw w.state-is (kept g c.unmark.new.self c.args.i c.args.blob.now c.args.sets.now _ c.unmark.ensures j.1 (finding 2 0 0) (ap kept_of (sym w.in-Ok.is) ∙ j.0))
      | in-Err w ↦ rw w.state-is (kept g c.unmark.new.self c.args.i c.args.blob.now c.args.sets.now _ c.unmark.ensures j.1 _ (ap kept_of (sym w.in-Err.is) ∙ j.0))
    ]
