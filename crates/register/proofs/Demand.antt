-- Demand 3: the theorem. For every opening, every list of numbers lent to it and every list of calls, what `Demand3` (specs/Demand.antt) states.
-- Assumes nothing.
use Prim.Native.Nat.{ℕ, ◌-◌, ◌≤◌}
use mathlib.Core.Path.{◌≡◌, refl, sym, ap, ◌∙◌}
use mathlib.Core.List.{List}
use mathlib.Core.Bool.{Bool, true, false, cond}
use lib.ListN.{length}
use lib.Dec.{eqb}
use borrow.Author.Tests.{eqb-true, eqb-false}
use Rattle.number.specs.declared.token.Counts.{Counts}
use Rattle.answer.specs.declared.Told.{Told}
use Rattle.register.specs.Calls.{Held}
use Rattle.register.specs.Model.{Model, Call, filing, acknowledging, asking, report, standing_m, row_code_m, answer_m}
use Rattle.register.specs.Demand.{asks, report_of, answer_r, but_mark, after_r, after_m, Demand3}
use Rattle.register.proofs.Simulation.{SimH, step, run, open_sim}
use Rattle.register.proofs.FreshChecks.{stands}
use Rattle.register.proofs.Histories.{marks_by_history, filing-alters, ack_alters, ack_but, row_code_m-ok, row_of}

module _ (counts : Counts) (sets : List ℕ) (cs : List Call) where
  -- the register with its numbers, and the model, after the calls
  abbrev g' : Held
  g' = after_r counts sets cs

  abbrev b' : Model
  b' = after_m counts sets cs

  sim : SimH b' g'
  sim = (run cs (open_sim counts sets).1).1

  same : {b : Model} {h : Held} → SimH b h → (q : ℕ) → report_of (asks h q) ≡ answer_m b (asking q)
  unfolding answer_r
  same m q = (step m (asking q)).0

  asked : (a : Told) (b : Model) (q : ℕ) → report_of a ≡ answer_m b (asking q) → a.code ≡ 0 → (1 ≤ q) × (report_of a ≡ row_of b (q - 1))
  unfolding answer_m
  asked a b q e z = go (eqb (row_code_m b q) 0) refl e
    where
      go : (t : Bool) → eqb (row_code_m b q) 0 ≡ t → report_of a ≡ cond t (row_of b (q - 1)) (report (row_code_m b q) 0 0 0 0)
          → (1 ≤ q) × (report_of a ≡ row_of b (q - 1))
      go true h r = ((row_code_m-ok b q (eqb-true (row_code_m b q) 0 h)).0, r)
      go false h r = absurd (eqb-false (row_code_m b q) 0 h (let y : a.code ≡ row_code_m b q = cc in sym y ∙ z))

  pub demand_3 : Demand3 counts sets cs
  demand_3 = record {
    opening = (open_sim counts sets).0;
    answers = (run cs (open_sim counts sets).1).0;
    afterwards = same sim;
    standing = λ q z.
        let r = (asked (asks g' q) b' q (same sim q) z).1 in
        let e : (asks g' q).standing ≡ standing_m b' (q - 1) = cc in
        rw e (stands b' (q - 1));
    mark = λ q z.
        let x = asked (asks g' q) b' q (same sim q) z in
        let r = x.1 in
        let e : (asks g' q).mark ≡ b'.mark (q - 1) = cc in
        rw e (marks_by_history counts (length sets) q x.0 cs);
    filing-other = λ row blob q ne nr. same sim q ∙ filing-alters b' row blob q ne nr ∙ sym (same (step sim (filing row blob)).1 q);
    acknowledging-other = λ row q ne. same sim q ∙ ack_alters b' row q ne ∙ sym (same (step sim (acknowledging row)).1 q);
    acknowledging-same = λ row q. ap but_mark (same sim q) ∙ ack_but b' row q ∙ sym (ap but_mark (same (step sim (acknowledging row)).1 q));
  }
