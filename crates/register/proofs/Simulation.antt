-- The register, with the numbers lent to it, follows the model, call by call: `Sim` holds of what an opening hands back, and every call keeps it.
-- Assumes nothing.
use Prim.Native.Nat.{ℕ, ◌+◌, ◌-◌, ◌*◌, ◌<◌, ◌≤◌}
use mathlib.Core.Path.{◌≡◌, refl, sym, ap, ◌∙◌, subst}
use mathlib.Core.List.{List, [], ◌∷◌}
use mathlib.Core.Option.{Option, none, some}
use mathlib.Core.Bool.{Bool, true, false, cond, ◌||◌}
use mathlib.Core.Logic.{by_cases}
use native.Mathlib.Omega.{arith}
use native.Mathlib.Decide.{ℕ_discrete, dec_lt}
use native.Mathlib.Nat.{le_refl}
use lib.ListN.{length, get_or, set, replicate, length-set, length-replicate, get_or-replicate, get_or-eq_default}
use lib.Seq.{get_or-set_same, get_or-set_other}
use lib.Dec.{eqb}
use borrow.Author.Tests.{eq-eqb, ne_eqb, eqb-true}
use Rattle.reach.specs.Reach.{thru}
use Rattle.bits.specs.Bits.{bit_at, clear_words}
use Rattle.standing.specs.Standing.{standing}
use Rattle.bits.proofs.BitLaws.{length_zeroed, at_zeroed}
use Rattle.reach.proofs.Reaching.{thru-cong}
use Rattle.standing.proofs.Standings.{standing-cong, length_cleared, get_or-cleared}
use Rattle.number.specs.Token.{no_counts}
use Rattle.number.specs.declared.token.Counts.{Counts}
use Rattle.grammar.specs.Judge.{Out, fault, done}
use Rattle.grammar.proofs.Bounds.{ends-judge}
use Rattle.register.specs.declared.Register.{Register}
use Rattle.register.specs.Calls.{Changed}
use Rattle.answer.specs.Size.{max_size, words}
use Rattle.answer.specs.Answers.{row_code, admit_code, ack_code}
use Rattle.filing.specs.Outcome.{judged, state_of, code_of, place_of, names_row}
use Rattle.register.specs.Calls.{Held, holding, held, Left, left, blank_register, changed, too_many, open_code, open_of, filed, filed_sets, file_at, file_of, marks_after, marked, acknowledge_at, acknowledge_of, ask_at, ask_of, standing_at, refers}
use Rattle.register.specs.Model.{Model, Call, filing, acknowledging, asking, number, report, check, outcome, state_m, refers_m, standing_m, touched, row_code_m, filed_m, marked_m, ack_code_m, answer_m, next_m, answers_m, end_m, empty_m, opening_m, opened_m}
use Rattle.register.specs.Demand.{report_of, answer_r, next_r, answers_r, end_r}
use Rattle.register.proofs.Openings.{open_ok}
use Rattle.answer.proofs.Admits.{admit_ok, admit_within, by_code}
use Rattle.filing.proofs.Collects.{length_named, at_named, at_named_other}

-- ---- the relation
pub record RowSim (e : Option Out) (g : Register) (l : List ℕ) (i : ℕ) : Type 0 where
  pub state : get_or g.states i 0 ≡ state_of e
  pub code : get_or g.codes i 0 ≡ code_of e
  pub place : get_or g.places i 0 ≡ place_of e
  pub names : (s : ℕ) → s < max_size → bit_at words l i s ≡ names_row e (s + 1)

pub record Lengths (g : Register) : Type 0 where
  pub states : length g.states ≡ max_size
  pub codes : length g.codes ≡ max_size
  pub places : length g.places ≡ max_size
  pub marks : length g.marks ≡ max_size

-- a register g, with the numbers l lent to it
pub record Sim (b : Model) (g : Register) (l : List ℕ) : Type 0 where
  pub size : b.counts.specs ≤ max_size
  pub enough : b.counts.specs * words ≤ length l
  pub counts : g.counts ≡ b.counts
  pub lengths : Lengths g
  pub row : (i : ℕ) → i < b.counts.specs → RowSim (outcome b i) g l i
  pub mark : (i : ℕ) → i < b.counts.specs → get_or g.marks i 0 ≡ b.mark i

abbrev pub SimH : Model → Held → Type 0
SimH b h = Sim b h.register h.sets

-- ---- a list of zeros
zeros_at : (n k : ℕ) → ◌≡◌ {A = ℕ} (get_or (replicate n 0) k 0) 0
zeros_at n k = by_cases (dec_lt k n) (λ (h : k < n). get_or-replicate n k 0 0 h)
    (λ nh. get_or-eq_default (replicate n 0) 0 (omega (arith, length-replicate {A = ℕ} n 0)))

-- ---- an opened register
blank-lengths : (counts : Counts) → Lengths (blank_register counts)
blank-lengths counts = record { states = refl; codes = refl; places = refl; marks = refl }

blank-sim : (counts : Counts) (l : List ℕ) → counts.specs ≤ max_size → counts.specs * words ≤ length l
    → Sim (empty_m counts) (blank_register counts) (clear_words l 0 (counts.specs * words))
blank-sim counts l h k = record {
  size = h;
  enough = omega (arith, k, length_zeroed l 0 (counts.specs * words));
  counts = refl;
  lengths = blank-lengths counts;
  row = λ i hi. record { state = zeros_at max_size i; code = zeros_at max_size i; place = zeros_at max_size i; names = λ s hs. at_zeroed words counts.specs l i s k hi hs };
  mark = λ i hi. zeros_at max_size i;
}

-- a refused opening: no rows, and any numbers
none-sim : (l : List ℕ) → Sim (empty_m no_counts) (blank_register no_counts) l
none-sim l = record {
  size = omega arith;
  enough = omega arith;
  counts = refl;
  lengths = blank-lengths no_counts;
  row = λ i hi. absurd (omega (arith, hi));
  mark = λ i hi. absurd (omega (arith, hi));
}

-- ---- one call
module _ {b : Model} {g : Register} {l : List ℕ} (m : Sim b g l) where
  rows : g.counts.specs ≡ b.counts.specs
  rows = ap (λ (c : Counts). c.specs) m.counts

  abbrev here : Held
  here = holding g l

  names_same : (r s : ℕ) → r < g.counts.specs → s < g.counts.specs → refers l r s ≡ refers_m b r s
  names_same r s hr hs = (m.row r (omega (arith, rows))).names s (omega (arith, rows, m.size))

  state_same : (i : ℕ) → i < g.counts.specs → get_or g.states i 0 ≡ state_m b i
  state_same i hi = (m.row i (omega (arith, rows))).state

  standing-same : (i : ℕ) → i < g.counts.specs → standing_at g i l ≡ standing_m b i
  standing-same i hi =
      standing-cong g.counts.specs (λ j. get_or g.states j 0) (state_m b) (refers l) (refers_m b) state_same names_same i hi
      ∙ ap (λ (n : ℕ). standing n (state_m b) (refers_m b) i) (rows)

  thru-same : (r s : ℕ) → r < g.counts.specs → s < g.counts.specs → thru (refers l) g.counts.specs r s ≡ thru (refers_m b) b.counts.specs r s
  thru-same r s hr hs =
      thru-cong g.counts.specs (refers l) (refers_m b) names_same g.counts.specs (le_refl g.counts.specs) r s hr hs
      ∙ ap (λ (n : ℕ). thru (refers_m b) n r s) (rows)

  row_code_same : (row : ℕ) → admit_code (length l) g.counts.specs row ≡ row_code_m b row
  unfolding row_code_m row_code
  row_code_same row = rw (rows) (admit_within (length l) b.counts.specs row m.size m.enough)

  judged-same : (blob : List ℕ) → judged g.counts blob ≡ judged b.counts blob
  judged-same blob = rw m.counts

  module _ (i : ℕ) (hi : i < b.counts.specs) where
    marks_same : (j : ℕ) → j < b.counts.specs → get_or (marks_after g i l) j 0 ≡ cond (touched b i j) 0 (b.mark j)
    unfolding marks_after
    marks_same j hj =
        get_or-cleared g.marks g.counts.specs _ j (omega (arith, rows)) (omega (arith, rows, m.size, m.lengths.marks))
        ∙ ap (λ (t : Bool). cond (eqb j i || t) 0 (get_or g.marks j 0)) (thru-same j i (omega (arith, rows)) (omega (arith, rows)))
        ∙ ap (cond (touched b i j) 0) (m.mark j hj)

    lengths_filed : (o : Out) → Lengths (filed g i o l)
    unfolding filed marks_after
    lengths_filed o = record {
      states = length-set g.states i _ ∙ m.lengths.states;
      codes = length-set g.codes i _ ∙ m.lengths.codes;
      places = length-set g.places i _ ∙ m.lengths.places;
      marks = length_cleared g.marks g.counts.specs _ ∙ m.lengths.marks;
    }

    row_other : (o : Out) (j : ℕ) → j < b.counts.specs → (j ≡ i → ⊥) → RowSim (outcome b j) (filed g i o l) (filed_sets i o l) j
    unfolding filed
    row_other o j hj ne = record {
      state = get_or-set_other g.states i j _ 0 ne ∙ (m.row j hj).state;
      code = get_or-set_other g.codes i j _ 0 ne ∙ (m.row j hj).code;
      place = get_or-set_other g.places i j _ 0 ne ∙ (m.row j hj).place;
      names = λ s hs. at_named_other i l o j s ne hs ∙ (m.row j hj).names s hs;
    }

    -- the filed row itself, as the judge says
    row_same : (blob : List ℕ) → RowSim (some (judged b.counts blob)) (filed g i (judged b.counts blob) l) (filed_sets i (judged b.counts blob) l) i
    unfolding filed
    row_same blob = record {
      state = get_or-set_same g.states i _ 0 (omega (arith, m.size, m.lengths.states));
      code = get_or-set_same g.codes i _ 0 (omega (arith, m.size, m.lengths.codes));
      place = get_or-set_same g.places i _ 0 (omega (arith, m.size, m.lengths.places));
      names = λ s hs. at_named i l (judged b.counts blob)
          (ends-judge 0 b.counts blob) s (omega (arith, m.size, m.enough)) hs;
    }

    filed-sim : (blob : List ℕ) → Sim (filed_m b i (some blob)) (filed g i (judged b.counts blob) l) (filed_sets i (judged b.counts blob) l)
    unfolding filed_m filed
    filed-sim blob = record {
      size = m.size;
      enough = omega (arith, m.enough, length_named i l (judged b.counts blob));
      counts = m.counts;
      lengths = lengths_filed (judged b.counts blob);
      row = λ j hj. by_cases (ℕ_discrete j i)
          (λ (e : j ≡ i). subst (λ (x : ℕ). RowSim (check (judged b.counts) (cond (eqb x i) (some blob) (b.blob x))) (filed g i (judged b.counts blob) l) (filed_sets i (judged b.counts blob) l) x) (sym e) (rw (eq-eqb i i refl) (row_same blob)))
          (λ ne. rw (ne_eqb j i ne) (row_other (judged b.counts blob) j hj ne));
      mark = λ j hj. marks_same j hj;
    }

    marked-sim : (mark : ℕ) → Sim (marked_m b i mark) (marked g i mark) l
    unfolding marked_m
    marked-sim mark = record {
      size = m.size;
      enough = m.enough;
      counts = m.counts;
      lengths = record {
        states = m.lengths.states;
        codes = m.lengths.codes;
        places = m.lengths.places;
        marks = length-set g.marks i mark ∙ m.lengths.marks;
      };
      row = λ j hj. record { state = (m.row j hj).state; code = (m.row j hj).code; place = (m.row j hj).place; names = (m.row j hj).names };
      mark = λ j hj. by_cases (ℕ_discrete j i)
          (λ (e : j ≡ i). subst (λ (x : ℕ). get_or (set g.marks i mark) x 0 ≡ cond (eqb x i) mark (b.mark x)) (sym e)
          (rw (eq-eqb i i refl) (get_or-set_same g.marks i mark 0 (omega (arith, m.size, m.lengths.marks)))))
          (λ ne. rw (ne_eqb j i ne) (get_or-set_other g.marks i j mark 0 ne ∙ m.mark j hj));
    }

    ack_same : ack_code (standing_at g i l) (get_or g.marks i 0) ≡ ack_code_m b i
    unfolding ack_code_m
    ack_same = rw (standing-same i (omega (arith, rows)), m.mark i hi)

  inside : (row : ℕ) → eqb (row_code_m b row) 0 ≡ true → row - 1 < b.counts.specs
  inside row e = let a = admit_ok (length l) g.counts.specs row (row_code_same row ∙ eqb-true (row_code_m b row) 0 e) in omega (arith, a.low, a.high, rows)

  -- what a call answers and leaves, on both sides
  abbrev pub Step : Call → Type 0
  Step c = (answer_r here c ≡ answer_m b c) × SimH (next_m b c) (next_r here c)

  file_yes : (row : ℕ) (blob : List ℕ) → eqb (row_code_m b row) 0 ≡ true → file_of g row blob l ≡ file_at g (row - 1) (judged b.counts blob) l
  unfolding file_of
  file_yes row blob e = rw (row_code_same row, e, judged-same blob)

  file_no : (row : ℕ) (blob : List ℕ) → eqb (row_code_m b row) 0 ≡ false → file_of g row blob l ≡ left (changed (row_code_m b row) g) l
  unfolding file_of
  file_no row blob e = rw (row_code_same row, e)

  step-filing : (row : ℕ) (blob : List ℕ) (t : Bool) → eqb (row_code_m b row) 0 ≡ t → Step (filing row blob)
  unfolding answer_r answer_m next_r next_m
  step-filing row blob true e = (
    ap (λ (x : Left). number x.changed.code) (file_yes row blob e) ∙ ap number (sym (eqb-true (row_code_m b row) 0 e)),
    rw e
        (subst (λ (x : Left). SimH (filed_m b (row - 1) (some blob)) (held x)) (sym (file_yes row blob e))
        (filed-sim (row - 1) (inside row e) blob)),
  )
  step-filing row blob false e = (
    ap (λ (x : Left). number x.changed.code) (file_no row blob e),
    rw e (subst (λ (x : Left). SimH b (held x)) (sym (file_no row blob e)) m),
  )

  step-at : (i : ℕ) (row : ℕ) (t : Bool) → i < b.counts.specs → eqb (ack_code_m b i) 0 ≡ t
      → (number (acknowledge_at g i l).code ≡ number (ack_code_m b i)) × Sim (cond t (marked_m b i 1) b) (acknowledge_at g i l).register l
  unfolding acknowledge_at
  step-at i row true hi e = rw (ack_same i hi, e) (ap number (sym (eqb-true (ack_code_m b i) 0 e)), marked-sim i hi 1)
  step-at i row false hi e = rw (ack_same i hi, e) (refl, m)

  ack_yes : (row : ℕ) → eqb (row_code_m b row) 0 ≡ true → acknowledge_of g row l ≡ acknowledge_at g (row - 1) l
  unfolding acknowledge_of
  ack_yes row e = rw (row_code_same row, e)

  ack_no : (row : ℕ) → eqb (row_code_m b row) 0 ≡ false → acknowledge_of g row l ≡ changed (row_code_m b row) g
  unfolding acknowledge_of
  ack_no row e = rw (row_code_same row, e)

  step-acknowledging : (row : ℕ) (t : Bool) → eqb (row_code_m b row) 0 ≡ t → Step (acknowledging row)
  unfolding answer_r answer_m next_r next_m
  step-acknowledging row true e =
      let s = step-at (row - 1) row (eqb (ack_code_m b (row - 1)) 0) (inside row e) refl in (
        rw e (ap (λ (x : Changed). number x.code) (ack_yes row e) ∙ s.0),
        rw e
            (subst (λ (x : Changed). Sim (cond (eqb (ack_code_m b (row - 1)) 0) (marked_m b (row - 1) 1) b) x.register l) (sym (ack_yes row e))
            s.1),
      )
  step-acknowledging row false e =
      (rw e (ap (λ (x : Changed). number x.code) (ack_no row e)), rw e (subst (λ (x : Changed). Sim b x.register l) (sym (ack_no row e)) m))

  finding_same : (i : ℕ) (e : Option Out) → RowSim e g l i → (cond (eqb (get_or g.states i 0) 1) (get_or g.codes i 0) 0 ≡ code_of e) × (cond (eqb (get_or g.states i 0) 1) (get_or g.places i 0) 0 ≡ place_of e)
  finding_same i none r = rw r.state (refl, refl)
  finding_same i (some (fault code place)) r = rw r.state (r.code, r.place)
  finding_same i (some (done at n rs)) r = rw r.state (refl, refl)

  ask_same : (i : ℕ) → i < b.counts.specs → report_of (ask_at g i l) ≡ report 0 (standing_m b i) (code_of (outcome b i)) (place_of (outcome b i)) (b.mark i)
  unfolding ask_at
  ask_same i hi =
      let f = finding_same i (outcome b i) (m.row i hi) in
      rw (standing-same i (omega (arith, rows)), f.0, f.1, m.mark i hi)

  step-asking : (row : ℕ) (t : Bool) → eqb (row_code_m b row) 0 ≡ t → Step (asking row)
  unfolding answer_r answer_m next_r next_m ask_of
  step-asking row true e = rw (row_code_same row, e) (ask_same (row - 1) (inside row e), m)
  step-asking row false e = rw (row_code_same row, e) (refl, m)

  pub step : (c : Call) → Step c
  step (filing row blob) = step-filing row blob (eqb (row_code_m b row) 0) refl
  step (acknowledging row) = step-acknowledging row (eqb (row_code_m b row) 0) refl
  step (asking row) = step-asking row (eqb (row_code_m b row) 0) refl

-- ---- any list of calls
pub run : {b : Model} {h : Held} (cs : List Call) → SimH b h → (answers_r h cs ≡ answers_m b cs) × SimH (end_m b cs) (end_r h cs)
unfolding answers_r answers_m end_m end_r
run {b} {h} [] m = (refl, m)
run {b} {h} (c ∷ cs) m =
    let s = step m c in
    let r = run {b = next_m b c} {h = next_r h c} cs s.1 in
    (rw (s.0, r.0), r.1)

-- ---- the opening
module _ (counts : Counts) (l : List ℕ) where
  abbrev code : ℕ
  code = open_code counts (length l)

  opening-same : code ≡ opening_m counts (length l)
  unfolding open_code too_many opening_m
  opening-same = refl

  opened-yes : code ≡ 0 → opened_m counts (length l) ≡ empty_m counts
  unfolding opened_m
  opened-yes z = rw (sym opening-same, eq-eqb code 0 z)

  opened-no : (code ≡ 0 → ⊥) → opened_m counts (length l) ≡ empty_m no_counts
  unfolding opened_m
  opened-no ne = rw (sym opening-same, ne_eqb code 0 ne)

  pub open_sim : ((open_of counts l).changed.code ≡ opening_m counts (length l))
      × SimH (opened_m counts (length l)) (held (open_of counts l))
  unfolding open_of
  open_sim =
      by_code (λ (x : Left). (x.changed.code ≡ opening_m counts (length l)) × SimH (opened_m counts (length l)) (held x)) code
      (λ z. let k = open_ok counts (length l) z in (sym z ∙ opening-same, rw (opened-yes z) (blank-sim counts l k.0 k.1)))
      (λ ne. (opening-same, rw (opened-no ne) (none-sim l)))
