-- The model's marks: one is there exactly as the calls made say; and what a call alters.
-- Assumes nothing.
use Prim.Native.Nat.{ℕ, ◌-◌, ◌≤◌}
use mathlib.Core.Path.{◌≡◌, refl, sym, ap, ◌∙◌, subst}
use mathlib.Core.List.{List, [], ◌∷◌}
use mathlib.Core.Option.{Option, some}
use mathlib.Core.Bool.{Bool, true, false, cond, true≢false}
use mathlib.Core.Logic.{◌⊎◌, inl, inr, ⊎_elim, by_cases, ◌↔◌}
use native.Mathlib.Omega.{arith}
use native.Mathlib.Decide.{ℕ_discrete}
use lib.Dec.{eqb}
use borrow.Author.Tests.{eq-eqb, ne_eqb, eqb-true, eqb-false}
use Rattle.bits.proofs.Bools.{or_left, or_right}
use Rattle.reach.specs.Reach.{Reach}
use Rattle.number.specs.Token.{no_counts}
use Rattle.number.specs.declared.token.Counts.{Counts}
use Rattle.answer.specs.Answers.{row_code}
use Rattle.answer.proofs.Admits.{row_ok}
use Rattle.grammar.specs.Judge.{Out}
use Rattle.filing.specs.Outcome.{code_of, place_of}
use Rattle.register.specs.Model.{Model, Call, filing, acknowledging, asking, Answer, number, report, outcome, refers_m, standing_m, touched, row_code_m, filed_m, marked_m, ack_code_m, answer_m, next_m, end_m, empty_m, opening_m, opened_m}
use Rattle.register.specs.History.{Safe, Kept, nil, more, Marked, here, later}
use Rattle.register.specs.Demand.{but_mark}
use Rattle.register.proofs.FreshChecks.{reaches, outcome-other, standing-off, mark-off}

-- ---- calls
pub row_code_m-ok : (b : Model) (row : ℕ) → row_code_m b row ≡ 0 → (1 ≤ row) × (row ≤ b.counts.specs)
unfolding row_code_m row_code
row_code_m-ok b row h = let r = row_ok b.counts.specs row h in (r.low, r.high)

module _ (b : Model) where
  file_yes : (row : ℕ) (blob : List ℕ) → eqb (row_code_m b row) 0 ≡ true → next_m b (filing row blob) ≡ filed_m b (row - 1) (some blob)
  unfolding next_m
  file_yes row blob e = rw e

  file_no : (row : ℕ) (blob : List ℕ) → eqb (row_code_m b row) 0 ≡ false → next_m b (filing row blob) ≡ b
  unfolding next_m
  file_no row blob e = rw e

  -- what an acknowledging does: it is refused, or it succeeds and sets the mark
  ack_cases : (row : ℕ) → (next_m b (acknowledging row) ≡ b) ⊎ ((next_m b (acknowledging row) ≡ marked_m b (row - 1) 1) × (1 ≤ row) × (answer_m b (acknowledging row) ≡ number 0))
  unfolding next_m answer_m
  ack_cases row = go (eqb (row_code_m b row) 0) (eqb (ack_code_m b (row - 1)) 0) refl refl
    where
      go : (s t : Bool) → eqb (row_code_m b row) 0 ≡ s → eqb (ack_code_m b (row - 1)) 0 ≡ t
          → (cond s (cond t (marked_m b (row - 1) 1) b) b ≡ b) ⊎ ((cond s (cond t (marked_m b (row - 1) 1) b) b ≡ marked_m b (row - 1) 1) × (1 ≤ row) × (number (cond s (ack_code_m b (row - 1)) (row_code_m b row)) ≡ number 0))
      go false t p q = inl refl
      go true false p q = inl refl
      go true true p q = inr (refl, (row_code_m-ok b row (eqb-true _ _ p)).0, ap number (eqb-true _ _ q))

number-inj : (m n : ℕ) → number m ≡ number n → m ≡ n
number-inj m n e = cc

ack_next : (b : Model) (row : ℕ) → answer_m b (acknowledging row) ≡ number 0 → next_m b (acknowledging row) ≡ marked_m b (row - 1) 1
unfolding answer_m next_m
ack_next b row a = go (eqb (row_code_m b row) 0) refl a
  where
    go : (s : Bool) → eqb (row_code_m b row) 0 ≡ s → number (cond s (ack_code_m b (row - 1)) (row_code_m b row)) ≡ number 0
        → cond s (cond (eqb (ack_code_m b (row - 1)) 0) (marked_m b (row - 1) 1) b) b ≡ marked_m b (row - 1) 1
    go true e z = rw (eq-eqb (ack_code_m b (row - 1)) 0 (number-inj _ _ z))
    go false e z = absurd (eqb-false (row_code_m b row) 0 e (number-inj _ _ z))

abbrev HasMark : Model → ℕ → Type 0
HasMark b q = b.mark (q - 1) ≡ 0 → ⊥

module _ (q : ℕ) (hq : 1 ≤ q) where
  keep_filing : (b : Model) (row : ℕ) (blob : List ℕ) (t : Bool) → eqb (row_code_m b row) 0 ≡ t → HasMark b q → Safe b q (filing row blob)
      → HasMark (next_m b (filing row blob)) q
  unfolding Safe answer_m
  keep_filing b row blob false e h s = rw (file_no b row blob e) h
  keep_filing b row blob true e h s =
      let z = eqb-true (row_code_m b row) 0 e in
      let p = s (ap number z) in
      let l = (row_code_m-ok b row z).0 in
      let ne : q - 1 ≡ row - 1 → ⊥ = λ x. p.0 (omega arith) in
      rw (file_yes b row blob e) (λ x. h (mark-off b (row - 1) (some blob) (q - 1) ne p.1 ∙ x))

  marked-at : (b : Model) (i j : ℕ) (t : Bool) → eqb j i ≡ t → (marked_m b i 1).mark j ≡ cond t 1 (b.mark j)
  unfolding marked_m
  marked-at b i j t e = rw e

  ack_sets : (b : Model) (i : ℕ) → HasMark b q → HasMark (marked_m b i 1) q
  ack_sets b i h = go (eqb (q - 1) i) refl
    where
      go : (t : Bool) → eqb (q - 1) i ≡ t → HasMark (marked_m b i 1) q
      go true e x = let z : ◌≡◌ {A = ℕ} 1 0 = sym (marked-at b i (q - 1) true e) ∙ x in omega arith
      go false e x = h (sym (marked-at b i (q - 1) false e) ∙ x)

  keep : (b : Model) (c : Call) → HasMark b q → Safe b q c → HasMark (next_m b c) q
  unfolding next_m
  keep b (filing row blob) h s = keep_filing b row blob (eqb (row_code_m b row) 0) refl h s
  keep b (acknowledging row) h s = ⊎_elim (λ e. rw e h) (λ e. rw e.0 (ack_sets b (row - 1) h)) (ack_cases b row)
  keep b (asking row) h s = h

  -- ---- a mark after a call: the call was the acknowledging, or the mark was there and the call is safe
  Came : Model → Call → Type 0
  Came b c = ((c ≡ acknowledging q) × (answer_m b (acknowledging q) ≡ number 0)) ⊎ (HasMark b q × Safe b q c)

  touched-self : (b : Model) (i j : ℕ) → j ≡ i → touched b i j ≡ true
  touched-self b i j e = or_left _ (eq-eqb j i e)

  filed-at : (b : Model) (i : ℕ) (blob : Option (List ℕ)) (j : ℕ) (t : Bool) → touched b i j ≡ t → (filed_m b i blob).mark j ≡ cond t 0 (b.mark j)
  unfolding filed_m
  filed-at b i blob j t e = rw e

  came_filed : (b : Model) (row : ℕ) (blob : List ℕ) (t : Bool) → touched b (row - 1) (q - 1) ≡ t
      → HasMark (filed_m b (row - 1) (some blob)) q → HasMark b q × Safe b q (filing row blob)
  unfolding Safe
  came_filed b row blob true e h = absurd (h (filed-at b (row - 1) (some blob) (q - 1) true e))
  came_filed b row blob false e h = (
    λ x. h (filed-at b (row - 1) (some blob) (q - 1) false e ∙ x),
    λ a. (
      λ (y : q ≡ row). true≢false (sym (touched-self b (row - 1) (q - 1) (ap (λ (k : ℕ). k - 1) y)) ∙ e),
      λ r. true≢false (sym (or_right (eqb (q - 1) (row - 1)) ((reaches b (q - 1) (row - 1)).1 r)) ∙ e),
    ),
  )

  came_filing : (b : Model) (row : ℕ) (blob : List ℕ) (t : Bool) → eqb (row_code_m b row) 0 ≡ t → HasMark (next_m b (filing row blob)) q
      → HasMark b q × Safe b q (filing row blob)
  unfolding Safe answer_m
  came_filing b row blob true e h = came_filed b row blob (touched b (row - 1) (q - 1)) refl (rw (file_yes b row blob e) at h)
  came_filing b row blob false e h =
      (rw (file_no b row blob e) at h, λ (a : number (row_code_m b row) ≡ number 0). absurd (eqb-false (row_code_m b row) 0 e (cc)))

  came_ack : (b : Model) (row : ℕ) → HasMark (marked_m b (row - 1) 1) q → 1 ≤ row → answer_m b (acknowledging row) ≡ number 0 → Came b (acknowledging row)
  unfolding Came Safe
  came_ack b row h l a = by_cases (ℕ_discrete row q)
      (λ (e : row ≡ q). inl (ap acknowledging e, subst (λ (x : ℕ). answer_m b (acknowledging x) ≡ number 0) e a))
      (λ ne. inr ((λ x. h (marked-at b (row - 1) (q - 1) false (ne_eqb (q - 1) (row - 1) (λ y. ne (omega arith))) ∙ x)), tt))

  came : (b : Model) (c : Call) → HasMark (next_m b c) q → Came b c
  unfolding Came Safe next_m
  came b (filing row blob) h = inr (came_filing b row blob (eqb (row_code_m b row) 0) refl h)
  came b (acknowledging row) h =
      ⊎_elim (λ e. inr (rw e at h, tt)) (λ e. came_ack b row (rw e.0 at h) e.1 e.2) (ack_cases b row)
  came b (asking row) h = inr (h, tt)

  ack_marks : (b : Model) → answer_m b (acknowledging q) ≡ number 0 → HasMark (next_m b (acknowledging q)) q
  ack_marks b a =
      rw (ack_next b q a)
      (λ x. let z : ◌≡◌ {A = ℕ} 1 0 = sym (marked-at b (q - 1) (q - 1) true (eq-eqb (q - 1) (q - 1) refl)) ∙ x in omega arith)

  -- ---- the history
  kept-marked : (b : Model) (cs : List Call) → HasMark b q → Kept q b cs → HasMark (end_m b cs) q
  unfolding end_m
  kept-marked b [] h k = h
  kept-marked b (c ∷ cs) h (more s k) = kept-marked (next_m b c) cs (keep b c h s) k

  marked-marked : (b : Model) (cs : List Call) → Marked q b cs → HasMark (end_m b cs) q
  unfolding end_m
  marked-marked b [] x' = elim x' [ ]
  marked-marked b (_ ∷ cs) (here a k) = kept-marked (next_m b (acknowledging q)) cs (ack_marks b a) k
  marked-marked b (c ∷ cs) (later m) = marked-marked (next_m b c) cs m

  marked_from : (b : Model) (cs : List Call) → HasMark (end_m b cs) q → Marked q b cs ⊎ (HasMark b q × Kept q b cs)
  unfolding end_m Came
  marked_from b [] h = inr (h, nil)
  marked_from b (c ∷ cs) h =
      ⊎_elim (λ m. inl (later m))
      (λ p. ⊎_elim
      (λ x. inl (subst (λ (y : Call). Marked q b (y ∷ cs)) (sym x.0) (here x.1 (subst (λ (y : Call). Kept q (next_m b y) cs) x.0 p.1))))
      (λ y. inr (y.0, more y.1 p.1)) (came b c p.0))
      (marked_from (next_m b c) cs h)

-- ---- the corollaries of demand 3, on the model
no_marks : (counts : Counts) (lent i : ℕ) → (opened_m counts lent).mark i ≡ 0
unfolding opened_m
no_marks counts lent i = go (eqb (opening_m counts lent) 0)
  where
    go : (t : Bool) → (cond t (empty_m counts) (empty_m no_counts)).mark i ≡ 0
    go true = refl
    go false = refl

-- a row carries a mark exactly when an acknowledging on it succeeded and since then neither it nor any row it could reach was filed
pub marks_by_history : (counts : Counts) (lent q : ℕ) → 1 ≤ q → (cs : List Call)
    → ((end_m (opened_m counts lent) cs).mark (q - 1) ≡ 0 → ⊥) ↔ Marked q (opened_m counts lent) cs
marks_by_history counts lent q hq cs = (
  λ h. ⊎_elim (λ m. m) (λ p. absurd (p.0 (no_marks counts lent (q - 1)))) (marked_from q hq (opened_m counts lent) cs h),
  marked-marked q hq (opened_m counts lent) cs,
)

abbrev pub row_of : Model → ℕ → Answer
row_of b i = report 0 (standing_m b i) (code_of (outcome b i)) (place_of (outcome b i)) (b.mark i)

row_code_eq : (b d : Model) (q : ℕ) → b.counts.specs ≡ d.counts.specs → row_code_m b q ≡ row_code_m d q
unfolding row_code_m
row_code_eq b d q e = rw e

ask_eq : (b d : Model) (q : ℕ) → b.counts.specs ≡ d.counts.specs → (row_code_m b q ≡ 0 → row_of b (q - 1) ≡ row_of d (q - 1))
    → answer_m b (asking q) ≡ answer_m d (asking q)
unfolding answer_m
ask_eq b d q e f = rw (sym (row_code_eq b d q e)) (go (eqb (row_code_m b q) 0) refl)
  where
    go : (t : Bool) → eqb (row_code_m b q) 0 ≡ t → cond t (row_of b (q - 1)) (report (row_code_m b q) 0 0 0 0) ≡ cond t (row_of d (q - 1)) (report (row_code_m b q) 0 0 0 0)
    go true h = f (eqb-true (row_code_m b q) 0 h)
    go false h = refl

filed-row : (b : Model) (i : ℕ) (blob : Option (List ℕ)) (j : ℕ) → (j ≡ i → ⊥) → (Reach (refers_m b) j i → ⊥) → row_of b j ≡ row_of (filed_m b i blob) j
filed-row b i blob j ne nr =
    let s = standing-off b i blob j ne nr in
    let e = outcome-other b i blob j ne in
    let m = mark-off b i blob j ne nr in
    ap (λ (x : ℕ). report 0 x (code_of (outcome b j)) (place_of (outcome b j)) (b.mark j)) s
    ∙ ap (λ (x : Option Out). report 0 (standing_m (filed_m b i blob) j) (code_of x) (place_of x) (b.mark j)) e
    ∙ ap (report 0 (standing_m (filed_m b i blob) j) (code_of (outcome (filed_m b i blob) j)) (place_of (outcome (filed_m b i blob) j))) m

filed-rows : (b : Model) (i : ℕ) (blob : Option (List ℕ)) → b.counts.specs ≡ (filed_m b i blob).counts.specs
unfolding filed_m
filed-rows b i blob = refl

-- a filing alters nothing on any other row that cannot reach the filed one
pub filing-alters : (b : Model) (row : ℕ) (blob : List ℕ) (q : ℕ) → (q ≡ row → ⊥) → (Reach (refers_m b) (q - 1) (row - 1) → ⊥)
    → answer_m b (asking q) ≡ answer_m (next_m b (filing row blob)) (asking q)
filing-alters b row blob q ne nr = go (eqb (row_code_m b row) 0) refl
  where
    go : (t : Bool) → eqb (row_code_m b row) 0 ≡ t → answer_m b (asking q) ≡ answer_m (next_m b (filing row blob)) (asking q)
    go false e = rw (file_no b row blob e)
    go true e =
        let l = (row_code_m-ok b row (eqb-true (row_code_m b row) 0 e)).0 in
        rw (file_yes b row blob e)
        (ask_eq b (filed_m b (row - 1) (some blob)) q (filed-rows b (row - 1) (some blob))
        (λ z. let k = (row_code_m-ok b q z).0 in filed-row b (row - 1) (some blob) (q - 1) (λ x. ne (omega arith)) nr))

marked_row : (b : Model) (i j : ℕ) → (j ≡ i → ⊥) → row_of b j ≡ row_of (marked_m b i 1) j
unfolding marked_m
marked_row b i j ne = rw (ne_eqb j i ne)

marked-rows : (b : Model) (i : ℕ) → b.counts.specs ≡ (marked_m b i 1).counts.specs
unfolding marked_m
marked-rows b i = refl

-- an acknowledging alters at most the mark of the row that it names: nothing on another row,
pub ack_alters : (b : Model) (row q : ℕ) → (q ≡ row → ⊥) → answer_m b (asking q) ≡ answer_m (next_m b (acknowledging row)) (asking q)
ack_alters b row q ne =
    ⊎_elim (λ e. rw e)
    (λ e. rw e.0
    (ask_eq b (marked_m b (row - 1) 1) q (marked-rows b (row - 1))
    (λ z. let k = (row_code_m-ok b q z).0 in marked_row b (row - 1) (q - 1) (λ x. ne (let l = e.1 in omega arith)))))
    (ack_cases b row)

marked-but : (b : Model) (i q : ℕ) → but_mark (answer_m b (asking q)) ≡ but_mark (answer_m (marked_m b i 1) (asking q))
unfolding answer_m marked_m row_code_m
marked-but b i q = go (eqb (row_code_m b q) 0)
  where
    go : (t : Bool) → but_mark (cond t (row_of b (q - 1)) (report (row_code_m b q) 0 0 0 0)) ≡ but_mark (cond t (row_of (marked_m b i 1) (q - 1)) (report (row_code_m b q) 0 0 0 0))
    go true = refl
    go false = refl

-- and but for the mark nothing on any
pub ack_but : (b : Model) (row q : ℕ) → but_mark (answer_m b (asking q)) ≡ but_mark (answer_m (next_m b (acknowledging row)) (asking q))
ack_but b row q = ⊎_elim (λ e. rw e) (λ e. rw e.0 (marked-but b (row - 1) q)) (ack_cases b row)
