-- The model's standings: what `standing` gives is the standing by chains of references, and a filing changes it only on rows that reach
-- the filed one.
-- Assumes nothing.
use Prim.Native.Nat.{ℕ, zero, suc, ◌+◌, ◌<◌}
use mathlib.Core.Path.{◌≡◌, refl, sym, ap, ◌∙◌, subst}
use mathlib.Core.List.{List}
use mathlib.Core.Option.{Option, none, some}
use mathlib.Core.Bool.{Bool, true, false, cond, ◌||◌, ◌&&◌, false≢true, true≢false}
use mathlib.Core.Logic.{⊎_elim, by_cases, ◌↔◌}
use native.Mathlib.Omega.{arith}
use native.Mathlib.Decide.{ℕ_discrete}
use lib.Dec.{ltb, eqb}
use borrow.Author.Tests.{ne_eqb, ltb-true}
use Rattle.bits.proofs.Bools.{bool_ext, or_cases, or_right, and_both, both}
use Rattle.bits.proofs.Any.{any-cong, any-intro, any-elim}
use Rattle.reach.specs.Reach.{Reach, thru}
use Rattle.standing.specs.Standing.{trouble, leaning, standing}
use Rattle.reach.proofs.Reaching.{thru-decides, AgreeOff, reach_to, reach_off, join}
use Rattle.grammar.specs.Judge.{Out, fault, done}
use Rattle.filing.specs.Outcome.{judged, state_of, names_row}
use Rattle.register.specs.Model.{Model, check, outcome, state_m, refers_m, standing_m, touched, filed_m}
use Rattle.register.specs.History.{Troubled, empty, bad, looping, Stands, EMPTY, BAD, LOOP, LEANS, CLEAN}
use Rattle.filing.proofs.Within.{names_within}

-- what a row names is a row
named_in : (b : Model) (x : Option (List ℕ)) (j : ℕ) → names_row (check (judged b.counts) x) (j + 1) ≡ true → j < b.counts.specs
named_in b none j h = absurd (false≢true h)
named_in b (some blob) j h = let r = names_within b.counts blob (j + 1) h in omega (arith, r)

-- ---- `thru` over the model's names is reaching
pub reaches : (b : Model) (r s : ℕ) → (thru (refers_m b) b.counts.specs r s ≡ true) ↔ Reach (refers_m b) r s
reaches b r s =
    thru-decides (refers_m b) b.counts.specs (λ i j h. named_in b (b.blob i) j h) r s

-- ---- the standing, first that fits
trouble-to : (b : Model) (j : ℕ) → trouble b.counts.specs (state_m b) (refers_m b) j ≡ true → Troubled b j
unfolding trouble
trouble-to b j h =
    ⊎_elim (λ l. let k = ltb-true (state_m b j) 2 l in by_cases (ℕ_discrete (state_m b j) 0) empty (λ ne. bad (omega arith)))
    (λ t. looping ((reaches b j j).0 t)) (or_cases (ltb (state_m b j) 2) (thru (refers_m b) b.counts.specs j j) h)

trouble-of : (b : Model) (j : ℕ) → Troubled b j → trouble b.counts.specs (state_m b) (refers_m b) j ≡ true
unfolding trouble
trouble-of b j (empty e) = rw e
trouble-of b j (bad e) = rw e
trouble-of b j (looping r) = or_right (ltb (state_m b j) 2) ((reaches b j j).1 r)

reached_in : (b : Model) {i j : ℕ} → Reach (refers_m b) i j → j < b.counts.specs
reached_in b {i} {j} (Reach.one e) = named_in b (b.blob i) j e
reached_in b (Reach.step e p) = reached_in b p

leans_to : (b : Model) (i : ℕ) → leaning b.counts.specs (state_m b) (refers_m b) i ≡ true → (j : ℕ) × Reach (refers_m b) i j × Troubled b j
unfolding leaning
leans_to b i h =
    let x = any-elim b.counts.specs _ h in
    let y = and_both (thru (refers_m b) b.counts.specs i x.0) (trouble b.counts.specs (state_m b) (refers_m b) x.0) x.2 in
    (x.0, (reaches b i x.0).0 y.0, trouble-to b x.0 y.1)

leans_of : (b : Model) (i j : ℕ) → Reach (refers_m b) i j → Troubled b j → leaning b.counts.specs (state_m b) (refers_m b) i ≡ true
unfolding leaning
leans_of b i j r t = any-intro b.counts.specs _ j (reached_in b r) (both ((reaches b i j).1 r) (trouble-of b j t))

state_lt : (e : Option Out) → state_of e < 3
state_lt none = omega arith
state_lt (some (fault code place)) = omega arith
state_lt (some (done at n rs)) = omega arith

stands_at : (b : Model) (i s : ℕ) (t l : Bool) → s < 3 → state_m b i ≡ s → thru (refers_m b) b.counts.specs i i ≡ t
    → leaning b.counts.specs (state_m b) (refers_m b) i ≡ l → Stands b i (cond (eqb s 0) 0 (cond (eqb s 1) 1 (cond t 2 (cond l 3 4))))
stands_at b i zero t l h e p q = EMPTY e
stands_at b i (suc zero) t l h e p q = BAD e
stands_at b i (suc (suc zero)) true l h e p q = LOOP e ((reaches b i i).0 p)
stands_at b i (suc (suc zero)) false true h e p q =
    let x = leans_to b i q in LEANS e (λ r. true≢false (sym ((reaches b i i).1 r) ∙ p)) x.0 x.1 x.2
stands_at b i (suc (suc zero)) false false h e p q =
    CLEAN e (λ r. true≢false (sym ((reaches b i i).1 r) ∙ p)) (λ j r t. true≢false (sym (leans_of b i j r t) ∙ q))
stands_at b i (suc (suc (suc s))) t l h e p q = absurd (omega arith)

-- each row's standing is what a fresh check of the blobs last filed gives
pub stands : (b : Model) (i : ℕ) → Stands b i (standing_m b i)
unfolding standing
stands b i =
    stands_at b i (state_m b i) (thru (refers_m b) b.counts.specs i i) (leaning b.counts.specs (state_m b) (refers_m b) i)
    (state_lt (outcome b i)) refl refl refl

-- ---- a filing alters nothing on another row that cannot reach the filed one
module _ (b : Model) (i : ℕ) (blob : Option (List ℕ)) where
  abbrev after : Model
  after = filed_m b i blob

  pub outcome-other : (j : ℕ) → (j ≡ i → ⊥) → outcome b j ≡ outcome after j
  unfolding filed_m
  outcome-other j ne = rw (ne_eqb j i ne)

  agree : AgreeOff i (refers_m b) (refers_m after)
  agree r s ne = ap (λ (e : Option Out). names_row e (s + 1)) (outcome-other r ne)

  back : AgreeOff i (refers_m after) (refers_m b)
  back r s ne = sym (agree r s ne)

  -- who reaches the filed row is the same before and after
  pub reach_either : (j : ℕ) → (j ≡ i → ⊥) → Reach (refers_m b) j i ↔ Reach (refers_m after) j i
  reach_either j ne =
      (λ r. ⊎_elim (λ e. absurd (ne e)) (λ x. x) (reach_to agree r), λ r. ⊎_elim (λ e. absurd (ne e)) (λ x. x) (reach_to back r))

  thru-off : (j s : ℕ) → (j ≡ i → ⊥) → (Reach (refers_m b) j i → ⊥)
      → thru (refers_m b) b.counts.specs j s ≡ thru (refers_m after) b.counts.specs j s
  unfolding filed_m
  thru-off j s ne nr =
      bool_ext _ _ (λ h. (reaches after j s).1 (reach_off agree ne nr ((reaches b j s).0 h)))
      (λ h. (reaches b j s).1 (reach_off back ne (λ r. nr ((reach_either j ne).1 r)) ((reaches after j s).0 h)))

  state_off : (j : ℕ) → (j ≡ i → ⊥) → state_m b j ≡ state_m after j
  state_off j ne = ap state_of (outcome-other j ne)

  lean_off : (j k : ℕ) → (j ≡ i → ⊥) → (Reach (refers_m b) j i → ⊥) → (t : Bool) → thru (refers_m b) b.counts.specs j k ≡ t
      → (t && trouble b.counts.specs (state_m b) (refers_m b) k) ≡ (t && trouble b.counts.specs (state_m after) (refers_m after) k)
  unfolding trouble
  lean_off j k ne nr false h = refl
  lean_off j k ne nr true h =
      let r = (reaches b j k).0 h in
      let nk : k ≡ i → ⊥ = λ e. nr (subst (λ (x : ℕ). Reach (refers_m b) j x) e r) in
      rw (state_off k nk, thru-off k k nk (λ s. nr (join r s)))

  leaning-off : (j : ℕ) → (j ≡ i → ⊥) → (Reach (refers_m b) j i → ⊥)
      → leaning b.counts.specs (state_m b) (refers_m b) j ≡ leaning b.counts.specs (state_m after) (refers_m after) j
  unfolding leaning
  leaning-off j ne nr =
      any-cong b.counts.specs _ _
      (λ k hk. lean_off j k ne nr (thru (refers_m b) b.counts.specs j k) refl
      ∙ ap (λ (t : Bool). t && trouble b.counts.specs (state_m after) (refers_m after) k) (thru-off j k ne nr))

  pub standing-off : (j : ℕ) → (j ≡ i → ⊥) → (Reach (refers_m b) j i → ⊥) → standing_m b j ≡ standing_m after j
  unfolding standing filed_m
  standing-off j ne nr = rw (state_off j ne, thru-off j j ne nr, leaning-off j ne nr)

  untouched : (j : ℕ) → (j ≡ i → ⊥) → (Reach (refers_m b) j i → ⊥) → touched b i j ≡ false
  untouched j ne nr = go (thru (refers_m b) b.counts.specs j i) refl
    where
      go : (t : Bool) → thru (refers_m b) b.counts.specs j i ≡ t → (eqb j i || t) ≡ false
      go true h = absurd (nr ((reaches b j i).0 h))
      go false h = rw (ne_eqb j i ne)

  pub mark-off : (j : ℕ) → (j ≡ i → ⊥) → (Reach (refers_m b) j i → ⊥) → b.mark j ≡ after.mark j
  unfolding filed_m
  mark-off j ne nr = rw (untouched j ne nr)
