-- `thru` decides reaching, for any number of rows; and what a change of one row's references does to reaching.
-- Assumes nothing.
use Prim.Native.Nat.{ℕ, zero, suc, ◌<◌, ◌≤◌}
use mathlib.Core.Path.{◌≡◌, sym, ◌∙◌, subst}
use mathlib.Core.Bool.{true, ◌&&◌}
use mathlib.Core.Logic.{◌⊎◌, inl, inr, ⊎_elim, by_cases, ◌↔◌}
use native.Mathlib.Omega.{arith}
use native.Mathlib.Decide.{ℕ_discrete}
use Rattle.bits.proofs.Bools.{or_cases, and_both, or_left, or_right, both}
use Rattle.reach.specs.Reach.{Graph, Reach, one, step, thru}

-- chains one after the other
pub join : {g : Graph} {r m s : ℕ} → Reach g r m → Reach g m s → Reach g r s
join (one e) q = step e q
join (step e p) q = step e (join p q)

module _ (g : Graph) where
  pub thru-sound : (k r s : ℕ) → thru g k r s ≡ true → Reach g r s
  unfolding thru
  thru-sound zero r s h = one h
  thru-sound (suc k) r s h =
      ⊎_elim (thru-sound k r s)
      (λ b. let p = and_both (thru g k r k) (thru g k k s) b in join (thru-sound k r k p.0) (thru-sound k k s p.1))
      (or_cases (thru g k r s) (thru g k r k && thru g k k s) h)

  pub thru-one : (k r s : ℕ) → g r s ≡ true → thru g k r s ≡ true
  unfolding thru
  thru-one zero r s h = h
  thru-one (suc k) r s h = or_left (thru g k r k && thru g k k s) (thru-one k r s h)

  pub thru-more : (k r s : ℕ) → thru g k r s ≡ true → thru g (suc k) r s ≡ true
  unfolding thru
  thru-more k r s h = or_left (thru g k r k && thru g k k s) h

  pub thru-by : (k r s : ℕ) → thru g k r k ≡ true → thru g k k s ≡ true → thru g (suc k) r s ≡ true
  unfolding thru
  thru-by k r s h h' = or_right (thru g k r s) (both h h')

  -- what the bound's row is reached from, or reaches, does not grow in its own step
  pub thru-to : (k r : ℕ) → thru g (suc k) r k ≡ true → thru g k r k ≡ true
  unfolding thru
  thru-to k r h = ⊎_elim (λ a. a) (λ b. (and_both (thru g k r k) (thru g k k k) b).0) (or_cases (thru g k r k) (thru g k r k && thru g k k k) h)

  pub thru-from : (k s : ℕ) → thru g (suc k) k s ≡ true → thru g k k s ≡ true
  unfolding thru
  thru-from k s h = ⊎_elim (λ a. a) (λ b. (and_both (thru g k k k) (thru g k k s) b).1) (or_cases (thru g k k s) (thru g k k k && thru g k k s) h)

  split : (k r s : ℕ) → thru g (suc k) r s ≡ true → (thru g k r s ≡ true) ⊎ ((thru g k r k ≡ true) × (thru g k k s ≡ true))
  unfolding thru
  split k r s h =
      ⊎_elim inl (λ b. inr (and_both (thru g k r k) (thru g k k s) b)) (or_cases (thru g k r s) (thru g k r k && thru g k k s) h)

  Trans : ℕ → Type 0
  Trans k = (r m s : ℕ) → m < k → thru g k r m ≡ true → thru g k m s ≡ true → thru g k r s ≡ true

  trans_low : (k : ℕ) → Trans k → (r m s : ℕ) → m < k → thru g (suc k) r m ≡ true → thru g (suc k) m s ≡ true → thru g (suc k) r s ≡ true
  unfolding Trans
  trans_low k ih r m s l p q =
      ⊎_elim
      (λ a. ⊎_elim (λ b. thru-more k r s (ih r m s l a b)) (λ b. thru-by k r s (ih r m k l a b.0) b.1) (split k m s q))
      (λ a. ⊎_elim (λ b. thru-by k r s a.0 (ih k m s l a.1 b)) (λ b. thru-by k r s a.0 b.1) (split k m s q))
      (split k r m p)

  trans_at : (k r m s : ℕ) → m ≡ k → thru g (suc k) r m ≡ true → thru g (suc k) m s ≡ true → thru g (suc k) r s ≡ true
  trans_at k r m s e p q =
      thru-by k r s (thru-to k r (subst (λ (x : ℕ). thru g (suc k) r x ≡ true) e p)) (thru-from k s (subst (λ (x : ℕ). thru g (suc k) x s ≡ true) e q))

  pub thru-trans : (k r m s : ℕ) → m < k → thru g k r m ≡ true → thru g k m s ≡ true → thru g k r s ≡ true
  unfolding Trans
  thru-trans zero r m s h p q = absurd (omega arith)
  thru-trans (suc k) r m s h p q =
      by_cases (ℕ_discrete m k) (λ e. trans_at k r m s e p q) (λ ne. trans_low k (thru-trans k) r m s (omega arith) p q)

  -- over n rows, where no reference leaves them, `thru g n` decides reaching
  pub thru-complete : (n : ℕ) → ((r s : ℕ) → g r s ≡ true → s < n) → {r s : ℕ} → Reach g r s → thru g n r s ≡ true
  thru-complete n within {r} {s} (one e) = thru-one n r s e
  thru-complete n within {r} {s} (step {m = m} e p) = thru-trans n r m s (within r m e) (thru-one n r m e) (thru-complete n within p)

  pub thru-decides : (n : ℕ) → ((r s : ℕ) → g r s ≡ true → s < n) → (r s : ℕ) → (thru g n r s ≡ true) ↔ Reach g r s
  thru-decides n within r s = (thru-sound n r s, thru-complete n within)

-- ---- a change of one row's references
-- two graphs that agree but for what row q refers to
abbrev pub AgreeOff : ℕ → Graph → Graph → Type 0
AgreeOff q g g' = (r s : ℕ) → (r ≡ q → ⊥) → g r s ≡ g' r s

-- whoever reaches q, other than q, reaches it after the change too: "reaches q" before and after the filing of q agree
pub reach_to : {g g' : Graph} {r q : ℕ} → AgreeOff q g g' → Reach g r q → (r ≡ q) ⊎ Reach g' r q
reach_to {r = r} {q} a (one e) = by_cases (ℕ_discrete r q) inl (λ ne. inr (one (sym (a r q ne) ∙ e)))
reach_to {g' = h} {r = r} {q} a (step {m = m} e p) =
    by_cases (ℕ_discrete r q) inl
    (λ ne. inr
    (⊎_elim (λ (em : m ≡ q). one (subst (λ (x : ℕ). h r x ≡ true) em (sym (a r m ne) ∙ e))) (λ t. step (sym (a r m ne) ∙ e) t) (reach_to a p)))

-- a row that does not reach q keeps all its chains
pub reach_off : {g g' : Graph} {r q s : ℕ} → AgreeOff q g g' → (r ≡ q → ⊥) → (Reach g r q → ⊥) → Reach g r s → Reach g' r s
reach_off {r = r} {s = s} a ne nr (one e) = one (sym (a r s ne) ∙ e)
reach_off {g} {r = r} {q} {s = s} a ne nr (step {m = m} e p) =
    step (sym (a r m ne) ∙ e) (reach_off a (λ (em : m ≡ q). nr (one (subst (λ (x : ℕ). g r x ≡ true) em e))) (λ t. nr (step e t)) p)

-- ---- graphs that agree among the first n rows reach alike there
pub thru-cong : (n : ℕ) (g h : Graph) → ((r s : ℕ) → r < n → s < n → g r s ≡ h r s) → (k : ℕ) → k ≤ n → (r s : ℕ) → r < n → s < n → thru g k r s ≡ thru h k r s
unfolding thru
thru-cong n g h e zero hk r s hr hs = e r s hr hs
thru-cong n g h e (suc k) hk r s hr hs =
    rw
    (thru-cong n g h e k (omega arith) r s hr hs, thru-cong n g h e k (omega arith) r k hr (omega arith), thru-cong n g h e k (omega arith) k s (omega arith) hs)
