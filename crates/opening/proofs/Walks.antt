-- How walks are put together: their results, and what they leave in the table.
-- Assumes nothing.
use Prim.Native.Nat.{ℕ, zero, suc, ◌+◌, ◌-◌, ◌≤◌, ◌<◌}
use native.Mathlib.Omega.{arith}
use mathlib.Core.Path.{◌≡◌, refl, sym, ap, subst, ◌∙◌}
use mathlib.Core.List.{List, [], ◌++◌}
use lib.ListN.{length, length-append}
use Rattle.grammar.specs.Limits.{max_nodes}
use Rattle.grammar.specs.Judge.{Out, fault, done, bind, many}
use Rattle.grammar.specs.declared.Node.{Node}
use Rattle.grammar.proofs.Sound.{Holds, stopped, holds, holds_bind}
use Rattle.grammar.proofs.Bounds.{Ends, ends-many}
use Rattle.opening.specs.Means.{record_of, sealed, and_then, series}
use Rattle.opening.specs.Table.{put_of, stamp, small_of, seals_of, Sealed}
use Rattle.opening.specs.Walk.{leaves, walk_of, Walked}
use Rattle.opening.specs.declared.Head.{Head}
use Rattle.opening.specs.End.{Walk, Next, Stop}
use Rattle.opening.proofs.Opens.{series-more, series-same}
use Rattle.opening.proofs.Stamp.{length_stamp, stamp-append}

-- a walk does not both stop and go on
pub clash : {X : Type 0} {c p e m : ℕ} → Stop c p ≡ Next e m → X
clash q = let z : ◌≡◌ {A = ℕ} 0 1 = cc in absurd (omega arith)

-- ---- seal

-- the record of a node whose children are read, e and m where they end
pub seal_put : (n : ℕ) (h : Head) (at e m : ℕ) {o o' : List ℕ} → o' ≡ put_of o n (record_of h at m) → Sealed (Next e m) n h at (Next e m) o o'
unfolding seals_of
seal_put n h at e m p = record { result = refl; left = p }

pub seal_kept : (w : Walk) (n : ℕ) (h : Head) (at c p : ℕ) (o : List ℕ) → w ≡ Stop c p → Sealed w n h at (Stop c p) o o
unfolding seals_of
seal_kept w n h at c p o g = record { result = sym g; left = rw g }

-- ---- walks

pub walked_fault : (o : Out) (n c p : ℕ) (b : List ℕ) → o ≡ fault c p → Walked o n (Stop c p) b b
unfolding walk_of leaves
walked_fault o n c p b e = rw e record { result = refl; left = refl }

pub walked_is : (o q : Out) (n : ℕ) (r : Walk) (b b' : List ℕ) → o ≡ q → Walked q n r b b' → Walked o n r b b'
walked_is o q n r b b' e w = rw e w

-- the result as a match found it
pub found : (o : Out) (n : ℕ) (w v : Walk) (o₀ o₁ : List ℕ) → w ≡ v → Walked o n w o₀ o₁ → Walked o n v o₀ o₁
found o n w v o₀ o₁ e h = subst (λ (x : Walk). Walked o n x o₀ o₁) e h

-- the result and the table by other names
pub walked_as : (o : Out) (n : ℕ) (r r' : Walk) (o₀ o₁ o₂ : List ℕ) → o₂ ≡ o₁ → r' ≡ r → Walked o n r o₀ o₁ → Walked o n r' o₀ o₂
walked_as o n r r' o₀ o₁ o₂ e g h = rw (e, g) h

pub walked_length : (o : Out) (n : ℕ) (r : Walk) (o₀ o₁ : List ℕ) → Walked o n r o₀ o₁ → length o₁ ≡ length o₀
unfolding leaves
walked_length (fault c p) n r o₀ o₁ h = h.left
walked_length (done e m rs) n r o₀ o₁ h = ap length h.left ∙ length_stamp rs n o₀

pub still : (e m n : ℕ) (o : List ℕ) → Walked (done e m []) n (Next e m) o o
unfolding walk_of leaves stamp
still e m n o = record { result = refl; left = refl }

pub walked_seal : (o : Out) (n : ℕ) (h : Head) (at : ℕ) (w r : Walk) (o₀ o₁ o₂ : List ℕ) → Walked o (n + 1) w o₀ o₁ → Sealed w n h at r o₁ o₂ → Walked (sealed o h at) n r o₀ o₂
unfolding sealed seals_of walk_of leaves stamp
walked_seal (fault c p) n h at w r o₀ o₁ o₂ x s =
    record { result = s.result ∙ x.result; left = ap length (s.left ∙ ap (λ (v : Walk). seals_of v n h at o₁) x.result) ∙ x.left }
walked_seal (done e m rs) n h at w r o₀ o₁ o₂ x s =
    record {
      result = s.result ∙ x.result;
      left = s.left ∙ ap (λ (v : Walk). seals_of v n h at o₁) x.result ∙ ap (λ (l : List ℕ). put_of l n (record_of h at m)) x.left;
    }

pub walked_stop : (o : Out) (k : ℕ → ℕ → Out) (n c p : ℕ) (o₀ o₁ : List ℕ) → Walked o n (Stop c p) o₀ o₁ → Walked (and_then o k) n (Stop c p) o₀ o₁
unfolding and_then walk_of
walked_stop (fault c' p') k n c p o₀ o₁ h = h
walked_stop (done e m rs) k n c p o₀ o₁ h = clash h.result

walked_after : (q : Out) (n m : ℕ) (rs : List Node) (r : Walk) (o₀ o₁ o₂ : List ℕ) → m ≡ n + length rs → o₁ ≡ stamp n rs o₀ → Walked q m r o₁ o₂
    → Walked (bind q (λ e m' ts. done e m' (rs ++ ts))) n r o₀ o₂
unfolding walk_of leaves
walked_after (fault c p) n m rs r o₀ o₁ o₂ e s h = record { result = h.result; left = h.left ∙ ap length s ∙ length_stamp rs n o₀ }
walked_after (done e' m' qs) n m rs r o₀ o₁ o₂ e s h =
    record { result = h.result; left = h.left ∙ ap (λ (k : ℕ). stamp k qs o₁) e ∙ ap (stamp (n + length rs) qs) s ∙ stamp-append rs qs n o₀ }

pub walked_then : (o : Out) (k : ℕ → ℕ → Out) (n e m : ℕ) (r : Walk) (o₀ o₁ o₂ : List ℕ) → Holds (Ends n) o → Walked o n (Next e m) o₀ o₁ → Walked (k e m) m r o₁ o₂ → Walked (and_then o k) n r o₀ o₂
unfolding and_then walk_of leaves
walked_then (fault c p) k n e m r o₀ o₁ o₂ g h w = clash (sym h.result)
walked_then (done e₁ m₁ rs) k n e m r o₀ o₁ o₂ (holds g) h w =
    let x : Next e m ≡ Next e₁ m₁ = h.result in
    let a : e ≡ e₁ = cc in
    let b : m ≡ m₁ = cc in
    walked_after (k e₁ m₁) n m₁ rs r o₀ o₁ o₂ g.1 h.left
    (subst (λ (j : ℕ). Walked (k e₁ j) j r o₁ o₂) b (subst (λ (i : ℕ). Walked (k i m) m r o₁ o₂) a w))

pub walked_small : (o : Out) (n : ℕ) (w : Walk) (o₀ o₁ : List ℕ) → Holds (Ends n) o → Walked o n w o₀ o₁ → small_of w
unfolding walk_of
walked_small (fault c p) n w o₀ o₁ g h = subst small_of (sym h.result) tt
walked_small (done e m rs) n w o₀ o₁ (holds g) h = subst small_of (sym h.result) (omega (arith, g.0))

-- the index after a walk that went on
pub walked_next : (o : Out) (n e m : ℕ) (o₀ o₁ : List ℕ) → Holds (Ends n) o → Walked o n (Next e m) o₀ o₁ → m ≤ max_nodes
walked_next o n e m o₀ o₁ g h = walked_small o n (Next e m) o₀ o₁ g h

-- the index before it
pub walked_first : (o : Out) (n e m : ℕ) (o₀ o₁ : List ℕ) → Holds (Ends n) o → Walked o n (Next e m) o₀ o₁ → n ≤ max_nodes
unfolding walk_of
walked_first (fault c p) n e m o₀ o₁ g h = clash (sym h.result)
walked_first (done e₁ m₁ rs) n e m o₀ o₁ (holds g) h = omega (arith, g.0, g.1)

-- ---- a loop over a count, whose first item may be another

module _ (f g : ℕ → ℕ → Out) (left e m : ℕ) (w : Walk) (o o₁ : List ℕ) (h : 0 < left) (x : Walked (f e m) m w o o₁) where
  unrolled : series f g left e m ≡ and_then (f e m) (many g (left - 1))
  unrolled = let z : left ≡ left - 1 + 1 = omega arith in ap (λ (k : ℕ). series f g k e m) z ∙ series-more f g (left - 1) e m

  pub series-stop : (c q : ℕ) → w ≡ Stop c q → Walked (series f g left e m) m (Stop c q) o o₁
  series-stop c q u = walked_is _ _ m _ o o₁ unrolled (walked_stop _ _ m c q o o₁ (found _ m w _ o o₁ u x))

  pub series-next : Holds (Ends m) (f e m) → (e₂ m₂ : ℕ) → w ≡ Next e₂ m₂ → (r : Walk) (fin : List ℕ) → Walked (series g g (left - 1) e₂ m₂) m₂ r o₁ fin → Walked (series f g left e m) m r o fin
  series-next g₀ e₂ m₂ u r fin y =
      walked_is _ _ m r o fin unrolled
      (walked_then _ (many g (left - 1)) m e₂ m₂ r o o₁ fin g₀ (found _ m w _ o o₁ u x) (walked_is _ _ m₂ r o₁ fin (sym (series-same g (left - 1) e₂ m₂)) y))

pub series-end : (f g : ℕ → ℕ → Out) (left e m : ℕ) (o : List ℕ) → left ≤ 0 → Walked (series f g left e m) m (Next e m) o o
unfolding series
series-end f g zero e m o h = still e m m o
series-end f g (suc i) e m o h = absurd (omega arith)

pub ends-series : (f g : ℕ → ℕ → Out) → ((at n : ℕ) → Holds (Ends n) (f at n)) → ((at n : ℕ) → Holds (Ends n) (g at n)) → (k at n : ℕ) → n ≤ max_nodes → Holds (Ends n) (series f g k at n)
unfolding series and_then
ends-series f g a b zero at n j = holds {rs = []} (j, omega arith)
ends-series f g a b (suc k) at n j = go (f at n) (a at n)
  where
    go : (o : Out) → Holds (Ends n) o → Holds (Ends n) (and_then o (many g k))
    go (fault c p) h = stopped
    go (done e m rs) (holds h) = holds_bind (many g k e m) _ (ends-many g b k e m h.0) (λ e₂ m₂ ts q. holds {rs = rs ++ ts} (q.0, omega (arith, h, q, length-append rs ts)))

-- ---- a loop over a count, of one sort of item

module _ (f : ℕ → ℕ → Out) (left e m : ℕ) (w : Walk) (o o₁ : List ℕ) (h : 0 < left) (x : Walked (f e m) m w o o₁) where
  pub loop_stop : (c q : ℕ) → w ≡ Stop c q → Walked (many f left e m) m (Stop c q) o o₁
  loop_stop c q u = walked_is _ _ m _ o o₁ (sym (series-same f left e m)) (series-stop f f left e m w o o₁ h x c q u)

  pub loop_more : Holds (Ends m) (f e m) → (e₂ m₂ : ℕ) → w ≡ Next e₂ m₂ → (r : Walk) (fin : List ℕ) → Walked (many f (left - 1) e₂ m₂) m₂ r o₁ fin → Walked (many f left e m) m r o fin
  loop_more g₀ e₂ m₂ u r fin y =
      walked_is _ _ m r o fin (sym (series-same f left e m))
      (series-next f f left e m w o o₁ h x g₀ e₂ m₂ u r fin (walked_is _ _ m₂ r o₁ fin (series-same f (left - 1) e₂ m₂) y))

pub loop_end : (f : ℕ → ℕ → Out) (left e m : ℕ) (o : List ℕ) → left ≤ 0 → Walked (many f left e m) m (Next e m) o o
loop_end f left e m o h = walked_is _ _ m _ o o (sym (series-same f left e m)) (series-end f f left e m o h)
