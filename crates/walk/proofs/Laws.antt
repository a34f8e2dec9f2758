-- Chains of nodes with one child each, and arrays, in the walk.
-- Assumes nothing.
use Prim.Native.Nat.{ℕ, zero, suc, ◌+◌, ◌-◌, ◌*◌, ◌≤◌, ◌<◌}
use native.Mathlib.Nat.{suc-mul}
use native.Mathlib.Omega.{arith}
use mathlib.Core.Path.{◌≡◌, refl, sym, ap, subst, ◌∙◌}
use mathlib.Core.List.{List}
use lib.ListN.{length}
use Rattle.number.specs.declared.token.Counts.{Counts}
use Rattle.element.specs.declared.Place.TheVariants as Place
use Rattle.grammar.specs.Limits.{max_nodes}
use Rattle.grammar.specs.Judge.{Out, fault, done, bind, array, node}
use Rattle.grammar.proofs.Sound.{Holds}
use Rattle.grammar.proofs.Bounds.{Ends, ends-node}
use Rattle.opening.specs.Means.{record_of, sealed, series}
use Rattle.opening.specs.Table.{put_of, put_after, close_of, stamp, seals_of, Sealed}
use Rattle.opening.specs.Walk.{leaves, walk_of, Walked}
use Rattle.opening.specs.Shape.{shape_at, sealing, Shaped}
use Rattle.opening.specs.declared.Head.{Head}
use Rattle.std.specs.Prelude.{Result, Ok, Err}
use Rattle.answer.specs.Refusal.{number_of}
use Rattle.answer.specs.declared.refusal.Fault.{Fault}
use Rattle.opening.specs.End.{Walk, Next, Stop}
use Rattle.opening.specs.declared.shape.Shape.{Shape}
use Rattle.opening.proofs.Stamp.{length_put, stamp-put, put-after}
use Rattle.opening.proofs.Walks.{clash, series-stop, series-next}
use Rattle.opening.proofs.Shapes.{array_shape, typed_stop, typed_shape}

-- ---- a node with one child: its record is put before the child is read, and corrected after

module _ (o : Out) (n : ℕ) (h : Head) (at next : ℕ) (v w : Walk) (o₀ o₁ o₂ : List ℕ) (s : Sealed (Next next (n + 1)) n h at v o₀ o₁) (x : Walked o (n + 1) w o₁ o₂) where
  put_first : o₁ ≡ put_of o₀ n (record_of h at (n + 1))
  unfolding seals_of
  put_first = s.left

  pub link_stop : (c p : ℕ) → w ≡ Stop c p → Walked (sealed o h at) n (Stop c p) o₀ o₂
  unfolding sealed walk_of leaves
  link_stop c p g = stops o x
    where
      stops : (q : Out) → Walked q (n + 1) w o₁ o₂ → Walked (sealed q h at) n (Stop c p) o₀ o₂
      stops (fault c' p') y = record { result = sym g ∙ y.result; left = y.left ∙ ap length put_first ∙ length_put o₀ n _ }
      stops (done e m rs) y = clash (sym g ∙ y.result)

  pub link_next : (e m : ℕ) → w ≡ Next e m → Walked (sealed o h at) n (Next e m) o₀ (put_after o₂ n m)
  unfolding sealed walk_of leaves stamp
  link_next e m g = goes o x
    where
      goes : (q : Out) → Walked q (n + 1) w o₁ o₂ → Walked (sealed q h at) n (Next e m) o₀ (put_after o₂ n m)
      goes (fault c p) y = clash (sym y.result ∙ g)
      goes (done e₁ m₁ rs) y =
          let z : Next e m ≡ Next e₁ m₁ = sym g ∙ y.result in
          let a : e ≡ e₁ = cc in
          let b : m ≡ m₁ = cc in
          record {
            result = z;
            left =
                ap (λ (l : List ℕ). put_after l n m) (y.left ∙ ap (stamp (n + 1) rs) put_first ∙ stamp-put rs n (n + 1) _ o₀ (omega arith))
                ∙ put-after (stamp (n + 1) rs o₀) n h.kind h.a h.b h.children at (n + 1) m
                ∙ ap (λ (k : ℕ). put_of (stamp (n + 1) rs o₀) n (record_of h at k)) b;
          }

-- what is still to come in a loop whose next item is read in part: k nodes with one child each are put, and the node behind them is next. Whatever
-- ends it, with the k records corrected, and then the rest of the loop, is an end G of the whole
pub record Pending (G : Walk → List ℕ → Type 0) (item : Out) (rest : ℕ → ℕ → Out) (n k : ℕ) (out : List ℕ) : Type 0 where
  pub stops : (w : Walk) (o : List ℕ) → Walked item n w out o → (c p : ℕ) → w ≡ Stop c p → G (Stop c p) o
  pub goes : (w : Walk) (o : List ℕ) → Walked item n w out o → (e m : ℕ) → w ≡ Next e m → (r : Walk) (fin : List ℕ) → Walked (rest e m) m r (close_of o n k m) fin → G r fin

module _ (G : Walk → List ℕ → Type 0) (rest : ℕ → ℕ → Out) (n k : ℕ) where
  -- one node more is put
  pub pending_link : (o : Out) (h : Head) (at next j : ℕ) (v : Walk) (o₀ o₁ : List ℕ) → j ≡ suc k → Sealed (Next next (n + 1)) n h at v o₀ o₁ → Pending G (sealed o h at) rest n k o₀ → Pending G o rest (n + 1) j o₁
  unfolding close_of
  pending_link o h at next j v o₀ o₁ a s x =
      let b : n + 1 - 1 ≡ n = omega arith in
      record {
        stops = λ w o₂ y c p g. x.stops (Stop c p) o₂ (link_stop o n h at next v w o₀ o₁ o₂ s y c p g) c p refl;
        goes = λ w o₂ y e m g r fin z.
            x.goes (Next e m) (put_after o₂ n m) (link_next o n h at next v w o₀ o₁ o₂ s y e m g) e m refl r fin
            (subst (λ (i : ℕ). Walked (rest e m) m r (close_of (put_after o₂ i m) i k m) fin) b (subst (λ (i : ℕ). Walked (rest e m) m r (close_of o₂ (n + 1) i m) fin) a z));
      }

  -- its end
  pub pending_end : (item : Out) (out : List ℕ) → Pending G item rest n k out → (w : Walk) (o : List ℕ) → Walked item n w out o → (e m : ℕ) → w ≡ Next e m
      → (o₁ : List ℕ) → o₁ ≡ close_of o n k m → (r : Walk) (fin : List ℕ) → Walked (rest e m) m r o₁ fin → G r fin
  pending_end item out x w o y e m g o₁ z r fin u = x.goes w o y e m g r fin (subst (λ (l : List ℕ). Walked (rest e m) m r l fin) z u)

  pub pending_is : (o q : Out) (out : List ℕ) → o ≡ q → Pending G o rest n k out → Pending G q rest n k out
  pending_is o q out e x = subst (λ (y : Out). Pending G y rest n k out) e x

-- an item of which nothing is read yet
pub pending_item : (G : Walk → List ℕ → Type 0) (f g : ℕ → ℕ → Out) (left e m k : ℕ) (out : List ℕ) → 0 < left → k ≡ 0 → Holds (Ends m) (f e m)
    → ((r : Walk) (fin : List ℕ) → Walked (series f g left e m) m r out fin → G r fin) → Pending G (f e m) (series g g (left - 1)) m k out
unfolding close_of
pending_item G f g left e m k out h z ends x =
    record {
      stops = λ w o y c p u. x (Stop c p) o (series-stop f g left e m w out o h y c p u);
      goes = λ w o y e₂ m₂ u r fin v.
          x r fin (series-next f g left e m w out o h y ends e₂ m₂ u r fin (subst (λ (i : ℕ). Walked (series g g (left - 1) e₂ m₂) m₂ r (close_of o m i m₂) fin) z v));
    }

-- what falls from one turn of such a loop to the next: the levels left or, with all of them given back, the items left
pub fewer_levels : (x deep : ℕ) → 0 < deep → x + (deep - 1) < x + deep
fewer_levels x deep h = omega arith

pub fewer_items : (left d deep : ℕ) → 0 < left → (left - 1) * (d + 1) + d < left * (d + 1) + deep
fewer_items zero d deep h = absurd (omega arith)
fewer_items (suc k) d deep h = let e : suc k - 1 ≡ k = omega arith in rw (e, suc-mul k (d + 1)) (under (k * (d + 1)))
  where
    under : (x : ℕ) → x + d < x + (d + 1) + deep
    under x = omega arith

-- ---- array_at

module _ (d : ℕ) (s : List ℕ) (counts : Counts) (kind at n : ℕ) (w : Walk) (o o₁ : List ℕ) (x : Walked (node d s counts Place.Type (at + 1) (n + 1)) (n + 1) w o o₁) where
  pub array-stop : (c q : ℕ) → w ≡ Stop c q → Walked (array (node d s) d s counts kind at n) n (Stop c q) o o₁
  array-stop c q g = rw (array_shape (node d s) d s counts kind at n) (typed_stop (shape_at d s kind) at n w o o₁ _ x c q g)

  module _ (e m : ℕ) (g : w ≡ Next e m) (t : Result Shape Fault) (o₂ : List ℕ) (y : Shaped (shape_at d s kind e m) m t o₁ o₂) where
    -- by what its shape gave
    array-by : (v : Result Shape Fault) → t ≡ v → sealing (array (node d s) d s counts kind at n) n at v o o₂
    array-by v u =
        rw (array_shape (node d s) d s counts kind at n)
        (subst (λ (v : Result Shape Fault). sealing (bind (node d s counts Place.Type (at + 1) (n + 1)) (λ e m. shape_at d s kind e m at)) n at v o o₂) u
        (typed_shape (shape_at d s kind) at n w o o₁ _ (ends-node s d counts Place.Type (at + 1) (n + 1)) x e m g t o₂ y))

    pub array-cut : (f : Fault) → t ≡ Err f → Walked (array (node d s) d s counts kind at n) n (Stop (number_of f.refusal) f.place) o o₂
    unfolding sealing
    array-cut f u = array-by _ u

    pub array-small : (x : Shape) → t ≡ Ok x → x.end.node ≤ max_nodes
    unfolding sealing
    array-small x u = (array-by _ u).0

    pub array-done : (x : Shape) → t ≡ Ok x → (r : Walk) (o₃ : List ℕ) → Sealed (Next x.end.at x.end.node) n x.head at r o₂ o₃ → Walked (array (node d s) d s counts kind at n) n r o o₃
    unfolding sealing
    array-done x u = (array-by _ u).1
