-- An array behind its type: what is read there, and the record that it gives, in a table that has the type's records already.
-- Assumes nothing.
use Prim.Native.Nat.{ℕ, ◌+◌, ◌≤◌, ◌<◌}
use native.Mathlib.Omega.{arith}
use mathlib.Core.Path.{◌≡◌, refl, sym, ap, subst, ◌∙◌}
use mathlib.Core.List.{List, [], ◌∷◌, ◌++◌, append_assoc}
use lib.ListN.{length, length-append}
use borrow.Author.Tests.{lt-ltb, le-ltb, le-leb}
use Rattle.number.specs.Checked.{Checked, checked_at, count_at}
use Rattle.std.specs.Prelude.{Result, Ok, Err}
use Rattle.answer.specs.Refusal.{number_of, fault_at}
use Rattle.answer.specs.declared.refusal.Fault.{Fault}
use Rattle.answer.specs.declared.refusal.Refusal.{Refusal}
use Rattle.number.specs.Number.{found}
use Rattle.number.specs.declared.token.Counts.{Counts}
use Rattle.number.proofs.Checks.{checked-through}
use Rattle.element.specs.declared.Place.TheVariants as Place
use Rattle.grammar.specs.Limits.{max_nodes, max_rank}
use Rattle.grammar.specs.Table.{entry}
use Rattle.grammar.specs.Judge.{Out, fault, done, bind, numbered, many, bound, size, low, Reader, array}
use Rattle.grammar.specs.declared.Node.{Node}
use Rattle.grammar.proofs.Sound.{Holds, holds}
use Rattle.grammar.proofs.Bounds.{Ends, ends-bound}
use Rattle.opening.specs.Open.{head_of}
use Rattle.opening.specs.Means.{record_of, sealed}
use Rattle.opening.specs.Table.{put_of, stamp, seals_of, Sealed}
use Rattle.opening.specs.Walk.{leaves, walk_of, Walked}
use Rattle.opening.specs.Shape.{shape, bound_at, lows_at, shape_at, sealing, Shaped}
use Rattle.opening.specs.declared.Head.{Head}
use Rattle.opening.specs.End.{Walk, Next, Stop}
use Rattle.opening.specs.declared.shape.Shape.{Shape}
use Rattle.opening.proofs.Stamp.{length_stamp, stamp-append}
use Rattle.opening.proofs.Walks.{clash, walked_fault, walked_is, still, walked_seal}

-- ---- bound_of

module _ (kind d v next at n : ℕ) where
  pub bound-deep : (o : List ℕ) → d ≡ 0 → Walked (bound kind d (found v next) at n) n (Stop 6 at) o o
  bound-deep o z = walked_fault _ n 6 at o (rw z)

  pub bound-full : (o : List ℕ) → (d ≡ 0 → ⊥) → max_nodes ≤ n → Walked (bound kind d (found v next) at n) n (Stop 10 at) o o
  bound-full o z j = let i : 1 ≤ d = omega arith in walked_fault _ n 10 at o (rw (le-leb 1 d i, le-ltb n max_nodes j))

  pub bound-done : (r : Walk) (o o₁ : List ℕ) → (d ≡ 0 → ⊥) → n < max_nodes → Sealed (Next next (n + 1)) n (head_of kind v 0 0) at r o o₁ → Walked (bound kind d (found v next) at n) n r o o₁
  unfolding sealed
  bound-done r o o₁ z j q =
      let i : 1 ≤ d = omega arith in
      walked_is _ (sealed (done next (n + 1) []) (head_of kind v 0 0) at) n r o o₁ (rw (le-leb 1 d i, lt-ltb n max_nodes j))
      (walked_seal _ n _ at _ r o o o₁ (still next (n + 1) (n + 1) o) q)

-- ---- bound_at. y is what reading the number gave, and its contract says that it is x

module _ (kind d at n : ℕ) (y x : Checked) (e : y ≡ x) where
  pub bound-bad : (c : Refusal) (o : List ℕ) → y ≡ Err c → Walked (bound kind d x at n) n (Stop (number_of c) at) o o
  bound-bad c o g = walked_fault _ n (number_of c) at o (rw (sym e ∙ g))

  pub bound-good : (v next : ℕ) (r : Walk) (o o₁ : List ℕ) → y ≡ found v next → Walked (bound kind d (found v next) at n) n r o o₁ → Walked (bound kind d x at n) n r o o₁
  bound-good v next r o o₁ g w = walked_is _ _ n r o o₁ (ap (λ (c : Checked). bound kind d c at n) (sym e ∙ g)) w

pub ends-bound_at : (kind d : ℕ) (s : List ℕ) (at n : ℕ) → Holds (Ends n) (bound_at kind d s at n)
ends-bound_at kind d s at n = ends-bound kind d (checked_at s at) at n

-- ---- shape_at and lows_at

-- a refusal leaves the table's length
shaped_fault : (m : ℕ) (f : Fault) (o o₁ : List ℕ) → length o₁ ≡ length o → Shaped (λ at rs. fault (number_of f.refusal) f.place) m (Err f) o o₁
unfolding sealing walk_of leaves
shaped_fault m f o o₁ h at n rs table a b = record { result = refl; left = h ∙ ap length b ∙ length_stamp rs (n + 1) table }

-- the result by another name
pub shaped_as : (k : ℕ → List Node → Out) (m : ℕ) {r r' : Result Shape Fault} (o o₁ : List ℕ) → r ≡ r' → Shaped k m r' o o₁ → Shaped k m r o o₁
shaped_as k m o o₁ e h = subst (λ (x : Result Shape Fault). Shaped k m x o o₁) (sym e) h

-- y is what reading a number gave, and its contract says that it is x
module _ (y x : Checked) (e : y ≡ x) (m from : ℕ) (k : ℕ → List Node → ℕ → ℕ → Out) where
  pub shape_bad : (c : Refusal) (o : List ℕ) → y ≡ Err c → Shaped (λ at rs. numbered x from (k at rs)) m (Err (fault_at c from)) o o
  shape_bad c o g = rw (sym e ∙ g) (shaped_fault m (fault_at c from) o o refl)

  pub shape_good : (v next : ℕ) (r : Result Shape Fault) (o o₁ : List ℕ) → y ≡ found v next → Shaped (λ at rs. k at rs v next) m r o o₁ → Shaped (λ at rs. numbered x from (k at rs)) m r o o₁
  shape_good v next r o o₁ g h = rw (sym e ∙ g) h

-- w is what walking over the SIZEs or the LOWs gave
module _ (m : ℕ) (w : Walk) (o o₁ : List ℕ) where
  pub shape_stop : (q : Out) (k : ℕ → List Node → ℕ → ℕ → List Node → Out) → Walked q m w o o₁ → (f : Fault) → w ≡ Stop (number_of f.refusal) f.place → Shaped (λ at rs. bind q (k at rs)) m (Err f) o o₁
  unfolding walk_of leaves
  shape_stop (fault c p) k x f g =
      let z : Stop (number_of f.refusal) f.place ≡ Stop c p = sym g ∙ x.result in
      let u : number_of f.refusal ≡ c = cc in
      let v : f.place ≡ p = cc in
      rw (← u, ← v) (shaped_fault m f o o₁ x.left)
  shape_stop (done e i ss) k x f g = clash (sym g ∙ x.result)

  -- they stand in the table behind the records before them
  pub shape_then : (q : Out) (k : ℕ → ℕ → ℕ → List Node → Out) → Holds (Ends m) q → Walked q m w o o₁ → (e i : ℕ) → w ≡ Next e i → (r : Result Shape Fault) (o₂ : List ℕ) → Shaped (k e i) i r o₁ o₂
      → Shaped (λ at rs. bind q (λ e i ss. k e i at (rs ++ ss))) m r o o₂
  unfolding walk_of leaves
  shape_then (fault c p) k h x e i g r o₂ y = clash (sym x.result ∙ g)
  shape_then (done e₁ i₁ ss) k (holds h) x e i g r o₂ y =
      let z : Next e i ≡ Next e₁ i₁ = sym g ∙ x.result in
      let u : e ≡ e₁ = cc in
      let v : i ≡ i₁ = cc in
      λ at n rs table a b.
      subst (λ (j : ℕ). sealing (k e₁ j at (rs ++ ss)) n at r table o₂) v
      (subst (λ (j : ℕ). sealing (k j i at (rs ++ ss)) n at r table o₂) u
      (y at n (rs ++ ss) table (omega (arith, h, a, v, length-append rs ss)) (x.left ∙ rw (a, b) (stamp-append rs ss (n + 1) table))))

  -- the last of them, with which the array's own numbers are known
  pub shape_done : (q : Out) (h : Head) → Holds (Ends m) q → Walked q m w o o₁ → (e i : ℕ) → w ≡ Next e i
      → Shaped (λ at rs. bind q (λ e i ls. done e i (record_of h at i ∷ (rs ++ ls)))) m (Ok (shape h e i)) o o₁
  unfolding sealing walk_of leaves seals_of stamp
  shape_done (fault c p) h f x e i g = clash (sym x.result ∙ g)
  shape_done (done e₁ i₁ ls) h (holds f) x e i g =
      let z : Next e i ≡ Next e₁ i₁ = sym g ∙ x.result in
      let v : i ≡ i₁ = cc in
      λ at n rs table a b. (
        omega (arith, f.0, v),
        λ r fin y. record {
          result = y.result ∙ z;
          left = y.left ∙ ap (λ (j : ℕ). put_of o₁ n (record_of h at j)) v ∙ ap (λ (l : List ℕ). put_of l n (record_of h at i₁)) (x.left ∙ rw (a, b) (stamp-append rs ls (n + 1) table));
        },
      )

-- ---- an array: w is what walking over its type gave, and t what reading its shape did

module _ (k : ℕ → ℕ → ℕ → List Node → Out) (at n : ℕ) (w : Walk) (o o₁ : List ℕ) where
  pub typed_stop : (q : Out) → Walked q (n + 1) w o o₁ → (c p : ℕ) → w ≡ Stop c p → Walked (bind q (λ e m. k e m at)) n (Stop c p) o o₁
  unfolding walk_of leaves
  typed_stop (fault c' p') x c p g = record { result = sym g ∙ x.result; left = x.left }
  typed_stop (done e m ts) x c p g = clash (sym g ∙ x.result)

  pub typed_shape : (q : Out) → Holds (Ends (n + 1)) q → Walked q (n + 1) w o o₁ → (e m : ℕ) → w ≡ Next e m → (t : Result Shape Fault) (o₂ : List ℕ) → Shaped (k e m) m t o₁ o₂
      → sealing (bind q (λ e m. k e m at)) n at t o o₂
  unfolding walk_of leaves
  typed_shape (fault c p) h x e m g t o₂ y = clash (sym x.result ∙ g)
  typed_shape (done e₁ m₁ ts) (holds h) x e m g t o₂ y =
      let z : Next e m ≡ Next e₁ m₁ = sym g ∙ x.result in
      let u : e ≡ e₁ = cc in
      let v : m ≡ m₁ = cc in
      subst (λ (j : ℕ). sealing (k e₁ j at ts) n at t o o₂) v (subst (λ (j : ℕ). sealing (k j m at ts) n at t o o₂) u (y at n ts o (omega (arith, h, v)) x.left))

-- ---- what they mean for the grammar

bind-same : (o : Out) (k h : ℕ → ℕ → List Node → Out) → ((e m : ℕ) (rs : List Node) → k e m rs ≡ h e m rs) → bind o k ≡ bind o h
bind-same (fault c p) k h f = refl
bind-same (done e m rs) k h f = f e m rs

number_same : (o : Checked) (from : ℕ) (k h : ℕ → ℕ → Out) → ((v next : ℕ) → k v next ≡ h v next) → numbered o from k ≡ numbered o from h
number_same o from k h f = checked-through (λ x. x) o f (λ refusal. refl)

-- an array is its type, and what stands behind it
pub array_shape : (read : Reader) (d : ℕ) (s : List ℕ) (counts : Counts) (kind at n : ℕ)
    → array read d s counts kind at n ≡ bind (read counts Place.Type (at + 1) (n + 1)) (λ e m. shape_at d s kind e m at)
unfolding shape_at lows_at
array_shape read d s counts kind at n =
    bind-same (read counts Place.Type (at + 1) (n + 1)) _ _
    (λ at₁ n₁ ts. number_same (count_at 1 max_rank s at₁) at₁ _ _
    (λ rank at₂. number_same (count_at 0 rank s at₂) at₂ _ _
    (λ sizes at₃. bind-same (many (size d s) sizes at₃ n₁) _ _
    (λ at₄ n₂ ss. number_same (count_at 0 rank s at₄) at₄ _ _
    (λ lows at₅. bind-same (many (low d s) lows at₅ n₂) _ _
    (λ at₆ n₃ ls. ap (λ (l : List Node). done at₆ n₃ (entry kind rank sizes (1 + sizes + lows) at n₃ ∷ l)) (sym (append_assoc ts ss ls))))))))
