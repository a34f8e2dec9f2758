-- Records put into a table: two stamps one after the other are a stamp of the whole, and where all fits it is the flat list.
-- Assumes nothing.
use borrow.Author.Tests.{le-leb, lt-leb, leb-true, leb-false}
use mathlib.Core.Path.{◌≡◌, refl, sym, ap, ◌∙◌}
use mathlib.Core.Bool.{Bool, true, false, cond}
use mathlib.Core.List.{List, [], ◌∷◌, ◌++◌, append_assoc}
use Prim.Native.Nat.{ℕ, zero, suc, ◌+◌, ◌-◌, ◌*◌, ◌≤◌, ◌<◌}
use native.Mathlib.Nat.{add-zero}
use native.Mathlib.Omega.{arith}
use lib.ListN.{length, set, take, drop, length-append, take-append-drop}
use lib.Seq.{sets, length-sets, sets-eq, set-set, set_comm, drop_at, take-append-le, length-take-le, take-take}
use lib.Dec.{leb}
use Rattle.grammar.specs.Table.{entry, six, flat}
use Rattle.grammar.specs.declared.Node.{Node}
use Rattle.opening.specs.Table.{put_of, put_after, close_of, stamp}

-- by the value of a test, with its equation
pub cond_by : {X : Type 0} (P : X → Type 0) (b : Bool) {x y : X} → (b ≡ true → P x) → (b ≡ false → P y) → P (cond b x y)
cond_by P true f g = f refl
cond_by P false f g = g refl

set_sets : (ws o : List ℕ) (i j v : ℕ) → i < j → sets (set o i v) j ws ≡ set (sets o j ws) i v
set_sets [] o i j v h = refl
set_sets (w ∷ ws) o i j v h =
    ap (λ (l : List ℕ). sets l (suc j) ws) (set_comm o i j v w (λ e. omega arith)) ∙ set_sets ws (set o j w) i (suc j) v (omega arith)

sets-comm : (vs ws o : List ℕ) (i j : ℕ) → i + length vs ≤ j → sets (sets o i vs) j ws ≡ sets (sets o j ws) i vs
sets-comm [] ws o i j h = refl
sets-comm (v ∷ vs) ws o i j h =
    sets-comm vs ws (set o i v) (suc i) j (omega arith) ∙ ap (λ (l : List ℕ). sets l (suc i) vs) (set_sets ws o i j v (omega arith))

pub length_put : (o : List ℕ) (n : ℕ) (r : Node) → length (put_of o n r) ≡ length o
unfolding put_of
length_put o n r = cond_by (λ (l : List ℕ). length l ≡ length o) (leb (6 * n + 6) (length o)) (λ _. length-sets o (6 * n) (six r)) (λ _. refl)

pub length_stamp : (rs : List Node) (n : ℕ) (o : List ℕ) → length (stamp n rs o) ≡ length o
unfolding stamp
length_stamp [] n o = refl
length_stamp (r ∷ rs) n o = length_put (stamp (n + 1) rs o) n r ∙ length_stamp rs (n + 1) o

pub put_in : (o : List ℕ) (n : ℕ) (r : Node) → 6 * n + 6 ≤ length o → put_of o n r ≡ sets o (6 * n) (six r)
unfolding put_of
put_in o n r h = simp (le-leb (6 * n + 6) (length o) h)

put-out : (o : List ℕ) (n : ℕ) (r : Node) → length o < 6 * n + 6 → put_of o n r ≡ o
unfolding put_of
put-out o n r h = simp (lt-leb (6 * n + 6) (length o) h)

put-put_by : (o : List ℕ) (n m : ℕ) (r q : Node) → n < m → (b c : Bool) → leb (6 * n + 6) (length o) ≡ b → leb (6 * m + 6) (length o) ≡ c → put_of (put_of o n r) m q ≡ put_of (put_of o m q) n r
put-put_by o n m r q h true true e f =
    let e' : 6 * n + 6 ≤ length o = leb-true _ _ e in
    let f' : 6 * m + 6 ≤ length o = leb-true _ _ f in
    put_in (put_of o n r) m q (rw length_put f')
    ∙ ap (λ (l : List ℕ). sets l (6 * m) (six q)) (put_in o n r e')
    ∙ sets-comm (six r) (six q) o (6 * n) (6 * m) (omega arith)
    ∙ sym (ap (λ (l : List ℕ). sets l (6 * n) (six r)) (put_in o m q f'))
    ∙ sym (put_in (put_of o m q) n r (rw length_put e'))
put-put_by o n m r q h true false e f =
    let f' : length o < 6 * m + 6 = leb-false _ _ f in
    put-out (put_of o n r) m q (rw length_put f') ∙ sym (ap (λ (l : List ℕ). put_of l n r) (put-out o m q f'))
put-put_by o n m r q h false true e f =
    let e' : length o < 6 * n + 6 = leb-false _ _ e in
    ap (λ (l : List ℕ). put_of l m q) (put-out o n r e') ∙ sym (put-out (put_of o m q) n r (rw length_put e'))
put-put_by o n m r q h false false e f =
    let e' : length o < 6 * n + 6 = leb-false _ _ e in
    ap (λ (l : List ℕ). put_of l m q) (put-out o n r e') ∙ sym (put-out (put_of o m q) n r (rw length_put e'))

put-put : (o : List ℕ) (n m : ℕ) (r q : Node) → n < m → put_of (put_of o n r) m q ≡ put_of (put_of o m q) n r
put-put o n m r q h = put-put_by o n m r q h _ _ refl refl

pub stamp-put : (rs : List Node) (n m : ℕ) (r : Node) (o : List ℕ) → n < m → stamp m rs (put_of o n r) ≡ put_of (stamp m rs o) n r
unfolding stamp
stamp-put [] n m r o h = refl
stamp-put (q ∷ rs) n m r o h =
    ap (λ (l : List ℕ). put_of l m q) (stamp-put rs n (m + 1) r o (omega arith)) ∙ put-put (stamp (m + 1) rs o) n m r q h

-- a stamp of two lists one after the other is a stamp of the whole
pub stamp-append : (rs qs : List Node) (n : ℕ) (o : List ℕ) → stamp (n + length rs) qs (stamp n rs o) ≡ stamp n (rs ++ qs) o
unfolding stamp
stamp-append [] qs n o = ap (λ (k : ℕ). stamp k qs o) (add-zero n)
stamp-append (r ∷ rs) qs n o =
    let e : n + suc (length rs) ≡ (n + 1) + length rs = omega arith in
    stamp-put qs n (n + suc (length rs)) r (stamp (n + 1) rs o) (omega arith)
    ∙ ap (λ (k : ℕ). put_of (stamp k qs (stamp (n + 1) rs o)) n r) e
    ∙ ap (λ (l : List ℕ). put_of l n r) (stamp-append rs qs (n + 1) o)

-- where all of it fits
pub stamp-flat : (rs : List Node) (n : ℕ) (o : List ℕ) → 6 * (n + length rs) ≤ length o → stamp n rs o ≡ take (6 * n) o ++ (flat rs ++ drop (6 * (n + length rs)) o)
unfolding stamp flat
stamp-flat [] n o h = rw add-zero (sym (take-append-drop (6 * n) o))
stamp-flat (r ∷ rs) n o h =
    let R : List ℕ = flat rs ++ drop (6 * ((n + 1) + length rs)) o in
    let T : List ℕ = take (6 * (n + 1)) o in
    let ih : stamp (n + 1) rs o ≡ T ++ R = stamp-flat rs (n + 1) o (omega arith) in
    let z : (n + 1) + length rs ≡ n + suc (length rs) = omega arith in
    let k : length T ≡ 6 * n + 6 = length-take-le (6 * (n + 1)) o (omega arith) ∙ omega arith in
    put_in (stamp (n + 1) rs o) n r (rw length_stamp (omega arith))
    ∙ ap (λ (l : List ℕ). sets l (6 * n) (six r)) ih
    ∙ sets-eq (six r) (T ++ R) (6 * n) (rw length-append (omega arith))
    ∙ ap (λ (l : List ℕ). take (6 * n) (T ++ R) ++ six r ++ l) (drop_at T R (6 * n + 6) k)
    ∙ ap (λ (l : List ℕ). l ++ six r ++ R) (take-append-le (6 * n) T R (omega arith) ∙ take-take (6 * n) (6 * (n + 1)) o (omega arith))
    ∙ append_assoc (take (6 * n) o) (six r) R
    ∙ ap (λ (j : ℕ). take (6 * n) o ++ (six r ++ (flat rs ++ drop (6 * j) o))) z

-- the six stores of `put`
pub put-stores : (o : List ℕ) (n : ℕ) (r : Node) → 6 * n + 6 ≤ length o
    → set (set (set (set (set (set o (6 * n) r.kind) (6 * n + 1) r.a) (6 * n + 2) r.b) (6 * n + 3) r.children) (6 * n + 4) r.at) (6 * n + 5) r.after ≡ put_of o n r
put-stores o n r h =
    let e₁ : 6 * n + 1 ≡ suc (6 * n) = omega arith in
    let e₂ : 6 * n + 2 ≡ suc (suc (6 * n)) = omega arith in
    let e₃ : 6 * n + 3 ≡ suc (suc (suc (6 * n))) = omega arith in
    let e₄ : 6 * n + 4 ≡ suc (suc (suc (suc (6 * n)))) = omega arith in
    let e₅ : 6 * n + 5 ≡ suc (suc (suc (suc (suc (6 * n))))) = omega arith in
    rw (e₁, e₂, e₃, e₄, e₅) (sym (put_in o n r h))

pub put-nothing : (o : List ℕ) (n : ℕ) (r : Node) → length o < 6 * n + 6 → o ≡ put_of o n r
put-nothing o n r h = sym (put-out o n r h)

-- ---- the index after a record's subtree, put later

pub after_in : (o : List ℕ) (n a : ℕ) → 6 * n + 6 ≤ length o → put_after o n a ≡ set o (6 * n + 5) a
unfolding put_after
after_in o n a h = simp (le-leb (6 * n + 6) (length o) h)

pub after_out : (o : List ℕ) (n a : ℕ) → length o < 6 * n + 6 → put_after o n a ≡ o
unfolding put_after
after_out o n a h = simp (lt-leb (6 * n + 6) (length o) h)

pub closes_more : (o : List ℕ) (n k a : ℕ) → 0 < k → close_of o n k a ≡ close_of (put_after o (n - 1) a) (n - 1) (k - 1) a
unfolding close_of
closes_more o n zero a h = absurd (omega arith)
closes_more o n (suc k) a h = let e : suc k - 1 ≡ k = omega arith in rw e

pub closes_end : (o : List ℕ) (n k a : ℕ) → k ≤ 0 → close_of o n k a ≡ o
unfolding close_of
closes_end o n zero a h = refl
closes_end o n (suc k) a h = absurd (omega arith)

-- a record put with one index after it, which is then corrected, is the record with the other
put-after_by : (o : List ℕ) (n kind x y children at b a : ℕ) (t : Bool) → leb (6 * n + 6) (length o) ≡ t
    → put_after (put_of o n (entry kind x y children at b)) n a ≡ put_of o n (entry kind x y children at a)
put-after_by o n kind x y children at b a true e =
    let h : 6 * n + 6 ≤ length o = leb-true _ _ e in
    let i : 6 * n + 5 ≡ suc (suc (suc (suc (suc (6 * n))))) = omega arith in
    after_in (put_of o n (entry kind x y children at b)) n a (rw length_put h)
    ∙ ap (λ (l : List ℕ). set l (6 * n + 5) a) (put_in o n (entry kind x y children at b) h)
    ∙ rw i (set-set (set (set (set (set (set o (6 * n) kind) (suc (6 * n)) x) (suc (suc (6 * n))) y) (suc (suc (suc (6 * n)))) children) (suc (suc (suc (suc (6 * n))))) at) (suc (suc (suc (suc (suc (6 * n)))))) b a)
    ∙ sym (put_in o n (entry kind x y children at a) h)
put-after_by o n kind x y children at b a false e =
    let h : length o < 6 * n + 6 = leb-false _ _ e in
    after_out (put_of o n (entry kind x y children at b)) n a (rw length_put h) ∙ put-out o n _ h ∙ sym (put-out o n _ h)

pub put-after : (o : List ℕ) (n kind x y children at b a : ℕ) → put_after (put_of o n (entry kind x y children at b)) n a ≡ put_of o n (entry kind x y children at a)
put-after o n kind x y children at b a = put-after_by o n kind x y children at b a _ refl
