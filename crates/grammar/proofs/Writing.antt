-- Demand 2, the writer: it gives the one blob that has the table, and refuses only if none has it or the room is too small.
-- Assumes nothing.
use Prim.Native.Nat.{ℕ, zero, suc, ◌+◌, ◌/◌, ◌≤◌, ◌<◌}
use native.Mathlib.Omega.{arith}
use mathlib.Core.Path.{◌≡◌, refl}
use mathlib.Core.Bool.{Bool, true, false, cond}
use mathlib.Core.List.{List, [], ◌∷◌}
use lib.ListN.{length}
use lib.Dec.{leb, eqb}
use borrow.Author.Tests.{leb-true, leb-false, le-leb, eqb-true, eq-eqb}
use Rattle.number.specs.Number.{Bytes, encode}
use Rattle.number.specs.declared.token.Counts.{Counts}
use Rattle.number.proofs.Laws.{encode-bytes, bytes-append, no_bytes, bytes-two, bytes-front}
use Rattle.grammar.specs.Kinds.{max_kind}
use Rattle.grammar.specs.Limits.{max_depth}
use Rattle.grammar.specs.Table.{flat, record_at}
use Rattle.grammar.specs.declared.Node.{Node}
use Rattle.grammar.specs.Judge.{Out, fault, done, known_counts, judge}
use Rattle.grammar.specs.Derives.{HasTable}
use Rattle.grammar.specs.Emit.{Layout, plain, valued, array, instance, callable, field, locals, size, low, layout_of, lows_of, param_count, parts_of, Emitted, torn, wrote, and_then, times, parts, emit, emitted}
use Rattle.grammar.specs.Writer.{same_numbers, has_table, confirmed, writing}
use Rattle.answer.specs.Written.{Written, refused, written, fitted}
use Rattle.grammar.proofs.Sound.{both_left, both_right}
use Rattle.grammar.proofs.Complete.{both}
use Rattle.grammar.proofs.Reading.{accepted, counts-known, derivable, emitted-back}

-- ---- what is emitted is bytes

unfoldable AreBytes : Emitted → Type 0
AreBytes torn = Unit {0}
AreBytes (wrote bs n) = Bytes bs

bytes-then : (o : Emitted) (k : List ℕ → ℕ → Emitted) → AreBytes o → ((bs : List ℕ) (n : ℕ) → Bytes bs → AreBytes (k bs n)) → AreBytes (and_then o k)
unfolding AreBytes
bytes-then torn k h f = tt
bytes-then (wrote bs n) k h f = f bs n h

bytes-wrote : (bs : List ℕ) (n : ℕ) → Bytes bs → AreBytes (wrote bs n)
unfolding AreBytes
bytes-wrote bs n h = h

-- what stands before children
unfoldable Fronts : List (List ℕ × ℕ) → Type 0
Fronts [] = Unit {0}
Fronts (p ∷ ps) = Bytes p.0 × Fronts ps

bytes-fronts : (l : Layout) (t : List ℕ) (n : ℕ) (r : Node) → Fronts (parts_of l t n r)
unfolding parts_of Fronts encode
bytes-fronts plain t n r = (encode-bytes r.kind, tt)
bytes-fronts valued t n r = (bytes-two r.kind r.a, tt)
bytes-fronts array t n r = (encode-bytes r.kind, (bytes-two r.a r.b, (encode-bytes (lows_of r), tt)))
bytes-fronts instance t n r = (bytes-front r.kind _ (bytes-front r.b _ (bytes-two r.a r.children)), tt)
bytes-fronts callable t n r = (bytes-front r.b _ (bytes-append (cond (eqb r.a 0) [] (encode r.a)) (encode (param_count t n)) (generic (eqb r.a 0)) (encode-bytes (param_count t n))), tt)
  where
    generic : (u : Bool) → Bytes (cond u [] (encode r.a))
    generic true = no_bytes
    generic false = encode-bytes r.a
bytes-fronts field t n r = (encode-bytes 0x06, tt)
bytes-fronts locals t n r = (bytes-two 0x07 r.children, tt)
bytes-fronts size t n r = (encode-bytes r.a, tt)
bytes-fronts low t n r = (encode-bytes r.a, tt)

module _ (item : ℕ → Emitted) (f : (n : ℕ) → AreBytes (item n)) where
  bytes-times : (k n : ℕ) → AreBytes (times item k n)
  unfolding times
  bytes-times zero n = bytes-wrote [] n no_bytes
  bytes-times (suc k) n =
      bytes-then (item n) _ (f n)
      (λ bs n₁ h. bytes-then (times item k n₁) _ (bytes-times k n₁) (λ cs n₂ g. bytes-wrote _ _ (bytes-append bs cs h g)))

  bytes-parts : (ps : List (List ℕ × ℕ)) (n : ℕ) → Fronts ps → AreBytes (parts item ps n)
  unfolding parts Fronts
  bytes-parts [] n q = bytes-wrote [] n no_bytes
  bytes-parts (p ∷ ps) n q =
      bytes-then (times item p.1 n) _ (bytes-times p.1 n)
      (λ bs n₁ h. bytes-then (parts item ps n₁) _ (bytes-parts ps n₁ q.1)
      (λ cs n₂ g. bytes-wrote _ _ (bytes-append p.0 _ q.0 (bytes-append bs cs h g))))

bytes-emit : (d : ℕ) (t : List ℕ) (n : ℕ) → AreBytes (emit d t n)
unfolding emit AreBytes
bytes-emit zero t n = tt
bytes-emit (suc d) t n =
    go _ (leb (length t / 6) n)
    (bytes-parts (emit d t) (bytes-emit d t) (parts_of (layout_of (record_at t n).kind) t n (record_at t n)) (n + 1) (bytes-fronts (layout_of (record_at t n).kind) t n (record_at t n)))
  where
    go : (o : Emitted) (u : Bool) → AreBytes o → AreBytes (cond u torn o)
    go o true h = tt
    go o false h = h

-- ---- the comparison

same_eq : (xs ys : List ℕ) → same_numbers xs ys ≡ true → xs ≡ ys
unfolding same_numbers
same_eq [] [] e = refl
same_eq [] (y ∷ ys) e = cc
same_eq (x ∷ xs) [] e = cc
same_eq (x ∷ xs) (y ∷ ys) e =
    let p : x ≡ y = eqb-true x y (both_left _ _ e) in
    let q = same_eq xs ys (both_right (eqb x y) _ e) in
    cc

same_self : (xs : List ℕ) → same_numbers xs xs ≡ true
unfolding same_numbers
same_self [] = refl
same_self (x ∷ xs) = both _ _ (eq-eqb x x refl) (same_self xs)

-- ---- the theorems

-- What the writer may give for the flat table t, where `room` bytes are lent: each answer, and when it is given.
pub data Verdict (kind : ℕ) (counts : Counts) (t : List ℕ) (room : ℕ) : Written → Type 0 where
  unknown_kind : max_kind < kind → Verdict kind counts t room (refused 12 0)
  too_many_rows : kind ≤ max_kind → known_counts counts ≡ false → Verdict kind counts t room (refused 13 0)
  no_blob : kind ≤ max_kind → known_counts counts ≡ true → ((s : List ℕ) → HasTable kind counts s t → ⊥) → Verdict kind counts t room (refused 14 0)
  short : (s : List ℕ) → HasTable kind counts s t → room < length s → Verdict kind counts t room (refused 15 (length s))
  given : (s : List ℕ) → HasTable kind counts s t → length s ≤ room → Verdict kind counts t room (written s)

by_bool : {X : Type 0} (u : Bool) → (u ≡ true → X) → (u ≡ false → X) → X
by_bool true f g = f refl
by_bool false f g = g refl

module _ (kind : ℕ) (counts : Counts) (t : List ℕ) where
  -- a blob that has the table is what is emitted, and it is confirmed
  emitted-is : (s : List ℕ) (h : HasTable kind counts s t) → emitted t ≡ wrote s h.nodes
  emitted-is s h = rw h.table at (emitted-back kind counts s h.signature)

  confirmed-is : (s : List ℕ) → HasTable kind counts s t → has_table t (judge kind counts s) ≡ true
  unfolding has_table
  confirmed-is s h = rw (derivable kind counts s h.nodes h.records h.signature, h.table) (same_self t)

  -- what is confirmed has the table
  has-table : (s : List ℕ) → Bytes s → has_table t (judge kind counts s) ≡ true → HasTable kind counts s t
  unfolding has_table
  has-table s b e = go (judge kind counts s) refl e
    where
      go : (o : Out) → judge kind counts s ≡ o → has_table t o ≡ true → HasTable kind counts s t
      go (fault code place) q c = let z : ◌≡◌ {A = ℕ} 0 1 = cc in absurd (omega arith)
      go (done a n rs) q c =
          record { bytes = b; nodes = n; records = rs; signature = (accepted kind counts s b a n rs q).1; table = same_eq (flat rs) t c }

  module _ (room : ℕ) where
    fits : (s : List ℕ) → HasTable kind counts s t → Verdict kind counts t room (fitted room s)
    fits s h = go (leb (length s) room) refl
      where
        go : (u : Bool) → leb (length s) room ≡ u → Verdict kind counts t room (cond u (written s) (refused 15 (length s)))
        go true e = given s h (leb-true _ _ e)
        go false e = short s h (leb-false _ _ e)

    judged : (o : Emitted) → emitted t ≡ o → AreBytes o → kind ≤ max_kind → known_counts counts ≡ true → Verdict kind counts t room (confirmed kind counts t room o)
    unfolding AreBytes
    judged torn e b l k = no_blob l k (λ s h. let f = emitted-is s h in let z : ◌≡◌ {A = ℕ} 0 1 = cc in omega arith)
    judged (wrote s n) e b l k = go (has_table t (judge kind counts s)) refl
      where
        other : has_table t (judge kind counts s) ≡ false → (s' : List ℕ) → HasTable kind counts s' t → ⊥
        other c s' h =
            let g = emitted-is s' h in
            let q : s ≡ s' = cc in
            let f : has_table t (judge kind counts s) ≡ true = rw q (confirmed-is s' h) in
            let z : ◌≡◌ {A = ℕ} 0 1 = cc in
            omega arith

        go : (u : Bool) → has_table t (judge kind counts s) ≡ u → Verdict kind counts t room (cond u (fitted room s) (refused 14 0))
        go true c = fits s (has-table s b c)
        go false c = no_blob l k (other c)

    -- the writer's answer, and when it is given
    pub verdict : Verdict kind counts t room (writing kind counts t room)
    unfolding writing
    verdict =
        by_bool (leb kind max_kind)
        (λ e. by_bool (known_counts counts)
        (λ f. rw (e, f) (judged (emitted t) refl (bytes-emit max_depth t 0) (leb-true _ _ e) f))
        (λ f. rw (e, f) (too_many_rows (leb-true _ _ e) f)))
        (λ e. rw e (unknown_kind (leb-false _ _ e)))

    -- a blob that has the table is given, or 15 with its length where the room is too small
    pub writable : (s : List ℕ) → HasTable kind counts s t → writing kind counts t room ≡ fitted room s
    unfolding writing
    writable s h =
        let g = h.signature in
        let e₁ : leb kind max_kind ≡ true = le-leb _ _ g.known_kind in
        rw (e₁, counts-known kind counts s g, emitted-is s h, confirmed-is s h)

  -- a table has at most one blob of a kind
  pub one-blob : (s s' : List ℕ) → HasTable kind counts s t → HasTable kind counts s' t → s ≡ s'
  one-blob s s' h g = let e = emitted-is s h in let f = emitted-is s' g in cc

-- what is given is the one blob with the table, and it fits
pub writes : (kind : ℕ) (counts : Counts) (t : List ℕ) (room : ℕ) (s : List ℕ) → writing kind counts t room ≡ written s
    → HasTable kind counts s t × (length s ≤ room)
writes kind counts t room s e = go (rw e at (verdict kind counts t room))
  where
    go : {s : List ℕ} → Verdict kind counts t room (written s) → HasTable kind counts s t × (length s ≤ room)
    go (given s h l) = (h, l)
