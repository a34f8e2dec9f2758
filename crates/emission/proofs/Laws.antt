-- How emissions are put together: what they answer, and what they leave in the buffer.
-- Assumes nothing.
use Prim.Native.Nat.{ℕ, zero, suc, ◌+◌, ◌-◌, ◌≤◌, ◌<◌}
use native.Mathlib.Omega.{arith}
use mathlib.Core.Path.{◌≡◌, refl, sym, ap, subst, ◌∙◌}
use mathlib.Core.Bool.{Bool, true, false, cond}
use mathlib.Core.List.{List, [], ◌∷◌, ◌++◌, append-nil}
use lib.ListN.{length, set, length-append}
use lib.Seq.{sets, length-sets}
use lib.Dec.{leb}
use borrow.Author.Tests.{leb-true, leb-false, le-leb, lt-leb}
use Rattle.number.specs.Number.{encode, put_at}
use Rattle.number.proofs.Encodes.{encode-1, put-fits}
use Rattle.grammar.specs.Emit.{Emitted, torn, wrote, and_then, times, emit}
use Rattle.emission.specs.Emission.{Spelt, put, cut, followed, result_of, leaves_of, Emits, Parted}
use Rattle.emission.specs.End.{Emit, Next, Stop}
use Rattle.grammar.specs.declared.Position.{Position}
use Rattle.std.specs.Prelude.{Option, Some, None}
use Rattle.emission.specs.declared.Part.{Part}

-- an emission does not both stop and go on
pub clash : {X : Type 0} {e m : ℕ} → Stop ≡ Next e m → X
clash q = let z : ◌≡◌ {A = ℕ} 0 1 = cc in absurd (omega arith)

sets-append : (bs cs o : List ℕ) (at : ℕ) → sets (sets o at bs) (at + length bs) cs ≡ sets o at (bs ++ cs)
sets-append [] cs o at = let z : at + 0 ≡ at = omega arith in rw z refl
sets-append (b ∷ bs) cs o at = let z : at + suc (length bs) ≡ suc at + length bs = omega arith in rw z (sets-append bs cs (set o at b) (suc at))

-- ---- what a result says of the emission

pub data Fit (bs : List ℕ) (at len : ℕ) (r s : Emit) : Type 0 where
  fits : at + length bs ≤ len → r ≡ s → Fit bs at len r s
  over : len < at + length bs → r ≡ Stop → Fit bs at len r s

pub fit : (bs : List ℕ) (n at len : ℕ) (r : Emit) → r ≡ result_of (wrote bs n) at len → Fit bs at len r (Next (at + length bs) n)
unfolding result_of
fit bs n at len r e = go (leb (at + length bs) len) refl
  where
    go : (b : Bool) → leb (at + length bs) len ≡ b → Fit bs at len r (Next (at + length bs) n)
    go true g = fits (leb-true _ _ g) (e ∙ ap (λ (b : Bool). cond b (Next (at + length bs) n) Stop) g)
    go false g = over (leb-false _ _ g) (e ∙ ap (λ (b : Bool). cond b (Next (at + length bs) n) Stop) g)

result_fits : (bs : List ℕ) (n at len : ℕ) → at + length bs ≤ len → Next (at + length bs) n ≡ result_of (wrote bs n) at len
unfolding result_of
result_fits bs n at len h = rw (le-leb _ _ h)

result-over : (bs : List ℕ) (n at len : ℕ) → len < at + length bs → Stop ≡ result_of (wrote bs n) at len
unfolding result_of
result-over bs n at len h = rw (lt-leb _ _ h)

-- ---- the laws of Emits

pub emits_torn : (at : ℕ) (o : List ℕ) → Emits torn at Stop o o
unfolding result_of leaves_of
emits_torn at o = record { result = refl; left = tt; kept = refl }

-- too long for the buffer: only its length is promised
emits_over : (bs : List ℕ) (n at : ℕ) (o o₁ : List ℕ) → length o < at + length bs → length o₁ ≡ length o → Emits (wrote bs n) at Stop o o₁
unfolding leaves_of
emits_over bs n at o o₁ h k = record { result = result-over bs n at (length o) h; left = λ i. absurd (omega arith); kept = k }

-- what came after bytes that fitted
emits_after : (q : Emitted) (bs : List ℕ) (at : ℕ) (r : Emit) (o o₁ o₂ : List ℕ) → length o₁ ≡ length o → o₁ ≡ sets o at bs → Emits q (at + length bs) r o₁ o₂
    → Emits (and_then q (λ cs m. wrote (bs ++ cs) m)) at r o o₂
unfolding result_of leaves_of
emits_after torn bs at r o o₁ o₂ k s h = record { result = h.result; left = tt; kept = h.kept ∙ k }
emits_after (wrote cs m) bs at r o o₁ o₂ k s h =
    let z : at + length (bs ++ cs) ≡ at + length bs + length cs = ap (λ (i : ℕ). at + i) (length-append bs cs) ∙ omega arith in
    record {
      result = rw (z, ← k) h.result;
      left = λ i. h.left (omega (arith, z, k, i)) ∙ ap (λ (l : List ℕ). sets l (at + length bs) cs) s ∙ sets-append bs cs o at;
      kept = h.kept ∙ k;
    }

pub emits_stop : (e : Emitted) (k : ℕ → Emitted) (at : ℕ) (o o₁ : List ℕ) → Emits e at Stop o o₁ → Emits (followed e k) at Stop o o₁
unfolding followed result_of leaves_of
emits_stop torn k at o o₁ h = h
emits_stop (wrote bs n) k at o o₁ h = by_fit (fit bs n at (length o) Stop h.result)
  where
    rest : (q : Emitted) → length o < at + length bs → Emits (and_then q (λ cs m. wrote (bs ++ cs) m)) at Stop o o₁
    rest torn g = record { result = refl; left = tt; kept = h.kept }
    rest (wrote cs m) g = emits_over (bs ++ cs) m at o o₁ (omega (arith, length-append bs cs)) h.kept

    by_fit : Fit bs at (length o) Stop (Next (at + length bs) n) → Emits (followed (wrote bs n) k) at Stop o o₁
    by_fit (fits g e) = clash e
    by_fit (over g e) = rest (k n) g

pub emits_next : (e : Emitted) (k : ℕ → Emitted) (at e' n' : ℕ) (r : Emit) (o o₁ o₂ : List ℕ) → Emits e at (Next e' n') o o₁ → Emits (k n') e' r o₁ o₂ → Emits (followed e k) at r o o₂
unfolding followed result_of leaves_of
emits_next torn k at e' n' r o o₁ o₂ h w = clash (sym h.result)
emits_next (wrote bs n) k at e' n' r o o₁ o₂ h w = by_fit (fit bs n at (length o) (Next e' n') h.result)
  where
    by_fit : Fit bs at (length o) (Next e' n') (Next (at + length bs) n) → Emits (followed (wrote bs n) k) at r o o₂
    by_fit (fits g x) =
        let a : e' ≡ at + length bs = cc in
        let b : n' ≡ n = cc in
        emits_after (k n) bs at r o o₁ o₂ h.kept (h.left g)
        (subst (λ (j : ℕ). Emits (k j) (at + length bs) r o₁ o₂) b (subst (λ (i : ℕ). Emits (k n') i r o₁ o₂) a w))
    by_fit (over g x) = clash (sym x)

pub emits_is : (e q : Emitted) (at : ℕ) (r : Emit) (o o₁ : List ℕ) → e ≡ q → Emits q at r o o₁ → Emits e at r o o₁
emits_is e q at r o o₁ x h = rw x h

-- the result as a match found it
pub found : (e : Emitted) (at : ℕ) (w v : Emit) (o o₁ : List ℕ) → w ≡ v → Emits e at w o o₁ → Emits e at v o o₁
found e at w v o o₁ x h = subst (λ (y : Emit). Emits e at y o o₁) x h

-- the result and the buffer by other names
pub emits_as : (q : Emitted) (at : ℕ) (r r' : Emit) (o₀ o₁ o₂ : List ℕ) → o₂ ≡ o₁ → r' ≡ r → Emits q at r o₀ o₁ → Emits q at r' o₀ o₂
emits_as q at r r' o₀ o₁ o₂ e g h = rw (e, g) h

-- past the end of the buffer nothing is emitted
pub emits_past : (q : Emitted) (at : ℕ) (o : List ℕ) → length o < at → Emits q at Stop o o
emits_past torn at o h = emits_torn at o
emits_past (wrote bs n) at o h = emits_over bs n at o o (omega arith) refl

-- ---- bytes in a row

module _ (v at : ℕ) (o : List ℕ) where
  pub number_cut : length o < at + length (encode v) → Spelt (encode v) at None o o
  number_cut h = cut h refl refl

  pub number_put : (r : ℕ) (o₁ : List ℕ) → at + length (encode v) ≤ length o → r ≡ at + length (encode v) → o₁ ≡ put_at o at (encode v) → Spelt (encode v) at (Some r) o o₁
  number_put r o₁ h e p = put h (ap Some e) (p ∙ sym (put-fits o at (encode v) h))

  -- a number of one byte
  module _ (s : v < 0x80) where
    pub byte_put : (o₁ : List ℕ) → at < length o → o₁ ≡ set o at v → Spelt (encode v) at (Some (at + 1)) o o₁
    byte_put o₁ h p = rw (encode-1 v s) (put (omega arith) refl p)

    pub byte_cut : length o ≤ at → Spelt (encode v) at None o o
    byte_cut h = rw (encode-1 v s) (cut (omega arith) refl refl)

pub spelt_is : {bs cs : List ℕ} {at : ℕ} {r : Option ℕ} {o o₁ : List ℕ} → bs ≡ cs → Spelt bs at r o o₁ → Spelt cs at r o o₁
spelt_is {at = at} {r} {o} {o₁} x y = subst (λ (l : List ℕ). Spelt l at r o o₁) x y

pub spelt_as : {bs : List ℕ} {at : ℕ} {r r' : Option ℕ} {o o₁ : List ℕ} → r' ≡ r → Spelt bs at r o o₁ → Spelt bs at r' o o₁
spelt_as {bs} {at} {r} {r'} {o} {o₁} e y = subst (λ (x : Option ℕ). Spelt bs at x o o₁) (sym e) y

-- all of them fitted, and e is the offset after them
pub record Fitted (bs : List ℕ) (at e : ℕ) (o o₁ : List ℕ) : Type 0 where
  pub inside : at + length bs ≤ length o
  pub next : e ≡ at + length bs
  pub stored : o₁ ≡ sets o at bs
  pub kept : length o₁ ≡ length o

pub fitted : {bs : List ℕ} {at e : ℕ} {o o₁ : List ℕ} → Spelt bs at (Some e) o o₁ → Fitted bs at e o o₁
fitted {bs} {at} {e} {o} (put h i j) = let z : e ≡ at + length bs = cc in record { inside = h; next = z; stored = j; kept = ap length j ∙ length-sets o at bs }
fitted (cut h i j) = absurd cc

pub spelt_within : {bs : List ℕ} {at e : ℕ} {o o₁ : List ℕ} → Spelt bs at (Some e) o o₁ → e ≤ length o₁
spelt_within x = let f = fitted x in omega (arith, f.inside, f.next, f.kept)

module _ {bs : List ℕ} {at : ℕ} {o o₁ : List ℕ} where
  -- bytes that did not fit, and others behind them
  pub spelt_cut : (cs : List ℕ) → Spelt bs at None o o₁ → Spelt (bs ++ cs) at None o o₁
  spelt_cut cs (put h i j) = absurd cc
  spelt_cut cs (cut h i j) = cut (omega (arith, length-append bs cs)) refl j

  pub spelt_more : {cs : List ℕ} {e : ℕ} {r : Option ℕ} {o₂ : List ℕ} → Spelt bs at (Some e) o o₁ → Spelt cs e r o₁ o₂ → Spelt (bs ++ cs) at r o o₂
  spelt_more {cs} {e} {r} {o₂} x y = go (fitted x) y
    where
      long : length (bs ++ cs) ≡ length bs + length cs
      long = length-append bs cs

      go : Fitted bs at e o o₁ → Spelt cs e r o₁ o₂ → Spelt (bs ++ cs) at r o o₂
      go f (put h i j) =
          let z : e + length cs ≡ at + length (bs ++ cs) = omega (arith, long, f.next) in
          put (omega (arith, long, f.kept, f.next)) (i ∙ ap Some z) (j ∙ rw (f.next, f.stored) (sets-append bs cs o at))
      go f (cut h i j) = cut (omega (arith, long, f.kept, f.next)) i (j ∙ f.kept)

  -- bytes, and then what was emitted from the offset that they gave
  pub spelt_then : (k : ℕ → Emitted) (n : ℕ) {e : ℕ} {r : Emit} {o₂ : List ℕ} → Spelt bs at (Some e) o o₁ → Emits (k n) e r o₁ o₂ → Emits (followed (wrote bs n) k) at r o o₂
  unfolding followed
  spelt_then k n {e} {r} {o₂} x y = let f = fitted x in emits_after (k n) bs at r o o₁ o₂ f.kept f.stored (rw f.next at y)

  -- none behind bytes that did not fit
  pub spelt_over : (k : ℕ → Emitted) (n : ℕ) → Spelt bs at None o o₁ → Emits (followed (wrote bs n) k) at Stop o o₁
  unfolding followed result_of leaves_of
  spelt_over k n (put h i j) = absurd cc
  spelt_over k n (cut h i j) = rest (k n)
    where
      rest : (q : Emitted) → Emits (and_then q (λ cs m. wrote (bs ++ cs) m)) at Stop o o₁
      rest torn = record { result = refl; left = tt; kept = j }
      rest (wrote cs m) = emits_over (bs ++ cs) m at o o₁ (omega (arith, length-append bs cs)) j

-- an emission that went on ended inside the buffer
pub next_within : (q : Emitted) (at e n : ℕ) (o o₁ : List ℕ) → Emits q at (Next e n) o o₁ → e ≤ length o₁
unfolding result_of
next_within torn at e n o o₁ h = clash (sym h.result)
next_within (wrote bs m) at e n o o₁ h = by_fit (fit bs m at (length o) (Next e n) h.result)
  where
    by_fit : Fit bs at (length o) (Next e n) (Next (at + length bs) m) → e ≤ length o₁
    by_fit (fits g x) = let a : e ≡ at + length bs = cc in omega (arith, h.kept)
    by_fit (over g x) = clash (sym x)

-- ---- subtrees one after the other

times_more : (item : ℕ → Emitted) (left m : ℕ) → 0 < left → times item left m ≡ followed (item m) (times item (left - 1))
unfolding times followed
times_more item zero m h = absurd (omega arith)
times_more item (suc k) m h = let z : suc k - 1 ≡ k = omega arith in rw z (go (item m))
  where
    go : (q : Emitted) → and_then q (λ bs n₁. and_then (times item k n₁) (λ cs n₂. wrote (bs ++ cs) n₂)) ≡ followed q (times item k)
    go torn = refl
    go (wrote bs n) = refl

pub times-one : (item : ℕ → Emitted) (n : ℕ) → times item 1 n ≡ item n
unfolding times
times-one item n = go (item n)
  where
    go : (q : Emitted) → and_then q (λ bs n₁. and_then (wrote [] n₁) (λ cs n₂. wrote (bs ++ cs) n₂)) ≡ q
    go torn = refl
    go (wrote bs m) = ap (λ (l : List ℕ). wrote l m) (append-nil bs)

module _ (item : ℕ → Emitted) (left e m : ℕ) (w : Emit) (o o₁ : List ℕ) (h : 0 < left) (x : Emits (item m) e w o o₁) where
  pub loop_stop : w ≡ Stop → Emits (times item left m) e Stop o o₁
  loop_stop g = emits_is _ _ e _ o o₁ (times_more item left m h) (emits_stop _ _ e o o₁ (found _ e w _ o o₁ g x))

  pub loop_more : (e₂ m₂ : ℕ) → w ≡ Next e₂ m₂ → (r : Emit) (fin : List ℕ) → Emits (times item (left - 1) m₂) e₂ r o₁ fin → Emits (times item left m) e r o fin
  loop_more e₂ m₂ g r fin y =
      emits_is _ _ e r o fin (times_more item left m h) (emits_next _ (times item (left - 1)) e e₂ m₂ r o o₁ fin (found _ e w _ o o₁ g x) y)

pub loop_end : (item : ℕ → Emitted) (left e m : ℕ) (o : List ℕ) → left ≤ 0 → e ≤ length o → Emits (times item left m) e (Next e m) o o
unfolding times leaves_of
loop_end item zero e m o h i =
    let z : e + 0 ≡ e = omega arith in
    record { result = sym (ap (λ (j : ℕ). Next j m) z) ∙ result_fits [] m e (length o) (omega arith); left = λ _. refl; kept = refl }
loop_end item (suc k) e m o h i = absurd (omega arith)

-- the last of a loop is that one
pub last_one : (item : ℕ → Emitted) (left m e : ℕ) (r : Emit) (o o₁ : List ℕ) → left ≡ 1 → Emits (item m) e r o o₁ → Emits (times item left m) e r o o₁
last_one item left m e r o o₁ h x = rw h (emits_is _ _ e r o o₁ (times-one item m) x)

-- a record's part as a match found it
module _ (d : ℕ) (t : List ℕ) (n at : ℕ) (y : Option Part) (o o₁ : List ℕ) where
  pub part_goes : (f k : ℕ) → Parted d t n at y o o₁ → y ≡ Some (Part.Goes f k) → Parted d t n at (Some (Part.Goes f k)) o o₁
  part_goes f k x g = subst (λ (z : Option Part). Parted d t n at z o o₁) g x

  pub part_ends : (p : Position) → Parted d t n at y o o₁ → y ≡ Some (Part.Ends p) → Emits (emit d t n) at (Next p.at p.node) o o₁
  part_ends p x g = subst (λ (z : Option Part). Parted d t n at z o o₁) g x

  pub part_stop : Parted d t n at y o o₁ → y ≡ None → Emits (emit d t n) at Stop o o₁
  part_stop x g = subst (λ (z : Option Part). Parted d t n at z o o₁) g x
