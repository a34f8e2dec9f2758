-- The records of a derivation, wherever they stand in a table, are emitted as its bytes.
-- Assumes nothing.
use Prim.Native.Nat.{ℕ, zero, suc, ◌+◌, ◌*◌, ◌/◌, ◌≤◌, ◌<◌}
use native.Mathlib.Numerals.{add-one}
use native.Mathlib.Omega.{arith}
use mathlib.Core.Path.{◌≡◌, refl, sym, ap, subst, ◌∙◌}
use mathlib.Core.List.{List, [], ◌∷◌, ◌++◌, append_assoc, append-nil}
use lib.ListN.{length, get_or, length-append}
use lib.Seq.{get_or-append-add}
use borrow.Author.Tests.{lt-leb}
use Rattle.number.specs.Number.{encode}
use Rattle.number.proofs.Encodes.{encode-1}
use Rattle.number.specs.declared.token.Counts.{Counts}
use Rattle.element.specs.declared.Place.{Place}
use Rattle.grammar.specs.Limits.{max_nodes}
use Rattle.grammar.specs.Table.{entry, SIZE, LOW, six, flat, record_at}
use Rattle.grammar.specs.Derives.{Span, Numeral, Many, none, more, Bound, bounded, Size, Low, parameters, call, Step, leaf, named, variable, wrap, modified, counted, array, inst, method, generic, Derives}
use Rattle.grammar.specs.Emit.{layout_of, parts_of, Emitted, wrote, and_then, times, parts, emit}
use Rattle.grammar.specs.declared.Node.{Node}
use Rattle.grammar.proofs.Size.{Sizes, many-size, bound-size, derives_size}
use Rattle.grammar.proofs.Layouts.{Fronted, leaf-front, named-front, variable-front, modified-front, inst-front, counted-front, wrap-front, method-front, generic-front, array_parts}

-- ---- records in a table

-- the records rs are those of the flat table t from index n on
abbrev pub Listed : List ℕ → ℕ → List Node → Type 0
Listed t n [] = Unit {0}
Listed t n (r ∷ rs) = (n < length t / 6) × (record_at t n ≡ r) × Listed t (n + 1) rs

listed_split : (t : List ℕ) (rs qs : List Node) (n m : ℕ) → m ≡ n + length rs → Listed t n (rs ++ qs) → Listed t n rs × Listed t m qs
listed_split t [] qs n m e h = (tt, let z : n ≡ m = omega arith in subst (λ (i : ℕ). Listed t i qs) z h)
listed_split t (r ∷ rs) qs n m e h = let x = listed_split t rs qs (n + 1) m (omega arith) h.2 in ((h.0, h.1, x.0), x.1)

pub length_flat : (rs : List Node) → length (flat rs) ≡ 6 * length rs
unfolding flat
length_flat [] = refl
length_flat (r ∷ rs) = let z = length_flat rs in omega arith

pub record_at-six : (r : Node) (rest pre : List ℕ) (n : ℕ) → length pre ≡ 6 * n → record_at (pre ++ (six r ++ rest)) n ≡ r
record_at-six r rest pre n h =
    rw (← h)
    (λ i. record {
      kind = get_or-0 i;
      a = get_or-append-add pre (six r ++ rest) 1 0 i;
      b = get_or-append-add pre (six r ++ rest) 2 0 i;
      children = get_or-append-add pre (six r ++ rest) 3 0 i;
      at = get_or-append-add pre (six r ++ rest) 4 0 i;
      after = get_or-append-add pre (six r ++ rest) 5 0 i;
    })
  where
    get_or-0 : get_or (pre ++ (six r ++ rest)) (length pre) 0 ≡ r.kind
    get_or-0 = let z : length pre ≡ length pre + 0 = omega arith in ap (λ (i : ℕ). get_or (pre ++ (six r ++ rest)) i 0) z ∙ get_or-append-add pre (six r ++ rest) 0 0

listed_flat : (rs : List Node) (pre : List ℕ) (n : ℕ) → length pre ≡ 6 * n → Listed (pre ++ flat rs) n rs
unfolding flat
listed_flat [] pre n h = tt
listed_flat (r ∷ rs) pre n h =
    let z₁ = length-append pre (six r ++ flat rs) in
    let z₂ = length-append pre (six r) in (
      omega arith,
      record_at-six r (flat rs) pre n h,
      subst (λ (l : List ℕ). Listed l (n + 1) rs) (append_assoc pre (six r) (flat rs)) (listed_flat rs (pre ++ six r) (n + 1) (omega arith)),
    )

-- ---- how emissions are put together

then_wrote : {n : ℕ} {bs : List ℕ} {e : Emitted} (o : Emitted) (k : List ℕ → ℕ → Emitted) → o ≡ wrote bs n → k bs n ≡ e → and_then o k ≡ e
then_wrote o k h g = rw h g

module _ (item : ℕ → Emitted) where
  no_child : (n : ℕ) → times item 0 n ≡ wrote [] n
  unfolding times
  no_child n = refl

  next_child : (k n : ℕ) {n₁ n₂ : ℕ} {bs cs : List ℕ} → item n ≡ wrote bs n₁ → times item k n₁ ≡ wrote cs n₂ → times item (suc k) n ≡ wrote (bs ++ cs) n₂
  unfolding times
  next_child k n h g = then_wrote _ _ h (then_wrote _ _ g refl)

  one-child : (n : ℕ) {n₁ : ℕ} {bs : List ℕ} → item n ≡ wrote bs n₁ → times item 1 n ≡ wrote bs n₁
  one-child n {n₁} {bs} h = rw (append-nil bs) at (next_child 0 n h (no_child n₁))

  next_part : (k n : ℕ) (vs : List ℕ) (ps : List (List ℕ × ℕ)) {n₁ n₂ : ℕ} {bs cs all : List ℕ}
      → times item k n ≡ wrote bs n₁ → parts item ps n₁ ≡ wrote cs n₂ → vs ++ (bs ++ cs) ≡ all → parts item ((vs, k) ∷ ps) n ≡ wrote all n₂
  unfolding parts
  next_part k n vs ps {n₂ = n₂} h g e = then_wrote _ _ h (then_wrote _ _ g (ap (λ (l : List ℕ). wrote l n₂) e))

  last_part : (k n : ℕ) (vs : List ℕ) {n₁ : ℕ} {bs all : List ℕ} → times item k n ≡ wrote bs n₁ → vs ++ bs ≡ all → parts item ((vs, k) ∷ []) n ≡ wrote all n₁
  unfolding parts
  last_part k n vs {bs = bs} h e = next_part k n vs [] h refl (rw (append-nil bs) e)

-- a number's bytes before the rest, and alone
spelled : {v at z : ℕ} {vb : List ℕ} (rest : List ℕ) → Numeral v at z vb → encode v ++ rest ≡ vb ++ rest
spelled rest w = ap (λ (l : List ℕ). l ++ rest) (sym w.written)

spelled-last : {v at z : ℕ} {vb : List ℕ} → Numeral v at z vb → encode v ++ [] ≡ vb
spelled-last {vb = vb} w = append-nil (encode _) ∙ sym w.written

spelled-two : {v a x w b y : ℕ} {vb wb : List ℕ} (rest : List ℕ) → Numeral v a x vb → Numeral w b y wb → (encode v ++ encode w) ++ rest ≡ vb ++ (wb ++ rest)
spelled-two {vb = vb} {wb = wb} rest p q = rw (← p.written, ← q.written) (append_assoc vb wb rest)

-- ---- the theorem

module _ (t : List ℕ) where
  -- where records of X stand in t, the item emits X's bytes
  record Gives (X : Span) (item : ℕ → Emitted) : Type 0 where
    pub run : {at n at' n' : ℕ} {bs : List ℕ} {rs : List Node} → n ≤ max_nodes → X at n at' n' bs rs → Listed t n rs → item n ≡ wrote bs n'

  many-gives : (X : Span) (item : ℕ → Emitted) → Sizes X → Gives X item → {k at n at' n' : ℕ} {bs : List ℕ} {rs : List Node}
      → n ≤ max_nodes → Many X k at n at' n' bs rs → Listed t n rs → times item k n ≡ wrote bs n'
  many-gives X item f g l none v = no_child item _
  many-gives X item f g l (more {n = n} {n₁ = n₁} {rs = rs} {ts = ts} x r) v =
      let a = f.size l x in
      let u = listed_split t rs ts n n₁ a.count v in
      next_child item _ _ (g.run l x u.0) (many-gives X item f g a.most r u.1)

  from_record : (d n : ℕ) (r : Node) (e : Emitted) → n < length t / 6 → record_at t n ≡ r
      → parts (emit d t) (parts_of (layout_of r.kind) t n r) (n + 1) ≡ e → emit (suc d) t n ≡ e
  unfolding emit
  from_record d n r e h g l =
      rw (lt-leb (length t / 6) n h)
      (subst (λ (q : Node). parts (emit d t) (parts_of (layout_of q.kind) t n q) (n + 1) ≡ e) (sym g) l)

  -- a record whose byte and other bytes stand before all its children
  front_gives : (d : ℕ) {k b x y c at z n n' : ℕ} {vs bs all : List ℕ} → Fronted k b x y c vs
      → n < length t / 6 → record_at t n ≡ entry k x y c at z → times (emit d t) c (n + 1) ≡ wrote bs n' → vs ++ bs ≡ all → emit (suc d) t n ≡ wrote (b ∷ all) n'
  front_gives d {b = b} {at = at} {z = z} f i r h e =
      from_record d _ _ _ i r (rw (f.is t _ at z r) (last_part (emit d t) _ _ _ h (ap (λ (l : List ℕ). b ∷ l) e)))

  bound-one : (d : ℕ) {kind at n at' n' : ℕ} {bs : List ℕ} {rs : List Node} → ((v after : ℕ) → parts_of (layout_of kind) t n (entry kind v 0 0 at after) ≡ (encode v, 0) ∷ [])
      → Bound Numeral kind d at n at' n' bs rs → Listed t n rs → emit d t n ≡ wrote bs n'
  bound-one zero f (bounded e m w) v = absurd (omega arith)
  bound-one (suc d) f (bounded {v = x} {n = n} e m w) v =
      from_record d n _ _ v.0 v.1 (rw (f x (n + 1)) (last_part (emit d t) _ _ _ (no_child (emit d t) (n + 1)) (spelled-last w)))

  size-gives : (d : ℕ) → Gives (Size d) (emit d t)
  unfolding layout_of parts_of
  size-gives d = record { run = λ l x v. bound-one d (λ y z. refl) x v }

  low-gives : (d : ℕ) → Gives (Low d) (emit d t)
  unfolding layout_of parts_of
  low-gives d = record { run = λ l x v. bound-one d (λ y z. refl) x v }

  module _ (R : Counts → Place → Span) (d : ℕ) (sizes : (counts : Counts) (p : Place) → Sizes (R counts p))
      (given : (counts : Counts) (p : Place) → Gives (R counts p) (emit d t)) where
    call-gives : (counts : Counts) (p : Place) {c n next at₁ n₁ at₂ n₂ : ℕ} {bs ps : List ℕ} {rs ts : List Node} → n ≤ max_nodes
        → R counts Place.RetType next n at₁ n₁ bs rs → Many (R counts p) c at₁ n₁ at₂ n₂ ps ts → Listed t n (rs ++ ts)
        → times (emit d t) (c + 1) n ≡ wrote (bs ++ ps) n₂
    call-gives counts p {c} {n = n} {n₁ = n₁} {rs = rs} {ts = ts} l x r v =
        let a = (sizes counts Place.RetType).size l x in
        let u = listed_split t rs ts n n₁ a.count v in
        rw (add-one c)
        (next_child (emit d t) _ _ ((given counts Place.RetType).run l x u.0)
        (many-gives (R counts p) (emit d t) (sizes counts p) (given counts p) a.most r u.1))

    step_gives : (counts : Counts) {p : Place} {at n at' n' : ℕ} {bs : List ℕ} {rs : List Node}
        → Step R d counts p at n at' n' bs rs → Listed t n rs → emit (suc d) t n ≡ wrote bs n'
    step_gives counts {p} {n = n} (leaf c) v = front_gives d (leaf-front p 0 0 0 c) v.0 v.1 (no_child (emit d t) (n + 1)) refl
    step_gives counts {p} {n = n} (named {t = x} c w k) v = front_gives d (named-front p x 0 0 c) v.0 v.1 (no_child (emit d t) (n + 1)) (spelled-last w)
    step_gives counts {p} {n = n} (variable {v = x} c w) v = front_gives d (variable-front p x 0 0 c) v.0 v.1 (no_child (emit d t) (n + 1)) (spelled-last w)
    step_gives counts {p} (wrap {q = q} {bs = bs} c x) v =
        front_gives d (wrap-front p 0 0 1 c) v.0 v.1 (one-child (emit d t) _ ((given counts q).run (omega (arith, c.room)) x v.2)) refl
    step_gives counts {p} (modified {t = a} {q = q} {bs = bs} c w k x) v =
        front_gives d (modified-front p a 0 1 c) v.0 v.1 (one-child (emit d t) _ ((given counts q).run (omega (arith, c.room)) x v.2)) (spelled bs w)
    step_gives counts {p} (counted {c = k} {q = q} {bs = bs} c w l r) v =
        front_gives d (counted-front p 0 0 k c) v.0 v.1
        (many-gives (R counts q) (emit d t) (sizes counts q) (given counts q) (omega (arith, c.room)) r v.2) (spelled bs w)
    step_gives counts {p} {at = at} {n = n} (array {rank = rank} {sizes = k} {lows = j} {n₁ = n₁} {n₂ = n₂} {n₃ = n₃} {bs = bs} {ss = ss} {ls = ls} {rs = rs} {ts = ts} {us = us} c x rw₁ r₁ r₂ sw l₁ u lw l₂ y) v =
        let f = array_parts p t n rank k j at n₃ c in
        let a = (sizes counts Place.Type).size (omega (arith, c.room)) x in
        let v₁ = listed_split t rs (ts ++ us) (n + 1) n₁ a.count v.2 in
        let b = many-size (Size d) (bound-size Numeral SIZE d) a.most u in
        let v₂ = listed_split t ts us n₁ n₂ b.count v₁.1 in
        from_record d n _ _ v.0 v.1
        (rw f
        (next_part (emit d t) _ _ _ _ (one-child (emit d t) _ ((given counts Place.Type).run (omega (arith, c.room)) x v₁.0))
        (next_part (emit d t) _ _ _ _ (many-gives (Size d) (emit d t) (bound-size Numeral SIZE d) (size-gives d) a.most u v₂.0)
        (last_part (emit d t) _ _ _ (many-gives (Low d) (emit d t) (bound-size Numeral LOW d) (low-gives d) b.most y v₂.1) (spelled ls lw))
        (spelled-two _ rw₁ sw))
        refl))
    step_gives counts {p} (inst {w = w} {t = a} {c = k} {bs = bs} c w₁ w₂ tw h cw l r) v =
        front_gives d (inst-front p a w k c) v.0 v.1
        (many-gives (R counts Place.Type) (emit d t) (sizes counts Place.Type) (given counts Place.Type) (omega (arith, c.room)) r v.2)
        (rw (encode-1 w (omega arith))
        (ap (λ (l : List ℕ). w ∷ l) (spelled-two bs tw cw)))
    step_gives counts {p} (method {q = q} c (call {c = k} w x (parameters r))) v =
        front_gives d (method-front p k c) v.0 v.1 (call-gives counts q (omega (arith, c.room)) x r v.2) (spelled _ w)
    step_gives counts {p} (generic {g = g} {q = q} c gw l (call {c = k} w x (parameters r))) v =
        front_gives d (generic-front p k g l c) v.0 v.1 (call-gives counts q (omega (arith, c.room)) x r v.2)
        (spelled-two _ gw w)

  derives_gives : (d : ℕ) (counts : Counts) (p : Place) → Gives (Derives d counts p) (emit d t)
  derives_gives zero counts p = record { run = λ l x v. absurd x }
  derives_gives (suc d) counts p = record { run = λ l x v. step_gives (Derives d) d (derives_size d) (derives_gives d) counts x v }

-- a derivation's table is emitted as its bytes
pub derives_emit : (d : ℕ) (counts : Counts) (p : Place) (at' n' : ℕ) (bs : List ℕ) (rs : List Node) → Derives d counts p 0 0 at' n' bs rs
    → emit d (flat rs) 0 ≡ wrote bs n'
derives_emit d counts p at' n' bs rs x = (derives_gives (flat rs) d counts p).run (omega arith) x (listed_flat rs [] 0 refl)
