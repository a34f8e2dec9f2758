-- Each way through a function that emits, as one law over plain values. A need cites one of them, with `_` for what the goal shows.
-- Assumes nothing.
use Prim.Native.Nat.{ℕ, zero, suc, ◌+◌, ◌-◌, ◌*◌, ◌/◌, ◌≤◌, ◌<◌}
use native.Mathlib.Omega.{arith}
use mathlib.Core.Path.{◌≡◌, refl, sym, ap, subst, ◌∙◌}
use mathlib.Core.Bool.{Bool, true, false, cond}
use mathlib.Core.Logic.{◌⊎◌, inl, inr}
use mathlib.Core.List.{List, [], ◌∷◌, ◌++◌, append_assoc, append-nil}
use lib.ListN.{length}
use lib.Dec.{leb, eqb}
use borrow.Author.Tests.{leb-false, eqb-true, eqb-false, le-leb, lt-leb, eq-eqb, ne_eqb}
use Rattle.number.specs.Number.{encode}
use Rattle.grammar.specs.Table.{METHOD, FIELD, LOCALS, PROPERTY, SIZE, LOW, record_at}
use Rattle.grammar.specs.Emit.{Layout, plain, array, callable, layouts, layout_in, layout_of, lows_of, param_count, parts_of, Emitted, torn, wrote, and_then, times, parts, emit}
use Rattle.grammar.specs.declared.Node.{Node}
use Rattle.emission.specs.Emission.{front_of, Spelt, followed, result_of, Emits}
use Rattle.emission.specs.End.{Emit, Next, Stop}
use Rattle.std.specs.Prelude.{Option, Some, None}
use Rattle.emission.proofs.Laws.{clash, Fit, fits, over, fit, emits_torn, emits_stop, emits_next, emits_is, found, spelt_is, spelt_then, spelt_over}

-- ---- call_to and front_to

module _ (t : List ℕ) (n : ℕ) (r : Node) (k : ℕ) (e : k ≡ param_count t n) where
  pub call-plain : r.a ≡ 0 → encode r.b ++ encode k ≡ front_of callable t n r
  unfolding parts_of
  call-plain h = rw (eq-eqb r.a 0 h, e)

  pub call-generic : (r.a ≡ 0 → ⊥) → encode r.b ++ (encode r.a ++ encode k) ≡ front_of callable t n r
  unfolding parts_of
  call-generic h = rw (ne_eqb r.a 0 h, e)

module _ (t : List ℕ) (n : ℕ) (r : Node) where
  abbrev Front : List ℕ → ℕ → Type 0
  Front bs k = bs ≡ front_of (layout_of k) t n r

  either : (vs : List ℕ) (j k : ℕ) → Front vs j → ((k ≡ j → ⊥) → Front vs k) → Front vs k
  either vs j k x f = go (eqb k j) refl
    where
      go : (b : Bool) → eqb k j ≡ b → Front vs k
      go true e = subst (Front vs) (sym (eqb-true k j e)) x
      go false e = f (eqb-false k j e)

  -- three kinds in a row
  pub front_three : (vs : List ℕ) (j : ℕ) → Front vs j → Front vs (j + 1) → Front vs (j + 2) → j ≤ r.kind → r.kind < j + 3 → Front vs r.kind
  front_three vs j x y z h i =
      either vs j r.kind x (λ a. either vs (j + 1) r.kind y (λ b. let e : r.kind ≡ j + 2 = omega arith in subst (Front vs) (sym e) z))

  -- a kind that has no layout of its own, or is an ARRAY's
  pub front_plain : (r.kind ≡ 0x15 → ⊥) → ((r.kind ≡ METHOD) ⊎ (r.kind ≡ PROPERTY) → ⊥) → (r.kind ≡ FIELD → ⊥) → (r.kind ≡ LOCALS → ⊥) → (r.kind ≡ SIZE → ⊥) → (r.kind ≡ LOW → ⊥)
      → (0x11 ≤ r.kind → r.kind < 0x14 → ⊥) × (0x1E ≤ r.kind → r.kind < 0x21 → ⊥) → Front (encode r.kind) r.kind
  unfolding parts_of layout_of
  front_plain i m fd ls sz lw (f, g) =
      rw (
        ne_eqb r.kind 0x11 (λ e. f (omega arith) (omega arith)),
        ne_eqb r.kind 0x12 (λ e. f (omega arith) (omega arith)),
        ne_eqb r.kind 0x13 (λ e. f (omega arith) (omega arith)),
        ne_eqb r.kind 0x1E (λ e. g (omega arith) (omega arith)),
        ne_eqb r.kind 0x1F (λ e. g (omega arith) (omega arith)),
        ne_eqb r.kind 0x20 (λ e. g (omega arith) (omega arith)),
        ne_eqb r.kind 0x15 i,
        ne_eqb r.kind METHOD (λ e. m (inl e)),
        ne_eqb r.kind FIELD fd,
        ne_eqb r.kind LOCALS ls,
        ne_eqb r.kind PROPERTY (λ e. m (inr e)),
        ne_eqb r.kind SIZE sz,
        ne_eqb r.kind LOW lw,
      )
      (go (eqb r.kind 0x14))
    where
      go : (b : Bool) → encode r.kind ≡ front_of (cond b array plain) t n r
      go true = refl
      go false = refl

  pub front_instance : Front ((encode r.kind ++ encode r.b) ++ (encode r.a ++ encode r.children)) 0x15
  unfolding parts_of layout_of
  front_instance = append_assoc (encode r.kind) (encode r.b) (encode r.a ++ encode r.children)

  pub front_field : Front (encode 0x06) FIELD
  unfolding parts_of layout_of encode
  front_field = refl

  pub front_locals : Front (encode 0x07 ++ encode r.children) LOCALS
  unfolding parts_of layout_of encode
  front_locals = refl

  -- by the kind that was found
  pub spelt_front : (k : ℕ) {vs : List ℕ} {at : ℕ} {e : Option ℕ} {o o₁ : List ℕ} → r.kind ≡ k → Front vs k → Spelt vs at e o o₁ → Spelt (front_of (layout_of r.kind) t n r) at e o o₁
  spelt_front k h x y = spelt_is (x ∙ ap (λ (i : ℕ). front_of (layout_of i) t n r) (sym h)) y

-- ---- parts: bytes, then subtrees

module _ (item : ℕ → Emitted) (vs : List ℕ) (k n : ℕ) where
  one-part : Emitted
  one-part = followed (wrote vs n) (times item k)

  parts-one : parts item ((vs, k) ∷ []) n ≡ one-part
  unfolding parts followed one-part
  parts-one = go (times item k n)
    where
      go : (q : Emitted) → and_then q (λ bs n₁. wrote (vs ++ (bs ++ [])) n₁) ≡ and_then q (λ cs m. wrote (vs ++ cs) m)
      go torn = refl
      go (wrote bs m) = ap (λ (l : List ℕ). wrote (vs ++ l) m) (append-nil bs)

  parts_more : (ps : List (List ℕ × ℕ)) → parts item ((vs, k) ∷ ps) n ≡ followed one-part (parts item ps)
  unfolding parts followed one-part
  parts_more ps = go (times item k n)
    where
      last : (bs : List ℕ) (q : Emitted) → and_then q (λ cs m. wrote (vs ++ (bs ++ cs)) m) ≡ and_then q (λ cs m. wrote ((vs ++ bs) ++ cs) m)
      last bs torn = refl
      last bs (wrote cs m) = ap (λ (l : List ℕ). wrote l m) (sym (append_assoc vs bs cs))

      go : (q : Emitted)
          → and_then q (λ bs n₁. and_then (parts item ps n₁) (λ cs n₂. wrote (vs ++ (bs ++ cs)) n₂))
          ≡ followed (and_then q (λ cs m. wrote (vs ++ cs) m)) (parts item ps)
      go torn = refl
      go (wrote bs m) = last bs (parts item ps m)

-- ---- part_at and its cycle

OnePart : Layout → Type 0
OnePart l = (t : List ℕ) (n : ℕ) (r : Node) → parts_of l t n r ≡ (front_of l t n r, r.children) ∷ []

-- each layout but an ARRAY's
OneParts : List (ℕ × Layout) → Type 0
OneParts [] = Unit {0}
OneParts (l ∷ ls) = ((l.0 ≡ 0x14 → ⊥) → OnePart l.1) × OneParts ls

layouts-one : OneParts layouts
unfolding parts_of OnePart OneParts
layouts-one = (λ h t n r. refl, (λ h t n r. refl, (λ h t n r. refl, (λ h t n r. refl, (λ h t n r. refl, (λ h t n r. refl, (λ h. absurd (h refl), (λ h t n r. refl, (λ h t n r. refl, (λ h t n r. refl, (λ h t n r. refl, (λ h t n r. refl, (λ h t n r. refl, (λ h t n r. refl, tt))))))))))))))

one_in : (ls : List (ℕ × Layout)) (k : ℕ) → (k ≡ 0x14 → ⊥) → OneParts ls → OnePart (layout_in ls k)
unfolding parts_of OnePart OneParts
one_in [] k h q = λ t n r. refl
one_in (l ∷ ls) k h q = go (eqb k l.0) refl (one_in ls k h q.1)
  where
    go : (b : Bool) → eqb k l.0 ≡ b → OnePart (layout_in ls k) → OnePart (cond b l.1 (layout_in ls k))
    go true e ih = let z : k ≡ l.0 = eqb-true k l.0 e in q.0 (λ x. h (z ∙ x))
    go false e ih = ih

module _ (d : ℕ) (t : List ℕ) (n at : ℕ) where
  pub emit-deep : (o : List ℕ) → d ≡ 0 → Emits (emit d t n) at Stop o o
  unfolding emit
  emit-deep o z = emits_is (emit d t n) torn at Stop o o (ap (λ (i : ℕ). emit i t n) z) (emits_torn at o)

  body : (d ≡ 0 → ⊥) → emit d t n ≡ cond (leb (length t / 6) n) torn (parts (emit (d - 1) t) (parts_of (layout_of (record_at t n).kind) t n (record_at t n)) (n + 1))
  unfolding emit
  body z = go d z
    where
      go : (i : ℕ) → (i ≡ 0 → ⊥) → emit i t n ≡ cond (leb (length t / 6) n) torn (parts (emit (i - 1) t) (parts_of (layout_of (record_at t n).kind) t n (record_at t n)) (n + 1))
      go zero h = absurd (h refl)
      go (suc i) h = let x : suc i - 1 ≡ i = omega arith in rw x refl

  pub emit-past : (o : List ℕ) → (d ≡ 0 → ⊥) → length t < 6 * n + 6 → Emits (emit d t n) at Stop o o
  emit-past o z h = let i : length t / 6 ≤ n = omega arith in emits_is (emit d t n) torn at Stop o o (body z ∙ rw (le-leb _ _ i)) (emits_torn at o)

  module _ (z : d ≡ 0 → ⊥) (h : 6 * n + 6 ≤ length t) (node : Node) (e : node ≡ record_at t n) (r : Emit) (o o₁ : List ℕ) where
    inside : emit d t n ≡ parts (emit (d - 1) t) (parts_of (layout_of node.kind) t n node) (n + 1)
    inside = let i : n < length t / 6 = omega arith in body z ∙ rw (lt-leb _ _ i, e)

    pub emit-array : node.kind ≡ 0x14 → Emits (parts (emit (d - 1) t) (parts_of array t n node) (n + 1)) at r o o₁ → Emits (emit d t n) at r o o₁
    unfolding layout_of
    emit-array k x = emits_is _ _ at r o o₁ (inside ∙ ap (λ (i : ℕ). parts (emit (d - 1) t) (parts_of (layout_of i) t n node) (n + 1)) k) x

    -- f: the offset after the bytes, s: the buffer with them
    pub emit-part : (f : ℕ) (s : List ℕ) → (node.kind ≡ 0x14 → ⊥) → Spelt (front_of (layout_of node.kind) t n node) at (Some f) o s
        → Emits (times (emit (d - 1) t) node.children (n + 1)) f r s o₁ → Emits (emit d t n) at r o o₁
    unfolding layout_of one-part OnePart
    emit-part f s k x y =
        emits_is _ _ at r o o₁
        (inside
        ∙ ap (λ (ps : List (List ℕ × ℕ)). parts (emit (d - 1) t) ps (n + 1)) (one_in layouts node.kind k layouts-one t n node)
        ∙ parts-one (emit (d - 1) t) (front_of (layout_of node.kind) t n node) node.children (n + 1))
        (spelt_then _ _ x y)

    pub emit-short : (s : List ℕ) → r ≡ Stop → o₁ ≡ s → (node.kind ≡ 0x14 → ⊥) → Spelt (front_of (layout_of node.kind) t n node) at None o s → Emits (emit d t n) at r o o₁
    unfolding layout_of one-part OnePart
    emit-short s e f k x =
        emits_is _ _ at r o o₁
        (inside
        ∙ ap (λ (ps : List (List ℕ × ℕ)). parts (emit (d - 1) t) ps (n + 1)) (one_in layouts node.kind k layouts-one t n node)
        ∙ parts-one (emit (d - 1) t) (front_of (layout_of node.kind) t n node) node.children (n + 1))
        (rw (e, f) (spelt_over _ _ x))

-- ---- an emission from a record of the table, or from its end, ends at one

abbrev Within : ℕ → Emitted → Type 0
Within k torn = Unit {0}
Within k (wrote bs m) = m ≤ k

module _ (k : ℕ) (item : ℕ → Emitted) (f : (n : ℕ) → n ≤ k → Within k (item n)) where
  after : (q : Emitted) (g : ℕ → Emitted) (h : List ℕ → List ℕ → List ℕ) → Within k q → ((n : ℕ) → n ≤ k → Within k (g n))
      → Within k (and_then q (λ bs n₁. and_then (g n₁) (λ cs n₂. wrote (h bs cs) n₂)))
  after torn g h x y = tt
  after (wrote bs m) g h x y = go (g m) (y m x)
    where
      go : (q : Emitted) → Within k q → Within k (and_then q (λ cs n₂. wrote (h bs cs) n₂))
      go torn z = tt
      go (wrote cs j) z = z

  times-within : (c n : ℕ) → n ≤ k → Within k (times item c n)
  unfolding times
  times-within zero n h = h
  times-within (suc c) n h = after (item n) (times item c) _ (f n h) (times-within c)

  parts_within : (ps : List (List ℕ × ℕ)) (n : ℕ) → n ≤ k → Within k (parts item ps n)
  unfolding parts
  parts_within [] n h = h
  parts_within (p ∷ ps) n h = after (times item p.1 n) (parts item ps) _ (times-within p.1 n h) (parts_within ps)

emit-within : (d : ℕ) (t : List ℕ) (n : ℕ) → n ≤ length t → Within (length t) (emit d t n)
unfolding emit
emit-within zero t n h = tt
emit-within (suc d) t n h = go (leb (length t / 6) n) refl (parts_within (length t) (emit d t) (emit-within d t) _ (n + 1))
  where
    go : (b : Bool) → leb (length t / 6) n ≡ b → (n + 1 ≤ length t → Within (length t) (parts (emit d t) (parts_of (layout_of (record_at t n).kind) t n (record_at t n)) (n + 1)))
        → Within (length t) (cond b torn (parts (emit d t) (parts_of (layout_of (record_at t n).kind) t n (record_at t n)) (n + 1)))
    go true e x = tt
    go false e x = let i : n < length t / 6 = leb-false _ _ e in x (omega arith)

next_below : (k : ℕ) (q : Emitted) (at e m : ℕ) (w : Emit) (o o₁ : List ℕ) → Within k q → Emits q at w o o₁ → w ≡ Next e m → m ≤ k
unfolding result_of
next_below k torn at e m w o o₁ x y g = clash (sym y.result ∙ g)
next_below k (wrote bs j) at e m w o o₁ x y g = by_fit (fit bs j at (length o) w y.result)
  where
    by_fit : Fit bs at (length o) w (Next (at + length bs) j) → m ≤ k
    by_fit (fits h z) = let i : m ≡ j = cc in omega arith
    by_fit (over h z) = clash (sym z ∙ g)

module _ (d : ℕ) (t : List ℕ) (n : ℕ) (h : n ≤ length t) (at e m : ℕ) (w : Emit) (o o₁ : List ℕ) where
  pub emit-below : Emits (emit d t n) at w o o₁ → w ≡ Next e m → m ≤ length t
  emit-below x g = next_below (length t) _ at e m w o o₁ (emit-within d t n h) x g

  pub times_below : (c : ℕ) → Emits (times (emit d t) c n) at w o o₁ → w ≡ Next e m → m ≤ length t
  times_below c x g = next_below (length t) _ at e m w o o₁ (times-within (length t) (emit d t) (emit-within d t) c n h) x g

-- ---- array_at
module _ (item : ℕ → Emitted) (t : List ℕ) (i : ℕ) (node : Node) (n at : ℕ) (w : Emit) (o o₁ : List ℕ) (x : Emits (followed (wrote (encode node.kind) n) (times item 1)) at w o o₁) where
  split : parts item (parts_of array t i node) n
      ≡ followed (followed (wrote (encode node.kind) n) (times item 1)) (parts item ((encode node.a ++ encode node.b, node.b) ∷ (encode (lows_of node), lows_of node) ∷ []))
  unfolding parts_of one-part
  split = parts_more item (encode node.kind) 1 n _

  pub array-stop : w ≡ Stop → Emits (parts item (parts_of array t i node) n) at Stop o o₁
  array-stop g = emits_is _ _ at Stop o o₁ split (emits_stop _ _ at o o₁ (found _ at w _ o o₁ g x))

  module _ (e m : ℕ) (g : w ≡ Next e m) (v : Emit) (o₂ : List ℕ) (y : Emits (followed (wrote (encode node.a ++ encode node.b) m) (times item node.b)) e v o₁ o₂) where
    rest : parts item ((encode node.a ++ encode node.b, node.b) ∷ (encode (lows_of node), lows_of node) ∷ []) m
        ≡ followed (followed (wrote (encode node.a ++ encode node.b) m) (times item node.b)) (parts item ((encode (lows_of node), lows_of node) ∷ []))
    unfolding one-part
    rest = parts_more item (encode node.a ++ encode node.b) node.b m _

    on : (r : Emit) (fin : List ℕ) → Emits (followed (followed (wrote (encode node.a ++ encode node.b) m) (times item node.b)) (parts item ((encode (lows_of node), lows_of node) ∷ []))) e r o₁ fin
        → Emits (parts item (parts_of array t i node) n) at r o fin
    on r fin q = emits_is _ _ at r o fin split (emits_next _ (parts item _) at e m r o o₁ fin (found _ at w _ o o₁ g x) (emits_is _ _ e r o₁ fin rest q))

    pub sizes_stop : v ≡ Stop → Emits (parts item (parts_of array t i node) n) at Stop o o₂
    sizes_stop k = on Stop o₂ (emits_stop _ _ e o₁ o₂ (found _ e v _ o₁ o₂ k y))

    pub array-next : (e₂ m₂ lows : ℕ) (r : Emit) (o₃ : List ℕ) → v ≡ Next e₂ m₂ → lows ≡ lows_of node
        → Emits (followed (wrote (encode lows) m₂) (times item lows)) e₂ r o₂ o₃ → Emits (parts item (parts_of array t i node) n) at r o o₃
    unfolding one-part
    array-next e₂ m₂ lows r o₃ k l q =
        on r o₃
        (emits_next _ (parts item ((encode (lows_of node), lows_of node) ∷ [])) e e₂ m₂ r o₁ o₂ o₃ (found _ e v _ o₁ o₂ k y)
        (emits_is _ _ e₂ r o₂ o₃
        (parts-one item (encode (lows_of node)) (lows_of node) m₂ ∙ ap (λ (i : ℕ). followed (wrote (encode i) m₂) (times item i)) (sym l)) q))
