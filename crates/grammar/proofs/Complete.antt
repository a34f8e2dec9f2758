-- What the grammar derives, the judge accepts, with the derivation's table.
-- Assumes nothing.
use Prim.Native.Nat.{ℕ, zero, suc, ◌+◌, ◌≤◌, zero-le, suc-le-suc}
use native.Mathlib.Omega.{arith}
use mathlib.Core.Path.{◌≡◌, refl, sym, ◌∙◌}
use mathlib.Core.Bool.{Bool, true, ◌&&◌}
use mathlib.Core.List.{List, ◌∷◌, ◌++◌}
use lib.ListN.{length}
use lib.Dec.{ltb, leb}
use borrow.Author.Tests.{lt-ltb, le-leb}
use Rattle.number.specs.Number.{max_number}
use Rattle.number.specs.Checked.{Checked, checked_at, count_at}
use Rattle.number.specs.Token.{type_tags, mod_tags, token_at}
use Rattle.std.specs.Prelude.{Ok, Err}
use Rattle.answer.specs.declared.refusal.Refusal.{Refusal}
use Rattle.answer.specs.Refusal.{number_of}
use Rattle.number.specs.Number.{found}
use Rattle.number.specs.declared.token.Counts.{Counts}
use Rattle.element.specs.Element.{allowed}
use Rattle.element.specs.declared.Place.{Place}
use Rattle.element.specs.declared.Form.{Form}
use Rattle.grammar.specs.Limits.{max_nodes, max_rank}
use Rattle.grammar.specs.Table.{entry, kind_of, SIZE, LOW}
use Rattle.grammar.specs.Judge.{Out, done, bind, check, numbered, many, bound, size, low, Reader, callable, body, opened, node}
use Rattle.grammar.specs.Derives.{Span, Numeral, Token, Many, none, more, Bound, bounded, Size, Low, Code, parameters, Call, call, Step, leaf, named, variable, wrap, modified, counted, array, inst, method, generic, Derives}
use Rattle.grammar.specs.declared.Node.{Node}
use Rattle.number.proofs.Checks.{count-in, token-in}
use Rattle.number.proofs.Blobs.{reads}
use Rattle.number.proofs.Stands.{Stands, split, moved, stands_length}

-- an outcome is this one, and it ends where the bytes end
pub record Meets (o : Out) (a n : ℕ) (rs : List Node) (z : ℕ) : Type 0 where
  pub gives : o ≡ done a n rs
  pub ends : z ≡ a

pub both : (a b : Bool) → a ≡ true → b ≡ true → a && b ≡ true
both a b e f = rw (e, f)

module _ {a' n' z : ℕ} {rs : List Node} where
  pub check-pass : (t : Bool) (c p : ℕ) (k : Unit {0} → Out) → t ≡ true → Meets (k tt) a' n' rs z → Meets (check t c p k) a' n' rs z
  check-pass t c p k e m = record { gives = rw e m.gives; ends = m.ends }

  pub bind-last : {a n : ℕ} {ts : List Node} (o : Out) (k : ℕ → ℕ → List Node → Out)
      → Meets o a n ts z → (z ≡ a → Meets (k a n ts) a' n' rs z) → Meets (bind o k) a' n' rs z
  bind-last o k m f = let r = f m.ends in record { gives = rw m.gives r.gives; ends = r.ends }

module _ (s : List ℕ) where
  -- bytes of X are read by the item as X says
  pub record Reads (X : Span) (item : ℕ → ℕ → Out) : Type 0 where
    pub run : {at n at' n' z : ℕ} {bs : List ℕ} {rs : List Node} → X at n at' n' bs rs → Stands s at bs z → Meets (item at n) at' n' rs z

  at_numeral : {v a z : ℕ} {bs : List ℕ} {m : ℕ} → Numeral v a z bs → Stands s a bs m → (checked_at s a ≡ found v z) × (m ≡ z)
  at_numeral {v} {a} {z} {bs} {m} w h =
      let e : m ≡ z = stands_length h ∙ sym w.ends in
      (reads s a v z w.small (rw (← w.written, ← e) h), e)

  at_token : {t a z : ℕ} {bs : List ℕ} {m : ℕ} (tags : ℕ) (counts : Counts) → Numeral t a z bs → Token tags counts t → Stands s a bs m
      → (token_at tags counts s a ≡ found t z) × (m ≡ z)
  at_token {a = a} tags counts w k h =
      let e = at_numeral w h in
      (sym (token-in s a refl tags counts e.0 refl refl refl k.tag (λ z. omega (arith, k.positive)) k.within), e.1)

  at_count : {v a z : ℕ} {bs : List ℕ} {m : ℕ} (low high : ℕ) → Numeral v a z bs → low ≤ v → v ≤ high → Stands s a bs m
      → (count_at low high s a ≡ found v z) × (m ≡ z)
  at_count {a = a} low high w l u h =
      let e = at_numeral w h in
      (sym (count-in s a refl low high e.0 l u), e.1)

  most : {v a z : ℕ} {bs : List ℕ} → Numeral v a z bs → v ≤ max_number
  most w = omega (arith, w.small)

  module _ {a' n' z : ℕ} {rs : List Node} where
    bind-front : {a a₁ n₁ : ℕ} {ts : List Node} (xs ys : List ℕ) (o : Out) (k : ℕ → ℕ → List Node → Out)
        → ((m : ℕ) → Stands s a xs m → Meets o a₁ n₁ ts m) → Stands s a (xs ++ ys) z
        → (Stands s a₁ ys z → Meets (k a₁ n₁ ts) a' n' rs z) → Meets (bind o k) a' n' rs z
    bind-front xs ys o k f h g =
        let q = split xs ys h in
        let m = f q.0 q.1 in
        let r = g (moved m.ends q.2) in
        record { gives = rw m.gives r.gives; ends = r.ends }

    numbered-last : {v a₁ : ℕ} (a : ℕ) (o : Checked) (k : ℕ → ℕ → Out) → (o ≡ found v a₁) × (z ≡ a₁)
        → (z ≡ a₁ → Meets (k v a₁) a' n' rs z) → Meets (numbered o a k) a' n' rs z
    numbered-last a o k e f =
        let r = f e.1 in
        record { gives = rw e.0 r.gives; ends = r.ends }

    numbered-front : {v a a₁ : ℕ} (xs ys : List ℕ) (o : Checked) (k : ℕ → ℕ → Out) → ((m : ℕ) → Stands s a xs m → (o ≡ found v a₁) × (m ≡ a₁))
        → Stands s a (xs ++ ys) z → (Stands s a₁ ys z → Meets (k v a₁) a' n' rs z) → Meets (numbered o a k) a' n' rs z
    numbered-front xs ys o k f h g =
        let q = split xs ys h in
        let e = f q.0 q.1 in
        let r = g (moved e.1 q.2) in
        record { gives = rw e.0 r.gives; ends = r.ends }

  many-back : (X : Span) (item : ℕ → ℕ → Out) → Reads X item → {k at n at' n' z : ℕ} {bs : List ℕ} {rs : List Node}
      → Many X k at n at' n' bs rs → Stands s at bs z → Meets (many item k at n) at' n' rs z
  unfolding many
  many-back X item f none h = record { gives = refl; ends = sym h.here }
  many-back X item f (more {k} {at} {n} {at₁} {n₁} {bs = bs} {cs = cs} x r) h =
      bind-front bs cs (item at n) _ (λ m u. f.run x u) h
      (λ h₁. bind-last (many item k at₁ n₁) _ (many-back X item f r h₁) (λ e. record { gives = refl; ends = e }))

  bound-back : (kind d : ℕ) {at n at' n' z : ℕ} {bs : List ℕ} {rs : List Node}
      → Bound Numeral kind d at n at' n' bs rs → Stands s at bs z → Meets (bound kind d (checked_at s at) at n) at' n' rs z
  bound-back kind d (bounded {n = n} l m w) h =
      numbered-last _ _ _ (at_numeral w h)
      (λ e. check-pass (leb 1 d) 6 _ _ (le-leb _ _ l)
      (check-pass (ltb n max_nodes) 10 _ _ (lt-ltb _ _ m) (record { gives = refl; ends = e })))

  bounds : (kind d : ℕ) → Reads (Bound Numeral kind d) (λ at n. bound kind d (checked_at s at) at n)
  bounds kind d = record { run = λ x h. bound-back kind d x h }

  -- one level: what R derives is read below, so what Step R derives is read here
  module _ (R : Counts → Place → Span) (read : Reader) (below : (counts : Counts) (p : Place) → Reads (R counts p) (read counts p)) where
    call_back : (counts : Counts) (p : Place) {k at n at' n' z : ℕ} {bs : List ℕ} {ts : List Node} (kind g b start index : ℕ) → index + 1 ≡ n
        → Call R counts p k at n at' n' bs ts → Stands s at bs z
        → Meets (callable read s counts p kind g b start index at) at' n' (entry kind g b (k + 1) start n' ∷ ts) z
    call_back counts p kind g b start index e (call {c} {next = next} {at₁} {n₁} {cb = cb} {bs = bs} {ps = ps} w x (parameters r)) h =
        numbered-front cb (bs ++ ps) _ _ (λ m u. at_numeral w u) h
        (λ h₁. rw e (bind-front bs ps (read counts Place.RetType next _) _ (λ m u. (below counts Place.RetType).run x u) h₁
        (λ h₂. bind-last (many (read counts p) c at₁ n₁) _ (many-back (R counts p) (read counts p) (below counts p) r h₂)
        (λ e₂. record { gives = refl; ends = e₂ }))))

    abbrev visit : ℕ → Counts → Place → ℕ → ℕ → Out
    visit d counts p at n = opened (suc d) s p at n (λ b f. body read d s counts (kind_of p b) b at n f)

    enter : (d : ℕ) (counts : Counts) {p : Place} {b at n at' n' z : ℕ} {bs : List ℕ} {rs : List Node} {f : Form}
        → Code p b n f → allowed f ≡ true → Stands s at (b ∷ bs) z
        → (Stands s (at + 1) bs z → Meets (body read d s counts (kind_of p b) b at n f) at' n' rs z)
        → Meets (visit d counts p at n) at' n' rs z
    enter d counts {p} {b} {at} {n} c a h g =
        let e : leb 1 (suc d) ≡ true = le-leb 1 (suc d) (suc-le-suc zero-le) in
        rw (lt-ltb at (length s) h.here.0, h.here.1, c.form, a, e, lt-ltb n max_nodes c.room) (g (record { here = h.here.2 }))

    step_back : (d : ℕ) (counts : Counts) {p : Place} {at n at' n' z : ℕ} {bs : List ℕ} {rs : List Node}
        → Step R d counts p at n at' n' bs rs → Stands s at bs z → Meets (visit d counts p at n) at' n' rs z
    unfolding body
    step_back d counts (leaf c) h = enter d counts c refl h (λ h₁. record { gives = refl; ends = sym h₁.here })
    step_back d counts (named {t = t} c w k) h =
        enter d counts c refl h
        (λ h₁. numbered-last _ _ _ (at_token type_tags counts w k h₁) (λ e. record { gives = refl; ends = e }))
    step_back d counts (variable c w) h =
        enter d counts c refl h (λ h₁. numbered-last _ _ _ (at_numeral w h₁) (λ e. record { gives = refl; ends = e }))
    step_back d counts (wrap {q = q} c x) h =
        enter d counts c refl h (λ h₁. bind-last _ _ ((below counts q).run x h₁) (λ e. record { gives = refl; ends = e }))
    step_back d counts (modified {q = q} {tb = tb} {bs = bs} c w k x) h =
        enter d counts c refl h
        (λ h₁. numbered-front tb bs _ _ (λ m u. at_token mod_tags counts w k u) h₁
        (λ h₂. bind-last _ _ ((below counts q).run x h₂) (λ e. record { gives = refl; ends = e })))
    step_back d counts (counted {q = q} {cb = cb} {bs = bs} c w l r) h =
        enter d counts c refl h
        (λ h₁. numbered-front cb bs _ _ (λ m u. at_count 1 max_number w l (most w) u) h₁
        (λ h₂. bind-last _ _ (many-back (R counts q) (read counts q) (below counts q) r h₂) (λ e. record { gives = refl; ends = e })))
    step_back d counts (array {rank = rank} {bs = bs} {rb} {sb} {ss} {lb} {ls} c x rw₁ r₁ r₂ sw l₁ u lw l₂ v) h =
        enter d counts c refl h
        (λ h₁. bind-front bs (rb ++ (sb ++ (ss ++ (lb ++ ls)))) _ _ (λ m y. (below counts Place.Type).run x y) h₁
        (λ h₂. numbered-front rb (sb ++ (ss ++ (lb ++ ls))) _ _ (λ m y. at_count 1 max_rank rw₁ r₁ r₂ y) h₂
        (λ h₃. numbered-front sb (ss ++ (lb ++ ls)) _ _ (λ m y. at_count 0 rank sw zero-le l₁ y) h₃
        (λ h₄. bind-front ss (lb ++ ls) _ _ (λ m y. many-back (Size d) (size d s) (bounds SIZE d) u y) h₄
        (λ h₅. numbered-front lb ls _ _ (λ m y. at_count 0 rank lw zero-le l₂ y) h₅
        (λ h₆. bind-last _ _ (many-back (Low d) (low d s) (bounds LOW d) v h₆) (λ e. record { gives = refl; ends = e })))))))
    step_back d counts (inst {at = at} {tb = tb} {cb = cb} {bs = bs} c w₁ w₂ tw k cw l r) h =
        enter d counts c refl h
        (λ h₁. check-pass _ 2 _ _ (lt-ltb _ _ h₁.here.0)
        (rw h₁.here.1
        (check-pass _ 5 _ _ (both _ _ (le-leb _ _ w₁) (le-leb _ _ w₂))
        (numbered-front tb (cb ++ bs) _ _ (λ m u. at_token type_tags counts tw k u) (moved two (record { here = h₁.here.2 }))
        (λ h₂. numbered-front cb bs _ _ (λ m u. at_count 1 max_number cw l (most cw) u) h₂
        (λ h₃. bind-last _ _ (many-back (R counts Place.Type) (read counts Place.Type) (below counts Place.Type) r h₃) (λ e. record { gives = refl; ends = e })))))))
      where
        two : at + 1 + 1 ≡ at + 2
        two = omega arith
    step_back d counts (method {b = b} {at = at} {n = n} {q = q} c x) h =
        enter d counts c refl h (λ h₁. call_back counts q _ 0 b at n refl x h₁)
    step_back d counts (generic {b = b} {g = g} {at = at} {n = n} {q = q} {gb = gb} {bs = bs} c w l x) h =
        enter d counts c refl h
        (λ h₁. numbered-front gb bs _ _ (λ m u. at_count 1 max_number w l (most w) u) h₁ (λ h₂. call_back counts q _ g b at n refl x h₂))

  pub node-back : (d : ℕ) (counts : Counts) (p : Place) → Reads (Derives d counts p) (node d s counts p)
  unfolding node
  node-back zero counts p = record { run = λ x h. absurd x }
  node-back (suc d) counts p = record { run = λ x h. step_back (Derives d) (node d s) (node-back d) d counts x h }
