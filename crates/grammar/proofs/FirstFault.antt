-- The first fault from the left: an item's refusal is the same for every blob that agrees up to the item's end. Each part of the judge is laid over two
-- blobs, s and t, from one offset on: what it gives over s it gives over t as well, if t agrees up to where it ends.
-- Assumes nothing.
use Prim.Native.Nat.{ℕ, zero, suc, ◌+◌, ◌≤◌, ◌<◌}
use native.Mathlib.Omega.{arith}
use mathlib.Core.Path.{◌≡◌, refl, sym, ap, subst, ◌∙◌}
use mathlib.Core.Bool.{Bool, true, false}
use mathlib.Core.Logic.{◌⊎◌, inl, inr}
use mathlib.Core.List.{List, [], ◌∷◌}
use lib.ListN.{length, get_or}
use lib.Dec.{T, ltb, leb, eqb}
use borrow.Author.Tests.{ltb-true, lt-ltb, le-leb}
use Rattle.number.specs.Number.{max_number, width}
use Rattle.number.specs.Checked.{Checked, checked_at, count_of, count_at}
use Rattle.number.specs.Token.{type_tags, mod_tags, token_of, token_at}
use Rattle.answer.specs.declared.refusal.Refusal.TheVariants.{BytesEnd}
use Rattle.std.specs.Prelude.{Ok, Err}
use Rattle.answer.specs.declared.refusal.Refusal.{Refusal}
use Rattle.answer.specs.Refusal.{number_of}
use Rattle.number.specs.Number.{found}
use Rattle.number.specs.declared.token.Counts.{Counts}
use Rattle.number.proofs.Cases.{width-1}
use Rattle.number.proofs.Checks.{Way, passed, refused, number-way, count-way, token-way}
use Rattle.number.proofs.Agree.{Agree, narrow, agree_take, Own, checked-own, checked-width}
use Rattle.element.specs.Element.{allowed, within, form_of}
use Rattle.element.specs.declared.Place.{Place}
use Rattle.element.specs.declared.Form.{Form}
use Rattle.element.specs.declared.Form.TheVariants.{Refused, Leaf, Named, Variable, Wrap, Modified, Counted, Array, Instance, Callable, Generic}
use Rattle.grammar.specs.Refusals.{among}
use Rattle.grammar.specs.Kinds.{max_kind, root_of}
use Rattle.grammar.specs.Limits.{max_bytes, max_nodes, max_depth, max_rank}
use Rattle.grammar.specs.Table.{entry, kind_of, SIZE, LOW}
use Rattle.grammar.specs.Judge.{Out, fault, done, bind, check, numbered, number, count, token, many, bound, size, low, Reader, callable, body, opened, node, known_counts, judge, reading}
use Rattle.grammar.specs.FirstFault.{item_refusals, item_end, Decided}
use Rattle.grammar.specs.declared.Node.{Node}
use Rattle.grammar.proofs.Layouts.{small-code}

-- a generic instance from its token on, whose second byte is x
abbrev inst : Reader → List ℕ → Counts → (kind x at n : ℕ) → Out
inst read s counts kind x at n =
    token type_tags counts s (at + 2)
    (λ v at₁. count 1 max_number s at₁
    (λ c at₂. bind (many (read counts Place.Type) c at₂ (n + 1)) (λ at₃ n₁ rs. done at₃ n₁ (entry kind v x c at n₁ ∷ rs))))

module _ (s t : List ℕ) where
  -- o, which is given over t, is the refusal of the item at p of s, if t agrees up to the item's end, which is not before `at`
  record Item (at code p : ℕ) (o : Out) : Type 0 where
    onward : at ≤ item_end code s p
    inside : item_end code s p ≤ length s
    alike : Agree s t (item_end code s p) → o ≡ fault code p

  -- the first is given over s from `at` on, the second over t: they are the same, if t agrees up to the first's end, which is not before `at`. Nothing is said
  -- of a fault that is no item's.
  data Same (at : ℕ) : Out → Out → Type 0 where
    ended : (z : ℕ) {n : ℕ} {rs : List Node} {o : Out} → at ≤ z → (Agree s t z → o ≡ done z n rs) → Same at (done z n rs) o
    faulted : (code p : ℕ) {o : Out} → (T (among item_refusals code) → Item at code p o) → Same at (fault code p) o

  -- .. so from an offset before, and of what is the same over t
  earlier : {at z : ℕ} {o x y : Out} → at ≤ z → (Agree s t z → y ≡ x) → Same z o x → Same at o y
  earlier l e (ended z m f) = ended z (omega arith) (λ g. e (narrow m g) ∙ f g)
  earlier l e (faulted code p f) =
      faulted code p
      (λ r. let i = f r in record { onward = omega (arith, i.onward); inside = i.inside; alike = λ g. e (narrow i.onward g) ∙ i.alike g })

  item_bind : {at code p : ℕ} {o : Out} (k : ℕ → ℕ → List Node → Out) → Item at code p o → Item at code p (bind o k)
  item_bind k i = record { onward = i.onward; inside = i.inside; alike = λ g. ap (λ x. bind x k) (i.alike g) }

  ending : {z n : ℕ} {rs : List Node} → Same z (done z n rs) (done z n rs)
  ending {z} = ended z (omega arith) (λ g. refl)

  same_bind : {at : ℕ} (o o' : Out) (k k' : ℕ → ℕ → List Node → Out) → Same at o o' → ((z n : ℕ) (rs : List Node) → Same z (k z n rs) (k' z n rs)) → Same at (bind o k) (bind o' k')
  same_bind (fault code p) o' k k' (faulted _ _ f) h = faulted code p (λ r. item_bind k' (f r))
  same_bind (done z n rs) o' k k' (ended _ l f) h = earlier l (λ g. ap (λ x. bind x k') (f g)) (h z n rs)

  -- the fault of an item that ends at z
  fails : (code p : ℕ) {z : ℕ} {o : Out} → item_end code s p ≡ z → z ≤ length s → (Agree s t z → o ≡ fault code p) → Same z (fault code p) o
  fails code p i m f = faulted code p (λ r. record { onward = omega arith; inside = omega arith; alike = λ g. f (rw i at g) })

  -- a test of it
  same_check : (u u' : Bool) (code p z : ℕ) (k k' : Unit {0} → Out) → item_end code s p ≡ z → z ≤ length s
      → (Agree s t z → u' ≡ u) → (u ≡ true → Same z (k tt) (k' tt)) → Same z (check u code p k) (check u' code p k')
  same_check true u' code p z k k' i m e f = earlier (omega arith) (λ g. ap (λ x. check x code p k') (e g)) (f refl)
  same_check false u' code p z k k' i m e f = fails code p i m (λ g. ap (λ x. check x code p k') (e g))

  -- the test that the byte at `at` is there
  same_there : (at : ℕ) (k k' : Unit {0} → Out) → (at < length s → Same (at + 1) (k tt) (k' tt)) → Same at (check (ltb at (length s)) 2 at k) (check (ltb at (length t)) 2 at k')
  same_there at k k' f = go (ltb at (length s)) refl
    where
      go : (u : Bool) → ltb at (length s) ≡ u → Same at (check u 2 at k) (check (ltb at (length t)) 2 at k')
      go true e = earlier {z = at + 1} (omega arith) (λ g. ap (λ x. check x 2 at k') (lt-ltb at (length t) (omega (arith, g.long)))) (f (ltb-true _ _ e))
      go false e = faulted 2 at (λ r. absurd r)

  -- ---- numbers

  -- a refusal of an item that is as wide as a number
  abbrev Numeric : ℕ → ℕ → Type 0
  Numeric at code = item_end code s at ≡ at + width (get_or s at 0)

  same_numbered : {Rule : ℕ → Type 0} (f : Checked → Checked) (at : ℕ) (k k' : ℕ → ℕ → Out) → Way (checked_at s at) Rule (Numeric at) (f (checked_at s at)) → f (Err BytesEnd) ≡ Err BytesEnd
      → ((v z : ℕ) → z ≤ length s → z ≡ at + width (get_or s at 0) → Same z (k v z) (k' v z)) → Same at (numbered (f (checked_at s at)) at k) (numbered (f (checked_at t at)) at k')
  same_numbered {Rule} f at k k' w b h = go (checked-own s t at)
    where
      given : (c : Checked) → Way (checked_at s at) Rule (Numeric at) c → at + width (get_or s at 0) ≤ length s → Same (at + width (get_or s at 0)) (numbered c at k) (numbered c at k')
      given (Ok n) (passed e r) m = let i = checked-width s at n.value n.next e in rw (← i) (h n.value n.next (omega arith) i)
      given (Err refusal) (refused _ i) m = fails (number_of refusal) at i m (λ g. refl)

      go : (checked_at s at ≡ Err BytesEnd) ⊎ Own s t at → Same at (numbered (f (checked_at s at)) at k) (numbered (f (checked_at t at)) at k')
      go (inl e) = rw (ap f e ∙ b) (faulted 2 at (λ r. absurd r))
      go (inr o) =
          earlier {z = at + width (get_or s at 0)} (omega arith) (λ g. ap (λ c. numbered (f c) at k') (o.alike g))
          (given (f (checked_at s at)) w o.inside)

  same_number : (at : ℕ) (k k' : ℕ → ℕ → Out) → ((v z : ℕ) → z ≤ length s → z ≡ at + width (get_or s at 0) → Same z (k v z) (k' v z)) → Same at (number s at k) (number t at k')
  unfolding item_end
  same_number at k k' h = same_numbered (λ c. c) at k k' (number-way (Numeric at) s at (refl, (refl, tt))) refl h

  same_count : (low high at : ℕ) (k k' : ℕ → ℕ → Out) → ((v z : ℕ) → Same z (k v z) (k' v z)) → Same at (count low high s at k) (count low high t at k')
  unfolding item_end count_at count_of
  same_count low high at k k' h = same_numbered (count_of low high) at k k' (count-way (Numeric at) s at low high (refl, (refl, (refl, tt)))) refl (λ v z m i. h v z)

  same_token : (tags : ℕ) (counts : Counts) (at : ℕ) (k k' : ℕ → ℕ → Out) → ((v z : ℕ) → Same z (k v z) (k' v z)) → Same at (token tags counts s at k) (token tags counts t at k')
  unfolding item_end token_at token_of
  same_token tags counts at k k' h = same_numbered (token_of tags counts) at k k' (token-way (Numeric at) s at tags counts (refl, (refl, (refl, (refl, tt))))) refl (λ v z m i. h v z)

  -- ---- nodes

  same_many : (item item' : ℕ → ℕ → Out) → ((at n : ℕ) → Same at (item at n) (item' at n)) → (k at n : ℕ) → Same at (many item k at n) (many item' k at n)
  unfolding many
  same_many item item' f zero at n = ending
  same_many item item' f (suc k) at n =
      same_bind (item at n) (item' at n) _ _ (f at n)
      (λ z n₁ rs. same_bind (many item k z n₁) (many item' k z n₁) _ _ (same_many item item' f k z n₁) (λ z₂ n₂ ts. ending))

  -- 6 and 10 of an item that ends at z: their tests are of no byte
  same_room : (d at n z : ℕ) (k k' : Unit {0} → Out) → z ≤ length s → z ≡ at + width (get_or s at 0) → Same z (k tt) (k' tt)
      → Same z (check (leb 1 d) 6 at (λ _. check (ltb n max_nodes) 10 at k)) (check (leb 1 d) 6 at (λ _. check (ltb n max_nodes) 10 at k'))
  unfolding item_end
  same_room d at n z k k' m i f =
      same_check (leb 1 d) (leb 1 d) 6 at z _ _ (sym i) m (λ g. refl) (λ _. same_check (ltb n max_nodes) (ltb n max_nodes) 10 at z _ _ (sym i) m (λ g. refl) (λ _. f))

  same_bound : (kind d at n : ℕ) → Same at (bound kind d (checked_at s at) at n) (bound kind d (checked_at t at) at n)
  same_bound kind d at n = same_number at _ _ (λ v z m i. same_room d at n z _ _ m i ending)

  module _ (read read' : Reader) (below : (counts : Counts) (p : Place) (at n : ℕ) → Same at (read counts p at n) (read' counts p at n)) where
    same_nodes : (counts : Counts) (p : Place) (k at n : ℕ) → Same at (many (read counts p) k at n) (many (read' counts p) k at n)
    same_nodes counts p k at n = same_many (read counts p) (read' counts p) (below counts p) k at n

    same_callable : (counts : Counts) (p : Place) (kind a b at n from : ℕ) → Same from (callable read s counts p kind a b at n from) (callable read' t counts p kind a b at n from)
    same_callable counts p kind a b at n from =
        same_number from _ _
        (λ c z m i. same_bind _ _ _ _ (below counts Place.RetType z (n + 1))
        (λ z₁ n₁ rs. same_bind _ _ _ _ (same_nodes counts p c z₁ n₁) (λ z₂ n₂ ts. ending)))

    same_body : (d : ℕ) (counts : Counts) (kind b at n : ℕ) (f : Form) → at < length s → Same (at + 1) (body read d s counts kind b at n f) (body read' d t counts kind b at n f)
    unfolding body item_end
    same_body d counts kind b at n Refused l = fails 5 at refl (omega arith) (λ g. refl)
    same_body d counts kind b at n Leaf l = ending
    same_body d counts kind b at n Named l = same_token type_tags counts (at + 1) _ _ (λ v z. ending)
    same_body d counts kind b at n Variable l = same_number (at + 1) _ _ (λ v z m i. ending)
    same_body d counts kind b at n (Wrap p) l = same_bind _ _ _ _ (below counts p (at + 1) (n + 1)) (λ z n₁ rs. ending)
    same_body d counts kind b at n (Modified p) l =
        same_token mod_tags counts (at + 1) _ _
        (λ v z. same_bind _ _ _ _ (below counts p z (n + 1)) (λ z₁ n₁ rs. ending))
    same_body d counts kind b at n (Counted p) l =
        same_count 1 max_number (at + 1) _ _
        (λ c z. same_bind _ _ _ _ (same_nodes counts p c z (n + 1)) (λ z₁ n₁ rs. ending))
    same_body d counts kind b at n Array l =
        same_bind _ _ _ _ (below counts Place.Type (at + 1) (n + 1))
        (λ z₁ n₁ ts. same_count 1 max_rank z₁ _ _
        (λ rank z₂. same_count 0 rank z₂ _ _
        (λ sizes z₃. same_bind _ _ _ _ (same_many (size d s) (size d t) (same_bound SIZE d) sizes z₃ n₁)
        (λ z₄ n₂ ss. same_count 0 rank z₄ _ _
        (λ lows z₅. same_bind _ _ _ _ (same_many (low d s) (low d t) (same_bound LOW d) lows z₅ n₂)
        (λ z₆ n₃ ls. ending))))))
    same_body d counts kind b at n Instance l =
        earlier {z = at + 1} (omega arith) (λ g. refl)
        (same_there (at + 1) _ _
        (λ m. same_check (within 0x11 0x12 (get_or s (at + 1) 0)) (within 0x11 0x12 (get_or t (at + 1) 0)) 5 (at + 1) (at + 1 + 1) _ _ refl (omega arith)
        (λ g. ap (within 0x11 0x12) (g.same (at + 1) (omega arith)))
        (λ _. earlier {z = at + 2} (omega arith) (λ g. ap (λ x. inst read' t counts kind x at n) (g.same (at + 1) (omega arith)))
        (same_token type_tags counts (at + 2) _ _
        (λ v z₁. same_count 1 max_number z₁ _ _
        (λ c z₂. same_bind _ _ _ _ (same_nodes counts Place.Type c z₂ (n + 1)) (λ z₃ n₁ rs. ending)))))))
    same_body d counts kind b at n (Callable p) l = same_callable counts p kind 0 b at n (at + 1)
    same_body d counts kind b at n (Generic p) l = same_count 1 max_number (at + 1) _ _ (λ g z. same_callable counts p kind g b at n z)

  same_opened : (d : ℕ) (p : Place) (at n : ℕ) (k k' : ℕ → Form → Out)
      → (at < length s → width (get_or s at 0) ≡ 1 → Same (at + 1) (k (get_or s at 0) (form_of p (get_or s at 0))) (k' (get_or s at 0) (form_of p (get_or s at 0))))
      → Same at (opened d s p at n k) (opened d t p at n k')
  unfolding item_end
  same_opened d p at n k k' f =
      same_there at _ _
      (λ l. same_check (allowed (form_of p (get_or s at 0))) (allowed (form_of p (get_or t at 0))) 5 at (at + 1) _ _ refl (omega arith) (λ g. rw (g.same at (omega arith)))
      (λ a. let w = width-1 _ (small-code p _ a) in
      same_room d at n (at + 1) _ _ (omega arith) (omega arith) (earlier {z = at + 1} (omega arith) (λ g. rw (g.same at (omega arith))) (f l w))))

  same_node : (d : ℕ) (counts : Counts) (p : Place) (at n : ℕ) → Same at (node d s counts p at n) (node d t counts p at n)
  unfolding node item_end
  same_node zero counts p at n = same_opened zero p at n (λ b f. fault 6 at) (λ b f. fault 6 at) (λ l w. fails 6 at {z = at + 1} (omega arith) (omega arith) (λ g. refl))
  same_node (suc d) counts p at n =
      same_opened (suc d) p at n (λ b f. body (node d s) d s counts (kind_of p b) b at n f) (λ b f. body (node d t) d t counts (kind_of p b) b at n f)
      (λ l w. same_body (node d s) (node d t) (same_node d) d counts (kind_of p (get_or s at 0)) (get_or s at 0) at n (form_of p (get_or s at 0)) l)

-- ---- the judge and the reader

item_of : {s t : List ℕ} {at code p : ℕ} {o : Out} → Same s t at (fault code p) o → T (among item_refusals code) → Item s t at code p o
item_of (faulted _ _ f) = f

module _ (code p : ℕ) (r : T (among item_refusals code)) where
  -- a refusal of no item is not this one
  other : {A : Type 0} (c q : ℕ) → (T (among item_refusals c) → ⊥) → fault c q ≡ fault code p → A
  other c q h e = let a : code ≡ c = cc in absurd (h (subst (λ x. T (among item_refusals x)) a r))

  ended_not : {A : Type 0} (z n : ℕ) (rs : List Node) → done z n rs ≡ fault code p → A
  ended_not z n rs e = let z : ◌≡◌ {A = ℕ} 0 1 = cc in absurd (omega arith)

  -- nor is it after the last item
  last_not : {A : Type 0} (u : Bool) (c q z n : ℕ) (rs : List Node) → (T (among item_refusals c) → ⊥) → check u c q (λ _. done z n rs) ≡ fault code p → A
  last_not true c q z n rs h e = ended_not z n rs e
  last_not false c q z n rs h e = other c q h e

  judge-item : (kind : ℕ) (counts : Counts) (s t : List ℕ) → length t ≤ max_bytes → judge kind counts s ≡ fault code p → Item s t 0 code p (judge kind counts t)
  unfolding judge
  judge-item kind counts s t m e =
      rw (le-leb (length t) max_bytes m)
      (go (leb kind max_kind) (known_counts counts) (leb (length s) max_bytes) _ _ (same_node s t max_depth counts (root_of kind) 0 0) e)
    where
      go : (a b c : Bool) (o o' : Out) → Same s t 0 o o'
          → check a 12 0 (λ _. check b 13 0 (λ _. check c 1 0 (λ _. bind o (λ z n rs. check (eqb z (length s)) 9 z (λ _. done z n rs))))) ≡ fault code p
          → Item s t 0 code p (check a 12 0 (λ _. check b 13 0 (λ _. bind o' (λ z n rs. check (eqb z (length t)) 9 z (λ _. done z n rs)))))
      go true true true (fault c q) o' h e = item_bind s t _ (item_of (rw e at h) r)
      go true true true (done z n rs) o' h e = last_not (eqb z (length s)) 9 z z n rs (λ x. x) e
      go true true false o o' h e = other 1 0 (λ x. x) e
      go true false c o o' h e = other 13 0 (λ x. x) e
      go false b c o o' h e = other 12 0 (λ x. x) e

  -- the reader's is the judge's
  judged : (kind : ℕ) (counts : Counts) (s : List ℕ) (lent : ℕ) → reading kind counts s lent ≡ fault code p → judge kind counts s ≡ fault code p
  unfolding reading
  judged kind counts s lent e = go (judge kind counts s) e
    where
      go : (o : Out) → bind o (λ at n rs. check (leb n lent) 11 n (λ _. done at n rs)) ≡ fault code p → o ≡ fault code p
      go (fault c q) e = e
      go (done at n rs) e = last_not (leb n lent) 11 n at n rs (λ x. x) e

-- an item's refusal goes by no byte behind the item
pub first_fault : (kind : ℕ) (counts : Counts) (s : List ℕ) (code p : ℕ) → judge kind counts s ≡ fault code p → T (among item_refusals code) → Decided (judge kind counts) s code p
first_fault kind counts s code p e r = record {
  inside = (judge-item code p r kind counts s [] (omega arith) e).inside;
  alike = λ t m a. let i = judge-item code p r kind counts s t m e in i.alike (agree_take s t (item_end code s p) i.inside a);
}

-- .. nor by how many records are lent
pub first_fault_read : (kind : ℕ) (counts : Counts) (s : List ℕ) (lent code p : ℕ) → reading kind counts s lent ≡ fault code p → T (among item_refusals code)
    → (lent' : ℕ) → Decided (λ t. reading kind counts t lent') s code p
unfolding reading
first_fault_read kind counts s lent code p e r lent' =
    let d = first_fault kind counts s code p (judged code p r kind counts s lent e) r in
    record { inside = d.inside; alike = λ t m a. rw (d.alike t m a) }
