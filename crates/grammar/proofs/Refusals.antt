-- Demand 1: every refusal of the judge and of the reader is a number of the list, and its place is within the blob, or for
-- 11 a number of nodes within the limit.
-- Assumes nothing.
use Prim.Native.Nat.{ℕ, zero, suc, ◌+◌, ◌≤◌, ◌<◌}
use native.Mathlib.Omega.{arith}
use mathlib.Core.Path.{◌≡◌, refl, sym, subst}
use mathlib.Core.Bool.{Bool, true, false, ◌&&◌, ◌||◌}
use mathlib.Core.Logic.{◌⊎◌, inl, inr}
use mathlib.Core.List.{List, [], ◌∷◌}
use lib.ListN.{length, get_or}
use lib.Dec.{T, ltb, leb, eqb}
use borrow.Author.Tests.{ltb-true, leb-true, eqb-true}
use Rattle.number.specs.Number.{max_number}
use Rattle.number.specs.Checked.{Checked, checked_at}
use Rattle.number.specs.Token.{type_tags, mod_tags}
use Rattle.std.specs.Prelude.{Ok, Err}
use Rattle.answer.specs.Refusal.{number_of}
use Rattle.number.specs.Number.{found}
use Rattle.number.specs.declared.token.Counts.{Counts}
use Rattle.number.proofs.Checks.{Way, passed, refused, checked-onward, number-way, count-way, token-way}
use Rattle.element.specs.Element.{allowed, within, form_of}
use Rattle.element.specs.declared.Place.{Place}
use Rattle.element.specs.declared.Form.{Form}
use Rattle.element.specs.declared.Form.TheVariants.{Refused, Leaf, Named, Variable, Wrap, Modified, Counted, Array, Instance, Callable, Generic}
use Rattle.grammar.specs.Refusals.{refusals, among, Refusal}
use Rattle.grammar.specs.Kinds.{max_kind, root_of}
use Rattle.grammar.specs.Limits.{max_bytes, max_nodes, max_depth, max_rank}
use Rattle.grammar.specs.Table.{kind_of, SIZE, LOW}
use Rattle.grammar.specs.Judge.{Out, fault, done, bind, check, numbered, number, count, token, many, bound, size, low, Reader, callable, body, opened, node, known_counts, judge, reading}
use Rattle.grammar.specs.declared.Node.{Node}
use Rattle.grammar.proofs.Sound.{holds_done, both_left, both_right}
use Rattle.grammar.proofs.Bounds.{ends-judge}

module _ (s : List ℕ) where
  -- an outcome that ends within the blob, or a refusal of the list at a place within it
  data Told : Out → Type 0 where
    told : (code : ℕ) {off : ℕ} → Refusal code → off ≤ length s → Told (fault code off)
    fine : {at n : ℕ} {rs : List Node} → at ≤ length s → Told (done at n rs)

  told-bind : (o : Out) (k : ℕ → ℕ → List Node → Out) → Told o → ((at n : ℕ) (rs : List Node) → at ≤ length s → Told (k at n rs)) → Told (bind o k)
  told-bind (fault code off) k (told _ r h) f = told code r h
  told-bind (done at n rs) k (fine h) f = f at n rs h

  told-check : (t : Bool) (code off : ℕ) (k : Unit {0} → Out) → Refusal code → off ≤ length s → (t ≡ true → Told (k tt)) → Told (check t code off k)
  told-check true code off k r h f = f refl
  told-check false code off k r h f = told code r h

  -- ---- numbers

  told-numbered : {Rule : ℕ → Type 0} (o : Checked) (at : ℕ) (k : ℕ → ℕ → Out) → Way (checked_at s at) Rule Refusal o → at ≤ length s → ((v next : ℕ) → next ≤ length s → Told (k v next)) → Told (numbered o at k)
  told-numbered (Ok n) at k (passed e h) l f = f n.value n.next (checked-onward s at n.value n.next e).1
  told-numbered (Err refusal) at k (refused _ r) l f = told (number_of refusal) r l

  told-number : (at : ℕ) (k : ℕ → ℕ → Out) → at ≤ length s → ((v next : ℕ) → next ≤ length s → Told (k v next)) → Told (number s at k)
  told-number at k l f = told-numbered _ at k (number-way Refusal s at _) l f

  told-count : (low high at : ℕ) (k : ℕ → ℕ → Out) → at ≤ length s → ((v next : ℕ) → next ≤ length s → Told (k v next)) → Told (count low high s at k)
  told-count low high at k l f = told-numbered _ at k (count-way Refusal s at low high _) l f

  told-token : (tags : ℕ) (counts : Counts) (at : ℕ) (k : ℕ → ℕ → Out) → at ≤ length s → ((t next : ℕ) → next ≤ length s → Told (k t next)) → Told (token tags counts s at k)
  told-token tags counts at k l f = told-numbered _ at k (token-way Refusal s at tags counts _) l f

  -- ---- nodes

  told-many : (item : ℕ → ℕ → Out) → ((at n : ℕ) → at ≤ length s → Told (item at n)) → (k at n : ℕ) → at ≤ length s → Told (many item k at n)
  unfolding many
  told-many item f zero at n l = fine l
  told-many item f (suc k) at n l =
      told-bind (item at n) _ (f at n l) (λ at₁ n₁ rs h. told-bind (many item k at₁ n₁) _ (told-many item f k at₁ n₁ h) (λ at₂ n₂ ts g. fine g))

  told-bound : (kind d at n : ℕ) → at ≤ length s → Told (bound kind d (checked_at s at) at n)
  told-bound kind d at n l =
      told-number at _ l
      (λ v next h. told-check (leb 1 d) 6 at _ tt l (λ _. told-check (ltb n max_nodes) 10 at _ tt l (λ _. fine h)))

  module _ (read : Reader) (below : (counts : Counts) (p : Place) (at n : ℕ) → at ≤ length s → Told (read counts p at n)) where
    told-callable : (counts : Counts) (p : Place) (kind a b at n from : ℕ) → from ≤ length s → Told (callable read s counts p kind a b at n from)
    told-callable counts p kind a b at n from l =
        told-number from _ l
        (λ c next h. told-bind (read counts Place.RetType next (n + 1)) _ (below counts Place.RetType next (n + 1) h)
        (λ at₁ n₁ rs e. told-bind (many (read counts p) c at₁ n₁) _ (told-many (read counts p) (below counts p) c at₁ n₁ e)
        (λ at₂ n₂ ts g. fine g)))

    told-body : (d : ℕ) (counts : Counts) (kind b at n : ℕ) (f : Form) → at < length s → Told (body read d s counts kind b at n f)
    unfolding body
    told-body d counts kind b at n Refused l = told 5 {off = at} tt (omega arith)
    told-body d counts kind b at n Leaf l = fine {at = at + 1} (omega arith)
    told-body d counts kind b at n Named l = told-token type_tags counts (at + 1) _ (omega arith) (λ t next h. fine h)
    told-body d counts kind b at n Variable l = told-number (at + 1) _ (omega arith) (λ v next h. fine h)
    told-body d counts kind b at n (Wrap p) l = told-bind (read counts p (at + 1) (n + 1)) _ (below counts p (at + 1) (n + 1) (omega arith)) (λ at₁ n₁ rs h. fine h)
    told-body d counts kind b at n (Modified p) l =
        told-token mod_tags counts (at + 1) _ (omega arith)
        (λ t next h. told-bind (read counts p next (n + 1)) _ (below counts p next (n + 1) h) (λ at₁ n₁ rs g. fine g))
    told-body d counts kind b at n (Counted p) l =
        told-count 1 max_number (at + 1) _ (omega arith)
        (λ c next h. told-bind (many (read counts p) c next (n + 1)) _ (told-many (read counts p) (below counts p) c next (n + 1) h) (λ at₁ n₁ rs g. fine g))
    told-body d counts kind b at n Array l =
        told-bind (read counts Place.Type (at + 1) (n + 1)) _ (below counts Place.Type (at + 1) (n + 1) (omega arith))
        (λ at₁ n₁ ts h₁. told-count 1 max_rank at₁ _ h₁
        (λ rank at₂ h₂. told-count 0 rank at₂ _ h₂
        (λ sizes at₃ h₃. told-bind (many (size d s) sizes at₃ n₁) _ (told-many (size d s) (told-bound SIZE d) sizes at₃ n₁ h₃)
        (λ at₄ n₂ ss h₄. told-count 0 rank at₄ _ h₄
        (λ lows at₅ h₅. told-bind (many (low d s) lows at₅ n₂) _ (told-many (low d s) (told-bound LOW d) lows at₅ n₂ h₅)
        (λ at₆ n₃ ls h₆. fine h₆))))))
    told-body d counts kind b at n Instance l =
        told-check (ltb (at + 1) (length s)) 2 (at + 1) _ tt (omega arith)
        (λ e. told-check (within 0x11 0x12 (get_or s (at + 1) 0)) 5 (at + 1) _ tt (omega arith)
        (λ _. told-token type_tags counts (at + 2) _ (omega (arith, ltb-true (at + 1) (length s) e))
        (λ t at₁ h₁. told-count 1 max_number at₁ _ h₁
        (λ c at₂ h₂. told-bind (many (read counts Place.Type) c at₂ (n + 1)) _ (told-many (read counts Place.Type) (below counts Place.Type) c at₂ (n + 1) h₂)
        (λ at₃ n₁ rs h₃. fine h₃)))))
    told-body d counts kind b at n (Callable p) l = told-callable counts p kind 0 b at n (at + 1) (omega arith)
    told-body d counts kind b at n (Generic p) l =
        told-count 1 max_number (at + 1) _ (omega arith) (λ g next h. told-callable counts p kind g b at n next h)

  told-opened : (d : ℕ) (p : Place) (at n : ℕ) (k : ℕ → Form → Out) → at ≤ length s → (at < length s → Told (k (get_or s at 0) (form_of p (get_or s at 0)))) → Told (opened d s p at n k)
  told-opened d p at n k l f =
      told-check (ltb at (length s)) 2 at _ tt l
      (λ e. told-check (allowed (form_of p (get_or s at 0))) 5 at _ tt l
      (λ _. told-check (leb 1 d) 6 at _ tt l (λ _. told-check (ltb n max_nodes) 10 at _ tt l (λ _. f (ltb-true _ _ e)))))

  told-node : (d : ℕ) (counts : Counts) (p : Place) (at n : ℕ) → at ≤ length s → Told (node d s counts p at n)
  unfolding node
  told-node zero counts p at n l = told-opened zero p at n (λ b f. fault 6 at) l (λ _. told 6 tt l)
  told-node (suc d) counts p at n l =
      told-opened (suc d) p at n (λ b f. body (node d s) d s counts (kind_of p b) b at n f) l
      (λ h. told-body (node d s) (told-node d) d counts (kind_of p (get_or s at 0)) (get_or s at 0) at n (form_of p (get_or s at 0)) h)

  told-judge : (kind : ℕ) (counts : Counts) → Told (judge kind counts s)
  unfolding judge
  told-judge kind counts =
      told-check (leb kind max_kind) 12 0 _ tt (omega arith)
      (λ _. told-check (known_counts counts) 13 0 _ tt (omega arith)
      (λ _. told-check (leb (length s) max_bytes) 1 0 _ tt (omega arith)
      (λ _. told-bind (node max_depth s counts (root_of kind) 0 0) _ (told-node max_depth counts (root_of kind) 0 0 (omega arith))
      (λ at n rs h. told-check (eqb at (length s)) 9 at _ tt h (λ _. fine h)))))

  told-fault : (o : Out) (code off : ℕ) → Told o → o ≡ fault code off → Refusal code × (off ≤ length s)
  told-fault o code off h e = taken (rw e at h)
    where
      taken : {code off : ℕ} → Told (fault code off) → Refusal code × (off ≤ length s)
      taken (told code r l) = (r, l)

-- a blob that is too long is refused at 0
long_place : (kind : ℕ) (counts : Counts) (s : List ℕ) (code off : ℕ) → leb (length s) max_bytes ≡ false → judge kind counts s ≡ fault code off → off ≡ 0
unfolding judge
long_place kind counts s code off l e = go (leb kind max_kind) (known_counts counts) (rw l at e)
  where
    go : (t u : Bool) → check t 12 0 (λ _. check u 13 0 (λ _. fault 1 0)) ≡ fault code off → off ≡ 0
    go true true q = cc
    go true false q = cc
    go false u q = cc

-- a refusal of the judge
pub judge-refuses : (kind : ℕ) (counts : Counts) (s : List ℕ) (code off : ℕ) → judge kind counts s ≡ fault code off
    → Refusal code × (off ≤ length s) × (off ≤ max_bytes)
judge-refuses kind counts s code off e = go (leb (length s) max_bytes) refl (told-fault s _ code off (told-judge s kind counts) e)
  where
    go : (t : Bool) → leb (length s) max_bytes ≡ t → Refusal code × (off ≤ length s) → Refusal code × (off ≤ length s) × (off ≤ max_bytes)
    go true l r = let h : length s ≤ max_bytes = leb-true _ _ l in (r.0, r.1, omega (arith, r.1))
    go false l r = let z = long_place kind counts s code off l e in (r.0, r.1, omega arith)

-- a refusal of the reader: the judge's, or 11 with the nodes needed
pub read_refuses : (kind : ℕ) (counts : Counts) (s : List ℕ) (lent code off : ℕ) → reading kind counts s lent ≡ fault code off
    → Refusal code × ((off ≤ length s) ⊎ ((code ≡ 11) × (off ≤ max_nodes))) × (off ≤ max_bytes)
unfolding reading
read_refuses kind counts s lent code off e = go (judge kind counts s) refl e
  where
    lend : (at n : ℕ) (rs : List Node) (t : Bool) → n ≤ max_nodes → check t 11 n (λ _. done at n rs) ≡ fault code off → Refusal code × ((off ≤ length s) ⊎ ((code ≡ 11) × (off ≤ max_nodes))) × (off ≤ max_bytes)
    lend at n rs true j q = let z : ◌≡◌ {A = ℕ} 0 1 = cc in absurd (omega arith)
    lend at n rs false j q = let a : 11 ≡ code = cc in let b : n ≡ off = cc in (subst Refusal a tt, inr (sym a, omega arith), omega arith)

    go : (o : Out) → judge kind counts s ≡ o → bind o (λ at n rs. check (leb n lent) 11 n (λ _. done at n rs)) ≡ fault code off → Refusal code × ((off ≤ length s) ⊎ ((code ≡ 11) × (off ≤ max_nodes))) × (off ≤ max_bytes)
    go (fault c p) q h =
        let a : c ≡ code = cc in
        let b : p ≡ off = cc in
        let r = judge-refuses kind counts s c p q in
        (subst Refusal a r.0, inl (omega (arith, r.1)), omega (arith, r.2))
    go (done at n rs) q h = lend at n rs (leb n lent) (holds_done _ (ends-judge kind counts s) q).0 h

-- ---- what all numbers of the list have in common

abbrev every : (ℕ → Bool) → List ℕ → Bool
every test [] = true
every test (x ∷ xs) = test x && every test xs

passes : (test : ℕ → Bool) (l : List ℕ) (n : ℕ) → every test l ≡ true → T (among l n) → test n ≡ true
passes test [] n e h = absurd h
passes test (x ∷ xs) n e h = go (eqb n x) refl h (λ r. passes test xs n (both_right (test x) _ e) r)
  where
    go : (t : Bool) → eqb n x ≡ t → T (t || among xs n) → (T (among xs n) → test n ≡ true) → test n ≡ true
    go true q r k = let w : n ≡ x = eqb-true n x q in rw w (both_left _ _ e)
    go false q r k = k r

-- a refusal is not 0, and fits a byte
pub refusal_byte : (n : ℕ) → Refusal n → (1 ≤ n) × (n < 256)
refusal_byte n r =
    let e = passes (λ x. leb 1 x && ltb x 256) refusals n refl r in
    (leb-true 1 n (both_left _ _ e), ltb-true n 256 (both_right (leb 1 n) _ e))
