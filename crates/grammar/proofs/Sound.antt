-- What the judge accepts, the grammar derives, with the judge's table.
-- Assumes nothing.
use Prim.Native.Nat.{ℕ, zero, suc, ◌+◌, ◌≤◌, ◌<◌}
use native.Mathlib.Omega.{arith}
use mathlib.Core.Path.{◌≡◌, refl}
use mathlib.Core.Bool.{Bool, true, false, ◌&&◌}
use mathlib.Core.List.{List, [], ◌∷◌, ◌++◌}
use lib.ListN.{length, get_or}
use lib.Dec.{ltb, leb}
use borrow.Author.Tests.{ltb-true, leb-true}
use Rattle.number.specs.Number.{Bytes, encode, max_number}
use Rattle.number.specs.Checked.{Checked, checked_at}
use Rattle.number.specs.Token.{type_tags, mod_tags}
use Rattle.std.specs.Prelude.{Ok, Err}
use Rattle.answer.specs.declared.refusal.Refusal.{Refusal}
use Rattle.answer.specs.Refusal.{number_of}
use Rattle.number.specs.Number.{found}
use Rattle.number.specs.declared.token.Counts.{Counts}
use Rattle.element.specs.Element.{allowed, within, form_of}
use Rattle.element.specs.declared.Place.{Place}
use Rattle.element.specs.declared.Form.{Form}
use Rattle.element.specs.declared.Form.TheVariants.{Refused, Leaf, Named, Variable, Wrap, Modified, Counted, Array, Instance, Callable, Generic}
use Rattle.grammar.specs.Limits.{max_nodes, max_rank}
use Rattle.grammar.specs.Table.{entry, kind_of, SIZE, LOW}
use Rattle.grammar.specs.Judge.{Out, fault, done, bind, check, numbered, number, count, token, many, bound, size, low, Reader, callable, body, opened, node}
use Rattle.grammar.specs.Derives.{Span, Numeral, Token, Many, none, more, Bound, bounded, Size, Low, parameters, Call, call, Step, leaf, named, variable, wrap, modified, counted, array, inst, method, generic, Derives}
use Rattle.grammar.specs.declared.Node.{Node}
use Rattle.number.proofs.Checks.{Way, passed, number-way, count-way, token-way}
use Rattle.number.proofs.Blobs.{got}
use Rattle.number.proofs.Stands.{Stands, nothing, byte, join, moved, stands_length}

-- P holds of what an outcome gives, if it is no fault
pub data Holds (P : ℕ → ℕ → List Node → Type 0) : Out → Type 0 where
  stopped : {c p : ℕ} → Holds P (fault c p)
  holds : {a n : ℕ} {rs : List Node} → P a n rs → Holds P (done a n rs)

pub holds_done : {P : ℕ → ℕ → List Node → Type 0} {a n : ℕ} {rs : List Node} (o : Out) → Holds P o → o ≡ done a n rs → P a n rs
holds_done {P} o g e = let h = rw e at g in taken h
  where
    taken : {a n : ℕ} {rs : List Node} → Holds P (done a n rs) → P a n rs
    taken (holds p) = p

pub both_left : (a b : Bool) → a && b ≡ true → a ≡ true
both_left true b e = refl
both_left false b e = e

pub both_right : (a b : Bool) → a && b ≡ true → b ≡ true
both_right true b e = e
both_right false b e = cc

module _ {P : ℕ → ℕ → List Node → Type 0} where
  pub holds_bind : {Q : ℕ → ℕ → List Node → Type 0} (m : Out) (k : ℕ → ℕ → List Node → Out)
      → Holds Q m → ((a n : ℕ) (rs : List Node) → Q a n rs → Holds P (k a n rs)) → Holds P (bind m k)
  holds_bind (fault c p) k g f = stopped
  holds_bind (done a n rs) k (holds q) f = f a n rs q

  pub holds_check : (t : Bool) (c p : ℕ) (k : Unit {0} → Out) → (t ≡ true → Holds P (k tt)) → Holds P (check t c p k)
  holds_check true c p k f = f refl
  holds_check false c p k f = stopped

holds_map : {P Q : ℕ → ℕ → List Node → Type 0} {o : Out} → Holds Q o → ((a n : ℕ) (rs : List Node) → Q a n rs → P a n rs) → Holds P o
holds_map stopped f = stopped
holds_map (holds {a} {n} {rs} q) f = holds (f a n rs q)

-- a node that begins: its byte is there, and there is room for it
pub holds_opened : {P : ℕ → ℕ → List Node → Type 0} (s : List ℕ) (d : ℕ) (p : Place) (at n : ℕ) (k : ℕ → Form → Out)
    → (at < length s → n < max_nodes → Holds P (k (get_or s at 0) (form_of p (get_or s at 0)))) → Holds P (opened d s p at n k)
holds_opened s d p at n k f =
    holds_check (ltb at (length s)) 2 at _
    (λ e₁. holds_check (allowed (form_of p (get_or s at 0))) 5 at _
    (λ e₂. holds_check (leb 1 d) 6 at _
    (λ e₃. holds_check (ltb n max_nodes) 10 at _ (λ e₄. f (ltb-true _ _ e₁) (ltb-true _ _ e₄)))))

module _ (s : List ℕ) (bytes : Bytes s) where
  -- the bytes from a to z that X derives
  abbrev pub Found : Span → ℕ → ℕ → ℕ → ℕ → List Node → Type 0
  Found X at n at' n' rs = (bs : List ℕ) × X at n at' n' bs rs × Stands s at bs at'

  module _ {P : ℕ → ℕ → List Node → Type 0} where
    -- a number that passed its checks stands there encoded, and its rule holds of it
    holds_numbered : {Rule : ℕ → Type 0} (at : ℕ) (o : Checked) (k : ℕ → ℕ → Out) → Way (checked_at s at) Rule (λ c. Unit {0}) o
        → ((v z : ℕ) (bs : List ℕ) → Numeral v at z bs → Rule v → Stands s at bs z → Holds P (k v z)) → Holds P (numbered o at k)
    holds_numbered at (Ok n) k (passed e h) f =
        let v = n.value in
        let z = n.next in
        let g = got s bytes at v z e in
        f v z (encode v) (record { small = g.fits; written = refl; ends = stands_length g.stands }) h g.stands
    holds_numbered at (Err c) k w f = stopped

    holds_number : (at : ℕ) (k : ℕ → ℕ → Out)
        → ((v z : ℕ) (bs : List ℕ) → Numeral v at z bs → Stands s at bs z → Holds P (k v z)) → Holds P (number s at k)
    holds_number at k f = holds_numbered at _ k (number-way _ s at _) (λ v z bs w r h. f v z bs w h)

    holds_token : (tags : ℕ) (counts : Counts) (at : ℕ) (k : ℕ → ℕ → Out)
        → ((t z : ℕ) (bs : List ℕ) → Numeral t at z bs → Token tags counts t → Stands s at bs z → Holds P (k t z))
        → Holds P (token tags counts s at k)
    holds_token tags counts at k f =
        holds_numbered at _ k (token-way _ s at tags counts _)
        (λ t z bs w r h. f t z bs w (record { tag = r.0; positive = r.1; within = r.2 }) h)

    holds_count : (low high at : ℕ) (k : ℕ → ℕ → Out)
        → ((v z : ℕ) (bs : List ℕ) → Numeral v at z bs → (low ≤ v) × (v ≤ high) → Stands s at bs z → Holds P (k v z))
        → Holds P (count low high s at k)
    holds_count low high at k f = holds_numbered at _ k (count-way _ s at low high _) f

  holds_many : (X : Span) (item : ℕ → ℕ → Out) → ((at n : ℕ) → Holds (Found X at n) (item at n))
      → (k at n : ℕ) → Holds (Found (Many X k) at n) (many item k at n)
  unfolding many
  holds_many X item g zero at n = holds ([], none, nothing)
  holds_many X item g (suc k) at n =
      holds_bind (item at n) _ (g at n)
      (λ at₁ n₁ rs q. holds_bind (many item k at₁ n₁) _ (holds_many X item g k at₁ n₁)
      (λ at₂ n₂ ts r. holds (q.0 ++ r.0, more q.1 r.1, join q.2 r.2)))

  holds_bound : (kind d at n : ℕ) → Holds (Found (Bound Numeral kind d) at n) (bound kind d (checked_at s at) at n)
  holds_bound kind d at n =
      holds_number at _
      (λ v z bs w h. holds_check (leb 1 d) 6 at _
      (λ e₁. holds_check (ltb n max_nodes) 10 at _
      (λ e₂. holds (bs, bounded (leb-true _ _ e₁) (ltb-true _ _ e₂) w, h))))

  -- one level: what stands below is derived by R, so the node is derived by Step R
  module _ (R : Counts → Place → Span) (read : Reader) (below : (counts : Counts) (p : Place) (at n : ℕ) → Holds (Found (R counts p) at n) (read counts p at n)) where
    holds_callable : (counts : Counts) (p : Place) (kind g b at n from : ℕ)
        → Holds (λ at' n' rs. (k : ℕ) × (ts : List Node) × (rs ≡ entry kind g b (k + 1) at n' ∷ ts) × Found (Call R counts p k) from (n + 1) at' n' ts)
        (callable read s counts p kind g b at n from)
    holds_callable counts p kind g b at n from =
        holds_number from _
        (λ c z cb w h. holds_bind (read counts Place.RetType z (n + 1)) _ (below counts Place.RetType z (n + 1))
        (λ at₁ n₁ rs q. holds_bind (many (read counts p) c at₁ n₁) _ (holds_many (R counts p) (read counts p) (below counts p) c at₁ n₁)
        (λ at₂ n₂ ts r. holds
        (c, rs ++ ts, refl, (cb ++ (q.0 ++ r.0), call w q.1 (parameters r.1), join h (join q.2 r.2))))))

    holds_body : (d : ℕ) (counts : Counts) (p : Place) (b at n : ℕ) → at < length s → get_or s at 0 ≡ b → n < max_nodes
        → (f : Form) → form_of p b ≡ f → Holds (Found (Step R d counts p) at n) (body read d s counts (kind_of p b) b at n f)
    unfolding body
    holds_body d counts p b at n l eb room Refused e = stopped
    holds_body d counts p b at n l eb room Leaf e = holds (b ∷ [], leaf (record { form = e; room = room }), byte l eb nothing)
    holds_body d counts p b at n l eb room Named e =
        holds_token type_tags counts (at + 1) _ (λ t z bs w k h. holds (b ∷ bs, named (record { form = e; room = room }) w k, byte l eb h))
    holds_body d counts p b at n l eb room Variable e =
        holds_number (at + 1) _ (λ v z bs w h. holds (b ∷ bs, variable (record { form = e; room = room }) w, byte l eb h))
    holds_body d counts p b at n l eb room (Wrap q) e =
        holds_bind (read counts q (at + 1) (n + 1)) _ (below counts q (at + 1) (n + 1))
        (λ at₁ n₁ rs r. holds (b ∷ r.0, wrap (record { form = e; room = room }) r.1, byte l eb r.2))
    holds_body d counts p b at n l eb room (Modified q) e =
        holds_token mod_tags counts (at + 1) _
        (λ t z bs w k h. holds_bind (read counts q z (n + 1)) _ (below counts q z (n + 1))
        (λ at₁ n₁ rs r. holds
        (b ∷ (bs ++ r.0), modified (record { form = e; room = room }) w k r.1, byte l eb (join h r.2))))
    holds_body d counts p b at n l eb room (Counted q) e =
        holds_count 1 max_number (at + 1) _
        (λ c z bs w g h. holds_bind (many (read counts q) c z (n + 1)) _ (holds_many (R counts q) (read counts q) (below counts q) c z (n + 1))
        (λ at₁ n₁ rs r. holds
        (b ∷ (bs ++ r.0), counted (record { form = e; room = room }) w g.0 r.1, byte l eb (join h r.2))))
    holds_body d counts p b at n l eb room Array e =
        holds_bind (read counts Place.Type (at + 1) (n + 1)) _ (below counts Place.Type (at + 1) (n + 1))
        (λ at₁ n₁ rs q. holds_count 1 max_rank at₁ _
        (λ rank at₂ rb rw₁ e₁ rh. holds_count 0 rank at₂ _
        (λ sizes at₃ sb sw e₂ sh. holds_bind (many (size d s) sizes at₃ n₁) _ (holds_many (Size d) (size d s) (holds_bound SIZE d) sizes at₃ n₁)
        (λ at₄ n₂ ss u. holds_count 0 rank at₄ _
        (λ lows at₅ lb lw e₃ lh. holds_bind (many (low d s) lows at₅ n₂) _ (holds_many (Low d) (low d s) (holds_bound LOW d) lows at₅ n₂)
        (λ at₆ n₃ ls v. holds (
          b ∷ (q.0 ++ (rb ++ (sb ++ (u.0 ++ (lb ++ v.0))))),
          array (record { form = e; room = room }) q.1
              rw₁ e₁.0 e₁.1 sw e₂.1 u.1 lw e₃.1 v.1,
          byte l eb (join q.2 (join rh (join sh (join u.2 (join lh v.2))))),
        )))))))
    holds_body d counts p b at n l eb room Instance e =
        holds_check (ltb (at + 1) (length s)) 2 (at + 1) _
        (λ e₁. holds_check (within 0x11 0x12 (get_or s (at + 1) 0)) 5 (at + 1) _
        (λ e₂. holds_token type_tags counts (at + 2) _
        (λ t at₁ tb tw tk th. holds_count 1 max_number at₁ _
        (λ c at₂ cb cw e₃ ch. holds_bind (many (read counts Place.Type) c at₂ (n + 1)) _ (holds_many (R counts Place.Type) (read counts Place.Type) (below counts Place.Type) c at₂ (n + 1))
        (λ at₃ n₁ rs r. holds (
          b ∷ (get_or s (at + 1) 0 ∷ (tb ++ (cb ++ r.0))),
          inst (record { form = e; room = room }) (leb-true _ _ (both_left _ _ e₂)) (leb-true _ _ (both_right (leb 0x11 (get_or s (at + 1) 0)) _ e₂))
              tw tk cw e₃.0 r.1,
          byte l eb (byte (ltb-true _ _ e₁) refl (moved two (join th (join ch r.2)))),
        ))))))
      where
        two : at + 2 ≡ at + 1 + 1
        two = omega arith
    holds_body d counts p b at n l eb room (Callable q) e =
        holds_map (holds_callable counts q (kind_of p b) 0 b at n (at + 1))
        (λ at' n' rs r. rw r.2 (b ∷ r.3.0, method (record { form = e; room = room }) r.3.1, byte l eb r.3.2))
    holds_body d counts p b at n l eb room (Generic q) e =
        holds_count 1 max_number (at + 1) _
        (λ g z gb w e₁ h. holds_map (holds_callable counts q (kind_of p b) g b at n z)
        (λ at' n' rs r. rw r.2
        (b ∷ (gb ++ r.3.0), generic (record { form = e; room = room }) w e₁.0 r.3.1, byte l eb (join h r.3.2))))

  pub holds_node : (d : ℕ) (counts : Counts) (p : Place) (at n : ℕ) → Holds (Found (Derives d counts p) at n) (node d s counts p at n)
  unfolding node
  holds_node zero counts p at n = holds_opened s zero p at n (λ b f. fault 6 at) (λ l r. stopped)
  holds_node (suc d) counts p at n =
      holds_opened s (suc d) p at n (λ b f. body (node d s) d s counts (kind_of p b) b at n f)
      (λ l r. holds_body (Derives d) (node d s) (holds_node d) d counts p (get_or s at 0) at n l refl r (form_of p (get_or s at 0)) refl)
