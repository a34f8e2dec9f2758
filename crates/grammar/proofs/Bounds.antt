-- The judge's node indices: as many records as indices, and at most 1,024 nodes. For a list of any numbers.
-- Assumes nothing.
use Prim.Native.Nat.{ℕ, zero, suc, ◌+◌, ◌≤◌, ◌<◌}
use native.Mathlib.Omega.{arith}
use mathlib.Core.Path.{◌≡◌, refl}
use mathlib.Core.List.{List, ◌++◌}
use lib.ListN.{length, get_or, length-append}
use lib.Dec.{ltb, leb, eqb}
use borrow.Author.Tests.{ltb-true, le-leb}
use Rattle.number.specs.Number.{max_number}
use Rattle.number.specs.Checked.{Checked, checked_at, count_at}
use Rattle.number.specs.Token.{type_tags, mod_tags, token_at}
use Rattle.std.specs.Prelude.{Ok, Err}
use Rattle.answer.specs.declared.refusal.Refusal.{Refusal}
use Rattle.answer.specs.Refusal.{number_of}
use Rattle.number.specs.Number.{found}
use Rattle.number.specs.declared.token.Counts.{Counts}
use Rattle.element.specs.Element.{within, form_of}
use Rattle.element.specs.declared.Place.{Place}
use Rattle.element.specs.declared.Form.{Form}
use Rattle.element.specs.declared.Form.TheVariants.{Refused, Leaf, Named, Variable, Wrap, Modified, Counted, Array, Instance, Callable, Generic}
use Rattle.grammar.specs.Kinds.{max_kind, root_of}
use Rattle.grammar.specs.Limits.{max_bytes, max_nodes, max_depth, max_rank}
use Rattle.grammar.specs.Table.{kind_of, SIZE, LOW}
use Rattle.grammar.specs.Judge.{Out, fault, done, bind, check, numbered, many, bound, size, low, Reader, callable, array, body, node, known_counts, judge, reading}
use Rattle.grammar.specs.declared.Node.{Node}
use Rattle.grammar.proofs.Sound.{Holds, stopped, holds, holds_bind, holds_check, holds_opened}

-- from index n on
abbrev pub Ends : ℕ → ℕ → ℕ → List Node → Type 0
Ends n at m rs = (m ≤ max_nodes) × (m ≡ n + length rs)

ends : (n : ℕ) {at m : ℕ} {rs : List Node} → m ≤ max_nodes → m ≡ n + length rs → Holds (Ends n) (done at m rs)
ends n j e = holds (j, e)

-- a number and what stands behind it
pub holds_numbered : {P : ℕ → ℕ → List Node → Type 0} (o : Checked) (at : ℕ) (k : ℕ → ℕ → Out) → ((v next : ℕ) → Holds P (k v next)) → Holds P (numbered o at k)
holds_numbered (Ok n) at k f = f n.value n.next
holds_numbered (Err refusal) at k f = stopped

pub ends-many : (item : ℕ → ℕ → Out) → ((at n : ℕ) → Holds (Ends n) (item at n)) → (k at n : ℕ) → n ≤ max_nodes → Holds (Ends n) (many item k at n)
unfolding many
ends-many item f zero at n j = ends n j (omega arith)
ends-many item f (suc k) at n j =
    holds_bind (item at n) _ (f at n)
    (λ at₁ n₁ rs e. holds_bind (many item k at₁ n₁) _ (ends-many item f k at₁ n₁ e.0)
    (λ at₂ n₂ ts g. ends n g.0 (omega (arith, e, g, length-append rs ts))))

pub ends-bound : (kind d : ℕ) (c : Checked) (at n : ℕ) → Holds (Ends n) (bound kind d c at n)
ends-bound kind d c at n =
    holds_numbered c at _
    (λ v next. holds_check (leb 1 d) 6 at _
    (λ e₁. holds_check (ltb n max_nodes) 10 at _ (λ e₂. ends n (omega (arith, ltb-true n max_nodes e₂)) (omega arith))))

module _ (s : List ℕ) where
  pub ends-size : (d at n : ℕ) → Holds (Ends n) (size d s at n)
  ends-size d at n = ends-bound SIZE d (checked_at s at) at n

  pub ends_low : (d at n : ℕ) → Holds (Ends n) (low d s at n)
  ends_low d at n = ends-bound LOW d (checked_at s at) at n

  module _ (read : Reader) (below : (counts : Counts) (p : Place) (at n : ℕ) → Holds (Ends n) (read counts p at n)) where
    ends-callable : (counts : Counts) (p : Place) (kind a b at n from : ℕ) → Holds (Ends n) (callable read s counts p kind a b at n from)
    ends-callable counts p kind a b at n from =
        holds_numbered (checked_at s from) from _
        (λ c next. holds_bind (read counts Place.RetType next (n + 1)) _ (below counts Place.RetType next (n + 1))
        (λ at₁ n₁ rs e. holds_bind (many (read counts p) c at₁ n₁) _ (ends-many (read counts p) (below counts p) c at₁ n₁ e.0)
        (λ at₂ n₂ ts g. ends n g.0 (omega (arith, e, g, length-append rs ts)))))

    ends-array : (d : ℕ) (counts : Counts) (kind at n : ℕ) → Holds (Ends n) (array read d s counts kind at n)
    ends-array d counts kind at n =
        holds_bind (read counts Place.Type (at + 1) (n + 1)) _ (below counts Place.Type (at + 1) (n + 1))
        (λ at₁ n₁ ts e. holds_numbered (count_at 1 max_rank s at₁) at₁ _
        (λ rank at₂. holds_numbered (count_at 0 rank s at₂) at₂ _
        (λ sizes at₃. holds_bind (many (size d s) sizes at₃ n₁) _ (ends-many (size d s) (ends-size d) sizes at₃ n₁ e.0)
        (λ at₄ n₂ ss f. holds_numbered (count_at 0 rank s at₄) at₄ _
        (λ lows at₅. holds_bind (many (low d s) lows at₅ n₂) _ (ends-many (low d s) (ends_low d) lows at₅ n₂ f.0)
        (λ at₆ n₃ ls g. ends n g.0 (omega (arith, e, f, g, length-append ts (ss ++ ls), length-append ss ls))))))))

    ends-body : (d : ℕ) (counts : Counts) (kind b at n : ℕ) (f : Form) → at < length s → n < max_nodes → Holds (Ends n) (body read d s counts kind b at n f)
    unfolding body
    ends-body d counts kind b at n Refused l m = stopped
    ends-body d counts kind b at n Leaf l m = ends n (omega arith) (omega arith)
    ends-body d counts kind b at n Named l m = holds_numbered (token_at type_tags counts s (at + 1)) (at + 1) _ (λ t next. ends n (omega arith) (omega arith))
    ends-body d counts kind b at n Variable l m = holds_numbered (checked_at s (at + 1)) (at + 1) _ (λ v next. ends n (omega arith) (omega arith))
    ends-body d counts kind b at n (Wrap p) l m =
        holds_bind (read counts p (at + 1) (n + 1)) _ (below counts p (at + 1) (n + 1)) (λ at₁ n₁ rs e. ends n e.0 (omega (arith, e)))
    ends-body d counts kind b at n (Modified p) l m =
        holds_numbered (token_at mod_tags counts s (at + 1)) (at + 1) _
        (λ t next. holds_bind (read counts p next (n + 1)) _ (below counts p next (n + 1)) (λ at₁ n₁ rs e. ends n e.0 (omega (arith, e))))
    ends-body d counts kind b at n (Counted p) l m =
        holds_numbered (count_at 1 max_number s (at + 1)) (at + 1) _
        (λ c next. holds_bind (many (read counts p) c next (n + 1)) _ (ends-many (read counts p) (below counts p) c next (n + 1) (omega arith))
        (λ at₁ n₁ rs e. ends n e.0 (omega (arith, e))))
    ends-body d counts kind b at n Array l m = ends-array d counts kind at n
    ends-body d counts kind b at n Instance l m =
        holds_check (ltb (at + 1) (length s)) 2 (at + 1) _
        (λ _. holds_check (within 0x11 0x12 (get_or s (at + 1) 0)) 5 (at + 1) _
        (λ _. holds_numbered (token_at type_tags counts s (at + 2)) (at + 2) _
        (λ t at₁. holds_numbered (count_at 1 max_number s at₁) at₁ _
        (λ c at₂. holds_bind (many (read counts Place.Type) c at₂ (n + 1)) _ (ends-many (read counts Place.Type) (below counts Place.Type) c at₂ (n + 1) (omega arith))
        (λ at₃ n₁ rs e. ends n e.0 (omega (arith, e)))))))
    ends-body d counts kind b at n (Callable p) l m = ends-callable counts p kind 0 b at n (at + 1)
    ends-body d counts kind b at n (Generic p) l m =
        holds_numbered (count_at 1 max_number s (at + 1)) (at + 1) _ (λ g next. ends-callable counts p kind g b at n next)

  pub ends-node : (d : ℕ) (counts : Counts) (p : Place) (at n : ℕ) → Holds (Ends n) (node d s counts p at n)
  unfolding node
  ends-node zero counts p at n = holds_opened s zero p at n (λ b f. fault 6 at) (λ l r. stopped)
  ends-node (suc d) counts p at n =
      holds_opened s (suc d) p at n (λ b f. body (node d s) d s counts (kind_of p b) b at n f)
      (λ l r. ends-body (node d s) (ends-node d) d counts (kind_of p (get_or s at 0)) (get_or s at 0) at n (form_of p (get_or s at 0)) l r)

pub ends-judge : (kind : ℕ) (counts : Counts) (s : List ℕ) → Holds (Ends 0) (judge kind counts s)
unfolding judge
ends-judge kind counts s =
    holds_check (leb kind max_kind) 12 0 _
    (λ _. holds_check (known_counts counts) 13 0 _
    (λ _. holds_check (leb (length s) max_bytes) 1 0 _
    (λ _. holds_bind (node max_depth s counts (root_of kind) 0 0) _ (ends-node s max_depth counts (root_of kind) 0 0)
    (λ at n rs e. holds_check (eqb at (length s)) 9 at _ (λ _. holds e)))))

pub ends-reading : (kind : ℕ) (counts : Counts) (s : List ℕ) (lent : ℕ) → Holds (Ends 0) (reading kind counts s lent)
unfolding reading
ends-reading kind counts s lent =
    holds_bind (judge kind counts s) _ (ends-judge kind counts s) (λ at n rs e. holds_check (leb n lent) 11 n _ (λ _. holds e))

-- where every node has a record, 11 is not given
pub reading-enough : (kind : ℕ) (counts : Counts) (s : List ℕ) (lent : ℕ) → max_nodes ≤ lent → reading kind counts s lent ≡ judge kind counts s
unfolding reading
reading-enough kind counts s lent l = go (judge kind counts s) (ends-judge kind counts s)
  where
    go : (o : Out) → Holds (Ends 0) o → bind o (λ at n rs. check (leb n lent) 11 n (λ _. done at n rs)) ≡ o
    go (fault code off) h = refl
    go (done at n rs) (holds h) = rw (le-leb n lent (omega (arith, h)))
