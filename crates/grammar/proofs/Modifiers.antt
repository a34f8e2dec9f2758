-- The modifiers of an accepted blob name only rows that there are: refusal 8 keeps a modifier's token within its table, and no node but a
-- modifier has a modifier's kind. For a list of any numbers.
-- Assumes nothing.
use Prim.Native.Nat.{ℕ, zero, suc, ◌+◌, ◌≤◌}
use mathlib.Core.Path.{◌≡◌, refl, sym, ap, ◌∙◌}
use mathlib.Core.Bool.{Bool, true, false, cond, ◌||◌, false≢true}
use mathlib.Core.List.{List, [], ◌∷◌, ◌++◌}
use lib.ListN.{length, get_or}
use lib.Dec.{ltb, leb, eqb}
use borrow.Author.Tests.{eqb-true}
use Rattle.number.specs.Number.{max_number}
use Rattle.number.specs.Checked.{Checked, checked_at, count_at}
use Rattle.number.specs.Token.{type_spec_token, type_tags, mod_tags, token_at}
use Rattle.std.specs.Prelude.{Ok, Err}
use Rattle.answer.specs.declared.refusal.Refusal.{Refusal}
use Rattle.answer.specs.Refusal.{number_of}
use Rattle.number.specs.Number.{found}
use Rattle.number.specs.declared.token.Counts.{Counts}
use Rattle.number.proofs.Checks.{Way, passed, refused, TokenRule, token-way, spec_row}
use Rattle.element.specs.Element.{by_sort, anywhere, nowhere, within, bare, leads, entries, form_of, places}
use Rattle.element.specs.declared.Place.{Place}
use Rattle.element.specs.declared.Form.{Form}
use Rattle.element.specs.declared.Form.TheVariants.{Refused, Leaf, Named, Variable, Wrap, Modified, Counted, Array, Instance, Callable, Generic}
use Rattle.element.proofs.Places.{at_place}
use Rattle.grammar.specs.Kinds.{max_kind, root_of}
use Rattle.grammar.specs.Limits.{max_bytes, max_nodes, max_depth, max_rank}
use Rattle.grammar.specs.Table.{entry, kind_of, is_modifier, is_modifier_of, SIZE, LOW}
use Rattle.grammar.specs.Judge.{Out, fault, numbered, many, bound, size, low, Reader, callable, array, body, node, known_counts, judge}
use Rattle.grammar.specs.declared.Node.{Node}
use Rattle.grammar.proofs.Sound.{Holds, stopped, holds, holds_bind, holds_check, holds_opened, both_left, both_right}
use Rattle.grammar.proofs.Bounds.{holds_numbered}

-- ---- a modifier's kind is a modifier's

abbrev modifies : Form → Bool
modifies f = by_sort false false nowhere anywhere nowhere nowhere nowhere f

-- a kind is the byte, or one that no byte has
kind_is : (p : Place) (b : ℕ) → kind_of p b ≡ cond (eqb (kind_of p 0) 0) b (kind_of p 0)
unfolding places
kind_is p b = at_place (λ q. kind_of q b) (λ q. cond (eqb (kind_of q 0) 0) b (kind_of q 0)) refl p

mod_form : (p : Place) (b : ℕ) → is_modifier (kind_of p b) ≡ true → modifies (form_of p b) ≡ true
unfolding form_of entries bare leads places
mod_form p b h = go (eqb (kind_of p 0) 0) (rw (kind_is p b) at h)
  where
    -- the bytes 1F and 20 in each place
    at_1f : is_modifier (kind_of p 0x1F) ≡ modifies (form_of p 0x1F)
    at_1f = at_place (λ q. is_modifier (kind_of q 0x1F)) (λ q. modifies (form_of q 0x1F)) refl p

    at_20 : is_modifier (kind_of p 0x20) ≡ modifies (form_of p 0x20)
    at_20 = at_place (λ q. is_modifier (kind_of q 0x20)) (λ q. modifies (form_of q 0x20)) refl p

    either : (x y : Bool) → eqb b 0x1F ≡ x → eqb b 0x20 ≡ y → (x || y) ≡ true → modifies (form_of p b) ≡ true
    either true y e f z = let w : b ≡ 0x1F = eqb-true b 0x1F e in rw w (sym at_1f ∙ (rw w at h))
    either false true e f z = let w : b ≡ 0x20 = eqb-true b 0x20 f in rw w (sym at_20 ∙ (rw w at h))
    either false false e f z = absurd (false≢true z)

    go : (t : Bool) → is_modifier (cond t b (kind_of p 0)) ≡ true → modifies (form_of p b) ≡ true
    go true e = either (eqb b 0x1F) (eqb b 0x20) refl refl e
    go false e = absurd (false≢true (sym (at_place (λ q. is_modifier (kind_of q 0)) (λ q. false) refl p) ∙ e))

-- ---- records

-- every TypeSpec row that the records' modifiers name is in its table
pub data Ranged (counts : Counts) : List Node → Type 0 where
  none : Ranged counts []
  more : {r : Node} {rs : List Node} → ((s : ℕ) → is_modifier_of s r ≡ true → (1 ≤ s) × (s ≤ counts.specs)) → Ranged counts rs → Ranged counts (r ∷ rs)

ranged_append : {counts : Counts} {rs ts : List Node} → Ranged counts rs → Ranged counts ts → Ranged counts (rs ++ ts)
ranged_append none g = g
ranged_append (more f h) g = more f (ranged_append h g)

-- ---- the judge

module _ (counts : Counts) where
  -- as a property of outcomes
  abbrev All : ℕ → ℕ → List Node → Type 0
  All at n rs = Ranged counts rs

  module _ (s : List ℕ) where
    ranged_token : (at : ℕ) (k : ℕ → ℕ → Out) → ((t next : ℕ) → TokenRule mod_tags counts t → Holds All (k t next)) → Holds All (numbered (token_at mod_tags counts s at) at k)
    ranged_token at k f = go (token_at mod_tags counts s at) (token-way (λ refusal. Unit {0}) s at mod_tags counts _)
      where
        go : (c : Checked) → Way (checked_at s at) (TokenRule mod_tags counts) (λ refusal. Unit {0}) c → Holds All (numbered c at k)
        go (Ok n) (passed e rule) = f n.value n.next rule
        go (Err refusal) (refused _ r) = stopped

    ranged_many : (item : ℕ → ℕ → Out) → ((at n : ℕ) → Holds All (item at n)) → (k at n : ℕ) → Holds All (many item k at n)
    unfolding many
    ranged_many item f zero at n = holds none
    ranged_many item f (suc k) at n =
        holds_bind (item at n) _ (f at n)
        (λ at₁ n₁ rs g. holds_bind (many item k at₁ n₁) _ (ranged_many item f k at₁ n₁) (λ at₂ n₂ ts h. holds (ranged_append g h)))

    -- a SIZE or LOW
    ranged_bound : (kind d : ℕ) (c : Checked) (at n : ℕ) → is_modifier kind ≡ false → Holds All (bound kind d c at n)
    ranged_bound kind d c at n e =
        holds_numbered c at _
        (λ v next. holds_check (leb 1 d) 6 at _
        (λ _. holds_check (ltb n max_nodes) 10 at _ (λ _. holds (more (λ x h. absurd (false≢true (sym e ∙ both_left _ _ h))) none))))

    -- one level, where below is what stands one level below
    module _ (read : Reader) (below : (p : Place) (at n : ℕ) → Holds All (read counts p at n)) (p : Place) (b : ℕ) where
      -- a node that is no modifier
      ranged_plain : {f : Form} → form_of p b ≡ f → modifies f ≡ false → {a x c at n : ℕ} {rs : List Node} → Ranged counts rs → Ranged counts (entry (kind_of p b) a x c at n ∷ rs)
      ranged_plain e z g = more (λ s h. absurd (false≢true (sym z ∙ sym (ap modifies e) ∙ mod_form p b (both_left _ _ h)))) g

      ranged_callable : {f : Form} → form_of p b ≡ f → modifies f ≡ false → (q : Place) (g x at n from : ℕ) → Holds All (callable read s counts q (kind_of p b) g x at n from)
      ranged_callable e z q g x at n from =
          holds_numbered (checked_at s from) from _
          (λ c next. holds_bind (read counts Place.RetType next (n + 1)) _ (below Place.RetType next (n + 1))
          (λ at₁ n₁ rs h. holds_bind (many (read counts q) c at₁ n₁) _ (ranged_many (read counts q) (below q) c at₁ n₁)
          (λ at₂ n₂ ts k. holds (ranged_plain e z (ranged_append h k)))))

      ranged_array : form_of p b ≡ Array → (d at n : ℕ) → Holds All (array read d s counts (kind_of p b) at n)
      ranged_array e d at n =
          holds_bind (read counts Place.Type (at + 1) (n + 1)) _ (below Place.Type (at + 1) (n + 1))
          (λ at₁ n₁ ts h₁. holds_numbered (count_at 1 max_rank s at₁) at₁ _
          (λ rank at₂. holds_numbered (count_at 0 rank s at₂) at₂ _
          (λ sizes at₃. holds_bind (many (size d s) sizes at₃ n₁) _ (ranged_many (size d s) (λ x y. ranged_bound SIZE d (checked_at s x) x y refl) sizes at₃ n₁)
          (λ at₄ n₂ ss h₂. holds_numbered (count_at 0 rank s at₄) at₄ _
          (λ lows at₅. holds_bind (many (low d s) lows at₅ n₂) _ (ranged_many (low d s) (λ x y. ranged_bound LOW d (checked_at s x) x y refl) lows at₅ n₂)
          (λ at₆ n₃ ls h₃. holds (ranged_plain e refl (ranged_append h₁ (ranged_append h₂ h₃)))))))))

      ranged_body : (d at n : ℕ) (f : Form) → form_of p b ≡ f → Holds All (body read d s counts (kind_of p b) b at n f)
      unfolding body
      ranged_body d at n Refused e = stopped
      ranged_body d at n Leaf e = holds (ranged_plain e refl none)
      ranged_body d at n Named e = holds_numbered (token_at type_tags counts s (at + 1)) (at + 1) _ (λ t next. holds (ranged_plain e refl none))
      ranged_body d at n Variable e = holds_numbered (checked_at s (at + 1)) (at + 1) _ (λ v next. holds (ranged_plain e refl none))
      ranged_body d at n (Wrap q) e = holds_bind (read counts q (at + 1) (n + 1)) _ (below q (at + 1) (n + 1)) (λ at₁ n₁ rs h. holds (ranged_plain e refl h))
      ranged_body d at n (Modified q) e =
          ranged_token (at + 1) _
          (λ t next k. holds_bind (read counts q next (n + 1)) _ (below q next (n + 1))
          (λ at₁ n₁ rs h. holds (more (λ x y. spec_row mod_tags counts t x k (eqb-true t (type_spec_token x) (both_right (is_modifier (kind_of p b)) _ y))) h)))
      ranged_body d at n (Counted q) e =
          holds_numbered (count_at 1 max_number s (at + 1)) (at + 1) _
          (λ c next. holds_bind (many (read counts q) c next (n + 1)) _ (ranged_many (read counts q) (below q) c next (n + 1))
          (λ at₁ n₁ rs h. holds (ranged_plain e refl h)))
      ranged_body d at n Array e = ranged_array e d at n
      ranged_body d at n Instance e =
          holds_check (ltb (at + 1) (length s)) 2 (at + 1) _
          (λ _. holds_check (within 0x11 0x12 (get_or s (at + 1) 0)) 5 (at + 1) _
          (λ _. holds_numbered (token_at type_tags counts s (at + 2)) (at + 2) _
          (λ t at₁. holds_numbered (count_at 1 max_number s at₁) at₁ _
          (λ c at₂. holds_bind (many (read counts Place.Type) c at₂ (n + 1)) _ (ranged_many (read counts Place.Type) (below Place.Type) c at₂ (n + 1))
          (λ at₃ n₁ rs h. holds (ranged_plain e refl h))))))
      ranged_body d at n (Callable q) e = ranged_callable e refl q 0 b at n (at + 1)
      ranged_body d at n (Generic q) e =
          holds_numbered (count_at 1 max_number s (at + 1)) (at + 1) _ (λ g next. ranged_callable e refl q g b at n next)

    ranged_node : (d : ℕ) (p : Place) (at n : ℕ) → Holds All (node d s counts p at n)
    unfolding node
    ranged_node zero p at n = holds_opened s zero p at n (λ b f. fault 6 at) (λ l r. stopped)
    ranged_node (suc d) p at n =
        holds_opened s (suc d) p at n (λ b f. body (node d s) d s counts (kind_of p b) b at n f)
        (λ l r. ranged_body (node d s) (ranged_node d) p (get_or s at 0) d at n (form_of p (get_or s at 0)) refl)

pub ranged_judge : (kind : ℕ) (counts : Counts) (s : List ℕ) → Holds (λ at n rs. Ranged counts rs) (judge kind counts s)
unfolding judge
ranged_judge kind counts s =
    holds_check (leb kind max_kind) 12 0 _
    (λ _. holds_check (known_counts counts) 13 0 _
    (λ _. holds_check (leb (length s) max_bytes) 1 0 _
    (λ _. holds_bind (node max_depth s counts (root_of kind) 0 0) _ (ranged_node counts s max_depth (root_of kind) 0 0)
    (λ at n rs h. holds_check (eqb at (length s)) 9 at _ (λ _. holds h)))))
