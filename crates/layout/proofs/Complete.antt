-- What spells a sheet is accepted, and read back.
-- Assumes nothing.
use Prim.Native.Nat.{ℕ, ◌-◌, ◌<◌, zero-le}
use mathlib.Core.Path.{◌≡◌, refl, sym, ap, ◌∙◌, subst}
use mathlib.Core.List.{List, [], ◌∷◌, ◌++◌}
use native.Mathlib.Omega.{arith}
use mathlib.Core.Bool.{cond}
use native.Mathlib.Nat.{le_refl}
use lib.ListN.{length, take, drop}
use borrow.Author.Tests.{le-ltb}
use Rattle.number.specs.Number.{limit, encode}
use Rattle.number.specs.Checked.{Checked, on_checked}
use Rattle.number.specs.declared.token.Counts.{Counts}
use Rattle.std.specs.Prelude.{Ok, Err}
use Rattle.number.specs.Number.{found}
use Rattle.number.proofs.Checks.{count-in}
use Rattle.number.proofs.Stands.{Stands, split, whole}
use Rattle.number.proofs.Blobs.{reads, blob-reads}
use Rattle.grammar.specs.Limits.{max_rows}
use Rattle.answer.specs.Size.{max_size}
use Rattle.layout.specs.Layout.{Parsed, max_sheet, section_count, item_at, items, laid_out, note_of, sections, sections_of, layout_of, counts_of, list_from, blobs_from, acks_from}
use Rattle.layout.specs.Spelling.{spelled, Each, blob_spelled, Sheet}
use Rattle.layout.specs.declared.Layout.{Layout}
use Rattle.layout.specs.declared.Section.{Section}

-- a list of items that stands somewhere is read there, up to its end
module _ (s : List ℕ) {A : Type 0} (item : ℕ → Checked) (value : ℕ → ℕ → A) (spells : A → List ℕ) (Small : A → Type 0)
    (one : (x : A) (at next : ℕ) → Small x → Stands s at (spells x) next → (v : ℕ) × (item at ≡ found v next) × (value v next ≡ x)) where
  list_back : (xs : List A) (at end : ℕ) → Each Small xs → Stands s at (spelled spells xs) end
      → ((then : ℕ → Parsed) → items item (length xs) at then ≡ then end) × (list_from item value (length xs) at ≡ xs)
  unfolding items list_from spelled Each
  list_back [] at end n k = ((λ then. ap then k.here), refl)
  list_back (x ∷ xs) at end n k =
      let parts = split (spells x) (spelled spells xs) k in
      let next = parts.0 in
      let r = one x at next n.0 parts.1 in
      let rest = list_back xs next end n.1 parts.2 in (
        (λ then. ap (λ c. on_checked c (λ v next. items item (length xs) next then) (λ code. Err at)) r.1 ∙ rest.0 then),
        ap (λ c. on_checked c (λ v next. value v next ∷ list_from item value (length xs) next) (λ code. [])) r.1
            ∙ ap (λ y. y ∷ list_from item value (length xs) next) r.2 ∙ ap (λ l. x ∷ l) rest.1,
      )

on : (c : Checked) (at : ℕ) (then : ℕ → ℕ → Parsed) {v next : ℕ} → c ≡ found v next → on_checked c then (λ code. Err at) ≡ then v next
on c at then e = ap (λ y. on_checked y then (λ code. Err at)) e

-- a layout that says of s what it spells
pub record Reading (s : List ℕ) (counts : Counts) (blobs : List (List ℕ)) (acks : List ℕ) : Type 0 where
  pub layout : Layout
  pub accepted : layout_of s ≡ Ok layout
  pub counts-read : counts_of s layout ≡ counts
  pub blobs_read : blobs_from layout.rows s layout.starts.blobs ≡ blobs
  pub acks_read : acks_from layout.acknowledged s layout.starts.acks ≡ acks

-- "Exactly 01's rules", the other way: what spells a sheet is accepted, and its counts, blobs and rows are read back
pub sheet_complete : (s : List ℕ) (counts : Counts) (blobs : List (List ℕ)) (acks : List ℕ) → Sheet s counts blobs acks → Reading s counts blobs acks
unfolding layout_of sections section_count item_at items note_of counts_of
sheet_complete s counts blobs acks h =
    let all : Stands s 0 (encode 2 ++ (encode counts.defs ++ (encode counts.refs ++ (encode (length blobs) ++ (spelled blob_spelled blobs ++ (encode (length acks) ++ spelled encode acks)))))) (length s) =
    subst (λ l. Stands s 0 l (length s)) h.spells (whole s) in
    let p₀ = split (encode 2) _ all in
    let p₁ = split (encode counts.defs) _ p₀.2 in
    let p₂ = split (encode counts.refs) _ p₁.2 in
    let p₃ = split (encode (length blobs)) _ p₂.2 in
    let p₄ = split (spelled blob_spelled blobs) _ p₃.2 in
    let p₅ = split (encode (length acks)) (spelled encode acks) p₄.2 in
    let two = reads s 0 2 p₀.0 (omega arith) p₀.1 in
    let first = reads s p₀.0 counts.defs p₁.0 (omega (arith, h.defs-few)) p₁.1 in
    let second = reads s p₁.0 counts.refs p₂.0 (omega (arith, h.refs-few)) p₂.1 in
    let rows = reads s p₂.0 (length blobs) p₃.0 (omega (arith, h.few_blobs)) p₃.1 in
    let bs = list_back s (item_at Section.Blobs s) (λ v next. take v (drop (next - v) s)) blob_spelled (λ blob. length blob < limit)
    (λ blob at next l k. let r = blob-reads s at blob next l k in (length blob, r.0, r.1)) blobs p₃.0 p₄.0 h.numbers.1 p₄.1 in
    let number = reads s p₄.0 (length acks) p₅.0 h.numbers.0 p₅.1 in
    let last = list_back s (item_at Section.Acks s) (λ v next. v) encode (λ row. row < limit)
    (λ row at next l k. (row, reads s at row next l k, refl)) acks p₅.0 (length s) h.numbers.2 p₅.2 in
    let c₀ : section_count Section.Counts s 0 ≡ found 2 p₀.0 = sym (count-in s 0 refl 2 2 two (omega arith) (omega arith)) in
    let c₁ : item_at Section.Counts s p₀.0 ≡ found counts.defs p₁.0 = sym (count-in s p₀.0 refl 0 max_rows first zero-le h.defs-few) in
    let c₂ : item_at Section.Counts s p₁.0 ≡ found counts.refs p₂.0 = sym (count-in s p₁.0 refl 0 max_rows second zero-le h.refs-few) in
    let c₃ : section_count Section.Blobs s p₂.0 ≡ found (length blobs) p₃.0 = sym (count-in s p₂.0 refl 1 max_size rows h.some_blobs h.few_blobs) in
    record {
      layout = laid_out p₀.0 p₃.0 p₅.0 (length blobs) (length acks);
      accepted =
          ap (λ b. cond b (Err max_sheet) (sections_of s)) (le-ltb max_sheet (length s) h.size)
          ∙ on (section_count Section.Counts s 0) 0 _ c₀ ∙ on (item_at Section.Counts s p₀.0) p₀.0 _ c₁ ∙ on (item_at Section.Counts s p₁.0) p₁.0 _ c₂
          ∙ on (section_count Section.Blobs s p₂.0) p₂.0 _ c₃ ∙ bs.0 _ ∙ on (section_count Section.Acks s p₄.0) p₄.0 _ number ∙ last.0 _
          ∙ ap (λ b. cond b (Err (length s)) (Ok (laid_out p₀.0 p₃.0 p₅.0 (length blobs) (length acks)))) (le-ltb (length s) (length s) (le_refl (length s)));
      counts-read = rw (first, second, ← h.rows) refl;
      blobs_read = bs.1;
      acks_read = last.1;
    }
