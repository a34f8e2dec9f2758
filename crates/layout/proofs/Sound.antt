-- A sheet that is accepted is spelled by what is read in it.
-- Assumes nothing.
use Prim.Native.Nat.{ℕ, zero, suc, ◌-◌, ◌<◌, ◌≤◌}
use mathlib.Core.Path.{◌≡◌, refl, sym, ap, subst}
use mathlib.Core.List.{List, [], ◌∷◌}
use mathlib.Core.Bool.{Bool, true, false, cond}
use native.Mathlib.Omega.{arith}
use lib.ListN.{length, take, drop}
use lib.Dec.{ltb}
use borrow.Author.Tests.{ltb-false}
use Rattle.number.specs.Number.{Bytes, limit, encode}
use Rattle.number.specs.Checked.{Checked, checked_at, on_checked}
use Rattle.number.specs.declared.token.Counts.{Counts}
use Rattle.std.specs.Prelude.{Ok, Err}
use Rattle.number.specs.Number.{found}
use Rattle.number.proofs.Checks.{count-good}
use Rattle.number.proofs.Stands.{Stands, nothing, join, all_of}
use Rattle.number.proofs.Blobs.{Got, got, blob-got}
use Rattle.grammar.specs.Limits.{max_rows}
use Rattle.answer.specs.Size.{max_size}
use Rattle.layout.specs.Layout.{Parsed, max_sheet, section_count, item_at, items, laid_out, note_of, sections, sections_of, layout_of, counts_of, list_from, blobs_from, acks_from}
use Rattle.layout.specs.Spelling.{spelled, Each, blob_spelled, Sheet}
use Rattle.layout.specs.declared.Layout.{Layout}
use Rattle.layout.specs.declared.Section.{Section}

-- ---- what it says of a sheet that it is accepted
followed : (c : Checked) (at : ℕ) (then : ℕ → ℕ → Parsed) (l : Layout) → on_checked c then (λ code. Err at) ≡ Ok l
    → (v : ℕ) × (next : ℕ) × (c ≡ found v next) × (then v next ≡ Ok l)
followed (Ok n) at then l e = (n.value, n.next, refl, e)
followed (Err refusal) at then l e = let z : ◌≡◌ {A = ℕ} 0 1 = cc in absurd (omega arith)

-- k items, one after the other, up to an end
abbrev pub Run : (ℕ → Checked) → (k at end : ℕ) → Type 0
Run item zero at end = at ≡ end
Run item (suc k) at end = (v : ℕ) × (next : ℕ) × (item at ≡ found v next) × Run item k next end

ran : (item : ℕ → Checked) (k at : ℕ) (then : ℕ → Parsed) (l : Layout) → items item k at then ≡ Ok l → (end : ℕ) × Run item k at end × (then end ≡ Ok l)
unfolding items
ran item zero at then l e = (at, refl, e)
ran item (suc k) at then l e =
    let f = followed (item at) at (λ v next. items item k next then) l e in
    let r = ran item k f.1 then l f.3 in
    (r.0, (f.0, f.1, f.2, r.1), r.2)

-- ---- the two lists
-- what was read of a list of k, from an offset up to an end
record Listed (s : List ℕ) (k at end : ℕ) (bytes : List ℕ) (count : ℕ) (small : Type 0) : Type 0 where
  stands : Stands s at bytes end
  counts : count ≡ k
  fits : small
  inside : end ≤ length s

module _ (s : List ℕ) {A : Type 0} (item : ℕ → Checked) (value : ℕ → ℕ → A) (spells : A → List ℕ) (Small : A → Type 0)
    (one : (at v next : ℕ) → item at ≡ found v next → Got (Small (value v next)) s at (spells (value v next)) next) where
  abbrev list : (k at : ℕ) → List A
  list k at = list_from item value k at

  list_sound : (k at end : ℕ) → at ≤ length s → Run item k at end → Listed s k at end (spelled spells (list k at)) (length (list k at)) (Each Small (list k at))
  unfolding list_from spelled Each
  list_sound zero at end h r = record { stands = subst (λ k. Stands s at [] k) r nothing; counts = refl; fits = tt; inside = omega (arith, r) }
  list_sound (suc k) at end h r =
      let g = one at r.0 r.1 r.2 in
      let rest = list_sound k r.1 end g.inside r.3 in
      let e : list (suc k) at ≡ value r.0 r.1 ∷ list k r.1 = ap (λ c. on_checked c (λ v next. value v next ∷ list k next) (λ code. [])) r.2 in
      subst (λ l. Listed s (suc k) at end (spelled spells l) (length l) (Each Small l)) (sym e)
      (record { stands = join g.stands rest.stands; counts = ap suc rest.counts; fits = (g.fits, rest.fits); inside = rest.inside })

-- ---- the whole sheet
ended : (at : ℕ) (s : List ℕ) (l m : Layout) → cond (ltb at (length s)) (Err at) (Ok l) ≡ Ok m → (length s ≤ at) × (l ≡ m)
ended at s l m e = go (ltb at (length s)) refl e
  where
    go : (b : Bool) → ltb at (length s) ≡ b → cond b (Err at) (Ok l) ≡ Ok m → (length s ≤ at) × (l ≡ m)
    go true h e = let z : ◌≡◌ {A = ℕ} 0 1 = cc in absurd (omega arith)
    go false h e = (ltb-false at (length s) h, cc)

sized : (s : List ℕ) (p : Parsed) (l : Layout) → cond (ltb max_sheet (length s)) (Err max_sheet) p ≡ Ok l → (length s ≤ max_sheet) × (p ≡ Ok l)
sized s p l e = go (ltb max_sheet (length s)) refl e
  where
    go : (b : Bool) → ltb max_sheet (length s) ≡ b → cond b (Err max_sheet) p ≡ Ok l → (length s ≤ max_sheet) × (p ≡ Ok l)
    go true h e = let z : ◌≡◌ {A = ℕ} 0 1 = cc in absurd (omega arith)
    go false h e = (ltb-false max_sheet (length s) h, e)

-- what is read in a sheet spells it
abbrev pub Of : List ℕ → Layout → Type 0
Of s l = Sheet s (counts_of s l) (blobs_from l.rows s l.starts.blobs) (acks_from l.acknowledged s l.starts.acks)

module _ (s : List ℕ) (bytes : Bytes s) (size : length s ≤ max_sheet) where
  -- the first section: its count, which is 2, and two table counts
  record Heading (at : ℕ) (end : ℕ) : Type 0 where
    defs : ℕ
    refs : ℕ
    middle : ℕ
    start : Stands s 0 (encode 2) at
    first : checked_at s at ≡ found defs middle
    second : checked_at s middle ≡ found refs end
    few : (defs ≤ max_rows) × (refs ≤ max_rows)

  heading : (v at end : ℕ) → section_count Section.Counts s 0 ≡ found v at → Run (item_at Section.Counts s) v at end → Heading at end
  unfolding section_count item_at
  heading v at end e r =
      let c = count-good 2 2 s 0 v at e in
      let z : v ≡ 2 = omega (arith, c.1) in
      let t : Run (item_at Section.Counts s) 2 at end = subst (λ k. Run (item_at Section.Counts s) k at end) z r in
      let d = count-good 0 max_rows s at t.0 t.1 t.2 in
      let u = t.3 in
      let f = count-good 0 max_rows s t.1 u.0 u.1 u.2 in
      record {
        defs = t.0;
        refs = u.0;
        middle = t.1;
        start = subst (λ k. Stands s 0 (encode k) at) z (got s bytes 0 v at c.0).stands;
        first = d.0;
        second = subst (λ k. checked_at s t.1 ≡ found u.0 k) u.3 f.0;
        few = (d.1.1, f.1.1);
      }

  module _ (at from rows blobs until count acks last : ℕ) (h : Heading at from) (eb : section_count Section.Blobs s from ≡ found rows blobs) (rb : Run (item_at Section.Blobs s) rows blobs until)
      (ea : section_count Section.Acks s until ≡ found count acks) (ra : Run (item_at Section.Acks s) count acks last) (over : length s ≤ last) where
    abbrev read : Layout
    read = laid_out at blobs acks rows count

    counts-found : counts_of s read ≡ record { defs = h.defs; refs = h.refs; specs = rows }
    unfolding counts_of
    counts-found = rw (h.first, h.second) refl

    assembled : Of s read
    unfolding section_count item_at
    assembled =
        let c = count-good 1 max_size s from rows blobs eb in
        let defs = got s bytes at h.defs h.middle h.first in
        let refs = got s bytes h.middle h.refs from h.second in
        let gb = got s bytes from rows blobs c.0 in
        let ga = got s bytes until count acks ea in
        let lb = list_sound s (item_at Section.Blobs s) (λ v next. take v (drop (next - v) s)) blob_spelled (λ blob. length blob < limit) (blob-got s bytes) rows blobs until gb.inside rb in
        let la = list_sound s (item_at Section.Acks s) (λ v next. v) encode (λ row. row < limit) (got s bytes) count acks last ga.inside ra in
        let z : last ≡ length s = omega (arith, la.inside, over) in
        let number : Stands s from (encode (length (blobs_from rows s blobs))) blobs = subst (λ k. Stands s from (encode k) blobs) (sym lb.counts) gb.stands in
        let behind : Stands s until (encode (length (acks_from count s acks))) acks = subst (λ k. Stands s until (encode k) acks) (sym la.counts) ga.stands in
        let tail : Stands s acks (spelled encode (acks_from count s acks)) (length s) = subst (λ k. Stands s acks (spelled encode (acks_from count s acks)) k) z la.stands in
        subst (λ (k : Counts). Sheet s k (blobs_from rows s blobs) (acks_from count s acks)) (sym counts-found) (record {
          size = size;
          defs-few = h.few.0;
          refs-few = h.few.1;
          rows = sym lb.counts;
          some_blobs = omega (arith, lb.counts, c.1.0);
          few_blobs = omega (arith, lb.counts, c.1.1);
          numbers = (omega (arith, la.counts, ga.fits), lb.fits, la.fits);
          spells = all_of (join h.start (join defs.stands (join refs.stands (join number (join lb.stands (join behind tail))))));
        })

-- "Exactly 01's rules", one way: an accepted sheet is spelled by the counts, blobs and rows that are read in it
pub sheet_sound : (s : List ℕ) → Bytes s → (l : Layout) → layout_of s ≡ Ok l → Of s l
unfolding layout_of sections note_of
sheet_sound s bytes l e =
    let a = sized s (sections_of s) l e in
    let f₀ = followed (section_count Section.Counts s 0) 0 _ l a.1 in
    let r₀ = ran (item_at Section.Counts s) f₀.0 f₀.1 _ l f₀.3 in
    let f₁ = followed (section_count Section.Blobs s r₀.0) r₀.0 _ l r₀.2 in
    let r₁ = ran (item_at Section.Blobs s) f₁.0 f₁.1 _ l f₁.3 in
    let f₂ = followed (section_count Section.Acks s r₁.0) r₁.0 _ l r₁.2 in
    let r₂ = ran (item_at Section.Acks s) f₂.0 f₂.1 _ l f₂.3 in
    let end = ended r₂.0 s _ l r₂.2 in
    subst (Of s) end.1 (assembled s bytes a.0 f₀.1 r₀.0 f₁.0 f₁.1 r₁.0 f₂.0 f₂.1 r₂.0
    (heading s bytes a.0 f₀.0 f₀.1 r₀.0 f₀.2 r₀.1) f₁.2 r₁.1 f₂.2 r₂.1 end.0)
