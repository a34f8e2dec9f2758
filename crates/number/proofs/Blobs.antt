-- Laws of numbers that are read where they stand, and of a length with its bytes.
-- `Bytes s` says that s is a list of bytes, as every slice of bytes is (`slice_bytes`, number/proofs/Slices.antt).
-- Assumes nothing.
use Prim.Native.Nat.{ℕ, zero, suc, ◌+◌, ◌-◌, ◌<◌, ◌≤◌}
use mathlib.Core.Path.{◌≡◌, refl, sym, ap, ◌∙◌, subst}
use mathlib.Core.List.{List, [], ◌∷◌, ◌++◌}
use mathlib.Core.Bool.{Bool, true, false, cond}
use native.Mathlib.Omega.{arith}
use native.Mathlib.Numerals.{add-one}
use lib.ListN.{length, take, drop, length-drop}
use lib.Seq.{drop-cons, length-take-le}
use lib.Dec.{leb}
use borrow.Author.Tests.{le-leb, lt-leb, leb-true}
use Rattle.std.specs.Prelude.{Ok, Err}
use Rattle.answer.specs.declared.refusal.Refusal.{Refusal}
use Rattle.number.specs.Number.{Bytes, limit, encode, number, found, number_at}
use Rattle.number.specs.Checked.{Checked, checked, checked_at}
use Rattle.number.specs.Blob.{blob_of, blob_at}
use Rattle.answer.specs.declared.refusal.Refusal.TheVariants.{BytesEnd}
use Rattle.number.proofs.Laws.{decoded, encoded, onward}
use Rattle.number.proofs.Checks.{checked-good, checked-onward}
use Rattle.number.proofs.Stands.{Stands, nothing, byte, join, split, stands_length}

-- ---- a number that is read stands there, and one that stands somewhere is read there

-- these bytes stand from an offset up to one within the list, and their number is small enough
pub record Got (small : Type 0) (s : List ℕ) (at : ℕ) (bs : List ℕ) (next : ℕ) : Type 0 where
  pub fits : small
  pub stands : Stands s at bs next
  pub inside : next ≤ length s

pub got : (s : List ℕ) → Bytes s → (at v next : ℕ) → checked_at s at ≡ found v next → Got (v < limit) s at (encode v) next
unfolding checked_at
got s bytes at v next e =
    let n = checked-good (number_at s at) v next e in
    let d = decoded s at v next bytes n in
    record { fits = d.small; stands = d.stands; inside = (onward s at v next n).1 }

pub reads : (s : List ℕ) (at v z : ℕ) → v < limit → Stands s at (encode v) z → checked_at s at ≡ found v z
unfolding checked_at checked
reads s at v z h k = rw (encoded s at v z h k) refl

-- ---- stretches

stands_inside : (s bs : List ℕ) (a z : ℕ) → a ≤ length s → Stands s a bs z → z ≤ length s
stands_inside s [] a z h k = omega (arith, k.here)
stands_inside s (b ∷ bs) a z h k = stands_inside s bs (a + 1) z (omega (arith, k.here.0)) (record { here = k.here.2 })

-- what stands somewhere is what is cut out there
slice_is : (s bs : List ℕ) (a z : ℕ) → Stands s a bs z → take (length bs) (drop a s) ≡ bs
slice_is s [] a z k = refl
slice_is s (b ∷ bs) a z k =
    ap (take (suc (length bs))) (drop-cons s a 0 k.here.0) ∙ ap (λ x. x ∷ take (length bs) (drop (suc a) s)) k.here.1
    ∙ ap (λ l. b ∷ l) (ap (λ j. take (length bs) (drop j s)) (sym (add-one a)) ∙ slice_is s bs (a + 1) z (record { here = k.here.2 }))

stands_slice : (s : List ℕ) (v from : ℕ) → from + v ≤ length s → Stands s from (take v (drop from s)) (from + v)
stands_slice s zero from h = let z : from ≡ from + 0 = omega arith in subst (λ k. Stands s from [] k) z nothing
stands_slice s (suc v) from h =
    let z : from + 1 + v ≡ from + suc v = omega arith in
    let r : Stands s (from + 1) (take v (drop (from + 1) s)) (from + suc v) = subst (λ k. Stands s (from + 1) (take v (drop (from + 1) s)) k) z (stands_slice s v (from + 1) (omega arith)) in
    subst (λ l. Stands s from (take (suc v) l) (from + suc v)) (sym (drop-cons s from 0 (omega arith)))
    (byte (omega arith) refl (subst (λ k. Stands s (from + 1) (take v (drop k s)) (from + suc v)) (add-one from) r))

-- ---- the ways out of `blob_at`

module _ (s : List ℕ) (at : ℕ) {r : Checked} (er : r ≡ checked_at s at) where
  module _ {v next : ℕ} (e : r ≡ found v next) where
    pub blob-cut : length s < next + v → Err BytesEnd ≡ blob_at s at
    unfolding blob_at blob_of
    blob-cut h = rw (sym er ∙ e) (rw (lt-leb (next + v) (length s) h))

    pub blob-there : next + v ≤ length s → found v (next + v) ≡ blob_at s at
    unfolding blob_at blob_of
    blob-there h = rw (sym er ∙ e) (rw (le-leb (next + v) (length s) h))

  pub blob-bad : {refusal : Refusal} → r ≡ Err refusal → Err refusal ≡ blob_at s at
  unfolding blob_at blob_of
  blob-bad e = rw (sym er ∙ e)

-- ---- what it says of a blob that it is read

from_good : (n v next : ℕ) (c : Checked) → blob_of n c ≡ found v next → (from : ℕ) × (c ≡ found v from) × (next ≡ from + v) × (from + v ≤ n)
unfolding blob_of
from_good n v next (Ok c) e = go (leb (c.next + c.value) n) refl e
  where
    go : (b : Bool) → leb (c.next + c.value) n ≡ b → cond b (found c.value (c.next + c.value)) (Err BytesEnd) ≡ found v next
        → (from : ℕ) × (found {E = Refusal} c.value c.next ≡ found v from) × (next ≡ from + v) × (from + v ≤ n)
    go true h e =
        let same : number c.value (c.next + c.value) ≡ number v next = cc in
        let a : c.value ≡ v = ap (λ m. m.value) same in
        let b : c.next + c.value ≡ next = ap (λ m. m.next) same in
        let u : c.next + c.value ≤ n = leb-true (c.next + c.value) n h in
        (c.next, ap (λ y. found y c.next) a, omega (arith, a, b), omega (arith, a, u))
    go false h e = absurd cc
from_good n v next (Err refusal) e = absurd cc

-- its bytes lie within the list
pub blob-within : (s : List ℕ) (at : ℕ) {r : Checked} → r ≡ blob_at s at → {v next : ℕ} → r ≡ found v next → (v ≤ next) × (next ≤ length s)
unfolding blob_at
blob-within s at er {v} {next} e =
    let b = from_good (length s) v next (checked_at s at) (sym er ∙ e) in
    (omega (arith, b.2), omega (arith, b.2, b.3))

-- a blob that is read stands there, and one that stands somewhere is read there

abbrev pub BlobGot : (s : List ℕ) (at next : ℕ) (blob : List ℕ) → Type 0
BlobGot s at next blob = Got (length blob < limit) s at (encode (length blob) ++ blob) next

pub blob-got : (s : List ℕ) → Bytes s → (at v next : ℕ) → blob_at s at ≡ found v next → BlobGot s at next (take v (drop (next - v) s))
unfolding blob_at
blob-got s bytes at v next e =
    let b = from_good (length s) v next (checked_at s at) e in
    let from = b.0 in
    let g = got s bytes at v from b.1 in
    let z : next - v ≡ from = omega (arith, b.2) in
    let size : length (take v (drop from s)) ≡ v = length-take-le v (drop from s) (omega (arith, length-drop from s, b.3)) in
    let here : Stands s at (encode (length (take v (drop from s)))) from = subst (λ n. Stands s at (encode n) from) (sym size) g.stands in
    let there : Stands s from (take v (drop from s)) next = subst (λ n. Stands s from (take v (drop from s)) n) (sym b.2) (stands_slice s v from b.3) in
    subst (λ j. BlobGot s at next (take v (drop j s))) (sym z)
    (record { fits = omega (arith, size, g.fits); stands = join here there; inside = omega (arith, b.2, b.3) })

pub blob-reads : (s : List ℕ) (at : ℕ) (blob : List ℕ) (next : ℕ) → length blob < limit → Stands s at (encode (length blob) ++ blob) next
    → (blob_at s at ≡ found (length blob) next) × (take (length blob) (drop (next - length blob) s) ≡ blob)
blob-reads s at blob next h k =
    let parts = split (encode (length blob)) blob k in
    let from = parts.0 in
    let e = reads s at (length blob) from h parts.1 in
    let z : next ≡ from + length blob = stands_length parts.2 in
    let u : next ≤ length s = stands_inside s blob from next (checked-onward s at (length blob) from e).1 parts.2 in
    let y : next - length blob ≡ from = omega (arith, z) in (
      sym (blob-there s at refl e (omega (arith, u, z))) ∙ ap (found (length blob)) (sym z),
      ap (λ j. take (length blob) (drop j s)) y ∙ slice_is s blob from next parts.2,
    )
