-- The writer's layouts fit the element bytes: what each code byte's kind lays out is what its form asks for. One computed test over
-- all places and the bytes below 80 hex; no other byte begins a node.
-- Assumes nothing.
use Prim.Native.Nat.{ℕ, zero, suc, ◌+◌, ◌-◌, ◌≤◌, ◌<◌}
use native.Mathlib.Omega.{arith}
use mathlib.Core.Path.{◌≡◌, refl, ap, ◌∙◌}
use mathlib.Core.Bool.{Bool, true, false, cond, ◌&&◌}
use mathlib.Core.List.{List, [], ◌∷◌, ◌++◌}
use lib.Dec.{ltb, eqb}
use borrow.Author.Tests.{ltb-true, ltb-false, eqb-true, eqb-false, ne_eqb}
use Rattle.number.specs.Number.{encode}
use Rattle.element.specs.Element.{allowed, Entry, run, lookup, bare, leads, entries, form_of, places}
use Rattle.element.specs.declared.Place.{Place}
use Rattle.element.specs.declared.Form.{Form}
use Rattle.element.specs.declared.Form.TheVariants.{Refused, Leaf, Named, Variable, Wrap, Modified, Counted, Array, Instance, Callable, Generic}
use Rattle.element.proofs.Runs.{outside}
use Rattle.element.proofs.Places.{at_place}
use Rattle.grammar.specs.Table.{entry, kind_of, FIELD, LOCALS, record_at}
use Rattle.grammar.specs.Derives.{Code}
use Rattle.grammar.specs.Emit.{Layout, plain, valued, array, instance, callable, field, locals, layout_of, param_count, parts_of}
use Rattle.grammar.specs.declared.Node.{Node}
use Rattle.grammar.proofs.Sound.{both_left, both_right}

-- ---- no byte from 80 hex on begins a node

abbrev low : List Entry → Bool
low [] = true
low (run first last f ∷ es) = ltb last 0x80 && low es

beyond : (es : List Entry) (b : ℕ) → low es ≡ true → 0x80 ≤ b → lookup es b ≡ Refused
beyond [] b e h = refl
beyond (run first last f ∷ es) b e h =
    let l : last < 0x80 = ltb-true last 0x80 (both_left _ _ e) in
    rw (outside first last b (λ m n. omega arith)) (beyond es b (both_right (ltb last 0x80) _ e) h)

low-entries : (p : Place) → low (entries p) ≡ true
unfolding entries bare leads places
low-entries p = at_place (λ q. low (entries q)) (λ q. true) refl p

pub small-code : (p : Place) (b : ℕ) → allowed (form_of p b) ≡ true → b < 0x80
unfolding form_of
small-code p b a = go (ltb b 0x80) refl
  where
    go : (t : Bool) → ltb b 0x80 ≡ t → b < 0x80
    go true e = ltb-true b 0x80 e
    go false e =
        let r = beyond (entries p) b (low-entries p) (ltb-false b 0x80 e) in
        let f : allowed (lookup (entries p) b) ≡ false = rw r in
        let z : ◌≡◌ {A = ℕ} 0 1 = cc in
        absurd (omega arith)

-- ---- the test

-- what is seen of a code byte: the layout of its kind, its kind, the byte and the byte's encoding
data Seen : Type 0 where
  none : Seen
  seen : Layout → (kind byte : ℕ) → List ℕ → Seen

abbrev given : Place → ℕ → Seen
given p b = cond (allowed (form_of p b)) (seen (layout_of (kind_of p b)) (kind_of p b) b (encode b)) none

-- what a form asks for; of the forms with one child only FIELD's kind is not its byte
abbrev due : Form → (kind b : ℕ) → Seen
due Refused k b = none
due Leaf k b = seen plain b b (b ∷ [])
due Named k b = seen valued b b (b ∷ [])
due Variable k b = seen valued b b (b ∷ [])
due (Wrap p) k b = cond (eqb k FIELD) (seen field FIELD 0x06 (0x06 ∷ [])) (seen plain b b (b ∷ []))
due (Modified p) k b = seen valued b b (b ∷ [])
due (Counted p) k b = seen locals LOCALS 0x07 (0x07 ∷ [])
due Array k b = seen array b b (b ∷ [])
due Instance k b = seen instance b b (b ∷ [])
due (Callable p) k b = seen callable k b (b ∷ [])
due (Generic p) k b = seen callable k b (b ∷ [])

abbrev listed : ℕ → (ℕ → Seen) → List Seen
listed zero f = []
listed (suc n) f = f n ∷ listed n f

agrees : (p : Place) → listed 0x80 (given p) ≡ listed 0x80 (λ b. due (form_of p b) (kind_of p b) b)
unfolding form_of entries bare leads places layout_of encode
agrees p = at_place (λ q. listed 0x80 (given q)) (λ q. listed 0x80 (λ b. due (form_of q b) (kind_of q b) b)) refl p

pointwise : (k : ℕ) (f g : ℕ → Seen) → listed k f ≡ listed k g → (b : ℕ) → b < k → f b ≡ g b
pointwise zero f g e b h = absurd (omega arith)
pointwise (suc k) f g e b h = go (eqb b k) refl (λ l. pointwise k f g tails b l)
  where
    heads : f k ≡ g k
    heads = cc e

    tails : listed k f ≡ listed k g
    tails = cc e

    go : (t : Bool) → eqb b k ≡ t → (b < k → f b ≡ g b) → f b ≡ g b
    go true q r = let w : b ≡ k = eqb-true b k q in rw w heads
    go false q r = let w : (b ≡ k → ⊥) = eqb-false b k q in r (omega arith)

-- ---- what stands in the blob for a record, by the form of its code byte

-- the byte b, the bytes vs, then all children
pub record Fronted (k b x y c : ℕ) (vs : List ℕ) : Type 0 where
  pub is : (t : List ℕ) (n at z : ℕ) → record_at t n ≡ entry k x y c at z → parts_of (layout_of k) t n (entry k x y c at z) ≡ (b ∷ vs, c) ∷ []

module _ (p : Place) {b n : ℕ} where
  laid : {f : Form} → Code p b n f → allowed f ≡ true → seen (layout_of (kind_of p b)) (kind_of p b) b (encode b) ≡ due f (kind_of p b) b
  laid {f} c a =
      let h : b < 0x80 = small-code p b (rw c.form a) in
      let e = pointwise 0x80 (given p) (λ x. due (form_of p x) (kind_of p x) x) (agrees p) b h in
      rw (c.form, a) at e

-- a layout whose first byte is the kind
module _ {k b : ℕ} (l : Layout) (e : seen (layout_of k) k b (encode b) ≡ seen l b b (b ∷ [])) where
  own : (x y c : ℕ) (vs : List ℕ) → (encode b ≡ b ∷ [] → (t : List ℕ) (n at z : ℕ) → parts_of l t n (entry b x y c at z) ≡ (b ∷ vs, c) ∷ []) → Fronted k b x y c vs
  own x y c vs h =
      let e₁ : layout_of k ≡ l = cc in
      let e₂ : k ≡ b = cc in
      let e₃ : encode b ≡ b ∷ [] = cc in
      record { is = λ t n at z q. rw (e₁, e₂) (h e₃ t n at z) }

module _ (p : Place) {b n : ℕ} (x y c : ℕ) where
  pub leaf-front : Code p b n Leaf → Fronted (kind_of p b) b x y c []
  unfolding parts_of
  leaf-front w = own plain (laid p w refl) x y c [] (λ q t m at z. rw q)

  pub named-front : Code p b n Named → Fronted (kind_of p b) b x y c (encode x)
  unfolding parts_of
  named-front w = own valued (laid p w refl) x y c (encode x) (λ q t m at z. rw q)

  pub variable-front : Code p b n Variable → Fronted (kind_of p b) b x y c (encode x)
  unfolding parts_of
  variable-front w = own valued (laid p w refl) x y c (encode x) (λ q t m at z. rw q)

  pub modified-front : {q : Place} → Code p b n (Modified q) → Fronted (kind_of p b) b x y c (encode x)
  unfolding parts_of
  modified-front w = own valued (laid p w refl) x y c (encode x) (λ q t m at z. rw q)

  pub inst-front : Code p b n Instance → Fronted (kind_of p b) b x y c (encode y ++ (encode x ++ encode c))
  unfolding parts_of
  inst-front w = own instance (laid p w refl) x y c (encode y ++ (encode x ++ encode c)) (λ q t m at z. rw q)

  pub counted-front : {q : Place} → Code p b n (Counted q) → Fronted (kind_of p b) b x y c (encode c)
  unfolding parts_of
  counted-front w =
      let e = laid p w refl in
      let e₁ : layout_of (kind_of p b) ≡ locals = cc in
      let e₂ : b ≡ 0x07 = cc in
      record { is = λ t m at z q. rw (e₁, e₂) }

  -- FIELD, or a wrapper whose kind is its byte
  pub wrap-front : {q : Place} → Code p b n (Wrap q) → Fronted (kind_of p b) b x y c []
  unfolding parts_of
  wrap-front w = go (eqb (kind_of p b) FIELD) (laid p w refl)
    where
      go : (u : Bool) → seen (layout_of (kind_of p b)) (kind_of p b) b (encode b) ≡ cond u (seen field FIELD 0x06 (0x06 ∷ [])) (seen plain b b (b ∷ []))
          → Fronted (kind_of p b) b x y c []
      go true e =
          let e₁ : layout_of (kind_of p b) ≡ field = cc in
          let e₂ : b ≡ 0x06 = cc in
          record { is = λ t m at z q. rw (e₁, e₂) }
      go false e = own plain e x y c [] (λ q t m at z. rw q)

-- a method with c parameters
params_of : (c : ℕ) (t : List ℕ) (m k a b at z : ℕ) → record_at t m ≡ entry k a b (c + 1) at z → param_count t m ≡ c
params_of c t m k a b at z q = let e : c + 1 - 1 ≡ c = omega arith in ap (λ (r : Node). r.children - 1) q ∙ e

module _ (p : Place) {b n : ℕ} (c : ℕ) where
  pub method-front : {q : Place} → Code p b n (Callable q) → Fronted (kind_of p b) b 0 b (c + 1) (encode c)
  unfolding parts_of
  method-front w =
      let e = laid p w refl in
      let e₁ : layout_of (kind_of p b) ≡ callable = cc in
      let e₂ : encode b ≡ b ∷ [] = cc in
      record { is = λ t m at z q. rw (e₁, e₂, params_of c t m (kind_of p b) 0 b at z q) }

  pub generic-front : {q : Place} (g : ℕ) → 1 ≤ g → Code p b n (Generic q) → Fronted (kind_of p b) b g b (c + 1) (encode g ++ encode c)
  unfolding parts_of
  generic-front g l w =
      let e = laid p w refl in
      let e₁ : layout_of (kind_of p b) ≡ callable = cc in
      let e₂ : encode b ≡ b ∷ [] = cc in
      record { is = λ t m at z q. rw (e₁, e₂, params_of c t m (kind_of p b) g b at z q, ne_eqb g 0 (λ q. omega arith)) }

-- an ARRAY: its byte and its type, Rank and NumSizes and the SIZEs, NumLoBounds and the LOWs
pub array_parts : (p : Place) {b n : ℕ} (t : List ℕ) (m rank sizes lows at z : ℕ) → Code p b n Array
    → parts_of (layout_of (kind_of p b)) t m (entry (kind_of p b) rank sizes (1 + sizes + lows) at z)
    ≡ (b ∷ [], 1) ∷ (encode rank ++ encode sizes, sizes) ∷ (encode lows, lows) ∷ []
unfolding parts_of
array_parts p {b} t m rank sizes lows at z w =
    let e = laid p w refl in
    let e₁ : layout_of (kind_of p b) ≡ array = cc in
    let e₂ : kind_of p b ≡ b = cc in
    let e₃ : encode b ≡ b ∷ [] = cc in
    let q : 1 + sizes + lows - 1 - sizes ≡ lows = omega arith in
    rw (e₁, e₂, e₃, q)
