-- What the functions before a node's children give, from facts about the bytes: one law for each way out.
-- Assumes nothing.
use Prim.Native.Nat.{ℕ, ◌+◌, ◌≤◌, ◌<◌}
use mathlib.Core.Path.{◌≡◌, refl, sym, ◌∙◌}
use mathlib.Core.List.{List}
use lib.ListN.{length, get_or}
use borrow.Author.Tests.{lt-ltb, le-ltb}
use Rattle.number.specs.declared.token.Counts.{Counts}
use Rattle.element.specs.Element.{form_of}
use Rattle.element.specs.declared.Place.{Place}
use Rattle.element.specs.declared.Form.{Form}
use Rattle.element.specs.declared.Form.TheVariants.{Refused, Callable}
use Rattle.element.proofs.Runs.{inside, outside, refused-form}
use Rattle.element.proofs.Places.{unled}
use Rattle.grammar.specs.Table.{METHOD, kind_of}
use Rattle.opening.specs.Code.{code_at}
use Rattle.std.specs.Prelude.{Result, Ok, Err}
use Rattle.answer.specs.Refusal.{fault_at}
use Rattle.answer.specs.declared.refusal.Fault.{Fault}
use Rattle.answer.specs.declared.refusal.Refusal.TheVariants.{BytesEnd, ByteNotAllowed}
use Rattle.opening.specs.Open.{Opened, instance_of, instance_at, head_at, open_at}
use Rattle.opening.specs.Lead.{Begun, call_at, lead_form, lead_at}
use Rattle.opening.proofs.Codes.{code_is, coded-shut, coded-some}

-- ---- open_at, lead_at and fn_ptr_lead_at. y is what `code_at` gave

module _ (d : ℕ) (s : List ℕ) (p : Place) (at n : ℕ) (y : Result ℕ Fault) (e : y ≡ code_at d s p at n) where
  pub open_shut : (counts : Counts) (r : Fault) → y ≡ Err r → Err r ≡ open_at d counts s p at n
  unfolding open_at
  open_shut counts r g = coded-shut d s p at n _ y e r g

  pub lead-shut : (r : Fault) → y ≡ Err r → Err r ≡ lead_at d s p at n
  unfolding lead_at
  lead-shut r g = coded-shut d s p at n _ y e r g

  -- where there is a byte and room for its node
  here : (b : ℕ) → y ≡ Ok b → (at < length s) × (b ≡ get_or s at 0)
  here b g = code_is {A = ℕ} d s p at n (Ok 0) y e b g

  pub byte_at : (b : ℕ) → y ≡ Ok b → at < length s
  byte_at b g = (here b g).0

  module _ (b : ℕ) (g : y ≡ Ok b) (f : Form) (i : f ≡ form_of p b) where
    pub open_some : (counts : Counts) (o : Opened) → o ≡ head_at f counts s b at → o ≡ open_at d counts s p at n
    unfolding open_at head_at
    open_some counts o q = coded-some d s p at n _ y e b g o (rw (← (here b g).1, ← i) q) (λ a. rw (refused-form (form_of p (get_or s at 0)) a))

    pub lead-some : (k : ℕ) (o : Begun) → k ≡ kind_of p b → o ≡ lead_form f s k b at → o ≡ lead_at d s p at n
    unfolding lead_at lead_form
    lead-some k o h q = coded-some d s p at n _ y e b g o (rw (← (here b g).1, ← i, ← h) q) (λ a. rw (refused-form (form_of p (get_or s at 0)) a))

-- the method below a FNPTR
module _ (d : ℕ) (s : List ℕ) (at n : ℕ) (y : Result ℕ Fault) (e : y ≡ code_at d s Place.FnPtrMethod at n) (b : ℕ) (g : y ≡ Ok b) (f : Form) (i : f ≡ form_of Place.FnPtrMethod b) where
  pub fn_ptr_lead_some : (p : Place) → f ≡ Callable p → (o : Begun) → o ≡ call_at s p METHOD 0 b (at + 1) → o ≡ lead_at d s Place.FnPtrMethod at n
  unfolding lead_form
  fn_ptr_lead_some p h o q = lead-some d s Place.FnPtrMethod at n y e b g (Callable p) (sym h ∙ i) METHOD o refl q

  pub fn_ptr_lead_none : ((q : Place) → f ≡ Callable q → ⊥) → Err (fault_at ByteNotAllowed at) ≡ lead_at d s Place.FnPtrMethod at n
  unfolding lead_form
  fn_ptr_lead_none h = lead-some d s Place.FnPtrMethod at n y e b g Refused (sym (unled b (λ q z. h q (i ∙ z)))) METHOD (Err (fault_at ByteNotAllowed at)) refl refl

-- ---- instance_at

module _ (counts : Counts) (s : List ℕ) (kind at : ℕ) where
  pub instance_none : length s ≤ at + 1 → Err (fault_at BytesEnd (at + 1)) ≡ instance_at counts s kind at
  unfolding instance_at
  instance_none h = rw (le-ltb (at + 1) (length s) h)

  module _ (h : at + 1 < length s) where
    pub instance_other : (0x11 ≤ get_or s (at + 1) 0 → get_or s (at + 1) 0 ≤ 0x12 → ⊥) → Err (fault_at ByteNotAllowed (at + 1)) ≡ instance_at counts s kind at
    unfolding instance_at
    instance_other f = rw (lt-ltb (at + 1) (length s) h, outside 0x11 0x12 (get_or s (at + 1) 0) f)

    pub instance_is : (o : Opened) → 0x11 ≤ get_or s (at + 1) 0 → get_or s (at + 1) 0 ≤ 0x12 → o ≡ instance_of counts s kind (get_or s (at + 1) 0) at → o ≡ instance_at counts s kind at
    unfolding instance_at
    instance_is o l u e = rw (lt-ltb (at + 1) (length s) h, inside 0x11 0x12 (get_or s (at + 1) 0) l u) e
