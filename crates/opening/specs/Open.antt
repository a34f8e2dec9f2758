-- What is found between a type's code byte and its children, as definitions. Internal: an auditor goes by the judge, and that they mean the
-- same is `node-open` (proofs/Opens.antt).
use Rattle.std.specs.Prelude.{ℕ, ◌+◌, cond, List, length, get_or, ltb, eqb, Result, Ok, Err}
use Rattle.answer.specs.Refusal.{fault_at}
use Rattle.answer.specs.declared.refusal.Fault.{Fault}
use Rattle.answer.specs.declared.refusal.Refusal.TheVariants.{ByteNotAllowed, BytesEnd}
use Rattle.number.specs.Number.{max_number}
use Rattle.number.specs.Checked.{Checked, checked_at, on_checked, count_at}
use Rattle.number.specs.Token.{type_tags, mod_tags, token_at}
use Rattle.number.specs.declared.token.Counts.{Counts}
use Rattle.element.specs.Element.{within, form_of, is_type_place}
use Rattle.element.specs.declared.Place.{Place}
use Rattle.element.specs.declared.Form.{Form}
use Rattle.element.specs.declared.Form.TheVariants.{Refused, Leaf, Named, Variable, Wrap, Modified, Counted, Array, Instance, Callable, Generic}
use Rattle.opening.specs.Code.{coded}
use Rattle.opening.specs.declared.Head.{Head}
use Rattle.opening.specs.declared.types.Open.{Open}

abbrev pub head_of : (kind a b children : ℕ) → Head
head_of kind a b children = record { kind = kind; a = a; b = b; children = children }

-- a type before its children, or its fault
abbrev pub Opened : Type 0
Opened = Result Open Fault

-- go on with the number that stands at `from`, or its refusal
abbrev pub opening : Checked → (from : ℕ) → (ℕ → ℕ → Opened) → Opened
opening c from k = on_checked c k (λ refusal. Err (fault_at refusal from))

abbrev pub valued_of : (kind v next : ℕ) → Open
valued_of kind v next = Open.Leaf (head_of kind v 0 0) next

abbrev pub modified_of : (kind : ℕ) → Place → (t next : ℕ) → Open
modified_of kind p t next = Open.One (head_of kind t 0 1) p next

-- one child: a type, or FNPTR's method
unfoldable pub wrapped_of : ℕ → Place → ℕ → Open
wrapped_of kind p from = cond (is_type_place p) (Open.One (head_of kind 0 0 1) p from) (Open.FnPtr (head_of kind 0 0 1) from)

-- as many types as there are children
unfoldable pub listed_of : Head → ℕ → Open
listed_of h next = cond (eqb h.children 1) (Open.One h Place.Type next) (Open.List h next)

-- behind the 11 or 12 of a GENERICINST
unfoldable pub instance_of : Counts → List ℕ → (kind which at : ℕ) → Opened
instance_of counts s kind which at =
    opening (token_at type_tags counts s (at + 2)) (at + 2)
    (λ t at₁. opening (count_at 1 max_number s at₁) at₁ (λ c next. Ok (listed_of (head_of kind t which c) next)))

unfoldable pub instance_at : Counts → List ℕ → (kind at : ℕ) → Opened
instance_at counts s kind at =
    cond (ltb (at + 1) (length s))
    (cond (within 0x11 0x12 (get_or s (at + 1) 0)) (instance_of counts s kind (get_or s (at + 1) 0) at) (Err (fault_at ByteNotAllowed (at + 1))))
    (Err (fault_at BytesEnd (at + 1)))

-- behind its code byte b, which is its kind and stands at `at`; the forms of signatures are not looked for here
unfoldable pub head_at : Form → Counts → List ℕ → (b at : ℕ) → Opened
head_at Refused counts s b at = Err (fault_at ByteNotAllowed at)
head_at Leaf counts s b at = Ok (Open.Leaf (head_of b 0 0 0) (at + 1))
head_at Named counts s b at = opening (token_at type_tags counts s (at + 1)) (at + 1) (λ t next. Ok (valued_of b t next))
head_at Variable counts s b at = opening (checked_at s (at + 1)) (at + 1) (λ v next. Ok (valued_of b v next))
head_at (Wrap p) counts s b at = Ok (wrapped_of b p (at + 1))
head_at (Modified p) counts s b at = opening (token_at mod_tags counts s (at + 1)) (at + 1) (λ t next. Ok (modified_of b p t next))
head_at (Counted p) counts s b at = Err (fault_at ByteNotAllowed at)
head_at Array counts s b at = Ok (Open.Array b)
head_at Instance counts s b at = instance_at counts s b at
head_at (Callable p) counts s b at = Err (fault_at ByteNotAllowed at)
head_at (Generic p) counts s b at = Err (fault_at ByteNotAllowed at)

-- the code byte, for whose node d levels are left, and what follows it
unfoldable pub open_at : (d : ℕ) → Counts → List ℕ → Place → (at n : ℕ) → Opened
open_at d counts s p at n = coded d s p at n (head_at (form_of p (get_or s at 0)) counts s (get_or s at 0) at)
