-- What is found between a signature's first byte and its types, as definitions. Internal: an auditor goes by the judge, and that they mean the
-- same is `node-lead` (proofs/Opens.antt).
use Rattle.std.specs.Prelude.{ℕ, ◌+◌, List, get_or, Result, Ok, Err}
use Rattle.answer.specs.Refusal.{fault_at}
use Rattle.answer.specs.declared.refusal.Fault.{Fault}
use Rattle.answer.specs.declared.refusal.Refusal.TheVariants.{ByteNotAllowed}
use Rattle.number.specs.Number.{max_number}
use Rattle.number.specs.Checked.{Checked, checked_at, on_checked, count_at}
use Rattle.element.specs.Element.{by_sort, form_of}
use Rattle.element.specs.declared.Place.{Place}
use Rattle.element.specs.declared.Form.{Form}
use Rattle.grammar.specs.Table.{kind_of}
use Rattle.opening.specs.Code.{coded}
use Rattle.opening.specs.declared.signatures.Lead.{Lead}

abbrev pub lead_of : (kind a b count : ℕ) → (first rest : Place) → ℕ → Lead
lead_of kind a b count first rest next = record { kind = kind; a = a; b = b; count = count; first = first; rest = rest; next = next }

-- a signature before its types, or its fault
abbrev pub Begun : Type 0
Begun = Result Lead Fault

-- go on with the number that stands at `from`, or its refusal
abbrev pub leading : Checked → (from : ℕ) → (ℕ → ℕ → Begun) → Begun
leading c from k = on_checked c k (λ refusal. Err (fault_at refusal from))

unfoldable pub counted_of : List ℕ → Place → (kind from : ℕ) → Begun
counted_of s p kind from = leading (count_at 1 max_number s from) from (λ c next. Ok (lead_of kind 0 0 c p p next))

-- ParamCount, then the return type and that many parameters
unfoldable pub call_at : List ℕ → Place → (kind a b from : ℕ) → Begun
call_at s p kind a b from = leading (checked_at s from) from (λ c next. Ok (lead_of kind a b (c + 1) Place.RetType p next))

unfoldable pub generic_at : List ℕ → Place → (kind b from : ℕ) → Begun
generic_at s p kind b from = leading (count_at 1 max_number s from) from (λ g next. call_at s p kind g b next)

-- behind its first byte b, which stands at `at`; the forms of types are not looked for here
unfoldable pub lead_form : Form → List ℕ → (kind b at : ℕ) → Begun
lead_form f s kind b at =
    by_sort (Err (fault_at ByteNotAllowed at)) (Err (fault_at ByteNotAllowed at)) (λ p. Ok (lead_of kind 0 0 1 p p (at + 1))) (λ p. Err (fault_at ByteNotAllowed at)) (λ p. counted_of s p kind (at + 1)) (λ p. call_at s p kind 0 b (at + 1)) (λ p. generic_at s p kind b (at + 1)) f

-- the first byte, for whose node d levels are left, and what follows it
unfoldable pub lead_at : (d : ℕ) → List ℕ → Place → (at n : ℕ) → Begun
lead_at d s p at n = coded d s p at n (lead_form (form_of p (get_or s at 0)) s (kind_of p (get_or s at 0)) (get_or s at 0) at)
