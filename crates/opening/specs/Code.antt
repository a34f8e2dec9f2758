-- The code byte of a node. Internal: an auditor goes by the judge.
use Rattle.std.specs.Prelude.{ℕ, cond, List, length, get_or, ltb, leb, Result, Ok, Err}
use Rattle.answer.specs.Refusal.{fault_at}
use Rattle.answer.specs.declared.refusal.Fault.{Fault}
use Rattle.answer.specs.declared.refusal.Refusal.{Refusal}
use Rattle.answer.specs.declared.refusal.Refusal.TheVariants.{BytesEnd, ByteNotAllowed, TooDeep, TooManyNodes}
use Rattle.number.specs.declared.Number.{Number}
use Rattle.number.specs.Checked.{Checked}
use Rattle.element.specs.Element.{allowed, form_of}
use Rattle.element.specs.declared.Place.{Place}
use Rattle.grammar.specs.Limits.{max_nodes}

-- what was read at `from`, its refusal with that place
abbrev pub placed : Checked → (from : ℕ) → Result Number Fault
placed (Ok n) from = Ok n
placed (Err refusal) from = Err (fault_at refusal from)

-- go on at the code byte of a node for which d levels are left, or refuse it at `at`: 2, 5, 6, 10
abbrev pub coded : {A : Type 0} → (d : ℕ) → List ℕ → Place → (at n : ℕ) → Result A Fault → Result A Fault
coded d s p at n x =
    cond (ltb at (length s))
    (cond (allowed (form_of p (get_or s at 0)))
    (cond (leb 1 d)
    (cond (ltb n max_nodes) x
    (Err (fault_at TooManyNodes at))) (Err (fault_at TooDeep at))) (Err (fault_at ByteNotAllowed at))) (Err (fault_at BytesEnd at))

-- the refusal of a byte for which there is no room: 5 where the byte is refused, else this one
abbrev pub crowded_of : Place → (b : ℕ) → Refusal → Refusal
crowded_of p b refusal = cond (allowed (form_of p b)) refusal ByteNotAllowed

-- the code byte where there is room for its node, allowed or not; or the refusal
unfoldable pub code_at : (d : ℕ) → List ℕ → Place → (at n : ℕ) → Result ℕ Fault
code_at d s p at n =
    cond (ltb at (length s))
    (cond (leb 1 d)
    (cond (ltb n max_nodes) (Ok (get_or s at 0))
    (Err (fault_at (crowded_of p (get_or s at 0) TooManyNodes) at))) (Err (fault_at (crowded_of p (get_or s at 0) TooDeep) at))) (Err (fault_at BytesEnd at))
