-- What an opening means for the grammar: the judge's outcome that goes with it. Internal: an auditor goes by the judge.
use Rattle.std.specs.Prelude.{ℕ, zero, suc, ◌+◌, List, [], ◌∷◌, ◌++◌, Ok, Err}
use Rattle.number.specs.declared.token.Counts.{Counts}
use Rattle.element.specs.declared.Place.TheVariants as Place
use Rattle.grammar.specs.Table.{entry}
use Rattle.grammar.specs.Judge.{Out, fault, done, bind, many, Reader, array}
use Rattle.grammar.specs.declared.Node.{Node}
use Rattle.opening.specs.declared.Head.{Head}
use Rattle.opening.specs.declared.signatures.Lead.{Lead}
use Rattle.opening.specs.declared.types.Open.{Open}
use Rattle.answer.specs.Refusal.{number_of}
use Rattle.opening.specs.Lead.{Begun}
use Rattle.opening.specs.Open.{Opened, head_of}

-- the record of a node at `at`, where `after` is the index after its subtree
abbrev pub record_of : Head → (at after : ℕ) → Node
record_of h at after = entry h.kind h.a h.b h.children at after

-- a node's own record before those of its children
unfoldable pub sealed : Out → Head → ℕ → Out
sealed (fault refusal q) h at = fault refusal q
sealed (done e m rs) h at = done e m (record_of h at m ∷ rs)

-- two walks one after the other
unfoldable pub and_then : Out → (ℕ → ℕ → Out) → Out
and_then (fault refusal at) k = fault refusal at
and_then (done e m rs) k = bind (k e m) (λ e' m' ts. done e' m' (rs ++ ts))

-- k nodes one after the other, the first read in one way and the rest in another
unfoldable pub series : (first rest : ℕ → ℕ → Out) → (k at n : ℕ) → Out
series first rest zero at n = done at n []
series first rest (suc k) at n = and_then (first at n) (many rest k)

-- c types one after the other; what follows goes by how many nodes they are
abbrev pub types : (first rest : ℕ → ℕ → Out) → (c at n : ℕ) → (ℕ → Out → Out) → Out
types first rest c at n k = k c (series first rest c at n)

-- a signature behind its lead
unfoldable pub signature_of : Reader → Counts → Lead → (at n : ℕ) → Out
signature_of read counts l at n =
    types (read counts l.first) (read counts l.rest) l.count l.next (n + 1)
    (λ items o. sealed o (head_of l.kind l.a l.b items) at)

unfoldable pub on_lead : Begun → Reader → Counts → (at n : ℕ) → Out
on_lead (Err f) read counts at n = fault (number_of f.refusal) f.place
on_lead (Ok l) read counts at n = signature_of read counts l at n

unfoldable pub on_open : Opened → Reader → (d : ℕ) → List ℕ → Counts → (at n : ℕ) → Out
on_open (Err f) read d s counts at n = fault (number_of f.refusal) f.place
on_open (Ok (Open.Leaf h next)) read d s counts at n = sealed (done next (n + 1) []) h at
on_open (Ok (Open.One h p next)) read d s counts at n = sealed (read counts p next (n + 1)) h at
on_open (Ok (Open.List h next)) read d s counts at n = sealed (many (read counts Place.Type) h.children next (n + 1)) h at
on_open (Ok (Open.FnPtr h next)) read d s counts at n = sealed (read counts Place.FnPtrMethod next (n + 1)) h at
on_open (Ok (Open.Array kind)) read d s counts at n = array read d s counts kind at n
