-- An array behind its type, as definitions. Internal: an auditor goes by the judge, and that they mean the same is `array_shape` (proofs/Shapes.antt).
use Rattle.std.specs.Prelude.{ℕ, ◌+◌, ◌≤◌, ◌≡◌, List, ◌∷◌, ◌++◌, length, Result, Ok, Err}
use Rattle.grammar.specs.Limits.{max_nodes, max_rank}
use Rattle.grammar.specs.Judge.{Out, done, bind, bound, count, many, size, low}
use Rattle.grammar.specs.declared.Node.{Node}
use Rattle.opening.specs.Open.{head_of}
use Rattle.opening.specs.Means.{record_of}
use Rattle.opening.specs.Table.{stamp, Sealed}
use Rattle.opening.specs.Walk.{Walked}
use Rattle.answer.specs.Refusal.{number_of}
use Rattle.answer.specs.declared.refusal.Fault.{Fault}
use Rattle.number.specs.Checked.{checked_at}
use Rattle.opening.specs.End.{Walk, Next, Stop}
use Rattle.opening.specs.declared.Head.{Head}
use Rattle.opening.specs.declared.shape.Shape.{Shape}

-- a SIZE node or a LOW node
abbrev pub bound_at : (kind d : ℕ) → List ℕ → (at n : ℕ) → Out
bound_at kind d s at n = bound kind d (checked_at s at) at n

-- the array at `at` from NumLoBounds on, which stands at `from`: the low bounds, the first with index n. rs are the records of its type and its sizes
unfoldable pub lows_at : (d : ℕ) → List ℕ → (kind rank sizes from n at : ℕ) → List Node → Out
lows_at d s kind rank sizes from n at rs =
    count 0 rank s from
    (λ lows next. bind (many (low d s) lows next n)
    (λ e m ls. done e m (record_of (head_of kind rank sizes (1 + sizes + lows)) at m ∷ (rs ++ ls))))

-- the array at `at` from its Rank on, which stands at `from`: the sizes, the first with index n, and the low bounds. rs are the records of its type
unfoldable pub shape_at : (d : ℕ) → List ℕ → (kind from n at : ℕ) → List Node → Out
shape_at d s kind from n at rs =
    count 1 max_rank s from
    (λ rank at₂. count 0 rank s at₂
    (λ sizes at₃. bind (many (size d s) sizes at₃ n)
    (λ e m ss. lows_at d s kind rank sizes e m at (rs ++ ss))))

abbrev pub shape : Head → (at node : ℕ) → Shape
shape h at node = record { head = h; end = record { at = at; node = node } }

-- the outcome o of an array: its shape is refused; or it is walked over once its own record is put
unfoldable pub sealing : Out → (n at : ℕ) → Result Shape Fault → (table after : List ℕ) → Type 0
sealing o n at (Err f) table after = Walked o n (Stop (number_of f.refusal) f.place) table after
sealing o n at (Ok x) table after = (x.end.node ≤ max_nodes) × ((r : Walk) (fin : List ℕ) → Sealed (Next x.end.at x.end.node) n x.head at r after fin → Walked o n r table fin)

-- whichever array it is, with whatever records rs of its type, which stand in the table from behind its own index up to m; so nothing is said of
-- index 0, where no array's shape begins, nor of an array's record that does not fit
abbrev pub Shaped : ((at : ℕ) → List Node → Out) → (m : ℕ) → Result Shape Fault → (before after : List ℕ) → Type 0
Shaped o m r before after = (at n : ℕ) (rs : List Node) (table : List ℕ) → m ≡ n + 1 + length rs → before ≡ stamp (n + 1) rs table → sealing (o at rs) n at r table after
