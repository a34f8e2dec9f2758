-- What the emitting functions give and leave, by the emission of grammar's definitions. Internal: an auditor goes by grammar's
-- `writing` and the writer's Written.antt.
use Rattle.std.specs.Prelude.{ℕ, ◌+◌, ◌-◌, ◌≤◌, ◌<◌, ◌≡◌, cond, List, [], ◌∷◌, ◌++◌, length, leb, Option, Some, None}
use Rattle.std.proofs.lemmas.List.Edits.{sets}
use Rattle.grammar.specs.Emit.{Layout, parts_of, Emitted, torn, wrote, and_then, times, emit}
use Rattle.grammar.specs.declared.Node.{Node}
use Rattle.emission.specs.End.{Emit, Next, Stop}
use Rattle.emission.specs.declared.Part.{Part}

-- the bytes of a record's first part
abbrev first_of : List (List ℕ × ℕ) → List ℕ
first_of [] = []
first_of (p ∷ ps) = p.0

abbrev pub front_of : Layout → List ℕ → ℕ → Node → List ℕ
front_of l t n r = first_of (parts_of l t n r)

-- bytes put into a buffer from `at` on, where r is the offset after them; or not all fitted
pub data Spelt (bs : List ℕ) (at : ℕ) (r : Option ℕ) (before after : List ℕ) : Type 0 where
  put : at + length bs ≤ length before → r ≡ Some (at + length bs) → after ≡ sets before at bs → Spelt bs at r before after
  cut : length before < at + length bs → r ≡ None → length after ≡ length before → Spelt bs at r before after

-- one emission after another
unfoldable pub followed : Emitted → (ℕ → Emitted) → Emitted
followed torn k = torn
followed (wrote bs n) k = and_then (k n) (λ cs m. wrote (bs ++ cs) m)

-- from `at` on in a buffer of `len` bytes: where all bytes fit, the next offset and record
unfoldable pub result_of : Emitted → (at len : ℕ) → Emit
result_of torn at len = Stop
result_of (wrote bs n) at len = cond (leb (at + length bs) len) (Next (at + length bs) n) Stop

-- where all bytes fit they stand in the buffer; else only its length is promised
unfoldable pub leaves_of : Emitted → (at : ℕ) → (before after : List ℕ) → Type 0
leaves_of torn at before after = Unit {0}
leaves_of (wrote bs n) at before after = at + length bs ≤ length before → after ≡ sets before at bs

pub record Emits (e : Emitted) (at : ℕ) (r : Emit) (before after : List ℕ) : Type 0 where
  pub result : r ≡ result_of e at (length before)
  pub left : leaves_of e at before after
  pub kept : length after ≡ length before

-- a record's subtree up to its end; or up to its children, whatever ends which ends the subtree
abbrev pub Parted : (d : ℕ) → List ℕ → (n at : ℕ) → Option Part → (before after : List ℕ) → Type 0
Parted d t n at (Some (Part.Goes f k)) before after =
    (0 < d) × (n < length t) × (f ≤ length after) × ((r : Emit) (end : List ℕ) → Emits (times (emit (d - 1) t) k (n + 1)) f r after end → Emits (emit d t n) at r before end)
Parted d t n at (Some (Part.Ends p)) before after = Emits (emit d t n) at (Next p.at p.node) before after
Parted d t n at None before after = Emits (emit d t n) at Stop before after
