-- Records put into the lent table. Internal: an auditor goes by the judge and by the reader's Answer.antt.
use Rattle.std.specs.Prelude.{ℕ, zero, suc, ◌+◌, ◌-◌, ◌*◌, ◌≤◌, ◌≡◌, cond, List, [], ◌∷◌, length, set, leb}
use Rattle.std.proofs.lemmas.List.Edits.{sets}
use Rattle.grammar.specs.Limits.{max_nodes}
use Rattle.grammar.specs.Table.{six}
use Rattle.grammar.specs.declared.Node.{Node}
use Rattle.opening.specs.Means.{record_of}
use Rattle.opening.specs.declared.Head.{Head}
use Rattle.opening.specs.End.{Walk, Next, Stop}

-- a record's six numbers at its index, where they fit
unfoldable pub put_of : List ℕ → ℕ → Node → List ℕ
put_of o n r = cond (leb (6 * n + 6) (length o)) (sets o (6 * n) (six r)) o

-- the index after its subtree in the record with index n, where it fits
unfoldable pub put_after : List ℕ → (n after : ℕ) → List ℕ
put_after o n after = cond (leb (6 * n + 6) (length o)) (set o (6 * n + 5) after) o

-- the same in the k records before the one with index n, the last of them first
unfoldable pub close_of : List ℕ → (n k after : ℕ) → List ℕ
close_of o n zero after = o
close_of o n (suc k) after = close_of (put_after o (n - 1) after) (n - 1) k after

-- the records from index n on, each put where it fits, the first of them last
unfoldable pub stamp : ℕ → List Node → List ℕ → List ℕ
stamp n [] o = o
stamp n (r ∷ rs) o = put_of (stamp (n + 1) rs o) n r

-- ---- the record of a node whose children are read

abbrev pub small_of : Walk → Type 0
small_of (Next at m) = m ≤ max_nodes
small_of (Stop refusal at) = Unit {0}

unfoldable pub seals_of : Walk → ℕ → Head → ℕ → List ℕ → List ℕ
seals_of (Next e m) n h at o = put_of o n (record_of h at m)
seals_of (Stop refusal q) n h at o = o

pub record Sealed (w : Walk) (n : ℕ) (h : Head) (at : ℕ) (r : Walk) (before after : List ℕ) : Type 0 where
  pub result : r ≡ w
  pub left : after ≡ seals_of w n h at before
