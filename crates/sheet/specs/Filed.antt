-- Document 01, "Deposit sheet": the register that the blobs of a sheet make, with the numbers lent to it.
use Rattle.std.specs.Prelude.{ℕ, ◌+◌, List, [], ◌∷◌}
use Rattle.register.specs.Calls.{Held, held, open_of, file_of}
use Rattle.layout.specs.declared.Layout.{Layout}
use Rattle.layout.specs.Layout.{counts_of, blobs_from}

-- the blobs filed, from this row on
unfoldable pub file_all : Held → ℕ → List (List ℕ) → Held
file_all h row [] = h
file_all h row (blob ∷ blobs) = file_all (held (file_of h.register row blob h.sets)) (row + 1) blobs

-- the register of an accepted sheet, all blobs filed, with these numbers lent
unfoldable pub register_of : List ℕ → Layout → List ℕ → Held
register_of s l sets = file_all (held (open_of (counts_of s l) sets)) 1 (blobs_from l.rows s l.starts.blobs)
