-- Document 01, "The register": the standing of a row among n rows, from each row's state (0 never filed, 1 refused, else accepted) and
-- the references; and the marks that a filing takes away. Row r has the index r - 1.
use Rattle.std.specs.Prelude.{ℕ, zero, suc, List, Bool, cond, ◌||◌, ◌&&◌, set, get_or, ltb, eqb}
use Rattle.bits.specs.Any.{any}
use Rattle.reach.specs.Reach.{Graph, thru}
use Rattle.standing.specs.declared.Standing.{Standing}
use Rattle.standing.specs.declared.Standing.TheVariants.{Empty, Bad, Loop, Leans, Clean}

-- "0 EMPTY", "1 BAD", "2 LOOP", "3 LEANS", "4 CLEAN"
abbrev pub standing_number : Standing → ℕ
standing_number Empty = 0
standing_number Bad = 1
standing_number Loop = 2
standing_number Leans = 3
standing_number Clean = 4

-- "an EMPTY, BAD or LOOP row"
unfoldable pub trouble : ℕ → (ℕ → ℕ) → Graph → ℕ → Bool
trouble n state names i = ltb (state i) 2 || thru names n i i

-- "reaches an EMPTY, BAD or LOOP row"
unfoldable pub leaning : ℕ → (ℕ → ℕ) → Graph → ℕ → Bool
leaning n state names i = any n (λ j. thru names n i j && trouble n state names j)

-- "Standing, first that fits: 0 EMPTY never filed; 1 BAD refused; 2 LOOP reaches itself; 3 LEANS reaches an EMPTY, BAD or LOOP row; 4
-- CLEAN"
unfoldable pub standing : ℕ → (ℕ → ℕ) → Graph → ℕ → ℕ
standing n state names i =
    cond (eqb (state i) 0) 0
    (cond (eqb (state i) 1) 1 (cond (thru names n i i) 2 (cond (leaning n state names i) 3 4)))

-- l with 0 at each index below n of which p holds
unfoldable pub cleared : List ℕ → ℕ → (ℕ → Bool) → List ℕ
cleared l zero p = l
cleared l (suc n) p = cond (p n) (set (cleared l n p) n 0) (cleared l n p)

-- row j has a mark: 0 is none
abbrev pub marked_in : List ℕ → ℕ → Bool
marked_in marks j = ltb 0 (get_or marks j 0)

-- l with f i at each index i below n
unfoldable pub filled : List ℕ → ℕ → (ℕ → ℕ) → List ℕ
filled l zero f = l
filled l (suc n) f = set (filled l n f) n (f n)
