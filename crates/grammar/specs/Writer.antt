-- Document 01, the writer: the bytes that the table gives, judged again and held against the table. "Writer: 12, 13, 14, 15."
use Rattle.std.specs.Prelude.{ℕ, Bool, true, false, cond, ◌&&◌, List, [], ◌∷◌, leb, eqb}
use Rattle.number.specs.declared.token.Counts.{Counts}
use Rattle.answer.specs.Written.{Written, refused, fitted}
use Rattle.grammar.specs.Kinds.{max_kind}
use Rattle.grammar.specs.Table.{flat}
use Rattle.grammar.specs.Judge.{Out, fault, done, known_counts, judge}
use Rattle.grammar.specs.Emit.{Emitted, torn, wrote, emitted}

unfoldable pub same_numbers : List ℕ → List ℕ → Bool
same_numbers [] [] = true
same_numbers [] (y ∷ ys) = false
same_numbers (x ∷ xs) [] = false
same_numbers (x ∷ xs) (y ∷ ys) = eqb x y && same_numbers xs ys

-- what was read has the flat table t; a tail short of six numbers is in no such table
unfoldable pub has_table : List ℕ → Out → Bool
has_table t (fault code place) = false
has_table t (done at n rs) = same_numbers (flat rs) t

-- 14 "no blob of this kind under these counts has this table"
abbrev pub confirmed : (kind : ℕ) → Counts → List ℕ → (room : ℕ) → Emitted → Written
confirmed kind counts t room torn = refused 14 0
confirmed kind counts t room (wrote s n) = cond (has_table t (judge kind counts s)) (fitted room s) (refused 14 0)

-- the writer for the flat table t, where `room` bytes are lent
unfoldable pub writing : (kind : ℕ) → Counts → List ℕ → (room : ℕ) → Written
writing kind counts t room =
    cond (leb kind max_kind)
    (cond (known_counts counts) (confirmed kind counts t room (emitted t)) (refused 13 0))
    (refused 12 0)
