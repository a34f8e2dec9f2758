-- Document 01, "The register": what judging a blob says of its row. A row's outcome is `none` while it was never filed, and else what the
-- grammar's judge gives for the blob last filed, as kind 0.
use Rattle.std.specs.Prelude.{ℕ, Bool, false, ◌||◌, List, [], ◌∷◌}
use Rattle.std.proofs.Math.Option.{Option, none, some}
use Rattle.number.specs.declared.token.Counts.{Counts}
use Rattle.grammar.specs.Table.{is_modifier_of}
use Rattle.grammar.specs.Judge.{Out, fault, done, judge}
use Rattle.grammar.specs.declared.Node.{Node}

-- "judges each by demand 2 as kind 0, with the opening's counts, its size as the TypeSpec count, and records enough"
abbrev pub judged : Counts → List ℕ → Out
judged counts blob = judge 0 counts blob

-- 0 never filed, 1 refused, 2 accepted
abbrev pub state_of : Option Out → ℕ
state_of none = 0
state_of (some (fault code place)) = 1
state_of (some (done at n rs)) = 2

-- "a refused one, whose number and place are the finding and place"; else 0
abbrev pub code_of : Option Out → ℕ
code_of none = 0
code_of (some (fault code place)) = code
code_of (some (done at n rs)) = 0

abbrev pub place_of : Option Out → ℕ
place_of none = 0
place_of (some (fault code place)) = place
place_of (some (done at n rs)) = 0

-- some record of the list is so
unfoldable pub has : (Node → Bool) → List Node → Bool
has p [] = false
has p (r ∷ rs) = p r || has p rs

-- "A row names s if its blob is accepted and a Mod anywhere in the derivation has the token of TypeSpec row s"
abbrev pub names_row : Option Out → ℕ → Bool
names_row none s = false
names_row (some (fault code place)) s = false
names_row (some (done at n rs)) s = has (is_modifier_of s) rs
