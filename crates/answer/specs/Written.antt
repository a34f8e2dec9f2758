-- What a call that writes bytes into lent output gives, answers and leaves there (document 01, "Numbers on the panel").
use Rattle.std.specs.Prelude.{ℕ, ◌≡◌, cond, List, ◌++◌, length, drop, leb}
use Rattle.answer.specs.Answers.{answer}
use Rattle.answer.specs.declared.Answer.{Answer}

-- a refusal's number and place, or the bytes
pub data Written : Type 0 where
  refused : (code place : ℕ) → Written
  written : List ℕ → Written

-- 15 "output too short", with the bytes needed
abbrev pub fitted : (room : ℕ) → List ℕ → Written
fitted room s = cond (leb (length s) room) (written s) (refused 15 (length s))

-- a refusal's number and place; 0 "done" with the bytes written
unfoldable pub answer_of : Written → Answer
answer_of (refused code place) = answer code place
answer_of (written s) = answer 0 (length s)

-- the output afterwards: "Any refusal keeps .. output .. unchanged; success changes only the .. bytes used"
unfoldable pub output_of : Written → List ℕ → List ℕ
output_of (refused code place) out = out
output_of (written s) out = s ++ drop (length s) out

-- the answer, and the output before and after
abbrev pub Writes : Written → Answer → (old new : List ℕ) → Type 0
Writes w r old new = (r ≡ answer_of w) × (new ≡ output_of w old)
