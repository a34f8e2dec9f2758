-- Document 01, "Numbers on the panel", and document 02: the numbers by which the register refuses.
use Rattle.std.specs.Prelude.{ℕ, List, [], ◌∷◌, ◌++◌}

-- "Opening a register: 13, 19", then 27
abbrev pub open_refusals : List ℕ
open_refusals = 13 ∷ 19 ∷ 27 ∷ []

-- "Filing, asking and acknowledging first answer 19", then 27, 16
abbrev pub call_refusals : List ℕ
call_refusals = 19 ∷ 27 ∷ 16 ∷ []

-- "Acknowledge: 16, 17, 18": its own, behind those of every call
abbrev pub ack_own : List ℕ
ack_own = 17 ∷ 18 ∷ []

abbrev pub ack_refusals : List ℕ
ack_refusals = ack_own ++ call_refusals
