-- Demand 3, stated once, over the opening and the list of calls as a whole: what the register answers is what the model answers, and what
-- asking gives afterwards follows the history. The theorem is `demand_3` (proofs/Demand.antt).
use Rattle.std.specs.Prelude.{ℕ, ◌-◌, ◌≡◌, List, [], ◌∷◌, ◌↔◌, length}
use Rattle.reach.specs.Reach.{Reach}
use Rattle.number.specs.declared.token.Counts.{Counts}
use Rattle.answer.specs.declared.Told.{Told}
use Rattle.register.specs.Calls.{Held, holding, held, open_of, file_of, acknowledge_of, ask_of}
use Rattle.register.specs.Model.{Model, Call, filing, acknowledging, asking, Answer, number, report, refers_m, answer_m, answers_m, end_m, opening_m, opened_m}
use Rattle.register.specs.History.{Stands, Marked}

-- ---- the calls, made on a register as their contracts say: "Each call gets the register as the last one left it", and the numbers lent to it
-- likewise: "the same at each call from a register's opening on, which only that register's calls write"

-- asking a row
abbrev pub asks : Held → ℕ → Told
asks h q = ask_of h.register q h.sets

abbrev pub report_of : Told → Answer
report_of a = report a.code a.standing a.finding a.place a.mark

unfoldable pub answer_r : Held → Call → Answer
answer_r h (filing row blob) = number (file_of h.register row blob h.sets).changed.code
answer_r h (acknowledging row) = number (acknowledge_of h.register row h.sets).code
answer_r h (asking row) = report_of (asks h row)

unfoldable pub next_r : Held → Call → Held
next_r h (filing row blob) = held (file_of h.register row blob h.sets)
next_r h (acknowledging row) = holding (acknowledge_of h.register row h.sets).register h.sets
next_r h (asking row) = h

unfoldable pub answers_r : Held → List Call → List Answer
answers_r h [] = []
answers_r h (c ∷ cs) = answer_r h c ∷ answers_r (next_r h c) cs

unfoldable pub end_r : Held → List Call → Held
end_r h [] = h
end_r h (c ∷ cs) = end_r (next_r h c) cs

-- an answer but for its mark
abbrev pub but_mark : Answer → Answer
but_mark (number code) = number code
but_mark (report code standing finding place mark) = report code standing finding place 0

-- ---- the statement, over an opening with the numbers `sets` lent to it
module _ (counts : Counts) (sets : List ℕ) (cs : List Call) where
  -- the register with its numbers, and the model, after the calls
  abbrev pub after_r : Held
  after_r = end_r (held (open_of counts sets)) cs

  abbrev pub after_m : Model
  after_m = end_m (opened_m counts (length sets)) cs

  pub record Demand3 : Type 0 where
    -- "the opening and each call answer exactly what the night book in 01 answers"
    pub opening : (open_of counts sets).changed.code ≡ opening_m counts (length sets)
    pub answers : answers_r (held (open_of counts sets)) cs ≡ answers_m (opened_m counts (length sets)) cs
    -- "and asking any row afterwards gives the book's standing, finding, place and mark"
    pub afterwards : (q : ℕ) → report_of (asks after_r q) ≡ answer_m after_m (asking q)
    -- "Each row's standing is what a fresh check of the blobs last filed gives"
    pub standing : (q : ℕ) → (asks after_r q).code ≡ 0 → Stands after_m (q - 1) (asks after_r q).standing
    -- "A row carries a mark exactly when a press on it succeeded and since then neither it nor any row it could reach through modifiers
    -- was filed"
    pub mark : (q : ℕ) → (asks after_r q).code ≡ 0 → ((asks after_r q).mark ≡ 0 → ⊥) ↔ Marked q (opened_m counts (length sets)) cs
    -- "A filing alters nothing on any other row that can't reach the filed one"
    pub filing-other : (row : ℕ) (blob : List ℕ) (q : ℕ) → (q ≡ row → ⊥) → (Reach (refers_m after_m) (q - 1) (row - 1) → ⊥)
        → report_of (asks after_r q) ≡ report_of (asks (next_r after_r (filing row blob)) q)
    -- "one press alters at most the mark of the row it names": nothing on another row, and but for the mark nothing on any
    pub acknowledging-other : (row q : ℕ) → (q ≡ row → ⊥) → report_of (asks after_r q) ≡ report_of (asks (next_r after_r (acknowledging row)) q)
    pub acknowledging-same : (row q : ℕ)
        → but_mark (report_of (asks after_r q)) ≡ but_mark (report_of (asks (next_r after_r (acknowledging row)) q))
