-- Document 01, "The register": what each call answers and leaves, for any value of the register struct and any numbers lent to it. These
-- are the contracts; the model that the calls are held against is in Model.antt.
use Rattle.std.specs.Prelude.{ℕ, ◌-◌, ◌*◌, ◌≤◌, ◌<◌, List, Bool, cond, ◌||◌, length, set, get_or, replicate, ltb, eqb}
use Rattle.std.proofs.Math.Option.{some}
use Rattle.reach.specs.Reach.{Graph, thru}
use Rattle.bits.specs.Bits.{word_bits, bit_at, clear_words}
use Rattle.standing.specs.Standing.{standing, cleared, filled}
use Rattle.number.specs.Token.{no_counts}
use Rattle.number.specs.declared.token.Counts.{Counts}
use Rattle.grammar.specs.Limits.{max_rows}
use Rattle.grammar.specs.Judge.{Out}
use Rattle.answer.specs.Size.{max_size, words}
use Rattle.filing.specs.Outcome.{state_of, code_of, place_of}
use Rattle.filing.specs.Named.{named_by}
use Rattle.answer.specs.Answers.{admit_code, ack_code, told, asked_of}
use Rattle.answer.specs.declared.Told.{Told}
use Rattle.register.specs.declared.Register.{Register}
-- passed on, since `file_of` goes by it
pub use Rattle.filing.specs.Outcome.{judged}

-- the number that a call answers, and the register afterwards
pub record Changed : Type 0 where
  pub code : ℕ
  pub register : Register

-- what a call that may write leaves: its answer with the register, and the numbers lent. "every refusal keeps it unchanged"
pub record Left : Type 0 where
  pub changed : Changed
  pub sets : List ℕ

abbrev pub left : Changed → List ℕ → Left
left r l = record { changed = r; sets = l }

-- a register and the numbers lent to it
pub record Held : Type 0 where
  pub register : Register
  pub sets : List ℕ

abbrev pub holding : Register → List ℕ → Held
holding g l = record { register = g; sets = l }

abbrev pub held : Left → Held
held x = holding x.changed.register x.sets

-- a register with these counts, nothing filed and nothing marked
abbrev pub blank_register : Counts → Register
blank_register counts = record {
  counts = counts;
  states = replicate max_size 0;
  codes = replicate max_size 0;
  places = replicate max_size 0;
  marks = replicate max_size 0;
}

abbrev pub changed : ℕ → Register → Changed
changed code g = record { code = code; register = g }

-- 13, a table count out of bounds: of TypeSpec, the number of rows, the size decides
unfoldable pub too_many : Counts → Bool
too_many counts = ltb max_rows counts.defs || ltb max_rows counts.refs

-- "Opening a register: 13, 19"; document 02, wish 8: "fewer than 16 32-bit numbers for each row .. of the size asked at opening, is refusal 27
-- at 0, after 19"; else 0
unfoldable pub open_code : (counts : Counts) (lent : ℕ) → ℕ
open_code counts lent =
    cond (too_many counts) 13 (cond (eqb counts.specs 0 || ltb max_size counts.specs) 19 (cond (ltb lent (counts.specs * words)) 27 0))

-- an opening's answer, register and numbers: "a refused opening hands back a register of 0 rows". Opening clears the numbers of its rows.
unfoldable pub open_of : Counts → List ℕ → Left
open_of counts l =
    cond (eqb (open_code counts (length l)) 0) (left (changed 0 (blank_register counts)) (clear_words l 0 (counts.specs * words)))
    (left (changed (open_code counts (length l)) (blank_register no_counts)) l)

-- row i is a row of the register, and the numbers lent are enough for all of them: what the functions behind the calls require
abbrev pub Inside : Register → ℕ → List ℕ → Type 0
Inside g i l = (g.counts.specs ≤ max_size) × (i < g.counts.specs) × (g.counts.specs * words ≤ length l)

-- a table of so many words, w to a row, has room for the closed table of the register's rows
abbrev pub RoomFor : Register → (w room : ℕ) → Type 0
RoomFor g w room = (g.counts.specs * w ≤ room) × (room ≤ max_size * words) × (w ≤ words) × (g.counts.specs ≤ word_bits * w)

-- row i refers to row j, by the sets lent
abbrev pub refers : List ℕ → Graph
refers l = bit_at words l

-- the marks after row i is filed: "Filing r unmarks r and every row that reaches r"
unfoldable pub marks_after : Register → ℕ → List ℕ → List ℕ
marks_after g i l = cleared g.marks g.counts.specs (λ j. eqb j i || thru (refers l) g.counts.specs j i)

-- row i filed with a blob whose judging gives o: "keeps refusal number and place"
unfoldable pub filed : Register → ℕ → Out → List ℕ → Register
filed g i o l = record {
  counts = g.counts;
  states = set g.states i (state_of (some o));
  codes = set g.codes i (code_of (some o));
  places = set g.places i (place_of (some o));
  marks = marks_after g i l;
}

-- "or the set of TypeSpec rows its modifiers name": row i's own numbers, and no other
abbrev pub filed_sets : ℕ → Out → List ℕ → List ℕ
filed_sets i o l = named_by o i l

abbrev pub file_at : Register → ℕ → Out → List ℕ → Left
file_at g i o l = left (changed 0 (filed g i o l)) (filed_sets i o l)

-- "Filing row r (16, else 0) judges the blob as kind 0"
unfoldable pub file_of : Register → ℕ → List ℕ → List ℕ → Left
file_of g row blob l =
    cond (eqb (admit_code (length l) g.counts.specs row) 0) (file_at g (row - 1) (judged g.counts blob) l)
    (left (changed (admit_code (length l) g.counts.specs row) g) l)

abbrev pub standing_at : Register → ℕ → List ℕ → ℕ
standing_at g i l = standing g.counts.specs (λ j. get_or g.states j 0) (refers l) i

-- the standings of all rows, in their order: 0 behind the last row, and for a size above the greatest or too few numbers lent everywhere
unfoldable pub standings_of : Register → List ℕ → List ℕ
standings_of g l =
    cond (ltb max_size g.counts.specs || ltb (length l) (g.counts.specs * words)) (replicate max_size 0)
    (filled (replicate max_size 0) g.counts.specs (λ i. standing_at g i l))

-- row i with this mark
abbrev pub marked : Register → (i mark : ℕ) → Register
marked g i mark = record {
  counts = g.counts;
  states = g.states;
  codes = g.codes;
  places = g.places;
  marks = set g.marks i mark;
}

unfoldable pub acknowledge_at : Register → ℕ → List ℕ → Changed
acknowledge_at g i l =
    cond (eqb (ack_code (standing_at g i l) (get_or g.marks i 0)) 0) (changed 0 (marked g i 1))
    (changed (ack_code (standing_at g i l) (get_or g.marks i 0)) g)

-- "Acknowledge: 16, 17, 18"
unfoldable pub acknowledge_of : Register → ℕ → List ℕ → Changed
acknowledge_of g row l = cond (eqb (admit_code (length l) g.counts.specs row) 0) (acknowledge_at g (row - 1) l) (changed (admit_code (length l) g.counts.specs row) g)

unfoldable pub ask_at : Register → ℕ → List ℕ → Told
ask_at g i l = asked_of (standing_at g i l) (get_or g.states i 0) (get_or g.codes i 0) (get_or g.places i 0) (get_or g.marks i 0)

-- "Asking a row gives standing, finding, place, mark (finding and place 0 unless BAD; a refused asking has all four 0)"
unfoldable pub ask_of : Register → ℕ → List ℕ → Told
ask_of g row l = cond (eqb (admit_code (length l) g.counts.specs row) 0) (ask_at g (row - 1) l) (told (admit_code (length l) g.counts.specs row) 0 0 0 0)
