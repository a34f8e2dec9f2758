-- Document 01, "Deposit sheet": what a sheet prints. "The program files and acknowledges in that order, then prints all rows, then `ack`, row
-- and answer for each press".
use Rattle.std.specs.Prelude.{ℕ, zero, suc, ◌+◌, ◌*◌, List, [], ◌∷◌, ◌++◌, length, replicate, Ok, Err}
use Rattle.answer.specs.Written.{fitted, Writes}
use Rattle.answer.specs.declared.Answer.{Answer}
use Rattle.register.specs.declared.Register.{Register}
use Rattle.register.specs.Calls.{Held, acknowledge_of, ask_of}
use Rattle.answer.specs.Size.{max_size, words}
use Rattle.layout.specs.declared.Layout.{Layout}
use Rattle.layout.specs.Layout.{Parsed, layout_of, acks_from}
use Rattle.sheet.specs.Filed.{register_of}
use Rattle.sheet.specs.Lines.{header, row_line, ack_line, refusal_line}

-- the numbers that a sheet's run lends to its register: enough for any size
abbrev pub own_sets : List ℕ
own_sets = replicate (max_size * words) 0

module _ (sets : List ℕ) where
  -- the rows acknowledged
  unfoldable pub acked_all : Register → List ℕ → Register
  acked_all g [] = g
  acked_all g (row ∷ rows) = acked_all (acknowledge_of g row sets).register rows

  -- k rows from this one on, as they are asked
  unfoldable pub row_lines : Register → (k row : ℕ) → List ℕ
  row_lines g zero row = []
  row_lines g (suc k) row = row_line row (ask_of g row sets) ++ row_lines g k (row + 1)

  -- each acknowledgement with its answer
  unfoldable pub ack_lines : Register → List ℕ → List ℕ
  ack_lines g [] = []
  ack_lines g (row ∷ rows) = ack_line row (acknowledge_of g row sets).code ++ ack_lines (acknowledge_of g row sets).register rows

-- the print of a register with all blobs filed, before the acknowledgements
unfoldable pub printed : Held → List ℕ → List ℕ
printed h acks =
    header ++ row_lines h.sets (acked_all h.sets h.register acks) h.register.counts.specs 1 ++ ack_lines h.sets h.register acks

abbrev pub accepted_text : List ℕ → Layout → List ℕ
accepted_text s l = printed (register_of s l own_sets) (acks_from l.acknowledged s l.starts.acks)

abbrev pub text_for : List ℕ → Parsed → List ℕ
text_for s (Err place) = refusal_line place
text_for s (Ok l) = accepted_text s l

-- the text that a sheet prints
unfoldable pub text_of : List ℕ → List ℕ
text_of s = text_for s (layout_of s)

-- a text is printed where it fits
unfoldable pub Runs : List ℕ → Answer → (old new : List ℕ) → Type 0
Runs text r old new = Writes (fitted (length old) text) r old new
