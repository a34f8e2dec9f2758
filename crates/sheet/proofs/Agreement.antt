-- The print by standings that are known and by marks alone is the print by the register's calls: an acknowledgement changes nothing but a mark, and no
-- standing goes by a mark.
-- Assumes nothing.
use Prim.Native.Nat.{ℕ, zero, suc, ◌+◌, ◌-◌, ◌*◌, ◌<◌, ◌≤◌}
use mathlib.Core.Path.{◌≡◌, refl, sym, ap, ◌∙◌}
use mathlib.Core.List.{List, [], ◌∷◌, ◌++◌}
use mathlib.Core.Bool.{Bool, true, false, cond}
use native.Mathlib.Omega.{arith}
use lib.ListN.{length, get_or, set}
use lib.Dec.{eqb}
use borrow.Author.Tests.{le-ltb, ne_eqb, eqb-true}
use Rattle.answer.specs.Size.{max_size, words}
use Rattle.answer.specs.Answers.{row_code, ack_code}
use Rattle.register.specs.Calls.{Held, held, holding, changed, open_of, file_of, standing_at, standings_of, marked, acknowledge_at, acknowledge_of, ask_at, ask_of}
use Rattle.register.specs.declared.Register.{Register}
use Rattle.answer.proofs.Admits.{row_ok, admit_within}
use Rattle.register.proofs.Lent.{Provided, open_provided, file_rows, file_provided}
use Rattle.register.proofs.RowStandings.{standings_at}
use Rattle.layout.specs.Layout.{blobs_from, counts_of}
use Rattle.sheet.specs.Lines.{header}
use Rattle.sheet.specs.Filed.{file_all, register_of}
use Rattle.sheet.specs.Text.{acked_all, row_lines, ack_lines, printed}
use Rattle.sheet.specs.Acks.{ack_row_code, ack_row_marks, acks_by, acked_marks}
use Rattle.sheet.specs.Rows.{asked_by, rows_by, printed_by}
use Rattle.layout.specs.declared.Layout.{Layout}

-- ---- the number of rows, and of the numbers lent
pub filed-rows : (blobs : List (List ℕ)) (h : Held) (row : ℕ) → (file_all h row blobs).register.counts.specs ≡ h.register.counts.specs
unfolding file_all
filed-rows [] h row = refl
filed-rows (blob ∷ blobs) h row = filed-rows blobs (held (file_of h.register row blob h.sets)) (row + 1) ∙ file_rows h.register row blob h.sets

filed-provided : (blobs : List (List ℕ)) (h : Held) (row : ℕ) → Provided h → Provided (file_all h row blobs)
unfolding file_all
filed-provided [] h row f = f
filed-provided (blob ∷ blobs) h row f = filed-provided blobs (held (file_of h.register row blob h.sets)) (row + 1) (file_provided h row blob f)

pub register-provided : (s : List ℕ) (l : Layout) (sets : List ℕ) → Provided (register_of s l sets)
unfolding register_of
register-provided s l sets = filed-provided (blobs_from l.rows s l.starts.blobs) (held (open_of (counts_of s l) sets)) 1 (open_provided (counts_of s l) sets)

-- ---- acknowledgements on a register that has other marks
abbrev with_marks : Register → List ℕ → Register
with_marks g marks = record {
  counts = g.counts;
  states = g.states;
  codes = g.codes;
  places = g.places;
  marks = marks;
}

module _ (g : Register) (l : List ℕ) (le : g.counts.specs ≤ max_size) (enough : g.counts.specs * words ≤ length l) where
  ack_is : (marks : List ℕ) (row : ℕ) → acknowledge_of (with_marks g marks) row l ≡ changed (ack_row_code (standings_of g l) g.counts.specs marks row) (with_marks g (ack_row_marks (standings_of g l) g.counts.specs marks row))
  unfolding acknowledge_of acknowledge_at ack_row_code ack_row_marks
  ack_is marks row = rw (admit_within (length l) g.counts.specs row le enough) (picked (eqb (row_code g.counts.specs row) 0) refl)
    where
      i : ℕ
      i = row - 1

      code : ℕ → ℕ
      code standing = ack_code standing (get_or marks i 0)

      acked : (b : Bool) (standing : ℕ) → eqb (code standing) 0 ≡ b
          → cond b (changed 0 (marked (with_marks g marks) i 1)) (changed (code standing) (with_marks g marks))
          ≡ changed (code standing) (with_marks g (cond b (set marks i 1) marks))
      acked true standing e = ap (λ c. changed c (marked (with_marks g marks) i 1)) (sym (eqb-true (code standing) 0 e))
      acked false standing e = refl

      picked : (b : Bool) → eqb (row_code g.counts.specs row) 0 ≡ b
          → cond b (cond (eqb (code (standing_at g i l)) 0) (changed 0 (marked (with_marks g marks) i 1)) (changed (code (standing_at g i l)) (with_marks g marks))) (changed (row_code g.counts.specs row) (with_marks g marks))
          ≡ changed (cond b (code (get_or (standings_of g l) i 0)) (row_code g.counts.specs row)) (with_marks g (cond (eqb (cond b (code (get_or (standings_of g l) i 0)) (row_code g.counts.specs row)) 0) (set marks i 1) marks))
      picked true e =
          let a = row_ok g.counts.specs row (eqb-true _ _ e) in
          let s : get_or (standings_of g l) i 0 ≡ standing_at g i l = standings_at g l le enough i (omega (arith, a.low, a.high)) in
          rw s (acked (eqb (code (standing_at g i l)) 0) (standing_at g i l) refl)
      picked false e = rw e refl

  lines_agree : (acks marks : List ℕ) → ack_lines l (with_marks g marks) acks ≡ acks_by (standings_of g l) g.counts.specs marks acks
  unfolding ack_lines acks_by
  lines_agree [] marks = refl
  lines_agree (row ∷ acks) marks = rw (ack_is marks row) (rw (lines_agree acks (ack_row_marks (standings_of g l) g.counts.specs marks row)) refl)

  acked_agree : (acks marks : List ℕ) → acked_all l (with_marks g marks) acks ≡ with_marks g (acked_marks (standings_of g l) g.counts.specs marks acks)
  unfolding acked_all acked_marks
  acked_agree [] marks = refl
  acked_agree (row ∷ acks) marks = rw (ack_is marks row) (acked_agree acks (ack_row_marks (standings_of g l) g.counts.specs marks row))

  asked_agree : (marks : List ℕ) (i : ℕ) → i < g.counts.specs → ask_of (with_marks g marks) (i + 1) l ≡ asked_by g (standings_of g l) marks i
  unfolding ask_of ask_at asked_by row_code
  asked_agree marks i h =
      let z : i + 1 - 1 ≡ i = omega arith in
      rw (admit_within (length l) g.counts.specs (i + 1) le enough, ne_eqb (i + 1) 0 (omega arith), le-ltb g.counts.specs (i + 1) h', z, standings_at g l le enough i h) refl
    where
      h' : i + 1 ≤ g.counts.specs
      h' = omega arith

  rows_agree : (marks : List ℕ) (k i : ℕ) → i + k ≤ g.counts.specs → row_lines l (with_marks g marks) k (i + 1) ≡ rows_by g (standings_of g l) marks k i
  unfolding row_lines rows_by
  rows_agree marks zero i h = refl
  rows_agree marks (suc k) i h = rw (asked_agree marks i (omega arith), rows_agree marks k (i + 1) (omega arith)) refl

  pub printed-agree : (acks : List ℕ) → printed (holding g l) acks ≡ printed_by g (standings_of g l) g.marks acks
  unfolding printed printed_by
  printed-agree acks =
      ap (λ (y : Register). header ++ row_lines l y g.counts.specs 1 ++ ack_lines l g acks) (acked_agree acks g.marks)
      ∙ ap (λ (y : List ℕ). header ++ y ++ ack_lines l g acks) (rows_agree (acked_marks (standings_of g l) g.counts.specs g.marks acks) g.counts.specs 0 (omega arith))
      ∙ ap (λ (y : List ℕ). header ++ rows_by g (standings_of g l) (acked_marks (standings_of g l) g.counts.specs g.marks acks) g.counts.specs 0 ++ y) (lines_agree acks g.marks)
