-- Demand 1, the register: every call answers 0 or a number of the list, and a refused call hands the register back as it was and keeps the
-- numbers lent. For any value of the register, and any numbers.
-- Assumes nothing.
use Prim.Native.Nat.{ℕ, ◌-◌, ◌*◌}
use mathlib.Core.Path.{◌≡◌, refl}
use mathlib.Core.List.{List, [], ◌∷◌, ◌++◌}
use mathlib.Core.Bool.{Bool, true, false, cond, ◌||◌}
use lib.ListN.{length, get_or}
use lib.Dec.{T, ltb, eqb}
use Rattle.number.specs.Token.{no_counts}
use Rattle.number.specs.declared.token.Counts.{Counts}
use Rattle.grammar.specs.Refusals.{among}
use Rattle.answer.specs.Size.{max_size, words}
use Rattle.answer.specs.declared.Told.{Told}
use Rattle.answer.specs.Answers.{row_code, admit_code, ack_code, told}
use Rattle.answer.proofs.Admits.{by_code}
use Rattle.register.specs.declared.Register.{Register}
use Rattle.register.specs.Calls.{Changed}
use Rattle.register.specs.Refusals.{open_refusals, call_refusals, ack_own, ack_refusals}
use Rattle.register.specs.Calls.{Left, left, blank_register, changed, too_many, open_code, open_of, file_of, standing_at, marked, acknowledge_at, acknowledge_of, ask_at, ask_of}

-- opened, or refused with a register of 0 rows and the numbers as they were
pub data Opening (l : List ℕ) : Left → Type 0 where
  opened : (g : Register) (m : List ℕ) → Opening l (left (changed 0 g) m)
  refused : {code : ℕ} → T (among open_refusals code) → Opening l (left (changed code (blank_register no_counts)) l)

-- done, or refused with the register and the numbers as they were
pub data Filing (g : Register) (l : List ℕ) : Left → Type 0 where
  done : (h : Register) (m : List ℕ) → Filing g l (left (changed 0 h) m)
  refused : {code : ℕ} → T (among call_refusals code) → Filing g l (left (changed code g) l)

-- done, or refused with the register as it was
pub data Acknowledging (g : Register) : Changed → Type 0 where
  done : (h : Register) → Acknowledging g (changed 0 h)
  refused : {code : ℕ} → T (among ack_refusals code) → Acknowledging g (changed code g)

-- done, or refused with four 0s
pub data Asking : Told → Type 0 where
  answered : (standing finding place mark : ℕ) → Asking (told 0 standing finding place mark)
  refused : {code : ℕ} → T (among call_refusals code) → Asking (told code 0 0 0 0)

unopened : (counts : Counts) (lent : ℕ) → (open_code counts lent ≡ 0 → ⊥) → T (among open_refusals (open_code counts lent))
unfolding open_code
unopened counts lent = go (too_many counts) (eqb counts.specs 0 || ltb max_size counts.specs) (ltb lent (counts.specs * words))
  where
    go : (a b c : Bool) → (◌≡◌ {A = ℕ} (cond a 13 (cond b 19 (cond c 27 0))) 0 → ⊥) → T (among open_refusals (cond a 13 (cond b 19 (cond c 27 0))))
    go true b c ne = tt
    go false true c ne = tt
    go false false true ne = tt
    go false false false ne = absurd (ne refl)

refuses : (lent rows row : ℕ) → (admit_code lent rows row ≡ 0 → ⊥) → T (among call_refusals (admit_code lent rows row))
unfolding admit_code row_code
refuses lent rows row = go (ltb max_size rows) (ltb lent (rows * words)) (eqb row 0 || ltb rows row)
  where
    go : (a b c : Bool) → (◌≡◌ {A = ℕ} (cond a 19 (cond b 27 (cond c 16 0))) 0 → ⊥) → T (among call_refusals (cond a 19 (cond b 27 (cond c 16 0))))
    go true b c ne = tt
    go false true c ne = tt
    go false false true ne = tt
    go false false false ne = absurd (ne refl)

-- a number of a list is one of a longer list
more : (xs ys : List ℕ) (n : ℕ) → T (among ys n) → T (among (xs ++ ys) n)
more [] ys n h = h
more (x ∷ xs) ys n h = go (eqb n x) (more xs ys n h)
  where
    go : (t : Bool) → T (among (xs ++ ys) n) → T (t || among (xs ++ ys) n)
    go true k = tt
    go false k = k

pub open_answers : (counts : Counts) (l : List ℕ) → Opening l (open_of counts l)
unfolding open_of
open_answers counts l = by_code (Opening l) (open_code counts (length l)) (λ z. opened _ _) (λ ne. refused (unopened counts (length l) ne))

module _ (g : Register) (l : List ℕ) (row : ℕ) where
  abbrev admitted : ℕ
  admitted = admit_code (length l) g.counts.specs row

  pub file_answers : (blob : List ℕ) → Filing g l (file_of g row blob l)
  unfolding file_of
  file_answers blob = by_code (Filing g l) admitted (λ z. done _ _) (λ ne. refused (refuses (length l) g.counts.specs row ne))

  ack_at : (i : ℕ) → Acknowledging g (acknowledge_at g i l)
  unfolding acknowledge_at ack_code
  ack_at i = go (eqb (standing_at g i l) 0 || eqb (standing_at g i l) 4) (eqb (get_or g.marks i 0) 0)
    where
      go : (a b : Bool) → Acknowledging g (cond (eqb (cond a 17 (cond b 0 18)) 0) (changed 0 (marked g i 1)) (changed (cond a 17 (cond b 0 18)) g))
      go true b = refused tt
      go false true = done (marked g i 1)
      go false false = refused tt

  pub ack_answers : Acknowledging g (acknowledge_of g row l)
  unfolding acknowledge_of
  ack_answers =
      by_code (Acknowledging g) admitted (λ z. ack_at (row - 1))
      (λ ne. refused (more ack_own call_refusals admitted (refuses (length l) g.counts.specs row ne)))

  pub ask_answers : Asking (ask_of g row l)
  unfolding ask_of ask_at
  ask_answers = by_code Asking admitted (λ z. answered _ _ _ _) (λ ne. refused (refuses (length l) g.counts.specs row ne))
