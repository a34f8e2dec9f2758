-- Document 02, wish 8: what the calls write of the numbers lent. Their number stays; opening writes those of its rows, a filing the row's own, and over any list of
-- calls none behind the last row is written. What an opening hands back has rows within the size and numbers enough for them, and so has what is made of it.
-- Assumes nothing.
use Prim.Native.Nat.{ℕ, ◌+◌, ◌-◌, ◌*◌, ◌<◌, ◌≤◌}
use mathlib.Core.Path.{◌≡◌, refl, ◌∙◌}
use mathlib.Core.List.{List, [], ◌∷◌}
use mathlib.Core.Logic.{◌⊎◌, inr}
use native.Mathlib.Omega.{arith}
use lib.ListN.{length, get_or}
use Rattle.bits.proofs.BitLaws.{length_zeroed, get_or-zeroed_out}
use Rattle.number.specs.declared.token.Counts.{Counts}
use Rattle.answer.specs.Size.{max_size, words}
use Rattle.answer.specs.Answers.{admit_code, ack_code}
use Rattle.answer.proofs.Admits.{admit_ok, by_code}
use Rattle.grammar.specs.Judge.{Out}
use Rattle.filing.specs.Outcome.{judged}
use Rattle.filing.proofs.Collects.{length_named, get_or-named_out}
use Rattle.register.specs.declared.Register.{Register}
use Rattle.register.specs.Calls.{Changed}
use Rattle.register.specs.Calls.{Held, held, Left, open_code, open_of, filed, file_of, standing_at, acknowledge_at, acknowledge_of}
use Rattle.register.specs.Model.{Call, filing, acknowledging, asking}
use Rattle.register.specs.Demand.{next_r, end_r, after_r}
use Rattle.register.proofs.Openings.{open_ok}

-- a register whose rows are within the size, with numbers enough for them
pub record Provided (h : Held) : Type 0 where
  pub size : h.register.counts.specs ≤ max_size
  pub enough : h.register.counts.specs * words ≤ length h.sets

module _ (counts : Counts) (l : List ℕ) where
  abbrev code : ℕ
  code = open_code counts (length l)

  pub open_length : length (open_of counts l).sets ≡ length l
  unfolding open_of
  open_length = by_code (λ (x : Left). length x.sets ≡ length l) code (λ z. length_zeroed l 0 (counts.specs * words)) (λ z. refl)

  -- behind the last row
  pub open_behind : (p : ℕ) → counts.specs * words ≤ p → get_or (open_of counts l).sets p 0 ≡ get_or l p 0
  unfolding open_of
  open_behind p h =
      by_code (λ (x : Left). get_or x.sets p 0 ≡ get_or l p 0) code (λ z. get_or-zeroed_out l 0 (counts.specs * words) p (inr (omega arith))) (λ z. refl)

  open_rows : (open_of counts l).changed.register.counts.specs ≤ counts.specs
  unfolding open_of
  open_rows = by_code (λ (x : Left). x.changed.register.counts.specs ≤ counts.specs) code (λ z. omega arith) (λ z. omega arith)

  pub open_provided : Provided (held (open_of counts l))
  unfolding open_of
  open_provided =
      by_code (λ (x : Left). Provided (held x)) code
      (λ z. let k = open_ok counts (length l) z in record { size = k.0; enough = omega (arith, k.1, length_zeroed l 0 (counts.specs * words)) })
      (λ z. record { size = omega arith; enough = omega arith })

module _ (g : Register) (row : ℕ) (blob l : List ℕ) where
  abbrev admitted : ℕ
  admitted = admit_code (length l) g.counts.specs row

  abbrev outcome : Out
  outcome = judged g.counts blob

  pub file_length : length (file_of g row blob l).sets ≡ length l
  unfolding file_of
  file_length = by_code (λ (x : Left). length x.sets ≡ length l) admitted (λ z. length_named (row - 1) l outcome) (λ z. refl)

  -- before and behind the row's own
  pub file_elsewhere : (p : ℕ) → (p < (row - 1) * words) ⊎ ((row - 1) * words + words ≤ p) → get_or (file_of g row blob l).sets p 0 ≡ get_or l p 0
  unfolding file_of
  file_elsewhere p h = by_code (λ (x : Left). get_or x.sets p 0 ≡ get_or l p 0) admitted (λ z. get_or-named_out (row - 1) l outcome p h) (λ z. refl)

  file_behind : (p : ℕ) → g.counts.specs * words ≤ p → get_or (file_of g row blob l).sets p 0 ≡ get_or l p 0
  unfolding file_of
  file_behind p h =
      by_code (λ (x : Left). get_or x.sets p 0 ≡ get_or l p 0) admitted
      (λ z. let a = admit_ok (length l) g.counts.specs row z in get_or-named_out (row - 1) l outcome p (inr (omega (arith, a.low, a.high, h)))) (λ z. refl)

  pub file_rows : (file_of g row blob l).changed.register.counts.specs ≡ g.counts.specs
  unfolding file_of filed
  file_rows = by_code (λ (x : Left). x.changed.register.counts.specs ≡ g.counts.specs) admitted (λ z. refl) (λ z. refl)

pub file_provided : (h : Held) (row : ℕ) (blob : List ℕ) → Provided h → Provided (held (file_of h.register row blob h.sets))
file_provided h row blob f =
    let r = file_rows h.register row blob h.sets in
    record { size = omega (arith, r, f.size); enough = omega (arith, r, f.enough, file_length h.register row blob h.sets) }

ack_rows : (g : Register) (row : ℕ) (l : List ℕ) → (acknowledge_of g row l).register.counts.specs ≡ g.counts.specs
unfolding acknowledge_of acknowledge_at
ack_rows g row l =
    by_code (λ (x : Changed). x.register.counts.specs ≡ g.counts.specs) (admit_code (length l) g.counts.specs row)
    (λ z. by_code (λ (x : Changed). x.register.counts.specs ≡ g.counts.specs) (ack_code (standing_at g (row - 1) l) (get_or g.marks (row - 1) 0)) (λ y. refl) (λ y. refl)) (λ z. refl)

-- ---- any list of calls
call_rows : (h : Held) (c : Call) → (next_r h c).register.counts.specs ≡ h.register.counts.specs
unfolding next_r
call_rows h (filing row blob) = file_rows h.register row blob h.sets
call_rows h (acknowledging row) = ack_rows h.register row h.sets
call_rows h (asking row) = refl

call-behind : (h : Held) (c : Call) (p : ℕ) → h.register.counts.specs * words ≤ p → get_or (next_r h c).sets p 0 ≡ get_or h.sets p 0
unfolding next_r
call-behind h (filing row blob) p k = file_behind h.register row blob h.sets p k
call-behind h (acknowledging row) p k = refl
call-behind h (asking row) p k = refl

end_behind : (cs : List Call) (h : Held) (p : ℕ) → h.register.counts.specs * words ≤ p → get_or (end_r h cs).sets p 0 ≡ get_or h.sets p 0
unfolding end_r
end_behind [] h p k = refl
end_behind (c ∷ cs) h p k = end_behind cs (next_r h c) p (omega (arith, call_rows h c, k)) ∙ call-behind h c p k

-- numbers behind the last row are never touched
pub behind : (counts : Counts) (l : List ℕ) (cs : List Call) (p : ℕ) → counts.specs * words ≤ p → get_or (after_r counts l cs).sets p 0 ≡ get_or l p 0
behind counts l cs p h =
    end_behind cs (held (open_of counts l)) p (omega (arith, open_rows counts l, h)) ∙ open_behind counts l p h
