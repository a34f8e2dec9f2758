-- What a sheet prints is what the model prints: demand 3, carried over to the panel.
-- Assumes nothing.
use Prim.Native.Nat.{ℕ, zero, suc, ◌+◌, ◌*◌, ◌≤◌}
use mathlib.Core.Path.{◌≡◌, refl, sym, ap, ◌∙◌}
use mathlib.Core.List.{List, [], ◌∷◌, ◌++◌}
use native.Mathlib.Omega.{arith}
use lib.ListN.{length, drop, length-replicate}
use lib.Seq.{drop-append_seam}
use borrow.Author.Tests.{le-ltb, ne_eqb}
use Rattle.number.specs.Number.{Bytes}
use Rattle.number.specs.declared.token.Counts.{Counts}
use Rattle.grammar.specs.Limits.{max_rows}
use Rattle.answer.specs.Size.{max_size, words}
use Rattle.register.specs.Calls.{Held, held, holding, too_many, open_code, open_of, file_of, acknowledge_of}
use Rattle.register.specs.Model.{Model, Call, asking, answer_m, answers_m, next_m, end_m, opened_m}
use Rattle.register.specs.Demand.{asks, report_of, answer_r, next_r, answers_r, end_r}
use Rattle.register.proofs.Demand.{demand_3}
use Rattle.layout.specs.Layout.{layout_of, counts_of, blobs_from, acks_from}
use Rattle.layout.specs.declared.Layout.{Layout}
use Rattle.std.specs.Prelude.{Ok}
use Rattle.layout.proofs.Sound.{sheet_sound}
use Rattle.sheet.specs.Lines.{header, ack_line}
use Rattle.sheet.specs.Filed.{file_all, register_of}
use Rattle.sheet.specs.Text.{own_sets, acked_all, row_lines, ack_lines, printed, text_for, text_of}
use Rattle.sheet.specs.ModelText.{filings, acknowledgings, report_line, rows_m, acks_m, text_m}
use Rattle.sheet.proofs.Agreement.{filed-rows}

-- ---- lists of calls, one after the other
end_r-append : (xs ys : List Call) (g : Held) → end_r g (xs ++ ys) ≡ end_r (end_r g xs) ys
unfolding end_r
end_r-append [] ys g = refl
end_r-append (c ∷ xs) ys g = end_r-append xs ys (next_r g c)

answers_r-append : (xs ys : List Call) (g : Held) → answers_r g (xs ++ ys) ≡ answers_r g xs ++ answers_r (end_r g xs) ys
unfolding answers_r end_r
answers_r-append [] ys g = refl
answers_r-append (c ∷ xs) ys g = ap (λ l. answer_r g c ∷ l) (answers_r-append xs ys (next_r g c))

answers_m-append : (xs ys : List Call) (b : Model) → answers_m b (xs ++ ys) ≡ answers_m b xs ++ answers_m (end_m b xs) ys
unfolding answers_m end_m
answers_m-append [] ys b = refl
answers_m-append (c ∷ xs) ys b = ap (λ l. answer_m b c ∷ l) (answers_m-append xs ys (next_m b c))

same_count : (xs : List Call) (g : Held) (b : Model) → length (answers_r g xs) ≡ length (answers_m b xs)
unfolding answers_r answers_m
same_count [] g b = refl
same_count (c ∷ xs) g b = ap suc (same_count xs (next_r g c) (next_m b c))

-- ---- the sheet's calls
filed-end : (blobs : List (List ℕ)) (row : ℕ) (h : Held) → file_all h row blobs ≡ end_r h (filings row blobs)
unfolding file_all filings end_r next_r
filed-end [] row h = refl
filed-end (blob ∷ blobs) row h = filed-end blobs (row + 1) (held (file_of h.register row blob h.sets))

acked_end : (acks : List ℕ) (h : Held) → holding (acked_all h.sets h.register acks) h.sets ≡ end_r h (acknowledgings acks)
unfolding acked_all acknowledgings end_r next_r
acked_end [] h = refl
acked_end (row ∷ acks) h = acked_end acks (holding (acknowledge_of h.register row h.sets).register h.sets)

acked_lines : (acks : List ℕ) (h : Held) → ack_lines h.sets h.register acks ≡ acks_m acks (answers_r h (acknowledgings acks))
unfolding ack_lines acks_m acknowledgings answers_r answer_r next_r
acked_lines [] h = refl
acked_lines (row ∷ acks) h =
    ap (λ l. ack_line row (acknowledge_of h.register row h.sets).code ++ l) (acked_lines acks (holding (acknowledge_of h.register row h.sets).register h.sets))

rows-model : (k row : ℕ) (h : Held) (b : Model) → ((q : ℕ) → report_of (asks h q) ≡ answer_m b (asking q)) → row_lines h.sets h.register k row ≡ rows_m b k row
unfolding row_lines rows_m
rows-model zero row h b e = refl
rows-model (suc k) row h b e = ap (λ a. report_line row a ++ row_lines h.sets h.register k (row + 1)) (e row) ∙ ap (λ l. report_line row (answer_m b (asking row)) ++ l) (rows-model k (row + 1) h b e)

module _ (counts : Counts) (blobs : List (List ℕ)) (acks : List ℕ) where
  abbrev opened : Held
  opened = held (open_of counts own_sets)

  abbrev model : Model
  model = opened_m counts (length own_sets)

  -- the acknowledgements' answers, behind those of the filings
  ack_answers : answers_r (end_r opened (filings 1 blobs)) (acknowledgings acks) ≡ answers_m (end_m model (filings 1 blobs)) (acknowledgings acks)
  ack_answers =
      let d = demand_3 counts own_sets (filings 1 blobs ++ acknowledgings acks) in
      let xs = answers_r opened (filings 1 blobs) in
      let xsM = answers_m model (filings 1 blobs) in
      let ys = answers_r (end_r opened (filings 1 blobs)) (acknowledgings acks) in
      let ysM = answers_m (end_m model (filings 1 blobs)) (acknowledgings acks) in
      let e : xs ++ ys ≡ xsM ++ ysM = sym (answers_r-append (filings 1 blobs) (acknowledgings acks) opened) ∙ d.answers ∙ answers_m-append (filings 1 blobs) (acknowledgings acks) model in
      sym (drop-append_seam xs ys) ∙ ap (drop (length xs)) e ∙ ap (λ k. drop k (xsM ++ ysM)) (same_count (filings 1 blobs) opened model) ∙ drop-append_seam xsM ysM

  print_model : opened.register.counts.specs ≡ counts.specs → printed (file_all opened 1 blobs) acks ≡ text_m counts blobs acks
  unfolding printed text_m
  print_model z =
      let d = demand_3 counts own_sets (filings 1 blobs ++ acknowledgings acks) in
      let h = file_all opened 1 blobs in
      let n : h.register.counts.specs ≡ counts.specs = filed-rows blobs opened 1 ∙ z in
      let last : holding (acked_all h.sets h.register acks) h.sets ≡ end_r opened (filings 1 blobs ++ acknowledgings acks) =
      acked_end acks h ∙ ap (λ (y : Held). end_r y (acknowledgings acks)) (filed-end blobs 1 opened) ∙ sym (end_r-append (filings 1 blobs) (acknowledgings acks) opened) in
      let lines : ack_lines h.sets h.register acks ≡ acks_m acks (answers_m (end_m model (filings 1 blobs)) (acknowledgings acks)) =
      acked_lines acks h ∙ ap (λ (y : Held). acks_m acks (answers_r y (acknowledgings acks))) (filed-end blobs 1 opened) ∙ ap (acks_m acks) ack_answers in
      ap (λ (y : Held). header ++ row_lines y.sets y.register h.register.counts.specs 1 ++ ack_lines h.sets h.register acks) last
      ∙ ap (λ k. header ++ row_lines (end_r opened (filings 1 blobs ++ acknowledgings acks)).sets (end_r opened (filings 1 blobs ++ acknowledgings acks)).register k 1 ++ ack_lines h.sets h.register acks) n
      ∙ ap (λ l. header ++ l ++ ack_lines h.sets h.register acks) (rows-model counts.specs 1 _ _ d.afterwards)
      ∙ ap (λ l. header ++ rows_m (end_m model (filings 1 blobs ++ acknowledgings acks)) counts.specs 1 ++ l) lines

opened_rows : (counts : Counts) → counts.defs ≤ max_rows → counts.refs ≤ max_rows → 1 ≤ counts.specs → counts.specs ≤ max_size
    → (open_of counts own_sets).changed.register.counts.specs ≡ counts.specs
unfolding open_of open_code too_many
opened_rows counts d r l u =
    rw (le-ltb max_rows counts.defs d, le-ltb max_rows counts.refs r, ne_eqb counts.specs 0 (omega arith), le-ltb max_size counts.specs u, le-ltb (length own_sets) (counts.specs * words) (omega (arith, length-replicate {A = ℕ} (max_size * words) 0)))
    refl

-- the print of an accepted sheet is the model's, of the counts, blobs and rows that spell it
pub sheet_model : (s : List ℕ) → Bytes s → (l : Layout) → layout_of s ≡ Ok l
    → text_of s ≡ text_m (counts_of s l) (blobs_from l.rows s l.starts.blobs) (acks_from l.acknowledged s l.starts.acks)
unfolding text_of register_of
sheet_model s bytes l e =
    let h = sheet_sound s bytes l e in
    ap (text_for s) e
    ∙ print_model (counts_of s l) (blobs_from l.rows s l.starts.blobs) (acks_from l.acknowledged s l.starts.acks)
    (opened_rows (counts_of s l) h.defs-few h.refs-few (omega (arith, h.rows, h.some_blobs)) (omega (arith, h.rows, h.few_blobs)))
