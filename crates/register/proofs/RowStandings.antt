-- The ways out of `standings`, and of `marks_after` where there is no mark.
-- Assumes nothing.
use Prim.Native.Nat.{ℕ, ◌*◌, ◌<◌, ◌≤◌}
use mathlib.Core.Path.{◌≡◌, sym}
use mathlib.Core.List.{List}
use mathlib.Core.Bool.{true, false, ◌||◌}
use lib.ListN.{length, get_or, replicate, length-replicate}
use lib.Dec.{ltb}
use native.Mathlib.Omega.{arith}
use borrow.Author.Tests.{lt-ltb, le-ltb}
use Rattle.bits.specs.Any.{any}
use Rattle.bits.proofs.Bools.{or_right}
use Rattle.standing.specs.Standing.{filled, marked_in}
use Rattle.standing.proofs.Standings.{cleared-unmarked, get_or-filled}
use Rattle.answer.specs.Size.{max_size, words}
use Rattle.register.specs.Calls.{marks_after, standing_at, standings_of}
use Rattle.register.specs.declared.Register.{Register}

module _ (g : Register) (l : List ℕ) where
  pub standings_above : max_size < g.counts.specs → replicate max_size 0 ≡ standings_of g l
  unfolding standings_of
  standings_above h = rw (lt-ltb _ _ h)

  pub standings_few : length l < g.counts.specs * words → replicate max_size 0 ≡ standings_of g l
  unfolding standings_of
  standings_few h = let e : (ltb max_size g.counts.specs || ltb (length l) (g.counts.specs * words)) ≡ true = or_right (ltb max_size g.counts.specs) (lt-ltb _ _ h) in rw e

  module _ (le : g.counts.specs ≤ max_size) (enough : g.counts.specs * words ≤ length l) where
    pub standings_all : (all : List ℕ) → all ≡ filled (replicate max_size 0) g.counts.specs (λ i. standing_at g i l) → all ≡ standings_of g l
    unfolding standings_of
    standings_all all e = rw (le-ltb max_size g.counts.specs le, le-ltb (length l) (g.counts.specs * words) enough) e

    -- the standing of a row among them
    pub standings_at : (i : ℕ) → i < g.counts.specs → get_or (standings_of g l) i 0 ≡ standing_at g i l
    unfolding standings_of
    standings_at i hi =
        rw (le-ltb max_size g.counts.specs le, le-ltb (length l) (g.counts.specs * words) enough)
        (get_or-filled (replicate max_size 0) g.counts.specs (λ j. standing_at g j l) i hi (omega (arith, length-replicate {A = ℕ} max_size 0)))

  pub marks_none : (i : ℕ) → any g.counts.specs (marked_in g.marks) ≡ false → g.marks ≡ marks_after g i l
  unfolding marks_after
  marks_none i h = sym (cleared-unmarked g.marks g.counts.specs _ h)
