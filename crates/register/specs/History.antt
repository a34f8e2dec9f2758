-- What the model's standings and marks mean: a standing by chains of references, a mark by the calls that were made.
use Rattle.std.specs.Prelude.{ℕ, ◌-◌, ◌≡◌, List, [], ◌∷◌}
use Rattle.reach.specs.Reach.{Reach}
use Rattle.register.specs.Model.{Model, Call, filing, acknowledging, asking, number, state_m, refers_m, answer_m, next_m}

-- "an EMPTY, BAD or LOOP row"
pub data Troubled (b : Model) (j : ℕ) : Type 0 where
  empty : state_m b j ≡ 0 → Troubled b j
  bad : state_m b j ≡ 1 → Troubled b j
  looping : Reach (refers_m b) j j → Troubled b j

-- Document 01, "The register": "Standing, first that fits: 0 EMPTY never filed; 1 BAD refused; 2 LOOP reaches itself; 3 LEANS reaches an
-- EMPTY, BAD or LOOP row; 4 CLEAN"
pub data Stands (b : Model) (i : ℕ) : ℕ → Type 0 where
  EMPTY : state_m b i ≡ 0 → Stands b i 0
  BAD : state_m b i ≡ 1 → Stands b i 1
  LOOP : state_m b i ≡ 2 → Reach (refers_m b) i i → Stands b i 2
  LEANS : state_m b i ≡ 2 → (Reach (refers_m b) i i → ⊥) → (j : ℕ) → Reach (refers_m b) i j → Troubled b j → Stands b i 3
  CLEAN : state_m b i ≡ 2 → (Reach (refers_m b) i i → ⊥) → ((j : ℕ) → Reach (refers_m b) i j → Troubled b j → ⊥) → Stands b i 4

-- The call does not file row q or a row that it could reach: "a row is filed, when the call answers 0. "Could reach" goes by the blobs
-- just before that filing."
unfoldable pub Safe : Model → ℕ → Call → Type 0
Safe b q (filing row blob) = answer_m b (filing row blob) ≡ number 0 → (q ≡ row → ⊥) × (Reach (refers_m b) (q - 1) (row - 1) → ⊥)
Safe b q (acknowledging row) = Unit
Safe b q (asking row) = Unit

-- none of the calls, made from b on, does
pub data Kept (q : ℕ) : Model → List Call → Type 0 where
  nil : {b : Model} → Kept q b []
  more : {b : Model} {c : Call} {cs : List Call} → Safe b q c → Kept q (next_m b c) cs → Kept q b (c ∷ cs)

-- Demand 3: "a press on it succeeded and since then neither it nor any row it could reach through modifiers was filed"
pub data Marked (q : ℕ) : Model → List Call → Type 0 where
  here : {b : Model} {cs : List Call} → answer_m b (acknowledging q) ≡ number 0 → Kept q (next_m b (acknowledging q)) cs → Marked q b (acknowledging q ∷ cs)
  later : {b : Model} {c : Call} {cs : List Call} → Marked q (next_m b c) cs → Marked q b (c ∷ cs)
