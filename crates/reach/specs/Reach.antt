-- Reaching by references, and its decision. `g r s` says that row r refers to row s; rows are counted from 0. For any number of rows.
use Rattle.std.specs.Prelude.{ℕ, zero, suc, ◌≡◌, Bool, true, ◌&&◌, ◌||◌}

abbrev pub Graph : Type 0
Graph = ℕ → ℕ → Bool

-- Document 01, "The register": "Row r reaches s if a chain of one or more such references leads from r to s"
pub data Reach (g : Graph) : ℕ → ℕ → Type 0 where
  one : {r s : ℕ} → g r s ≡ true → Reach g r s
  step : {r m s : ℕ} → g r m ≡ true → Reach g m s → Reach g r s

-- Its decision: a chain whose rows between the ends are all below k. Over n rows, `thru g n` is reaching (proofs/Reaching.antt).
unfoldable pub thru : Graph → ℕ → ℕ → ℕ → Bool
thru g zero r s = g r s
thru g (suc k) r s = thru g k r s || (thru g k r k && thru g k k s)
