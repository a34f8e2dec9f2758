-- The register's sizes: each number has its one definition here.
use Rattle.std.specs.Prelude.{ℕ}

-- Document 01, 19: "opening with a size not 1..64; any other call on a size above 64"; document 02, wish 8: "Raise it to 512"
abbrev pub max_size : ℕ
max_size = 512

-- Document 02, wish 8: "16 32-bit numbers for each row", in which the set of rows that it names is kept
abbrev pub words : ℕ
words = 16
