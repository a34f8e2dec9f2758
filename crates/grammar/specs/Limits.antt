-- Document 01, "Numbers and tokens", the bounds of reader and writer, and "The grammar", the greatest Rank.
use Rattle.std.specs.Prelude.{ℕ}

-- "blob at most 4,096 bytes"
abbrev pub max_bytes : ℕ
max_bytes = 4096

-- "a table count at most FFFFFF hex"
abbrev pub max_rows : ℕ
max_rows = 0xFFFFFF

-- "at most 1,024 nodes"
abbrev pub max_nodes : ℕ
max_nodes = 1024

-- "depth at most 32, the root at depth 1"
abbrev pub max_depth : ℕ
max_depth = 32

-- "Rank 1 to 32"
abbrev pub max_rank : ℕ
max_rank = 32
