-- How an answer passes to a host: as a number.
use Rattle.std.specs.Prelude.{ℕ, ◌+◌, ◌*◌}
use Rattle.answer.specs.declared.Answer.{Answer}

-- the panel's number times 2^32 plus its place
abbrev pub pack_of : Answer → ℕ
pack_of a = a.code * 0x100000000 + a.place
