-- `number::encoding::number_len` meets its contract, by the cases of `encode`. Assumes nothing.
use mathlib.Core.Path.{sym, ap}
use lib.ListN.{length}
use Rattle.number.proofs.Encodes.{encode-1, encode-2, encode-4, encode-none}
use Rattle.number.proofs.encoding.number_len.Goals as goal

pub returns-then-v-lt128 : goal.returns-then-v-lt128
returns-then-v-lt128 c = sym (ap length (encode-1 _ c.if-v-lt128.true))

pub returns-then-v-lt16384 : goal.returns-then-v-lt16384
returns-then-v-lt16384 c = sym (ap length (encode-2 _ c.if-v-lt128.false c.if-v-lt16384.true))

pub returns-then-v-lt-LIMIT : goal.returns-then-v-lt-LIMIT
returns-then-v-lt-LIMIT c = sym (ap length (encode-4 _ c.if-v-lt16384.false c.if-v-lt-LIMIT.true))

pub returns : goal.returns
returns c = sym (ap length (encode-none _ c.if-v-lt-LIMIT.false))
