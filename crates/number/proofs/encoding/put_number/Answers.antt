-- `number::encoding::put_number` meets its contract. Assumes nothing.
use mathlib.Core.Path.{ap}
use native.Mathlib.Omega.{arith}
use lib.ListN.{length, length-set}
use Rattle.number.proofs.Encodes.{encode-1, encode-2, encode-4, put-short, put-0, put_1, put_2, put_4}
use Rattle.number.proofs.encoding.put_number.Goals as goal

pub returns-then-out-n : goal.returns-then-out-n
returns-then-out-n c = (c.number_len-n.ensures, put-short _ c.args.at _ (omega arith))

pub returns-then-out-n-2 : goal.returns-then-out-n-2
returns-then-out-n-2 c =
    (c.number_len-n.ensures, put-short _ c.args.at _ (omega arith))

pub bounds-out-at : goal.bounds-out-at
bounds-out-at c =
    omega (arith, ap length (encode-1 c.args.v (omega arith)))

pub bounds-out-at-then-v-lt16384 : goal.bounds-out-at-then-v-lt16384
bounds-out-at-then-v-lt16384 c =
    omega (arith, ap length (encode-2 c.args.v (omega arith) (omega arith)))

pub bounds-out-at-then-v-lt16384-2 : goal.bounds-out-at-then-v-lt16384-2
bounds-out-at-then-v-lt16384-2 c =
    simp length-set (omega (arith, ap length (encode-2 c.args.v (omega arith) (omega arith))))

pub bounds-out-at-then-v-lt-LIMIT : goal.bounds-out-at-then-v-lt-LIMIT
bounds-out-at-then-v-lt-LIMIT c =
    omega (arith, ap length (encode-4 c.args.v (omega arith) (omega arith)))

pub bounds-out-at-then-v-lt-LIMIT-2 : goal.bounds-out-at-then-v-lt-LIMIT-2
bounds-out-at-then-v-lt-LIMIT-2 c =
    simp length-set (omega (arith, ap length (encode-4 c.args.v (omega arith) (omega arith))))

pub bounds-out-at-then-v-lt-LIMIT-3 : goal.bounds-out-at-then-v-lt-LIMIT-3
bounds-out-at-then-v-lt-LIMIT-3 c =
    simp length-set (omega (arith, ap length (encode-4 c.args.v (omega arith) (omega arith))))

pub bounds-out-at-then-v-lt-LIMIT-4 : goal.bounds-out-at-then-v-lt-LIMIT-4
bounds-out-at-then-v-lt-LIMIT-4 c =
    simp length-set (omega (arith, ap length (encode-4 c.args.v (omega arith) (omega arith))))

pub returns-then-v-lt128 : goal.returns-then-v-lt128
returns-then-v-lt128 c =
    let a = c.args in
    (c.number_len-n.ensures, put_1 a.out.now a.at a.v (omega arith) (omega (arith, ap length (encode-1 a.v (omega arith)))))

pub returns-then-v-lt16384 : goal.returns-then-v-lt16384
returns-then-v-lt16384 c =
    let a = c.args in
    (c.number_len-n.ensures, put_2 a.out.now a.at a.v (omega arith) (omega arith) (omega (arith, ap length (encode-2 a.v (omega arith) (omega arith)))))

pub returns-then-v-lt-LIMIT : goal.returns-then-v-lt-LIMIT
returns-then-v-lt-LIMIT c =
    let a = c.args in
    (c.number_len-n.ensures, put_4 a.out.now a.at a.v (omega arith) (omega arith) (omega (arith, ap length (encode-4 a.v (omega arith) (omega arith)))))

pub returns-else-v-lt-LIMIT : goal.returns-else-v-lt-LIMIT
returns-else-v-lt-LIMIT c =
    let a = c.args in
    (c.number_len-n.ensures, put-0 a.out.now a.at a.v (omega arith) (omega arith))
