-- `register::Register::standings` meets its contract. Assumes nothing.
use native.Mathlib.Omega.{arith}
use Rattle.register.proofs.RowStandings.{standings_all, standings_above, standings_few}
use Rattle.register.proofs.Register.standings.Goals as goal
use Rattle.register.proofs.Register.standings.Goals.{then-n-gt-MAX_SIZE-via-then-n-gt-MAX_SIZE, then-n-gt-MAX_SIZE-via-else-n-gt-MAX_SIZE+then-sets-n}

pub returns-then-n-gt-MAX_SIZE : goal.returns-then-n-gt-MAX_SIZE
returns-then-n-gt-MAX_SIZE c =
    elim c.then-n-gt-MAX_SIZE.branch [
      | then-n-gt-MAX_SIZE-via-then-n-gt-MAX_SIZE w ↦ standings_above c.args.self.now c.args.sets.now (omega (arith, w.if-n-gt-MAX_SIZE.true, c.rows-n.ensures))
      | then-n-gt-MAX_SIZE-via-else-n-gt-MAX_SIZE+then-sets-n w ↦ standings_few c.args.self.now c.args.sets.now (omega (arith, w.if-sets-n.true, c.rows-n.ensures))
    ]

pub returns : goal.returns
returns c =
    standings_all c.args.self.now c.args.sets.now (omega (arith, c.if-n-gt-MAX_SIZE.false, c.rows-n.ensures)) (omega (arith, c.if-sets-n.false, c.rows-n.ensures)) _ (simp c.rows-n.ensures at c.standings_among.ensures)
