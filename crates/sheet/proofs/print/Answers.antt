-- `sheet::print` meets its contract. Assumes nothing.
use borrow.Author.Rules.{rules}
use Rattle.std.proofs.lemmas.Result.{err_from_is_err_and}
use Rattle.sheet.proofs.Printed.{rows_fit, print_short, print_fits}
use Rattle.sheet.proofs.print.Goals as goal

pub invariant_of-rows : goal.invariant_of-rows
invariant_of-rows c = record { within = rows_fit _ _ c.register_of-register.ensures }

pub returns-in_err-check_room : goal.returns-in_err-check_room
returns-in_err-check_room c =
    let p = err_from_is_err_and c.from_residual.result c.from_residual.ensures.1 in
    let s = c.in_err-check_room.ensures.short in
    rw (p.1, p.2, s.1) (print_short _ _ c.register_of-register.ensures c.standings-standings.ensures (search rules) c.size_of-needed.ensures.value _ s.0)

pub returns : goal.returns
returns c =
    print_fits _ _ c.register_of-register.ensures c.standings-standings.ensures (search rules) c.size_of-needed.ensures.value _ c.in_ok-check_room.ensures.fits c.size_of-needed.ensures.marks_after c.fill.ensures
