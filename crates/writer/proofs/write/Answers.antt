-- `writer::write` meets its contract. Assumes nothing.
use native.Mathlib.Omega.{arith}
use mathlib.Core.Path.{sym, ◌∙◌}
use Rattle.writer.proofs.Verdicts.{write_kind, write_rows, write_known}
use Rattle.writer.proofs.write.Goals as goal

pub returns-then-kind-gt-MAX_KIND : goal.returns-then-kind-gt-MAX_KIND
returns-then-kind-gt-MAX_KIND c = rw c.at.ensures (write_kind _ _ _ _ (omega (arith, c.if-kind-gt-MAX_KIND.true)))

pub returns-then-not-known_counts : goal.returns-then-not-known_counts
returns-then-not-known_counts c = rw c.at-then-not-known_counts.ensures (write_rows _ _ _ _ c.if-kind-gt-MAX_KIND.false (sym c.known_counts.ensures ∙ c.if-not-known_counts.true))

pub returns : goal.returns
returns c = write_known _ _ _ c.args.out.now _ _ c.if-kind-gt-MAX_KIND.false (sym c.known_counts.ensures ∙ c.if-not-known_counts.false) c.write_known.ensures
