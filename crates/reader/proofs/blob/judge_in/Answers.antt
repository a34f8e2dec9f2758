-- `reader::blob::judge_in` meets its contract. Assumes nothing.
use Rattle.std.proofs.Common.{rules, ◌≡◌}
use Rattle.std.specs.Prelude.{Err}
use mathlib.Core.Path.{ap, sym, ◌∙◌}
use Rattle.opening.specs.End.{ended}
use Rattle.reader.proofs.Steps.{unknown_kind, too_many_rows, too_long, blob-stop, blob-over, blob-done}
use Rattle.reader.proofs.blob.judge_in.Goals as goal

pub returns-then-kind-gt-MAX_KIND : goal.returns-then-kind-gt-MAX_KIND
returns-then-kind-gt-MAX_KIND c = rw c.at.ensures (unknown_kind _ _ _ _ c.if-kind-gt-MAX_KIND.true)

pub returns-then-not-known_counts : goal.returns-then-not-known_counts
returns-then-not-known_counts c =
    rw c.at-then-not-known_counts.ensures (too_many_rows _ _ _ _ c.if-kind-gt-MAX_KIND.false (sym c.known_counts.ensures ∙ c.if-not-known_counts.true))

pub returns-then-src-gt-MAX_BYTES : goal.returns-then-src-gt-MAX_BYTES
returns-then-src-gt-MAX_BYTES c =
    rw c.at-then-src-gt-MAX_BYTES.ensures (too_long _ _ _ _ c.if-kind-gt-MAX_KIND.false (sym c.known_counts.ensures ∙ c.if-not-known_counts.false) c.if-src-gt-MAX_BYTES.true)

pub returns-in_err-end : goal.returns-in_err-end
unfolding ended
returns-in_err-end c =
    let e : c.from_residual.result ≡ Err c.in_err-end.field-0.0 = search rules in
    rw e (blob-stop _ _ _ _ c.if-kind-gt-MAX_KIND.false (sym c.known_counts.ensures ∙ c.if-not-known_counts.false) c.if-src-gt-MAX_BYTES.false _ _ c.root_at.ensures _ _ (ap ended c.in_err-end.was))

pub returns-then-end-src : goal.returns-then-end-src
unfolding ended
returns-then-end-src c =
    rw c.at-then-end-src.ensures
    (blob-over _ _ _ _ c.if-kind-gt-MAX_KIND.false (sym c.known_counts.ensures ∙ c.if-not-known_counts.false) c.if-src-gt-MAX_BYTES.false _ _ c.root_at.ensures _ _ (ap ended c.in_ok-end.was) c.if-end-src.true)

pub returns : goal.returns
unfolding ended
returns c =
    blob-done _ _ _ _ c.if-kind-gt-MAX_KIND.false (sym c.known_counts.ensures ∙ c.if-not-known_counts.false) c.if-src-gt-MAX_BYTES.false _ _ c.root_at.ensures _ _ (ap ended c.in_ok-end.was) c.if-end-src.false
