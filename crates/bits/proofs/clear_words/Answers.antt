-- `bits::clear_words` meets its contract. Assumes nothing.
use Rattle.std.proofs.Common.{◌≡◌, ◌+◌, ◌-◌, ◌∙◌, sym, rules, arith}
use Rattle.std.proofs.Common.{replicate}
use Rattle.std.proofs.lemmas.List.{length-replicate}
use Rattle.std.proofs.lemmas.Slice.{put_mid-paste}
use Rattle.bits.proofs.BitLaws.{zeroed-paste}
use Rattle.bits.proofs.clear_words.Goals as goal

pub returns : goal.returns
returns c =
    let a = c.args in
    let e : c.fill.new.self ≡ replicate a.n 0 = search rules in
    put_mid-paste a.d (a.d + a.n - a.d) a.m.now _ (replicate a.n 0) a.n e (omega arith) (sym (length-replicate a.n 0)) ∙ sym (zeroed-paste a.m.now a.d a.n c.requires)
