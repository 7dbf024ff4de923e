-- `SpreadCut::shard`: each turn of the loop adds one more byte.
use Rattle.std.proofs.Common.{◌+◌, ◌%◌, take, sym, ◌∙◌, ap}
use Rattle.std.specs.Prelude.{sum}
use Rattle.std.proofs.Math.Nat.{mod-lt}
use Rattle.std.proofs.lemmas.List.Sums.{sum_by_more}
use Rattle.sip_message.proofs.Sums.{add_modulo}
use Rattle.sip_message.proofs.cut.SpreadCut.shard.Goals as goal

pub loop-byte-preserved : goal.loop-byte-preserved
loop-byte-preserved c =
    let xs = c.args.name.now in
    let i = c.loop-byte.byte-index in
    let n = c.args.shards in
    record {
      is =
          ap (λ s. (s + c.from.result) % n) c.loop-byte.invariant.is
          ∙ add_modulo (sum (take i xs)) c.from.result n
          ∙ ap (λ b. (sum (take i xs) + b) % n) c.from.ensures
          ∙ sym (ap (λ s. s % n) (sum_by_more (λ x. x) xs i 0 c.loop-byte-test.true));
      within = mod-lt (c.loop-byte.sum + c.from.result) c.requires.some;
    }
