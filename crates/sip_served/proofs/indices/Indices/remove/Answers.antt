-- `Indices::remove`: no index has the request of the number.
use Rattle.std.proofs.Common.{None, Some, refl, sym, ap, ◌∙◌}
use Rattle.std.specs.Option.{option_and_then}
use Rattle.sip_message.specs.contracts.id.IdOrd.TheImpl as id_order
use Rattle.sip_served.specs.Steps.Indices.{keys_at}
use Rattle.sip_served.specs.Steps.Keys.{ack_of, branch_key, branch_of, id_of, merge_key, merge_of, prack_cmp, prack_of, text_cmp}
use Rattle.sip_served.proofs.Indexes.{thing_moved}
use Rattle.sip_served.proofs.indices.Indices.remove.Goals as goal

pub returns : goal.returns
returns c =
    let held = c.args.held.now in
    let number = c.args.number in
    let merge = ap (λ k. Some k) (c.in_ok-merge_key.ensures ∙ ap merge_key c.get.ensures) in
    let branch = c.in_ok-branch_key.ensures ∙ ap branch_key c.get-2.ensures in
    λ at before there. record {
      ids = thing_moved id_order.ghosts.cmp id_of at number c.remove.new.self None None refl
          (c.remove.ensures (keys_at id_of at) before.ids (ap (option_and_then id_of) there));
      merges = thing_moved text_cmp merge_of at number c.remove-2.new.self None None
          refl
          (c.remove-2.ensures (keys_at merge_of at) before.merges
          (ap (option_and_then merge_of) there ∙ sym merge));
      acks = thing_moved text_cmp ack_of at number c.remove-3.new.self None None refl
          (c.remove-3.ensures (keys_at ack_of at) before.acks
          (ap (option_and_then ack_of) there ∙ sym c.in_ok-ack_of.ensures));
      pracks = thing_moved prack_cmp prack_of at number c.remove-4.new.self None None
          refl
          (c.remove-4.ensures (keys_at prack_of at) before.pracks
          (ap (option_and_then prack_of) there ∙ sym c.prack_of.ensures));
      branches = thing_moved text_cmp branch_of at number c.remove-5.new.self None
          None refl
          (c.remove-5.ensures (keys_at branch_of at) before.branches
          (ap (option_and_then branch_of) there ∙ sym branch));
    }
