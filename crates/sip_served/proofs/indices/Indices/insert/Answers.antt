-- `Indices::insert`: each index has the request of the number, too.
use Rattle.std.proofs.Common.{Some, refl, ap, ◌∙◌}
use Rattle.std.specs.Option.{option_and_then}
use Rattle.sip_message.specs.contracts.id.IdOrd.TheImpl as id_order
use Rattle.sip_served.specs.Steps.Indices.{keys_at}
use Rattle.sip_served.specs.Steps.Keys.{ack_of, branch_key, branch_of, id_of, merge_key, merge_of, prack_cmp, prack_of, text_cmp}
use Rattle.sip_served.proofs.Indexes.{on_ok_mapped, thing_moved}
use Rattle.sip_served.proofs.indices.Indices.insert.Goals as goal

pub returns : goal.returns
returns c =
    let held = c.args.held.now in
    let number = c.args.number in
    let merge = ap (λ k. Some k) (c.in_ok-merge_key.ensures ∙ ap merge_key c.get.ensures) in
    let branch = c.in_ok-branch_key.ensures ∙ ap branch_key c.get-2.ensures in
    on_ok_mapped _ _ c.insert-5.result
    (λ branches at before absent. record {
      ids = thing_moved id_order.ghosts.cmp id_of at number c.insert.new.self (Some held)
          (Some held.id) refl
          (c.in_ok-insert.ensures (keys_at id_of at) before.ids (ap (option_and_then id_of) absent));
      merges = thing_moved text_cmp merge_of at number c.insert-2.new.self (Some held)
          (Some c.in_ok-merge_key.field-0) merge
          (c.in_ok-insert-2.ensures (keys_at merge_of at) before.merges
          (ap (option_and_then merge_of) absent));
      acks = thing_moved text_cmp ack_of at number c.insert-3.new.self (Some held)
          c.in_ok-ack_of.field-0 c.in_ok-ack_of.ensures
          (c.in_ok-insert-3.ensures (keys_at ack_of at) before.acks
          (ap (option_and_then ack_of) absent));
      pracks = thing_moved prack_cmp prack_of at number c.insert-4.new.self (Some held)
          c.prack_of.result c.prack_of.ensures
          (c.in_ok-insert-4.ensures (keys_at prack_of at) before.pracks
          (ap (option_and_then prack_of) absent));
      branches = thing_moved text_cmp branch_of at number c.insert-5.new.self
          (Some held) c.in_ok-branch_key.field-0 branch
          (branches (keys_at branch_of at) before.branches (ap (option_and_then branch_of) absent));
    })
    c.insert-5.ensures
