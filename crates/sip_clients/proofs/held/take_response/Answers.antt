-- `take_response`: a response to a held request changes that request, its dialog and what is told.
use Rattle.std.proofs.Common.{◌≡◌, List, sym, ap, ◌∙◌, rules}
use Rattle.std.specs.Prelude.{Some}
use Rattle.std.specs.Map.{set_value}
use Rattle.sip_user.specs.declared.item.CallOut.{CallOut}
use Rattle.sip_held_dialogs.specs.Ids.{is_id}
use Rattle.sip_clients.specs.Client.{Clients, Side, ClientTaken, client_at}
use Rattle.sip_clients.specs.Clients.{found_taken, reply_ended, reply_name, reply_of, reply_settled, side_after, status_of}
use Rattle.sip_clients.proofs.Results.{if_ok}
use Rattle.sip_clients.proofs.held.take_response.Goals as goal

pub returns : goal.returns
returns c =
    let event = c.args.event in
    let id = c.args.id in
    let call_id = c.args.call_id in
    let response = c.args.response in
    let clients : Clients = c.args.clients.now.entries in
    let side : Side = record { dialogs = c.args.dialogs.now.entries; clients = clients } in
    let client = c.in-Some-get.client.now in
    let told = c.in_ok-replied.told in
    let dialogs = c.replied.new.dialogs.entries in
    let status : status_of response.start ≡ Some c.in-Some.status = search rules in
    let found : client_at id clients ≡ Some client = search rules in
    let named : c.in_ok-name.name ≡ reply_name client.kind client response = search rules in
    let held : client_at id c.take.result.entries ≡ Some client =
    ap (client_at id) c.take.ensures.requests ∙ found in
    let done = c.in_ok-replied.ensures.told client held in
    let cancel = c.in_ok-replied.ensures.cancel client held in
    let put : c.in_ok-replied.replied.entries ≡ set_value (is_id id) clients done.0 =
    done.1 ∙ ap (λ held. set_value (is_id id) held done.0) c.take.ensures.requests in
    if_ok c.settle_reply.result _ _ c.settle_reply.ensures (λ outs is.
    let after : ◌≡◌ {A = Clients × List CallOut} (c.settle_reply.new.clients.entries, outs.items)
    (reply_ended event id told.1 told.2 (set_value (is_id id) clients done.0) told.0.items) =
    is ∙ ap (λ put. reply_ended event id told.1 told.2 put told.0.items) put in
    let last : ◌≡◌ {A = ClientTaken}
    (record { dialogs = dialogs; clients = c.settle_reply.new.clients.entries }, outs.items)
    (side_after event id side told.2 (done.0, dialogs, told.0.items, told.1)) =
    λ i. (record { dialogs = dialogs; clients = (after i).0 }, (after i).1) in
    last ∙ (λ i. side_after event id side (cancel i) (done.2 i))
    ∙ (λ i. reply_settled
    (reply_of event id call_id (named i) c.in-Some.status response) client side)
    ∙ (λ i. found_taken event id call_id response (sym status i) (sym found i) side))
