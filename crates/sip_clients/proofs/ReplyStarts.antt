-- A response starts at most one transaction under each id.
use Rattle.std.proofs.Common.{◌≡◌, ℕ, ◌+◌, ◌≤◌, Bool, true, false, cond, List, [], ◌++◌, refl, sym, ap, subst, ◌∙◌, arith}
use Rattle.std.specs.Prelude.{Option, None, Some}
use Rattle.std.specs.Map.{set_value}
use Rattle.sip_message.specs.declared.id.Id.{Id}
use Rattle.sip_message.specs.declared.message.Message.{Message}
use Rattle.sip_held_dialogs.specs.declared.held_dialog.HeldDialog.{HeldDialog}
use Rattle.sip_held_dialogs.specs.Dialogs.{dialog_at, Dialogs}
use Rattle.sip_held_dialogs.specs.Requests.{is_final}
use Rattle.sip_held_dialogs.specs.Ids.{is_id}
use Rattle.sip_held_dialogs.proofs.Starts.{starts}
use Rattle.sip_clients.specs.declared.client.RequestKind.{RequestKind}
use Rattle.sip_clients.specs.declared.client.RequestKind.TheVariants.{InitialInvite, ReInvite, InDialog, OutOfDialog}
use Rattle.sip_clients.specs.declared.client.Cancelling.{Cancelling}
use Rattle.sip_clients.specs.declared.client.Cancelling.TheVariants as cancel
use Rattle.sip_clients.specs.declared.client.Client.{Client}
use Rattle.sip_clients.specs.declared.event.Event.{Event}
use Rattle.sip_clients.specs.declared.reply.ReceivedResponse.{ReceivedResponse}
use Rattle.sip_clients.specs.declared.reply.ReplyCase.{ReplyCase}
use Rattle.sip_clients.specs.declared.reply.ReplyCase.TheVariants as reply
use Rattle.sip_clients.specs.Cancel.{cancel_freed, cancelling_after, freed_by, after_response, sent_beside}
use Rattle.sip_clients.specs.Client.{Side, ClientTaken, client_at}
use Rattle.sip_clients.specs.Clients.{found_taken, reply_name, reply_of, reply_settled, response_taken, settled, status_of}
use Rattle.sip_clients.specs.Dialogs.{dialog_for_provisional}
use Rattle.sip_clients.specs.Replied.{Replied, after_dialog, by_reply_case, ends_dialog, request_over, heard_again, prack_owed, replied_in, reply_taken}
use Rattle.sip_clients.specs.ReceivedResponse.{is_last, reply_case}
use Rattle.sip_clients.proofs.StartBounds.{waits_in, waits_for, waiting, how_many, ids_of, Fits, Within, fits, at_most_as, balanced, none_of, own_nothing, at_most_same, StartsFresh, settled_within, said_fresh, sent_within}
use Rattle.sip_clients.proofs.Tally.{tally_set, weight}
use Rattle.sip_clients.proofs.WithoutStarts.{AreQuiet, none_started, ended_quiet, case_quiet}

-- the kind and the CANCEL of a request don't change
abbrev pub IsKept : Client → Client → Type 0
IsKept before after = (after.kind ≡ before.kind) × (after.cancel ≡ before.cancel)

pub rest_kept : (case : ReplyCase) (client : Client) (found : Option HeldDialog)
    (answer : ReceivedResponse)
    → IsKept client (by_reply_case case client found answer).0
rest_kept reply.Repeated client found answer = (refl, refl)
rest_kept reply.Accepted client found answer = (refl, refl)
rest_kept reply.Late client found answer = (refl, refl)
rest_kept (reply.Reliable number) client found answer = by_asks client.kind
  where
    by_asks : (kind : RequestKind) → IsKept client (heard_again kind number client)
    by_asks InitialInvite = (refl, refl)
    by_asks (ReInvite own) = (refl, refl)
    by_asks (InDialog own) = (refl, refl)
    by_asks OutOfDialog = (refl, refl)
rest_kept reply.Passed client found answer = (refl, refl)
rest_kept reply.Early client found answer = (refl, refl)
rest_kept reply.Told client found answer = (refl, refl)

pub case_fresh : (case : ReplyCase) (client : Client) (found : Option HeldDialog)
    (answer : ReceivedResponse)
    → StartsFresh (by_reply_case case client found answer).3
unfolding prack_owed
case_fresh reply.Repeated client found answer = tt
case_fresh reply.Accepted client found answer = tt
case_fresh reply.Late client found answer = tt
case_fresh (reply.Reliable number) client found answer =
    said_fresh answer.event answer.call_id answer.name
    (prack_owed number client (dialog_for_provisional client answer found) answer).1
case_fresh reply.Passed client found answer = tt
case_fresh reply.Early client found answer = tt
case_fresh reply.Told client found answer = tt

-- the outputs of a response start nothing, the kind and the CANCEL of its request don't change, and
-- a request that starts is a new one
pub record Replies (client : Client) (done : Replied) : Type 0 where
  pub quiet : AreQuiet done.2
  pub kept : IsKept client done.0
  pub fresh : StartsFresh done.3

pub replies : (client : Client) (dialogs : Dialogs) (answer : ReceivedResponse)
    → Replies client (reply_taken client dialogs answer)
replies client dialogs answer = by_last (is_last client.kind answer.status)
  where
    found : Option HeldDialog
    found = dialog_at answer.name dialogs

    by_last : (last : Bool)
        → Replies client (cond {A = Replied} last (request_over client dialogs answer)
        (after_dialog answer.name dialogs (replied_in client found answer)))
    by_last true = record {
      quiet = (refl, ended_quiet client (ends_dialog answer.status) dialogs);
      kept = (refl, refl);
      fresh = tt;
    }
    by_last false = record {
      quiet = case_quiet (reply_case client found answer) client found answer;
      kept = rest_kept (reply_case client found answer) client found answer;
      fresh = case_fresh (reply_case client found answer) client found answer;
    }

-- a CANCEL that is freed no longer waits
freed_weight : (final : Bool) (state : Cancelling) (id : Id)
    → weight (is_id id) (freed_by final state)
    + weight (is_id id) (waits_in (cancelling_after final state))
    ≤ weight (is_id id) (waits_in state)
freed_weight final cancel.NotAsked id = omega arith
freed_weight true (cancel.Waits of) id = omega arith
freed_weight false (cancel.Waits of) id = omega arith
freed_weight final cancel.Sent id = omega arith

module _ (event : Event) (id : Id) (call_id : List ℕ) (response : Message) (side : Side) where
  abbrev Own : ClientTaken → Type 0
  Own taken = Fits (Some event.id) side.clients taken.1 (taken.0).clients

  reply_fits : (status : ℕ) (client : Client) → client_at id side.clients ≡ Some client
      → Own (reply_settled (reply_of event id call_id
      (reply_name client.kind client response) status response) client side)
  reply_fits status client is =
      let name = reply_name client.kind client response in
      let answer = reply_of event id call_id name status response in
      let final = is_final status in
      let done = reply_taken (after_response final client) side.dialogs answer in
      let so = replies (after_response final client) side.dialogs answer in
      let put = set_value (is_id id) side.clients done.0 in
      let after = settled event id done.3 put in
      let freed = freed_by final client.cancel in
      let last = sent_beside (cancel_freed final client) (after.0, done.2 ++ after.1) in
      let own : Id → ℕ = λ of. weight (is_id of) (Some event.id) + how_many of (waiting put) in
      let settles : Within own (starts (done.2 ++ after.1)) after.0 =
      subst (λ started. Within own started after.0) (sym (none_of done.2 after.1
      (none_started done.2 so.quiet)))
      (settled_within event id done.3 put so.fresh) in
      let sends = sent_within freed client own (after.0, done.2 ++ after.1) settles in
      fits (Some event.id) side.clients last.1 last.0 record {
        of_clients = sends.of_clients;
        few = λ of. at_most_as (how_many of (ids_of (starts last.1)) + how_many of (waiting last.0))
            (weight (is_id of) freed + own of)
            (weight (is_id of) (Some event.id) + how_many of (waiting side.clients)) (sends.few of)
            (balanced (weight (is_id of) freed) (weight (is_id of) (Some event.id))
            (how_many of (waiting put)) (how_many of (waiting side.clients))
            (weight (is_id of) (waits_in client.cancel))
            (weight (is_id of) (waits_in (cancelling_after final client.cancel)))
            (tally_set waits_for (is_id of) (is_id id) side.clients client done.0 is
            ∙ ap (λ state. how_many of (waiting side.clients)
            + weight (is_id of) (waits_in state)) so.kept.1)
            (freed_weight final client.cancel of));
      }

  found_fits : (status : Option ℕ) (o : Option Client) → client_at id side.clients ≡ o
      → Own (found_taken event id call_id response status o side)
  found_fits None o is =
      fits (Some event.id) side.clients [] side.clients
      (own_nothing (Some event.id) side.clients side.clients (at_most_same side.clients))
  found_fits (Some status) None is =
      fits (Some event.id) side.clients [] side.clients
      (own_nothing (Some event.id) side.clients side.clients (at_most_same side.clients))
  found_fits (Some status) (Some client) is = reply_fits status client is

  pub response_fits : Own (response_taken event id call_id response side)
  response_fits = found_fits (status_of response.start) (client_at id side.clients) refl
