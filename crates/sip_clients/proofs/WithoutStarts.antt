-- What the client side does without starting a transaction or telling of a request.
use Rattle.std.proofs.Common.{◌≡◌, ℕ, ◌+◌, ◌≤◌, Bool, true, false, not, cond, List, [], ◌∷◌, ◌++◌, map, refl, sym, subst, ◌∙◌}
use Rattle.std.specs.Prelude.{Option, None, Some, codes, filter, if◌then◌else◌}
use Rattle.std.specs.List.{AllByRecursion, cons_option}
use Rattle.std.specs.Map.{values_of}
use Rattle.std.specs.Option.{option_map_or}
use Rattle.std.specs.Str.{bytes_eq}
use Rattle.sip_message.specs.declared.id.Id.{Id}
use Rattle.sip_held_dialogs.specs.declared.held_dialog.DialogId.{DialogId}
use Rattle.sip_held_dialogs.specs.declared.held_dialog.HeldDialog.{HeldDialog}
use Rattle.sip_user.specs.declared.item.CallOut.{CallOut}
use Rattle.sip_user.specs.declared.item.CallOut.TheVariants as out
use Rattle.sip_held_dialogs.specs.Dialogs.{dialog_at, early_ended, ended_at, ended_notice, is_early_of, lives, Dialogs}
use Rattle.sip_held_dialogs.specs.Ids.{is_id}
use Rattle.sip_user.specs.Notices.{request_told_by}
use Rattle.sip_held_dialogs.proofs.Each.{all_of_each, both}
use Rattle.sip_held_dialogs.proofs.Starts.{starts}
use Rattle.sip_held_dialogs.proofs.ToldRequests.{reported}
use Rattle.sip_clients.specs.declared.answers.SentAck.{SentAck}
use Rattle.sip_clients.specs.declared.client.RequestKind.{RequestKind}
use Rattle.sip_clients.specs.declared.client.RequestKind.TheVariants.{InitialInvite, ReInvite, InDialog, OutOfDialog}
use Rattle.sip_clients.specs.declared.client.Client.{Client}
use Rattle.sip_clients.specs.declared.pending.PendingKind.TheVariants as kind
use Rattle.sip_clients.specs.declared.event.Event.{Event}
use Rattle.sip_clients.specs.declared.reply.ReceivedResponse.{ReceivedResponse}
use Rattle.sip_clients.specs.declared.reply.ReplyCase.{ReplyCase}
use Rattle.sip_clients.specs.declared.reply.ReplyCase.TheVariants as reply
use Rattle.sip_clients.specs.declared.send_outcome.SendOutcome.{SendOutcome}
use Rattle.sip_clients.specs.declared.send_outcome.SendOutcome.TheVariants.{Sent, Waits, Refused}
use Rattle.sip_clients.specs.Answers.{ack_of}
use Rattle.sip_clients.specs.Client.{Clients, Side, without_client}
use Rattle.sip_clients.specs.Clients.{lost_of, ack_by_user, ack_paid}
use Rattle.sip_clients.specs.Commands.{bye_ended, pending_for, name_in}
use Rattle.sip_clients.specs.Dialogs.{accepted, ended_with, dialog_for_provisional, own_ended, paid_at}
use Rattle.sip_clients.specs.Outputs.{ack_said, direct, request_said}
use Rattle.sip_clients.specs.Replied.{ack_owed, by_reply_case, prack_owed}
use Rattle.sip_clients.specs.Tick.{clients_left, is_over, early_ends_told, over_notices}
use Rattle.sip_clients.proofs.StartBounds.{waits_for, waiting, AllClients, how_many, ids_of, Fits, Within, fits, none_of, own_nothing, at_most_same}
use Rattle.sip_clients.proofs.Tally.{tally_filtered, tally_removed, weight}
use Rattle.sip_clients.proofs.Served.{paid_either}
use Rattle.sip_user.specs.declared.command.DialogBody.{DialogBody}

-- ---- notices of no request, and ACKs

abbrev pub IsQuiet : CallOut → Type 0
IsQuiet (out.Notice notice) = request_told_by (out.Notice notice) ≡ None
IsQuiet (out.Command id command) = ⊥
IsQuiet (out.Direct to bytes) = Unit {0}

abbrev pub AreQuiet : List CallOut → Type 0
AreQuiet outs = AllByRecursion IsQuiet outs

pub none_started : (outs : List CallOut) → AreQuiet outs → starts outs ≡ []
none_started [] quiet = refl
none_started (out.Notice notice ∷ outs) quiet = none_started outs quiet.1
none_started (out.Command id command ∷ outs) quiet = absurd quiet.0
none_started (out.Direct to bytes ∷ outs) quiet = none_started outs quiet.1

pub none_shown : (outs : List CallOut) → AreQuiet outs → reported outs ≡ []
none_shown [] quiet = refl
none_shown (out.Notice notice ∷ outs) quiet =
    (λ i. cons_option (quiet.0 i) (reported outs)) ∙ none_shown outs quiet.1
none_shown (out.Command id command ∷ outs) quiet = absurd quiet.0
none_shown (out.Direct to bytes ∷ outs) quiet = none_shown outs quiet.1

-- ---- what is told of a request

pub request_said_quiet : (event : Event) (call_id : List ℕ) (name : DialogId)
    (outcome : SendOutcome)
    → AreQuiet (request_said event call_id name outcome).0
request_said_quiet event call_id name (Sent sending) = tt
request_said_quiet event call_id name Waits = tt
request_said_quiet event call_id name (Refused refusal) = (refl, tt)

pub ack_said_quiet : (event : Event) (call_id : List ℕ) (outcome : SendOutcome)
    → AreQuiet (ack_said event call_id outcome).0
ack_said_quiet event call_id (Sent sending) = (tt, tt)
ack_said_quiet event call_id Waits = tt
ack_said_quiet event call_id (Refused refusal) = (refl, tt)

pub ack_quiet : (event : Event) (command : DialogBody) (side : Side)
    → AreQuiet (ack_by_user event command side).1
ack_quiet event command side =
    let name = name_in command.local_tag command.remote_tag in
    paid_either (λ taken. AreQuiet taken.1) event command (ack_paid event command name) side
    (pending_for kind.Ack name side.dialogs) (λ refusal. (refl, tt))
    (λ pending. ack_said_quiet event command.call_id
    (paid_at name event pending command.content side.dialogs).1)

at_or_quiet : (b : Bool) (name : DialogId) (dialogs : Dialogs)
    → AreQuiet (cond {A = Dialogs × List CallOut} b (ended_at name dialogs) (dialogs, [])).1
at_or_quiet false name dialogs = tt
at_or_quiet true name dialogs = by_dialog (dialog_at name dialogs)
  where
    by_dialog : (o : Option HeldDialog)
        → AreQuiet (option_map_or (λ held. ended_notice held ∷ []) o [])
    by_dialog None = tt
    by_dialog (Some held) = (refl, tt)

early_quiet : (invite : Id) (dialogs : Dialogs) → AreQuiet (early_ended invite dialogs).1
early_quiet invite dialogs = each (filter (is_early_of invite) (values_of dialogs))
  where
    each : (dialogs : List HeldDialog) → AreQuiet (map ended_notice dialogs)
    each [] = tt
    each (held ∷ dialogs) = (refl, each dialogs)

pub bye_quiet : (name : DialogId) (method : List ℕ) (outcome : SendOutcome) (dialogs : Dialogs)
    → AreQuiet (bye_ended name method outcome dialogs).1
bye_quiet name method (Sent sending) dialogs =
    at_or_quiet (bytes_eq method (codes "BYE")) name dialogs
bye_quiet name method Waits dialogs = tt
bye_quiet name method (Refused refusal) dialogs = tt

own_quiet : (kind : RequestKind) (ends : Bool) (dialogs : Dialogs)
    → AreQuiet (own_ended kind ends dialogs).1
own_quiet InitialInvite ends dialogs = tt
own_quiet (ReInvite life) true dialogs = at_or_quiet (lives dialogs life) life.name dialogs
own_quiet (ReInvite life) false dialogs = tt
own_quiet (InDialog life) true dialogs = at_or_quiet (lives dialogs life) life.name dialogs
own_quiet (InDialog life) false dialogs = tt
own_quiet OutOfDialog ends dialogs = tt

pub ended_quiet : (client : Client) (ends : Bool) (dialogs : Dialogs)
    → AreQuiet (ended_with client ends dialogs).1
ended_quiet client ends dialogs =
    let early = early_ended client.id dialogs in
    both IsQuiet early.1 (own_ended client.kind ends early.0).1 (early_quiet client.id dialogs)
    (own_quiet client.kind ends early.0)

again_quiet : (o : Option SentAck) → AreQuiet (option_map_or (λ ack. direct ack ∷ []) o [])
again_quiet None = tt
again_quiet (Some ack) = (tt, tt)

pub case_quiet : (case : ReplyCase) (client : Client) (found : Option HeldDialog)
    (answer : ReceivedResponse)
    → AreQuiet (by_reply_case case client found answer).2
unfolding ack_owed prack_owed
case_quiet reply.Repeated client found answer = again_quiet (ack_of answer.name client.answers)
case_quiet reply.Accepted client found answer = (
  refl,
  ack_said_quiet answer.event answer.call_id
      (ack_owed client (accepted client answer found) answer).1,
)
case_quiet reply.Late client found answer = (refl, tt)
case_quiet (reply.Reliable number) client found answer = (
  refl,
  request_said_quiet answer.event answer.call_id answer.name
      (prack_owed number client (dialog_for_provisional client answer found) answer).1,
)
case_quiet reply.Passed client found answer = tt
case_quiet reply.Early client found answer = (refl, tt)
case_quiet reply.Told client found answer = (refl, tt)

-- ---- a request that is lost, and a tick

pub lost_quiet : (id : Id) (timed_out : Bool) (o : Option Client) (side : Side)
    → AreQuiet (lost_of id timed_out o side).1
lost_quiet id timed_out None side = tt
lost_quiet id timed_out (Some client) side = ended_quiet client timed_out side.dialogs

pub tick_quiet : (now : ℕ) (dialogs : Dialogs) (clients : Clients)
    → AreQuiet (over_notices now dialogs clients)
tick_quiet now dialogs clients =
    all_of_each IsQuiet (early_ends_told now dialogs)
    (λ client. over (is_over now client) client) (values_of clients)
  where
    over : (b : Bool) (client : Client)
        → AreQuiet (if b then (early_ended client.id dialogs).1 else [])
    over true client = early_quiet client.id dialogs
    over false client = tt

pub tick_none : (now : ℕ) (dialogs : Dialogs) (clients : Clients)
    → starts (over_notices now dialogs clients) ≡ []
tick_none now dialogs clients =
    none_started (over_notices now dialogs clients) (tick_quiet now dialogs clients)

pub silent_fits : (own : Option Id) (before : Clients) (outs : List CallOut) (after : Clients)
    → starts outs ≡ []
    → ((id : Id) → how_many id (waiting after) ≤ how_many id (waiting before))
    → Fits own before outs after
silent_fits own before outs after none fewer =
    fits own before outs after
    (subst (λ started. Within (λ id. weight (is_id id) own + how_many id (waiting before)) started
    after) (sym none) (own_nothing own before after fewer))

-- if nothing is started and no request changes
pub stays_quiet : (own : Option Id) (clients : Clients) (outs : List CallOut) → starts outs ≡ []
    → Fits own clients outs clients
stays_quiet own clients outs none =
    silent_fits own clients outs clients none (at_most_same clients)

-- outputs that start nothing may come first
pub quiet_then : (own : Option Id) (before : Clients) (xs ys : List CallOut) (after : Clients)
    → starts xs ≡ [] → Fits own before ys after → Fits own before (xs ++ ys) after
quiet_then own before xs ys after none step = record {
  of_clients = subst AllClients (sym (none_of xs ys none)) step.of_clients;
  few = λ id. subst (λ started. how_many id (ids_of started) + how_many id (waiting after)
      ≤ weight (is_id id) own + how_many id (waiting before))
      (sym (none_of xs ys none)) (step.few id);
}

pub lost_fits : (id : Id) (timed_out : Bool) (o : Option Client) (side : Side)
    → Fits None side.clients (lost_of id timed_out o side).1
    ((lost_of id timed_out o side).0).clients
lost_fits id timed_out None side =
    silent_fits None side.clients [] (without_client id side.clients) refl
    (λ of. tally_removed waits_for (is_id of) (is_id id) side.clients)
lost_fits id timed_out (Some client) side =
    silent_fits None side.clients (lost_of id timed_out (Some client) side).1
    (without_client id side.clients)
    (none_started (lost_of id timed_out (Some client) side).1
    (lost_quiet id timed_out (Some client) side))
    (λ of. tally_removed waits_for (is_id of) (is_id id) side.clients)

pub tick_fits : (now : ℕ) (dialogs : Dialogs) (clients : Clients)
    → Fits None clients (over_notices now dialogs clients) (clients_left now clients)
tick_fits now dialogs clients =
    silent_fits None clients (over_notices now dialogs clients) (clients_left now clients)
    (tick_none now dialogs clients)
    (λ of. tally_filtered waits_for (is_id of) (λ entry. not (is_over now entry.1)) clients)
