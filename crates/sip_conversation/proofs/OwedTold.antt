-- What is owed in a dialog over all inputs of a call, a response in that dialog asked for, of which
-- the user was told.
use Rattle.std.proofs.Common.{◌≡◌, ⊎_elim, ℕ, Bool, true, false, not, ◌&&◌, List, [], ◌∷◌, ◌++◌, refl, sym, ap, ◌∙◌, append_assoc}
use Rattle.std.specs.Prelude.{Contains, Option, None, Some, filter, find, if◌then◌else◌}
use Rattle.std.specs.List.{list_any}
use Rattle.std.specs.Option.{option_map_or}
use Rattle.std.proofs.lemmas.List.Elements.{Contains-append_cases}
use Rattle.sip_message.specs.declared.id.Id.{Id}
use Rattle.sip_message.specs.declared.message.Message.{Message}
use Rattle.keyed_machine.specs.Machine.{Timed}
use Rattle.sip_transactions.specs.declared.output.UpKind.{UpKind}
use Rattle.sip_transactions.specs.declared.output.UpKind.TheVariants as kind
use Rattle.sip_transactions.specs.declared.output.Up.{Up as AnUp}
use Rattle.sip_transactions.proofs.RowFacts.{and-left, and-right}
use Rattle.sip_held_dialogs.specs.Dialogs.{dialog_at, is_dialog_id}
use Rattle.sip_user.specs.declared.command.DialogBody.{DialogBody}
use Rattle.sip_user.specs.declared.command.UserCommand.{UserCommand}
use Rattle.sip_user.specs.declared.command.UserCommand.TheVariants as user
use Rattle.sip_held_dialogs.specs.declared.held_dialog.DialogId.{DialogId}
use Rattle.sip_held_dialogs.specs.declared.held_dialog.HeldDialog.{HeldDialog}
use Rattle.sip_user.specs.declared.item.CallOut.{CallOut}
use Rattle.sip_user.specs.declared.item.Item.TheVariants.{Up, User}
use Rattle.sip_held_dialogs.specs.declared.pending_request.PendingRequest.{PendingRequest}
use Rattle.sip_held_dialogs.specs.declared.pending_request.PendingRequest.TheVariants.{Ack, Prack}
use Rattle.sip_clients.specs.Client.{Clients, client_at}
use Rattle.sip_clients.specs.Clients.{reply_name, status_of}
use Rattle.sip_clients.specs.Owing.{asked_for, command_pays, debt_kind, goes_out, oldest_paid, owed_if_told, reply_owes, response_owes}
use Rattle.sip_clients.specs.Commands.{name_in}
use Rattle.sip_clients.specs.Pending.{is_of, is_same_pending}
use Rattle.sip_clients.specs.Provisionals.{is_response}
use Rattle.sip_clients.specs.ReceivedResponse.{has_dialog}
use Rattle.sip_clients.specs.declared.client.Client.{Client}
use Rattle.sip_calls.specs.Call.{CallItem, call_step}
use Rattle.sip_calls.specs.Histories.{call_from, is_born_of}
use Rattle.sip_calls.specs.Owing.{owed_by_command, owed_by_kind, owed_from, owed_in, owed_next}
use Rattle.sip_calls.specs.Provisionals.{event_in, side_held}
use Rattle.sip_calls.specs.Sides.{side_of}
use Rattle.sip_calls.specs.declared.call.Call.{Call}
use Rattle.sip_calls.specs.declared.calls.Calls.{Calls}
use Rattle.sip_conversation.proofs.Among.{first_or_later, kept_among, none_among}
use Rattle.sip_conversation.proofs.PracksOfCalls.{from_more}

-- an ACK or a PRACK
abbrev Domain : {A B : Type 0} → (A → B) → Type 0
Domain {A} f = A

abbrev Owed : Type 0
Owed = Domain command_pays

-- ---- what one response asks for

-- the response to the request of this id, an INVITE of the dialog of this name, asks for this, and
-- the user is told of a response
pub record AsksFor (pending : PendingRequest) (id : Id) (response : Message) (clients : Clients)
    (name : DialogId) (found : Option HeldDialog) (outs : List CallOut) : Type 0 where
  pub client : Client
  pub held : client_at id clients ≡ Some client
  pub status : ℕ
  pub status_is : status_of response.start ≡ Some status
  pub named : is_dialog_id (reply_name client.kind client response) name ≡ true
  pub has : has_dialog client.kind found ≡ true
  pub asks : asked_for status client response ≡ Some pending
  pub told : list_any is_response outs ≡ true

module _ (pending : PendingRequest) (id : Id) (response : Message) (clients : Clients)
    (name : DialogId) (found : Option HeldDialog) (outs : List CallOut) where
  abbrev Asks : Type 0
  Asks = AsksFor pending id response clients name found outs

  by_told : (told other : Bool) (asked : PendingRequest)
      → Contains (if told && other then asked ∷ [] else []) pending
      → (told ≡ true) × (asked ≡ pending)
  by_told true true asked among = (
    refl,
    ⊎_elim (λ same. same) (λ none. absurd (none_among pending none))
        (first_or_later asked [] pending among),
  )
  by_told true false asked among = absurd (none_among pending among)
  by_told false other asked among = absurd (none_among pending among)

  by_client : (o : Option Client) → client_at id clients ≡ o → (s : Option ℕ)
      → status_of response.start ≡ s
      → Contains (option_map_or (λ client. option_map_or
      (λ status. reply_owes status client response name found outs) s []) o []) pending → Asks
  by_client None held s is among = absurd (none_among pending among)
  by_client (Some client) held None is among = absurd (none_among pending among)
  by_client (Some client) held (Some status) is among =
      by_name _ refl (asked_for status client response) refl among
    where
      by_name : (b : Bool)
          → (is_dialog_id (reply_name client.kind client response) name
          && has_dialog client.kind found) ≡ b
          → (o : Option PendingRequest) → asked_for status client response ≡ o
          → Contains (if b then option_map_or (owed_if_told name outs) o [] else []) pending
          → Asks
      by_name false at o asks among = absurd (none_among pending among)
      by_name true at None asks among = absurd (none_among pending among)
      by_name true at (Some asked) asks among =
          let so = by_told (list_any is_response outs) _ asked among in record {
            client = client;
            held = held;
            status = status;
            status_is = is;
            named = and-left (is_dialog_id (reply_name client.kind client response) name)
                (has_dialog client.kind found) at;
            has = and-right (is_dialog_id (reply_name client.kind client response) name)
                (has_dialog client.kind found) at;
            asks = asks ∙ ap (λ p. Some p) so.1;
            told = so.0;
          }

  pub owes_so : Contains (response_owes id response clients name found outs) pending → Asks
  owes_so among =
      by_client (client_at id clients) refl (status_of response.start) refl among

-- ---- all inputs

-- at one of these inputs a response asks for it in the dialog of this name
pub record WasAskedFor (calls : Calls) (inputs : List (Timed CallItem)) (name : DialogId)
    (pending : PendingRequest) : Type 0 where
  pub before : List (Timed CallItem)
  pub timed : Timed CallItem
  pub after : List (Timed CallItem)
  pub are : inputs ≡ before ++ timed ∷ after
  pub call : Call
  pub held : call_from calls None before ≡ Some call
  pub event : Id
  pub up : AnUp
  pub response : Message
  pub comes : timed.input ≡ Some (event, Up up)
  pub kind_is : up.kind ≡ kind.Response response
  pub asks : AsksFor pending up.id response call.clients name
      (dialog_at name (side_of call).dialogs)
      (call_step calls (Some call) timed.input timed.moment).1

less_owed : (pending : PendingRequest) (b : Bool) (sent_pending owed : List PendingRequest)
    → (Contains sent_pending pending → Contains owed pending)
    → Contains (if b then sent_pending else owed) pending → Contains owed pending
less_owed pending true sent_pending owed fewer among = fewer among
less_owed pending false sent_pending owed fewer among = among

module _ (pending : PendingRequest) (name : DialogId) where
  oldest_fewer : (o : Option PendingRequest) (test : PendingRequest → PendingRequest → Bool)
      (owed : List PendingRequest)
      → Contains (option_map_or (λ one. filter (test one) owed) o owed) pending
      → Contains owed pending
  oldest_fewer None test owed among = among
  oldest_fewer (Some one) test owed among = (kept_among (test one) owed pending among).0

  pays_less : (k : Owed) (command : DialogBody) (outs : List CallOut)
      (owed : List PendingRequest) → Contains (command_pays k command name outs owed) pending
      → Contains owed pending
  pays_less k command outs owed among =
      less_owed pending (is_dialog_id (name_in command.local_tag command.remote_tag) name
      && goes_out k name outs) (oldest_paid k owed) owed
      (oldest_fewer (find (is_of k) owed) (λ one other. not (is_same_pending one other)) owed)
      among

  command_owes : (command : UserCommand) (outs : List CallOut) (owed : List PendingRequest)
      → Contains (owed_by_command command name outs owed) pending → Contains owed pending
  command_owes (user.Ack command) outs owed among =
      pays_less (debt_kind (Ack record { round = 0; place = 0 } 0)) command outs owed among
  command_owes (user.Prack command) outs owed among =
      pays_less (debt_kind (Prack 0 0)) command outs owed among
  command_owes (user.Invite command) outs owed among = among
  command_owes (user.Plain command) outs owed among = among
  command_owes (user.Request command) outs owed among = among
  command_owes (user.Respond command) outs owed among = among
  command_owes (user.Cancel command) outs owed among = among
  command_owes (user.AbandonRequest command) outs owed among = among
  command_owes (user.AbandonDialog command) outs owed among = among

  none_owed : (b : Bool) (owed : List PendingRequest) → Contains (if b then [] else owed) pending
      → Contains owed pending
  none_owed true owed among = absurd (none_among pending among)
  none_owed false owed among = among

  module _ (calls : Calls) (all : List (Timed CallItem)) where
    abbrev Was : Type 0
    Was = WasAskedFor calls all name pending

    by_kind : (before after : List (Timed CallItem)) (now : ℕ) (event : Id) (up : AnUp)
        (call : Call) (k : UpKind) → up.kind ≡ k
        → all ≡ before ++ record { moment = now; input = Some (event, Up up) } ∷ after
        → call_from calls None before ≡ Some call → (owed : List PendingRequest)
        → (Contains owed pending → Was)
        → Contains (owed_by_kind call up.id k name
        (call_step calls (Some call) (Some (event, Up up)) now).1 owed) pending → Was
    by_kind before after now event up call (kind.Response response) is are held owed was among =
        let outs = (call_step calls (Some call) (Some (event, Up up)) now).1 in
        ⊎_elim was (λ new. record {
          before = before;
          timed = record { moment = now; input = Some (event, Up up) };
          after = after;
          are = are;
          call = call;
          held = held;
          event = event;
          up = up;
          response = response;
          comes = refl;
          kind_is = is;
          asks = owes_so pending up.id response call.clients name
              (dialog_at name (side_of call).dialogs) outs new;
        })
        (Contains-append_cases owed (response_owes up.id response call.clients name
        (dialog_at name (side_of call).dialogs) outs) pending among)
    by_kind before after now event up call (kind.Request request reply_to) is are held owed was
        among = was among
    by_kind before after now event up call (kind.Ack ack) is are held owed was among = was among
    by_kind before after now event up call kind.Timeout is are held owed was among = was among
    by_kind before after now event up call kind.Failed is are held owed was among = was among

    by_input : (before after : List (Timed CallItem)) (now : ℕ) (input : Option CallItem)
        (state : Option Call)
        → all ≡ before ++ record { moment = now; input = input } ∷ after
        → call_from calls None before ≡ state → (owed : List PendingRequest)
        → (Contains owed pending → Was)
        → Contains (owed_in state input name (call_step calls state input now).1 owed) pending
        → Was
    by_input before after now None None are held owed was among = was among
    by_input before after now None (Some call) are held owed was among = was among
    by_input before after now (Some (event, item)) None are held owed was among = was among
    by_input before after now (Some (event, Up up)) (Some call) are held owed was among =
        by_kind before after now event up call up.kind refl are held owed was among
    by_input before after now (Some (event, User command)) (Some call) are held owed was among =
        was (command_owes command
        (call_step calls (Some call) (Some (event, User command)) now).1 owed among)

    from_was : (before after : List (Timed CallItem)) → all ≡ before ++ after
        → (state : Option Call) → call_from calls None before ≡ state
        → (owed : List PendingRequest) → (Contains owed pending → Was)
        → Contains (owed_from calls name state owed after) pending → Was
    from_was before [] are state held owed was among = was among
    from_was before (timed ∷ after) are state held owed was among =
        let step = call_step calls state timed.input timed.moment in
        from_was (before ++ timed ∷ []) after (are ∙ sym (append_assoc before (timed ∷ []) after))
        step.0
        (from_more calls None before timed
        ∙ ap (λ s. (call_step calls s timed.input timed.moment).0) held)
        (owed_next calls name state owed timed)
        (by_input before after timed.moment timed.input state are held
        (if is_born_of name (event_in timed.input) (side_held step.0).dialogs then [] else owed)
        (λ has. was (none_owed _ owed has)))
        among

-- what is owed was asked for
pub owed_was_asked : (calls : Calls) (name : DialogId) (inputs : List (Timed CallItem))
    (pending : PendingRequest) → Contains (owed_from calls name None [] inputs) pending
    → WasAskedFor calls inputs name pending
owed_was_asked calls name inputs pending among =
    from_was pending name calls inputs [] inputs refl None refl []
    (λ none. absurd (none_among pending none)) among
