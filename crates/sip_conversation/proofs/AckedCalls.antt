-- Each ACK that a call sends as a text is in the dialog of a 2xx, of which the user is told at one
-- of the call's inputs, and has a branch that an event of the call made.
use Rattle.std.proofs.Common.{◌≡◌, ℕ, Bool, true, false, List, [], ◌∷◌, ◌++◌, refl, sym, ap, ◌∙◌, subst}
use Rattle.std.specs.Prelude.{Contains, IfSome, Option, None, Some, codes, unwrap_or, if◌then◌else◌}
use Rattle.std.specs.List.{AllByRecursion, list_any}
use Rattle.std.specs.Map.{lookup}
use Rattle.std.specs.Option.{option_map, option_map_or}
use Rattle.sip_message.specs.Content.{Content, with_content_of}
use Rattle.sip_message.specs.Addr.{IsAddr}
use Rattle.sip_message.specs.Message.{is_request_message}
use Rattle.sip_message.specs.Party.{tag_of}
use Rattle.sip_message.specs.TopVia.{top_branch}
use Rattle.sip_message.specs.declared.id.Id.{Id}
use Rattle.sip_message.specs.declared.message.Message.{Message}
use Rattle.keyed_machine.specs.Machine.{Timed, outputs_from}
use Rattle.sip_dialog.specs.Dialog.{is_ended}
use Rattle.sip_dialog.specs.Opening.{contact_uri}
use Rattle.sip_dialog.specs.Request.{request_in}
use Rattle.sip_dialog.specs.Step.{confirmed_at, confirmed_by}
use Rattle.sip_dialog.specs.declared.dialog.Dialog.{Dialog}
use Rattle.sip_dialog.specs.declared.dialog.Side.{Side as End}
use Rattle.sip_dialog.specs.declared.dialog.Side.TheVariants.{Callee, Caller}
use Rattle.sip_transactions.specs.declared.output.UpKind.{UpKind}
use Rattle.sip_transactions.specs.declared.output.UpKind.TheVariants as kind
use Rattle.sip_transactions.specs.declared.output.Up.{Up as AnUp}
use Rattle.sip_held_dialogs.specs.Dialogs.{dialog_at, is_dialog_id}
use Rattle.sip_held_dialogs.specs.Ids.{is_id}
use Rattle.sip_held_dialogs.specs.OwnDialogs.{IsDialogOf}
use Rattle.sip_held_dialogs.specs.Requests.{dialog_id_of_tags, is_success}
use Rattle.sip_held_dialogs.specs.Sent.{name_of_dialog}
use Rattle.sip_held_dialogs.specs.declared.held_dialog.DialogId.{DialogId}
use Rattle.sip_held_dialogs.specs.declared.held_dialog.HeldDialog.{HeldDialog}
use Rattle.sip_user.specs.declared.item.Item.TheVariants.{Up, User}
use Rattle.sip_held_dialogs.specs.declared.pending_request.PendingRequest.TheVariants.{Ack, Prack}
use Rattle.sip_held_dialogs.proofs.Each.{found_one}
use Rattle.sip_clients.specs.Event.{branch_of}
use Rattle.sip_clients.specs.Clients.{reply_name}
use Rattle.sip_clients.specs.OwnCall.{IsRequestOf}
use Rattle.sip_clients.specs.Owing.{asked_for}
use Rattle.sip_clients.specs.Provisionals.{is_response, provisional_number}
use Rattle.sip_clients.specs.ReceivedResponse.{has_dialog as has_dialog_of}
use Rattle.sip_clients.specs.Rules.Responses.{dialog_made_by, is_initial, success_in}
use Rattle.sip_clients.specs.declared.client.Client.{Client}
use Rattle.sip_calls.specs.Call.{CallItem, call_machine, call_step, event_of, received}
use Rattle.sip_calls.specs.Histories.{call_from}
use Rattle.sip_calls.specs.OwnCall.{AreSidesOf, IsCallOf, IsInputOf}
use Rattle.sip_calls.specs.Provisionals.{EventsDiffer, event_in, event_of_kind, side_held}
use Rattle.sip_calls.specs.Sides.{side_of}
use Rattle.sip_calls.specs.declared.call.Call.{Call}
use Rattle.sip_calls.specs.declared.calls.Calls.{Calls}
use Rattle.sip_calls.proofs.Owing.{owes_as_told}
use Rattle.sip_calls.proofs.OwnCall.{each_notice_is_own}
use Rattle.sip_conversation.proofs.Branches.{HasBranch, agent_branch, either, made_branch}
use Rattle.sip_conversation.proofs.CallBranches.{AnyCancel}
use Rattle.sip_conversation.proofs.DialogOfReply.{Reply, dialog_named, has_so, name_so}
use Rattle.sip_conversation.proofs.HeardReplies.{WasHeard}
use Rattle.sip_conversation.proofs.KeepsRules.{KeepsInput, KeepsRulesWith}
use Rattle.sip_conversation.proofs.OwedTold.{owed_was_asked}
use Rattle.sip_conversation.proofs.PracksServed.{same_name}
use Rattle.sip_conversation.proofs.RackedCalls.{asked_heard, front_differ, named_so}
use Rattle.sip_conversation.proofs.RackedSteps.{request_named}
use Rattle.sip_conversation.proofs.Rounds.{all_of_parts}
use Rattle.sip_conversation.proofs.SoundCalls.{AllPay, InputPays, KindPays, call_keeps}
use Rattle.sip_conversation.proofs.SoundClients.{PaysIn}
use Rattle.sip_conversation.proofs.SoundReplies.{reply_for, success_dialog}

-- ---- a 2xx

-- it is one
abbrev pub Is2xx : ℕ → Message → Type 0
Is2xx status response = is_success status ≡ true

ack_asked : (status : ℕ) (client : Client) (response : Message) (invite : Id) (number : ℕ)
    → asked_for status client response ≡ Some (Ack invite number)
    → Is2xx status response × (client.request.cseq.number ≡ number)
ack_asked status client response invite number asks =
    by_success (is_success status) (provisional_number (Some status) response) refl asks
  where
    by_success : (b : Bool) (o : Option ℕ) → is_success status ≡ b
        → (if b then Some (Ack client.id client.request.cseq.number)
        else option_map (λ r. Prack r client.request.cseq.number) o) ≡ Some (Ack invite number)
        → Is2xx status response × (client.request.cseq.number ≡ number)
    by_success true o is asks = let same : client.request.cseq.number ≡ number = cc in (is, same)
    by_success false None is asks = absurd cc
    by_success false (Some r) is asks = absurd cc

-- ---- the dialog of a 2xx

-- it has the tags and the Call-ID of the other dialog
record IsAlike (one other : Dialog) : Type 0 where
  pub name : name_of_dialog one ≡ name_of_dialog other
  pub call_id : one.call_id ≡ other.call_id

confirmed_alike : (side : End) (dialog : Dialog) (response : Message)
    → IsAlike (confirmed_at side dialog response) dialog
confirmed_alike Callee dialog response = record { name = refl; call_id = refl }
confirmed_alike Caller dialog response = record { name = refl; call_id = refl }

success_alike : (initial : Bool) (response : Message) (held : HeldDialog)
    → IsAlike (success_in initial response held).dialog held.dialog
success_alike initial response held =
    let Alike : HeldDialog → Type 0 = λ after. IsAlike after.dialog held.dialog in
    let target = unwrap_or (contact_uri response) held.dialog.target in
    let confirmed : HeldDialog = record held { dialog = confirmed_by held.dialog response } in
    let refreshed : HeldDialog =
    record held { dialog = record held.dialog { target = target } } in
    either Alike (is_ended held.dialog.state) held (if initial then confirmed else refreshed)
    (λ ended. record { name = refl; call_id = refl })
    (λ lives. either Alike initial confirmed refreshed
    (λ first. confirmed_alike held.dialog.side held.dialog response)
    (λ again. record { name = refl; call_id = refl }))

-- it is that of the name, and of this Call-ID
record IsOf (name : DialogId) (call_id : List ℕ) (dialog : Dialog) : Type 0 where
  pub named : name ≡ name_of_dialog dialog
  pub call_id_is : dialog.call_id ≡ call_id

success_of : (initial : Bool) (response : Message) (name : DialogId) (call_id : List ℕ)
    (o : Option HeldDialog) (made : HeldDialog) → IsOf name call_id (unwrap_or o made).dialog
    → IsOf name call_id (option_map_or (success_in initial response) o made).dialog
success_of initial response name call_id None made its = its
success_of initial response name call_id (Some held) made its =
    let alike = success_alike initial response held in
    record {
      named = its.named ∙ sym alike.name;
      call_id_is = alike.call_id ∙ its.call_id_is;
    }

-- ---- what is held after inputs

pub held_of : (calls : Calls) (call_id : List ℕ) (state : Option Call)
    (inputs : List (Timed CallItem))
    → AllByRecursion (λ timed. IsInputOf call_id timed.input) inputs → IsCallOf call_id state
    → IsCallOf call_id (call_from calls state inputs)
held_of calls call_id state [] its of = of
held_of calls call_id state (timed ∷ inputs) its of =
    held_of calls call_id (call_step calls state timed.input timed.moment).0 inputs its.1
    (each_notice_is_own calls call_id state timed.input timed.moment of its.0).0

-- ---- the ACKs of a call

module _ (calls : Calls) (call_id : List ℕ) (all : List (Timed CallItem)) (Came : Id → Type 0)
  where
    -- an ACK of this Call-ID, with the branch of an event; at one of the call's inputs the user is
    -- told of a 2xx in its dialog, to an INVITE with its number
    pub record IsAckOf (ack : Message) : Type 0 where
      pub is_request : is_request_message ack ≡ true
      pub method : ack.cseq.method ≡ codes "ACK"
      pub call_id_is : ack.call_id ≡ call_id
      pub branch : HasBranch calls.local calls.seed call_id Came AnyCancel (top_branch ack)
      pub heard : WasHeard Is2xx calls all (dialog_id_of_tags (tag_of ack.from) (tag_of ack.to))
          ack.cseq.number

    made_so : (dialog : Dialog) (number : ℕ) → dialog.call_id ≡ call_id
        → WasHeard Is2xx calls all (name_of_dialog dialog) number → (id : Id) (now : ℕ) → Came id
        → (content : Content)
        → IsAckOf (request_in dialog (codes "ACK") number content
        (branch_of (event_of calls id now)) calls.local)
    unfolding with_content_of
    made_so dialog number its heard id now came content =
        let event = event_of calls id now in record {
          is_request = refl;
          method = refl;
          call_id_is = its;
          branch = (id, came, agent_branch calls.local (branch_of event) ∙ made_branch event);
          heard = subst (λ name. WasHeard Is2xx calls all name number)
              (sym (request_named dialog (codes "ACK") number content (branch_of event) calls.local))
              heard;
        }

    -- ---- one input, after others

    module _ (front rest : List (Timed CallItem)) (call : Call)
        (held : call_from calls None front ≡ Some call) (differ : EventsDiffer front)
        (of : AreSidesOf call_id call) where
      dialog_of : (name : DialogId) (o : Option HeldDialog)
          → dialog_at name (side_of call).dialogs ≡ o → IfSome o (IsDialogOf call_id)
      dialog_of name o at =
          subst (λ o. IfSome o (IsDialogOf call_id)) at
          (found_one (IsDialogOf call_id) (is_dialog_id name) (side_of call).dialogs
          (of.state).dialogs)

      owed_pays : (id : Id) (now : ℕ) → Came id → all ≡ front ++ rest
          → PaysIn IsAckOf (event_of calls id now) (side_of call)
      owed_pays id now came are name dialog at (Prack rseq number) among = tt
      owed_pays id now came are name dialog at (Ack invite number) among =
          let owed = owes_as_told calls front differ name dialog
          (ap (λ o. dialog_at name (side_held o).dialogs) held ∙ at) in
          let own = same_name name (name_of_dialog dialog.dialog)
          (named_so calls front differ call held name dialog at) in
          made_so dialog.dialog number (dialog_of name (Some dialog) at)
          (subst (λ name. WasHeard Is2xx calls all name number) own
          (subst (λ inputs. WasHeard Is2xx calls inputs name number) (sym are)
          (asked_heard Is2xx calls front rest name (Ack invite number) number
          (λ status client response asks. ack_asked status client response invite number asks)
          (owed_was_asked calls name front (Ack invite number)
          (subst (λ pending. Contains pending (Ack invite number)) owed among))))) id now came

      request_of : (id : Id) (client : Client) → lookup (is_id id) call.clients ≡ Some client
          → IsRequestOf call_id client
      request_of id client found =
          subst (λ o. IfSome o (IsRequestOf call_id)) found
          (found_one (IsRequestOf call_id) (is_id id) call.clients of.clients)

      -- whether it is held or made by the response
      either_of : (reply : Reply) (client : Client) → client.request.call_id ≡ call_id
          → (o : Option HeldDialog) → dialog_at reply.name (side_of call).dialogs ≡ o
          → (unwrap_or o (dialog_made_by reply client)).dialog.call_id ≡ call_id
      either_of reply client its None at = its
      either_of reply client its (Some dialog) at = dialog_of reply.name (Some dialog) at

      hears_pays : (id : Id) (now : ℕ) (up : AnUp)
          → all ≡ front ++ record { moment = now; input = Some (id, Up up) } ∷ rest → (k : UpKind)
          → up.kind ≡ k → IfSome (event_of_kind id k) Came
          → KindPays IsAckOf call (event_of calls id now) up k
      hears_pays id now up are (kind.Response response) is came =
          λ status status_is client found success has told.
          let dialogs = (side_of call).dialogs in
          let reply = reply_for (event_of calls id now) up.id up.call_id response status client in
          let own = name_so client.kind client response in
          let there : has_dialog_of client.kind (dialog_at reply.name dialogs) ≡ true =
          ap (λ name. has_dialog_of client.kind (dialog_at name dialogs)) own
          ∙ (sym (has_so client.kind client response dialogs) ∙ has) in
          let name = reply_name client.kind client response in
          let its = success_of (is_initial client) response reply.name call_id
          (dialog_at reply.name dialogs) (dialog_made_by reply client)
          (record {
            named = dialog_named reply client dialogs (named_so calls front differ call held)
                own (dialog_at reply.name dialogs) refl there;
            call_id_is = either_of reply client (request_of up.id client found)
                (dialog_at reply.name dialogs) refl;
          }) in
          let heard : WasHeard Is2xx calls all name client.request.cseq.number = record {
            before = front;
            timed = record { moment = now; input = Some (id, Up up) };
            after = rest;
            are = are;
            call = call;
            held = held;
            event = id;
            up = up;
            comes = refl;
            response = response;
            kind_is = is;
            client = client;
            client_is = found;
            name_is = refl;
            has = sym (has_so client.kind client response dialogs) ∙ has;
            number_is = refl;
            status = status;
            status_is = status_is;
            is = success;
            told = ap (λ k. list_any is_response
                (received call (event_of calls id now) up k).1) is ∙ told;
          } in
          made_so (success_dialog reply client dialogs).dialog client.request.cseq.number
          its.call_id_is
          (subst (λ name. WasHeard Is2xx calls all name client.request.cseq.number)
          (sym own ∙ its.named) heard) id now came
      hears_pays id now up are (kind.Request request reply_to) is came = tt
      hears_pays id now up are (kind.Ack ack) is came = tt
      hears_pays id now up are kind.Timeout is came = tt
      hears_pays id now up are kind.Failed is came = tt

    input_pays : (front rest : List (Timed CallItem)) (state : Option Call)
        → call_from calls None front ≡ state → (now : ℕ) (input : Option CallItem)
        → all ≡ front ++ record { moment = now; input = input } ∷ rest → EventsDiffer front
        → IsCallOf call_id state → IfSome (event_in input) Came → InputPays IsAckOf calls state input now
    input_pays front rest None held now input are differ of came = tt
    input_pays front rest (Some call) held now None are differ of came = tt
    input_pays front rest (Some call) held now (Some (id, Up up)) are differ of came =
        hears_pays front rest call held differ of id now up are up.kind refl came
    input_pays front rest (Some call) held now (Some (id, User command)) are differ of came = (
      owed_pays front (record { moment = now; input = Some (id, User command) } ∷ rest) call held
          differ of id now came are,
      named_so calls front differ call held,
    )

    -- ---- all inputs

    abbrev AllCome : List (Timed CallItem) → Type 0
    AllCome inputs = AllByRecursion (λ timed. IfSome (event_in timed.input) Came) inputs

    all_pay : EventsDiffer all → AllByRecursion (λ timed. IsInputOf call_id timed.input) all
        → AllCome all → AllPay IsAckOf calls all
    all_pay differ its come before timed after are =
        let came = all_of_parts (λ (timed : Timed CallItem). IfSome (event_in timed.input) Came)
        before (timed ∷ after) (subst AllCome are come) in
        let state = call_from calls None before in
        let early = all_of_parts (λ (timed : Timed CallItem). IsInputOf call_id timed.input) before
        (timed ∷ after)
        (subst (AllByRecursion (λ (timed : Timed CallItem). IsInputOf call_id timed.input)) are
        its) in
        input_pays before after state refl timed.moment timed.input are
        (front_differ before (timed ∷ after) (subst EventsDiffer are differ))
        (held_of calls call_id None before early.0 tt) (came.1).0

    -- each text that the call sends is that of such an ACK, which keeps the rules
    pub all_acked : (key : List ℕ) → IsAddr calls.local → EventsDiffer all
        → AllByRecursion (λ timed. IsInputOf call_id timed.input) all → AllCome all
        → AllByRecursion (λ timed. KeepsInput timed.input) all
        → AllByRecursion (KeepsRulesWith IsAckOf) (outputs_from (call_machine calls) key None all)
    all_acked key address differ its come keep =
        call_keeps IsAckOf calls address key all (all_pay differ its come) keep
