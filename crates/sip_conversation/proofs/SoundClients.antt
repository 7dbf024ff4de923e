-- Whatever comes to the client side of a call: its dialogs stay sound, what it starts keeps the
-- rules of messages, and each text that it sends is that of a message that does.
use Rattle.std.proofs.Common.{◌≡◌, ℕ, ◌+◌, ◌-◌, ◌<◌, ◌^◌, Bool, true, false, ◌||◌, ◌&&◌, ◌∙◌, List, [], ◌∷◌, refl, sym, subst, arith}
use Rattle.std.specs.Prelude.{Contains, Option, None, Some, IfSome, IsTrue, codes, filter, find, fold, is_some, nat_le, not, if◌then◌else◌}
use Rattle.std.specs.List.{AllByRecursion}
use Rattle.std.specs.Map.{lookup, set_value}
use Rattle.std.specs.Str.{bytes_eq}
use Rattle.std.proofs.lemmas.Bool.Decides.{nat_tests}
use Rattle.sip_text.specs.Token.{is_token}
use Rattle.sip_message.specs.Addr.{IsAddr}
use Rattle.sip_message.specs.Content.{Content}
use Rattle.sip_message.specs.Rules.{IsMessage, IsRAck}
use Rattle.sip_message.specs.Written.{written}
use Rattle.sip_message.specs.declared.id.Id.{Id}
use Rattle.sip_message.specs.declared.message.Message.{Message}
use Rattle.sip_message.specs.declared.rack.RAck.{RAck}
use Rattle.sip_dialog.specs.Request.{request_in}
use Rattle.sip_dialog.specs.declared.dialog.Dialog.{Dialog}
use Rattle.sip_held_dialogs.specs.Dialogs.{Dialogs, ended_at, is_dialog_id, tag_text}
use Rattle.sip_held_dialogs.specs.Ids.{is_id}
use Rattle.sip_user.specs.Refusal.{first_refusal}
use Rattle.sip_held_dialogs.specs.Requests.{dialog_id_of_tags}
use Rattle.sip_user.specs.declared.command.Cancel.{Cancel}
use Rattle.sip_user.specs.declared.command.DialogBody.{DialogBody}
use Rattle.sip_user.specs.declared.command.DialogRequest.{DialogRequest}
use Rattle.sip_user.specs.declared.command.Invite.{Invite}
use Rattle.sip_user.specs.declared.command.Plain.{Plain}
use Rattle.sip_held_dialogs.specs.declared.held_dialog.DialogId.{DialogId}
use Rattle.sip_held_dialogs.specs.declared.held_dialog.HeldDialog.{HeldDialog}
use Rattle.sip_user.specs.declared.item.CallOut.{CallOut}
use Rattle.sip_held_dialogs.specs.declared.pending_request.PendingRequest.{PendingRequest}
use Rattle.sip_held_dialogs.specs.declared.pending_request.PendingRequest.TheVariants.{Ack, Prack}
use Rattle.sip_user.specs.declared.refusal.Refusal.{Refusal}
use Rattle.sip_user.specs.declared.refusal.Refusal.TheVariants.{AlreadyFinal, BadMethod, NoSuchRequest, NothingToAck, NothingToPrack}
use Rattle.sip_held_dialogs.proofs.Each.{both, each_changed, each_inserted, each_set, filtered, found, found_one}
use Rattle.sip_clients.specs.Client.{Clients, ClientTaken, Side}
use Rattle.sip_clients.specs.Event.{branch_of}
use Rattle.sip_clients.specs.Rules.Requests.{PendingOutcome, ack_command, ack_kept, cancel_command, cancel_of_request, cancel_request, has_command, invite_command, is_asked, is_invite_kind, is_same_pending, method_of, oldest_pending, pending_by_user, pending_command, pending_outcome, pending_sent, pending_with, plain_command, prack_command, refusals_in, refuse, request_command, request_in_dialog, request_with_next_number, start, with_number}
use Rattle.sip_clients.specs.Rules.Responses.{kept}
use Rattle.sip_clients.specs.declared.answers.SentAck.{SentAck}
use Rattle.sip_clients.specs.declared.client.Cancelling.{Cancelling}
use Rattle.sip_clients.specs.declared.client.Cancelling.TheVariants.{Sent, Waits}
use Rattle.sip_clients.specs.declared.client.Client.{Client}
use Rattle.sip_clients.specs.declared.client.RequestKind.{RequestKind}
use Rattle.sip_clients.specs.declared.client.RequestKind.TheVariants.{InDialog, ReInvite}
use Rattle.sip_clients.proofs.DialogSends.{AreNamed}
use Rattle.sip_held_dialogs.specs.Sent.{name_of_dialog}
use Rattle.sip_message.specs.Party.{tag_of}
use Rattle.std.proofs.lemmas.Bool.{false≢true}
use Rattle.sip_conversation.proofs.PracksServed.{same_name}
use Rattle.sip_conversation.proofs.RackedSteps.{request_named}
use Rattle.sip_clients.specs.declared.event.Event.{Event}
use Rattle.sip_conversation.specs.Commands.{IsContent, IsInvite, IsPlain}
use Rattle.sip_conversation.proofs.AnswersHeld.{Fails, none_holds}
use Rattle.sip_conversation.proofs.Branches.{either, first_false, found_or}
use Rattle.sip_conversation.proofs.KeepsRules.{Keep, KeepsRulesWith}
use Rattle.sip_conversation.proofs.OwnRequests.{ack_token, cancel_keeps, in_dialog_keeps, invite_keeps, invite_token, plain_keeps, prack_token, with_rack}
use Rattle.sip_conversation.proofs.Among.{found_among}
use Rattle.sip_conversation.proofs.SoundDialogs.{AreSound, IsSound, IsSoundPending, number_sound}
use Rattle.sip_conversation.proofs.SoundServed.{Ended, dialog_ends}

-- ---- numbers

is_below : (ack : Bool) (last : ℕ) → ack ≡ false
    → (not ack && nat_le (2 ^ 31 - 1) last) ≡ false → last + 1 < 2 ^ 32
is_below true last other fails = absurd cc
is_below false last other fails = grind (arith, nat_tests)

-- a request that isn't refused, unless it is an ACK, has a next number
next_fits : (dialog : Dialog) (method : List ℕ) → bytes_eq method (codes "ACK") ≡ false
    → AllByRecursion Fails (refusals_in dialog method) → dialog.local_cseq + 1 < 2 ^ 32
next_fits dialog method other fail =
    is_below (bytes_eq method (codes "ACK")) dialog.local_cseq other fail.1.1.1.0

no_ack : (method : List ℕ) → has_command method ≡ false → bytes_eq method (codes "ACK") ≡ false
no_ack method none =
    first_false (bytes_eq method (codes "ACK")) (bytes_eq method (codes "CANCEL"))
    (first_false (bytes_eq method (codes "ACK") || bytes_eq method (codes "CANCEL"))
    (bytes_eq method (codes "PRACK")) none)

pub dialog_found : (name : DialogId) (dialogs : Dialogs) → AreSound dialogs → (held : HeldDialog)
    → lookup (is_dialog_id name) dialogs ≡ Some held → IsSound held
dialog_found name dialogs all held is =
    subst (λ o. IfSome o IsSound) is (found_one IsSound (is_dialog_id name) dialogs all)

-- ---- what is held and given

-- an INVITE in a dialog has the tags of the dialog
abbrev pub IsNamedIn : RequestKind → Message → Type 0
IsNamedIn (ReInvite life) request =
    dialog_id_of_tags (tag_of request.from) (tag_of request.to) ≡ life.name
IsNamedIn _ request = Unit {0}

module _ (AckIs : Message → Type 0) where
  -- an ACK that was sent is the text of a message that keeps the rules, and of which this is said
  abbrev pub IsText : SentAck → Type 0
  IsText ack =
      (message : Message) × (ack.bytes ≡ written message) × IsMessage message × AckIs message

  abbrev pub IsKept : Option SentAck → Type 0
  IsKept ack = IfSome ack IsText

  pub record IsSoundClient (client : Client) : Type 0 where
    pub request : IsMessage client.request
    pub named : IsNamedIn client.kind client.request
    pub answers : AllByRecursion (λ (entry : DialogId × Option SentAck). IsKept entry.1)
        client.answers

  abbrev pub AreSoundClients : Clients → Type 0
  AreSoundClients clients = AllByRecursion (λ (entry : Id × Client). IsSoundClient entry.1) clients

  abbrev pub Started : Clients × List CallOut → Type 0
  Started done = AreSoundClients done.0 × Keep AckIs done.1

  pub record IsSoundSide (side : Side) : Type 0 where
    pub dialogs : AreSound side.dialogs
    pub clients : AreSoundClients side.clients

  abbrev pub Taken : ClientTaken → Type 0
  Taken taken = IsSoundSide taken.0 × Keep AckIs taken.1

  pub start_done : (done : Clients × List CallOut) (client : Client) → Started done
      → IsSoundClient client → Started (start done client)
  start_done done client sound its = (
    each_inserted IsSoundClient is_id client.id client its done.0 sound.0,
    both (KeepsRulesWith AckIs) done.1 _ sound.1 (its.request, tt),
  )

  pub starts_done : (clients : List Client) (done : Clients × List CallOut) → Started done
      → AllByRecursion IsSoundClient clients → Started (fold start done clients)
  starts_done [] done sound all = sound
  starts_done (client ∷ clients) done sound all =
      starts_done clients (start done client) (start_done done client sound all.0) all.1

  pub client_found : (id : Id) (clients : Clients) → AreSoundClients clients → (client : Client)
      → lookup (is_id id) clients ≡ Some client → IsSoundClient client
  client_found id clients all client is =
      subst (λ o. IfSome o IsSoundClient) is (found_one IsSoundClient (is_id id) clients all)

  -- ---- a request outside of dialogs

  pub invite_done : (event : Event) (invite : Invite) (clients : Clients) → IsAddr event.local
      → IsInvite invite → AreSoundClients clients → Started (invite_command event invite clients)
  unfolding invite_command
  invite_done event invite clients address types all =
      start_done (clients, []) _ (all, tt)
      (record { request = invite_keeps event invite address types; named = tt; answers = tt })

  pub plain_done : (event : Event) (plain : Plain) (clients : Clients) → IsAddr event.local
      → IsPlain plain → AreSoundClients clients → Started (plain_command event plain clients)
  unfolding plain_command
  plain_done event plain clients address types all =
      either Started (has_command plain.method || bytes_eq plain.method (codes "INVITE")
      || bytes_eq plain.method (codes "BYE")) _ _
      (λ bad. (all, (tt, tt)))
      (λ good. start_done (clients, []) _ (all, tt)
      (record { request = plain_keeps event plain address types; named = tt; answers = tt }))

  pub cancel_sound : (id : Id) (invite : Client) → IsSoundClient invite
      → IsSoundClient (cancel_request id invite)
  cancel_sound id invite its =
      record { request = cancel_keeps invite.request its.request; named = tt; answers = tt }

  -- ---- in a dialog

  -- so is each ACK that an event may make in this dialog for what is pending
  abbrev pub Pays : Event → Dialog → PendingRequest → Type 0
  Pays event dialog (Ack invite number) = (content : Content)
      → AckIs (request_in dialog (codes "ACK") number content (branch_of event) event.local)
  Pays event dialog (Prack rseq number) = Unit {0}

  -- so is each that it may make for what is pending in a held dialog
  abbrev pub PaysIn : Event → Side → Type 0
  PaysIn event side = (name : DialogId) (held : HeldDialog)
      → lookup (is_dialog_id name) side.dialogs ≡ Some held → (pending : PendingRequest)
      → Contains held.pending_requests pending → Pays event held.dialog pending

  pub record IsPaid (done : PendingOutcome) : Type 0 where
    pub dialog : IsSound done.dialog
    pub ack : IsKept done.ack
    pub prack : AllByRecursion IsSoundClient done.prack
    pub outs : Keep AckIs done.outs

  module _ (event : Event) (address : IsAddr event.local) where
    next_sound : (name : DialogId) (method : List ℕ) (rack : Option RAck) (content : Content)
        (held : HeldDialog) → IsSound held → IsTrue (is_token method) → IfSome rack IsRAck
        → IsContent content → held.dialog.local_cseq + 1 < 2 ^ 32
        → (bytes_eq method (codes "INVITE") ≡ true → name_of_dialog held.dialog ≡ name)
        → IsSoundClient (request_with_next_number event name method rack content held)
    next_sound name method rack content held sound token of_rack types fits named = record {
      request = with_rack _ rack of_rack (in_dialog_keeps event address held.dialog sound.dialog
          method (held.dialog.local_cseq + 1) content token fits types);
      named = either
          (λ k. IsNamedIn k (request_with_next_number event name method rack content held).request)
          (bytes_eq method (codes "INVITE"))
          (ReInvite record { name = name; created_by = held.created_by })
          (InDialog record { name = name; created_by = held.created_by })
          (λ invite. request_named held.dialog method (held.dialog.local_cseq + 1) content
          (branch_of event) event.local ∙ named invite)
          (λ other. tt);
      answers = tt;
    }

    numbered : (held : HeldDialog) → IsSound held → held.dialog.local_cseq + 1 < 2 ^ 32
        → IsSound (with_number held)
    numbered held sound fits = record {
      dialog = number_sound held.dialog (held.dialog.local_cseq + 1) sound.dialog fits;
      pending = sound.pending;
    }

    sent_paid : (name : DialogId) (pending : PendingRequest) (content : Content)
        (held : HeldDialog) → IsSound held → IsSoundPending pending → Pays event held.dialog pending
        → IsContent content
        → first_refusal (refusals_in held.dialog (method_of pending)) None ≡ None
        → IsPaid (pending_sent event name pending content held)
    sent_paid name (Ack invite number) content held sound fits pays types none =
        let message = request_in held.dialog (codes "ACK") number content (branch_of event)
        event.local in
        let rules : IsMessage message = in_dialog_keeps event address held.dialog sound.dialog
        (codes "ACK") number content ack_token fits types in
        record {
          dialog = sound;
          ack = (message, refl, rules, pays content);
          prack = tt;
          outs = ((message, refl, rules, pays content), tt);
        }
    sent_paid name (Prack rseq number) content held sound fits pays types none =
        let rack : RAck = record { rseq = rseq; cseq = number; method = codes "INVITE" } in
        let next = next_fits held.dialog (codes "PRACK") refl
        (none_holds (refusals_in held.dialog (codes "PRACK")) none) in
        record {
          dialog = numbered held sound next;
          ack = tt;
          prack = (
            next_sound name (codes "PRACK") (Some rack) content held sound prack_token
                (record { rseq = fits.0; cseq = fits.1; method = invite_token }) types next
                (λ invite. absurd (false≢true invite)),
            tt,
          );
          outs = tt;
        }

    pub outcome_paid : (call_id : List ℕ) (name : DialogId) (pending : PendingRequest)
        (content : Option Content) (without_it with_it : HeldDialog) → IsSound without_it
        → IsSound with_it → IsSoundPending pending → Pays event without_it.dialog pending
        → IfSome content IsContent
        → IsPaid (pending_outcome event call_id name pending content without_it with_it)
    outcome_paid call_id name pending content without_it with_it sound with_sound fits pays
        types =
        found_or IsPaid (pending_with event call_id name pending without_it with_it) content _
        (λ content is. found_or IsPaid _
        (first_refusal (refusals_in without_it.dialog (method_of pending)) None) _
        (λ refusal refused.
        record { dialog = with_sound; ack = tt; prack = tt; outs = (tt, tt) })
        (λ none. sent_paid name pending content without_it sound fits pays
        (subst (λ o. IfSome o IsContent) is types) none))
        (λ none. record { dialog = with_sound; ack = tt; prack = tt; outs = tt })

    -- ---- commands in a dialog

    request_held : (command : DialogRequest) (side : Side) (name : DialogId) (held : HeldDialog)
        → IsTrue (is_token command.method) → IsContent command.content → IsSound held
        → name_of_dialog held.dialog ≡ name → IsSoundSide side
        → Taken (request_in_dialog event command side name held)
    request_held command side name held token types sound named sides =
        let method = command.method in
        let sent = start (side.clients, [])
        (request_with_next_number event name method None command.content held) in
        let dialogs = set_value (is_dialog_id name) side.dialogs (with_number held) in
        found_or Taken _
        (first_refusal ((has_command method, BadMethod) ∷ refusals_in held.dialog method) None) _
        (λ refusal refused. (sides, (tt, tt)))
        (λ none.
        let fail = none_holds ((has_command method, BadMethod) ∷ refusals_in held.dialog method)
        none in
        let fits = next_fits held.dialog method (no_ack method fail.0) fail.1 in
        let started = start_done (side.clients, []) _ (sides.clients, tt)
        (next_sound name method None command.content held sound token tt types fits
        (λ invite. named)) in
        let all = each_set IsSound (is_dialog_id name) side.dialogs (with_number held)
        (numbered held sound fits) sides.dialogs in
        let ended = either (Ended AckIs) (bytes_eq method (codes "BYE")) (ended_at name dialogs)
        (dialogs, []) (λ bye. dialog_ends AckIs name dialogs all) (λ other. (all, tt)) in (
          record { dialogs = ended.0; clients = started.0 },
          both (KeepsRulesWith AckIs) sent.1 _ started.1 ended.1,
        ))

    pub request_done : (command : DialogRequest) (side : Side)
        → IsTrue (is_token command.method) × IsContent command.content → AreNamed side.dialogs
        → IsSoundSide side → Taken (request_command event command side)
    unfolding request_command
    request_done command side types named sides =
        let name = dialog_id_of_tags (tag_text command.local_tag) (tag_text command.remote_tag) in
        found_or Taken (request_in_dialog event command side name)
        (lookup (is_dialog_id name) side.dialogs) _
        (λ held is. request_held command side name held types.0 types.1
        (dialog_found name side.dialogs sides.dialogs held is)
        (sym (same_name name (name_of_dialog held.dialog) (named name held is))) sides)
        (λ none. (sides, (tt, tt)))

    ack_kept_sound : (pending : PendingRequest) (name : DialogId) (ack : Option SentAck)
        (clients : Clients) → IsKept ack → AreSoundClients clients
        → AreSoundClients (ack_kept pending name ack clients)
    ack_kept_sound (Ack invite number) name None clients kept all = all
    ack_kept_sound (Ack invite number) name (Some ack) clients kept all =
        each_changed IsSoundClient (is_id invite) _ (λ client its. record {
          request = its.request;
          named = its.named;
          answers = each_inserted IsKept is_dialog_id name (Some ack) kept client.answers
              its.answers;
        }) clients all
    ack_kept_sound (Prack rseq number) name ack clients kept all = all

    pending_user : (command : DialogBody) (side : Side) (name : DialogId) (held : HeldDialog)
        (pending : PendingRequest) → IsContent command.content → IsSoundPending pending
        → Pays event held.dialog pending → IsSound held → IsSoundSide side
        → Taken (pending_by_user event command side name held pending)
    pending_user command side name held pending types fits pays sound sides =
        let others = filter (λ other. not (is_same_pending pending other)) held.pending_requests in
        let without_it : HeldDialog = record held { pending_requests = others } in
        let content = Some command.content in
        let done = pending_outcome event command.call_id name pending content without_it held in
        let so = outcome_paid command.call_id name pending content without_it held
        (record {
          dialog = sound.dialog;
          pending = filtered IsSoundPending _ held.pending_requests sound.pending;
        }) sound fits pays types in
        let started = starts_done done.prack
        (ack_kept pending name done.ack side.clients, done.outs)
        (ack_kept_sound pending name done.ack side.clients so.ack sides.clients, so.outs) so.prack
        in (
          record {
            dialogs = each_set IsSound (is_dialog_id name) side.dialogs done.dialog so.dialog
                sides.dialogs;
            clients = started.0;
          },
          started.1,
        )

    pending_done : (method : List ℕ) (nothing : Refusal) (command : DialogBody) (side : Side)
        → IsContent command.content → PaysIn event side → IsSoundSide side
        → Taken (pending_command method nothing event command side)
    pending_done method nothing command side types pays sides =
        let name = dialog_id_of_tags (tag_text command.local_tag) (tag_text command.remote_tag) in
        found_or Taken (oldest_pending method nothing event command side name)
        (lookup (is_dialog_id name) side.dialogs) _
        (λ held is.
        let sound = dialog_found name side.dialogs sides.dialogs held is in
        found_or Taken (pending_by_user event command side name held)
        (find (λ pending. bytes_eq (method_of pending) method) held.pending_requests) _
        (λ pending has. pending_user command side name held pending types
        (found IsSoundPending _ held.pending_requests pending sound.pending has)
        (pays name held is pending
        (found_among (λ one. bytes_eq (method_of one) method) held.pending_requests pending has))
        sound sides)
        (λ none. (sides, (tt, tt))))
        (λ none. (sides, (tt, tt)))

    pub ack_done : (command : DialogBody) (side : Side) → IsContent command.content
        → PaysIn event side → IsSoundSide side → Taken (ack_command event command side)
    unfolding ack_command
    ack_done command side types pays sides =
        pending_done (codes "ACK") NothingToAck command side types pays sides

    pub prack_done : (command : DialogBody) (side : Side) → IsContent command.content
        → PaysIn event side → IsSoundSide side → Taken (prack_command event command side)
    unfolding prack_command
    prack_done command side types pays sides =
        pending_done (codes "PRACK") NothingToPrack command side types pays sides

  -- ---- CANCEL

  cancel_held : (event : Event) (command : Cancel) (side : Side) (invite : Client)
      → IsSoundClient invite → IsSoundSide side
      → Taken (cancel_of_request event command side invite)
  cancel_held event command side invite its sides =
      let with_cancel : Cancelling → Clients = λ cancel.
      set_value (is_id command.id) side.clients (record invite { cancel = cancel }) in
      let put : (cancel : Cancelling) → AreSoundClients (with_cancel cancel) = λ cancel.
      each_set IsSoundClient (is_id command.id) side.clients (record invite { cancel = cancel })
      (record { request = its.request; named = its.named; answers = its.answers }) sides.clients in
      let started : Clients × List CallOut =
      start (with_cancel Sent, []) (cancel_request event.id invite) in
      let waits : Clients × List CallOut = (with_cancel (Waits event.id), []) in
      let done : Clients × List CallOut = if invite.provisional then started else waits in
      let first : ClientTaken = (record side { clients = done.0 }, done.1) in
      let asked : ClientTaken = if is_asked invite.cancel then (side, []) else first in
      let late : ClientTaken = if is_some invite.removal
      then refuse event command.call_id side AlreadyFinal else asked in
      either Taken (not (is_invite_kind invite.kind))
      (refuse event command.call_id side NoSuchRequest) late (λ is. (sides, (tt, tt)))
      (λ is. either Taken (is_some invite.removal)
      (refuse event command.call_id side AlreadyFinal) asked (λ final. (sides, (tt, tt)))
      (λ still. either Taken (is_asked invite.cancel) (side, []) first (λ again. (sides, tt))
      (λ none.
      let so = either Started invite.provisional started waits
      (λ came. start_done (with_cancel Sent, []) (cancel_request event.id invite) (put Sent, tt)
      (cancel_sound event.id invite its))
      (λ none. (put (Waits event.id), tt)) in
      (record { dialogs = sides.dialogs; clients = so.0 }, so.1))))

  pub cancel_done : (event : Event) (command : Cancel) (side : Side) → IsSoundSide side
      → Taken (cancel_command event command side)
  unfolding cancel_command
  cancel_done event command side sides =
      found_or Taken (cancel_of_request event command side)
      (lookup (is_id command.id) side.clients) _
      (λ invite is. cancel_held event command side invite
      (client_found command.id side.clients sides.clients invite is) sides)
      (λ none. (sides, (tt, tt)))
