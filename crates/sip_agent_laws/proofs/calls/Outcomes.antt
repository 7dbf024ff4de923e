-- The outcome of a request closes it, and a CANCEL goes out.
use Rattle.std.proofs.Common.{◌≡◌, ℕ, Bool, true, false, not, ◌&&◌, ◌||◌, cond, List, [], ◌∷◌, ◌++◌, ◌==◌, eq-eqb, refl, sym, ap, subst, ◌∙◌}
use Rattle.std.specs.Prelude.{Option, None, Some, fold, is_none, is_some, if◌then◌else◌}
use Rattle.std.specs.List.{list_any}
use Rattle.std.specs.Map.{remove_entry, set_value}
use Rattle.std.specs.Option.{option_map, option_map_or}
use Rattle.std.proofs.lemmas.Bool.{false≢true, and_parts}
use Rattle.sip_message.specs.declared.id.Id.{Id}
use Rattle.sip_message.specs.declared.message.Message.{Message}
use Rattle.sip_message.specs.Party.{tag_of}
use Rattle.sip_transactions.specs.declared.output.Up.{Up as AnUp}
use Rattle.sip_transactions.specs.declared.output.UpKind.{UpKind}
use Rattle.sip_transactions.specs.declared.output.UpKind.TheVariants as kind
use Rattle.sip_user.specs.declared.command.Cancel.{Cancel as ACancel}
use Rattle.sip_user.specs.declared.item.CallOut.{CallOut}
use Rattle.sip_user.specs.declared.item.Item.TheVariants.{Up}
use Rattle.sip_user.specs.declared.refusal.Refusal.TheVariants.{NoSuchRequest}
use Rattle.sip_held_dialogs.specs.Ids.{is_id}
use Rattle.sip_held_dialogs.specs.Requests.{dialog_id_of_tags, is_final, is_success}
use Rattle.sip_held_dialogs.proofs.Entries as entries
use Rattle.sip_held_dialogs.proofs.Heard.{id_laws}
use Rattle.sip_clients.specs.declared.client.Cancelling.TheVariants.{NotAsked, Sent, Waits}
use Rattle.sip_clients.specs.declared.client.Client.{Client}
use Rattle.sip_clients.specs.declared.event.Event.{Event}
use Rattle.sip_clients.specs.Client.{Clients, ClientTaken, Side, client_at}
use Rattle.sip_clients.specs.Clients.{reply_of}
use Rattle.sip_clients.specs.Rules.Ends.{request_is_lost}
use Rattle.sip_clients.specs.Rules.Requests.{cancel_command, cancel_of_request, cancel_request, dialog_of_kind, is_asked, is_invite_kind, refuse, start}
use Rattle.sip_clients.specs.Rules.Responses.{outcome_of, response_received, response_to, status_of, waiting_cancel}
use Rattle.sip_clients.proofs.EndedKeys.{AreSound}
use Rattle.sip_calls.specs.declared.call.Call.{Call}
use Rattle.sip_calls.specs.declared.calls.Calls.{Calls}
use Rattle.sip_calls.specs.Call.{call_step, event_of, kept, received}
use Rattle.sip_calls.specs.Histories.{call_from}
use Rattle.sip_calls.specs.Provisionals.{side_held}
use Rattle.sip_calls.specs.Sides.{CallTaken, by_clients, side_of}
use Rattle.sip_calls.proofs.KeptSides.{kept_side}
use Rattle.sip_agent_laws.specs.Calls.Outcomes.{CancelGoesOut, CancelWaits, IsClosed, OutcomeCloses, WaitingGoesOut, cancel_out, is_outcome, tells_outcome}
use Rattle.sip_agent_laws.specs.Calls.Waiting.{lacks_response}
use Rattle.sip_agent_laws.proofs.calls.Differ.{clients_sound}
use Rattle.sip_agent_laws.proofs.calls.Ended.{gone_at}

-- ---- the outcome

first_told : (b : Bool) (rest : Bool) → b ≡ true → (b || rest) ≡ true
first_told b rest is = ap (λ c. c || rest) is

kept_closed : (id : Id) (came : UpKind) (taken : CallTaken)
    → list_any (tells_outcome id came) taken.1 ≡ true → client_at id (taken.0).clients ≡ None
    → IsClosed id came (kept taken)
kept_closed id came taken told gone = record {
  told = told;
  gone = ap (λ (side : Side). client_at id side.clients) (kept_side taken.0) ∙ gone;
}

-- a last response is told, and the request is over
pub last_closes : (event : Event) (id : Id) (call_id : List ℕ) (response : Message) (side : Side)
    (status : ℕ) (client : Client) → status_of response.start ≡ Some status
    → (is_final status && not (is_invite_kind client.kind && is_success status)) ≡ true
    → (list_any (tells_outcome id (kind.Response response))
    (response_to event id call_id response side status client).1 ≡ true)
    × (((response_to event id call_id response side status client).0).clients
    ≡ remove_entry (is_id id) side.clients)
last_closes event id call_id response side status client has last =
    let final = (and_parts (is_final status)
    (not (is_invite_kind client.kind && is_success status)) last).0 in
    let told : (is_id id id && option_map_or (λ came. came == status) (status_of response.start)
    false) ≡ true =
    λ i. id_laws.refl id i && (ap (λ o. option_map_or (λ came. came == status) o false) has
    ∙ eq-eqb status status refl) i in
    rw (last, final) (first_told _ _ told, refl)

abbrev pub TakenBy : Call → Event → AnUp → Message → Option ℕ → Option Client → ClientTaken
TakenBy call event up response status o =
    let side = side_of call in
    option_map_or (λ status. option_map_or
    (response_to event up.id up.call_id response side status) o (side, [])) status (side, [])

response_closes : (call : Call) (event : Event) (up : AnUp) (response : Message) (client : Client)
    → AreSound call.clients → client_at up.id call.clients ≡ Some client → (o : Option ℕ)
    → status_of response.start ≡ o
    → option_map_or (λ status. is_final status
    && not (is_invite_kind client.kind && is_success status)) o false ≡ true
    → IsClosed up.id (kind.Response response) (kept (by_clients call
    (TakenBy call event up response o (client_at up.id call.clients))))
response_closes call event up response client sound found None has is = absurd (false≢true is)
response_closes call event up response client sound found (Some status) has is =
    let closes =
    last_closes event up.id up.call_id response (side_of call) status client has is in
    subst (λ (o : Option Client). IsClosed up.id (kind.Response response) (kept (by_clients call
    (TakenBy call event up response (Some status) o)))) (sym found)
    (kept_closed up.id (kind.Response response) (by_clients call
    (response_to event up.id up.call_id response (side_of call) status client)) closes.0
    (ap (client_at up.id) closes.1 ∙ gone_at up.id call.clients sound))

received_closes : (call : Call) (event : Event) (up : AnUp) (k : UpKind) (client : Client)
    → AreSound call.clients → client_at up.id call.clients ≡ Some client
    → is_outcome client k ≡ true → IsClosed up.id k (kept (received call event up k))
unfolding request_is_lost response_received
received_closes call event up (kind.Request request reply_to) client sound found is =
    absurd (false≢true is)
received_closes call event up (kind.Ack ack) client sound found is = absurd (false≢true is)
received_closes call event up (kind.Response response) client sound found is =
    response_closes call event up response client sound found (status_of response.start) refl is
received_closes call event up its client sound found is =
    kept_closed up.id its (received call event up its)
    (first_told (is_id up.id up.id) _ (id_laws.refl up.id)) (gone_at up.id call.clients sound)

closes_from : (calls : Calls) (state : Option Call) (event : Id) (up : AnUp) (now : ℕ)
    (client : Client) → AreSound (side_held state).clients
    → client_at up.id (side_held state).clients ≡ Some client
    → is_outcome client up.kind ≡ true
    → IsClosed up.id up.kind (call_step calls state (Some (event, Up up)) now)
closes_from calls None event up now client sound found is = absurd cc
closes_from calls (Some call) event up now client sound found is =
    received_closes call (event_of calls event now) up up.kind client sound found is

pub outcome_closes : OutcomeCloses
outcome_closes calls inputs event up now client found is =
    closes_from calls (call_from calls None inputs) event up now client (clients_sound calls inputs)
    found is

-- ---- a CANCEL

-- by the tests of the command, of which the first two are false
cancel_by : (provisional asked : Bool) (out : CallOut) (one two : Clients)
    (side : Side)
    → (cond {A = ClientTaken} asked (side, []) (
    let done = cond {A = Clients × List CallOut} provisional (one, out ∷ []) (two, []) in
    (record side { clients = done.0 }, done.1))).1
    ≡ (if provisional && not asked then out ∷ [] else [])
cancel_by true true out one two side = refl
cancel_by true false out one two side = refl
cancel_by false true out one two side = refl
cancel_by false false out one two side = refl

lacking_invite : (b : Bool) (o : Option ℕ) → (b && is_none o) ≡ true → (b ≡ true) × (is_some o ≡ false)
lacking_invite true None e = (refl, refl)
lacking_invite true (Some end) e = absurd (false≢true e)
lacking_invite false o e = absurd (false≢true e)

pub cancel_goes_out : CancelGoesOut
unfolding cancel_command
cancel_goes_out calls call event command now invite found lacks =
    let ev = event_of calls event now in
    let side = side_of call in
    let parts = lacking_invite (is_invite_kind invite.kind) invite.removal lacks in
    ap (λ (o : Option Client). (option_map_or (cancel_of_request ev command side) o
    (refuse ev command.call_id side NoSuchRequest)).1) found
    ∙ (rw (parts.0, parts.1) (cancel_by invite.provisional (is_asked invite.cancel)
    (cancel_out event invite) _ _ side))

-- the INVITE after the command, if no provisional response came
asked_clients : (event : Event) (command : ACancel) (side : Side) (invite : Client)
    → lacks_response invite ≡ true → invite.provisional ≡ false → is_asked invite.cancel ≡ false
    → ((cancel_of_request event command side invite).0).clients
    ≡ set_value (is_id command.id) side.clients (record invite { cancel = Waits event.id })
asked_clients event command side invite lacks none fresh =
    let parts = lacking_invite (is_invite_kind invite.kind) invite.removal lacks in
    rw (parts.0, parts.1, none, fresh) refl

pub cancel_waits : CancelWaits
unfolding cancel_command
cancel_waits calls call event command now invite found lacks none fresh =
    let ev = event_of calls event now in
    let side = side_of call in
    let taken = by_clients call (cancel_command ev command side) in
    let waiting = λ (client : Client). record client { cancel = Waits event } in
    let read = λ (o : Option Client). option_map (λ (client : Client). client.cancel) o in
    ap (λ (side : Side). read (client_at command.id side.clients)) (kept_side taken.0)
    ∙ ap (λ (o : Option Client). read (client_at command.id ((option_map_or
    (cancel_of_request ev command side) o (refuse ev command.call_id side NoSuchRequest)).0).clients))
    found
    ∙ ap (λ clients. read (client_at command.id clients))
    (asked_clients ev command side invite lacks none fresh)
    ∙ ap read (ap (λ (o : Option Client). client_at command.id (option_map_or
    (λ client. set_value (is_id command.id) side.clients (waiting client)) o side.clients))
    (sym found)
    ∙ entries.found_changed id_laws command.id command.id waiting side.clients
    ∙ (λ i. cond (id_laws.refl command.id i) (option_map waiting (found i)) (found i)))

-- ---- a CANCEL that waits

pub start_last : (list : List Client) (last : Client) (done : Clients × List CallOut)
    → (fold start done (list ++ last ∷ [])).1
    ≡ (fold start done list).1 ++ (start ([], []) last).1
start_last [] last done = refl
start_last (client ∷ list) last done = start_last list last (start done client)

waiting_to : (event : Event) (id : Id) (call_id : List ℕ) (response : Message) (side : Side)
    (status : ℕ) (invite : Client) (asked_by : Id) → is_final status ≡ false
    → invite.cancel ≡ Waits asked_by
    → (others : List CallOut)
    × ((response_to event id call_id response side status invite).1
    ≡ others ++ cancel_out asked_by invite ∷ [])
waiting_to event id call_id response side status invite asked_by provisional waits =
    let final = is_final status in
    let waiting = waiting_cancel invite.cancel in
    let after = record invite {
      provisional = invite.provisional || not final;
      cancel = option_map_or (λ asked_by. if final then NotAsked else Sent) waiting
          invite.cancel;
    } in
    let name = option_map_or (λ reference. reference.name) (dialog_of_kind invite.kind)
    (dialog_id_of_tags (tag_of invite.request.from) (tag_of response.to)) in
    let done = outcome_of (reply_of event id call_id name status response) after side.dialogs in
    let clients = option_map_or (set_value (is_id id) side.clients) done.request
    (remove_entry (is_id id) side.clients) in (
      (fold start (clients, done.outs) done.prack).1,
      (λ i. (fold start (clients, done.outs) (done.prack
          ++ (if provisional i then []
          else option_map_or (λ asked_by. cancel_request asked_by invite ∷ [])
          (waiting_cancel (waits i)) []))).1)
          ∙ start_last done.prack (cancel_request asked_by invite) (clients, done.outs),
    )

pub waiting_goes_out : WaitingGoesOut
unfolding response_received
waiting_goes_out calls call event up response status now invite asked_by is started provisional
    found waits =
    let ev = event_of calls event now in
    let goes = waiting_to ev up.id up.call_id response (side_of call) status invite asked_by
    provisional waits in (
      goes.0,
      ap (λ (k : UpKind). (received call ev up k).1) is
          ∙ (λ i. (TakenBy call ev up response (started i) (found i)).1)
          ∙ goes.1,
    )
