-- The reliable provisional responses that a user gives to a request have the RSeqs 1, 2, 3 and so
-- on.
use Rattle.std.proofs.Common.{◌≡◌, ◌⊎◌, inl, inr, ℕ, ◌+◌, Bool, true, false, cond, List, [], ◌∷◌, ◌++◌, map, refl, sym, ap, subst, ◌∙◌}
use Rattle.std.specs.Prelude.{Option, None, Some, filter, filter_map, find, option_to_list}
use Rattle.std.specs.List.{AllByRecursion, IsDistinct, cons_option}
use Rattle.std.specs.Map.{values_of}
use Rattle.std.specs.Option.{option_map}
use Rattle.std.proofs.lemmas.Bool.{eq-eqb, false≢true}
use Rattle.std.proofs.lemmas.List.{map-append}
use Rattle.std.proofs.lemmas.Map.Keys.{IsDistinct-head}
use Rattle.sip_message.specs.declared.id.Id.{Id}
use Rattle.sip_message.specs.declared.key.Key.{Key}
use Rattle.sip_message.specs.declared.message.Message.{Message}
use Rattle.keyed_machine.specs.Machine.{Timed}
use Rattle.sip_reliable.specs.Inbound.{IsConsecutive, following}
use Rattle.sip_reliable.proofs.InOrder.{consecutive}
use Rattle.sip_transactions.specs.declared.input.Command.TheVariants as order
use Rattle.sip_transactions.specs.declared.output.UpKind.{UpKind}
use Rattle.sip_transactions.specs.declared.output.UpKind.TheVariants as kind
use Rattle.sip_transactions.specs.declared.output.Up.{Up as AnUp}
use Rattle.sip_user.specs.declared.command.Respond.{Respond as Answer}
use Rattle.sip_user.specs.declared.command.UserCommand.{UserCommand}
use Rattle.sip_user.specs.declared.command.UserCommand.TheVariants.{Respond}
use Rattle.sip_held_dialogs.specs.declared.held_dialog.HeldDialog.{HeldDialog}
use Rattle.sip_user.specs.declared.item.CallOut.{CallOut}
use Rattle.sip_user.specs.declared.item.CallOut.TheVariants as out
use Rattle.sip_user.specs.declared.item.Item.TheVariants.{Up, User}
use Rattle.sip_user.specs.declared.refusal.Refusal.{Refusal}
use Rattle.sip_held_dialogs.specs.Dialogs.{Dialogs, early_ended, ended_notice, is_early_of}
use Rattle.sip_held_dialogs.specs.Ids.{is_id}
use Rattle.sip_held_dialogs.proofs.Each.{found}
use Rattle.sip_held_dialogs.proofs.Heard.{id_laws}
use Rattle.sip_served.specs.declared.held_request.HeldRequest.{HeldRequest}
use Rattle.sip_served.specs.Arrival.{arrival_of}
use Rattle.sip_served.specs.Respond.{answer_given, answer_to, by_refusal, by_request, confirms_dialog, dialogs_answered, makes_dialog, refusal_for, rejects, respond_taken}
use Rattle.sip_served.specs.State.{State, has_id}
use Rattle.sip_served.proofs.Found.{change, found_id, keeps}
use Rattle.sip_served.proofs.RequestIds.{ack_ids, all_left, apart_left, arrival_adds, ids_of, respond_ids}
use Rattle.sip_served.proofs.Rseqs.{answer_rseq, next_rseq}
use Rattle.sip_clients.proofs.Hearing.{NoneOf}
use Rattle.sip_calls.specs.declared.call.Call.{Call}
use Rattle.sip_calls.specs.declared.calls.Calls.{Calls}
use Rattle.sip_calls.specs.Call.{CallItem, Taken, call_step, event_of, kept, made_tag, new_call}
use Rattle.sip_calls.specs.HeldRequests.{RequestsDiffer, id_of_kind, request_brought, requests_held}
use Rattle.sip_calls.specs.Sides.{CallTaken}
use Rattle.sip_calls.specs.Steps.Call.{command_taken, first_command_taken, step_taken, ticked, up_taken}
use Rattle.sip_calls.proofs.HeldRequests.{Sound, adds_sound, first_command, kept_requests, none_differ, requests_of, rest_differ, same_sound}
use Rattle.sip_calls.proofs.SameSteps.{same_step}
use Rattle.sip_conversation.specs.ComeWhole.{given_from, given_in, sent_reliably}
use Rattle.sip_conversation.proofs.NextRseqs.{HasSent, HaveSent, Sends, ack_sent, arrival_sent, other_changed, own_changed, sends_next, tick_sent}

-- what is true of the ids of all held requests is true of the one that is found
of_found : (P : Id → Type 0) (id : Id) (requests : List HeldRequest) (held : HeldRequest)
    → AllByRecursion P (ids_of requests) → find (has_id id) requests ≡ Some held → P held.id
of_found P id [] held all at = absurd cc
of_found P id (one ∷ requests) held all at =
    by_first (has_id id one) at (of_found P id requests held all.1)
  where
    by_first : (b : Bool) → cond b (Some one) (find (has_id id) requests) ≡ Some held
        → (find (has_id id) requests ≡ Some held → P held.id) → P held.id
    by_first true is later =
        let same : one ≡ held = cc in subst (λ (held : HeldRequest). P held.id) same all.0
    by_first false is later = later is

none_of_same : (one two : Id) → is_id one two ≡ true → (ids : List Id) → NoneOf one ids
    → NoneOf two ids
none_of_same one two same [] none = tt
none_of_same one two same (id ∷ ids) none =
    (sym (id_laws.congr one two id same) ∙ none.0, none_of_same one two same ids none.1)

module _ (calls : Calls) (invite : Id) where
  -- ---- the RSeqs that go out

  abbrev rseqs : List (ℕ × Message) → List ℕ
  rseqs given = map (λ (one : ℕ × Message). one.0) given

  abbrev sent_of : List CallOut → List (ℕ × Message)
  sent_of outs = filter_map (sent_reliably calls invite) outs

  ends_sent : (dialogs : List HeldDialog) → sent_of (map ended_notice dialogs) ≡ []
  ends_sent [] = refl
  ends_sent (dialog ∷ dialogs) = ends_sent dialogs

  dialogs_sent : (fresh success rejected : Bool) (one two three : Dialogs) (of : Id)
      (dialogs : Dialogs)
      → sent_of (cond {A = Dialogs × List CallOut} fresh (one, [])
      (cond success (two, []) (cond rejected (early_ended of dialogs) (three, [])))).1 ≡ []
  dialogs_sent true success rejected one two three of dialogs = refl
  dialogs_sent false true rejected one two three of dialogs = refl
  dialogs_sent false false true one two three of dialogs =
      ends_sent (filter (is_early_of of) (values_of dialogs))
  dialogs_sent false false false one two three of dialogs = refl

  -- a response, and nothing more
  one_sent : (id : Id) (key : Key) (response : Message) (outs : List CallOut)
      → sent_of outs ≡ []
      → rseqs (sent_of (out.Command id (order.Answer key response) ∷ outs))
      ≡ cond (is_id id invite) (option_to_list response.rseq) []
  one_sent id key response outs none =
      ap (λ more. rseqs (cons_option (cond (is_id id invite)
      (option_map (λ rseq. (rseq, response)) response.rseq) None) more)) none
      ∙ by_id (is_id id invite) response.rseq
    where
      by_id : (b : Bool) (o : Option ℕ)
          → rseqs (cons_option (cond b (option_map (λ rseq. (rseq, response)) o) None) [])
          ≡ cond b (option_to_list o) []
      by_id true None = refl
      by_id true (Some rseq) = refl
      by_id false o = refl

  -- ---- after so many of them

  -- To each held request of this id so many went out. It comes up no more if any did.
  record Stands (count : ℕ) (requests : List HeldRequest) (ids : List Id) : Type 0 where
    pub sound : Sound requests ids
    pub counted : HaveSent invite count requests
    pub fresh : (count ≡ 0) ⊎ NoneOf invite ids

  -- an input gives none, or the next one
  abbrev Steps : ℕ → List ℕ → List HeldRequest → List Id → Type 0
  Steps count given after ids =
      ((given ≡ []) × Stands count after ids)
      ⊎ ((given ≡ (count + 1) ∷ []) × Stands (count + 1) after ids)

  -- ---- a response of the user

  module _ (count : ℕ) (ids : List Id) (state : State) (event : Id) (r : Answer) (now : ℕ)
      (stands : Stands count state.requests ids) where
    abbrev Gives : List CallOut → List HeldRequest → Type 0
    Gives outs after =
        ((rseqs (sent_of outs) ≡ []) × HaveSent invite count after)
        ⊎ ((rseqs (sent_of outs) ≡ (count + 1) ∷ []) × HaveSent invite (count + 1) after
        × NoneOf invite ids)

    answer_gives : (held : HeldRequest) → find (has_id r.id) state.requests ≡ Some held
        → Gives (answer_given state event r now held).1
        ((answer_given state event r now held).0).requests
    answer_gives held at = by_id (is_id r.id invite) refl
      where
        response : Message
        response = answer_to state.local held r

        none_more : sent_of (dialogs_answered event held r.status response state.dialogs).1 ≡ []
        none_more =
            dialogs_sent (makes_dialog held r.status) (confirms_dialog held r.status)
            (rejects held r.status) _ _ state.dialogs held.id state.dialogs

        same_id : is_id held.id invite ≡ is_id r.id invite
        same_id = id_laws.congr held.id r.id invite (found_id r.id state.requests held at)

        gives : rseqs (sent_of (answer_given state event r now held).1)
            ≡ cond (is_id r.id invite) (option_to_list (next_rseq held r)) []
        gives =
            one_sent held.id held.key response
            (dialogs_answered event held r.status response state.dialogs).1 none_more
            ∙ (λ i. cond (same_id i) (option_to_list (answer_rseq state.local held r i)) [])

        next : is_id r.id invite ≡ true → held.ledger.next ≡ count + 1
        next own =
            found (HasSent invite count) (has_id r.id) state.requests held stands.counted at
            (same_id ∙ own)

        own_gives : is_id r.id invite ≡ true
            → Sends (next_rseq held r) held.ledger.next
            (change state event r now held held).ledger.next
            → Gives (answer_given state event r now held).1
            ((answer_given state event r now held).0).requests
        own_gives own (inl none) = inl (
          gives ∙ (λ i. cond (own i) (option_to_list (none.0 i)) []),
          own_changed invite r.id (change state event r now held) count own held
              (none.1 ∙ next own) state.requests stands.sound.apart at,
        )
        own_gives own (inr one) = inr (
          gives ∙ (λ i. cond (own i) (option_to_list (one.0 i)) [])
              ∙ ap (λ rseq. rseq ∷ []) (next own),
          own_changed invite r.id (change state event r now held) (count + 1) own held
              (one.1 ∙ ap (λ rseq. rseq + 1) (next own)) state.requests stands.sound.apart at,
          none_of_same held.id invite (same_id ∙ own) ids
              (of_found (λ id. NoneOf id ids) r.id state.requests held stands.sound.later at),
        )

        by_id : (b : Bool) → is_id r.id invite ≡ b
            → Gives (answer_given state event r now held).1
            ((answer_given state event r now held).0).requests
        by_id true own = own_gives own (sends_next r response now event held)
        by_id false other = inl (
          gives ∙ ap (λ b. cond b (option_to_list (next_rseq held r)) []) other,
          other_changed invite r.id (change state event r now held) count other
              (keeps state event r now held) state.requests stands.counted,
        )

    by_reason : (held : HeldRequest) → find (has_id r.id) state.requests ≡ Some held
        → (o : Option Refusal) → Gives (by_refusal state event r now held o).1
        ((by_refusal state event r now held o).0).requests
    by_reason held at (Some refusal) = inl (refl, stands.counted)
    by_reason held at None = answer_gives held at

    by_held : (o : Option HeldRequest) → find (has_id r.id) state.requests ≡ o
        → Gives (by_request state event r now o).1 ((by_request state event r now o).0).requests
    by_held None at = inl (refl, stands.counted)
    by_held (Some held) at = by_reason held at (refusal_for state.dialogs r held)

    response_steps : Steps count (rseqs (sent_of (respond_taken state event r now).1))
        ((respond_taken state event r now).0).requests ids
    response_steps = by_given (by_held (find (has_id r.id) state.requests) refl)
      where
        sound : Sound ((respond_taken state event r now).0).requests ids
        sound =
            same_sound ids state.requests ((respond_taken state event r now).0).requests
            stands.sound (respond_ids state event r now)

        by_given : Gives (respond_taken state event r now).1
            ((respond_taken state event r now).0).requests
            → Steps count (rseqs (sent_of (respond_taken state event r now).1))
            ((respond_taken state event r now).0).requests ids
        by_given (inl none) =
            inl (none.0, record { sound = sound; counted = none.1; fresh = stands.fresh })
        by_given (inr one) =
            inr (one.0, record { sound = sound; counted = one.1; fresh = inr one.2 })

  -- ---- any input

  -- if this request comes up, none went out to it before
  new_one : (count : ℕ) (id : Id) (ids : List Id) → (count ≡ 0) ⊎ NoneOf invite (id ∷ ids)
      → is_id id invite ≡ true → count ≡ 0
  new_one count id ids (inl none) own = none
  new_one count id ids (inr other) own =
      absurd (false≢true (sym other.0 ∙ id_laws.symm invite id ∙ own))

  later_ones : (count : ℕ) (id : Id) (ids : List Id) → (count ≡ 0) ⊎ NoneOf invite (id ∷ ids)
      → (count ≡ 0) ⊎ NoneOf invite ids
  later_ones count id ids (inl none) = inl none
  later_ones count id ids (inr other) = inr other.1

  module _ (call : Call) (count : ℕ) where
    up_stands : (id : Id) (now : ℕ) (up : AnUp) (k : UpKind) (ids : List Id)
        → IsDistinct is_id (cons_option (id_of_kind up.id k) ids)
        → Stands count (requests_of call) (cons_option (id_of_kind up.id k) ids)
        → Stands count (requests_of (up_taken call (event_of calls id now) up k).0) ids
    up_stands id now up (kind.Request request reply_to) ids differ stands =
        let arrival = arrival_of up request reply_to (made_tag (event_of calls id now)) in
        let taken = up_taken call (event_of calls id now) up (kind.Request request reply_to) in
        record {
          sound = adds_sound up.id ids (requests_of call) (requests_of taken.0) stands.sound
              (IsDistinct-head is_id up.id ids differ)
              (arrival_adds call.served up.call_id arrival now);
          counted = arrival_sent invite count call.served up.call_id arrival now
              (new_one count up.id ids stands.fresh) stands.counted;
          fresh = later_ones count up.id ids stands.fresh;
        }
    up_stands id now up (kind.Ack ack) ids differ stands =
        let taken = up_taken call (event_of calls id now) up (kind.Ack ack) in record {
          sound = same_sound ids (requests_of call) (requests_of taken.0) stands.sound
              (ack_ids call.served up.call_id ack);
          counted = ack_sent invite count call.served up.call_id ack stands.counted;
          fresh = stands.fresh;
        }
    up_stands id now up (kind.Response response) ids differ stands = stands
    up_stands id now up kind.Timeout ids differ stands = stands
    up_stands id now up kind.Failed ids differ stands = stands

    command_steps : (id : Id) (now : ℕ) (command : UserCommand) (ids : List Id)
        → Stands count (requests_of call) ids
        → Steps count (rseqs (given_in calls invite (Some (id, User command))
        (command_taken call (event_of calls id now) command).1))
        (requests_of (command_taken call (event_of calls id now) command).0) ids
    command_steps id now (Respond respond) ids stands =
        response_steps count ids call.served id respond now stands
    command_steps id now command ids stands = inl (refl, stands)

    tick_stands : (now : ℕ) (ids : List Id) → Stands count (requests_of call) ids
        → Stands count (requests_of (ticked call now).0) ids
    tick_stands now ids stands = record {
      sound = record {
        apart = apart_left now (requests_of call) stands.sound.apart;
        later = all_left now (λ id. NoneOf id ids) (requests_of call) stands.sound.later;
      };
      counted = tick_sent invite count call.served now stands.counted;
      fresh = stands.fresh;
    }

  kept_steps : (count : ℕ) (given : List ℕ) (ids : List Id) (taken : CallTaken)
      → Steps count given (requests_of taken.0) ids
      → Steps count given (requests_held (kept taken).0) ids
  kept_steps count given ids taken steps =
      subst (λ requests. Steps count given requests ids) (sym (kept_requests taken.0)) steps

  -- a command that begins a call gives none
  first_rseqs : (call : Call) (id : Id) (now : ℕ) (command : UserCommand)
      → rseqs (given_in calls invite (Some (id, User command))
      (first_command_taken call (event_of calls id now) command).1) ≡ []
  first_rseqs call id now (Respond respond) = refl
  first_rseqs call id now command = refl

  by_input_taken : (state : Option Call) (input : Option CallItem) (now count : ℕ)
      (ids : List Id) → IsDistinct is_id (cons_option (request_brought input) ids)
      → Stands count (requests_held state) (cons_option (request_brought input) ids)
      → Steps count (rseqs (given_in calls invite input (step_taken calls state input now).1))
      (requests_held (step_taken calls state input now).0) ids
  by_input_taken None None now count ids differ stands = inl (refl, stands)
  by_input_taken (Some call) None now count ids differ stands =
      kept_steps count [] ids (ticked call now)
      (inl (refl, tick_stands call count now ids stands))
  by_input_taken None (Some (id, Up up)) now count ids differ stands =
      let call = new_call calls.local in
      kept_steps count [] ids (up_taken call (event_of calls id now) up up.kind)
      (inl (refl, up_stands call count id now up up.kind ids differ stands))
  by_input_taken None (Some (id, User command)) now count ids differ stands =
      let call = new_call calls.local in
      let taken = first_command_taken call (event_of calls id now) command in
      kept_steps count _ ids taken (inl (
        first_rseqs call id now command,
        subst (λ requests. Stands count requests ids) (first_command calls id now command) stands,
      ))
  by_input_taken (Some call) (Some (id, Up up)) now count ids differ stands =
      kept_steps count [] ids (up_taken call (event_of calls id now) up up.kind)
      (inl (refl, up_stands call count id now up up.kind ids differ stands))
  by_input_taken (Some call) (Some (id, User command)) now count ids differ stands =
      kept_steps count _ ids (command_taken call (event_of calls id now) command)
      (command_steps call count id now command ids stands)

  by_input : (state : Option Call) (input : Option CallItem) (now count : ℕ) (ids : List Id)
      → IsDistinct is_id (cons_option (request_brought input) ids)
      → Stands count (requests_held state) (cons_option (request_brought input) ids)
      → Steps count (rseqs (given_in calls invite input (call_step calls state input now).1))
      (requests_held (call_step calls state input now).0) ids
  by_input state input now count ids differ stands =
      subst (λ (taken : Taken). Steps count (rseqs (given_in calls invite input taken.1))
      (requests_held taken.0) ids)
      (sym (same_step calls state input now))
      (by_input_taken state input now count ids differ stands)

  -- ---- all inputs

  goes_on : (count : ℕ) (given later : List ℕ) (after : List HeldRequest) (ids : List Id)
      → Steps count given after ids
      → ((more : ℕ) → Stands more after ids → following more later ≡ later)
      → following count (given ++ later) ≡ given ++ later
  goes_on count given later after ids (inl none) follows =
      subst (λ given. following count (given ++ later) ≡ given ++ later) (sym none.0)
      (follows count none.1)
  goes_on count given later after ids (inr one) follows =
      subst (λ given. following count (given ++ later) ≡ given ++ later) (sym one.0)
      (ap (λ b. cond b ((count + 1) ∷ following (count + 1) later) (following count later))
      (eq-eqb (count + 1) (count + 1) refl)
      ∙ ap (λ rseqs. (count + 1) ∷ rseqs) (follows (count + 1) one.1))

  -- each has the number after that of the one before it
  from : (inputs : List (Timed CallItem)) (state : Option Call) (count : ℕ)
      → RequestsDiffer inputs
      → Stands count (requests_held state)
      (filter_map (λ timed. request_brought timed.input) inputs)
      → following count (rseqs (given_from calls invite state inputs))
      ≡ rseqs (given_from calls invite state inputs)
  from [] state count differ stands = refl
  from (timed ∷ inputs) state count differ stands =
      let ids = filter_map (λ timed. request_brought timed.input) inputs in
      let step = call_step calls state timed.input timed.moment in
      subst (λ numbers. following count numbers ≡ numbers)
      (sym (map-append (λ (one : ℕ × Message). one.0)
      (given_in calls invite timed.input step.1) (given_from calls invite step.0 inputs)))
      (goes_on count (rseqs (given_in calls invite timed.input step.1))
      (rseqs (given_from calls invite step.0 inputs)) (requests_held step.0) ids
      (by_input state timed.input timed.moment count ids differ stands)
      (λ more so. from inputs step.0 more (rest_differ (request_brought timed.input) ids differ)
      so))

-- those that the user gave are 1, 2, 3 and so on, whether the request is still held or not
pub given_in_order : (calls : Calls) (request : Id) (inputs : List (Timed CallItem))
    → RequestsDiffer inputs
    → IsConsecutive (0 ∷ map (λ given. given.0) (given_from calls request None inputs))
given_in_order calls request inputs differ =
    let rseqs = map (λ (given : ℕ × Message). given.0) (given_from calls request None inputs) in
    subst (λ numbers. IsConsecutive (0 ∷ numbers))
    (from calls request inputs None 0 differ record {
      sound = record { apart = none_differ; later = tt };
      counted = tt;
      fresh = inl refl;
    })
    (consecutive (0 ∷ rseqs))
