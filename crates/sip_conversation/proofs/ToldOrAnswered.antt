-- A request that comes up to a call is told to the user, or the agent answers it by itself.
use Rattle.std.proofs.Common.{◌≡◌, ◌⊎◌, inl, inr, ⊎_elim, ℕ, Bool, true, false, List, [], ◌∷◌, ◌++◌, refl, sym, ap, ◌∙◌, subst, cond}
use Rattle.std.specs.Prelude.{◌&&◌, ◌||◌, ◌==◌, Contains, Option, None, Some, codes, find, length, not, if◌then◌else◌}
use Rattle.std.specs.List.{list_any}
use Rattle.std.specs.Option.{option_map_or}
use Rattle.std.specs.Map.{lookup, set_value}
use Rattle.std.proofs.lemmas.Bool.{false≢true}
use Rattle.std.proofs.lemmas.Cmp.{nat_list_cmp_total}
use Rattle.std.proofs.lemmas.Map.Lookups.{exact_bytes}
use Rattle.sip_message.specs.declared.addr.Addr.{Addr}
use Rattle.sip_message.specs.declared.id.Id.{Id}
use Rattle.sip_message.specs.declared.message.Message.{Message}
use Rattle.sip_message.specs.declared.rack.RAck.{RAck}
use Rattle.sip_message.specs.declared.start_line.StartLine.TheVariants.{Response}
use Rattle.sip_message.specs.Party.{tag_of}
use Rattle.keyed_machine.specs.Laws.{EachKeyAlone}
use Rattle.keyed_machine.specs.Machine.{Timed, given_at, outputs_from, tick_at}
use Rattle.keyed_machine.proofs.Ordered.{by_bool, exact_at}
use Rattle.sip_transactions.specs.declared.input.Command.TheVariants.{Answer}
use Rattle.sip_transactions.specs.declared.output.Up.{Up as AnUp}
use Rattle.sip_transactions.specs.declared.output.UpKind.{UpKind}
use Rattle.sip_transactions.specs.declared.output.UpKind.TheVariants as kind
use Rattle.sip_user.specs.declared.item.CallOut.{CallOut}
use Rattle.sip_user.specs.declared.item.CallOut.TheVariants.{Command, Notice}
use Rattle.sip_user.specs.declared.item.Item.{Item}
use Rattle.sip_user.specs.declared.item.Item.TheVariants.{Up}
use Rattle.sip_user.specs.declared.notice.Notice.{Notice as ANotice}
use Rattle.sip_user.specs.declared.notice.Notice.TheVariants.{Ended, Request}
use Rattle.sip_held_dialogs.specs.declared.held_dialog.DialogId.{DialogId}
use Rattle.sip_held_dialogs.specs.declared.held_dialog.HeldDialog.{HeldDialog}
use Rattle.sip_held_dialogs.specs.Dialogs.{Dialogs, dialog_at, dialog_changed, ended_at, ended_notice, is_dialog_id, tag_text}
use Rattle.sip_held_dialogs.specs.Requests.{dialog_id_of, dialog_id_of_tags, has_to_tag, is_bye, is_cancel, is_prack, is_unknown_option, local_tag_of}
use Rattle.sip_served.specs.declared.arrival.Arrival.{Arrival}
use Rattle.sip_served.specs.declared.held_request.HeldRequest.{HeldRequest}
use Rattle.sip_served.specs.Rules.Arrivals.{after_request, is_above, is_merged, is_named_by, no_such_call, prack_for, prack_received, request_for_user, request_in_dialog, request_received}
use Rattle.sip_served.specs.State.{State, ServedTaken}
use Rattle.sip_calls.specs.declared.call.Call.{Call}
use Rattle.sip_calls.specs.declared.calls.Calls.{Calls}
use Rattle.sip_calls.specs.Call.{CallItem, Taken, call_machine, call_step, event_of, kept, made_tag, new_call, received}
use Rattle.sip_calls.specs.CallShard.{call_cmp}
use Rattle.sip_calls.specs.Histories.{call_from}
use Rattle.sip_calls.specs.OwnCall.{call_of_notice}
use Rattle.sip_calls.specs.Provisionals.{side_held}
use Rattle.sip_round.specs.declared.config.Config.{Config}
use Rattle.sip_round.specs.declared.output.Output.TheVariants as output
use Rattle.sip_round.specs.declared.round.Round.{Round}
use Rattle.sip_round.specs.Answers.{answers as answers_of, calls_of, past_of}
use Rattle.sip_round.specs.Given.{all_given, is_notice_of, notice_in}
use Rattle.sip_round.specs.Laws.{call_inputs_of, said_of_call}
use Rattle.sip_round.proofs.GivenNotices.{notices_given}
use Rattle.sip_round.proofs.Said.{call_alone}
use Rattle.sip_conversation.specs.Messages.{ComesUp}
use Rattle.sip_conversation.specs.Delivery.{IsAnsweredThere, IsTold, is_own_status}
use Rattle.sip_conversation.proofs.AmongInputs.{out_of_one_input}
use Rattle.sip_conversation.proofs.UpTo.{stands_at}
use Rattle.sip_conversation.proofs.Among.{among_first, among_later, in_all_of, kept_among}

-- ---- a dialog that is held stays after a change

pub lookup_set : {K X : Type 0} (test : K → Bool) (entries : List (K × X)) (x y : X)
    → lookup test entries ≡ Some x → lookup test (set_value test entries y) ≡ Some y
lookup_set test [] x y is = absurd cc
lookup_set test (entry ∷ entries) x y is =
    by_bool (test entry.0)
    (λ here.
    ap (λ b. lookup test (cond b ((entry.0, y) ∷ entries) (entry ∷ set_value test entries y))) here
    ∙ ap (λ b. cond b (Some y) (lookup test entries)) here)
    (λ other.
    ap (λ b. lookup test (cond b ((entry.0, y) ∷ entries) (entry ∷ set_value test entries y))) other
    ∙ (ap (λ b. cond b (Some entry.1) (lookup test (set_value test entries y))) other
    ∙ lookup_set test entries x y
    (sym (ap (λ b. cond b (Some entry.1) (lookup test entries)) other) ∙ is)))

still_there : (name : DialogId) (change : HeldDialog → HeldDialog) (dialogs : Dialogs)
    (held : HeldDialog) → dialog_at name dialogs ≡ Some held
    → dialog_at name (dialog_changed name change dialogs) ≡ Some (change held)
still_there name change dialogs held is =
    ap (λ o. dialog_at name (option_map_or (λ held. set_value (is_dialog_id name) dialogs
    (change held)) o dialogs)) is
    ∙ lookup_set (is_dialog_id name) dialogs held (change held) is

not_so : (b : Bool) → not b ≡ true → b ≡ false
not_so true is = absurd (false≢true is)
not_so false is = refl

-- ---- one arrival

module _ (up : AnUp) (request : Message) (reply_to : Addr) (tag : List ℕ)
    (no_cancel : is_cancel request ≡ false) (all : Dialogs) where
  abbrev arrival : Arrival
  arrival = record {
    id = up.id;
    key = up.key;
    request = request;
    reply_to = reply_to;
    tag = tag;
  }

  -- the user is told; of a BYE, also that its dialog ends
  pub record TellsUser (outs : List CallOut) : Type 0 where
    pub told : Contains outs (Notice (Request up.call_id up.id request.cseq.method tag
        (tag_of request.from) request.body))
    pub ends : is_bye request ≡ true → (held : HeldDialog) × Contains outs (ended_notice held)

  -- 481 is given to a request in a dialog, other than PRACK, only if this isn't held
  abbrev pub Gone : ℕ → Type 0
  Gone status = status ≡ 481 → has_to_tag request ≡ true → is_prack request ≡ false
      → dialog_at (dialog_id_of request tag) all ≡ None

  other_status : (status : ℕ) → (status == 481) ≡ false → Gone status
  other_status status other is tagged plain =
      absurd (false≢true (sym other ∙ ap (λ n. n == 481) is))

  pub record Answers (outs : List CallOut) : Type 0 where
    pub status : ℕ
    pub reason : List ℕ
    pub response : Message
    pub sent : Contains outs (Command up.id (Answer up.key response))
    pub starts : response.start ≡ Response status reason
    pub empty : response.body ≡ []
    pub own : is_own_status request status ≡ true
    pub gone : Gone status

  abbrev pub IsFine : ServedTaken → Type 0
  IsFine taken = TellsUser taken.1 ⊎ Answers taken.1

  if_fine : (b : Bool) (x y : ServedTaken) → (b ≡ true → IsFine x) → (b ≡ false → IsFine y)
      → IsFine (if b then x else y)
  if_fine true x y first second = first refl
  if_fine false x y first second = second refl

  or_fine : {X : Type 0} (f : X → ServedTaken) (otherwise : ServedTaken) (o : Option X)
      → ((x : X) → o ≡ Some x → IsFine (f x)) → (o ≡ None → IsFine otherwise)
      → IsFine (option_map_or f o otherwise)
  or_fine f otherwise None each none = none refl
  or_fine f otherwise (Some x) each none = each x refl

  answers : (after : State) (status : ℕ) (reason : List ℕ) (response : Message)
      (others : List CallOut) → response.start ≡ Response status reason → response.body ≡ []
      → is_own_status request status ≡ true → Gone status
      → IsFine (after, Command up.id (Answer up.key response) ∷ others)
  answers after status reason response others starts empty own gone = inr record {
    status = status;
    reason = reason;
    response = response;
    sent = among_first (Command up.id (Answer up.key response)) others;
    starts = starts;
    empty = empty;
    own = own;
    gone = gone;
  }

  none_fine : (state : State) → Gone 481 → IsFine (no_such_call state arrival)
  none_fine state gone =
      answers state 481 (codes "Call/Transaction Does Not Exist") _ [] refl refl refl gone

  no_prack : is_prack request ≡ true → Gone 481
  no_prack prack is tagged other = absurd (false≢true (sym other ∙ prack))

  prack_fine : (state : State) (call_id : List ℕ) → is_prack request ≡ true → (rack : RAck)
      (invite : HeldRequest) → IsFine (prack_for state call_id arrival rack invite)
  prack_fine state call_id prack rack invite =
      answers (prack_for state call_id arrival rack invite).0 200 (codes "OK") _ _ refl refl prack
      (other_status 200 refl)

  rack_fine : (state : State) (call_id : List ℕ) (name : DialogId) (created_by : Id)
      → is_prack request ≡ true → (o : Option RAck)
      → IsFine (prack_received state call_id name created_by arrival o)
  rack_fine state call_id name created_by prack None = none_fine state (no_prack prack)
  rack_fine state call_id name created_by prack (Some rack) =
      or_fine (prack_for state call_id arrival rack) (no_such_call state arrival)
      (find (is_named_by rack name created_by) state.requests)
      (λ invite is. prack_fine state call_id prack rack invite)
      (λ none. none_fine state (no_prack prack))

  -- for the user: a BYE is in a dialog, or comes without a To tag
  user_fine : (state : State) (name : DialogId)
      → (is_bye request ≡ true → (has_to_tag request ≡ true)
      × ((held : HeldDialog) × (dialog_at name state.dialogs ≡ Some held)))
      → IsFine (request_for_user state up.call_id name arrival)
  user_fine state name inside =
      inl record {
        told = among_first _ _;
        ends = λ bye.
            let held = (inside bye).1 in (
              held.0,
              among_later _ _ (ended_notice held.0)
                  (subst (λ (after : Dialogs × List CallOut). Contains after.1 (ended_notice held.0))
                  (sym (ap (λ b. cond {A = Dialogs × List CallOut} b
                  (ended_at name state.dialogs) (state.dialogs, []))
                  (ap (λ b. b && is_bye request) (inside bye).0 ∙ bye)))
                  (subst (λ o. Contains (option_map_or (λ held. ended_notice held ∷ []) o [])
                  (ended_notice held.0)) (sym held.1) (among_first (ended_notice held.0) []))),
            );
      }

  inside_fine : (state : State) (name : DialogId) → has_to_tag request ≡ true
      → (held : HeldDialog) → dialog_at name state.dialogs ≡ Some held
      → IsFine (request_in_dialog state up.call_id name arrival held)
  inside_fine state name tagged held is =
      let dialogs = dialog_changed name (after_request request) state.dialogs in
      let noted : State = record state { dialogs = dialogs } in
      if_fine (not (is_above held request.cseq.number)) _ _
      (λ e. answers state 500 (codes "Server Internal Error") _ [] refl refl refl
      (other_status 500 refl))
      (λ e. if_fine (is_prack request) _ _
      (λ prack. rack_fine noted up.call_id name held.created_by prack request.rack)
      (λ no_prack. user_fine noted name (λ bye. (
        tagged,
        (
          after_request request held,
          still_there name (after_request request) state.dialogs held is,
        ),
      ))))

  no_bye : (x y : Bool) → (x || y) ≡ false → x ≡ true → ⊥
  no_bye true y e is = false≢true (sym e)
  no_bye false y e is = false≢true is

  pub fine : (state : State) → state.dialogs ≡ all → (now : ℕ)
      → IsFine (request_received state up.call_id arrival now)
  unfolding request_received
  fine state same now =
      let name = dialog_id_of request tag in
      if_fine (is_cancel request) _ _
      (λ cancel. absurd (false≢true (sym no_cancel ∙ cancel)))
      (λ no_cancel. if_fine (not (has_to_tag request)
      && list_any (is_merged request) state.requests) _ _
      (λ e. answers state 482 (codes "Loop Detected") _ [] refl refl refl (other_status 482 refl))
      (λ e. if_fine (list_any is_unknown_option request.require) _ _
      (λ f. answers state 420 (codes "Bad Extension") _ [] refl refl refl (other_status 420 refl))
      (λ f. if_fine (has_to_tag request) _ _
      (λ tagged. or_fine (request_in_dialog state up.call_id name arrival)
      (no_such_call state arrival) (dialog_at name state.dialogs)
      (inside_fine state name tagged)
      (λ none. none_fine state (λ is so plain. ap (dialog_at name) (sym same) ∙ none)))
      (λ g. if_fine (is_bye request || is_prack request) _ _
      (λ h. none_fine state (λ is tagged plain. absurd (false≢true (sym g ∙ tagged))))
      (λ h. user_fine state name
      (λ bye. absurd (no_bye (is_bye request) (is_prack request) h bye)))))))

-- ---- one input of a call

abbrev of_state : Calls → Option Call → Call
of_state calls None = new_call calls.local
of_state calls (Some call) = call

as_received : (calls : Calls) (state : Option Call) (event : Id) (up : AnUp) (now : ℕ)
    → call_step calls state (Some (event, Up up)) now
    ≡ kept (received (of_state calls state) (event_of calls event now) up up.kind)
as_received calls None event up now = refl
as_received calls (Some call) event up now = refl

-- what a call gives to a request that comes up
pub record FineAt (up : AnUp) (request : Message) (reply_to : Addr)
    (no_cancel : is_cancel request ≡ false) (dialogs : Dialogs) (outs : List CallOut) : Type 0
  where
    pub tag : List ℕ
    pub fine : TellsUser up request reply_to tag no_cancel dialogs outs
        ⊎ Answers up request reply_to tag no_cancel dialogs outs

-- the dialogs of what is held, if anything is
held_dialogs : (calls : Calls) (state : Option Call)
    → ((of_state calls state).served).dialogs ≡ (side_held state).dialogs
held_dialogs calls None = refl
held_dialogs calls (Some call) = refl

fine_at : (calls : Calls) (state : Option Call) (event : Id) (up : AnUp) (request : Message)
    (reply_to : Addr) (no_cancel : is_cancel request ≡ false) (now : ℕ)
    → up.kind ≡ kind.Request request reply_to
    → FineAt up request reply_to no_cancel (side_held state).dialogs
    (call_step calls state (Some (event, Up up)) now).1
fine_at calls state event up request reply_to no_cancel now is =
    let call = of_state calls state in
    let tag = local_tag_of request (made_tag (event_of calls event now)) in
    let all = (side_held state).dialogs in
    record {
      tag = tag;
      fine = subst (λ (outs : List CallOut). TellsUser up request reply_to tag no_cancel all outs
          ⊎ Answers up request reply_to tag no_cancel all outs)
          (sym (ap (λ (taken : Taken). taken.1) (as_received calls state event up now
          ∙ ap (λ (k : UpKind). kept (received call (event_of calls event now) up k)) is)))
          (fine up request reply_to tag no_cancel all call.served (held_dialogs calls state) now);
    }

-- ---- in rounds

module _ (config : Config) (rounds : List Round)
    (alone : EachKeyAlone call_cmp (call_machine (calls_of config)) tick_at) (call_id : List ℕ)
  where
    abbrev calls : Calls
    calls = calls_of config

    pub in_call : (now : ℕ) (event : Id) (item : Item)
        → Contains (call_inputs_of config rounds call_id) (given_at now (event, item))
        → (before after : List (Timed CallItem))
        × (call_inputs_of config rounds call_id ≡ before ++ given_at now (event, item) ∷ after)
        × ((out : CallOut)
        → Contains (call_step calls (call_from calls None before) (Some (event, item)) now).1 out
        → Contains (said_of_call config rounds call_id) out)
    in_call now event item among =
        let timed : Timed CallItem = given_at now (event, item) in
        let at = stands_at (call_inputs_of config rounds call_id) timed among in (
          at.before,
          at.after,
          at.are,
          λ out gives.
              subst (λ outs. Contains outs out)
              (sym (call_alone calls alone [] (past_of config rounds).calls call_id))
              (subst (λ inputs. Contains (outputs_from (call_machine calls) call_id None inputs) out)
              (sym at.are)
              (out_of_one_input calls call_id at.before timed at.after out gives)),
        )

    -- a notice of a call is given
    pub record IsGivenTo (told : ANotice) : Type 0 where
      pub given : Contains (all_given (answers_of config rounds)) (output.Notice told)
      pub own : call_id ≡ call_of_notice told

    pub notice_given : (told : ANotice) → Contains (said_of_call config rounds call_id) (Notice told)
        → IsGivenTo told
    notice_given told among =
        let kept = kept_among (is_notice_of call_id) (all_given (answers_of config rounds))
        (output.Notice told)
        (subst (λ outs. Contains outs (output.Notice told)) (sym (notices_given config rounds call_id))
        (in_all_of notice_in (said_of_call config rounds call_id) (Notice told) (output.Notice told)
        among (among_first (output.Notice told) []))) in
        record {
          given = kept.0;
          own = exact_at nat_list_cmp_total exact_bytes call_id (call_of_notice told) kept.1;
        }

    module _ (up : AnUp) (request : Message) (reply_to : Addr)
        (no_cancel : is_cancel request ≡ false) (call_is : request.call_id ≡ call_id) where
      tells : (tag : List ℕ) (dialogs : Dialogs) (outs : List CallOut)
          → ((out : CallOut) → Contains outs out → Contains (said_of_call config rounds call_id) out)
          → TellsUser up request reply_to tag no_cancel dialogs outs
          → IsTold config rounds request up.id
      tells tag dialogs outs said user =
          let told = notice_given (Request up.call_id up.id request.cseq.method tag
          (tag_of request.from) request.body) (said _ user.told) in
          record {
            tag = tag;
            told = subst (λ (of : List ℕ). Contains (all_given (answers_of config rounds))
                (output.Notice (Request of up.id request.cseq.method tag (tag_of request.from)
                request.body))) (sym told.own ∙ sym call_is) told.given;
            ends = λ bye.
                let held = user.ends bye in
                let dialog = (held.0).dialog in
                let ended = notice_given (Ended dialog.call_id (tag_text dialog.local.tag)
                (tag_text dialog.remote.tag)) (said (ended_notice held.0) held.1) in (
                  tag_text dialog.local.tag,
                  tag_text dialog.remote.tag,
                  subst (λ (of : List ℕ). Contains (all_given (answers_of config rounds))
                      (output.Notice (Ended of (tag_text dialog.local.tag)
                      (tag_text dialog.remote.tag)))) (sym ended.own ∙ sym call_is) ended.given,
                );
          }

      -- the dialog of a request with a To tag
      tagged_name : (tag : List ℕ) → has_to_tag request ≡ true
          → dialog_id_of request tag ≡ dialog_id_of_tags (tag_of request.to) (tag_of request.from)
      tagged_name tag tagged =
          ap (λ b. dialog_id_of_tags (if b then tag else tag_of request.to) (tag_of request.from))
          (not_so (length (tag_of request.to) == 0) tagged)

      responds : (now : ℕ) (event : Id) (before after : List (Timed CallItem))
          → call_inputs_of config rounds call_id ≡ before ++ given_at now (event, Up up) ∷ after
          → (tag : List ℕ) (outs : List CallOut)
          → ((out : CallOut) → Contains outs out → Contains (said_of_call config rounds call_id) out)
          → Answers up request reply_to tag no_cancel
          (side_held (call_from calls None before)).dialogs outs
          → IsAnsweredThere config rounds request up.id up.key
      responds now event before after are tag outs said answer = record {
        status = answer.status;
        reason = answer.reason;
        response = answer.response;
        sent = (call_id, said (Command up.id (Answer up.key answer.response)) answer.sent);
        starts = answer.starts;
        empty = answer.empty;
        own = answer.own;
        gone = λ is tagged plain. record {
          before = before;
          now = now;
          event = event;
          up = up;
          after = after;
          inputs_are = ap (call_inputs_of config rounds) call_is ∙ are;
          names = refl;
          none = ap (λ name. dialog_at name (side_held (call_from calls None before)).dialogs)
              (sym (tagged_name tag tagged)) ∙ answer.gone is tagged plain;
        };
      }

      -- the user is told of a request that comes up, or the agent answers it by itself
      pub told_or_answered : up.kind ≡ kind.Request request reply_to
          → ComesUp config rounds call_id up
          → IsTold config rounds request up.id ⊎ IsAnsweredThere config rounds request up.id up.key
      told_or_answered is comes =
          let own = in_call comes.0 comes.1 (Up up) comes.2 in
          let state = call_from calls None own.0 in
          let outs = (call_step calls state (Some (comes.1, Up up)) comes.0).1 in
          let so = fine_at calls state comes.1 up request reply_to no_cancel comes.0 is in
          ⊎_elim (λ user. inl (tells so.tag (side_held state).dialogs outs own.3 user))
          (λ answer. inr (responds comes.0 comes.1 own.0 own.1 own.2 so.tag outs own.3 answer))
          so.fine
