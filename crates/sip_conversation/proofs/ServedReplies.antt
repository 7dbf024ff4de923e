-- Whatever comes to the server side of a call: each answer that goes out is to a request that came
-- up to it. It is one of the user, whose command has the id of that request, or its own, for which
-- there is a reason. The user is told of an ACK or a CANCEL only for an INVITE that came up.
use mathlib.Core.List.{reverse-cons}
use Rattle.std.proofs.Common.{◌≡◌, ℕ, Bool, true, false, ◌&&◌, ◌||◌, ◌==◌, not, List, [], ◌∷◌, ◌++◌, map, refl, sym, ap, subst}
use Rattle.std.specs.Prelude.{Contains, IfSome, Option, None, Some, codes, filter, find, is_none, nat_le, reverse, if◌then◌else◌}
use Rattle.std.specs.List.{AllByRecursion, flat_map, join_by, list_any}
use Rattle.std.specs.Map.{values_of}
use Rattle.std.specs.Option.{option_map_or}
use Rattle.sip_message.specs.Party.{tag_of}
use Rattle.sip_message.specs.Response.{answering_to, response_of}
use Rattle.sip_message.specs.declared.addr.Addr.{Addr}
use Rattle.sip_message.specs.declared.id.Id.{Id}
use Rattle.sip_message.specs.declared.message.Message.{Message}
use Rattle.sip_message.specs.declared.rack.RAck.{RAck}
use Rattle.sip_reliable.specs.Ledger.{Ledger}
use Rattle.sip_reliable.specs.Provisional.{is_late, is_repeated}
use Rattle.sip_transactions.specs.declared.input.Command.TheVariants as order
use Rattle.sip_transactions.specs.declared.output.Up.{Up as AnUp}
use Rattle.sip_transactions.specs.declared.output.UpKind.{UpKind}
use Rattle.sip_transactions.specs.declared.output.UpKind.TheVariants as kind
use Rattle.sip_transactions.proofs.RowFacts.{and-left, and-right}
use Rattle.sip_held_dialogs.specs.Dialogs.{Dialogs, dialog_at, dialog_changed, early_ended, ended_at, ended_notice, is_early_of}
use Rattle.sip_held_dialogs.specs.Ids.{is_id}
use Rattle.sip_held_dialogs.specs.Requests.{dialog_id_of, has_to_tag, is_bye, is_cancel, is_final, is_invite, is_prack, is_success, is_unknown_option}
use Rattle.sip_held_dialogs.specs.declared.held_dialog.DialogId.{DialogId}
use Rattle.sip_held_dialogs.specs.declared.held_dialog.HeldDialog.{HeldDialog}
use Rattle.sip_held_dialogs.proofs.Each.{both, filtered, found}
use Rattle.sip_user.specs.declared.command.Respond.{Respond}
use Rattle.sip_user.specs.declared.item.CallOut.{CallOut}
use Rattle.sip_user.specs.declared.item.CallOut.TheVariants as out
use Rattle.sip_user.specs.declared.notice.Notice.{Notice}
use Rattle.sip_user.specs.declared.notice.Notice.TheVariants as notice
use Rattle.sip_served.specs.Arrival.{arrival_of}
use Rattle.sip_served.specs.Rules.Arrivals.{ack_for, ack_received, after_487, after_ack, after_prack, after_request, awaits, bad_extension, cancel_for, cancel_received, is_above, is_merged, is_named_by, is_same_branch, no_such_call, own_response, prack_for, prack_received, request_for_user, request_in_dialog, request_received, server_received}
use Rattle.sip_served.specs.Rules.Responses.{dialogs_after, held_after, makes_dialog, is_sent_reliably, refuse, respond_command, respond_to, response_refusal, response_sent, success_sent}
use Rattle.sip_served.specs.Rules.Ticks.{provisionals_tick, server_tick, success_at, success_tick}
use Rattle.sip_served.specs.Respond.{respond_taken}
use Rattle.sip_served.specs.State.{ServedTaken, State, changed_at, has_id}
use Rattle.sip_served.specs.Step.{kind_taken}
use Rattle.sip_served.specs.Tick.{tick_taken}
use Rattle.sip_served.specs.declared.arrival.Arrival.{Arrival}
use Rattle.sip_served.specs.declared.held_request.HeldRequest.{HeldRequest}
use Rattle.sip_served.specs.declared.held_request.Success.{Success}
use Rattle.sip_served.specs.declared.provisionals.ReliableResponse.{ReliableResponse}
use Rattle.sip_served.proofs.ArrivalRules.{kind_same}
use Rattle.sip_served.proofs.FirstChanged.{first_changed}
use Rattle.sip_served.proofs.Found.{found_id}
use Rattle.sip_served.proofs.ResponseRules.{respond_same}
use Rattle.sip_served.proofs.TickRules.{tick_same}
use Rattle.sip_clients.specs.Clients.{status_of}
use Rattle.sip_user.specs.declared.refusal.Refusal.TheVariants.{NoSuchRequest}
use Rattle.sip_conversation.proofs.Among.{among_first}
use Rattle.sip_conversation.proofs.Branches.{either, found_or}
use Rattle.sip_conversation.proofs.PracksCame.{arrived, equal, was_sent}
use Rattle.sip_conversation.proofs.PracksServed.{found_so}

-- a notice of anything but a request, a response, an ACK, a PRACK or a CANCEL
abbrev pub IsOther : Notice → Type 0
IsOther (notice.Request call_id id method local_tag remote_tag body) = ⊥
IsOther (notice.Response call_id id status local_tag remote_tag body) = ⊥
IsOther (notice.Ack call_id id body) = ⊥
IsOther (notice.Prack call_id id rseq body) = ⊥
IsOther (notice.Cancel call_id id) = ⊥
IsOther _ = Unit {0}

same_id : (one two : Id) → is_id one two ≡ true → one ≡ two
same_id one two is =
    let round = equal one.round two.round
    (and-left (one.round == two.round) (one.place == two.place) is) in
    let place = equal one.place two.place
    (and-right (one.round == two.round) (one.place == two.place) is) in
    (λ i. record { round = round i; place = place i })

-- ---- what a request is for

-- a request that may be for a dialog, or for a request, that isn't held
abbrev pub is_for_another : Message → Bool
is_for_another request =
    has_to_tag request || is_bye request || is_prack request || is_cancel request

in_dialog_one : (request : Message) → has_to_tag request ≡ true → is_for_another request ≡ true
in_dialog_one request is =
    ap (λ b. b || is_bye request || is_prack request || is_cancel request) is

bye_or_prack : (request : Message) → (is_bye request || is_prack request) ≡ true
    → is_for_another request ≡ true
bye_or_prack request is =
    by_parts (has_to_tag request) (is_bye request) (is_prack request) (is_cancel request) is
  where
    by_parts : (a b c d : Bool) → (b || c) ≡ true → (a || b || c || d) ≡ true
    by_parts true b c d is = refl
    by_parts false true c d is = refl
    by_parts false false true d is = refl
    by_parts false false false d is = absurd cc

cancel_one : (request : Message) → is_cancel request ≡ true → is_for_another request ≡ true
cancel_one request is =
    by_parts (has_to_tag request) (is_bye request) (is_prack request) (is_cancel request) is
  where
    by_parts : (a b c d : Bool) → d ≡ true → (a || b || c || d) ≡ true
    by_parts true b c d is = refl
    by_parts false true c d is = refl
    by_parts false false true d is = refl
    by_parts false false false d is = is

first_of_two : (one two : Bool) → one ≡ true → (one || two) ≡ true
first_of_two one two is = ap (λ b. b || two) is

second_of_two : (one two : Bool) → two ≡ true → (one || two) ≡ true
second_of_two true two is = refl
second_of_two false two is = is

neither : (one two : Bool) → (one || two) ≡ false → two ≡ false
neither true two none = absurd cc
neither false two none = none

not_so : (b : Bool) → not b ≡ true → b ≡ false
not_so true is = absurd cc
not_so false is = refl

it_is_so : (b : Bool) → not b ≡ false → b ≡ true
it_is_so true is = refl
it_is_so false is = absurd cc

-- a PRACK, with this RAck
pub record IsPrackOf (request : Message) (rack : RAck) : Type 0 where
  pub is_prack : is_prack request ≡ true
  pub has_rack : request.rack ≡ Some rack

module _ (Brought : Arrival → Type 0) where
  -- a CANCEL came for this INVITE
  pub record Cancels (cancel invite : Arrival) : Type 0 where
    pub brought : Brought cancel
    pub is_cancel : is_cancel cancel.request ≡ true
    pub is_invite : is_invite invite.request ≡ true
    pub branch_is : is_same_branch cancel.key invite.key ≡ true

module _ (Brought : Arrival → Type 0) (Given : Arrival → Message → Type 0) where
  -- ---- the answers

  -- the answers that the agent gives by itself to requests that came
  pub record OwnReplies : Type 0 where
    pub merged : (arrival : Arrival) → Brought arrival → has_to_tag arrival.request ≡ false
        → Given arrival (response_of arrival.request 482 (codes "Loop Detected") arrival.tag)
    pub extension : (arrival : Arrival) → Brought arrival
        → list_any is_unknown_option arrival.request.require ≡ true
        → Given arrival
        (record (response_of arrival.request 420 (codes "Bad Extension") arrival.tag) {
          others = record {
            name = codes "Unsupported";
            value = join_by (λ option. option) (codes ", ")
                (filter is_unknown_option arrival.request.require);
          } ∷ [];
        })
    pub no_dialog : (arrival : Arrival) → Brought arrival
        → is_for_another arrival.request ≡ true
        → Given arrival
        (response_of arrival.request 481 (codes "Call/Transaction Does Not Exist") arrival.tag)
    pub out_of_order : (arrival : Arrival) → Brought arrival → has_to_tag arrival.request ≡ true
        → Given arrival
        (response_of arrival.request 500 (codes "Server Internal Error") arrival.tag)
    pub accepted : (arrival : Arrival) (tag : List ℕ) → Brought arrival
        → (is_prack arrival.request || is_cancel arrival.request) ≡ true
        → Given arrival (response_of arrival.request 200 (codes "OK") tag)
    pub terminated : (invite cancel : Arrival) → Brought invite → Cancels Brought cancel invite
        → Given invite (response_of invite.request 487 (codes "Request Terminated") invite.tag)

  -- each answer by this command that is among what goes out is one that was given to the request
  -- of its id
  abbrev pub RespondGiven : Respond → List CallOut → Type 0
  RespondGiven respond outs = (local : Addr) (held : HeldRequest) → Brought (arrived held)
      → respond.id ≡ held.id
      → Contains outs
      (out.Command held.id (order.Answer held.key (response_sent local held respond)))
      → Given (arrived held) (response_sent local held respond)

  -- a 2xx was given to this request
  pub record IsSuccessTo (invite : Arrival) (response : Message) : Type 0 where
    pub given : Given invite response
    pub status : ℕ
    pub status_is : status_of response.start ≡ Some status
    pub success : is_success status ≡ true
    pub to : response.to ≡ answering_to invite.request.to status invite.tag

  abbrev SuccessFits : Arrival → Option Success → Type 0
  SuccessFits invite o = IfSome o (λ success. IsSuccessTo invite success.response)

  abbrev ProvisionalFits : Arrival → ReliableResponse → Type 0
  ProvisionalFits invite one = Given invite one.response

  -- ---- what is held

  -- a held request came up, and keeps answers that were given to it
  pub record KeepsGiven (held : HeldRequest) : Type 0 where
    pub came : Brought (arrived held)
    pub success : SuccessFits (arrived held) held.success
    pub provisionals : AllByRecursion (ProvisionalFits (arrived held)) held.provisionals

  abbrev pub StateGiven : State → Type 0
  StateGiven state = AllByRecursion KeepsGiven state.requests

  changed_given : (id : Id) (change : HeldRequest → HeldRequest)
      → ((held : HeldRequest) → KeepsGiven held → KeepsGiven (change held))
      → (requests : List HeldRequest) → AllByRecursion KeepsGiven requests
      → AllByRecursion KeepsGiven (changed_at id change requests)
  changed_given id change keeps requests all =
      first_changed KeepsGiven (has_id id) change keeps requests all

  prack_keeps : (rseq : ℕ) (held : HeldRequest) → KeepsGiven held
      → KeepsGiven (after_prack rseq held)
  prack_keeps rseq held keeps = record {
    came = keeps.came;
    success = keeps.success;
    provisionals = filtered (ProvisionalFits (arrived held)) (λ one. not (one.number == rseq))
        held.provisionals keeps.provisionals;
  }

  ack_keeps : (held : HeldRequest) → KeepsGiven held → KeepsGiven (after_ack held)
  ack_keeps held keeps = record {
    came = keeps.came;
    success = by_success held.success keeps.success;
    provisionals = keeps.provisionals;
  }
    where
      by_success : (o : Option Success) → SuccessFits (arrived held) o
          → SuccessFits (arrived held) (after_ack (record held { success = o })).success
      by_success None fits = tt
      by_success (Some success) fits = fits

  cancel_keeps : (now : ℕ) (held : HeldRequest) → KeepsGiven held
      → KeepsGiven (after_487 now held)
  cancel_keeps now held keeps =
      record { came = keeps.came; success = keeps.success; provisionals = keeps.provisionals }

  answer_keeps : (event : Id) (held : HeldRequest) (respond : Respond) (response : Message)
      (now : ℕ) → Given (arrived held) response → status_of response.start ≡ Some respond.status
      → response.to ≡ answering_to held.request.to respond.status held.tag → KeepsGiven held
      → KeepsGiven (held_after event held respond response now)
  answer_keeps event held respond response now here is to keeps =
      either KeepsGiven (is_sent_reliably held respond) _ _
      (λ reliable. record {
        came = keeps.came;
        success = keeps.success;
        provisionals = both (ProvisionalFits (arrived held)) held.provisionals _
            keeps.provisionals (here, tt);
      })
      (λ plain. either KeepsGiven (is_final respond.status) _ _
      (λ final. record {
        came = keeps.came;
        success = either (SuccessFits (arrived held))
            (is_invite held.request && is_success respond.status)
            (Some (success_sent response now)) held.success
            (λ succeeds. record {
              given = here;
              status = respond.status;
              status_is = is;
              success = and-right (is_invite held.request) (is_success respond.status) succeeds;
              to = to;
            })
            (λ other. keeps.success);
        provisionals = keeps.provisionals;
      })
      (λ other.
      record { came = keeps.came; success = keeps.success; provisionals = keeps.provisionals }))

module _ (Own : List ℕ → Type 0) (Brought : Arrival → Type 0) (AckCame : Message → Type 0) where
  -- what comes up under such a Call-ID, as a request or an ACK; a tag may be made for it
  abbrev pub KindBrought : List ℕ → AnUp → UpKind → Type 0
  KindBrought made up (kind.Request request reply_to) =
      Own up.call_id × Brought (arrival_of up request reply_to made)
  KindBrought made up (kind.Ack ack) = Own up.call_id × AckCame ack
  KindBrought made up (kind.Response response) = Unit {0}
  KindBrought made up kind.Timeout = Unit {0}
  KindBrought made up kind.Failed = Unit {0}

module _ (Own : List ℕ → Type 0) (Brought : Arrival → Type 0) (AckCame : Message → Type 0)
    (Given : Arrival → Message → Type 0) where
  -- an ACK came for the 2xx to this INVITE
  pub record Acknowledges (ack : Message) (held : HeldRequest) : Type 0 where
    pub came : AckCame ack
    pub keeps : KeepsGiven Brought Given held
    pub awaits : awaits ack held ≡ true

  -- what is said of each notice that may go out, and of each answer
  pub record AllowsServed (P : CallOut → Type 0) : Type 0 where
    pub told : (one : Notice) → IsOther one → P (out.Notice one)
    pub request : (call_id : List ℕ) (arrival : Arrival) → Own call_id → Brought arrival
        → is_cancel arrival.request ≡ false → is_prack arrival.request ≡ false
        → P (out.Notice (notice.Request call_id arrival.id arrival.request.cseq.method arrival.tag
        (tag_of arrival.request.from) arrival.request.body))
    pub prack : (call_id : List ℕ) (arrival : Arrival) (invite : Id) (rack : RAck)
        → Own call_id → Brought arrival → IsPrackOf arrival.request rack
        → P (out.Notice (notice.Prack call_id invite rack.rseq arrival.request.body))
    pub ack : (call_id : List ℕ) (ack : Message) (held : HeldRequest) → Own call_id
        → Acknowledges ack held → P (out.Notice (notice.Ack call_id held.id ack.body))
    pub cancel : (call_id : List ℕ) (invite cancel : Arrival) → Own call_id → Brought invite
        → Cancels Brought cancel invite → P (out.Notice (notice.Cancel call_id invite.id))
    pub answer : (invite : Arrival) {message : Message} → Given invite message
        → P (out.Command invite.id (order.Answer invite.key message))

  module _ (P : CallOut → Type 0) (allows : AllowsServed P) where
    abbrev Held : HeldRequest → Type 0
    Held = KeepsGiven Brought Given

    abbrev Holds : State → Type 0
    Holds = StateGiven Brought Given

    abbrev Kept : HeldRequest → ReliableResponse → Type 0
    Kept held = ProvisionalFits Brought Given (arrived held)

    abbrev pub Fit : List CallOut → Type 0
    Fit outs = AllByRecursion P outs

    abbrev pub Done : ServedTaken → Type 0
    Done taken = Holds taken.0 × Fit taken.1

    -- ---- the ends of dialogs

    end_fits : (held : HeldDialog) → P (ended_notice held)
    end_fits held = allows.told _ tt

    ends_fit : (dialogs : List HeldDialog) → Fit (map ended_notice dialogs)
    ends_fit [] = tt
    ends_fit (held ∷ dialogs) = (end_fits held, ends_fit dialogs)

    early_fit : (invite : Id) (dialogs : Dialogs) → Fit (early_ended invite dialogs).1
    early_fit invite dialogs = ends_fit (filter (is_early_of invite) (values_of dialogs))

    ended_fit : (name : DialogId) (dialogs : Dialogs) → Fit (ended_at name dialogs).1
    ended_fit name dialogs =
        found_or Fit _ (dialog_at name dialogs) [] (λ held is. (end_fits held, tt)) (λ none. tt)

    replies : (arrival : Arrival) {response : Message} → Given arrival response
        → P (out.Command arrival.id (order.Answer arrival.key response))
    replies arrival here = allows.answer arrival here

    module _ (own : OwnReplies Brought Given) where
      -- ---- a request that comes up

      no_call_done : (state : State) (arrival : Arrival) → Brought arrival
          → is_for_another arrival.request ≡ true → Holds state
          → Done (no_such_call state arrival)
      no_call_done state arrival came is all =
          (all, (replies arrival (own.no_dialog arrival came is), tt))

      user_done : (state : State) (call_id : List ℕ) (name : DialogId) (arrival : Arrival)
          → Own call_id → Brought arrival → is_cancel arrival.request ≡ false
          → is_prack arrival.request ≡ false → Holds state
          → Done (request_for_user state call_id name arrival)
      user_done state call_id name arrival its came none other all =
          let request = arrival.request in (
            both Held state.requests _ all
                (record { came = came; success = tt; provisionals = tt }, tt),
            (
              allows.request call_id arrival its came none other,
              either (λ (after : Dialogs × List CallOut). Fit after.1)
                  (has_to_tag request && is_bye request) (ended_at name state.dialogs)
                  (state.dialogs, []) (λ ends. ended_fit name state.dialogs) (λ stays. tt),
            ),
          )

      prack_done : (state : State) (call_id : List ℕ) (name : DialogId) (created_by : Id)
          (arrival : Arrival) (rack : Option RAck) → arrival.request.rack ≡ rack
          → Own call_id → Brought arrival → is_prack arrival.request ≡ true
          → has_to_tag arrival.request ≡ true → Holds state
          → Done (prack_received state call_id name created_by arrival rack)
      prack_done state call_id name created_by arrival None has its came is tagged all =
          no_call_done state arrival came (in_dialog_one arrival.request tagged) all
      prack_done state call_id name created_by arrival (Some rack) has its came is tagged all =
          found_or Done (prack_for state call_id arrival rack)
          (find (is_named_by rack name created_by) state.requests) (no_such_call state arrival)
          (λ invite found. (
            changed_given Brought Given invite.id (after_prack rack.rseq)
                (prack_keeps Brought Given rack.rseq) state.requests all,
            (
              replies arrival (own.accepted arrival arrival.tag came
                  (first_of_two (is_prack arrival.request) (is_cancel arrival.request) is)),
              (
                allows.prack call_id arrival invite.id rack its came
                    (record { is_prack = is; has_rack = has }),
                tt,
              ),
            ),
          ))
          (λ none. no_call_done state arrival came (in_dialog_one arrival.request tagged) all)

      inside_done : (state : State) (call_id : List ℕ) (name : DialogId) (arrival : Arrival)
          (held : HeldDialog) → Own call_id → Brought arrival
          → is_cancel arrival.request ≡ false
          → has_to_tag arrival.request ≡ true → Holds state
          → Done (request_in_dialog state call_id name arrival held)
      inside_done state call_id name arrival held its came none tagged all =
          let request = arrival.request in
          let seen : State =
          record state { dialogs = dialog_changed name (after_request request) state.dialogs } in
          let late : ServedTaken =
          (state, own_response arrival 500 (codes "Server Internal Error")) in
          let by_prack : ServedTaken =
          prack_received seen call_id name held.created_by arrival request.rack in
          let by_user : ServedTaken = request_for_user seen call_id name arrival in
          either Done (not (is_above held request.cseq.number)) late
          (if is_prack request then by_prack else by_user)
          (λ is. (all, (replies arrival (own.out_of_order arrival came tagged), tt)))
          (λ above. either Done (is_prack request) by_prack by_user
          (λ is. prack_done seen call_id name held.created_by arrival request.rack refl its came is
          tagged all)
          (λ other. user_done seen call_id name arrival its came none other all))

      -- ---- a CANCEL, and an ACK

      all_reversed : (requests : List HeldRequest) → AllByRecursion Held requests
          → AllByRecursion Held (reverse requests)
      all_reversed [] all = tt
      all_reversed (held ∷ requests) all =
          subst (AllByRecursion Held) (sym (reverse-cons held requests))
          (both Held (reverse requests) (held ∷ []) (all_reversed requests all.1) (all.0, tt))

      cancel_fits : (state : State) (call_id : List ℕ) (arrival : Arrival) (now : ℕ)
          (held : HeldRequest) → Own call_id → Brought arrival
          → is_cancel arrival.request ≡ true → is_same_branch arrival.key held.key ≡ true
          → Held held → Holds state
          → Done (cancel_for state call_id arrival now held)
      cancel_fits state call_id arrival now held its came is branch keeps all =
          let accepts = replies arrival (own.accepted arrival held.tag came
          (second_of_two (is_prack arrival.request) (is_cancel arrival.request) is)) in
          either Done (not (is_invite held.request && is_none held.removal)) _ _
          (λ over. (all, (accepts, tt)))
          (λ still.
          let cancels : Cancels Brought arrival (arrived held) = record {
            brought = came;
            is_cancel = is;
            is_invite = and-left (is_invite held.request) (is_none held.removal)
                (it_is_so (is_invite held.request && is_none held.removal) still);
            branch_is = branch;
          } in (
            changed_given Brought Given held.id (after_487 now) (cancel_keeps Brought Given now)
                state.requests all,
            (
              accepts,
              (
                allows.answer (arrived held)
                    (own.terminated (arrived held) arrival keeps.came cancels),
                (
                  allows.cancel call_id (arrived held) arrival its keeps.came cancels,
                  early_fit held.id state.dialogs,
                ),
              ),
            ),
          ))

      cancel_done : (state : State) (call_id : List ℕ) (arrival : Arrival) (now : ℕ)
          → Own call_id → Brought arrival → is_cancel arrival.request ≡ true → Holds state
          → Done (cancel_received state call_id arrival now)
      cancel_done state call_id arrival now its came is all =
          let same : HeldRequest → Bool = λ held. is_same_branch arrival.key held.key in
          found_or Done (cancel_for state call_id arrival now)
          (find same (reverse state.requests)) (no_such_call state arrival)
          (λ held one. cancel_fits state call_id arrival now held its came is
          (found_so same (reverse state.requests) held one).1
          (found Held same (reverse state.requests) held
          (all_reversed state.requests all) one) all)
          (λ none. no_call_done state arrival came (cancel_one arrival.request is) all)

      ack_done : (state : State) (call_id : List ℕ) (ack : Message) → Own call_id → AckCame ack
          → Holds state → Done (ack_received state call_id ack)
      unfolding ack_received
      ack_done state call_id ack its came all =
          found_or Done (ack_for state call_id ack) (find (awaits ack) state.requests) (state, [])
          (λ invite one. (
            changed_given Brought Given invite.id after_ack (ack_keeps Brought Given)
                state.requests all,
            (
              allows.ack call_id ack invite its record {
                came = came;
                keeps = found Held (awaits ack) state.requests invite all one;
                awaits = (found_so (awaits ack) state.requests invite one).1;
              },
              tt,
            ),
          ))
          (λ none. (all, tt))

      -- ---- any request

      request_done : (state : State) (call_id : List ℕ) (arrival : Arrival) (now : ℕ)
          → Own call_id → Brought arrival → Holds state
          → Done (request_received state call_id arrival now)
      unfolding request_received
      request_done state call_id arrival now its came all =
          let request = arrival.request in
          let name = dialog_id_of request arrival.tag in
          let outside : ServedTaken = if is_bye request || is_prack request
          then no_such_call state arrival else request_for_user state call_id name arrival in
          let inside : ServedTaken =
          option_map_or (request_in_dialog state call_id name arrival)
          (dialog_at name state.dialogs) (no_such_call state arrival) in
          let known : ServedTaken = if has_to_tag request then inside else outside in
          let once : ServedTaken = if list_any is_unknown_option request.require
          then bad_extension state arrival else known in
          let merged : ServedTaken =
          (state, own_response arrival 482 (codes "Loop Detected")) in
          let other : ServedTaken = if not (has_to_tag request)
          && list_any (is_merged request) state.requests then merged else once in
          either Done (is_cancel request) (cancel_received state call_id arrival now) other
          (λ is. cancel_done state call_id arrival now its came is all)
          (λ none. either Done
          (not (has_to_tag request) && list_any (is_merged request) state.requests) merged once
          (λ twice. (
            all,
            (
              replies arrival (own.merged arrival came (not_so (has_to_tag request)
                  (and-left (not (has_to_tag request))
                  (list_any (is_merged request) state.requests) twice))),
              tt,
            ),
          ))
          (λ single. either Done (list_any is_unknown_option request.require)
          (bad_extension state arrival) known
          (λ unknown. (all, (replies arrival (own.extension arrival came unknown), tt)))
          (λ fine. either Done (has_to_tag request) inside outside
          (λ tagged. found_or Done (request_in_dialog state call_id name arrival)
          (dialog_at name state.dialogs) (no_such_call state arrival)
          (λ held one. inside_done state call_id name arrival held its came none tagged all)
          (λ gone. no_call_done state arrival came (in_dialog_one request tagged) all))
          (λ bare. either Done (is_bye request || is_prack request) (no_such_call state arrival)
          (request_for_user state call_id name arrival)
          (λ odd. no_call_done state arrival came (bye_or_prack request odd) all)
          (λ plain. user_done state call_id name arrival its came none
          (neither (is_bye request) (is_prack request) plain) all)))))

      kind_done : (state : State) (made : List ℕ) (up : AnUp) (k : UpKind) (now : ℕ)
          → KindBrought Own Brought AckCame made up k → Holds state
          → Done (server_received state made up k now)
      kind_done state made up (kind.Request request reply_to) now came all =
          request_done state up.call_id (arrival_of up request reply_to made) now came.0 came.1 all
      kind_done state made up (kind.Ack ack) now came all =
          ack_done state up.call_id ack came.0 came.1 all
      kind_done state made up (kind.Response response) now came all = (all, tt)
      kind_done state made up kind.Timeout now came all = (all, tt)
      kind_done state made up kind.Failed now came all = (all, tt)

      pub kind_fits : (state : State) (made : List ℕ) (up : AnUp) (k : UpKind) (now : ℕ)
          → KindBrought Own Brought AckCame made up k → Holds state
          → Done (kind_taken state made up k now)
      kind_fits state made up k now came all =
          subst Done (kind_same state made up k now) (kind_done state made up k now came all)

    -- ---- an answer of the user

    dialogs_fit : (event : Id) (held : HeldRequest) (status : ℕ) (response : Message)
        (dialogs : Dialogs) → Fit (dialogs_after event held status response dialogs).1
    dialogs_fit event held status response dialogs =
        let request = held.request in
        let Fine : Dialogs × List CallOut → Type 0 = λ after. Fit after.1 in
        either Fine (makes_dialog held status) _ _ (λ makes. tt)
        (λ other. either Fine
        (is_invite request && is_success status && not (has_to_tag request)) _ _ (λ confirms. tt)
        (λ neither. either Fine (is_invite request && nat_le 300 status)
        (early_ended held.id dialogs) (dialogs, []) (λ rejects. early_fit held.id dialogs)
        (λ none. tt)))

    answer_done : (state : State) (event : Id) (respond : Respond) (now : ℕ) (held : HeldRequest)
        → RespondGiven Brought Given respond (respond_to state event respond now held).1
        → respond.id ≡ held.id → Held held → Holds state
        → Done (respond_to state event respond now held)
    answer_done state event respond now held here named keeps all =
        let response = response_sent state.local held respond in
        let sent : CallOut = out.Command held.id (order.Answer held.key response) in
        let dialogs = dialogs_after event held respond.status response state.dialogs in
        let requests = changed_at respond.id
        (λ _. held_after event held respond response now) state.requests in
        let done : ServedTaken =
        (record state { requests = requests; dialogs = dialogs.0 }, sent ∷ dialogs.1) in
        found_or Done _ (response_refusal state.dialogs held respond) done
        (λ refusal refused. (all, (allows.told _ tt, tt)))
        (λ none.
        let answer = here state.local held keeps.came named
        (subst (λ o. Contains (option_map_or (refuse state event respond) o done).1 sent)
        (sym none) (among_first sent dialogs.1)) in (
          changed_given Brought Given respond.id (λ _. held_after event held respond response now)
              (λ other before. answer_keeps Brought Given event held respond response now answer
              (ap status_of (was_sent state.local held respond).start)
              (was_sent state.local held respond).to keeps) state.requests all,
          (
            allows.answer (arrived held) answer,
            dialogs_fit event held respond.status response state.dialogs,
          ),
        ))

    respond_done : (state : State) (event : Id) (respond : Respond) (now : ℕ)
        → RespondGiven Brought Given respond (respond_command state event respond now).1
        → Holds state → Done (respond_command state event respond now)
    unfolding respond_command
    respond_done state event respond now here all =
        let none = refuse state event respond NoSuchRequest in
        found_or Done (respond_to state event respond now)
        (find (has_id respond.id) state.requests) none
        (λ held one. answer_done state event respond now held
        (subst (λ o. RespondGiven Brought Given respond
        (option_map_or (respond_to state event respond now) o none).1) one here)
        (sym (same_id held.id respond.id (found_id respond.id state.requests held one)))
        (found Held (has_id respond.id) state.requests held all one) all)
        (λ none. (all, (allows.told _ tt, tt)))

    pub respond_fits : (state : State) (event : Id) (respond : Respond) (now : ℕ)
        → RespondGiven Brought Given respond (respond_taken state event respond now).1
        → Holds state → Done (respond_taken state event respond now)
    respond_fits state event respond now here all =
        let same = respond_same state event respond now in
        subst Done same
        (respond_done state event respond now
        (subst (λ (taken : ServedTaken). RespondGiven Brought Given respond taken.1) (sym same)
        here) all)

    -- ---- a tick

    abbrev SuccessDone : HeldRequest → Option Success × List CallOut → Type 0
    SuccessDone held done = SuccessFits Brought Given (arrived held) done.0 × Fit done.1

    success_done : (now : ℕ) (held : HeldRequest) (o : Option Success)
        → SuccessFits Brought Given (arrived held) o
        → SuccessDone held (option_map_or (success_at now held) o (None, []))
    success_done now held None fits = (tt, tt)
    success_done now held (Some success) fits =
        either (SuccessDone held) (is_none success.over && nat_le success.end now) _ _
        (λ over. (fits, (allows.told _ tt, tt)))
        (λ still. either (SuccessDone held)
        (is_none success.over && nat_le success.retransmission.due now) _ _
        (λ due. (fits, (allows.answer (arrived held) fits.given, tt)))
        (λ early. (fits, tt)))

    again_fit : (held : HeldRequest) (responses : List ReliableResponse)
        → AllByRecursion (Kept held) responses
        → Fit (map (λ one. out.Command held.id (order.Answer held.key one.response)) responses)
    again_fit held [] all = tt
    again_fit held (one ∷ responses) all =
        (allows.answer (arrived held) all.0, again_fit held responses all.1)

    provisionals_fit : (now : ℕ) (held : HeldRequest) → Held held
        → Fit (provisionals_tick now held).1
    provisionals_fit now held keeps =
        let Fine : Ledger × List CallOut → Type 0 = λ after. Fit after.1 in
        let due = map (λ p. p.number) (filter (is_repeated now) held.ledger.waiting) in
        either Fine held.ledger.closed _ _ (λ closed. tt)
        (λ waits. either Fine (list_any (is_late now) held.ledger.waiting) _ _
        (λ late. (allows.told _ tt, tt))
        (λ early. again_fit held _ (filtered (Kept held)
        (λ one. list_any (λ number. one.number == number) due) held.provisionals
        keeps.provisionals)))

    abbrev ticked : ℕ → HeldRequest → HeldRequest
    ticked now held = record held {
      ledger = (provisionals_tick now held).0;
      success = (success_tick now held).0;
    }

    abbrev tick_outs : ℕ → HeldRequest → List CallOut
    tick_outs now held = (success_tick now held).1 ++ (provisionals_tick now held).1

    all_ticked : (now : ℕ) (requests : List HeldRequest) → AllByRecursion Held requests
        → AllByRecursion Held (map (ticked now) requests)
        × Fit (flat_map (tick_outs now) requests)
    all_ticked now [] all = (tt, tt)
    all_ticked now (held ∷ requests) all =
        let keeps = all.0 in
        let one = success_done now held held.success keeps.success in
        let rest = all_ticked now requests all.1 in (
          (
            record { came = keeps.came; success = one.0; provisionals = keeps.provisionals },
            rest.0,
          ),
          both P (tick_outs now held) (flat_map (tick_outs now) requests)
              (both P (success_tick now held).1 (provisionals_tick now held).1 one.1
              (provisionals_fit now held keeps)) rest.1,
        )

    tick_done : (state : State) (now : ℕ) → Holds state → Done (server_tick state now)
    unfolding server_tick
    tick_done state now all =
        let after = all_ticked now state.requests all in
        (filtered Held _ (map (ticked now) state.requests) after.0, after.1)

    pub tick_fits : (state : State) (now : ℕ) → Holds state → Done (tick_taken state now)
    tick_fits state now all = subst Done (tick_same state now) (tick_done state now all)
