-- What comes up: the rules say the same as the steps.
use Rattle.std.proofs.Common.{◌≡◌, ℕ, ◌+◌, not, ◌&&◌, ◌||◌, Bool, true, false, cond, List, [], ◌∷◌, ◌++◌, refl, sym, ap, ◌∙◌}
use Rattle.std.specs.Prelude.{◌==◌, Option, None, Some, codes, find, is_some, nat_le, option_map, unwrap_or, if◌then◌else◌}
use Rattle.std.specs.Map.{set_value}
use Rattle.std.proofs.lemmas.Bool.{false≢true}
use Rattle.std.specs.List.{list_any}
use Rattle.std.specs.Option.{option_map_or}
use Rattle.std.specs.Str.{bytes_eq, str_eq_ignore_ascii_case}
use Rattle.sip_timers.specs.declared.estimate.TheConstants.{LIFETIME}
use Rattle.sip_message.specs.declared.id.Id.{Id}
use Rattle.sip_message.specs.declared.message.Message.{Message}
use Rattle.sip_message.specs.declared.rack.RAck.{RAck}
use Rattle.sip_message.specs.Party.{tag_of}
use Rattle.sip_reliable.specs.Ledger.{closed_now, waits_for}
use Rattle.sip_transactions.specs.declared.output.UpKind.{UpKind}
use Rattle.sip_transactions.specs.declared.output.UpKind.TheVariants as kind
use Rattle.sip_transactions.specs.declared.output.Up.{Up}
use Rattle.sip_user.specs.declared.command.UserCommand.TheVariants as command
use Rattle.sip_held_dialogs.specs.declared.held_dialog.DialogId.{DialogId}
use Rattle.sip_held_dialogs.specs.declared.held_dialog.HeldDialog.{HeldDialog}
use Rattle.sip_user.specs.declared.item.CallOut.{CallOut}
use Rattle.sip_user.specs.declared.item.Item.{Item}
use Rattle.sip_user.specs.declared.item.Item.TheVariants as item
use Rattle.sip_held_dialogs.specs.Dialogs.{Dialogs, dialog_at, dialog_changed, early_ended, ended_at, is_dialog_id, lived, refreshes, retargets, takes, visited}
use Rattle.sip_dialog.specs.Dialog.{is_ended}
use Rattle.sip_dialog.specs.Life.{Accepts, Refreshes}
use Rattle.sip_dialog.specs.Opening.{contact_uri}
use Rattle.sip_dialog.specs.declared.fault.DialogFault.TheVariants as fault
use Rattle.sip_held_dialogs.specs.Requests.{dialog_id_of, is_bye, is_cancel, has_to_tag, is_invite, is_prack, is_unknown_option}
use Rattle.sip_served.specs.declared.arrival.Arrival.{Arrival}
use Rattle.sip_served.specs.declared.arrival.ArrivalCase.TheVariants.{Merged, BadExtension, Acknowledges, AcknowledgesNothing, ForUser}
use Rattle.sip_served.specs.declared.held_request.HeldRequest.{HeldRequest}
use Rattle.sip_served.specs.Acknowledgment.{ack_noted, ack_taken, awaits_ack, is_ack_of}
use Rattle.sip_served.specs.Arrival.{arrival_of, by_case, case_inside, case_outside, for_user, is_in_dialog, is_merged, is_named_by, no_such_dialog, noted, prack_case, prack_taken, request_held}
use Rattle.sip_served.specs.Cancel.{by_cancelled, cancel_taken, cancelled_request, is_unanswered_invite, request_terminated, terminates, termination_told}
use Rattle.sip_served.specs.RequestLife.{success_sent, went_on}
use Rattle.sip_served.specs.Rules.Arrivals.{ack_received, after_request, cancel_received, is_above, own_response, prack_received, request_for_user, request_in_dialog, request_received, server_item, server_received}
use Rattle.sip_served.specs.State.{State, ServedTaken, changed_at, followed, quiet}
use Rattle.sip_served.specs.Step.{arrival_taken, kind_taken, server_item_taken}
use Rattle.sip_served.proofs.ResponseRules.{respond_same}

-- ---- choices

-- the request that was found, by its id
found : {X C : Type 0} (f : Option Id → C) (id : X → Id) (h : X → C) (d : C) (o : Option X)
    → f None ≡ d → ((x : X) → f (Some (id x)) ≡ h x) → f (option_map id o) ≡ option_map_or h o d
found f id h d None p q = p
found f id h d (Some x) p q = q x

and_three : (a x y z : Bool) → (a && (x && y && z)) ≡ (a && x && y && z)
and_three true x y z = refl
and_three false x y z = refl

and_four : (a x y z w : Bool) → (a && (x && y && z && w)) ≡ (a && x && y && z && w)
and_four true x y z w = refl
and_four false x y z w = refl

-- ---- a request for the user

bye_same : (b : Bool) (state : State) (outs : List CallOut) (ended : Dialogs × List CallOut)
    → followed (state, outs) (λ later. cond b
    (record later { dialogs = ended.0 }, ended.1) (quiet later))
    ≡ (
      record state { dialogs = (cond b ended (state.dialogs, [])).0 },
      outs ++ (cond b ended (state.dialogs, [])).1,
    )
bye_same true state outs ended = refl
bye_same false state outs ended = refl

for_user_same : (state : State) (call_id : List ℕ) (name : DialogId) (arrival : Arrival)
    → for_user state call_id name arrival ≡ request_for_user state call_id name arrival
for_user_same state call_id name arrival =
    bye_same (has_to_tag arrival.request && is_bye arrival.request)
    (request_held state call_id name arrival).0 (request_held state call_id name arrival).1
    (ended_at name state.dialogs)

-- ---- a request in a dialog

out_of_order : (b : Bool) → not (is_some (if b then Some fault.OutOfOrder else None)) ≡ not b
out_of_order true = refl
out_of_order false = refl

number_above : (number : ℕ) (ended : Bool) (remote : Option ℕ)
    → not (is_some (if ended then Some fault.Ended
    else (if option_map_or (nat_le number) remote false then Some fault.OutOfOrder else None)))
    ≡ (not ended && option_map_or (λ last. not (nat_le number last)) remote true)
number_above number true remote = refl
number_above number false None = refl
number_above number false (Some last) = out_of_order (nat_le number last)

takes_above : (held : HeldDialog) (number : ℕ) → takes held number ≡ is_above held number
takes_above held number = number_above number (is_ended held.dialog.state) held.dialog.remote_cseq

goes_on : (number : ℕ) (ended : Bool) (remote : Option ℕ)
    → not (is_some (if ended then Some fault.Ended
    else (if option_map_or (nat_le number) remote false then Some fault.OutOfOrder else None)))
    ≡ true → is_some (if ended then Some fault.Ended else None) ≡ false
goes_on number true remote e = absurd (false≢true e)
goes_on number false remote e = refl

visited_same : (request : Message) (held : HeldDialog) → takes held request.cseq.number ≡ true
    → visited request held ≡ after_request request held
visited_same request held taken =
    ap (λ b. lived ((if b then Accepts request.cseq.number ∷ [] else []) ++ refreshes request held)
    held) taken
    ∙ by (is_invite request) (contact_uri request)
  where
    by : (invite : Bool) (contact : Option (List ℕ))
        → lived (Accepts request.cseq.number ∷ (if invite then retargets contact held else [])) held
        ≡ record held {
          dialog = record held.dialog {
            remote_cseq = Some request.cseq.number;
            target = unwrap_or (if invite then contact else None) held.dialog.target;
          };
        }
    by false contact = refl
    by true None = refl
    by true (Some uri) =
        ap (λ b. lived (Accepts request.cseq.number ∷ (if b then [] else Refreshes uri ∷ [])) held)
        (goes_on request.cseq.number (is_ended held.dialog.state) held.dialog.remote_cseq taken)

module _ (state : State) (call_id : List ℕ) (name : DialogId) (arrival : Arrival)
    (inside : has_to_tag arrival.request ≡ true) where
  abbrev noted_so : State
  noted_so = record state {
    dialogs = dialog_changed name (visited arrival.request) state.dialogs;
  }

  is_noted : noted state name arrival.request ≡ noted_so
  is_noted = ap (λ b. if b then noted_so else state) inside

  prack_same : (created_by : Id) (rack : Option RAck)
      → by_case (prack_case state.requests name created_by rack) state call_id name arrival
      ≡ prack_received noted_so call_id name created_by arrival rack
  prack_same created_by None = ap (λ later. (later, no_such_dialog arrival)) is_noted
  prack_same created_by (Some rack) =
      (λ i. by_rack (find (λ held. same_invite held i) state.requests))
      ∙ found by_rack_id (λ held. held.id) _ _ _
      (ap (λ later. (later, no_such_dialog arrival)) is_noted)
      (λ held. ap (λ later. prack_taken later call_id arrival held.id rack.rseq) is_noted)
    where
      by_rack_id : Option Id → ServedTaken
      by_rack_id o =
          by_case (option_map_or (λ id. Acknowledges id rack.rseq) o AcknowledgesNothing) state
          call_id name arrival

      by_rack : Option HeldRequest → ServedTaken
      by_rack o = by_rack_id (option_map (λ held. held.id) o)

      same_invite : (held : HeldRequest)
          → (is_in_dialog name created_by held && is_named_by rack held)
          ≡ (is_in_dialog name created_by held && is_invite held.request
          && bytes_eq rack.method held.request.cseq.method
          && (held.request.cseq.number == rack.cseq) && waits_for rack.rseq held.ledger)
      same_invite held =
          and_four (is_in_dialog name created_by held) (is_invite held.request)
          (bytes_eq rack.method held.request.cseq.method)
          (held.request.cseq.number == rack.cseq) (waits_for rack.rseq held.ledger)

  in_dialog : (h : HeldDialog → ServedTaken) (o : Option HeldDialog)
      → dialog_at name state.dialogs ≡ o
      → ((held : HeldDialog) → dialog_at name state.dialogs ≡ Some held
      → by_case (case_inside state.requests name arrival.request (Some held)) state call_id name
      arrival ≡ h held)
      → by_case (case_inside state.requests name arrival.request o) state call_id name arrival
      ≡ option_map_or h o (state, no_such_dialog arrival)
  in_dialog h None at each = refl
  in_dialog h (Some held) at each = each held at

  -- the request is noted as the rule says, if its number is above
  abbrev noted_rule : State
  noted_rule = record state {
    dialogs = dialog_changed name (after_request arrival.request) state.dialogs;
  }

  same_noted : (held : HeldDialog) → dialog_at name state.dialogs ≡ Some held
      → takes held arrival.request.cseq.number ≡ true → noted_so ≡ noted_rule
  same_noted held at taken =
      let change : (HeldDialog → HeldDialog) → Option HeldDialog → State =
      λ change o. record state {
        dialogs =
            option_map_or (λ held. set_value (is_dialog_id name) state.dialogs (change held)) o
            state.dialogs;
      } in
      ap (change (visited arrival.request)) at
      ∙ ap (λ (after : HeldDialog). record state {
        dialogs = set_value (is_dialog_id name) state.dialogs after;
      }) (visited_same arrival.request held taken)
      ∙ sym (ap (change (after_request arrival.request)) at)

  by_number : (held : HeldDialog) → dialog_at name state.dialogs ≡ Some held → (b : Bool)
      → takes held arrival.request.cseq.number ≡ b
      → cond (not b) (state, own_response arrival 500 (codes "Server Internal Error"))
      (cond (is_prack arrival.request)
      (prack_received noted_so call_id name held.created_by arrival arrival.request.rack)
      (request_for_user noted_so call_id name arrival))
      ≡ cond (not b) (state, own_response arrival 500 (codes "Server Internal Error"))
      (cond (is_prack arrival.request)
      (prack_received noted_rule call_id name held.created_by arrival arrival.request.rack)
      (request_for_user noted_rule call_id name arrival))
  by_number held at true taken =
      ap (λ noted. cond (is_prack arrival.request)
      (prack_received noted call_id name held.created_by arrival arrival.request.rack)
      (request_for_user noted call_id name arrival)) (same_noted held at taken)
  by_number held at false taken = refl

  for_user_noted : by_case ForUser state call_id name arrival
      ≡ request_for_user noted_so call_id name arrival
  for_user_noted =
      ap (λ later. for_user later call_id name arrival) is_noted
      ∙ for_user_same noted_so call_id name arrival

-- ---- the first case that fits

two : {A C : Type 0} (f : A → C) (p q : Bool) (a b c : A) (x y z : C) → f a ≡ x → f b ≡ y
    → f c ≡ z → f (cond p a (cond q b c)) ≡ cond p x (cond q y z)
two f true q a b c x y z p1 p2 p3 = p1
two f false true a b c x y z p1 p2 p3 = p2
two f false false a b c x y z p1 p2 p3 = p3

first : {A C : Type 0} (f : A → C) (k m u i : Bool) (c c' : C) (merged bad inside outside : A)
    (x y z w : C) → c ≡ c' → f merged ≡ x → f bad ≡ y → (i ≡ true → f inside ≡ z)
    → (i ≡ false → f outside ≡ w)
    → cond k c (f (cond m merged (cond u bad (cond i inside outside))))
    ≡ cond k c' (cond m x (cond u y (cond i z w)))
first f true m u i c c' merged bad inside outside x y z w p1 p2 p3 p4 p5 = p1
first f false true u i c c' merged bad inside outside x y z w p1 p2 p3 p4 p5 = p2
first f false false true i c c' merged bad inside outside x y z w p1 p2 p3 p4 p5 = p3
first f false false false true c c' merged bad inside outside x y z w p1 p2 p3 p4 p5 = p4 refl
first f false false false false c c' merged bad inside outside x y z w p1 p2 p3 p4 p5 = p5 refl

either : {A C : Type 0} (f : A → C) (b : Bool) (none user : A) (x y : C) → f none ≡ x → f user ≡ y
    → f (cond b none user) ≡ cond b x y
either f true none user x y p q = p
either f false none user x y p q = q

-- ---- a CANCEL

by_option : {X C : Type 0} (f : Option X → C) (h : X → C) (d : C) (o : Option X) → f None ≡ d
    → ((x : X) → f (Some x) ≡ h x) → f o ≡ option_map_or h o d
by_option f h d None p q = p
by_option f h d (Some x) p q = q x

not_or : {C : Type 0} (b : Bool) (x x' y : C) → x ≡ x' → cond b x y ≡ cond (not b) y x'
not_or true x x' y e = e
not_or false x x' y e = refl

abbrev over : ℕ → HeldRequest → HeldRequest
over now one = record one { ledger = closed_now one.ledger; removal = Some (now + LIFETIME) }

terminated_same : (response : Message) (now : ℕ) (one : HeldRequest)
    → went_on (terminates response now) one ≡ over now one
terminated_same response now one =
    elim (is_invite one.request) as (λ b. record (over now one) {
      success = cond (b && false) (Some (success_sent response now)) one.success;
    } ≡ over now one) [
      | true ↦ refl
      | false ↦ refl
    ]

cancel_same : (state : State) (call_id : List ℕ) (arrival : Arrival) (now : ℕ)
    → cancel_taken state call_id arrival now ≡ cancel_received state call_id arrival now
cancel_same state call_id arrival now =
    by_option (λ o. by_cancelled state call_id arrival now o) _ _
    (cancelled_request arrival.key state.requests) refl
    (λ held. not_or (is_unanswered_invite held) _ _ _
    (λ i. (
      record state {
        requests = changed_at held.id
            (λ one. terminated_same (request_terminated held) now one i) state.requests;
        dialogs = (early_ended held.id state.dialogs).0;
      },
      termination_told call_id arrival held (request_terminated held)
          ++ (early_ended held.id state.dialogs).1,
    )))

-- ---- what a transaction hands up

pub arrival_same : (state : State) (call_id : List ℕ) (arrival : Arrival) (now : ℕ)
    → arrival_taken state call_id arrival now ≡ request_received state call_id arrival now
unfolding request_received
arrival_same state call_id arrival now =
    let request = arrival.request in
    let name = dialog_id_of request arrival.tag in
    first (λ one. by_case one state call_id name arrival) (is_cancel request)
    (not (has_to_tag request) && list_any (is_merged request) state.requests)
    (list_any is_unknown_option request.require) (has_to_tag request)
    _ _ Merged BadExtension (case_inside state.requests name request (dialog_at name state.dialogs))
    (case_outside request) _ _ _ _ (cancel_same state call_id arrival now) refl refl
    (λ inside. in_dialog state call_id name arrival inside
    (request_in_dialog state call_id name arrival) (dialog_at name state.dialogs) refl
    (λ held at. two (λ one. by_case one state call_id name arrival)
    (not (takes held request.cseq.number)) (is_prack request) _ _ _ _ _ _ refl
    (prack_same state call_id name arrival inside held.created_by request.rack)
    (for_user_noted state call_id name arrival inside)
    ∙ by_number state call_id name arrival inside held at (takes held request.cseq.number) refl
    ∙ ap (λ b. cond (not b) (state, own_response arrival 500 (codes "Server Internal Error"))
    (cond (is_prack request)
    (prack_received (noted_rule state call_id name arrival inside) call_id name held.created_by
    arrival request.rack)
    (request_for_user (noted_rule state call_id name arrival inside) call_id name arrival)))
    (takes_above held request.cseq.number)))
    (λ outside. either (λ one. by_case one state call_id name arrival)
    (is_bye request || is_prack request) _ _ _ _ refl
    (ap (λ b. for_user (if b
    then record state { dialogs = dialog_changed name (visited request) state.dialogs }
    else state) call_id name arrival) outside ∙ for_user_same state call_id name arrival))

pub ack_same : (state : State) (call_id : List ℕ) (ack : Message)
    → ack_taken state call_id ack ≡ ack_received state call_id ack
unfolding ack_received
ack_same state call_id ack =
    (λ i. ack_noted state call_id ack
    (option_map (λ held. held.id) (find (λ held. same_ack held i) state.requests)))
    ∙ found (λ id. ack_noted state call_id ack id) (λ held. held.id) _ _ _ refl (λ held. refl)
  where
    same_ack : (held : HeldRequest) → (awaits_ack held && is_ack_of ack held)
        ≡ (awaits_ack held && str_eq_ignore_ascii_case (tag_of ack.to) held.tag
        && str_eq_ignore_ascii_case (tag_of ack.from) (tag_of held.request.from)
        && (ack.cseq.number == held.request.cseq.number))
    same_ack held =
        and_three (awaits_ack held) (str_eq_ignore_ascii_case (tag_of ack.to) held.tag)
        (str_eq_ignore_ascii_case (tag_of ack.from) (tag_of held.request.from))
        (ack.cseq.number == held.request.cseq.number)

pub kind_same : (state : State) (tag : List ℕ) (up : Up) (kind : UpKind) (now : ℕ)
    → server_received state tag up kind now ≡ kind_taken state tag up kind now
kind_same state tag up (kind.Request request reply_to) now =
    sym (arrival_same state up.call_id (arrival_of up request reply_to tag) now)
kind_same state tag up (kind.Ack ack) now = sym (ack_same state up.call_id ack)
kind_same state tag up (kind.Response response) now = refl
kind_same state tag up kind.Timeout now = refl
kind_same state tag up kind.Failed now = refl

pub item_same : (state : State) (tag : List ℕ) (id : Id) (item : Item) (now : ℕ)
    → server_item state tag id item now ≡ server_item_taken state tag id item now
item_same state tag id (item.Up up) now = kind_same state tag up up.kind now
item_same state tag id (item.User (command.Respond respond)) now =
    respond_same state id respond now
item_same state tag id (item.User _) now = refl
