-- Each reliable response that a call gives, now or again, its user gave to a request that came up.
use Rattle.std.proofs.Common.{◌≡◌, ⊎_elim, ℕ, Bool, true, false, List, [], ◌∷◌, ◌++◌, refl, sym, ap, ◌∙◌, subst, arith}
use Rattle.std.specs.Prelude.{◌==◌, Contains, IsTrue, Option, None, Some, filter_map, length, not, if◌then◌else◌}
use Rattle.std.specs.List.{AllByRecursion, cons_option}
use Rattle.std.specs.Option.{option_map}
use Rattle.std.proofs.lemmas.Bool.{false≢true}
use Rattle.std.proofs.lemmas.Grind.{common_steps}
use Rattle.std.proofs.lemmas.List.Elements.{Contains-append_right}
use Rattle.std.proofs.lemmas.Option.{same_Some}
use Rattle.sip_message.specs.declared.id.Id.{Id}
use Rattle.sip_message.specs.declared.key.Key.{Key}
use Rattle.sip_message.specs.declared.message.Message.{Message}
use Rattle.sip_message.specs.Party.{tag_of}
use Rattle.sip_message.specs.Response.{tagged}
use Rattle.keyed_machine.specs.Machine.{Timed, given_at, outputs_from}
use Rattle.sip_grammar.specs.Tag.{has_good_tag}
use Rattle.sip_transactions.specs.declared.input.Command.TheVariants as order
use Rattle.sip_transactions.specs.declared.output.UpKind.{UpKind}
use Rattle.sip_transactions.specs.declared.output.UpKind.TheVariants as kind
use Rattle.sip_transactions.specs.declared.output.Up.{Up as AnUp}
use Rattle.sip_held_dialogs.specs.Ids.{is_id}
use Rattle.sip_held_dialogs.specs.Requests.{has_to_tag, local_tag_of}
use Rattle.sip_user.specs.declared.command.Respond.{Respond}
use Rattle.sip_user.specs.declared.command.UserCommand.{UserCommand}
use Rattle.sip_user.specs.declared.command.UserCommand.TheVariants as user
use Rattle.sip_user.specs.declared.item.CallOut.{CallOut}
use Rattle.sip_user.specs.declared.item.CallOut.TheVariants as out
use Rattle.sip_user.specs.declared.item.Item.TheVariants.{Up, User}
use Rattle.sip_served.specs.declared.arrival.Arrival.{Arrival}
use Rattle.sip_clients.specs.Name.{name_of}
use Rattle.sip_calls.specs.declared.calls.Calls.{Calls}
use Rattle.sip_calls.specs.Call.{CallItem, call_machine, call_step}
use Rattle.sip_calls.specs.HeldById.{RequestsRise}
use Rattle.sip_calls.specs.Histories.{call_from}
use Rattle.sip_conversation.specs.ComeWhole.{given_from, given_in, sent_reliably}
use Rattle.sip_conversation.proofs.Among.{all_of, among_first, among_later, each_of, first_or_later, none_among}
use Rattle.sip_conversation.proofs.AmongInputs.{of_one_input}
use Rattle.sip_conversation.proofs.PracksCame.{GivenTo, OutGave, OutsGiven}
use Rattle.sip_conversation.proofs.PracksOfCalls.{CommandFits, InputFits, all_given}
use Rattle.sip_conversation.proofs.PracksServed.{KindBrought}
use Rattle.sip_conversation.proofs.ToTags.{to_tag}
use Rattle.sip_message.specs.declared.addr.Addr.{Addr}
use Rattle.sip_conversation.specs.Answers.{IsResponseTo}

-- what is chosen from an element
module _ {X Y : Type 0} where
  among_chosen : (f : X → Option Y) (xs : List X) (x : X) (y : Y) → Contains xs x
      → f x ≡ Some y → Contains (filter_map f xs) y
  among_chosen f [] x y among is = absurd (none_among x among)
  among_chosen f (z ∷ zs) x y among is =
      ⊎_elim (λ same. at_first (f z) (ap f same ∙ is))
      (λ later. after_it (f z) (among_chosen f zs x y later is)) (first_or_later z zs x among)
    where
      at_first : (o : Option Y) → o ≡ Some y → Contains (cons_option o (filter_map f zs)) y
      at_first None is = absurd cc
      at_first (Some w) is =
          subst (Contains (w ∷ filter_map f zs)) (same_Some w y is)
          (among_first w (filter_map f zs))

      after_it : (o : Option Y) → Contains (filter_map f zs) y
          → Contains (cons_option o (filter_map f zs)) y
      after_it None later = later
      after_it (Some w) later = among_later w (filter_map f zs) y later

id_itself : (id : Id) → is_id id id ≡ true
id_itself id = grind (arith, common_steps)

module _ (calls : Calls) (id : Id) where
  sent_so : (key : Key) (response : Message) (rseq : ℕ) → response.rseq ≡ Some rseq
      → sent_reliably calls id (out.Command id (order.Answer key response)) ≡ Some (rseq, response)
  sent_so key response rseq is =
      ap (λ b. if b then option_map (λ rseq. (rseq, response)) response.rseq else None)
      (id_itself id)
      ∙ ap (option_map (λ rseq. (rseq, response))) is

-- a request that comes up is one of those of which this is true
module _ (Brought : Message → Type 0) where
  abbrev pub KindBrings : UpKind → Type 0
  KindBrings (kind.Request request reply_to) = Brought request
  KindBrings (kind.Ack ack) = Unit {0}
  KindBrings (kind.Response response) = Unit {0}
  KindBrings kind.Timeout = Unit {0}
  KindBrings kind.Failed = Unit {0}

  abbrev pub InputBrings : Option CallItem → Type 0
  InputBrings None = Unit {0}
  InputBrings (Some (event, Up up)) = KindBrings up.kind
  InputBrings (Some (event, User command)) = Unit {0}

module _ (Brought : Message → Type 0) (calls : Calls) (inputs : List (Timed CallItem)) where
  -- The user gave this response with this RSeq to the request of this id. An input brought that
  -- request up, and the response copies parts of it. The event of that input made the To tag,
  -- unless the request has one.
  pub record IsGiven (id : Id) (rseq : ℕ) (response : Message) : Type 0 where
    pub given : Contains (given_from calls id None inputs) (rseq, response)
    pub request : Message
    pub brought : Brought request
    pub event : Id
    pub now : ℕ
    pub up : AnUp
    pub reply_to : Addr
    pub is_request : up.kind ≡ kind.Request request reply_to
    pub id_is : up.id ≡ id
    pub came : Contains inputs (given_at now (event, Up up))
    pub copies : IsResponseTo request response
    pub made : IsTrue (has_good_tag request.to.parameters) → has_to_tag request ≡ false
        → tag_of response.to ≡ name_of calls.seed event 0

  -- an input brought this request up, and its event made the To tag
  pub record CameUp (arrival : Arrival) : Type 0 where
    pub brought : Brought arrival.request
    pub event : Id
    pub now : ℕ
    pub up : AnUp
    pub kind_is : up.kind ≡ kind.Request arrival.request arrival.reply_to
    pub id_is : up.id ≡ arrival.id
    pub among : Contains inputs (given_at now (event, Up up))
    pub tag_is : arrival.tag ≡ local_tag_of arrival.request (name_of calls.seed event 0)

  -- the user gave this response with this RSeq to the request of this id
  abbrev pub IsAmongGiven : Id → ℕ → Message → Type 0
  IsAmongGiven id rseq response = Contains (given_from calls id None inputs) (rseq, response)

  kind_came : (event : Id) (now : ℕ) (up : AnUp) (k : UpKind) → up.kind ≡ k
      → Contains inputs (given_at now (event, Up up)) → KindBrings Brought k
      → KindBrought CameUp IsAmongGiven (name_of calls.seed event 0) up k
  kind_came event now up (kind.Request request reply_to) is among brought = record {
    brought = brought;
    event = event;
    now = now;
    up = up;
    kind_is = is;
    id_is = refl;
    among = among;
    tag_is = refl;
  }
  kind_came event now up (kind.Ack ack) is among brought = tt
  kind_came event now up (kind.Response response) is among brought = tt
  kind_came event now up kind.Timeout is among brought = tt
  kind_came event now up kind.Failed is among brought = tt

  module _ (before after : List (Timed CallItem)) where
    abbrev says_at : ℕ → Option CallItem → List CallOut
    says_at now input = (call_step calls (call_from calls None before) input now).1

    out_gave : (now : ℕ) (event : Id) (respond : Respond)
        → inputs ≡ before ++ given_at now (event, User (user.Respond respond)) ∷ after
        → (one : CallOut) → Contains (says_at now (Some (event, User (user.Respond respond)))) one
        → OutGave CameUp IsAmongGiven one
    out_gave now event respond same (out.Notice notice) among = tt
    out_gave now event respond same (out.Direct to bytes) among = tt
    out_gave now event respond same (out.Command id (order.Start key call_id message to)) among =
        tt
    out_gave now event respond same (out.Command id (order.Abandon key)) among = tt
    out_gave now event respond same (out.Command id (order.Answer key response)) among = λ rseq is.
        let timed : Timed CallItem = given_at now (event, User (user.Respond respond)) in
        subst (λ xs. Contains (given_from calls id None xs) (rseq, response)) (sym same)
        (of_one_input calls
        (λ call timed. given_in calls id timed.input
        (call_step calls call timed.input timed.moment).1)
        (given_from calls id) (λ call. refl) (λ call timed inputs. refl) None before timed after
        (rseq, response)
        (among_chosen (sent_reliably calls id) (says_at now timed.input)
        (out.Command id (order.Answer key response)) (rseq, response) among
        (sent_so calls id key response rseq is)))

    command_fits : (now : ℕ) (event : Id) (command : UserCommand)
        → inputs ≡ before ++ given_at now (event, User command) ∷ after
        → CommandFits CameUp IsAmongGiven command (says_at now (Some (event, User command)))
    command_fits now event (user.Invite invite) same = tt
    command_fits now event (user.Plain plain) same = tt
    command_fits now event (user.Request request) same = tt
    command_fits now event (user.Respond respond) same =
        all_of (OutGave CameUp IsAmongGiven)
        (says_at now (Some (event, User (user.Respond respond))))
        (out_gave now event respond same)
    command_fits now event (user.Ack ack) same = tt
    command_fits now event (user.Prack prack) same = tt
    command_fits now event (user.Cancel cancel) same = tt
    command_fits now event (user.AbandonRequest abandon) same = tt
    command_fits now event (user.AbandonDialog abandon) same = tt

    input_fits : (now : ℕ) (input : Option CallItem)
        → inputs ≡ before ++ record { moment = now; input = input } ∷ after
        → InputBrings Brought input → InputFits CameUp IsAmongGiven calls input (says_at now input)
    input_fits now None same brought = tt
    input_fits now (Some (event, Up up)) same brought =
        kind_came event now up up.kind refl
        (subst (λ xs. Contains xs (given_at now (event, Up up))) (sym same)
        (Contains-append_right before (given_at now (event, Up up) ∷ after)
        (given_at now (event, Up up)) (among_first (given_at now (event, Up up)) after)))
        brought
    input_fits now (Some (event, User command)) same brought =
        command_fits now event command same

  pub all_came : (key : List ℕ) → RequestsRise inputs
      → AllByRecursion (λ timed. InputBrings Brought timed.input) inputs
      → OutsGiven CameUp IsAmongGiven (outputs_from (call_machine calls) key None inputs)
  all_came key rise brought =
      all_given CameUp IsAmongGiven calls key inputs rise
      (λ before after timed same. input_fits before after timed.moment timed.input same
      (each_of (λ timed. InputBrings Brought timed.input) inputs timed brought
      (subst (λ xs. Contains xs timed) (sym same)
      (Contains-append_right before (timed ∷ after) timed (among_first timed after)))))

  -- the To tag of the response to a request without one is that of the request's event
  made_tag : (request response : Message) (tag made : List ℕ)
      → response.to ≡ tagged request.to tag → tag ≡ local_tag_of request made
      → IsTrue (has_good_tag request.to.parameters) → has_to_tag request ≡ false
      → tag_of response.to ≡ made
  made_tag request response tag made to is good none =
      let empty : (length (tag_of request.to) == 0) ≡ true =
      no_tag (length (tag_of request.to) == 0) none in
      ap tag_of to ∙ (to_tag request.to tag good
      ∙ (ap (λ b. if b then tag else tag_of request.to) empty
      ∙ (is ∙ ap (λ b. if b then made else tag_of request.to) empty)))
    where
      no_tag : (b : Bool) → not b ≡ false → b ≡ true
      no_tag true none = refl
      no_tag false none = absurd (false≢true (sym none))

  pub is_given : (id : Id) (rseq : ℕ) (response : Message)
      → GivenTo CameUp IsAmongGiven id rseq response → IsGiven id rseq response
  is_given id rseq response its =
      let came = its.came in record {
        given = its.gave;
        request = its.invite.request;
        brought = came.brought;
        event = came.event;
        now = came.now;
        up = came.up;
        reply_to = its.invite.reply_to;
        is_request = came.kind_is;
        id_is = came.id_is ∙ its.id_is;
        came = came.among;
        copies = its.copies;
        made = made_tag its.invite.request response its.invite.tag
            (name_of calls.seed came.event 0) its.to came.tag_is;
      }
