-- A final response that an application gives to a request is the first one that the transaction of
-- the request is given. So it arrives.
use Rattle.std.proofs.Common.{◌≡◌, inl, inr, ⊎_elim, ℕ, ◌+◌, ◌<◌, ◌≤◌, Bool, true, false, cond, ◌&&◌, List, [], ◌∷◌, ◌++◌, map, refl, sym, ap, ◌∙◌, subst, arith, codes, append_assoc}
use Rattle.std.specs.Prelude.{Contains, Option, None, Some, count_by, filter, not}
use Rattle.std.specs.List.{AllByRecursion, list_any}
use Rattle.std.proofs.lemmas.Bool.{false≢true}
use Rattle.std.proofs.lemmas.List.Elements.{Contains-append_cases, Contains-append_left, Contains-append_right}
use Rattle.sip_message.specs.declared.addr.Addr.{Addr}
use Rattle.sip_message.specs.declared.id.Id.{Id}
use Rattle.sip_message.specs.declared.key.Key.{Key}
use Rattle.sip_message.specs.declared.key.Key.TheVariants as key
use Rattle.sip_message.specs.declared.message.Message.{Message}
use Rattle.sip_message.specs.declared.start_line.StartLine.{StartLine}
use Rattle.sip_message.specs.declared.start_line.StartLine.TheVariants as start_line
use Rattle.sip_message.specs.Key.{key_cmp, method_in}
use Rattle.sip_message.specs.Message.{is_request_line, is_request_message}
use Rattle.sip_message.specs.MessageKey.{key_at, key_of_message, transaction_method}
use Rattle.sip_message.specs.TopVia.{top_branch, top_host, top_port}
use Rattle.keyed_machine.specs.Laws.{EachKeyAlone}
use Rattle.keyed_machine.specs.Machine.{Timed, given_at, outputs_from, tick_at}
use Rattle.sip_transactions.specs.declared.input.Command.{Command as Order}
use Rattle.sip_transactions.specs.declared.input.Command.TheVariants as order
use Rattle.sip_transactions.specs.declared.input.Input.{Input}
use Rattle.sip_transactions.specs.declared.input.Input.TheVariants.{Answer, Receive, Start}
use Rattle.sip_transactions.specs.declared.output.Out.{Out}
use Rattle.sip_transactions.specs.declared.output.Out.TheVariants as out
use Rattle.sip_transactions.specs.declared.output.Up.{Up as AnUp}
use Rattle.sip_transactions.specs.declared.output.UpKind.{UpKind}
use Rattle.sip_transactions.specs.declared.output.UpKind.TheVariants as kind
use Rattle.sip_transactions.specs.Laws.{is_request_kind, is_request_up}
use Rattle.sip_transactions.specs.Machine.{transaction_machine}
use Rattle.sip_user.specs.declared.command.Respond.{Respond}
use Rattle.sip_user.specs.declared.command.UserCommand.TheVariants as user
use Rattle.sip_user.specs.declared.item.CallOut.{CallOut}
use Rattle.sip_user.specs.declared.item.CallOut.TheVariants as call_out
use Rattle.sip_user.specs.declared.item.Item.{Item}
use Rattle.sip_user.specs.declared.item.Item.TheVariants.{Up, User}
use Rattle.sip_held_dialogs.specs.Requests as requests
use Rattle.sip_served.specs.declared.held_request.HeldRequest.{HeldRequest}
use Rattle.sip_clients.specs.Rules.Requests.{has_command}
use Rattle.sip_calls.specs.declared.call.Call.{Call}
use Rattle.sip_calls.specs.declared.calls.Calls.{Calls}
use Rattle.sip_calls.specs.Call.{CallItem, call_machine, call_step}
use Rattle.sip_calls.specs.HeldById.{RequestsRise}
use Rattle.sip_calls.specs.HeldRequests.{requests_held}
use Rattle.sip_calls.specs.Histories.{call_from}
use Rattle.sip_round.specs.declared.config.Config.{Config}
use Rattle.sip_round.specs.declared.round.Round.{Round}
use Rattle.sip_round.specs.Answers.{calls_of, past_of}
use Rattle.sip_round.specs.Laws.{call_inputs_of, inputs_of, said_of}
use Rattle.sip_round.proofs.RequestsDiffer.{brought_rise}
use Rattle.sip_round.proofs.Said.{call_alone, transaction_alone}
use Rattle.sip_agent_laws.specs.Calls.Commanded.{is_notice}
use Rattle.sip_agent_laws.proofs.agents.CallServes.{came_with, tick_gives}
use Rattle.sip_agent_laws.proofs.agents.Lists as lists
use Rattle.sip_agent_laws.proofs.agents.Lists.{Among, same_some}
use Rattle.sip_agent_laws.proofs.agents.ServedFrom.{IsEarly}
use Rattle.sip_agent_laws.proofs.agents.Sound.{first_rise}
use Rattle.sip_agent_laws.proofs.calls.Commanded.{each_command_is_answered}
use Rattle.sip_conversation.specs.Answers.{Responds, RespondsTo}
use Rattle.sip_conversation.specs.AnswersArrive.{ApplicationsAnswersArrive, IsFinallyAnswered, IsToldBy, answer_time}
use Rattle.sip_conversation.specs.Conversation.{Carried, Side, Turn, is_side, peer, rounds_of}
use Rattle.sip_agent_laws.specs.Transactions.Copies.{is_invite}
use Rattle.sip_conversation.specs.Delivery.{ShareAClock}
use Rattle.sip_conversation.specs.Messages.{CallSays, CallsKeepRules, ComesUp, IsGiven, come_from}
use Rattle.sip_conversation.specs.Replies.{AreCounted}
use Rattle.sip_conversation.specs.Steps.Fair.{IsFair}
use Rattle.sip_conversation.proofs.Among.{all_go, all_of, among_first, among_later, each_of, first_or_later, none_among}
use Rattle.sip_conversation.proofs.Answered.{held_came}
use Rattle.sip_conversation.proofs.AnsweringServer.{ArePlain, IsPlain, comes, gives_final}
use Rattle.sip_conversation.proofs.AnswersArrive as arrives
use Rattle.sip_conversation.proofs.AnswersArrive.{a_receipt, any_of, came_asked, count_first, counts_one, final_given, front_all, no_own_command, no_start, server_side}
use Rattle.sip_conversation.proofs.Begun.{IsBegun, begun}
use Rattle.sip_conversation.proofs.CameUps.{HasFirst, request_first}
use Rattle.sip_conversation.proofs.FinalsOnce.{Brings, GivesFinal, IsFinal, SaidAt, came_or_held, held_so, keeps_none, not_early, from_among, one_place, said_at, says_at, to_among}
use Rattle.sip_conversation.proofs.FirstFinal.{RoundsRise, an_answer, first_answered, inputs_rise}
use Rattle.sip_conversation.proofs.FirstTold.{same_side}
use Rattle.sip_conversation.proofs.GivenAnswers.{plain_inputs}
use Rattle.sip_conversation.proofs.Fronts.{front_carried, front_keeps}
use Rattle.sip_conversation.proofs.Longer.{inputs_longer, rounds_of-append}
use Rattle.sip_conversation.proofs.OneRequestUp.{AreBefore, Rise, one_request}
use Rattle.sip_conversation.proofs.Origins.{TimedComes, inputs_come}
use Rattle.sip_conversation.proofs.RaisedUps.{OutIsRaised, ups_raised}
use Rattle.sip_conversation.proofs.RequestsGoOut.{asked_given}
use Rattle.sip_conversation.proofs.RoundInputs.{inputs-append, inputs_after, inputs_after_at, inputs_at}
use Rattle.sip_conversation.proofs.SameRequest.{HasKeyOf, not_ack}
use Rattle.sip_conversation.proofs.StartedFor.{has_key}
use Rattle.sip_conversation.proofs.UpTo.{InputBy, IsBy, parted, rounds_at, some_one}
use Rattle.sip_conversation.proofs.Ups.{OutCame, TimedCame, inputs_came}
use Rattle.sip_conversation.proofs.WasAnswered.{all_came, answer_said}

-- ---- lists

one_of : {X : Type 0} (p : X → Bool) (xs : List X) → count_by p xs ≤ 1 → (x y : X)
    → Contains xs x → Contains xs y → p x ≡ true → p y ≡ true → x ≡ y
one_of p [] few x y one other is too = absurd (none_among x one)
one_of p (z ∷ zs) few x y one other is too =
    let all = count_first p z zs in
    let counted : (v : _) → z ≡ v → p v ≡ true → (w : _) → Contains zs w → p w ≡ true → ⊥ =
    λ v same passes w later passes_too.
    let here : cond {A = ℕ} (p z) 1 0 ≡ 1 = ap (λ b. cond {A = ℕ} b 1 0) (ap p same ∙ passes) in
    let there = counts_one p zs w later passes_too in
    absurd (omega (arith, few, all, here, there)) in
    ⊎_elim
    (λ first. ⊎_elim (λ too_first. sym first ∙ too_first)
    (λ later. absurd (counted x first is y later too)) (first_or_later z zs y other))
    (λ after. ⊎_elim (λ first. absurd (counted y first too x after is))
    (λ later. one_of p zs (omega (arith, few, all)) x y after later is too)
    (first_or_later z zs y other))
    (first_or_later z zs x one)

-- ---- turns

clock_front : (front rest : List Turn) → ShareAClock (front ++ rest) → ShareAClock front
clock_front [] rest clock = tt
clock_front (turn ∷ front) rest clock = (
  front_all (λ (later : Turn). (turn.round).moment ≤ (later.round).moment) front rest clock.0,
  clock_front front rest clock.1,
)

rounds_rise : (s : Side) (turns : List Turn) → ShareAClock turns → RoundsRise (rounds_of s turns)
rounds_rise s [] clock = tt
rounds_rise s (turn ∷ turns) clock =
    by_own (is_side s turn.side) (rounds_rise s turns clock.1)
  where
    by_own : (own : Bool) → RoundsRise (rounds_of s turns)
        → RoundsRise (map (λ (t : Turn). t.round)
        (cond own (turn ∷ filter (λ (t : Turn). is_side s t.side) turns)
        (filter (λ (t : Turn). is_side s t.side) turns)))
    by_own true later = (rounds_at (λ m. (turn.round).moment ≤ m) s turns clock.0, later)
    by_own false later = later

-- a round of a side among its rounds, as the turn that it is
record IsTurn (s : Side) (turns : List Turn) (before : List Round) (round : Round) : Type 0 where
  earlier : List Turn
  later : List Turn
  are : turns ≡ earlier ++ record { side = s; round = round } ∷ later
  rounds_are : rounds_of s earlier ≡ before

turn_of : (s : Side) (turns : List Turn) (before : List Round) (round : Round) (after : List Round)
    → rounds_of s turns ≡ before ++ round ∷ after → IsTurn s turns before round
turn_of s [] before round after same =
    absurd (none_among round (subst (λ rounds. Contains rounds round) (sym same)
    (Contains-append_right before (round ∷ after) round (among_first round after))))
turn_of s (turn ∷ turns) before round after same =
    by_own (is_side s turn.side) refl before same
    (λ before tail. turn_of s turns before round after tail)
  where
    kept : List Turn
    kept = filter (λ (t : Turn). is_side s t.side) turns

    this : is_side s turn.side ≡ true → turn ≡ record { side = s; round = turn.round }
    this own = ap (λ side. record { side = side; round = turn.round }) (same_side s turn.side own)

    rounds_then : (own : Bool) → is_side s turn.side ≡ own → (earlier : List Turn)
        → rounds_of s (turn ∷ earlier)
        ≡ map (λ (t : Turn). t.round)
        (cond own (turn ∷ filter (λ (t : Turn). is_side s t.side) earlier)
        (filter (λ (t : Turn). is_side s t.side) earlier))
    rounds_then own is earlier =
        ap (λ (own : Bool). map (λ (t : Turn). t.round)
        (cond own (turn ∷ filter (λ (t : Turn). is_side s t.side) earlier)
        (filter (λ (t : Turn). is_side s t.side) earlier))) is

    by_own : (own : Bool) → is_side s turn.side ≡ own → (before : List Round)
        → map (λ (t : Turn). t.round) (cond (is_side s turn.side) (turn ∷ kept) kept)
        ≡ before ++ round ∷ after
        → ((before : List Round) → rounds_of s turns ≡ before ++ round ∷ after
        → IsTurn s turns before round) → IsTurn s (turn ∷ turns) before round
    by_own true own [] all more =
        let same : turn.round ∷ rounds_of s turns ≡ round ∷ after =
        sym (rounds_then true own turns) ∙ all in
        let head : turn.round ≡ round = cc in
        record {
          earlier = [];
          later = turns;
          are = ap (λ t. t ∷ turns)
              (this own ∙ ap (λ (r : Round). record { side = s; round = r }) head);
          rounds_are = refl;
        }
    by_own true own (one ∷ before) all more =
        let same : turn.round ∷ rounds_of s turns ≡ one ∷ (before ++ round ∷ after) =
        sym (rounds_then true own turns) ∙ all in
        let head : turn.round ≡ one = cc in
        let tail : rounds_of s turns ≡ before ++ round ∷ after = cc in
        let rest = more before tail in
        record {
          earlier = turn ∷ rest.earlier;
          later = rest.later;
          are = ap (λ ts. turn ∷ ts) rest.are;
          rounds_are = rounds_then true own rest.earlier
              ∙ (λ i. head i ∷ rest.rounds_are i);
        }
    by_own false other before all more =
        let rest = more before (sym (rounds_then false other turns) ∙ all) in
        record {
          earlier = turn ∷ rest.earlier;
          later = rest.later;
          are = ap (λ ts. turn ∷ ts) rest.are;
          rounds_are = rounds_then false other rest.earlier ∙ rest.rounds_are;
        }

-- ---- keys

method_at : (line : StartLine) (branch host : List ℕ) (port : ℕ) (method : List ℕ)
    → is_request_line line ≡ true
    → method_in (key_at line branch host port method) ≡ transaction_method method
method_at (start_line.Request uri) branch host port method asks = refl
method_at (start_line.Response status reason) branch host port method asks =
    absurd (false≢true asks)

-- an ACK has the key of an INVITE
no_ack_key : (message : Message) → is_request_message message ≡ true
    → is_invite (method_in (key_of_message message)) ≡ false
    → message.cseq.method ≡ codes "ACK" → ⊥
unfolding key_of_message transaction_method
no_ack_key message asks other ack =
    false≢true (sym other
    ∙ ap is_invite (method_at message.start (top_branch message) (top_host message)
    (top_port message) message.cseq.method asks ∙ ap transaction_method ack))

-- ---- what comes up was handed up

module _ (config : Config) (rounds : List Round)
    (alone : EachKeyAlone key_cmp transaction_machine tick_at) where
  abbrev outs_of : Key → List Out
  outs_of key = outputs_from transaction_machine key None (inputs_of config rounds key)

  abbrev IsSaid : AnUp → Type 0
  IsSaid up = Contains (outs_of up.key) (out.Up up)

  up_said : (call_id : List ℕ) (up : AnUp) → ComesUp config rounds call_id up → IsSaid up
  up_said call_id up comes =
      each_of (TimedCame IsSaid) (call_inputs_of config rounds call_id)
      (given_at comes.0 (comes.1, Up up)) (inputs_came IsSaid config rounds all_said call_id) comes.2
    where
      by_out : (key : Key) (o : Out) → Contains (outs_of key) o
          → OutIsRaised key (inputs_of config rounds key) o → OutCame IsSaid o
      by_out key (out.Up up) among raised =
          subst (λ k. Contains (outs_of k) (out.Up up)) (sym raised.key_is) among
      by_out key (out.Send sender to bytes) among raised = tt
      by_out key (out.Dropped place why) among raised = tt

      all_said : (key : Key) → AllByRecursion (OutCame IsSaid) (said_of config rounds key)
      all_said key =
          let outs = outs_of key in
          subst (AllByRecursion (OutCame IsSaid))
          (sym (transaction_alone alone [] (past_of config rounds).transactions key))
          (all_of (OutCame IsSaid) outs
          (λ o among. by_out key o among
          (each_of (OutIsRaised key (inputs_of config rounds key)) outs o
          (ups_raised key (inputs_of config rounds key)) among)))

-- ---- a command to respond gives one response

module _ (calls : Calls) (state : Option Call) (event : Id) (respond : Respond) (now : ℕ) where
  abbrev outs : List CallOut
  outs = (call_step calls state (Some (event, User (user.Respond respond))) now).1

  one_answer : (one other : Id) (mine theirs : Key) (message too : Message)
      → Contains outs (call_out.Command one (order.Answer mine message))
      → Contains outs (call_out.Command other (order.Answer theirs too)) → message ≡ too
  one_answer one other mine theirs message too said said_too =
      ⊎_elim
      (λ refused. absurd (⊎_elim (λ same. absurd cc) (λ none. none)
      (subst (λ all. Among all (call_out.Command one (order.Answer mine message)))
      (ap (λ (taken : Option Call × List CallOut). taken.1) refused.1)
      (to_among outs (call_out.Command one (order.Answer mine message)) said))))
      (λ gives.
      let alone : (id : Id) (c : Order) → Contains outs (call_out.Command id c)
      → call_out.Command gives.0 gives.1 ≡ call_out.Command id c =
      λ id c among. ⊎_elim (λ same. same) (λ none. absurd none)
      (subst (λ all. Among all (call_out.Command id c)) gives.2
      (lists.among_kept (λ o. not (is_notice o)) outs (call_out.Command id c)
      (to_among outs (call_out.Command id c) among) refl)) in
      let same : call_out.Command one (order.Answer mine message)
      ≡ call_out.Command other (order.Answer theirs too) =
      sym (alone one (order.Answer mine message) said)
      ∙ alone other (order.Answer theirs too) said_too in
      cc)
      (each_command_is_answered calls state event (user.Respond respond) now)

-- ---- the application has answered

module _ (configs : Side → Config) (fair : IsFair configs) (turns : List Turn)
    (carried : Carried configs turns) (keep : CallsKeepRules configs turns)
    (clock : ShareAClock turns) (s : Side) (branch method : List ℕ) (now : ℕ) (request : Message)
    (no_invite : is_invite method ≡ false) (plain : has_command method ≡ false)
    (way : IsBegun (configs s) (configs (peer s)).local s turns (key.Client branch method) now
    request)
    (few : AreCounted (configs s) (rounds_of s turns))
    (front rest : List Turn) (eq : turns ≡ front ++ rest) (moment : ℕ)
    (by : AllByRecursion (IsBy moment) front) (early : moment < now + 32000) (status : ℕ)
    (response : Message) (final : 200 ≤ status)
    (responds : RespondsTo (configs (peer s)) (rounds_of (peer s) front)
    (come_from (configs s).local request) status response) where
  abbrev other : Side
  other = peer s

  abbrev here : Config
  here = configs s

  abbrev there : Config
  there = configs other

  abbrev calls : Calls
  calls = calls_of there

  abbrev rounds : List Round
  rounds = rounds_of other front

  abbrev own_key : Key
  own_key = key.Client branch method

  abbrev comes_as : Message
  comes_as = come_from here.local request

  abbrev there_key : Key
  there_key = key_of_message comes_as

  abbrev of_call : List ℕ
  of_call = comes_as.call_id

  abbrev there_inputs : List (Timed Input)
  there_inputs = inputs_of there rounds there_key

  abbrev up : AnUp
  up = responds.up

  says : CallSays here (rounds_of s turns)
      (call_out.Command way.id (order.Start own_key way.call_id request there.local))
  says = arrives.says configs fair turns carried keep clock s branch method now request no_invite
      plain way few

  asks : is_request_message request ≡ true
  asks = arrives.asks configs fair turns carried keep clock s branch method now request no_invite
      plain way few

  no_cancel : request.cseq.method ≡ codes "CANCEL" → ⊥
  no_cancel = arrives.no_cancel configs fair turns carried keep clock s branch method now request
      no_invite plain way few

  parts : HasKeyOf comes_as there_key
  parts = arrives.there_parts configs fair turns carried keep clock s branch method now request
      no_invite plain way few

  method_there : comes_as.cseq.method ≡ method
  method_there =
      (arrives.same configs fair turns carried keep clock s branch method now request no_invite
      plain way few).method
      ∙ sym (arrives.method_is configs fair turns carried keep clock s branch method now request
      no_invite plain way few)

  no_invite_there : is_invite (method_in there_key) ≡ false
  no_invite_there = ap is_invite (parts.method ∙ method_there) ∙ no_invite

  key_is : up.key ≡ there_key
  key_is = sym (request_first there rounds fair.transactions (fair.calls other) of_call up
      (responds.came).comes comes_as (responds.came).reply_to (responds.came).kind_is).key_is

  -- ---- what the transaction is given

  in_front : (f r : List Turn) → front ≡ f ++ r → turns ≡ f ++ (r ++ rest)
  in_front f r are = eq ∙ (ap (λ ts. ts ++ rest) are ∙ append_assoc f r rest)

  plain_there : ArePlain here.local there_inputs
  plain_there =
      front_all (λ (timed : Timed Input). IsPlain here.local timed.input) there_inputs
      (inputs_after there there_key rounds (rounds_of other rest))
      (subst (ArePlain here.local)
      (ap (λ rs. inputs_of there rs there_key)
      (ap (rounds_of other) eq ∙ rounds_of-append other front rest)
      ∙ inputs-append there there_key rounds (rounds_of other rest))
      (plain_inputs configs fair turns carried keep s few way.id own_key way.call_id request
      there.local says asks no_cancel (server_side there_key parts.server)))

  front_clock : ShareAClock front
  front_clock = clock_front front rest (subst ShareAClock eq clock)

  rise_there : Rise there_inputs
  rise_there = inputs_rise there there_key rounds (rounds_rise other front front_clock)

  before_there : AreBefore (now + 32000) there_inputs
  before_there =
      all_go {P = InputBy moment} {Q = λ (timed : Timed Input). timed.moment < now + 32000}
      (λ timed at. omega (arith, at, early)) there_inputs
      (inputs_at there there_key (λ m. m ≤ moment) rounds
      (rounds_at (λ m. m ≤ moment) other front by))

  -- it was started once
  start_moment : (f r : List Turn) → turns ≡ f ++ r → (at : ℕ)
      → Contains (inputs_of here (rounds_of s f) own_key)
      (given_at at (Start way.id way.call_id request there.local)) → now ≡ at
  start_moment f r are at among =
      let this = given_at now (Start way.id way.call_id request there.local) in
      let again = given_at at (Start way.id way.call_id request there.local) in
      let within : Contains (way.before ++ this ∷ way.after) again =
      subst (λ all. Contains all again)
      (sym (ap (λ rs. inputs_of here rs own_key)
      (ap (rounds_of s) are ∙ rounds_of-append s f r)
      ∙ inputs-append here own_key (rounds_of s f) (rounds_of s r)) ∙ way.inputs_are)
      (Contains-append_left (inputs_of here (rounds_of s f) own_key)
      (inputs_after here own_key (rounds_of s f) (rounds_of s r)) again among) in
      ⊎_elim
      (λ before. absurd (no_start way.before way.none_before at way.id way.call_id request
      there.local before))
      (λ others. ⊎_elim (λ same. ap (λ (timed : Timed Input). timed.moment) same)
      (λ after. absurd (no_start way.after way.none_after at way.id way.call_id request there.local
      after)) (first_or_later this way.after again others))
      (Contains-append_cases way.before (this ∷ way.after) again within)

  from_now : (timed : Timed Input) → Contains there_inputs timed → comes timed ≡ true
      → now ≤ timed.moment
  from_now timed among is =
      let at : ℕ = timed.moment in
      let p = parted at front front_clock in
      let first = rounds_of other p.front in
      let later = rounds_of other p.rest in
      let so = inputs_of there first there_key in
      let within : Contains so timed =
      ⊎_elim (λ here_so. here_so)
      (λ after.
      let over : at < timed.moment =
      each_of (λ (t : Timed Input). at < t.moment) (inputs_after there there_key first later) timed
      (inputs_after_at there there_key (λ m. at < m) first later
      (rounds_at (λ m. at < m) other p.rest p.late)) after in
      absurd (omega (arith, over)))
      (Contains-append_cases so (inputs_after there there_key first later) timed
      (subst (λ all. Contains all timed)
      (ap (λ rs. inputs_of there rs there_key)
      (ap (rounds_of other) p.are ∙ rounds_of-append other p.front p.rest)
      ∙ inputs-append there there_key first later) among)) in
      let eq_so = in_front p.front p.rest p.are in
      let started = asked_given here way.id
      (order.Start own_key way.call_id request there.local) (rounds_of s p.front)
      (came_asked configs fair turns carried keep clock s branch method now request no_invite plain
      way few p.front (p.rest ++ rest) eq_so
      (a_receipt so timed.moment timed.input is within)) in
      let its : now ≡ started.0 = start_moment p.front (p.rest ++ rest) eq_so started.0 started.1 in
      let then_by : started.0 ≤ at =
      each_of (InputBy at) (inputs_of here (rounds_of s p.front) own_key)
      (given_at started.0 (Start way.id way.call_id request there.local))
      (inputs_at here own_key (λ m. m ≤ at) (rounds_of s p.front)
      (rounds_at (λ m. m ≤ at) s p.front p.early)) started.1 in
      omega (arith, its, then_by)

  -- so it hands up one request
  same_up : (call_id : List ℕ) (one : AnUp) → ComesUp there rounds call_id one
      → one.key ≡ there_key → is_request_kind one.kind ≡ true → one ≡ up
  same_up call_id one comes_up its is =
      let outs = outputs_from transaction_machine there_key None there_inputs in
      let said : (u : AnUp) (q : List ℕ) → ComesUp there rounds q u → u.key ≡ there_key
      → Contains outs (out.Up u) =
      λ u q c k. subst (λ (key : Key). Contains (outputs_from transaction_machine key None
      (inputs_of there rounds key)) (out.Up u)) k
      (up_said there rounds fair.transactions q u c) in
      let same : out.Up one ≡ out.Up up =
      one_of is_request_up outs
      (one_request there_key parts.server (arrives.there_role configs fair turns carried keep clock
      s branch method now request no_invite plain way few) here.local now there_inputs rise_there
      plain_there (all_of (λ timed. comes timed ≡ true → now ≤ timed.moment) there_inputs from_now)
      before_there)
      (out.Up one) (out.Up up) (said one call_id comes_up its)
      (said up of_call (responds.came).comes key_is) is
      (ap is_request_kind (responds.came).kind_is) in
      cc

  -- ---- a final response that the transaction is given is this one

  abbrev IsOurs : Id → List ℕ → Type 0
  IsOurs id q = (id ≡ up.id) × (q ≡ of_call)

  -- what comes up from it under an id, to a call
  ours_by : (q : List ℕ) (one : AnUp) → ComesUp there rounds q one → one.key ≡ there_key
      → is_request_kind one.kind ≡ true → IsOurs one.id q
  ours_by q one comes_up its is =
      let same = same_up q one comes_up its is in
      let of : (call_id : List ℕ) (u : AnUp) → ComesUp there rounds call_id u
      → u.call_id ≡ call_id =
      λ call_id u c. ((each_of (TimedComes there rounds call_id)
      (call_inputs_of there rounds call_id) (given_at c.0 (c.1, Up u))
      (inputs_come there rounds call_id) c.2).0).0 in (
        ap (λ (u : AnUp). u.id) same,
        sym (of q one comes_up) ∙ (ap (λ (u : AnUp). u.call_id) same
            ∙ of of_call up (responds.came).comes),
      )

  -- an input that brings a request to a call
  brought_up : (config : Config) (rs : List Round) (q : List ℕ) (timed : Timed CallItem)
      → Contains (call_inputs_of config rs q) timed → (id : Id) (k : Key)
      → came_with timed.input ≡ Some (id, k)
      → (one : AnUp) × ComesUp config rs q one × (one.key ≡ k) × (one.id ≡ id)
      × (message : Message) × (reply_to : Addr) × (one.kind ≡ kind.Request message reply_to)
  brought_up config rs q timed among id k is = by_input timed.input among is
    where
      Brought : Type 0
      Brought = (one : AnUp) × ComesUp config rs q one × (one.key ≡ k) × (one.id ≡ id)
          × (message : Message) × (reply_to : Addr) × (one.kind ≡ kind.Request message reply_to)

      by_kind : (event : Id) (one : AnUp) (its : UpKind) → one.kind ≡ its
          → Contains (call_inputs_of config rs q)
          (record { moment = timed.moment; input = Some (event, Up one) })
          → came_with (Some (event, Up (record one { kind = its }))) ≡ Some (id, k) → Brought
      by_kind event one (kind.Request message reply_to) has among is =
          let same : (one.id, one.key) ≡ (id, k) = same_some (one.id, one.key) (id, k) is in (
            one,
            (timed.moment, event, among),
            ap (λ (pair : Id × Key). pair.1) same,
            ap (λ (pair : Id × Key). pair.0) same,
            message,
            reply_to,
            has,
          )
      by_kind event one (kind.Ack ack) has among is = absurd cc
      by_kind event one (kind.Response answer) has among is = absurd cc
      by_kind event one kind.Timeout has among is = absurd cc
      by_kind event one kind.Failed has among is = absurd cc

      by_input : (input : Option CallItem)
          → Contains (call_inputs_of config rs q) (record { moment = timed.moment; input = input })
          → came_with input ≡ Some (id, k) → Brought
      by_input None among is = absurd cc
      by_input (Some (event, Up one)) among is = by_kind event one one.kind refl among is
      by_input (Some (event, User command)) among is = absurd cc

  -- the same of one among first inputs
  brings_up : (config : Config) (rs : List Round) (q : List ℕ) (first more : List (Timed CallItem))
      → call_inputs_of config rs q ≡ first ++ more → (id : Id) (k : Key) → Brings id k first
      → (one : AnUp) × ComesUp config rs q one × (one.key ≡ k) × (one.id ≡ id)
      × (message : Message) × (reply_to : Addr) × (one.kind ≡ kind.Request message reply_to)
  brings_up config rs q first more are id k brings =
      let found = among_them first brings in
      brought_up config rs q found.0
      (subst (λ all. Contains all found.0) (sym are)
      (Contains-append_left first more found.0 found.1)) id k found.2
    where
      among_them : (inputs : List (Timed CallItem)) → Brings id k inputs
          → (timed : Timed CallItem) × Contains inputs timed × (came_with timed.input ≡ Some (id, k))
      among_them [] brings = absurd brings
      among_them (timed ∷ inputs) (inl is) = (timed, among_first timed inputs, is)
      among_them (timed ∷ inputs) (inr later) =
          let rest = among_them inputs later in
          (rest.0, among_later timed inputs rest.0 rest.1, rest.2)

  -- a call that gives it one, in some rounds
  module _ (rs : List Round) (n : ℕ) (id : Id) (message : Message) (answers : IsFinal message)
      (among : Contains (inputs_of there rs there_key) (given_at n (Answer id message)))
      (not_invite : (q : List ℕ) (first more : List (Timed CallItem))
      → call_inputs_of there rs q ≡ first ++ more → (held : HeldRequest)
      → Among (requests_held (call_from calls None first)) held → held.key ≡ there_key
      → requests.is_invite held.request ≡ false) where
    abbrev o : CallOut
    o = call_out.Command id (order.Answer there_key message)

    said : CallSays there rs o
    said = answer_said there rs there_key id message (n, among)

    abbrev q : List ℕ
    q = said.0

    abbrev at : SaidAt calls None (call_inputs_of there rs q) o
    at = said_at calls q o None (call_inputs_of there rs q)
        (subst (λ outs. Contains outs o)
        (call_alone calls (fair.calls other) [] (past_of there rs).calls q) said.1)

    abbrev state : Option Call
    state = call_from calls None at.before

    abbrev outs_at : Option CallItem → List CallOut
    outs_at input = (call_step calls state input at.timed.moment).1

    rise_at : RequestsRise at.before
    rise_at = first_rise at.before (at.timed ∷ at.after)
        (subst RequestsRise at.are (brought_rise there q rs))

    -- no tick gives it
    no_tick : Contains (outs_at None) o → ⊥
    no_tick says_so =
        let gives = tick_gives calls state at.timed.moment id (order.Answer there_key message)
        (to_among (outs_at None) o says_so) in
        let held : HeldRequest = gives.0 in
        let its : order.Answer there_key message ≡ order.Answer held.key gives.2 = gives.3 in
        let same_key : there_key ≡ held.key = cc in
        let same : message ≡ gives.2 = cc in
        ⊎_elim
        (λ provisional. not_early message answers
        (subst IsEarly (provisional.2 ∙ sym same)
        (lists.each_of (λ one. IsEarly one.response) held.provisionals provisional.0
        (held_so calls at.before rise_at held gives.1).early provisional.1)))
        (λ success. no_some success.0
        (sym (keeps_none calls at.before held gives.1
        (not_invite q at.before (at.timed ∷ at.after) at.are held gives.1 (sym same_key)))
        ∙ success.1))
        gives.4
      where
        no_some : {X : Type 0} (x : X) → None ≡ Some x → ⊥
        no_some x same = absurd cc

    record AtItem : Type 0 where
      event : Id
      item : Item
      is : at.timed.input ≡ Some (event, item)

    at_item : AtItem
    at_item = by_input at.timed.input refl at.said
      where
        by_input : (input : Option CallItem) → at.timed.input ≡ input → Contains (outs_at input) o
            → AtItem
        by_input None is says_so = absurd (no_tick says_so)
        by_input (Some (event, item)) is says_so = record { event = event; item = item; is = is }

    gives_it : GivesFinal calls id at.before at.timed
    gives_it = record {
      event = at_item.event;
      item = at_item.item;
      input_is = at_item.is;
      key = there_key;
      message = message;
      final = answers;
      said = to_among (outs_at (Some (at_item.event, at_item.item))) o
          (subst (λ input. Contains (outs_at input) o) at_item.is at.said);
    }

    -- its request came up to that call before
    its_up : (one : AnUp) × ComesUp there rs q one × (one.key ≡ there_key) × (one.id ≡ id)
        × (asked : Message) × (reply_to : Addr) × (one.kind ≡ kind.Request asked reply_to)
    unfolding at_item gives_it key_of_message
    its_up =
        ⊎_elim
        (λ came. brought_up there rs q at.timed
        (subst (λ all. Contains all at.timed) (sym at.are)
        (Contains-append_right at.before (at.timed ∷ at.after) at.timed
        (among_first at.timed at.after))) id there_key (ap came_with at_item.is ∙ came))
        (λ answered. brings_up there rs q at.before (at.timed ∷ at.after) at.are id there_key
        (subst (λ k. Brings id k at.before) answered.key_is
        (subst (λ i. Brings i answered.held.key at.before) answered.id_is
        (held_so calls at.before rise_at answered.held answered.among).came)))
        (came_or_held calls id at.before at.timed rise_at gives_it)

  -- the request of what is held there is this one
  not_invite : (q : List ℕ) (first more : List (Timed CallItem))
      → call_inputs_of there rounds q ≡ first ++ more → (held : HeldRequest)
      → Among (requests_held (call_from calls None first)) held → held.key ≡ there_key
      → requests.is_invite held.request ≡ false
  not_invite q first more are held among its =
      let came = held_came there rounds _ (fair.calls other)
      (all_came configs fair front (front_carried configs front rest (subst (Carried configs) eq
      carried)) (front_keeps configs front rest (subst (CallsKeepRules configs) eq keep)) s) q first
      more are held (from_among (requests_held (call_from calls None first)) held among) in
      let handed = came.handed in
      let same = same_up held.request.call_id came.up handed.comes (came.key_is ∙ its)
      (ap is_request_kind handed.kind_is) in
      let kinds : kind.Request held.request handed.reply_to
      ≡ kind.Request comes_as (responds.came).reply_to =
      sym handed.kind_is ∙ (ap (λ (u : AnUp). u.kind) same ∙ (responds.came).kind_is) in
      let this : held.request ≡ comes_as = cc in
      ap requests.is_invite this ∙ (ap is_invite method_there ∙ no_invite)

  abbrev gave : Responds there rounds of_call responds.respond up.key response
  gave = responds.gave

  abbrev ours : Timed CallItem
  ours = given_at gave.now (gave.event, User (user.Respond responds.respond))

  abbrev our_outs : List CallOut
  our_outs = (call_step calls (call_from calls None gave.earlier)
      (Some (gave.event, User (user.Respond responds.respond))) gave.now).1

  our_out : Contains our_outs (call_out.Command up.id (order.Answer up.key response))
  our_out = subst (λ id. Contains our_outs (call_out.Command id (order.Answer up.key response)))
      responds.names gave.sent

  our_final : IsFinal response
  our_final = final_given response.start status responds.sent_status final

  is_it : (n : ℕ) (id : Id) (message : Message) → IsFinal message
      → Contains there_inputs (given_at n (Answer id message)) → message ≡ response
  is_it n id message answers among =
      let its = its_up rounds n id message answers among not_invite in
      let where_at = at rounds n id message answers among not_invite in
      let its_call = q rounds n id message answers among not_invite in
      let mine = ours_by its_call its.0 its.1 its.2 (ap is_request_kind its.6) in
      let id_is : id ≡ up.id = sym its.3 ∙ mine.0 in
      let rise = brought_rise there of_call rounds in
      let place = one_place calls up.id (call_inputs_of there rounds of_call) where_at.before
      where_at.timed where_at.after gave.earlier ours gave.later rise
      (subst (λ c. call_inputs_of there rounds c
      ≡ where_at.before ++ where_at.timed ∷ where_at.after) mine.1 where_at.are)
      gave.inputs_are
      (subst (λ i. GivesFinal calls i where_at.before where_at.timed) id_is
      (gives_it rounds n id message answers among not_invite))
      (record {
        event = gave.event;
        item = User (user.Respond responds.respond);
        input_is = refl;
        key = up.key;
        message = response;
        final = our_final;
        said = to_among our_outs (call_out.Command up.id (order.Answer up.key response)) our_out;
      }) in
      one_answer calls (call_from calls None gave.earlier) gave.event responds.respond gave.now id
      up.id there_key up.key message response
      (subst (λ (timed : Timed CallItem). Contains (call_step calls
      (call_from calls None gave.earlier) timed.input timed.moment).1
      (call_out.Command id (order.Answer there_key message))) place.1
      (subst (λ before. Contains (call_step calls (call_from calls None before)
      where_at.timed.input where_at.timed.moment).1
      (call_out.Command id (order.Answer there_key message))) place.0 where_at.said))
      our_out

  -- ---- the transaction is given it

  says_ours : CallSays there rounds (call_out.Command up.id (order.Answer up.key response))
  says_ours = (
    of_call,
    subst (λ outs. Contains outs (call_out.Command up.id (order.Answer up.key response)))
        (sym (call_alone calls (fair.calls other) [] (past_of there rounds).calls of_call))
        (subst (λ inputs. Contains (outputs_from (call_machine calls) of_call None inputs)
        (call_out.Command up.id (order.Answer up.key response))) (sym gave.inputs_are)
        (says_at calls of_call (call_out.Command up.id (order.Answer up.key response)) None
        gave.earlier ours gave.later our_out)),
  )

  some_final : list_any gives_final there_inputs ≡ true
  some_final =
      let given = asked_given there up.id (order.Answer up.key response) rounds says_ours in
      any_of gives_final there_inputs (given_at given.0 (Answer up.id response))
      (subst (λ k. Contains (inputs_of there rounds k) (given_at given.0 (Answer up.id response)))
      key_is given.1) our_final

  -- a request came before
  came_too : (f r : List Round) → rounds ≡ f ++ r
      → list_any gives_final (inputs_of there f there_key) ≡ true
      → list_any comes (inputs_of there f there_key) ≡ true
  came_too f r are some =
      let one = some_one gives_final (inputs_of there f there_key) some in
      let answer = an_answer there there_key one.one one.passes in
      let among : Contains (inputs_of there f there_key)
      (given_at one.one.moment (Answer answer.id answer.message)) =
      subst (λ input. Contains (inputs_of there f there_key)
      (record { moment = one.one.moment; input = input })) answer.is one.among in
      let its = its_up f one.one.moment answer.id answer.message answer.final among
      (λ q first more is held within key. not_invite_in f r are q first more is held within key) in
      let first = request_first there f fair.transactions (fair.calls other)
      (q f one.one.moment answer.id answer.message answer.final among
      (λ q first more is held within key. not_invite_in f r are q first more is held within key))
      its.0 its.1 its.4 its.5 its.6 in
      received f its.0 its.2 its.4 first
    where
      -- what is held in fewer rounds is held in these
      not_invite_in : (f r : List Round) → rounds ≡ f ++ r → (q : List ℕ)
          (first more : List (Timed CallItem)) → call_inputs_of there f q ≡ first ++ more
          → (held : HeldRequest) → Among (requests_held (call_from calls None first)) held
          → held.key ≡ there_key → requests.is_invite held.request ≡ false
      not_invite_in f r are q first more is held within key =
          let longer = inputs_longer there f r q in
          not_invite q first (more ++ longer.0)
          (ap (λ rs. call_inputs_of there rs q) are
          ∙ (longer.1 ∙ (ap (λ xs. xs ++ longer.0) is ∙ append_assoc first more longer.0)))
          held within key

      received : (f : List Round) (one : AnUp) → one.key ≡ there_key → (asked : Message)
          → (first : HasFirst there f fair.transactions (fair.calls other) one asked)
          → list_any comes (inputs_of there f there_key) ≡ true
      received f one its asked first =
          let given : IsGiven there f there_key (Receive first.id first.first first.reply_to) =
          subst (λ k. IsGiven there f k (Receive first.id first.first first.reply_to)) its
          first.given in
          let keys = has_key there f there_key first.id first.first first.reply_to given in
          any_of comes (inputs_of there f there_key)
          (given_at given.0 (Receive first.id first.first first.reply_to)) given.1
          (λ i. first.asks i && not (not_ack first.first.cseq.method
          (no_ack_key first.first first.asks
          (ap (λ k. is_invite (method_in k)) keys ∙ no_invite_there)) i))

  -- in a turn up to that moment, the transaction is given this response first
  pub record IsAnsweredIn : Type 0 where
    pub earlier : List Turn
    pub round : Round
    pub later : List Turn
    pub are : turns ≡ earlier ++ record { side = other; round = round } ∷ later
    pub id : Id
    pub answered : IsFinallyAnswered there (rounds_of other earlier) round there_key id response
    pub in_time : round.moment ≤ moment

  pub answered_in : IsAnsweredIn
  answered_in =
      let found = first_answered there there_key rounds some_final came_too in
      let turn = turn_of other front found.before found.round found.after found.are in
      let answered = found.answered in
      let given = given_at found.round.moment (Answer found.id found.response) in
      let among : Contains there_inputs given =
      subst (λ rs. Contains (inputs_of there rs there_key) given)
      (sym (found.are ∙ sym (append_assoc found.before (found.round ∷ []) found.after)))
      (subst (λ all. Contains all given)
      (sym (inputs-append there there_key (found.before ++ found.round ∷ []) found.after))
      (Contains-append_left (inputs_of there (found.before ++ found.round ∷ []) there_key)
      (inputs_after there there_key (found.before ++ found.round ∷ []) found.after) given
      (subst (λ all. Contains all given) (sym answered.inputs_are)
      (Contains-append_right (inputs_of there found.before there_key ++ answered.here)
      (given ∷ answered.later) given (among_first given answered.later))))) in
      let same : found.response ≡ response =
      is_it found.round.moment found.id found.response answered.final among in
      let this : Turn = record { side = other; round = found.round } in
      record {
        earlier = turn.earlier;
        round = found.round;
        later = turn.later ++ rest;
        are = eq ∙ (ap (λ ts. ts ++ rest) turn.are
            ∙ append_assoc turn.earlier (this ∷ turn.later) rest);
        id = found.id;
        answered = subst (λ rs. IsFinallyAnswered there rs found.round there_key found.id response)
            (sym turn.rounds_are)
            (subst (IsFinallyAnswered there found.before found.round there_key found.id) same answered);
        in_time = each_of (IsBy moment) front this by
            (subst (λ ts. Contains ts this) (sym turn.are)
            (Contains-append_right turn.earlier (this ∷ turn.later) this
            (among_first this turn.later)));
      }

-- ---- the law

early_so : (a b c : ℕ) → a + b < c + 32000 → a < c + 32000
early_so a b c soon = omega (arith, soon)

no_later : (a b c : ℕ) → a ≤ b → a + c ≤ b + c
no_later a b c by = omega (arith, by)

soon_so : (a b c d : ℕ) → a ≤ b → b + c < d → a + c < d
soon_so a b c d by soon = omega (arith, by, soon)

told_later : (configs : Side → Config) (turns : List Turn) (s : Side) (call_id : List ℕ) (id : Id)
    (response : Message) (one other : ℕ) → one ≤ other
    → IsToldBy configs turns s call_id id response one
    → IsToldBy configs turns s call_id id response other
told_later configs turns s call_id id response one other by told = record {
  front = told.front;
  rest = told.rest;
  are = told.are;
  in_time = all_go {P = IsBy one} {Q = IsBy other} (λ turn at. omega (arith, at, by)) told.front
      told.in_time;
  status = told.status;
  status_is = told.status_is;
  told = told.told;
}

pub applications_answers_arrive : (configs : Side → Config) (fair : IsFair configs)
    (turns : List Turn) → Carried configs turns → CallsKeepRules configs turns
    → ApplicationsAnswersArrive configs turns
applications_answers_arrive configs fair turns carried keep lag more delay clock runs delivers s
    branch method now request no_invite plain way few front rest eq moment by status response final
    responds fits soon on =
    let time = answer_time lag more delay in
    let no_cancel = no_own_command method plain in
    let so = answered_in configs fair turns carried keep clock s branch method now request no_invite
    plain (begun configs fair turns s branch method now request no_cancel way few) few front rest eq
    moment by (early_so moment time now soon) status response final responds in
    let in_time = so.in_time in
    told_later configs turns s way.call_id way.id response (so.round.moment + time) (moment + time)
    (no_later so.round.moment moment time in_time)
    (arrives.answers_arrive configs fair turns carried keep lag more delay clock runs delivers s
    branch method now request no_invite plain way few so.earlier so.later so.round so.are so.id
    response so.answered fits (soon_so so.round.moment moment time (now + 32000) in_time soon)
    (on.0, on.1, soon_so so.round.moment moment time (on.0).moment in_time on.2))
