-- A request that is under way arrives.
use Rattle.std.proofs.Common.{◌≡◌, ⊎_elim, ℕ, suc, ◌+◌, ◌<◌, ◌≤◌, true, false, List, [], ◌∷◌, ◌++◌, refl, sym, ap, ◌∙◌, subst, arith, codes, append_assoc}
use Rattle.std.specs.Prelude.{Contains, Option, None, Some}
use Rattle.std.specs.List.{AllByRecursion, list_any}
use Rattle.std.specs.Str.{bytes_eq}
use Rattle.std.proofs.lemmas.Slice.Eq.{bytes_eq-Decides}
use Rattle.std.proofs.lemmas.Bool.{false≢true, leb-true}
use Rattle.std.proofs.lemmas.List.Elements.{Contains-append_cases, Contains-append_left, Contains-append_right}
use Rattle.sip_message.specs.declared.addr.Addr.{Addr}
use Rattle.sip_message.specs.declared.key.Key.{Key}
use Rattle.sip_message.specs.declared.key.Key.TheVariants as key
use Rattle.sip_message.specs.Key.{method_in}
use Rattle.sip_message.specs.declared.message.Message.{Message}
use Rattle.sip_message.specs.Message.{is_request_message}
use Rattle.sip_message.specs.MessageKey.{key_of_message}
use Rattle.sip_message.specs.Rules.{IsMessage}
use Rattle.sip_message.specs.Source.{answer_address}
use Rattle.sip_message.specs.Written.{written}
use Rattle.keyed_machine.specs.Machine.{Timed, given_at, outputs_from, tick_at}
use Rattle.keyed_machine.proofs.Ordered.{by_bool}
use Rattle.sip_transactions.specs.declared.input.Command.TheVariants as order
use Rattle.sip_transactions.specs.declared.input.Input.{Input}
use Rattle.sip_transactions.specs.declared.input.Input.TheVariants.{Abandon, Answer, Failed, Receive, Start}
use Rattle.sip_transactions.specs.Machine.{transaction_machine}
use Rattle.sip_transactions.proofs.Rules.{at_steps}
use Rattle.sip_user.specs.declared.item.CallOut.TheVariants as call_out
use Rattle.sip_round.specs.declared.config.Config.{Config}
use Rattle.sip_round.specs.declared.round.Round.{Round}
use Rattle.sip_round.specs.Laws.{inputs_of}
use Rattle.sip_conversation.specs.Conversation.{Carried, Side, Turn, peer, rounds_of}
use Rattle.sip_agent_laws.specs.Transactions.Copies.{EachRequestIsRepeated, TicksInTime, copies, ends_by, ends_wait, latest_repeat, pace_of}
use Rattle.sip_conversation.specs.Delivery.{ArrivesBy, Delivers, GoesOn, OneIsDelivered, RequestsArrive, RunInTime, RunsAfter, ShareAClock, copies_sent, is_lost}
use Rattle.sip_conversation.specs.Messages.{CallSays, CallsKeepRules, IsGiven, come_from}
use Rattle.sip_conversation.specs.Replies.{AreCounted}
use Rattle.sip_conversation.specs.Steps.Fair.{IsFair}
use Rattle.sip_conversation.proofs.Among.{all_go, among_first, among_later, each_of}
use Rattle.sip_conversation.proofs.Begun.{IsBegun, begun}
use Rattle.sip_conversation.proofs.ComesAt.{text_given}
use Rattle.sip_conversation.proofs.CopiesSent.{later_copies, sent_at_least}
use Rattle.sip_conversation.proofs.Fronts.{counted_front, front_carried, front_keeps}
use Rattle.sip_conversation.proofs.Longer.{rounds_of-append}
use Rattle.sip_agent_laws.proofs.transactions.OftenSent as often
use Rattle.sip_conversation.proofs.OneCallId.{out_replies}
use Rattle.sip_conversation.proofs.RoundInputs.{BeginsWithTick, begins_with_tick, inputs-append, inputs_after, inputs_after_at, inputs_at}
use Rattle.sip_conversation.proofs.UpTo.{InputBy, IsBy, IsFirst, IsLater, Parted, StandsEarly, each_not, has_first, in_time_after, in_time_first, own_round, parted, round_of, rounds_at, some_one, stands_early}
use Rattle.sip_conversation.proofs.RequestsAsked.{out_own}
use Rattle.sip_conversation.proofs.SameRequest.{handed_up}
use Rattle.sip_conversation.proofs.ToldOrAnswered.{told_or_answered}
use Rattle.sip_conversation.proofs.WasAnswered.{GivenThere, answered_came, start_said}

-- what arrives by a moment arrives by a later one
later_by : (configs : Side → Config) (turns : List Turn) (s : Side) (request : Message)
    (early late : ℕ) → early ≤ late → ArrivesBy configs turns s request early
    → ArrivesBy configs turns s request late
later_by configs turns s request early late from came = record {
  front = came.front;
  rest = came.rest;
  are = came.are;
  in_time = all_go {P = IsBy early} {Q = IsBy late} (λ turn by. omega (arith, by, from)) came.front
      came.in_time;
  up = came.up;
  comes = came.comes;
  told = came.told;
}

module _ (configs : Side → Config) (fair : IsFair configs) (turns : List Turn)
    (carried : Carried configs turns) (keep : CallsKeepRules configs turns)
    (lag repeats delay : ℕ) (clock : ShareAClock turns) (runs : RunInTime configs lag turns)
    (delivers : Delivers configs (suc repeats) delay turns) (s : Side) (branch method : List ℕ)
    (now : ℕ) (request : Message) (no_cancel : method ≡ codes "CANCEL" → ⊥)
    (way : IsBegun (configs s) (configs (peer s)).local s turns (key.Client branch method) now
    request)
    (few : AreCounted (configs s) (rounds_of s turns)) where
  abbrev config : Config
  config = configs s

  abbrev there : Addr
  there = (configs (peer s)).local

  abbrev own_key : Key
  own_key = key.Client branch method

  abbrev latest : ℕ
  latest = latest_repeat (pace_of method) lag repeats

  abbrev text : List ℕ
  text = written request

  abbrev start : Timed Input
  start = given_at now (Start way.id way.call_id request there)

  abbrev as_it_comes : Message
  as_it_comes = come_from config.local request

  -- ---- the turns up to a moment, and the inputs of the transaction in them

  module _ (moment : ℕ) (from : now ≤ moment) where
    abbrev parts_to : Parted moment turns
    parts_to = parted moment turns clock

    abbrev front_to : List Turn
    front_to = parts_to.front

    abbrev early_to : List Round
    early_to = rounds_of s front_to

    abbrev late_to : List Round
    late_to = rounds_of s parts_to.rest

    abbrev first_to : List (Timed Input)
    first_to = inputs_of config early_to own_key

    abbrev later_to : List (Timed Input)
    later_to = inputs_after config own_key early_to late_to

    rounds_to : rounds_of s turns ≡ early_to ++ late_to
    rounds_to = ap (rounds_of s) parts_to.are ∙ rounds_of-append s front_to parts_to.rest

    inputs_to : first_to ++ later_to ≡ way.before ++ start ∷ way.after
    inputs_to = sym (inputs-append config own_key early_to late_to)
        ∙ (ap (λ rounds. inputs_of config rounds own_key) (sym rounds_to) ∙ way.inputs_are)

    all_late : AllByRecursion (λ (round : Round). moment < round.moment) late_to
    all_late = rounds_at (λ m. moment < m) s parts_to.rest parts_to.late

    stands_to : StandsEarly moment way.before start way.after first_to later_to
    stands_to = stands_early moment way.before start way.after first_to later_to inputs_to
        (inputs_after_at config own_key (λ m. moment < m) early_to late_to all_late) from

    is_first_to : (timed : Timed Input) → Contains (start ∷ stands_to.waiting) timed
        → Contains first_to timed
    is_first_to timed among =
        subst (λ inputs. Contains inputs timed) (sym stands_to.first_are)
        (Contains-append_right way.before (start ∷ stands_to.waiting) timed among)

    started_to : IsGiven config early_to own_key (Start way.id way.call_id request there)
    started_to = (now, is_first_to start (among_first start stands_to.waiting))

    says_to : CallSays config early_to
        (call_out.Command way.id (order.Start own_key way.call_id request there))
    says_to = start_said config early_to own_key way.id way.call_id request there started_to

    carried_to : Carried configs front_to
    carried_to =
        front_carried configs front_to parts_to.rest (subst (Carried configs) parts_to.are carried)

    keep_to : CallsKeepRules configs front_to
    keep_to =
        front_keeps configs front_to parts_to.rest (subst (CallsKeepRules configs) parts_to.are keep)

    few_to : AreCounted config early_to
    few_to = counted_front config early_to late_to (subst (AreCounted config) rounds_to few)

    rules_to : IsMessage request
    rules_to =
        keep_to s (call_out.Command way.id (order.Start own_key way.call_id request there)) says_to

    asks_to : is_request_message request ≡ true
    asks_to = out_replies config (fair.calls s) early_to
        (call_out.Command way.id (order.Start own_key way.call_id request there)) says_to

    own_method : request.cseq.method ≡ codes "CANCEL" → ⊥
    own_method cancel = no_cancel (ap method_in (out_own config early_to (fair.calls s)
        (call_out.Command way.id (order.Start own_key way.call_id request there)) says_to).key_is
        ∙ cancel)

    not_cancel : (m : List ℕ) → (m ≡ codes "CANCEL" → ⊥) → bytes_eq m (codes "CANCEL") ≡ false
    not_cancel m other =
        by_bool (bytes_eq m (codes "CANCEL"))
        (λ is. absurd (other ((bytes_eq-Decides m (codes "CANCEL")).0 is)))
        (λ none. none)

    -- if it came to the other side by the moment, it came up there
    arrives_by : GivenThere configs fair front_to carried_to keep_to s (come_from config.local request)
        → ArrivesBy configs turns s request moment
    arrives_by given =
        let one = handed_up configs fair front_to carried_to keep_to s few_to way.id own_key
        way.call_id request there says_to asks_to own_method given.0 given.1 given.2 given.3 in
        record {
          front = front_to;
          rest = parts_to.rest;
          are = parts_to.are;
          in_time = parts_to.early;
          up = one.up;
          comes = one.handed;
          told = told_or_answered (configs (peer s)) (rounds_of (peer s) front_to)
              (fair.calls (peer s)) as_it_comes.call_id one.up as_it_comes one.handed.reply_to
              (not_cancel as_it_comes.cseq.method
              (λ cancel. own_method (sym one.method ∙ cancel))) refl one.handed.kind_is
              one.handed.comes;
        }

  -- ---- up to the last repeat

  start_by : now ≤ now + latest
  start_by = omega arith

  abbrev parts : Parted (now + latest) turns
  parts = parts_to (now + latest) start_by

  abbrev front : List Turn
  front = parts.front

  abbrev early : List Round
  early = rounds_of s front

  abbrev late : List Round
  late = rounds_of s parts.rest

  abbrev first : List (Timed Input)
  first = inputs_of config early own_key

  abbrev later : List (Timed Input)
  later = inputs_after config own_key early late

  all_early : AllByRecursion (InputBy (now + latest)) first
  all_early = inputs_at config own_key (λ m. m ≤ now + latest) early
      (rounds_at (λ m. m ≤ now + latest) s front parts.early)

  abbrev stands : StandsEarly (now + latest) way.before start way.after first later
  stands = stands_to (now + latest) start_by

  abbrev waiting : List (Timed Input)
  waiting = stands.waiting

  is_first : (timed : Timed Input) → Contains waiting timed → Contains first timed
  is_first timed among =
      is_first_to (now + latest) start_by timed (among_later start waiting timed among)

  module _ (soon : latest + delay < 32000) (on : RunsAfter s (now + (latest + delay)) turns) where
    abbrev last : ℕ
    last = now + (latest + delay)

    start_before : now ≤ last
    start_before = omega arith

    abbrev Arrives : Type 0
    Arrives = ArrivesBy configs turns s request last

    -- ---- the wait ends before

    not_kept : (timed : Timed Input) → Contains waiting timed → is_lost timed.input ≡ true → ⊥
    not_kept timed among lost =
        false≢true (sym (each_not (λ t. is_lost t.input) way.after way.kept timed
        (subst (λ inputs. Contains inputs timed) (sym stands.after_are)
        (Contains-append_left waiting later timed among))) ∙ lost)

    ended_by : (moment : ℕ) (input : Option Input)
        → Contains waiting (record { moment = moment; input = input })
        → ends_by (now + 32000) moment input ≡ true → Arrives
    ended_by moment None among ends =
        let by : moment ≤ now + latest =
        each_of (InputBy (now + latest)) first (record { moment = moment; input = None }) all_early
        (is_first (record { moment = moment; input = None }) among) in
        let over : now + 32000 ≤ moment = leb-true (now + 32000) moment ends in
        absurd (omega arith)
    ended_by moment (Some (Receive id response reply_to)) among ends =
        let heard = given_at moment (Receive id response reply_to) in
        later_by configs turns s request (now + latest) last (omega arith)
        (arrives_by (now + latest) start_by
        (answered_came configs fair front (carried_to (now + latest) start_by)
        (keep_to (now + latest) start_by) s own_key way.id way.call_id request there
        (started_to (now + latest) start_by) id response reply_to
        (moment, is_first heard among) ends no_cancel (few_to (now + latest) start_by)))
    ended_by moment (Some (Start id call_id message to)) among ends = absurd (false≢true ends)
    ended_by moment (Some (Answer id message)) among ends = absurd (false≢true ends)
    ended_by moment (Some (Failed id)) among ends =
        absurd (not_kept (record { moment = moment; input = Some (Failed id) }) among refl)
    ended_by moment (Some Abandon) among ends =
        absurd (not_kept (record { moment = moment; input = Some Abandon }) among refl)

    -- ---- all copies go out

    too_late : (on.0).moment ≤ now + latest → ⊥
    too_late by = let after = on.2 in omega (arith, by, after)

    -- that round is one of the later ones
    in_late : Contains late on.0
    in_late =
        ⊎_elim
        (λ before. absurd (too_late (each_of (λ (round : Round). round.moment ≤ now + latest) early
        on.0 (rounds_at (λ m. m ≤ now + latest) s front parts.early) before)))
        (λ later. later)
        (Contains-append_cases early late on.0
        (subst (λ rounds. Contains rounds on.0) (rounds_to (now + latest) start_by) on.1))

    goes_on : GoesOn delay front parts.rest
    goes_on =
        let one = round_of s parts.rest on.0 in_late in
        let after : now + (latest + delay) < ((one.0).round).moment =
        subst (λ (round : Round). now + (latest + delay) < round.moment) (sym one.2) on.2 in (
          one.0,
          one.1,
          all_go {P = IsBy (now + latest)}
              {Q = λ earlier. (earlier.round).moment + delay < ((one.0).round).moment}
              (λ turn by. omega (arith, by, after)) front parts.early,
        )

    next_round : IsFirst late
    next_round = has_first late on.0 in_late

    sent : list_any (ends_wait (now + 32000)) waiting ≡ false
        → suc repeats ≤ copies there text
        (outputs_from transaction_machine own_key None (start ∷ waiting))
    sent none =
        let round = next_round.first in
        let tick : BeginsWithTick config own_key round later =
        subst (λ rounds. BeginsWithTick config own_key round
        (inputs_after config own_key early rounds)) (sym next_round.are)
        (begins_with_tick config own_key early round next_round.more) in
        let all : inputs_of config (rounds_of s turns) own_key
        ≡ way.before ++ ((start ∷ waiting ++ tick_at round.moment ∷ []) ++ tick.rest) =
        way.inputs_are ∙ ap (λ after. way.before ++ start ∷ after) (stands.after_are
        ∙ (ap (λ more. waiting ++ more) tick.are
        ∙ sym (append_assoc waiting (tick_at round.moment ∷ []) tick.rest))) in
        let from_start = in_time_after lag own_key None way.before
        ((start ∷ waiting ++ tick_at round.moment ∷ []) ++ tick.rest)
        (subst (TicksInTime transaction_machine lag own_key None) all (runs s own_key)) in
        let in_time = in_time_first lag own_key None (start ∷ waiting ++ tick_at round.moment ∷ [])
        tick.rest
        (subst (λ held. TicksInTime transaction_machine lag own_key held
        ((start ∷ waiting ++ tick_at round.moment ∷ []) ++ tick.rest)) way.new from_start) in
        let late_rounds : AllByRecursion (λ (r : Round). now + latest < r.moment)
        (round ∷ next_round.more) =
        subst (AllByRecursion (λ (r : Round). now + latest < r.moment)) next_round.are
        (all_late (now + latest) start_by) in
        at_steps EachRequestIsRepeated often.a_request_is_repeated branch method lag repeats now
        round.moment way.id way.call_id request there waiting in_time none late_rounds.0

    enough : list_any (ends_wait (now + 32000)) waiting ≡ false
        → suc repeats ≤ copies_sent configs [] front s text
    enough none =
        let own = sent none in
        let more : copies there text (outputs_from transaction_machine own_key None (start ∷ waiting))
        ≤ copies there text (outputs_from transaction_machine own_key None first) =
        subst (λ inputs. copies there text
        (outputs_from transaction_machine own_key None (start ∷ waiting))
        ≤ copies there text (outputs_from transaction_machine own_key None inputs))
        (sym stands.first_are)
        (later_copies there text own_key way.before (start ∷ waiting) way.new) in
        let all = sent_at_least there text fair.transactions config early own_key in
        omega (arith, own, more, all)

    not_after : (at : Turn) → (at.round).moment ≤ last → IsLater last at → ⊥
    not_after at by after = omega arith

    one_comes : OneIsDelivered configs delay [] front parts.rest s text → Arrives
    one_comes one =
        let at : Turn = one.at in
        let by : (at.round).moment ≤ last =
        let soon_after : (at.round).moment ≤ (one.turn.round).moment + delay = one.soon in
        let sent_by : (one.turn.round).moment ≤ now + latest =
        each_of (IsBy (now + latest)) front one.turn parts.early
        (subst (λ ts. Contains ts one.turn) (sym one.are)
        (Contains-append_right one.front (one.turn ∷ one.rest) one.turn
        (among_first one.turn one.rest))) in
        omega (arith, soon_after, sent_by) in
        let whole = parts_to last start_before in
        let among : Contains turns at =
        subst (λ ts. Contains ts at) (sym (parts.are ∙ (ap (λ ts. ts ++ parts.rest) one.are
        ∙ append_assoc one.front (one.turn ∷ one.rest) parts.rest)))
        (Contains-append_right one.front (one.turn ∷ one.rest ++ parts.rest) at
        (among_later one.turn (one.rest ++ parts.rest) at one.among)) in
        let early_enough : Contains whole.front at =
        ⊎_elim (λ early. early)
        (λ late. absurd (not_after at by (each_of (IsLater last) whole.rest at whole.late late)))
        (Contains-append_cases whole.front whole.rest at
        (subst (λ ts. Contains ts at) whole.are among)) in
        let given = text_given request (rules_to last start_before)
        (omega (arith, way.short))
        (asks_to last start_before) config.local (configs (peer s))
        (rounds_of (peer s) whole.front) at.round
        (own_round (peer s) whole.front at early_enough one.to) one.comes in
        arrives_by last start_before (
          key_of_message (come_from config.local request),
          given.0,
          answer_address request config.local,
          given.1,
        )

    pub arrives : Arrives
    arrives =
        by_bool (list_any (ends_wait (now + 32000)) waiting)
        (λ ends. let one = some_one (ends_wait (now + 32000)) waiting ends in
        ended_by one.one.moment one.one.input one.among one.passes)
        (λ none. one_comes (delivers [] front parts.rest parts.are s text way.short (enough none) goes_on))

-- ---- the law

pub requests_arrive : (configs : Side → Config) (fair : IsFair configs) (turns : List Turn)
    → Carried configs turns → CallsKeepRules configs turns → RequestsArrive configs turns
requests_arrive configs fair turns carried keep lag repeats delay clock runs delivers s branch
    method now request no_cancel way few =
    arrives configs fair turns carried keep lag repeats delay clock runs delivers s branch method now
    request no_cancel (begun configs fair turns s branch method now request no_cancel way few) few
