-- A request that is under way: its transaction began with it, and nothing was held before.
use Rattle.std.proofs.Common.{◌≡◌, ℕ, ◌≤◌, false, List, [], ◌∷◌, ◌++◌, length, refl, sym, ap, ◌∙◌, subst, codes}
use Rattle.std.specs.Prelude.{Contains, None, Option, Some, filter_map}
use Rattle.std.specs.List.{IsDistinct, list_any}
use Rattle.std.proofs.lemmas.List.Elements.{Contains-append_right}
use Rattle.sip_message.specs.declared.addr.Addr.{Addr}
use Rattle.sip_message.specs.declared.id.Id.{Id}
use Rattle.sip_message.specs.declared.key.Key.{Key}
use Rattle.sip_message.specs.declared.key.Key.TheVariants as key
use Rattle.sip_message.specs.declared.message.Message.{Message}
use Rattle.sip_message.specs.Key.{branch_in, client_key, method_in}
use Rattle.sip_message.specs.TopVia.{top_branch}
use Rattle.sip_message.specs.Written.{written}
use Rattle.keyed_machine.specs.Machine.{Timed, given_at, state_after}
use Rattle.sip_transactions.specs.declared.input.Command.TheVariants as order
use Rattle.sip_transactions.specs.declared.input.Input.{Input}
use Rattle.sip_transactions.specs.declared.input.Input.TheVariants.{Abandon, Answer, Failed, Receive, Start}
use Rattle.sip_transactions.specs.Ids.{is_id}
use Rattle.sip_transactions.specs.Laws.{naming_id}
use Rattle.sip_transactions.specs.Machine.{transaction_machine}
use Rattle.sip_user.specs.declared.item.CallOut.TheVariants as call_out
use Rattle.sip_round.specs.declared.config.Config.{Config}
use Rattle.sip_round.specs.declared.round.Round.{Round}
use Rattle.sip_round.specs.Laws.{inputs_of}
use Rattle.sip_round.proofs.NamesRise.{names_differ}
use Rattle.sip_conversation.specs.Conversation.{Side, Turn, peer, rounds_of}
use Rattle.sip_agent_laws.specs.Transactions.Copies.{is_invite}
use Rattle.sip_conversation.specs.Delivery.{IsUnderWay, is_lost, longest_datagram}
use Rattle.sip_conversation.specs.Messages.{CallSays}
use Rattle.sip_conversation.specs.Replies.{AreCounted}
use Rattle.sip_conversation.specs.Steps.Fair.{IsFair}
use Rattle.sip_conversation.proofs.Among.{among_first, among_later}
use Rattle.sip_conversation.proofs.FirstStart.{AreOthers, IsOther, StartsFirst, none_held, starts_first}
use Rattle.sip_conversation.proofs.OneOrigin.{IsStartedHere, same_start, start_of}
use Rattle.sip_conversation.proofs.OnceOnly.{distinct_later, none_later, once_only}
use Rattle.sip_conversation.proofs.OneStart.{start_id}
use Rattle.sip_conversation.proofs.RequestsAsked.{out_own}
use Rattle.sip_conversation.proofs.UpTo.{any_later}
use Rattle.sip_conversation.proofs.WasAnswered.{start_said}

pub record IsBegun (config : Config) (to : Addr) (side : Side) (turns : List Turn) (key : Key)
    (now : ℕ) (request : Message) : Type 0 where
  pub before : List (Timed Input)
  pub id : Id
  pub call_id : List ℕ
  pub after : List (Timed Input)
  pub inputs_are : inputs_of config (rounds_of side turns) key
      ≡ before ++ given_at now (Start id call_id request to) ∷ after
  pub new : state_after transaction_machine key before ≡ None
  pub none_before : AreOthers before
  pub none_after : AreOthers after
  pub kept : list_any (λ timed. is_lost timed.input) after ≡ false
  pub short : length (written request) ≤ longest_datagram

abbrev name_of : Timed Input → Option Id
name_of timed = naming_id timed.input

distinct_back : (xs ys : List (Timed Input))
    → IsDistinct is_id (filter_map name_of (xs ++ ys)) → IsDistinct is_id (filter_map name_of ys)
distinct_back [] ys apart = apart
distinct_back (x ∷ xs) ys apart =
    distinct_back xs ys (distinct_later name_of (name_of x) (filter_map name_of (xs ++ ys)) apart)

others_in : (inputs : List (Timed Input))
    → ((at : ℕ) (id : Id) (of : List ℕ) (message : Message) (to : Addr)
    → Contains inputs (given_at at (Start id of message to)) → ⊥) → AreOthers inputs
others_in [] none = tt
others_in (timed ∷ inputs) none = (
  by_input timed.input (λ id of message to is. none timed.moment id of message to
      (subst (λ i. Contains (timed ∷ inputs) (record { moment = timed.moment; input = i })) is
      (among_first timed inputs))),
  others_in inputs
      (λ at id of message to among.
      none at id of message to (among_later timed inputs (given_at at (Start id of message to)) among)),
)
  where
    by_input : (input : Option Input)
        → ((id : Id) (of : List ℕ) (message : Message) (to : Addr)
        → input ≡ Some (Start id of message to) → ⊥) → IsOther input
    by_input None none = tt
    by_input (Some (Receive id message reply_to)) none = tt
    by_input (Some (Start id of message to)) none = none id of message to refl
    by_input (Some (Answer id message)) none = tt
    by_input (Some (Failed id)) none = tt
    by_input (Some Abandon) none = tt

module _ (configs : Side → Config) (fair : IsFair configs) (turns : List Turn)
    (s : Side) (branch method : List ℕ) (now : ℕ) (request : Message)
    (no_cancel : method ≡ codes "CANCEL" → ⊥)
    (way : IsUnderWay (configs s) (configs (peer s)).local s turns (key.Client branch method) now
    request)
    (few : AreCounted (configs s) (rounds_of s turns)) where
  abbrev config : Config
  config = configs s

  abbrev there : Addr
  there = (configs (peer s)).local

  abbrev rounds : List Round
  rounds = rounds_of s turns

  abbrev own_key : Key
  own_key = key.Client branch method

  abbrev inputs : List (Timed Input)
  inputs = inputs_of config rounds own_key

  abbrev first : StartsFirst inputs
  first = starts_first now way.id way.call_id request there inputs way.started

  -- a start of this transaction
  module _ (at : ℕ) (id : Id) (of : List ℕ) (message : Message) (to : Addr)
      (among : Contains inputs (given_at at (Start id of message to))) where
    says : CallSays config rounds (call_out.Command id (order.Start own_key of message to))
    says = start_said config rounds own_key id of message to (at, among)

    abbrev here : IsStartedHere config rounds (fair.calls s) message
    here = record { id = id; key = own_key; at = of; to = to; says = says }

    own : own_key ≡ client_key (top_branch message) message.cseq.method
    own = (out_own config rounds (fair.calls s)
        (call_out.Command id (order.Start own_key of message to)) says).key_is

    plain : message.cseq.method ≡ codes "CANCEL" → ⊥
    plain cancel = no_cancel (ap method_in own ∙ cancel)

  among_first_so : Contains inputs
      (given_at first.now (Start first.id first.call_id first.request first.to))
  among_first_so =
      let one = given_at first.now (Start first.id first.call_id first.request first.to) in
      subst (λ all. Contains all one) (sym first.are)
      (Contains-append_right first.before (one ∷ first.after) one (among_first one first.after))

  same : start_of config rounds (fair.calls s) first.request
      (here first.now first.id first.call_id first.request first.to among_first_so)
      ≡ start_of config rounds (fair.calls s) request
      (here now way.id way.call_id request there way.started)
  same =
      let one = own first.now first.id first.call_id first.request first.to among_first_so in
      let other = own now way.id way.call_id request there way.started in
      same_start config rounds (fair.calls s) few first.request request
      (here first.now first.id first.call_id first.request first.to among_first_so)
      (here now way.id way.call_id request there way.started)
      (plain first.now first.id first.call_id first.request first.to among_first_so)
      (plain now way.id way.call_id request there way.started)
      (ap branch_in (sym one ∙ other))

  -- the two are one input, since their ids are the same
  starts_now : given_at first.now (Start first.id first.call_id first.request first.to)
      ≡ given_at now (Start way.id way.call_id request there)
  starts_now =
      let one = given_at first.now (Start first.id first.call_id first.request first.to) in
      let other = given_at now (Start way.id way.call_id request there) in
      once_only name_of inputs (names_differ config own_key rounds) one other among_first_so
      way.started way.id (ap start_id same) refl

  -- it is started once
  no_other : (at : ℕ) (id : Id) (of : List ℕ) (message : Message) (to : Addr)
      → Contains first.after (given_at at (Start id of message to)) → ⊥
  no_other at id of message to among =
      let one = given_at first.now (Start first.id first.call_id first.request first.to) in
      let again = given_at at (Start id of message to) in
      let held : Contains inputs again =
      subst (λ all. Contains all again) (sym first.are)
      (Contains-append_right first.before (one ∷ first.after) again
      (among_later one first.after again among)) in
      let keys = sym (own at id of message to held)
      ∙ own now way.id way.call_id request there way.started in
      let same = same_start config rounds (fair.calls s) few message request
      (here at id of message to held) (here now way.id way.call_id request there way.started)
      (plain at id of message to held) (plain now way.id way.call_id request there way.started)
      (ap branch_in keys) in
      none_later name_of one first.after
      (distinct_back first.before (one ∷ first.after)
      (subst (λ all. IsDistinct is_id (filter_map name_of all)) first.are
      (names_differ config own_key rounds)))
      way.id (ap (λ t. name_of t) starts_now) again among (ap start_id same)

  pub begun : IsBegun config there s turns own_key now request
  begun = record {
    before = first.before;
    id = way.id;
    call_id = way.call_id;
    after = first.after;
    inputs_are = first.are ∙ ap (λ one. first.before ++ one ∷ first.after) starts_now;
    new = none_held (is_invite method) own_key refl first.before first.others;
    none_before = first.others;
    none_after = others_in first.after
        (λ at id of message to among. no_other at id of message to among);
    kept = any_later (λ (timed : Timed Input). is_lost timed.input) first.before
        (given_at first.now (Start first.id first.call_id first.request first.to)) first.after
        (subst (λ all. list_any (λ (timed : Timed Input). is_lost timed.input) all ≡ false)
        first.are way.kept);
    short = way.short;
  }

  pub begun_id : begun.id ≡ way.id
  unfolding begun
  begun_id = refl

  pub begun_call : begun.call_id ≡ way.call_id
  unfolding begun
  begun_call = refl
