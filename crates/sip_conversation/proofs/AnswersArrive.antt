-- A final response that the other side gives arrives.
use Rattle.std.proofs.Common.{◌≡◌, inl, inr, ⊎_elim, ℕ, zero, suc, ◌+◌, ◌*◌, ◌<◌, ◌≤◌, Bool, true, false, cond, ◌&&◌, ◌||◌, List, [], ◌∷◌, ◌++◌, map, drop, length, refl, sym, ap, ◌∙◌, subst, arith, codes, append-nil, append_assoc}
use Rattle.std.specs.Prelude.{Contains, Option, None, Some, count_by, filter, if◌then◌else◌, nat_le, not}
use Rattle.std.specs.List.{AllByRecursion, list_any, slice_get}
use Rattle.std.specs.Option.{option_map_or}
use Rattle.std.proofs.lemmas.Bool.{false≢true, leb-true}
use Rattle.std.proofs.lemmas.Grind.{common_steps}
use Rattle.std.proofs.lemmas.List.Elements.{Contains-append_cases, Contains-append_left, Contains-append_right}
use Rattle.std.proofs.lemmas.List.Sums.{sum_by-append, sum_by-cons}
use Rattle.std.proofs.Math.Nat.{mul-le-mul_right, suc-mul}
use Rattle.sip_message.specs.declared.addr.Addr.{Addr}
use Rattle.sip_message.specs.declared.cseq.CSeq.{CSeq}
use Rattle.sip_message.specs.declared.id.Id.{Id}
use Rattle.sip_message.specs.declared.key.Key.{Key}
use Rattle.sip_message.specs.declared.key.Key.TheVariants as key
use Rattle.sip_message.specs.declared.message.Message.{Message}
use Rattle.sip_message.specs.declared.start_line.StartLine.{StartLine}
use Rattle.sip_message.specs.declared.start_line.StartLine.TheVariants as start_line
use Rattle.sip_message.specs.declared.via.Via.{Via}
use Rattle.sip_message.specs.Key.{branch_in, client_key, method_in, side_of}
use Rattle.sip_message.specs.Message.{is_request_line, is_request_message}
use Rattle.sip_message.specs.MessageKey.{key_of_message}
use Rattle.sip_message.specs.Party.{tag_of}
use Rattle.sip_message.specs.Rules.{IsMessage}
use Rattle.sip_message.specs.Source.{answer_address, stamped}
use Rattle.sip_message.specs.TopVia.{is_sent_by_of, top_branch}
use Rattle.sip_message.specs.Via.{branch_of}
use Rattle.sip_message.specs.Written.{written}
use Rattle.keyed_machine.specs.Machine.{Machine, Timed, given_at, outputs_from, state_from, tick_at}
use Rattle.keyed_machine.proofs.Ordered.{by_bool}
use Rattle.keyed_machine.proofs.Phases.{state_from-append}
use Rattle.sip_transactions.specs.declared.input.Command.TheVariants as order
use Rattle.sip_transactions.specs.declared.input.Input.{Input}
use Rattle.sip_transactions.specs.declared.input.Input.TheVariants.{Abandon, Answer, Failed, Receive, Start}
use Rattle.sip_transactions.specs.declared.life.Context.{Context}
use Rattle.sip_transactions.specs.declared.life.Life.{Life}
use Rattle.sip_transactions.specs.declared.output.Out.{Out}
use Rattle.sip_transactions.specs.declared.output.Out.TheVariants as out
use Rattle.sip_transactions.specs.declared.output.UpKind.{UpKind}
use Rattle.sip_transactions.specs.declared.output.UpKind.TheVariants as kind
use Rattle.sip_transactions.specs.declared.state.Role.TheVariants as role
use Rattle.sip_transactions.specs.declared.state.State.TheVariants.{Completed, Proceeding, Trying}
use Rattle.sip_transactions.specs.declared.trigger.Class.{Class}
use Rattle.sip_transactions.specs.declared.trigger.Class.TheVariants as class
use Rattle.sip_transactions.specs.declared.trigger.Trigger.TheVariants as on
use Rattle.sip_transactions.specs.Laws.{IsServer}
use Rattle.sip_transactions.specs.ServerLaws.{is_final_answer}
use Rattle.sip_transactions.specs.Machine.{transaction_machine}
use Rattle.sip_transactions.specs.Steps.Input.{answer_of, class_of, is_abandon, is_same_method, role_of}
use Rattle.sip_transactions.specs.Steps.Life.{life_in, step_machine}
use Rattle.sip_transactions.proofs.Rules.{at_steps}
use Rattle.sip_user.specs.declared.item.CallOut.{CallOut}
use Rattle.sip_user.specs.declared.item.CallOut.TheVariants as call_out
use Rattle.sip_user.specs.declared.notice.Notice.{Notice}
use Rattle.sip_user.specs.declared.notice.Notice.TheVariants as notice
use Rattle.sip_clients.specs.Clients.{status_of}
use Rattle.sip_clients.specs.Rules.Requests.{has_command}
use Rattle.sip_round.specs.declared.config.Config.{Config}
use Rattle.sip_round.specs.declared.output.Output.TheVariants as output
use Rattle.sip_round.specs.declared.round.Round.{Round}
use Rattle.sip_round.specs.Answers.{answers}
use Rattle.sip_round.specs.Given.{all_given}
use Rattle.sip_round.specs.Laws.{inputs_of}
use Rattle.sip_agent_laws.specs.Agents.Open.{is_open, life_after}
use Rattle.sip_agent_laws.specs.Agents.Outcomes.{Causes, IsToldOfOutcome, Tells, Waits}
use Rattle.sip_agent_laws.specs.Transactions.Outcomes.{is_final, is_outcome}
use Rattle.sip_agent_laws.proofs.agents.OutcomeTold.{outcome_is_told}
use Rattle.sip_conversation.specs.Answers.{IsResponseTo}
use Rattle.sip_conversation.specs.AnswersArrive.{AnswersArrive, IsFinallyAnswered, IsToldBy, answer_time, is_receipt}
use Rattle.sip_conversation.specs.Conversation.{Carried, Side, Turn, is_side, peer, rounds_of}
use Rattle.sip_agent_laws.specs.Transactions.Copies.{TicksInTime, copies, is_copy, is_invite}
use Rattle.sip_conversation.specs.Delivery.{Delivers, GoesOn, OneIsDelivered, RunInTime, RunsAfter, ShareAClock, copies_sent, is_lost, is_sent, longest_datagram}
use Rattle.sip_conversation.specs.Messages.{CallSays, CallsKeepRules, ComesUnchanged, IsGiven, IsSaid, come_from}
use Rattle.sip_conversation.specs.Replies.{AreCounted}
use Rattle.sip_conversation.specs.Steps.Fair.{IsFair}
use Rattle.sip_conversation.proofs.Among.{all_go, among_first, among_later, each_of, first_or_later, none_among}
use Rattle.sip_conversation.proofs.AnsweringServer.{ArePlain, IsOpenTo, IsPlain, SendsOnly, answer_step, answered, begins_open, comes, gives_final, keeps_sending}
use Rattle.sip_conversation.proofs.ComesAt.{reply_given_after, text_given_after}
use Rattle.sip_conversation.proofs.CopiesSent.{outputs-append, sent_after}
use Rattle.sip_conversation.proofs.Begun.{IsBegun, begun, begun_call, begun_id}
use Rattle.sip_conversation.proofs.FirstStart.{AreOthers, IsOther}
use Rattle.sip_conversation.proofs.Fronts.{counted_front, front_carried, front_keeps, other_side, own_side}
use Rattle.sip_conversation.proofs.GivenAnswers.{asked_so, copies_request, is_it, plain_inputs, sent_by_home, sent_there}
use Rattle.sip_conversation.proofs.Longer.{rounds_of-append, says_longer}
use Rattle.sip_agent_laws.proofs.transactions.Often.{one_copy}
use Rattle.sip_agent_laws.proofs.transactions.OftenSent.{begins}
use Rattle.sip_conversation.proofs.OneCallId.{lower, out_replies}
use Rattle.sip_conversation.proofs.OneOrigin.{IsStartedHere, said_starts, same_start}
use Rattle.sip_conversation.proofs.RequestsAsked.{out_own}
use Rattle.sip_conversation.proofs.RequestsGoOut.{asked_given}
use Rattle.sip_conversation.proofs.RoundInputs.{BeginsWithTick, begins_with_tick, inputs-append, inputs_after, inputs_after_at, inputs_at}
use Rattle.sip_conversation.proofs.SameRequest.{HasKeyOf, comes_asking, key_parts, not_ack}
use Rattle.sip_conversation.proofs.StartedFor.{has_key, response_key}
use Rattle.sip_conversation.proofs.ToldCallId.{IsSame, came_same, peer_peer}
use Rattle.sip_conversation.proofs.Unchanged.{messages_unchanged, what_is_said}
use Rattle.sip_conversation.proofs.UpTo.{InputBy, IsBy, IsFirst, IsLater, Parted, each_not, has_first, in_time_after, in_time_first, own_round, parted, round_of, rounds_at, some_one}
use Rattle.sip_conversation.proofs.WaitingClient.{IsClosed, Waiting, WaitsAfter, ends_closed, ends_wait, is_early, not_early, not_final, often, waits, waits_on}
use Rattle.sip_conversation.proofs.WasAnswered.{start_said}

-- ---- lists

-- a start among the first inputs, of which there is none before it
record StartsWithin (before : List (Timed Input)) (one : Timed Input)
    (after first later : List (Timed Input)) : Type 0 where
  waiting : List (Timed Input)
  first_are : first ≡ before ++ one ∷ waiting
  after_are : after ≡ waiting ++ later

starts_within : (before : List (Timed Input)) (one : Timed Input)
    (after first later : List (Timed Input)) → first ++ later ≡ before ++ one ∷ after
    → (x : Timed Input) → Contains first x → (Contains before x → ⊥)
    → StartsWithin before one after first later
starts_within before one after [] later same x among apart = absurd (none_among x among)
starts_within [] one after (y ∷ first) later same x among apart =
    let head : y ≡ one = cc in
    let tail : first ++ later ≡ after = cc in
    record {
      waiting = first;
      first_are = ap (λ t. t ∷ first) head;
      after_are = sym tail;
    }
starts_within (b ∷ before) one after (y ∷ first) later same x among apart =
    let head : y ≡ b = cc in
    let tail : first ++ later ≡ before ++ one ∷ after = cc in
    let rest = starts_within before one after first later tail x
    (⊎_elim (λ same. absurd (apart (subst (Contains (b ∷ before)) (sym head ∙ same)
    (among_first b before)))) (λ within. within) (first_or_later y first x among))
    (λ within. apart (among_later b before x within)) in
    record {
      waiting = rest.waiting;
      first_are = ap (λ t. t ∷ first) head ∙ ap (λ ts. b ∷ ts) rest.first_are;
      after_are = rest.after_are;
    }

pub no_start : (inputs : List (Timed Input)) → AreOthers inputs → (now : ℕ) (id : Id) (of : List ℕ)
    (message : Message) (to : Addr) → Contains inputs (given_at now (Start id of message to)) → ⊥
no_start [] others now id of message to among =
    none_among (given_at now (Start id of message to)) among
no_start (timed ∷ inputs) others now id of message to among =
    ⊎_elim
    (λ same. subst (λ (t : Timed Input). IsOther t.input) same others.0)
    (λ later. no_start inputs others.1 now id of message to later)
    (first_or_later timed inputs (given_at now (Start id of message to)) among)

pub front_all : {X : Type 0} (P : X → Type 0) (xs ys : List X) → AllByRecursion P (xs ++ ys)
    → AllByRecursion P xs
front_all P [] ys all = tt
front_all P (x ∷ xs) ys all = (all.0, front_all P xs ys all.1)

pub back_all : {X : Type 0} (P : X → Type 0) (xs ys : List X) → AllByRecursion P (xs ++ ys)
    → AllByRecursion P ys
back_all P [] ys all = all
back_all P (x ∷ xs) ys all = back_all P xs ys all.1

both_all : {X : Type 0} (P : X → Type 0) (xs ys : List X) → AllByRecursion P xs
    → AllByRecursion P ys → AllByRecursion P (xs ++ ys)
both_all P [] ys first second = second
both_all P (x ∷ xs) ys first second = (first.0, both_all P xs ys first.1 second)

same_back : {X : Type 0} (xs ys zs : List X) → xs ++ ys ≡ xs ++ zs → ys ≡ zs
same_back [] ys zs same = same
same_back (x ∷ xs) ys zs same = let tail : xs ++ ys ≡ xs ++ zs = cc in same_back xs ys zs tail

-- what comes after one of these turns, is one of the others
later_one : (first : Turn) (turns front : List Turn) (turn : Turn) (rest : List Turn)
    → first ∷ turns ≡ front ++ turn ∷ rest → (x : Turn) → Contains rest x → Contains turns x
later_one first turns [] turn rest same x among =
    let tail : turns ≡ rest = cc in subst (λ ts. Contains ts x) (sym tail) among
later_one first turns (f ∷ front) turn rest same x among =
    let tail : turns ≡ front ++ turn ∷ rest = cc in
    subst (λ ts. Contains ts x) (sym tail)
    (Contains-append_right front (turn ∷ rest) x (among_later turn rest x among))

pub and_both : (a b : Bool) → (a && b) ≡ true → (a ≡ true) × (b ≡ true)
and_both true b is = (refl, is)
and_both false b is = absurd (false≢true is)

-- ---- turns of one clock

clock_after : (before : List Turn) (turn : Turn) (after : List Turn)
    → ShareAClock (before ++ turn ∷ after) → ShareAClock (turn ∷ after)
clock_after [] turn after clock = clock
clock_after (one ∷ before) turn after clock = clock_after before turn after clock.1

clock_before : (before : List Turn) (turn : Turn) (after : List Turn)
    → ShareAClock (before ++ turn ∷ after) → AllByRecursion (IsBy (turn.round).moment) before
clock_before [] turn after clock = tt
clock_before (one ∷ before) turn after clock = (
  each_of (λ later. (one.round).moment ≤ (later.round).moment) (before ++ turn ∷ after) turn
      clock.0 (Contains-append_right before (turn ∷ after) turn (among_first turn after)),
  clock_before before turn after clock.1,
)

clock_back : (front rest : List Turn) → ShareAClock (front ++ rest) → ShareAClock rest
clock_back [] rest clock = clock
clock_back (turn ∷ front) rest clock = clock_back front rest clock.1

-- what comes by a moment is one of the first turns
comes_early : (moment : ℕ) (front rest : List Turn) → AllByRecursion (IsLater moment) rest
    → (turn : Turn) → Contains (front ++ rest) turn → (turn.round).moment ≤ moment
    → Contains front turn
comes_early moment front rest late turn among by =
    ⊎_elim (λ early. early)
    (λ after. let over : moment < (turn.round).moment = each_of (IsLater moment) rest turn late after
    in absurd (omega (arith, over, by)))
    (Contains-append_cases front rest turn among)

-- ---- the server of a request

server_of : (key : Key) → IsServer key → is_invite (method_in key) ≡ false
    → role_of key ≡ role.Server
server_of (key.Client branch method) none other = absurd none
server_of (key.Server branch sent_by method) server other =
    ap (λ i. cond i role.InviteServer role.Server) other

pub server_side : (key : Key) → IsServer key → side_of key ≡ 1
server_side (key.Client branch method) none = absurd none
server_side (key.Server branch sent_by method) server = refl

pub no_own_command : (method : List ℕ) → has_command method ≡ false → method ≡ codes "CANCEL" → ⊥
no_own_command method none same = false≢true (sym none ∙ ap has_command same)

-- ---- final responses

leb-complete : (a b : ℕ) → a ≤ b → nat_le a b ≡ true
leb-complete a b by = grind (arith, common_steps, by)

line_status : (line : StartLine) → is_final line ≡ true
    → (status : ℕ) × (status_of line ≡ Some status) × (200 ≤ status)
line_status (start_line.Request uri) final = absurd (false≢true final)
line_status (start_line.Response status reason) final = (status, refl, leb-true 200 status final)

final_class : (c : Class) → is_early c ≡ false → is_final_answer (Some (on.Answer c)) ≡ true
final_class class.Trying late = absurd (false≢true (sym late))
final_class class.Provisional late = absurd (false≢true (sym late))
final_class class.Success late = refl
final_class class.Failure late = refl

pub final_given : (line : StartLine) (status : ℕ) → status_of line ≡ Some status → 200 ≤ status
    → is_final_answer (answer_of line) ≡ true
final_given (start_line.Request uri) status is low = absurd cc
final_given (start_line.Response code reason) status is low =
    let same : code ≡ status = cc in
    final_class (class_of code) (not_early code (leb-complete 200 code (omega (arith, same, low))))

pub final_line : (line : StartLine) → is_final_answer (answer_of line) ≡ true → is_final line ≡ true
final_line (start_line.Request uri) final = absurd (false≢true final)
final_line (start_line.Response status reason) final =
    by_bool (nat_le 200 status) (λ late. late)
    (λ early. absurd (early_class (class_of status) (not_final status early) final))
  where
    early_class : (c : Class) → is_early c ≡ true
        → is_final_answer (Some (on.Answer c)) ≡ true → ⊥
    early_class class.Trying is final = false≢true final
    early_class class.Provisional is final = false≢true final
    early_class class.Success is final = false≢true is
    early_class class.Failure is final = false≢true is

pub any_of : {X : Type 0} (p : X → Bool) (xs : List X) (x : X) → Contains xs x → p x ≡ true
    → list_any p xs ≡ true
any_of p [] x among is = absurd (none_among x among)
any_of p (y ∷ ys) x among is =
    ⊎_elim (λ same. ap (λ b. b || list_any p ys) (ap p same ∙ is))
    (λ later. by_bool (p y) (λ here. ap (λ b. b || list_any p ys) here)
    (λ miss. ap (λ b. b || list_any p ys) miss ∙ any_of p ys x later is))
    (first_or_later y ys x among)

pub none_of : {X : Type 0} (p : X → Bool) (xs : List X) → ((x : X) → Contains xs x → p x ≡ false)
    → list_any p xs ≡ false
none_of p [] each = refl
none_of p (x ∷ xs) each =
    ap (λ b. b || list_any p xs) (each x (among_first x xs))
    ∙ none_of p xs (λ y among. each y (among_later x xs y among))

others_first : (xs ys : List (Timed Input)) → AreOthers (xs ++ ys) → AreOthers xs
others_first [] ys others = tt
others_first (x ∷ xs) ys others = (others.0, others_first xs ys others.1)

-- what comes in rounds comes in the first of them, or in the others
inputs_after_parts : (config : Config) (key : Key) (rounds one two : List Round)
    → inputs_after config key rounds (one ++ two)
    ≡ inputs_after config key rounds one ++ inputs_after config key (rounds ++ one) two
inputs_after_parts config key rounds one two =
    let first = inputs_of config rounds key in
    let middle = inputs_after config key rounds one in
    let last = inputs_after config key (rounds ++ one) two in
    same_back first (inputs_after config key rounds (one ++ two)) (middle ++ last)
    (sym (inputs-append config key rounds (one ++ two))
    ∙ (ap (λ all. inputs_of config all key) (sym (append_assoc rounds one two))
    ∙ (inputs-append config key (rounds ++ one) two
    ∙ (ap (λ front. front ++ last) (inputs-append config key rounds one)
    ∙ append_assoc first middle last))))

-- ---- counts

pub count_first : {X : Type 0} (p : X → Bool) (x : X) (xs : List X)
    → count_by p (x ∷ xs) ≡ cond (p x) 1 0 + count_by p xs
count_first p x xs = sum_by-cons (λ y. cond {A = ℕ} (p y) 1 0) x xs

count_both : {X : Type 0} (p : X → Bool) (xs ys : List X)
    → count_by p (xs ++ ys) ≡ count_by p xs + count_by p ys
count_both p xs ys = sum_by-append (λ y. cond {A = ℕ} (p y) 1 0) xs ys

pub counts_one : {X : Type 0} (p : X → Bool) (xs : List X) (x : X) → Contains xs x → p x ≡ true
    → 1 ≤ count_by p xs
counts_one p [] x among is = absurd (none_among x among)
counts_one p (y ∷ ys) x among is =
    let all = count_first p y ys in
    ⊎_elim
    (λ same.
    let here : cond {A = ℕ} (p y) 1 0 ≡ 1 = ap (λ b. cond {A = ℕ} b 1 0) (ap p same ∙ is) in
    omega (arith, all, here))
    (λ later. omega (arith, all, counts_one p ys x later is))
    (first_or_later y ys x among)

count_sum : {X : Type 0} (p : X → Bool) (xs ys : List X) (n : ℕ) → n ≤ count_by p xs
    → 1 ≤ count_by p ys → suc n ≤ count_by p (xs ++ ys)
count_sum p xs ys n first second = let all = count_both p xs ys in omega (arith, all, first, second)

count_later : {X : Type 0} (p : X → Bool) (xs ys : List X) (n : ℕ) → n ≤ count_by p ys
    → n ≤ count_by p (xs ++ ys)
count_later p xs ys n later = let all = count_both p xs ys in omega (arith, all, later)

sends_often : (key : Key) (to : Addr) (bytes : List ℕ) (before after : List Out) (n : ℕ)
    → n ≤ copies to bytes after
    → suc n ≤ copies to bytes (before ++ out.Send key to bytes ∷ after)
sends_often key to bytes before after n enough =
    let one = out.Send key to bytes in
    let all = count_both (is_copy to bytes) before (one ∷ after) in
    let more = count_both (is_copy to bytes) (one ∷ []) after in
    let first = one_copy key to bytes in
    omega (arith, all, more, first, enough)

-- ---- numbers

no_less : (a b : ℕ) → a ≤ a + b
no_less a b = omega arith

no_less_than : (a : ℕ) → a ≤ a
no_less_than a = omega arith

no_more : (a b c : ℕ) → a ≤ b → b ≤ c → a ≤ c
no_more a b c first second = omega (arith, first, second)

later_than : (a b c : ℕ) → a ≤ b → b < c → a < c
later_than a b c first second = omega (arith, first, second)

not_both : (a b : ℕ) → a < b → b ≤ a → ⊥
not_both a b first second = omega (arith, first, second)

half_second : (a b : ℕ) → a ≤ b → a + 500 ≤ b + 4000
half_second a b by = omega (arith, by)

more_then : (a b c d : ℕ) → b ≤ c → a + b + d ≤ a + (c + d)
more_then a b c d by = omega (arith, by)

sums_so : (a b c d e : ℕ) → c ≡ b + (d + e) → a + c ≡ a + b + d + e
sums_so a b c d e sum = omega (arith, sum)

in_life : (a b c : ℕ) → a < b + 32000 → b ≤ c → a < c + 32000
in_life a b c first second = omega (arith, first, second)

no_room : (last end at by : ℕ) → end ≤ at → at ≤ by → by ≤ last → last < end → ⊥
no_room last end at by one two three four = omega (arith, one, two, three, four)

less_so : (a b c : ℕ) → a + b ≤ c → a ≤ c
less_so a b c sum = omega (arith, sum)

by_then : (a b c d : ℕ) → a ≤ b → b + c ≤ d → a ≤ d
by_then a b c d first second = omega (arith, first, second)

longer_by : (a b c : ℕ) → a ≤ b → a ≤ b + c
longer_by a b c by = omega (arith, by)

from_none : (a b : ℕ) → a ≤ 0 + b → a ≤ b
from_none a b by = omega (arith, by)

plus_none : (a b c : ℕ) → a ≤ b → a ≤ b + 0 * c
plus_none a b c by = omega (arith, by)

soon_so : (a b c d : ℕ) → a ≤ b + d → b ≤ c → a ≤ c + d
soon_so a b c d first second = omega (arith, first, second)

stage_early : (a b c d : ℕ) → a + b ≤ c → c < d → a < d
stage_early a b c d first second = omega (arith, first, second)

short_enough : (text : List ℕ) → length text ≤ longest_datagram → length text ≤ 65535
short_enough text short = omega (arith, short)

-- ---- rounds

late_round : (s : Side) (moment : ℕ) (front rest : List Turn) → AllByRecursion (IsBy moment) front
    → (r : Round) → Contains (rounds_of s (front ++ rest)) r → moment < r.moment
    → Contains (rounds_of s rest) r
late_round s moment front rest by r among after =
    ⊎_elim
    (λ before. absurd (not_both moment r.moment after
    (each_of (λ (round : Round). round.moment ≤ moment) (rounds_of s front) r
    (rounds_at (λ m. m ≤ moment) s front by) before)))
    (λ later. later)
    (Contains-append_cases (rounds_of s front) (rounds_of s rest) r
    (subst (λ rounds. Contains rounds r) (rounds_of-append s front rest) among))

goes_so : (s : Side) (delay moment : ℕ) (front rest : List Turn)
    → AllByRecursion (IsBy moment) front → (r : Round) → Contains (rounds_of s rest) r
    → moment + delay < r.moment → GoesOn delay front rest
goes_so s delay moment front rest by r among after =
    let one = round_of s rest r among in
    let late : moment + delay < ((one.0).round).moment =
    subst (λ (round : Round). moment + delay < round.moment) (sym one.2) after in (
      one.0,
      one.1,
      all_go {P = IsBy moment}
          {Q = λ earlier. (earlier.round).moment + delay < ((one.0).round).moment}
          (λ turn by. omega (arith, by, late)) front by,
    )

-- ---- a client

still_open : (early : Bool) → is_open role.Client (cond early Proceeding Trying) ≡ true
still_open true = refl
still_open false = refl

not_abandon : (input : Option Input) → is_lost input ≡ false → is_abandon input ≡ false
not_abandon None kept = refl
not_abandon (Some (Receive id message reply_to)) kept = refl
not_abandon (Some (Start id call_id message to)) kept = refl
not_abandon (Some (Answer id message)) kept = refl
not_abandon (Some (Failed id)) kept = refl
not_abandon (Some Abandon) kept = absurd (false≢true (sym kept))

not_open : (key : Key) → role_of key ≡ role.Client → (held : Option Life) (life : Life)
    → held ≡ Some life → is_open (role_of key) life.state ≡ true → IsClosed held → ⊥
not_open key own held life is still (inl none) = absurd cc
not_open key own held life is still (inr (context, completed)) =
    let same : life ≡ life_in context Completed = cc in
    false≢true (sym (ap (λ r. is_open r Completed) own)
    ∙ (sym (ap (λ (l : Life). is_open (role_of key) l.state) same) ∙ still))

replies_only : (line : StartLine) (status : ℕ) → status_of line ≡ Some status
    → is_request_line line ≡ false
replies_only (start_line.Request uri) status is = absurd cc
replies_only (start_line.Response code reason) status is = refl

-- ---- a request that comes

pub record IsReceipt (inputs : List (Timed Input)) : Type 0 where
  pub at : ℕ
  pub event : Id
  pub message : Message
  pub reply_to : Addr
  pub among : Contains inputs (given_at at (Receive event message reply_to))
  pub asks : is_request_message message ≡ true
  pub is_other : message.cseq.method ≡ codes "ACK" → ⊥

pub a_receipt : (inputs : List (Timed Input)) (now : ℕ) (input : Option Input)
    → is_receipt input ≡ true → Contains inputs (record { moment = now; input = input })
    → IsReceipt inputs
a_receipt inputs now (Some (Receive event message reply_to)) is among =
    let parts = and_both (is_request_message message)
    (not (is_same_method message.cseq.method (codes "ACK"))) is in
    record {
      at = now;
      event = event;
      message = message;
      reply_to = reply_to;
      among = among;
      asks = parts.0;
      is_other = λ ack. false≢true (sym (ap (λ m. not (is_same_method m (codes "ACK"))) ack)
          ∙ parts.1);
    }
a_receipt inputs now None is among = absurd (false≢true is)
a_receipt inputs now (Some (Start event call_id message to)) is among = absurd (false≢true is)
a_receipt inputs now (Some (Answer event message)) is among = absurd (false≢true is)
a_receipt inputs now (Some (Failed event)) is among = absurd (false≢true is)
a_receipt inputs now (Some Abandon) is among = absurd (false≢true is)

module _ (configs : Side → Config) (fair : IsFair configs) (turns : List Turn)
    (carried : Carried configs turns) (keep : CallsKeepRules configs turns)
    (clock : ShareAClock turns) (s : Side) (branch method : List ℕ) (now : ℕ) (request : Message)
    (no_invite : is_invite method ≡ false) (plain : has_command method ≡ false)
    (way : IsBegun (configs s) (configs (peer s)).local s turns (key.Client branch method) now
    request)
    (few : AreCounted (configs s) (rounds_of s turns)) where
  abbrev other : Side
  other = peer s

  abbrev here : Config
  here = configs s

  abbrev there : Config
  there = configs other

  abbrev own_key : Key
  own_key = key.Client branch method

  abbrev pub comes_as : Message
  comes_as = come_from here.local request

  abbrev pub there_key : Key
  there_key = key_of_message comes_as

  abbrev pub start : Timed Input
  start = given_at now (Start way.id way.call_id request there.local)

  abbrev pub asked : CallOut
  asked = call_out.Command way.id (order.Start own_key way.call_id request there.local)

  -- ---- the request

  pub in_turns : Contains (inputs_of here (rounds_of s turns) own_key) start
  in_turns = subst (λ all. Contains all start) (sym way.inputs_are)
      (Contains-append_right way.before (start ∷ way.after) start (among_first start way.after))

  pub says : CallSays here (rounds_of s turns) asked
  says = start_said here (rounds_of s turns) own_key way.id way.call_id request there.local
      (now, in_turns)

  pub asks : is_request_message request ≡ true
  asks = out_replies here (fair.calls s) (rounds_of s turns) asked says

  pub key_is : own_key ≡ client_key (top_branch request) request.cseq.method
  key_is = (out_own here (rounds_of s turns) (fair.calls s) asked says).key_is

  pub method_is : method ≡ request.cseq.method
  method_is = ap method_in key_is

  pub no_cancel : request.cseq.method ≡ codes "CANCEL" → ⊥
  no_cancel cancel = no_own_command method plain (method_is ∙ cancel)

  own_role : role_of own_key ≡ role.Client
  own_role = ap (λ i. cond i role.InviteClient role.Client) no_invite

  pub asks_there : is_request_message comes_as ≡ true
  asks_there = comes_asking configs fair turns carried keep s few way.id own_key way.call_id request
      there.local says asks no_cancel

  pub same : IsSame comes_as request
  same = came_same here.local comes_as request refl asks_there

  pub no_ack : request.cseq.method ≡ codes "ACK" → ⊥
  no_ack ack = false≢true (sym plain ∙ ap has_command (method_is ∙ ack))

  pub there_parts : HasKeyOf comes_as there_key
  there_parts = key_parts comes_as asks_there (λ ack. no_ack (sym same.method ∙ ack))

  pub there_role : role_of there_key ≡ role.Server
  there_role = server_of there_key there_parts.server
      (ap is_invite (there_parts.method ∙ (same.method ∙ sym method_is)) ∙ no_invite)

  -- ---- the first turns

  module _ (front rest : List Turn) (eq : turns ≡ front ++ rest) where
    pub carried_front : Carried configs front
    carried_front = front_carried configs front rest (subst (Carried configs) eq carried)

    pub keep_front : CallsKeepRules configs front
    keep_front = front_keeps configs front rest (subst (CallsKeepRules configs) eq keep)

    pub rounds_are : (side : Side) → rounds_of side turns ≡ rounds_of side front ++ rounds_of side rest
    rounds_are side = ap (rounds_of side) eq ∙ rounds_of-append side front rest

    pub few_front : AreCounted here (rounds_of s front)
    few_front = counted_front here (rounds_of s front) (rounds_of s rest)
        (subst (AreCounted here) (rounds_are s) few)

    -- if the request came in these turns, it was sent in them
    pub came_asked : (came : IsReceipt (inputs_of there (rounds_of other front) there_key))
        → CallSays here (rounds_of s front) asked
    came_asked came =
        let receipt : IsGiven there (rounds_of other front) there_key
        (Receive came.event came.message came.reply_to) = (came.at, came.among) in
        let comes : ComesUnchanged configs front other came.message =
        messages_unchanged fair.transactions configs fair.addresses front
        carried_front keep_front other
        there_key came.event came.message came.reply_to receipt in
        let sent : Message = comes.original in
        let spoken : IsSaid here (rounds_of s front) sent =
        subst (λ p. IsSaid (configs p) (rounds_of p front) sent) (peer_peer s) comes.said in
        let alike : IsSame came.message sent =
        came_same (configs (peer other)).local came.message sent comes.same came.asks in
        let started : IsStartedHere here (rounds_of s front) (fair.calls s) sent =
        said_starts here (rounds_of s front) (fair.calls s) sent spoken comes.rules alike.asks
        (λ ack. came.is_other (alike.method ∙ ack)) in
        let lasting : IsStartedHere here (rounds_of s turns) (fair.calls s) sent = record {
          id = started.id;
          key = started.key;
          at = started.at;
          to = started.to;
          says = subst (λ rounds. CallSays here rounds (call_out.Command started.id
              (order.Start started.key started.at sent started.to)))
              (sym (rounds_are s))
              (says_longer here (rounds_of s front) (rounds_of s rest)
              (call_out.Command started.id (order.Start started.key started.at sent started.to))
              started.says);
        } in
        let this : IsStartedHere here (rounds_of s turns) (fair.calls s) request = record {
          id = way.id;
          key = own_key;
          at = way.call_id;
          to = there.local;
          says = says;
        } in
        let keys = has_key there (rounds_of other front) there_key came.event came.message
        came.reply_to receipt in
        let parts = key_parts came.message came.asks came.is_other in
        let branches : lower (top_branch sent) ≡ lower (top_branch request) =
        ap lower (sym alike.branch) ∙ (sym parts.branch ∙ (ap branch_in keys
        ∙ (there_parts.branch ∙ ap lower same.branch))) in
        let methods : sent.cseq.method ≡ request.cseq.method =
        sym alike.method ∙ (sym parts.method ∙ (ap method_in keys
        ∙ (there_parts.method ∙ same.method))) in
        subst (λ (o : CallOut). CallSays here (rounds_of s front) o)
        (same_start here (rounds_of s turns) (fair.calls s) few sent request lasting this
        (λ cancel. no_cancel (sym methods ∙ cancel)) no_cancel branches)
        started.says

  module _ (earlier later : List Turn) (round : Round)
      (are : turns ≡ earlier ++ record { side = peer s; round = round } ∷ later) where
    abbrev turn : Turn
    turn = record { side = peer s; round = round }

    -- ---- the turns up to some that come later

    abbrev first_turns : List Turn
    first_turns = earlier ++ turn ∷ []

    not_own : is_side s (peer s) ≡ false
    not_own = subst (λ p. is_side p (peer s) ≡ false) (peer_peer s) (other_side (peer s))

    there_rounds : (more : List Turn)
        → rounds_of other (earlier ++ turn ∷ more) ≡ rounds_of other earlier ++ round ∷ rounds_of other more
    there_rounds more =
        let kept = filter (λ (t : Turn). is_side other t.side) more in
        rounds_of-append other earlier (turn ∷ more)
        ∙ ap (λ own. rounds_of other earlier ++ map (λ (t : Turn). t.round) (cond own (turn ∷ kept) kept))
        (own_side other)

    own_rounds : rounds_of s first_turns ≡ rounds_of s earlier
    own_rounds =
        rounds_of-append s earlier (turn ∷ [])
        ∙ (ap (λ own. rounds_of s earlier ++ map (λ (t : Turn). t.round) (cond own (turn ∷ []) []))
        not_own ∙ append-nil (rounds_of s earlier))

    first_are : turns ≡ first_turns ++ later
    first_are = are ∙ sym (append_assoc earlier (turn ∷ []) later)

    later_clock : ShareAClock later
    later_clock = (clock_after earlier turn later (subst ShareAClock are clock)).1

    by_round : AllByRecursion (IsBy round.moment) first_turns
    by_round = both_all (IsBy round.moment) earlier (turn ∷ [])
        (clock_before earlier turn later (subst ShareAClock are clock)) (omega arith, tt)

    module _ (lag more delay : ℕ) (runs : RunInTime configs lag turns)
        (delivers : Delivers configs (suc more) delay turns)
        (id : Id) (response : Message)
        (answer : IsFinallyAnswered there (rounds_of other earlier) round there_key id response)
        (fits : length (written response) ≤ longest_datagram)
        (soon : round.moment + answer_time lag more delay < now + 32000)
        (on : RunsAfter s (round.moment + answer_time lag more delay) turns)
        (lost : list_any (λ timed. is_lost timed.input) (inputs_of here (rounds_of s turns) own_key)
        ≡ false) where
      abbrev last : ℕ
      last = round.moment + answer_time lag more delay

      abbrev end : ℕ
      end = now + 32000

      abbrev reply : List ℕ
      reply = written response

      abbrev text : List ℕ
      text = written request

      abbrev prior : List (Timed Input)
      prior = inputs_of there (rounds_of other earlier) there_key ++ answer.here

      abbrev given : Timed Input
      given = given_at round.moment (Answer id response)

      first_inputs : inputs_of there (rounds_of other first_turns) there_key
          ≡ prior ++ given ∷ answer.later
      first_inputs = ap (λ rounds. inputs_of there rounds there_key) (there_rounds [])
          ∙ answer.inputs_are

      -- ---- the request was sent before

      came_first : IsReceipt (inputs_of there (rounds_of other first_turns) there_key)
      came_first =
          let one = some_one comes prior answer.came in
          a_receipt (inputs_of there (rounds_of other first_turns) there_key) one.one.moment
          one.one.input one.passes
          (subst (λ all. Contains all one.one) (sym first_inputs)
          (Contains-append_left prior (given ∷ answer.later) one.one one.among))

      says_first : CallSays here (rounds_of s first_turns) asked
      says_first = came_asked first_turns later first_are came_first

      started_first : IsGiven here (rounds_of s first_turns) own_key
          (Start way.id way.call_id request there.local)
      started_first = asked_given here way.id
          (order.Start own_key way.call_id request there.local) (rounds_of s first_turns) says_first

      -- ---- the turns up to a moment

      module _ (turns_then turns_left : List Turn) (parts : later ≡ turns_then ++ turns_left) where
        abbrev upto : List Turn
        upto = first_turns ++ turns_then

        upto_are : turns ≡ upto ++ turns_left
        upto_are = first_are ∙ (ap (λ ts. first_turns ++ ts) parts
            ∙ sym (append_assoc first_turns turns_then turns_left))

        upto_rounds : (side : Side)
            → rounds_of side upto ≡ rounds_of side first_turns ++ rounds_of side turns_then
        upto_rounds side = rounds_of-append side first_turns turns_then

        abbrev own_inputs : List (Timed Input)
        own_inputs = inputs_of here (rounds_of s upto) own_key

        inputs_so : own_inputs
            ≡ inputs_of here (rounds_of s first_turns) own_key
            ++ inputs_after here own_key (rounds_of s first_turns) (rounds_of s turns_then)
        inputs_so = ap (λ rounds. inputs_of here rounds own_key) (upto_rounds s)
            ∙ inputs-append here own_key (rounds_of s first_turns) (rounds_of s turns_then)

        stands : StartsWithin way.before start way.after own_inputs
            (inputs_after here own_key (rounds_of s upto) (rounds_of s turns_left))
        stands =
            let again = given_at started_first.0 (Start way.id way.call_id request there.local) in
            starts_within way.before start way.after own_inputs
            (inputs_after here own_key (rounds_of s upto) (rounds_of s turns_left))
            (sym (inputs-append here own_key (rounds_of s upto) (rounds_of s turns_left))
            ∙ (ap (λ rounds. inputs_of here rounds own_key)
            (sym (rounds_are upto turns_left upto_are s)) ∙ way.inputs_are))
            again
            (subst (λ all. Contains all again) (sym inputs_so)
            (Contains-append_left (inputs_of here (rounds_of s first_turns) own_key)
            (inputs_after here own_key (rounds_of s first_turns) (rounds_of s turns_then)) again
            started_first.1))
            (λ before. no_start way.before way.none_before started_first.0 way.id way.call_id request
            there.local before)

        module _ (moment : ℕ) (from : round.moment ≤ moment)
            (early : AllByRecursion (IsBy moment) turns_then) where
          upto_by : AllByRecursion (IsBy moment) upto
          upto_by = both_all (IsBy moment) first_turns turns_then
              (all_go {P = IsBy round.moment} {Q = IsBy moment} (λ t by. omega (arith, by, from))
              first_turns by_round) early

          own_by : AllByRecursion (InputBy moment) own_inputs
          own_by = inputs_at here own_key (λ m. m ≤ moment) (rounds_of s upto)
              (rounds_at (λ m. m ≤ moment) s upto upto_by)

          waiting_by : AllByRecursion (InputBy moment) (start ∷ stands.waiting)
          waiting_by = back_all (InputBy moment) way.before (start ∷ stands.waiting)
              (subst (AllByRecursion (InputBy moment)) stands.first_are own_by)

          there_by : AllByRecursion (InputBy moment) (inputs_of there (rounds_of other upto) there_key)
          there_by = inputs_at there there_key (λ m. m ≤ moment) (rounds_of other upto)
              (rounds_at (λ m. m ≤ moment) other upto upto_by)

      -- ---- the final responses that come

      says_earlier : CallSays here (rounds_of s earlier) asked
      says_earlier = subst (λ rounds. CallSays here rounds asked) own_rounds says_first

      -- none was given before
      prior_calm : (message : Message) (status : ℕ) → status_of message.start ≡ Some status
          → 200 ≤ status → (now : ℕ) (event : Id) (other : Message) → other ≡ message
          → Contains prior (given_at now (Answer event other)) → ⊥
      prior_calm message status is low now event other same among =
          false≢true (sym (each_not gives_final prior answer.first (given_at now (Answer event other))
          among)
          ∙ final_given other.start status (ap (λ (m : Message). status_of m.start) same ∙ is) low)

      none_first : (at : ℕ) (event : Id) (message : Message) (reply_to : Addr)
          → Contains (inputs_of here (rounds_of s first_turns) own_key)
          (given_at at (Receive event message reply_to)) → is_final message.start ≡ true → ⊥
      none_first at event message reply_to among final =
          let line = line_status message.start final in
          let heard : IsGiven here (rounds_of s earlier) own_key (Receive event message reply_to) = (
            at,
            subst (λ rounds. Contains (inputs_of here rounds own_key)
                (given_at at (Receive event message reply_to))) own_rounds among,
          ) in
          let sent = sent_there configs fair earlier (carried_front earlier (turn ∷ later) are)
          (keep_front earlier (turn ∷ later) are) s (few_front earlier (turn ∷ later) are) way.id own_key
          way.call_id request there.local says_earlier asks no_cancel event message reply_to line.0
          line.1 line.2 heard in
          asked_so configs fair earlier (carried_front earlier (turn ∷ later) are)
          (keep_front earlier (turn ∷ later) are) s (few_front earlier (turn ∷ later) are) way.id own_key
          way.call_id request there.local says_earlier asks no_cancel event message reply_to line.0
          line.1 line.2 heard there_key ⊥ (inputs_of there (rounds_of other earlier) there_key)
          (λ timed within. within)
          (λ now event one same within. prior_calm message line.0 line.1 line.2 now event one same
          (Contains-append_left (inputs_of there (rounds_of other earlier) there_key) answer.here
          (given_at now (Answer event one)) within))
          sent.key sent.at sent.sent

      all_plain : ArePlain here.local (inputs_of there (rounds_of other turns) there_key)
      all_plain = plain_inputs configs fair turns carried keep s few way.id own_key way.call_id request
          there.local says asks no_cancel (server_side there_key there_parts.server)

      abbrev Plain : Timed Input → Type 0
      Plain timed = IsPlain here.local timed.input

      module _ (turns_then turns_left : List Turn) (parts : later ≡ turns_then ++ turns_left) where
        abbrev up : List Turn
        up = first_turns ++ turns_then

        up_are : turns ≡ up ++ turns_left
        up_are = upto_are turns_then turns_left parts

        says_up : CallSays here (rounds_of s up) asked
        says_up = subst (λ rounds. CallSays here rounds asked)
            (sym (upto_rounds turns_then turns_left parts s))
            (says_longer here (rounds_of s first_turns) (rounds_of s turns_then) asked says_first)

        -- ---- what the other side's transaction is given

        abbrev there_inputs : List (Timed Input)
        there_inputs = inputs_of there (rounds_of other up) there_key

        abbrev after : List (Timed Input)
        after = inputs_after there there_key (rounds_of other first_turns) (rounds_of other turns_then)

        abbrev rest : List (Timed Input)
        rest = answer.later ++ after

        there_so : there_inputs ≡ inputs_of there (rounds_of other first_turns) there_key ++ after
        there_so = ap (λ rounds. inputs_of there rounds there_key)
            (upto_rounds turns_then turns_left parts other)
            ∙ inputs-append there there_key (rounds_of other first_turns) (rounds_of other turns_then)

        there_are : there_inputs ≡ prior ++ given ∷ rest
        there_are = there_so ∙ (ap (λ first. first ++ after) first_inputs
            ∙ append_assoc prior (given ∷ answer.later) after)

        plain_so : AllByRecursion Plain (prior ++ given ∷ rest)
        plain_so = subst (AllByRecursion Plain) there_are
            (front_all Plain there_inputs
            (inputs_after there there_key (rounds_of other up) (rounds_of other turns_left))
            (subst (AllByRecursion Plain) (ap (λ rounds. inputs_of there rounds there_key)
            (rounds_are up turns_left up_are other)
            ∙ inputs-append there there_key (rounds_of other up) (rounds_of other turns_left))
            all_plain))

        prior_plain : ArePlain here.local prior
        prior_plain = front_all Plain prior (given ∷ rest) plain_so

        rest_plain : ArePlain here.local rest
        rest_plain = (back_all Plain prior (given ∷ rest) plain_so).1

        opened : IsOpenTo here.local (state_from step_machine there_key None prior)
        opened = begins_open there_key there_role here.local prior prior_plain answer.first answer.came

        abbrev context : Context
        context = opened.life.context

        abbrev done : Life
        done = answered there_key there_role here.local context reply (round.moment + 32000)

        abbrev Shape : Machine Key Life (Timed Input) Out → Type 0
        Shape machine = outputs_from machine there_key None (prior ++ given ∷ rest)
            ≡ outputs_from machine there_key None prior
            ++ out.Send there_key context.to reply ∷ outputs_from machine there_key (Some done) rest

        shape : Shape transaction_machine
        shape = at_steps Shape
            (outputs-append step_machine there_key None prior (given ∷ rest)
            ∙ (ap (λ held. outputs_from step_machine there_key None prior
            ++ outputs_from step_machine there_key held (given ∷ rest)) opened.is
            ∙ ap (λ (a : Option Life × List Out). outputs_from step_machine there_key None prior
            ++ (a.1 ++ outputs_from step_machine there_key a.0 rest))
            (answer_step there_key there_role here.local opened.life opened.opened round.moment id
            response answer.final)))

        module _ (moment : ℕ) (from : round.moment ≤ moment)
            (early : AllByRecursion (IsBy moment) turns_then)
            (before : moment < round.moment + 32000) where
          abbrev Keeps : Machine Key Life (Timed Input) Out → Type 0
          Keeps machine =
              AllByRecursion (SendsOnly reply) (outputs_from machine there_key (Some done) rest)
              × (count_by comes rest
              ≤ copies context.to reply (outputs_from machine there_key (Some done) rest))

          rest_early : AllByRecursion (λ (t : Timed Input). t.moment < round.moment + 32000) rest
          rest_early =
              all_go {P = InputBy moment} {Q = λ (t : Timed Input). t.moment < round.moment + 32000}
              (λ t by. omega (arith, by, before)) rest
              (back_all (InputBy moment) prior (given ∷ rest)
              (subst (AllByRecursion (InputBy moment)) there_are
              (there_by turns_then turns_left parts moment from early))).1

          keeps : Keeps transaction_machine
          keeps = at_steps Keeps
              (let sending = keeps_sending there_key there_role here.local context reply
              (round.moment + 32000) rest rest_plain rest_early in
              (sending.only, sending.often))

          -- a final response that comes to the request's transaction is this one
          one_final : (at : ℕ) (event : Id) (message : Message) (reply_to : Addr)
              → Contains (inputs_of here (rounds_of s up) own_key)
              (given_at at (Receive event message reply_to)) → is_final message.start ≡ true
              → message ≡ response
          one_final at event message reply_to among final =
              let line = line_status message.start final in
              let heard : IsGiven here (rounds_of s up) own_key (Receive event message reply_to) =
              (at, among) in
              let carried_up = carried_front up turns_left up_are in
              let keep_up = keep_front up turns_left up_are in
              let few_up = few_front up turns_left up_are in
              let sent = sent_there configs fair up carried_up keep_up s few_up way.id own_key
              way.call_id request there.local says_up asks no_cancel event message reply_to line.0 line.1
              line.2 heard in
              let o = out.Send sent.key sent.at (written message) in
              let early_outs = outputs_from transaction_machine there_key None prior in
              let late_outs = outputs_from transaction_machine there_key (Some done) rest in
              let within : Contains (early_outs ++ out.Send there_key context.to reply ∷ late_outs) o =
              subst (λ os. Contains os o)
              (ap (outputs_from transaction_machine there_key None) there_are ∙ shape) sent.sent in
              ⊎_elim
              (λ first. absurd (asked_so configs fair up carried_up keep_up s few_up way.id own_key
              way.call_id request there.local says_up asks no_cancel event message reply_to line.0 line.1
              line.2 heard there_key ⊥ prior
              (λ timed inside. subst (λ all. Contains all timed) (sym there_are)
              (Contains-append_left prior (given ∷ rest) timed inside))
              (prior_calm message line.0 line.1 line.2) sent.key sent.at first))
              (λ later.
              let same_text : written message ≡ reply =
              each_of (SendsOnly reply) (out.Send there_key context.to reply ∷ late_outs) o
              (refl, keeps.0) later in
              let asked_for : Contains there_inputs given =
              subst (λ all. Contains all given) (sym there_are)
              (Contains-append_right prior (given ∷ rest) given (among_first given rest)) in
              let rules = ((what_is_said fair.transactions configs fair.addresses up carried_up keep_up
              other there_key).answered round.moment id response asked_for).0 in
              sym (is_it configs fair up carried_up keep_up s few_up way.id own_key way.call_id request
              there.local says_up asks no_cancel event message reply_to line.0 line.1 line.2 heard
              response rules (sym same_text)))
              (Contains-append_cases early_outs (out.Send there_key context.to reply ∷ late_outs) o within)

      -- ---- the request's transaction

      abbrev setup : Waiting
      setup = record {
        key = own_key;
        id = way.id;
        call_id = way.call_id;
        to = there.local;
        text = text;
        end = end;
      }

      abbrev begun_life : Life
      begun_life = waits setup false (now + 500) 0

      abbrev StartsSo : List (Timed Input) → Machine Key Life (Timed Input) Out → Type 0
      StartsSo waiting machine = state_from machine own_key None way.before ≡ None
          → state_from machine own_key None (way.before ++ start ∷ waiting)
          ≡ state_from machine own_key (Some begun_life) waiting

      after_start : (waiting : List (Timed Input))
          → state_from transaction_machine own_key None (way.before ++ start ∷ waiting)
          ≡ state_from transaction_machine own_key (Some begun_life) waiting
      after_start waiting = at_steps (StartsSo waiting)
          (λ new. state_from-append step_machine own_key None way.before (start ∷ waiting)
          ∙ (ap (λ held. state_from step_machine own_key held (start ∷ waiting)) new
          ∙ ap (λ (a : Option Life × List Out). state_from step_machine own_key a.0 waiting)
          (begins false own_key own_role now way.id way.call_id request there.local)))
          way.new

      module _ (turns_then turns_left : List Turn) (parts : later ≡ turns_then ++ turns_left) where
        abbrev base : List Turn
        base = first_turns ++ turns_then

        abbrev waiting_then : List (Timed Input)
        waiting_then = (stands turns_then turns_left parts).waiting

        abbrev inputs_then : List (Timed Input)
        inputs_then = inputs_of here (rounds_of s base) own_key

        abbrev inputs_left : List (Timed Input)
        inputs_left = inputs_after here own_key (rounds_of s base) (rounds_of s turns_left)

        abbrev held_then : Option Life
        held_then = state_from transaction_machine own_key None inputs_then

        all_inputs : inputs_of here (rounds_of s turns) own_key ≡ inputs_then ++ inputs_left
        all_inputs =
            ap (λ rounds. inputs_of here rounds own_key)
            (rounds_are base turns_left (upto_are turns_then turns_left parts) s)
            ∙ inputs-append here own_key (rounds_of s base) (rounds_of s turns_left)

        is_then : (t : Timed Input) → Contains waiting_then t → Contains inputs_then t
        is_then t among =
            subst (λ all. Contains all t) (sym (stands turns_then turns_left parts).first_are)
            (Contains-append_right way.before (start ∷ waiting_then) t
            (among_later start waiting_then t among))

        after_so : (t : Timed Input) → Contains (waiting_then ++ inputs_left) t → Contains way.after t
        after_so t among =
            subst (λ all. Contains all t) (sym (stands turns_then turns_left parts).after_are) among

        -- what it is given then, is none of those that end it early
        kept_then : (t : Timed Input) → Contains inputs_then t → is_lost t.input ≡ false
        kept_then t among =
            each_not (λ (x : Timed Input). is_lost x.input) (inputs_of here (rounds_of s turns) own_key)
            lost t
            (subst (λ all. Contains all t) (sym all_inputs)
            (Contains-append_left inputs_then inputs_left t among))

        held_so : held_then ≡ state_from transaction_machine own_key (Some begun_life) waiting_then
        held_so =
            ap (state_from transaction_machine own_key None) (stands turns_then turns_left parts).first_are
            ∙ after_start waiting_then

        closed_so : list_any (ends_wait end) waiting_then ≡ true → IsClosed held_then
        closed_so ended =
            subst IsClosed (sym held_so)
            (at_steps (λ machine. IsClosed (state_from machine own_key (Some begun_life) waiting_then))
            (ends_closed setup own_role waiting_then
            (others_first waiting_then inputs_left
            (subst AreOthers (stands turns_then turns_left parts).after_are way.none_after))
            ended false (now + 500) 0))

        waits_so : (moment : ℕ) → round.moment ≤ moment → AllByRecursion (IsBy moment) turns_then
            → list_any (ends_wait end) waiting_then ≡ false
            → WaitsAfter setup (moment + 4000) held_then
        waits_so moment from early none =
            let by = waiting_by turns_then turns_left parts moment from early in
            subst (WaitsAfter setup (moment + 4000)) (sym held_so)
            (at_steps (λ machine. WaitsAfter setup (moment + 4000)
            (state_from machine own_key (Some begun_life) waiting_then))
            (waits_on setup own_role moment waiting_then by.1 none (Some begun_life) (record {
              early = false;
              repeat = now + 500;
              fired = 0;
              is = refl;
              due = half_second now moment by.0;
            })))

      -- ---- numbers

      abbrev repeats_take : ℕ
      repeats_take = suc more * (4000 + lag)

      -- when so many repeats of the request have come, after the answer
      abbrev by_stage : ℕ → ℕ
      by_stage i = round.moment + i * (repeats_take + delay)

      from_answer : round.moment ≤ last
      from_answer = no_less round.moment (answer_time lag more delay)

      from_stage : (i : ℕ) → round.moment ≤ by_stage i
      from_stage i = no_less round.moment (i * (repeats_take + delay))

      stage_by : (i : ℕ) → i ≤ more → by_stage i + delay ≤ last
      stage_by i by =
          more_then round.moment (i * (repeats_take + delay)) (more * (repeats_take + delay)) delay
          (mul-le-mul_right (repeats_take + delay) by)

      next_stage_is : (i : ℕ) → by_stage (suc i) ≡ by_stage i + repeats_take + delay
      next_stage_is i =
          sums_so round.moment (i * (repeats_take + delay)) (suc i * (repeats_take + delay)) repeats_take
          delay (suc-mul i (repeats_take + delay))

      now_by : now ≤ round.moment
      now_by = (waiting_by [] later refl round.moment (no_less_than round.moment) tt).0

      before_last : last < round.moment + 32000
      before_last = in_life last now round.moment soon now_by

      -- ---- before the answer comes

      first_nil : (side : Side) → rounds_of side (first_turns ++ []) ≡ rounds_of side first_turns
      first_nil side = ap (rounds_of side) (append-nil first_turns)

      first_calm : (t : Timed Input) → Contains (waiting_then [] later refl) t
          → ends_wait end t ≡ false
      first_calm t among = by_input t.moment t.input among
        where
          by_input : (at : ℕ) (input : Option Input)
              → Contains (waiting_then [] later refl) (record { moment = at; input = input })
              → ends_wait end (record { moment = at; input = input }) ≡ false
          by_input at None among =
              let by : at ≤ round.moment =
              each_of (InputBy round.moment) (waiting_then [] later refl)
              (record { moment = at; input = None })
              (waiting_by [] later refl round.moment (no_less_than round.moment) tt).1 among in
              by_bool (nat_le end at)
              (λ late. absurd (no_room last end at round.moment (leb-true end at late) by from_answer
              soon))
              (λ early. early)
          by_input at (Some (Receive event message reply_to)) among =
              by_bool (is_final message.start)
              (λ final. absurd (none_first at event message reply_to
              (subst (λ rounds. Contains (inputs_of here rounds own_key)
              (given_at at (Receive event message reply_to))) (first_nil s)
              (is_then [] later refl (given_at at (Receive event message reply_to)) among)) final))
              (λ waits. waits)
          by_input at (Some (Start event call_id message to)) among = refl
          by_input at (Some (Answer event message)) among = refl
          by_input at (Some (Failed event)) among =
              absurd (false≢true (sym (kept_then [] later refl
              (record { moment = at; input = Some (Failed event) })
              (is_then [] later refl (record { moment = at; input = Some (Failed event) }) among))))
          by_input at (Some Abandon) among =
              absurd (false≢true (sym (kept_then [] later refl
              (record { moment = at; input = Some Abandon })
              (is_then [] later refl (record { moment = at; input = Some Abandon }) among))))

      waits_first : WaitsAfter setup (round.moment + 4000) (held_then [] later refl)
      waits_first =
          waits_so [] later refl round.moment (no_less_than round.moment) tt
          (none_of (ends_wait end) (waiting_then [] later refl) first_calm)

      -- ---- once the wait has ended, the response was told

      module _ (turns_then turns_left : List Turn) (parts : later ≡ turns_then ++ turns_left)
          (early : AllByRecursion (IsBy last) turns_then) where
        abbrev first_rounds : List Round
        first_rounds = rounds_of s (first_turns ++ [])

        abbrev more_rounds : List Round
        more_rounds = rounds_of s turns_then

        together : first_rounds ++ more_rounds ≡ rounds_of s (first_turns ++ turns_then)
        together = ap (λ rounds. rounds ++ more_rounds) (first_nil s)
            ∙ sym (rounds_of-append s first_turns turns_then)

        abbrev is_waiting : Waits here first_rounds own_key end
        is_waiting = record {
          life = waits setup waits_first.early waits_first.repeat waits_first.fired;
          held = waits_first.is;
          still = ap (λ r. is_open r (cond waits_first.early Proceeding Trying)) own_role
              ∙ still_open waits_first.early;
          ends = refl;
          other = own_role;
          commanded = plain;
        }

        stays_then : (t : Timed Input)
            → Contains (inputs_of here (first_rounds ++ more_rounds) own_key) t
            → Contains (inputs_then turns_then turns_left parts) t
        stays_then t among =
            subst (λ rounds. Contains (inputs_of here rounds own_key) t) together among

        not_given_up : list_any (λ (t : Timed Input). is_abandon t.input)
            (inputs_of here (first_rounds ++ more_rounds) own_key) ≡ false
        not_given_up =
            none_of (λ (t : Timed Input). is_abandon t.input)
            (inputs_of here (first_rounds ++ more_rounds) own_key)
            (λ t among. not_abandon t.input
            (kept_then turns_then turns_left parts t (stays_then t among)))

        told_of : (up : UpKind) (note : Notice) (cause : Timed Input) → is_outcome up ≡ true
            → Contains (inputs_then turns_then turns_left parts) cause → Causes end cause up
            → Tells way.call_id way.id up note
            → Contains (all_given (answers here (rounds_of s (first_turns ++ turns_then))))
            (output.Notice note)
            → IsToldBy configs turns s way.call_id way.id response last
        told_of (kind.Request message reply_to) note cause final among causes tells told =
            absurd causes
        told_of (kind.Ack message) note cause final among causes tells told = absurd causes
        told_of (kind.Response message) note cause final among causes tells told =
            let same : message ≡ response =
            one_final turns_then turns_left parts last from_answer early before_last cause.moment
            causes.0 message causes.1
            (subst (λ (i : Option Input). Contains (inputs_then turns_then turns_left parts)
            (record { moment = cause.moment; input = i })) causes.2 among) final in
            record {
              front = first_turns ++ turns_then;
              rest = turns_left;
              are = upto_are turns_then turns_left parts;
              in_time = upto_by turns_then turns_left parts last from_answer early;
              status = tells.0;
              status_is = ap (λ (m : Message). status_of m.start) (sym same) ∙ tells.1;
              told = subst (λ (n : Notice).
                  Contains (all_given (answers here (rounds_of s (first_turns ++ turns_then))))
                  (output.Notice n))
                  (tells.2 ∙ ap (λ (m : Message). notice.Response way.call_id way.id tells.0
                  (tag_of m.from) (tag_of m.to) m.body) same) told;
            }
        told_of kind.Timeout note cause final among causes tells told =
            let by : cause.moment ≤ last =
            each_of (InputBy last) (inputs_then turns_then turns_left parts) cause
            (own_by turns_then turns_left parts last from_answer early) among in
            absurd (no_room last end cause.moment last causes.1 by (no_less_than last) soon)
        told_of kind.Failed note cause final among causes tells told =
            absurd (false≢true (sym (kept_then turns_then turns_left parts cause among)
            ∙ ap is_lost causes.1))

        told_once_ended : list_any (ends_wait end) (waiting_then turns_then turns_left parts) ≡ true
            → IsToldBy configs turns s way.call_id way.id response last
        told_once_ended ended =
            let outcome : IsToldOfOutcome here (first_rounds ++ more_rounds) own_key end way.call_id
            way.id = outcome_is_told here first_rounds more_rounds own_key end is_waiting not_given_up
            (λ life held still. not_open own_key own_role
            (held_then turns_then turns_left parts) life
            (ap (λ rounds. life_after here rounds own_key) (sym together) ∙ held) still
            (closed_so turns_then turns_left parts ended)) in
            told_of outcome.outcome outcome.notice outcome.cause outcome.final
            (stays_then outcome.cause outcome.came) outcome.causes outcome.tells
            (subst (λ rounds. Contains (all_given (answers here rounds)) (output.Notice outcome.notice))
            together outcome.told)

      -- ---- the repeats come

      comes_so : (id : Id) (reply_to : Addr) → is_receipt (Some (Receive id comes_as reply_to)) ≡ true
      comes_so id reply_to =
          ap (λ b. b && not (is_same_method comes_as.cseq.method (codes "ACK"))) asks_there
          ∙ ap not (not_ack comes_as.cseq.method (λ ack. no_ack (sym same.method ∙ ack)))

      abbrev came_again : List Turn → List (Timed Input)
      came_again turns_then =
          inputs_after there there_key (rounds_of other first_turns) (rounds_of other turns_then)

      -- so many repeats came by then
      record Stage (i : ℕ) : Type 0 where
        turns_by : List Turn
        turns_after : List Turn
        split : later ≡ turns_by ++ turns_after
        all_by : AllByRecursion (IsBy (by_stage i)) turns_by
        enough : i ≤ count_by comes (came_again turns_by)

      module _ (calm : (t : Timed Input) → Contains way.after t → t.moment ≤ last
          → ends_wait end t ≡ false) where
        module _ (i : ℕ) (fewer : suc i ≤ more) (turns_by turns_after : List Turn)
            (split : later ≡ turns_by ++ turns_after)
            (all_by : AllByRecursion (IsBy (by_stage i)) turns_by)
            (enough : i ≤ count_by comes (came_again turns_by)) where
          abbrev until : ℕ
          until = by_stage i + repeats_take

          abbrev first_part : List Turn
          first_part = first_turns ++ turns_by

          left_clock : ShareAClock turns_after
          left_clock = clock_back turns_by turns_after (subst ShareAClock split later_clock)

          during : Parted until turns_after
          during = parted until turns_after left_clock

          until_by : until + delay ≤ last
          until_by =
              subst (λ n. n ≤ last) (next_stage_is i)
              (less_so (by_stage (suc i)) delay last (stage_by (suc i) fewer))

          in_time : until ≤ last
          in_time = less_so until delay last until_by

          calm_then : (t : Timed Input) → Contains (waiting_then turns_by turns_after split) t
              → ends_wait end t ≡ false
          calm_then t among =
              let by : t.moment ≤ by_stage i =
              each_of (InputBy (by_stage i)) (waiting_then turns_by turns_after split) t
              (waiting_by turns_by turns_after split (by_stage i) (from_stage i) all_by).1 among in
              calm t
              (after_so turns_by turns_after split t
              (Contains-append_left (waiting_then turns_by turns_after split)
              (inputs_left turns_by turns_after split) t among))
              (by_then t.moment (by_stage i) repeats_take last by in_time)

          waits_here : WaitsAfter setup (by_stage i + 4000) (held_then turns_by turns_after split)
          waits_here =
              waits_so turns_by turns_after split (by_stage i) (from_stage i) all_by
              (none_of (ends_wait end) (waiting_then turns_by turns_after split) calm_then)

          abbrev window : List (Timed Input)
          window = inputs_after here own_key (rounds_of s first_part) (rounds_of s during.front)

          abbrev window_left : List (Timed Input)
          window_left =
              inputs_after here own_key (rounds_of s first_part ++ rounds_of s during.front)
              (rounds_of s during.rest)

          left_inputs : inputs_left turns_by turns_after split ≡ window ++ window_left
          left_inputs =
              ap (inputs_after here own_key (rounds_of s first_part))
              (ap (rounds_of s) during.are ∙ rounds_of-append s during.front during.rest)
              ∙ inputs_after_parts here own_key (rounds_of s first_part) (rounds_of s during.front)
              (rounds_of s during.rest)

          window_calm : list_any (ends_wait end) window ≡ false
          window_calm =
              none_of (ends_wait end) window
              (λ t among.
              let by : t.moment ≤ until =
              each_of (InputBy until) window t
              (inputs_after_at here own_key (λ m. m ≤ until) (rounds_of s first_part)
              (rounds_of s during.front) (rounds_at (λ m. m ≤ until) s during.front during.early))
              among in
              calm t
              (after_so turns_by turns_after split t
              (Contains-append_right (waiting_then turns_by turns_after split)
              (inputs_left turns_by turns_after split) t
              (subst (λ all. Contains all t) (sym left_inputs)
              (Contains-append_left window window_left t among))))
              (no_more t.moment until last by in_time))

          whole : turns ≡ first_part ++ (during.front ++ during.rest)
          whole = upto_are turns_by turns_after split ∙ ap (λ ts. first_part ++ ts) during.are

          first_by : AllByRecursion (IsBy until) (first_part ++ during.front)
          first_by =
              both_all (IsBy until) first_part during.front
              (all_go {P = IsBy (by_stage i)} {Q = IsBy until}
              (λ turn by. longer_by (turn.round).moment (by_stage i) repeats_take by) first_part
              (upto_by turns_by turns_after split (by_stage i) (from_stage i) all_by))
              during.early

          on_late : Contains (rounds_of s during.rest) on.0
          on_late =
              late_round s until (first_part ++ during.front) during.rest first_by on.0
              (subst (λ ts. Contains (rounds_of s ts) on.0)
              (whole ∙ sym (append_assoc first_part during.front during.rest)) on.1)
              (later_than until last (on.0).moment in_time on.2)

          goes : GoesOn delay during.front during.rest
          goes =
              goes_so s delay until during.front during.rest during.early on.0 on_late
              (later_than (until + delay) last (on.0).moment until_by on.2)

          next_round : IsFirst (rounds_of s during.rest)
          next_round = has_first (rounds_of s during.rest) on.0 on_late

          abbrev tick : Timed Input
          tick = tick_at (next_round.first).moment

          tick_late : until < (next_round.first).moment
          tick_late =
              (subst (AllByRecursion (λ (r : Round). until < r.moment)) next_round.are
              (rounds_at (λ m. until < m) s during.rest during.late)).0

          ticks_next : BeginsWithTick here own_key next_round.first window_left
          ticks_next =
              subst (λ rounds. BeginsWithTick here own_key next_round.first
              (inputs_after here own_key (rounds_of s first_part ++ rounds_of s during.front) rounds))
              (sym next_round.are)
              (begins_with_tick here own_key (rounds_of s first_part ++ rounds_of s during.front)
              next_round.first next_round.more)

          all_so : inputs_of here (rounds_of s turns) own_key
              ≡ inputs_then turns_by turns_after split ++ ((window ++ tick ∷ []) ++ ticks_next.rest)
          all_so =
              all_inputs turns_by turns_after split
              ∙ ap (λ ts. inputs_then turns_by turns_after split ++ ts)
              (left_inputs ∙ (ap (λ ts. window ++ ts) ticks_next.are
              ∙ sym (append_assoc window (tick ∷ []) ticks_next.rest)))

          ticks : TicksInTime transaction_machine lag own_key (held_then turns_by turns_after split)
              (window ++ tick ∷ [])
          ticks =
              in_time_first lag own_key (held_then turns_by turns_after split) (window ++ tick ∷ [])
              ticks_next.rest
              (in_time_after lag own_key None (inputs_then turns_by turns_after split)
              ((window ++ tick ∷ []) ++ ticks_next.rest)
              (subst (TicksInTime transaction_machine lag own_key None) all_so (runs s own_key)))

          abbrev SentSo : Machine Key Life (Timed Input) Out → Type 0
          SentSo machine =
              let held = Some (waits setup waits_here.early waits_here.repeat waits_here.fired) in
              TicksInTime machine lag own_key held (window ++ tick ∷ [])
              → suc more ≤ copies there.local text (outputs_from machine own_key held window)

          own_copies : suc more ≤ copies there.local text
              (outputs_from transaction_machine own_key (held_then turns_by turns_after split) window)
          own_copies =
              subst (λ held. suc more ≤ copies there.local text
              (outputs_from transaction_machine own_key held window)) (sym waits_here.is)
              (at_steps SentSo
              (λ in_time. from_none (suc more) (copies there.local text (outputs_from step_machine own_key
              (Some (waits setup waits_here.early waits_here.repeat waits_here.fired)) window))
              (often setup own_role lag (by_stage i) (suc more) (next_round.first).moment
              tick_late window window_calm waits_here.early waits_here.repeat waits_here.fired 0
              (plus_none waits_here.repeat (by_stage i + 4000) (4000 + lag) waits_here.due) in_time))
              (subst (λ held. TicksInTime transaction_machine lag own_key held (window ++ tick ∷ []))
              waits_here.is ticks))

          sent_again : suc more ≤ copies_sent configs first_part during.front s text
          sent_again =
              subst (λ rounds. suc more ≤ count_by (is_sent there.local text)
              (all_given (drop (length (rounds_of s first_part)) (answers here rounds))))
              (sym (rounds_of-append s first_part during.front))
              (no_more (suc more)
              (copies there.local text
              (outputs_from transaction_machine own_key (held_then turns_by turns_after split) window))
              (count_by (is_sent there.local text)
              (all_given (drop (length (rounds_of s first_part))
              (answers here (rounds_of s first_part ++ rounds_of s during.front)))))
              own_copies
              (sent_after there.local text fair.transactions here (rounds_of s first_part)
              (rounds_of s during.front) own_key))

          one : OneIsDelivered configs delay first_part during.front during.rest s text
          one = delivers first_part during.front during.rest whole s text way.short sent_again goes

          next_parts : Parted (by_stage (suc i)) turns_after
          next_parts = parted (by_stage (suc i)) turns_after left_clock

          came_by : (one.at.round).moment ≤ by_stage (suc i)
          came_by =
              let sent_by : (one.turn.round).moment ≤ until =
              each_of (IsBy until) during.front one.turn during.early
              (subst (λ ts. Contains ts one.turn) (sym one.are)
              (Contains-append_right one.front (one.turn ∷ one.rest) one.turn
              (among_first one.turn one.rest))) in
              subst (λ n. (one.at.round).moment ≤ n) (sym (next_stage_is i))
              (soon_so (one.at.round).moment (one.turn.round).moment until delay one.soon sent_by)

          came_in : Contains next_parts.front one.at
          came_in =
              comes_early (by_stage (suc i)) next_parts.front next_parts.rest next_parts.late one.at
              (subst (λ ts. Contains ts one.at)
              (sym (during.are ∙ (ap (λ ts. ts ++ during.rest) one.are
              ∙ append_assoc one.front (one.turn ∷ one.rest) during.rest)) ∙ next_parts.are)
              (Contains-append_right one.front (one.turn ∷ one.rest ++ during.rest) one.at
              (among_later one.turn (one.rest ++ during.rest) one.at one.among)))
              came_by

          abbrev came_more : List (Timed Input)
          came_more =
              inputs_after there there_key (rounds_of other first_part) (rounds_of other next_parts.front)

          one_comes : 1 ≤ count_by comes came_more
          one_comes =
              let given = text_given_after request (keep s asked says) (short_enough text way.short) asks
              here.local there (rounds_of other first_part) (rounds_of other next_parts.front)
              one.at.round (own_round other next_parts.front one.at came_in one.to) one.comes in
              counts_one comes came_more
              (given_at given.1 (Receive given.0 comes_as (answer_address request here.local))) given.2
              (comes_so given.0 (answer_address request here.local))

          next_stage : Stage (suc i)
          next_stage = record {
            turns_by = turns_by ++ next_parts.front;
            turns_after = next_parts.rest;
            split = split ∙ (ap (λ ts. turns_by ++ ts) next_parts.are
                ∙ sym (append_assoc turns_by next_parts.front next_parts.rest));
            all_by = both_all (IsBy (by_stage (suc i))) turns_by next_parts.front
                (all_go {P = IsBy (by_stage i)} {Q = IsBy (by_stage (suc i))}
                (λ turn by. subst (λ n. (turn.round).moment ≤ n) (sym (next_stage_is i))
                (longer_by (turn.round).moment until delay
                (longer_by (turn.round).moment (by_stage i) repeats_take by)))
                turns_by all_by)
                next_parts.early;
            enough =
                let first = rounds_of other first_turns in
                let same : came_again (turns_by ++ next_parts.front)
                ≡ came_again turns_by ++ came_more =
                ap (inputs_after there there_key first)
                (rounds_of-append other turns_by next_parts.front)
                ∙ (inputs_after_parts there there_key first (rounds_of other turns_by)
                (rounds_of other next_parts.front)
                ∙ ap (λ rounds. came_again turns_by
                ++ inputs_after there there_key rounds (rounds_of other next_parts.front))
                (sym (rounds_of-append other first_turns turns_by))) in
                subst (λ inputs. suc i ≤ count_by comes inputs) (sym same)
                (count_sum comes (came_again turns_by) came_more i enough one_comes);
          }

        stages : (i : ℕ) → i ≤ more → Stage i
        stages zero by =
            let start_parts = parted (by_stage 0) later later_clock in
            record {
              turns_by = start_parts.front;
              turns_after = start_parts.rest;
              split = start_parts.are;
              all_by = start_parts.early;
              enough = omega arith;
            }
        stages (suc i) by =
            let stage = stages i (omega (arith, by)) in
            next_stage i by stage.turns_by stage.turns_after stage.split stage.all_by stage.enough

        -- ---- so the response goes out often enough, and comes

        module _ (turns_by turns_after : List Turn) (split : later ≡ turns_by ++ turns_after)
            (all_by : AllByRecursion (IsBy (by_stage more)) turns_by)
            (enough : more ≤ count_by comes (came_again turns_by)) where
          abbrev answering : List Turn
          answering = turn ∷ turns_by

          abbrev there_first : List (Timed Input)
          there_first = inputs_of there (rounds_of other earlier) there_key

          abbrev there_rest : List (Timed Input)
          there_rest = rest turns_by turns_after split

          abbrev there_held : Option Life
          there_held = state_from transaction_machine there_key None there_first

          answering_rounds : rounds_of other (earlier ++ answering)
              ≡ rounds_of other earlier ++ round ∷ rounds_of other turns_by
          answering_rounds = there_rounds turns_by

          there_inputs_are : inputs_after there there_key (rounds_of other earlier)
              (round ∷ rounds_of other turns_by) ≡ answer.here ++ given ∷ there_rest
          there_inputs_are =
              let added = inputs_after there there_key (rounds_of other earlier)
              (round ∷ rounds_of other turns_by) in
              same_back there_first added (answer.here ++ given ∷ there_rest)
              (sym (inputs-append there there_key (rounds_of other earlier)
              (round ∷ rounds_of other turns_by))
              ∙ (ap (λ rounds. inputs_of there rounds there_key) (sym answering_rounds)
              ∙ (ap (λ ts. inputs_of there (rounds_of other ts) there_key)
              (sym (append_assoc earlier (turn ∷ []) turns_by))
              ∙ (there_are turns_by turns_after split
              ∙ append_assoc there_first answer.here (given ∷ there_rest)))))

          abbrev Late : Machine Key Life (Timed Input) Out → Type 0
          Late machine =
              let held = state_from machine there_key None there_first in
              outputs_from machine there_key held (answer.here ++ given ∷ there_rest)
              ≡ outputs_from machine there_key held answer.here
              ++ out.Send there_key (context turns_by turns_after split).to reply
              ∷ outputs_from machine there_key (Some (done turns_by turns_after split)) there_rest

          late_shape : Late transaction_machine
          late_shape = at_steps Late
              (let held = state_from step_machine there_key None there_first in
              let stays = opened turns_by turns_after split in
              outputs-append step_machine there_key held answer.here (given ∷ there_rest)
              ∙ (ap (λ state. outputs_from step_machine there_key held answer.here
              ++ outputs_from step_machine there_key state (given ∷ there_rest))
              (sym (state_from-append step_machine there_key None there_first answer.here) ∙ stays.is)
              ∙ ap (λ (a : Option Life × List Out). outputs_from step_machine there_key held answer.here
              ++ (a.1 ++ outputs_from step_machine there_key a.0 there_rest))
              (answer_step there_key there_role here.local stays.life stays.opened round.moment id
              response answer.final)))

          often_so : suc more ≤ copies here.local reply (outputs_from transaction_machine there_key
              there_held (inputs_after there there_key (rounds_of other earlier)
              (round ∷ rounds_of other turns_by)))
          often_so =
              let first_outs = outputs_from transaction_machine there_key there_held answer.here in
              let late_outs = outputs_from transaction_machine there_key
              (Some (done turns_by turns_after split)) there_rest in
              let to_here : (context turns_by turns_after split).to ≡ here.local =
              (opened turns_by turns_after split).to_is in
              let sends = keeps turns_by turns_after split (by_stage more) (from_stage more) all_by
              (stage_early (by_stage more) delay last (round.moment + 32000)
              (stage_by more (no_less_than more)) before_last) in
              subst (λ inputs. suc more ≤ copies here.local reply
              (outputs_from transaction_machine there_key there_held inputs)) (sym there_inputs_are)
              (subst (λ outs. suc more ≤ copies here.local reply outs) (sym late_shape)
              (subst (λ to. suc more ≤ copies to reply (first_outs
              ++ out.Send there_key (context turns_by turns_after split).to reply ∷ late_outs)) to_here
              (sends_often there_key (context turns_by turns_after split).to reply first_outs late_outs
              more
              (no_more more (count_by comes there_rest)
              (copies (context turns_by turns_after split).to reply late_outs)
              (count_later comes answer.later (came_again turns_by) more enough) sends.1))))

          sent_back : suc more ≤ copies_sent configs earlier answering other reply
          sent_back =
              subst (λ rounds. suc more ≤ count_by (is_sent (configs (peer other)).local reply)
              (all_given (drop (length (rounds_of other earlier)) (answers there rounds))))
              (sym answering_rounds)
              (subst (λ p. suc more ≤ count_by (is_sent (configs p).local reply)
              (all_given (drop (length (rounds_of other earlier))
              (answers there (rounds_of other earlier ++ round ∷ rounds_of other turns_by)))))
              (sym (peer_peer s))
              (no_more (suc more)
              (copies here.local reply (outputs_from transaction_machine there_key there_held
              (inputs_after there there_key (rounds_of other earlier)
              (round ∷ rounds_of other turns_by))))
              (count_by (is_sent here.local reply)
              (all_given (drop (length (rounds_of other earlier))
              (answers there (rounds_of other earlier ++ round ∷ rounds_of other turns_by)))))
              often_so
              (sent_after here.local reply fair.transactions there (rounds_of other earlier)
              (round ∷ rounds_of other turns_by) there_key)))

          answering_by : AllByRecursion (IsBy (by_stage more)) answering
          answering_by = (from_stage more, all_by)

          whole_back : turns ≡ earlier ++ (answering ++ turns_after)
          whole_back = are ∙ ap (λ ts. earlier ++ turn ∷ ts) split

          on_after : Contains (rounds_of s turns_after) on.0
          on_after =
              late_round s (by_stage more) (first_turns ++ turns_by) turns_after
              (upto_by turns_by turns_after split (by_stage more) (from_stage more) all_by) on.0
              (subst (λ ts. Contains (rounds_of s ts) on.0) (upto_are turns_by turns_after split) on.1)
              (later_than (by_stage more) last (on.0).moment
              (less_so (by_stage more) delay last (stage_by more (no_less_than more))) on.2)

          goes_back : GoesOn delay answering turns_after
          goes_back =
              goes_so s delay (by_stage more) answering turns_after answering_by on.0 on_after
              (later_than (by_stage more + delay) last (on.0).moment
              (stage_by more (no_less_than more)) on.2)

          back : OneIsDelivered configs delay earlier answering turns_after other reply
          back = delivers earlier answering turns_after whole_back other reply fits sent_back goes_back

          back_by : (back.at.round).moment ≤ last
          back_by =
              let sent_by : (back.turn.round).moment ≤ by_stage more =
              each_of (IsBy (by_stage more)) answering back.turn answering_by
              (subst (λ ts. Contains ts back.turn) (sym back.are)
              (Contains-append_right back.front (back.turn ∷ back.rest) back.turn
              (among_first back.turn back.rest))) in
              no_more (back.at.round).moment (by_stage more + delay) last
              (soon_so (back.at.round).moment (back.turn.round).moment (by_stage more) delay back.soon
              sent_by)
              (stage_by more (no_less_than more))

          back_later : Contains later back.at
          back_later =
              subst (λ ts. Contains ts back.at) (sym split)
              (⊎_elim
              (λ soon_after. Contains-append_left turns_by turns_after back.at
              (later_one turn turns_by back.front back.turn back.rest back.are back.at soon_after))
              (λ after. Contains-append_right turns_by turns_after back.at after)
              (Contains-append_cases back.rest turns_after back.at back.among))

          abbrev at_last : Parted last later
          at_last = parted last later later_clock

          back_in : Contains at_last.front back.at
          back_in =
              comes_early last at_last.front at_last.rest at_last.late back.at
              (subst (λ ts. Contains ts back.at) at_last.are back_later) back_by

          given_there : Contains (inputs_of there (rounds_of other turns) there_key) given
          given_there =
              subst (λ all. Contains all given)
              (sym (ap (λ rounds. inputs_of there rounds there_key)
              (rounds_are first_turns later first_are other)
              ∙ inputs-append there there_key (rounds_of other first_turns) (rounds_of other later)))
              (Contains-append_left (inputs_of there (rounds_of other first_turns) there_key)
              (inputs_after there there_key (rounds_of other first_turns) (rounds_of other later)) given
              (subst (λ all. Contains all given) (sym first_inputs)
              (Contains-append_right prior (given ∷ answer.later) given
              (among_first given answer.later))))

          rules_back : IsMessage response
          rules_back = ((what_is_said fair.transactions configs fair.addresses turns carried keep other
              there_key).answered round.moment id response given_there).0

          abbrev line_is : (status : ℕ) × (status_of response.start ≡ Some status) × (200 ≤ status)
          line_is = line_status response.start (final_line response.start answer.final)

          copied : IsResponseTo comes_as response
          copied = copies_request configs fair turns carried keep s few way.id own_key way.call_id request
              there.local says asks no_cancel id response line_is.0 line_is.1
              (round.moment, given_there)

          comes_stamped : comes_as ≡ stamped request here.local
          comes_stamped = ap (λ b. if b then stamped request here.local else request) asks

          to_own_key : key_of_message response ≡ own_key
          to_own_key =
              response_key response line_is.0 line_is.1
              ∙ (ap (λ branch. client_key branch response.cseq.method)
              (ap (λ (vias : List Via). option_map_or branch_of (slice_get vias 0) []) copied.vias
              ∙ same.branch)
              ∙ (ap (client_key (top_branch request))
              (ap (λ (cseq : CSeq). cseq.method) copied.cseq ∙ same.method)
              ∙ sym key_is))

          named_here : is_sent_by_of response here.local ≡ true
          named_here =
              let home = (out_own here (rounds_of s turns) (fair.calls s) asked says).own.via in
              sent_by_home here.local request response home.0 home.1
              (copied.vias ∙ ap (λ (m : Message). m.vias) comes_stamped)

          final_came : ⊥
          final_came =
              let first = rounds_of s first_turns in
              let came_then = rounds_of s at_last.front in
              let got = reply_given_after response rules_back (short_enough reply fits)
              (replies_only response.start line_is.0 line_is.1) there.local here named_here first
              came_then back.at.round
              (own_round s at_last.front back.at back_in (back.to ∙ peer_peer s))
              back.comes in
              let t : Timed Input = given_at got.1 (Receive got.0 response there.local) in
              let among : Contains (inputs_after here own_key first came_then) t =
              subst (λ k. Contains (inputs_after here k first came_then) t) to_own_key got.2 in
              let in_left : Contains (inputs_after here own_key first (rounds_of s later)) t =
              subst (λ all. Contains all t)
              (sym (ap (inputs_after here own_key first)
              (ap (rounds_of s) at_last.are ∙ rounds_of-append s at_last.front at_last.rest)
              ∙ inputs_after_parts here own_key first came_then (rounds_of s at_last.rest)))
              (Contains-append_left (inputs_after here own_key first came_then)
              (inputs_after here own_key (first ++ came_then) (rounds_of s at_last.rest)) t among) in
              let in_after : Contains way.after t =
              after_so [] later refl t
              (Contains-append_right (waiting_then [] later refl) (inputs_left [] later refl) t
              (subst (λ rounds. Contains (inputs_after here own_key rounds (rounds_of s later)) t)
              (sym (first_nil s)) in_left)) in
              let by : t.moment ≤ last =
              each_of (InputBy last) (inputs_after here own_key first came_then) t
              (inputs_after_at here own_key (λ m. m ≤ last) first came_then
              (rounds_at (λ m. m ≤ last) s at_last.front at_last.early)) among in
              false≢true (sym (calm t in_after by) ∙ final_line response.start answer.final)

        never : ⊥
        never =
            let stage = stages more (no_less_than more) in
            final_came stage.turns_by stage.turns_after stage.split stage.all_by
            stage.enough

      calm_so : (turns_then turns_left : List Turn) (parts : later ≡ turns_then ++ turns_left)
          → AllByRecursion (IsLater last) turns_left
          → list_any (ends_wait end) (waiting_then turns_then turns_left parts) ≡ false
          → (t : Timed Input) → Contains way.after t → t.moment ≤ last → ends_wait end t ≡ false
      calm_so turns_then turns_left parts late none t among by =
          let waiting = waiting_then turns_then turns_left parts in
          let left = inputs_left turns_then turns_left parts in
          ⊎_elim
          (λ before. each_not (ends_wait end) waiting none t before)
          (λ after.
          let over : last < t.moment =
          each_of (λ (x : Timed Input). last < x.moment) left t
          (inputs_after_at here own_key (λ m. last < m) (rounds_of s (first_turns ++ turns_then))
          (rounds_of s turns_left) (rounds_at (λ m. last < m) s turns_left late)) after in
          absurd (not_both last t.moment over by))
          (Contains-append_cases waiting left t
          (subst (λ all. Contains all t) (stands turns_then turns_left parts).after_are among))

      pub is_told : IsToldBy configs turns s way.call_id way.id response last
      is_told =
          let end_parts = parted last later later_clock in
          by_bool (list_any (ends_wait end)
          (waiting_then end_parts.front end_parts.rest end_parts.are))
          (λ ended. told_once_ended end_parts.front end_parts.rest end_parts.are end_parts.early ended)
          (λ none. absurd (never
          (calm_so end_parts.front end_parts.rest end_parts.are end_parts.late none)))

-- ---- the law

pub answers_arrive : (configs : Side → Config) (fair : IsFair configs) (turns : List Turn)
    → Carried configs turns → CallsKeepRules configs turns → AnswersArrive configs turns
answers_arrive configs fair turns carried keep lag more delay clock runs delivers s branch method
    now request no_invite plain way few earlier later round are id response answer fits soon on =
    let no_cancel = no_own_command method plain in
    let last = round.moment + answer_time lag more delay in
    let begun_way = begun configs fair turns s branch method now request no_cancel way few in
    subst (λ i. IsToldBy configs turns s way.call_id i response last)
    (begun_id configs fair turns s branch method now request no_cancel way few)
    (subst (λ c. IsToldBy configs turns s c begun_way.id response last)
    (begun_call configs fair turns s branch method now request no_cancel way few)
    (is_told configs fair turns carried keep clock s branch method now request no_invite plain begun_way
    few earlier later round are lag more delay runs delivers id response answer fits soon on way.kept))
