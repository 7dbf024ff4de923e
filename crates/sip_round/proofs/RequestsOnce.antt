-- At most one notice `request` that rounds give has a given id: a request comes up under the id of
-- its own event, and events differ.
use Rattle.std.proofs.Common.{◌≡◌, ℕ, suc, ◌+◌, ◌≤◌, Bool, true, false, cond, List, [], ◌∷◌, ◌++◌, map, length, refl, sym, ap, subst, ◌∙◌, arith}
use Rattle.std.specs.Prelude.{Option, None, Some, filter, filter_map, unwrap_or}
use Rattle.std.specs.List.{flat_map}
use Rattle.std.proofs.lemmas.List.{length-append}
use Rattle.std.proofs.lemmas.List.Elements.{filter-append, filter_map-append}
use Rattle.sip_message.specs.declared.id.Id.{Id}
use Rattle.keyed_machine.specs.Machine.{adds, next, tick_at}
use Rattle.keyed_machine.specs.Phase.{keys_of_phases, states_after, stepped, timed_items, told_items}
use Rattle.keyed_machine.specs.Groups.{speaks}
use Rattle.sip_transactions.specs.declared.output.UpKind.{UpKind}
use Rattle.sip_transactions.specs.declared.output.UpKind.TheVariants as kind
use Rattle.sip_user.specs.declared.item.CallOut.{CallOut}
use Rattle.sip_user.specs.declared.item.CallOut.TheVariants as call_out
use Rattle.sip_user.specs.declared.item.Item.{Item}
use Rattle.sip_user.specs.declared.item.Item.TheVariants.{Up, User}
use Rattle.sip_user.specs.declared.notice.Notice.{Notice as ANotice}
use Rattle.sip_user.specs.declared.notice.Notice.TheVariants as notice
use Rattle.sip_user.specs.Command.{call_of_item}
use Rattle.sip_user.specs.Notices.{request_told_by}
use Rattle.sip_served.specs.ForUser.{is_request}
use Rattle.sip_held_dialogs.specs.Ids.{is_id}
use Rattle.sip_calls.specs.declared.call.Call.{Call}
use Rattle.sip_calls.specs.declared.calls.Calls.{Calls}
use Rattle.sip_calls.specs.Call.{call_machine}
use Rattle.sip_calls.specs.CallShard.{call_cmp, item_input}
use Rattle.sip_calls.specs.Provisionals.{event_of_kind}
use Rattle.sip_calls.specs.Requests.{comes_up_by, tells_of}
use Rattle.sip_calls.proofs.CallStarts.{count_option, how_many, weight}
use Rattle.sip_calls.proofs.RequestsTold.{each_told_once}
use Rattle.sip_round.specs.declared.config.Config.{Config}
use Rattle.sip_round.specs.declared.output.Output.{Output}
use Rattle.sip_round.specs.declared.output.Output.TheVariants as output
use Rattle.sip_round.specs.declared.round.Round.{Round}
use Rattle.sip_round.specs.Answers.{Past, answer, answers, answers_from, calls_of, given_second, items_of_round, no_past, past_after, second}
use Rattle.sip_round.specs.Given.{all_given, is_request_of, requests_of}
use Rattle.sip_round.specs.Outputs.{all_said, joined, call_outputs}
use Rattle.sip_round.specs.Phases.{call_items}
use Rattle.sip_round.proofs.CallEvents.{item_event}
use Rattle.sip_round.proofs.EventsRise.{rise_apart}
use Rattle.sip_round.proofs.FewUps.{events_of}
use Rattle.sip_round.proofs.NotTold.{told_in_second}
use Rattle.sip_round.proofs.OwnItems.{AreOwnItems, IsItemBy, items_own}
use Rattle.sip_round.proofs.OwnRequests.{IsKindBy}
use Rattle.sip_round.proofs.Said.{calls_say, told_by_calls}
use Rattle.sip_round.proofs.StartedOnce.{counted, events_from, events_rise, how_many-append, once_of_distinct}

module _ (x : Id) where
  -- ---- notices, and what calls tell

  tells_append : (xs ys : List CallOut) → tells_of x (xs ++ ys) ≡ tells_of x xs + tells_of x ys
  tells_append xs ys =
      ap (how_many x) (filter_map-append request_told_by xs ys)
      ∙ how_many-append x (filter_map request_told_by xs) (filter_map request_told_by ys)

  one_or_none : (b : Bool) (o : Output) → length (cond b (o ∷ []) []) ≡ cond b 1 0
  one_or_none true o = refl
  one_or_none false o = refl

  one_notice : (n : ANotice) → length (requests_of x (output.Notice n ∷ []))
      ≡ tells_of x (call_out.Notice n ∷ [])
  one_notice (notice.Request call_id id method local_tag remote_tag body) =
      let nothing : how_many x [] ≡ 0 = refl in
      omega (
        arith,
        one_or_none (is_id x id)
            (output.Notice (notice.Request call_id id method local_tag remote_tag body)),
        counted x id [],
        nothing,
      )
  one_notice (notice.Response call_id id status local_tag remote_tag body) = refl
  one_notice (notice.Ack call_id id body) = refl
  one_notice (notice.Prack call_id id rseq body) = refl
  one_notice (notice.Timeout call_id id) = refl
  one_notice (notice.Failed call_id id) = refl
  one_notice (notice.NoAck call_id id) = refl
  one_notice (notice.NoPrack call_id id) = refl
  one_notice (notice.Cancel call_id id) = refl
  one_notice (notice.Ended call_id local_tag remote_tag) = refl
  one_notice (notice.Refused call_id place refusal) = refl

  one_shown : (out : CallOut) → length (requests_of x (call_outputs out)) ≡ tells_of x (out ∷ [])
  one_shown (call_out.Notice n) = one_notice n
  one_shown (call_out.Command id command) = refl
  one_shown (call_out.Direct to bytes) = refl

  all_shown : (outs : List CallOut)
      → length (requests_of x (flat_map call_outputs outs)) ≡ tells_of x outs
  all_shown [] = refl
  all_shown (out ∷ outs) =
      let first = requests_of x (call_outputs out) in
      let rest = requests_of x (flat_map call_outputs outs) in
      omega (
        arith,
        ap length (filter-append (is_request_of x) (call_outputs out) (flat_map call_outputs outs)),
        length-append first rest,
        one_shown out,
        all_shown outs,
        tells_append (out ∷ []) outs,
      )

  -- ---- what calls tell in a round about the requests that come up

  abbrev coming : List (Id × Item) → ℕ
  coming [] = 0
  coming (i ∷ items) = cond (comes_up_by x (Some i)) 1 0 + coming items

  no_tick_tells : (calls : Calls) (state : Option Call) (key : List ℕ) (now : ℕ)
      → tells_of x (adds (call_machine calls) key state (tick_at now)) ≡ 0
  no_tick_tells calls state key now =
      let few = each_told_once calls state None now x in omega (arith, few)

  ticks_tell : (calls : Calls) (now : ℕ) (states : List ℕ → Option Call) (keys : List (List ℕ))
      → tells_of x (joined (map (λ key. (
        key,
        adds (call_machine calls) key (states key) (tick_at now),
      )) keys)) ≡ 0
  ticks_tell calls now states [] = refl
  ticks_tell calls now states (key ∷ keys) =
      let rest = joined (map (λ key. (
        key,
        adds (call_machine calls) key (states key) (tick_at now),
      )) keys) in
      omega (
        arith,
        tells_append (adds (call_machine calls) key (states key) (tick_at now)) rest,
        no_tick_tells calls (states key) key now,
        ticks_tell calls now states keys,
      )

  items_tell : (calls : Calls) (now at : ℕ) (states : List ℕ → Option Call)
      (items : List (Id × Item))
      → tells_of x (joined (told_items call_cmp (call_machine calls) states
      (timed_items now (call_items at items)))) ≤ coming items
  items_tell calls now at states [] =
      let nothing : how_many x [] ≡ 0 = refl in omega (arith, nothing)
  items_tell calls now at states (i ∷ items) =
      let machine = call_machine calls in
      let key = call_of_item i.1 in
      let input = item_input i.0 i.1 now in
      let later : List ℕ → Option Call = stepped call_cmp machine states
      (record { place = at; key = key; input = input }) in
      let rest = joined (told_items call_cmp machine later
      (timed_items now (call_items (suc at) items))) in
      omega (
        arith,
        tells_append (adds machine key (states key) input) rest,
        each_told_once calls (states key) (Some i) now x,
        items_tell calls now (suc at) later items,
      )

  round_tells : (config : Config) (number : ℕ) (past : Past) (round : Round)
      → tells_of x (given_second config number past round)
      ≤ coming (items_of_round config number past round)
  unfolding given_second second
  round_tells config number past round =
      let calls = calls_of config in
      let machine = call_machine calls in
      let before = states_after call_cmp machine tick_at past.calls in
      let between : List ℕ → Option Call = λ q.
      next machine q (before q) (tick_at round.moment) in
      let phase = second config number past round in
      let told = told_by_calls calls past.calls phase in
      let keys = filter (λ key. speaks
      (adds machine key (before key) (tick_at round.moment)))
      (keys_of_phases call_cmp past.calls) in
      subst (λ said. tells_of x (all_said said)
      ≤ coming (items_of_round config number past round))
      (calls_say calls past.calls phase)
      (omega (
        arith,
        tells_append (joined told.ticks) (joined told.items),
        ticks_tell calls round.moment before keys,
        items_tell calls round.moment 0 between (items_of_round config number past round),
      ))

  -- ---- each request that comes up has an event of its own

  same_event : (id own : Id) → Some id ≡ Some own → own ≡ id
  same_event id own is = sym (ap (λ o. unwrap_or o id) is)

  kind_weighs : (id own : Id) (k : UpKind) → IsKindBy (Some id) own k
      → cond (is_request k (is_id x own)) 1 0 ≤ weight (is_id x) (event_of_kind id k)
  kind_weighs id own (kind.Request request reply_to) is =
      subst (λ e. cond (is_id x e) 1 0 ≤ cond (is_id x id) 1 0) (sym (same_event id own is))
      (omega arith)
  kind_weighs id own (kind.Ack ack) is = omega arith
  kind_weighs id own (kind.Response response) is = omega arith
  kind_weighs id own kind.Timeout is = omega arith
  kind_weighs id own kind.Failed is = omega arith

  item_weighs : (id : Id) (i : Item) → IsItemBy id i
      → cond (comes_up_by x (Some (id, i))) 1 0 ≤ weight (is_id x) (item_event (id, i))
  item_weighs id (Up up) is = kind_weighs id up.id up.kind is
  item_weighs id (User command) is = omega arith

  few_coming : (items : List (Id × Item)) → AreOwnItems items
      → coming items ≤ how_many x (events_of items)
  few_coming [] all = omega arith
  few_coming (i ∷ items) all =
      omega (
        arith,
        item_weighs i.0 i.1 (all.0).1,
        few_coming items all.1,
        count_option (is_id x) (item_event i) (events_of items),
      )

  -- ---- over rounds

  rounds_tell : (config : Config) (number : ℕ) (past : Past) (rounds : List Round)
      → length (requests_of x (all_given (answers_from config number past rounds)))
      ≤ how_many x (events_from config number past rounds)
  rounds_tell config number past [] = omega arith
  rounds_tell config number past (round ∷ rounds) =
      let later = past_after config number past round in
      let here = answer config number past round in
      let rest = all_given (answers_from config (suc number) later rounds) in
      let items = items_of_round config number past round in
      omega (
        arith,
        ap length (filter-append (is_request_of x) here rest),
        length-append (requests_of x here) (requests_of x rest),
        ap length (told_in_second (is_request_of x) (λ key to bytes. refl) (λ place why. refl)
            config number past round),
        all_shown (given_second config number past round),
        round_tells config number past round,
        few_coming items (items_own config number past round),
        how_many-append x (events_of items) (events_from config (suc number) later rounds),
        rounds_tell config (suc number) later rounds,
      )

pub requests_once : (config : Config) (rounds : List Round) (x : Id)
    → length (requests_of x (all_given (answers config rounds))) ≤ 1
unfolding answers
requests_once config rounds x =
    let events = events_from config config.first no_past rounds in
    omega (
      arith,
      rounds_tell x config config.first no_past rounds,
      once_of_distinct x events (rise_apart config.first 0 events
          (events_rise config config.first no_past rounds)),
    )
