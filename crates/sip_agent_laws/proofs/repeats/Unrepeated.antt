-- Messages and commands add no repeat to a story.
use Rattle.std.proofs.Common.{◌≡◌, ℕ, List, [], ◌∷◌, ◌++◌, length, map, nat_lt, refl, ap, ◌∙◌}
use Rattle.std.specs.Prelude.{Option, None, Some, Result, Ok, Err, filter, find, is_some}
use Rattle.std.specs.Option.{option_map_or}
use Rattle.std.proofs.lemmas.List.{append-nil, map-append}
use Rattle.std.proofs.lemmas.List.Elements.{filter-append}
use Rattle.keyed_machine.proofs.Ordered.{by_bool}
use Rattle.sip_message.specs.declared.id.Id.{Id}
use Rattle.sip_message.specs.declared.message.Message.{Message}
use Rattle.sip_reliable.specs.declared.send_fault.SendFault.{SendFault}
use Rattle.sip_reliable.specs.Ledger.{send_answer}
use Rattle.sip_user.specs.declared.command.Respond.{Respond as Answer}
use Rattle.sip_user.specs.declared.command.UserCommand.{UserCommand}
use Rattle.sip_user.specs.declared.command.UserCommand.TheVariants as command
use Rattle.sip_user.specs.declared.item.Item.{Item}
use Rattle.sip_user.specs.declared.item.Item.TheVariants as item
use Rattle.sip_held_dialogs.specs.Requests.{is_final}
use Rattle.sip_served.specs.declared.held_request.HeldRequest.{HeldRequest}
use Rattle.sip_served.specs.RequestLife.{RequestHappening}
use Rattle.sip_served.specs.Respond.{answer_to, answers, is_sent_reliably, makes, makes_dialog, refusal_for, sends_as}
use Rattle.sip_served.specs.State.{State, has_id}
use Rattle.sip_served.specs.Story.{RequestStory, goes_on}
use Rattle.sip_served.specs.Telling.{Stories, answer_told, happens_to, item_told}
use Rattle.sip_calls.specs.RequestHistories.{served_state}
use Rattle.sip_agent_laws.specs.Repeats.Stories.{OnlyTicksRepeat, all_repeats, is_repeat, repeats_in}
use Rattle.sip_agent_laws.proofs.repeats.Telling.{kind_so}

-- the same repeats
abbrev Same : Stories → Stories → Type 0
Same before after = all_repeats after ≡ all_repeats before

same_life : (more : List RequestHappening) → filter is_repeat more ≡ [] → (story : RequestStory)
    → repeats_in (goes_on more story) ≡ repeats_in story
same_life more none story =
    filter-append is_repeat story.life more ∙ ap (λ rest. repeats_in story ++ rest) none
    ∙ append-nil (repeats_in story)

each_same : (id : Id) (more : List RequestHappening) → filter is_repeat more ≡ []
    → (stories : Stories) → map repeats_in (happens_to id more stories) ≡ map repeats_in stories
each_same id more none [] = refl
each_same id more none (story ∷ stories) =
    by_bool (has_id id story.arrival)
    (λ e. rw e (ap (λ one. one ∷ map repeats_in stories) (same_life more none story)))
    (λ e. rw e (ap (λ rest. repeats_in story ∷ rest) (each_same id more none stories)))

one_same : (id : Id) (more : List RequestHappening) → filter is_repeat more ≡ []
    → (stories : Stories) → Same stories (happens_to id more stories)
one_same id more none stories =
    ap (filter (λ repeats. nat_lt 0 (length repeats))) (each_same id more none stories)

new_same : (arrival : HeldRequest) (stories : Stories)
    → Same stories (stories ++ record { arrival = arrival; life = [] } ∷ [])
new_same arrival stories =
    ap (filter (λ repeats. nat_lt 0 (length repeats)))
    (map-append repeats_in stories (record { arrival = arrival; life = [] } ∷ []))
    ∙ filter-append (λ repeats. nat_lt 0 (length repeats)) (map repeats_in stories) ([] ∷ [])
    ∙ append-nil (all_repeats stories)

-- ---- the answer of the user

sends_none : (number : Result ℕ SendFault) (response : Message) (now : ℕ)
    → filter is_repeat (sends_as number response now) ≡ []
sends_none (Ok number) response now = refl
sends_none (Err fault) response now = refl

module _ (event : Id) (r : Answer) (response : Message) (now : ℕ) (held : HeldRequest) where
  answers_none : filter is_repeat (answers held r.status r.reliability response now) ≡ []
  answers_none =
      by_bool (is_sent_reliably held r.status r.reliability)
      (λ e. rw e (sends_none (send_answer held.ledger) response now))
      (λ e. by_bool (is_final r.status) (λ f. rw (e, f) refl) (λ f. rw (e, f) refl))

  makes_none : filter is_repeat (makes event held r.status) ≡ []
  makes_none = by_bool (makes_dialog held r.status) (λ e. rw e refl) (λ e. rw e refl)

  answer_none : filter is_repeat
      (makes event held r.status ++ answers held r.status r.reliability response now) ≡ []
  answer_none =
      filter-append is_repeat (makes event held r.status)
      (answers held r.status r.reliability response now)
      ∙ (λ i. makes_none i ++ answers_none i)

module _ (state : State) (stories : Stories) where
  answer_same : (event : Id) (r : Answer) (now : ℕ) (held : HeldRequest)
      → Same stories (answer_told state event r now stories held)
  answer_same event r now held =
      by_bool (is_some (refusal_for state.dialogs r held)) (λ e. rw e refl)
      (λ e. rw e (one_same r.id _
      (answer_none event r (answer_to state.local held r) now held) stories))

  respond_same : (event : Id) (r : Answer) (now : ℕ) (o : Option HeldRequest)
      → Same stories (option_map_or (answer_told state event r now stories) o stories)
  respond_same event r now None = refl
  respond_same event r now (Some held) = answer_same event r now held

  command_same : (tag : List ℕ) (event : Id) (c : UserCommand) (now : ℕ)
      → Same stories (item_told state tag event (item.User c) now stories)
  command_same tag event (command.Respond r) now =
      respond_same event r now (find (has_id r.id) state.requests)
  command_same tag event _ now = refl

  item_same : (tag : List ℕ) (event : Id) (one : Item) (now : ℕ)
      → Same stories (item_told state tag event one now stories)
  item_same tag event (item.Up up) now =
      kind_so (Same stories) state stories refl (λ id more calm final. one_same id more calm stories)
      (λ arrival. new_same arrival stories) tag up up.kind now
  item_same tag event (item.User c) now = command_same tag event c now

pub only_ticks_repeat : OnlyTicksRepeat
only_ticks_repeat calls call stories (id, one) now =
    item_same (served_state calls call) stories _ id one now
