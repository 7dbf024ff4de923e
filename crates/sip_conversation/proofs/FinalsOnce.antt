-- A call gives a request of the peer one final response: of two inputs at which it gives one under
-- the same id, neither comes before the other.
use Rattle.std.proofs.Common.{◌≡◌, ◌⊎◌, inl, inr, ⊎_elim, Bool, true, false, ◌&&◌, arith, List, [], ◌∷◌, ◌++◌, refl, sym, ap, ◌∙◌, subst, append-nil, append_assoc, ℕ}
use Rattle.std.specs.Prelude.{Contains, Option, None, Some, filter_map, fold, if◌then◌else◌, nat_lt, nat_le}
use Rattle.std.specs.List.{AllByRecursion, cons_option}
use Rattle.std.specs.List.Sorted.{IsStrictlySortedBy}
use Rattle.std.specs.Option.{option_map}
use Rattle.std.specs.declared.cmp.Ordering.TheVariants.{Less}
use Rattle.std.proofs.lemmas.Bool.{false≢true}
use Rattle.std.proofs.lemmas.Grind.{common_steps}
use Rattle.std.proofs.lemmas.List.Elements.{Contains-append_cases, Contains-append_left, Contains-append_right, filter_map-append}
use Rattle.sip_message.specs.declared.id.Id.{Id}
use Rattle.sip_message.specs.declared.key.Key.{Key}
use Rattle.sip_message.specs.declared.message.Message.{Message}
use Rattle.sip_message.specs.declared.start_line.StartLine.{StartLine}
use Rattle.sip_message.specs.declared.start_line.StartLine.TheVariants as start_line
use Rattle.keyed_machine.specs.Machine.{Timed, outputs_from}
use Rattle.sip_transactions.specs.Ids.{IdsRise, id_cmp}
use Rattle.sip_transactions.specs.declared.input.Command.TheVariants as order
use Rattle.sip_transactions.specs.declared.output.UpKind.{UpKind}
use Rattle.sip_transactions.specs.declared.output.UpKind.TheVariants as kind
use Rattle.sip_transactions.specs.ServerLaws.{is_final_answer}
use Rattle.sip_transactions.specs.Steps.Input.{answer_of}
use Rattle.sip_user.specs.declared.item.CallOut.{CallOut}
use Rattle.sip_user.specs.declared.item.CallOut.TheVariants.{Command}
use Rattle.sip_user.specs.declared.item.Item.{Item}
use Rattle.sip_user.specs.declared.item.Item.TheVariants.{Up, User}
use Rattle.sip_held_dialogs.specs.Requests.{is_invite, is_success}
use Rattle.sip_served.specs.RequestLife.{EndsSuccess, Finishes, GivesUpProvisionals, MakesDialog, RepeatsProvisionals, RepeatsSuccess, RequestHappening, SendsReliably, TakesPrack}
use Rattle.sip_served.specs.Story.{RequestStory, SuccessStory, request_of, success_by, success_of}
use Rattle.sip_served.specs.declared.held_request.HeldRequest.{HeldRequest}
use Rattle.sip_calls.specs.declared.call.Call.{Call}
use Rattle.sip_calls.specs.declared.calls.Calls.{Calls}
use Rattle.sip_calls.specs.Call.{CallItem, call_machine, call_step}
use Rattle.sip_calls.specs.HeldById.{RequestsRise}
use Rattle.sip_calls.specs.HeldRequests.{request_brought, requests_held}
use Rattle.sip_calls.specs.Histories.{call_from}
use Rattle.sip_calls.specs.RequestHistories.{stories_of}
use Rattle.sip_calls.proofs.HeldById.{held_by_id}
use Rattle.sip_calls.proofs.RequestHistories.{holds_its_stories}
use Rattle.sip_agent_laws.specs.Transactions.Outcomes.{is_final, is_provisional}
use Rattle.sip_agent_laws.proofs.agents.CallServes.{came_with, item_serves, tick_from}
use Rattle.sip_agent_laws.proofs.agents.Lists.{Among, among_left, among_right, each_of, mapped_among, same_some}
use Rattle.sip_agent_laws.proofs.agents.ServedFrom.{AreEarly, Goes, IsAnswered, IsEarly, Serves, no_command}
use Rattle.sip_agent_laws.proofs.agents.ServedHeld.{less_itself}
use Rattle.sip_agent_laws.proofs.agents.Sound.{first_rise, one_more}
use Rattle.sip_conversation.proofs.Among.{among_first, among_later, first_or_later, none_among}
use Rattle.sip_conversation.proofs.AnswersArrive.{final_line}

-- ---- lists

pub to_among : {X : Type 0} (xs : List X) (x : X) → Contains xs x → Among xs x
to_among [] x among = absurd (none_among x among)
to_among (y ∷ ys) x among =
    ⊎_elim (λ same. inl same) (λ later. inr (to_among ys x later)) (first_or_later y ys x among)

pub from_among : {X : Type 0} (xs : List X) (x : X) → Among xs x → Contains xs x
from_among [] x among = absurd among
from_among (y ∷ ys) x (inl same) = subst (Contains (y ∷ ys)) same (among_first y ys)
from_among (y ∷ ys) x (inr later) = among_later y ys x (from_among ys x later)

-- where one of two elements of a list stands: before the other, in its place, or after it
abbrev pub Stands : {X : Type 0} → List X → X → List X → List X → X → List X → Type 0
Stands first x rest front y back =
    ((w : List _) × (front ≡ first ++ x ∷ w))
    ⊎ (((first ≡ front) × (x ≡ y)) ⊎ ((w : List _) × (first ≡ front ++ y ∷ w)))

pub where_stands : {X : Type 0} (first : List X) (x : X) (rest front : List X) (y : X)
    (back : List X) → first ++ x ∷ rest ≡ front ++ y ∷ back → Stands first x rest front y back
where_stands [] x rest [] y back same = inr (inl (refl, cc))
where_stands [] x rest (v ∷ front) y back same =
    let head : x ≡ v = cc in inl (front, ap (λ h. h ∷ front) (sym head))
where_stands (z ∷ first) x rest [] y back same =
    let head : z ≡ y = cc in inr (inr (first, ap (λ h. h ∷ first) head))
where_stands (z ∷ first) x rest (v ∷ front) y back same =
    let head : z ≡ v = cc in
    let tail : first ++ x ∷ rest ≡ front ++ y ∷ back = cc in
    ⊎_elim
    (λ before. inl (before.0, (λ i. sym head i ∷ before.1 i)))
    (λ others. ⊎_elim
    (λ here. inr (inl ((λ i. head i ∷ here.0 i), here.1)))
    (λ after. inr (inr (after.0, (λ i. head i ∷ after.1 i)))) others)
    (where_stands first x rest front y back tail)

rise_apart : (xs ys : List Id) → IdsRise (xs ++ ys) → (id : Id) → Among xs id → Among ys id → ⊥
unfolding IsStrictlySortedBy
rise_apart [] ys rise id here there = here
rise_apart (x ∷ xs) ys rise id (inl same) there =
    less_itself id (each_of (λ y. id_cmp id y ≡ Less) (xs ++ ys) id
    (subst (λ z. AllByRecursion (λ y. id_cmp z y ≡ Less) (xs ++ ys)) same rise.0)
    (among_right xs ys id there))
rise_apart (x ∷ xs) ys rise id (inr later) there = rise_apart xs ys rise.1 id later there

among_cons : (o : Option Id) (rest : List Id) (id : Id) → o ≡ Some id ⊎ Among rest id
    → Among (cons_option o rest) id
among_cons None rest id (inl is) = absurd cc
among_cons None rest id (inr later) = later
among_cons (Some one) rest id (inl is) = inl (same_some one id is)
among_cons (Some one) rest id (inr later) = inr later

-- ---- what a call says at an input

-- an input at which a call says this
pub record SaidAt (calls : Calls) (state : Option Call) (inputs : List (Timed CallItem))
    (o : CallOut) : Type 0 where
  pub before : List (Timed CallItem)
  pub timed : Timed CallItem
  pub after : List (Timed CallItem)
  pub are : inputs ≡ before ++ timed ∷ after
  pub said : Contains (call_step calls (call_from calls state before) timed.input timed.moment).1 o

module _ (calls : Calls) (call_id : List ℕ) (o : CallOut) where
  pub said_at : (state : Option Call) (inputs : List (Timed CallItem))
      → Contains (outputs_from (call_machine calls) call_id state inputs) o
      → SaidAt calls state inputs o
  said_at state [] among = absurd (none_among o among)
  said_at state (timed ∷ inputs) among =
      let step = call_step calls state timed.input timed.moment in
      ⊎_elim
      (λ here. record { before = []; timed = timed; after = inputs; are = refl; said = here })
      (λ later. let rest = said_at step.0 inputs later in record {
        before = timed ∷ rest.before;
        timed = rest.timed;
        after = rest.after;
        are = ap (λ ts. timed ∷ ts) rest.are;
        said = rest.said;
      })
      (Contains-append_cases step.1 (outputs_from (call_machine calls) call_id step.0 inputs) o among)

  pub says_at : (state : Option Call) (before : List (Timed CallItem)) (timed : Timed CallItem)
      (after : List (Timed CallItem))
      → Contains (call_step calls (call_from calls state before) timed.input timed.moment).1 o
      → Contains (outputs_from (call_machine calls) call_id state (before ++ timed ∷ after)) o
  says_at state [] timed after said =
      let step = call_step calls state timed.input timed.moment in
      Contains-append_left step.1 (outputs_from (call_machine calls) call_id step.0 after) o said
  says_at state (first ∷ before) timed after said =
      let step = call_step calls state first.input first.moment in
      Contains-append_right step.1
      (outputs_from (call_machine calls) call_id step.0 (before ++ timed ∷ after)) o
      (says_at step.0 before timed after said)

-- ---- responses

not_both : (line : StartLine) → is_provisional line ≡ true → is_final line ≡ true → ⊥
not_both (start_line.Request uri) early late = false≢true early
not_both (start_line.Response status reason) early late = low status early late
  where
    low : (status : ℕ) → nat_lt status 200 ≡ true → nat_le 200 status ≡ true → ⊥
    low status early late = absurd (grind (arith, common_steps, early, late))

-- a final response
abbrev pub IsFinal : Message → Type 0
IsFinal message = is_final_answer (answer_of message.start) ≡ true

pub not_early : (message : Message) → IsFinal message → IsEarly message → ⊥
not_early message final early =
    not_both message.start early (final_line message.start final)

-- ---- a request other than INVITE keeps no 2xx

no_success : (arrival : HeldRequest) → is_invite arrival.request ≡ false
    → (life : List RequestHappening) → fold (success_by arrival) None life ≡ None
no_success arrival other [] = refl
no_success arrival other (MakesDialog reference ∷ life) = no_success arrival other life
no_success arrival other (SendsReliably number response now ∷ life) = no_success arrival other life
no_success arrival other (TakesPrack number ∷ life) = no_success arrival other life
no_success arrival other (RepeatsProvisionals numbers now ∷ life) = no_success arrival other life
no_success arrival other (GivesUpProvisionals now ∷ life) = no_success arrival other life
no_success arrival other (Finishes response status now ∷ life) =
    ap (λ (o : Option SuccessStory). fold (success_by arrival) o life)
    (by_invite (is_invite arrival.request) (is_success status) other)
    ∙ no_success arrival other life
  where
    finished : SuccessStory
    finished = record { response = response; sent = now; repeats = []; over = None }

    by_invite : (invite success : Bool) → invite ≡ false
        → (if invite && success then Some finished else None) ≡ None
    by_invite true success is = absurd (false≢true (sym is))
    by_invite false success is = refl
no_success arrival other (RepeatsSuccess now ∷ life) = no_success arrival other life
no_success arrival other (EndsSuccess end ∷ life) = no_success arrival other life

pub keeps_none : (calls : Calls) (inputs : List (Timed CallItem)) (held : HeldRequest)
    → Among (requests_held (call_from calls None inputs)) held
    → is_invite held.request ≡ false → held.success ≡ None
keeps_none calls inputs held among other =
    let from = mapped_among request_of (stories_of calls inputs) held
    (subst (λ requests. Among requests held) (holds_its_stories calls inputs) among) in
    let story : RequestStory = from.0 in
    let same : request_of story ≡ held = from.2 in
    ap (λ (h : HeldRequest). h.success) (sym same)
    ∙ ap (λ (o : Option SuccessStory). option_map success_of o)
    (no_success story.arrival (ap (λ (h : HeldRequest). is_invite h.request) same ∙ other) story.life)

-- ---- the requests that came to a call

abbrev brought : List (Timed CallItem) → List Id
brought inputs = filter_map (λ timed. request_brought timed.input) inputs

-- a request with this id and this key comes up
abbrev pub Brings : Id → Key → List (Timed CallItem) → Type 0
Brings id key [] = ⊥
Brings id key (timed ∷ inputs) =
    (came_with timed.input ≡ Some (id, key)) ⊎ Brings id key inputs

brings_first : (id : Id) (key : Key) (xs ys : List (Timed CallItem)) → Brings id key xs
    → Brings id key (xs ++ ys)
brings_first id key [] ys brings = absurd brings
brings_first id key (x ∷ xs) ys (inl here) = inl here
brings_first id key (x ∷ xs) ys (inr later) = inr (brings_first id key xs ys later)

brings_last : (id : Id) (key : Key) (xs : List (Timed CallItem)) (y : Timed CallItem)
    → came_with y.input ≡ Some (id, key) → Brings id key (xs ++ y ∷ [])
brings_last id key [] y is = inl is
brings_last id key (x ∷ xs) y is = inr (brings_last id key xs y is)

brought_so : (input : Option CallItem) (id : Id) (key : Key) → came_with input ≡ Some (id, key)
    → request_brought input ≡ Some id
brought_so None id key is = absurd cc
brought_so (Some (event, User c)) id key is = absurd cc
brought_so (Some (event, Up up)) id key is = by up.kind is
  where
    by : (its : UpKind) → came_with (Some (event, Up (record up { kind = its }))) ≡ Some (id, key)
        → request_brought (Some (event, Up (record up { kind = its }))) ≡ Some id
    by (kind.Request request reply_to) is =
        let same : (up.id, up.key) ≡ (id, key) = same_some (up.id, up.key) (id, key) is in
        ap (λ (named : Id × Key). Some named.0) same
    by (kind.Ack ack) is = absurd cc
    by (kind.Response response) is = absurd cc
    by kind.Timeout is = absurd cc
    by kind.Failed is = absurd cc

module _ (before : List (Timed CallItem)) (timed : Timed CallItem) (id : Id) where
  abbrev HasCome : Type 0
  HasCome = Among (brought (before ++ timed ∷ [])) id

  parts_so : Among (brought before ++ brought (timed ∷ [])) id → HasCome
  parts_so among =
      subst (λ ids. Among ids id)
      (sym (filter_map-append (λ (t : Timed CallItem). request_brought t.input) before (timed ∷ [])))
      among

  came_before : Among (brought before) id → HasCome
  came_before among = parts_so (among_left (brought before) (brought (timed ∷ [])) id among)

  comes_now : request_brought timed.input ≡ Some id → HasCome
  comes_now is =
      parts_so (among_right (brought before) (brought (timed ∷ [])) id
      (among_cons (request_brought timed.input) [] id (inl is)))

brings_id : (id : Id) (key : Key) (inputs : List (Timed CallItem)) → Brings id key inputs
    → Among (brought inputs) id
brings_id id key [] brings = absurd brings
brings_id id key (timed ∷ inputs) (inl here) =
    among_cons (request_brought timed.input) (brought inputs) id
    (inl (brought_so timed.input id key here))
brings_id id key (timed ∷ inputs) (inr later) =
    among_cons (request_brought timed.input) (brought inputs) id
    (inr (brings_id id key inputs later))

-- what came before doesn't come later
never_again : (before after : List (Timed CallItem)) → RequestsRise (before ++ after) → (id : Id)
    → Among (brought before) id → Among (brought after) id → ⊥
never_again before after rise id =
    rise_apart (brought before) (brought after)
    (subst IdsRise (filter_map-append (λ (t : Timed CallItem). request_brought t.input) before after)
    rise) id

module _ (calls : Calls) where
  abbrev call_so_far : List (Timed CallItem) → Option Call
  call_so_far before = call_from calls None before

  abbrev held_after : List (Timed CallItem) → List HeldRequest
  held_after before = requests_held (call_so_far before)

  -- each request that is held came, and its provisional responses are such
  pub record IsHeldSo (before : List (Timed CallItem)) (held : HeldRequest) : Type 0 where
    pub came : Brings held.id held.key before
    pub early : AreEarly held

  abbrev AreHeldSo : List (Timed CallItem) → Type 0
  AreHeldSo before = (held : HeldRequest) → Among (held_after before) held → IsHeldSo before held

  module _ (before : List (Timed CallItem)) (timed : Timed CallItem) (rise : RequestsRise before)
    where
      abbrev longer : List (Timed CallItem)
      longer = before ++ timed ∷ []

      abbrev stepped : Option CallItem → List HeldRequest
      stepped input = requests_held (call_step calls (call_so_far before) input timed.moment).0

      serves : (event : Id) (item : Item)
          → Serves (held_after before) (came_with (Some (event, item))) timed.moment
          (stepped (Some (event, item)))
          (call_step calls (call_so_far before) (Some (event, item)) timed.moment).1
      serves event item = item_serves calls (call_so_far before) event item timed.moment
          (held_by_id calls before rise)

      -- what is held then
      held_then : (held : HeldRequest) → Among (held_after longer) held
          → Among (stepped timed.input) held
      held_then held among =
          subst (λ c. Among (requests_held c) held) (one_more calls None before timed) among

      module _ (all : AreHeldSo before) where
        goes_so : (outs : List CallOut) (old held : HeldRequest) → Among (held_after before) old
            → Goes timed.moment outs old held → IsHeldSo longer held
        goes_so outs old held there goes =
            let was = all old there in record {
              came = brings_first held.id held.key before (timed ∷ [])
                  (subst (λ key. Brings held.id key before) goes.key_is
                  (subst (λ id. Brings id old.key before) goes.id_is was.came));
              early = goes.early was.early;
            }

        one_so : AreHeldSo longer
        one_so held among = by timed.input refl (held_then held among)
          where
            by : (input : Option CallItem) → timed.input ≡ input → Among (stepped input) held
                → IsHeldSo longer held
            by None is there =
                let from = tick_from calls (call_so_far before) timed.moment [] held there in
                goes_so [] from.0 held from.1 from.2
            by (Some (event, item)) is there =
                ⊎_elim
                (λ new. record {
                  came = brings_last held.id held.key before timed
                      (ap came_with is ∙ new.came_so);
                  early = subst (λ responses. AllByRecursion (λ one. IsEarly one.response) responses)
                      (sym new.provisionals) tt;
                })
                (λ old. goes_so
                (call_step calls (call_so_far before) (Some (event, item)) timed.moment).1
                old.0 held old.1 old.2)
                ((serves event item).each held there)

  all_so : (rest before : List (Timed CallItem)) → RequestsRise (before ++ rest)
      → AreHeldSo before → AreHeldSo (before ++ rest)
  all_so [] before rise all = subst AreHeldSo (sym (append-nil before)) all
  all_so (timed ∷ rest) before rise all =
      subst AreHeldSo (append_assoc before (timed ∷ []) rest)
      (all_so rest (before ++ timed ∷ [])
      (subst RequestsRise (sym (append_assoc before (timed ∷ []) rest)) rise)
      (one_so before timed (first_rise before (timed ∷ rest) rise) all))

  pub held_so : (before : List (Timed CallItem)) → RequestsRise before → AreHeldSo before
  held_so before rise = all_so before [] rise (λ held among. absurd among)

  -- ---- a request of this id that has no final response

  module _ (id : Id) where
    abbrev IsClosed : List (Timed CallItem) → Type 0
    IsClosed before = (held : HeldRequest) → Among (held_after before) held → held.id ≡ id
        → held.removal ≡ None → ⊥

    -- none is there later, if none was there and none comes
    one_closed : (before : List (Timed CallItem)) (timed : Timed CallItem) → RequestsRise before
        → IsClosed before → (request_brought timed.input ≡ Some id → ⊥)
        → IsClosed (before ++ timed ∷ [])
    one_closed before timed rise closed other held among named lacks =
        by timed.input refl (held_then before timed rise held among)
      where
        by : (input : Option CallItem) → timed.input ≡ input
            → Among (stepped before timed rise input) held → ⊥
        by None is there =
            let from = tick_from calls (call_so_far before) timed.moment [] held there in
            closed from.0 from.1 (from.2.id_is ∙ named) (from.2.unanswered lacks)
        by (Some (event, item)) is there =
            ⊎_elim
            (λ new. other (ap request_brought is
            ∙ brought_so (Some (event, item)) id held.key
            (new.came_so ∙ ap (λ i. Some (i, held.key)) named)))
            (λ old. closed old.0 old.1 (old.2.id_is ∙ named) (old.2.unanswered lacks))
            ((serves before timed rise event item).each held there)

    closed_on : (rest before : List (Timed CallItem)) → RequestsRise (before ++ rest)
        → IsClosed before → (Among (brought rest) id → ⊥) → IsClosed (before ++ rest)
    closed_on [] before rise closed none = subst IsClosed (sym (append-nil before)) closed
    closed_on (timed ∷ rest) before rise closed none =
        subst IsClosed (append_assoc before (timed ∷ []) rest)
        (closed_on rest (before ++ timed ∷ [])
        (subst RequestsRise (sym (append_assoc before (timed ∷ []) rest)) rise)
        (one_closed before timed (first_rise before (timed ∷ rest) rise) closed
        (λ is. none (among_cons (request_brought timed.input) (brought rest) id (inl is))))
        (λ later. none (among_cons (request_brought timed.input) (brought rest) id (inr later))))

    -- ---- a final response to it

    -- at this input, an item, the call gives it a final response
    pub record GivesFinal (before : List (Timed CallItem)) (timed : Timed CallItem) : Type 0 where
      pub event : Id
      pub item : Item
      pub input_is : timed.input ≡ Some (event, item)
      pub key : Key
      pub message : Message
      pub final : IsFinal message
      pub said : Among (call_step calls (call_so_far before) (Some (event, item)) timed.moment).1
          (Command id (order.Answer key message))

    module _ (before : List (Timed CallItem)) (timed : Timed CallItem) (rise : RequestsRise before)
        (gives : GivesFinal before timed) where
      abbrev outs : List CallOut
      outs =
          (call_step calls (call_so_far before) (Some (gives.event, gives.item)) timed.moment).1

      -- the request comes then, or was there
      pub came_or_held : (came_with (Some (gives.event, gives.item)) ≡ Some (id, gives.key))
          ⊎ IsAnswered (held_after before)
          (stepped before timed rise (Some (gives.event, gives.item))) id gives.key
      came_or_held =
          ⊎_elim (λ early. absurd (not_early gives.message gives.final early)) (λ other. other)
          ((serves before timed rise gives.event gives.item).answers id gives.key gives.message
          gives.said)

      -- so it has come by then
      has_come : Among (brought (before ++ timed ∷ [])) id
      has_come =
          ⊎_elim
          (λ came. comes_now before timed id (ap request_brought gives.input_is
          ∙ brought_so (Some (gives.event, gives.item)) id gives.key came))
          (λ answered. came_before before timed id
          (subst (λ i. Among (brought before) i) answered.id_is
          (brings_id answered.held.id answered.held.key before
          (held_so before rise answered.held answered.among).came)))
          came_or_held

      closes : RequestsRise (before ++ timed ∷ []) → IsClosed (before ++ timed ∷ [])
      closes rise_then held among named lacks =
          let there : Among (stepped before timed rise (Some (gives.event, gives.item))) held =
          subst (λ input. Among (stepped before timed rise input) held) gives.input_is
          (held_then before timed rise held among) in
          ⊎_elim
          (λ came. ⊎_elim
          (λ new. no_command outs id (order.Answer gives.key gives.message) new.silent gives.said)
          (λ old. never_again before (timed ∷ []) rise_then id
          (subst (λ i. Among (brought before) i) (old.2.id_is ∙ named)
          (brings_id (old.0).id (old.0).key before (held_so before rise old.0 old.1).came))
          (among_cons (request_brought timed.input) [] id (inl (ap request_brought gives.input_is
          ∙ brought_so (Some (gives.event, gives.item)) id gives.key came))))
          ((serves before timed rise gives.event gives.item).each held there))
          (λ answered. answered.none held there named lacks)
          came_or_held

    -- ---- two of them

    apart : (first : List (Timed CallItem)) (x : Timed CallItem) (between : List (Timed CallItem))
        (y : Timed CallItem) (after : List (Timed CallItem))
        → RequestsRise ((first ++ x ∷ between) ++ y ∷ after) → GivesFinal first x
        → GivesFinal (first ++ x ∷ between) y → ⊥
    apart first x between y after rise one other =
        let front = first ++ x ∷ between in
        let so_far = first ++ x ∷ [] in
        let front_is : so_far ++ between ≡ front = append_assoc first (x ∷ []) between in
        let front_rise : RequestsRise front = first_rise front (y ∷ after) rise in
        let rise_so : RequestsRise (so_far ++ between) = subst RequestsRise (sym front_is) front_rise
        in
        let x_rise : RequestsRise first = first_rise first (x ∷ between) front_rise in
        let come : Among (brought so_far) id = has_come first x x_rise one in
        let come_front : Among (brought front) id =
        subst (λ inputs. Among (brought inputs) id) front_is
        (subst (λ ids. Among ids id)
        (sym (filter_map-append (λ (t : Timed CallItem). request_brought t.input) so_far between))
        (among_left (brought so_far) (brought between) id come)) in
        let closed : IsClosed front =
        subst IsClosed front_is
        (closed_on between so_far rise_so
        (closes first x x_rise one (first_rise so_far between rise_so))
        (never_again so_far between rise_so id come)) in
        ⊎_elim
        (λ came. never_again front (y ∷ after) rise id come_front
        (among_cons (request_brought y.input) (brought after) id (inl (ap request_brought other.input_is
        ∙ brought_so (Some (other.event, other.item)) id other.key came))))
        (λ answered. closed answered.held answered.among answered.id_is answered.unanswered)
        (came_or_held front y front_rise other)

    -- they are at one input
    pub one_place : (inputs first : List (Timed CallItem)) (x : Timed CallItem)
        (rest front : List (Timed CallItem)) (y : Timed CallItem) (back : List (Timed CallItem))
        → RequestsRise inputs → inputs ≡ first ++ x ∷ rest → inputs ≡ front ++ y ∷ back
        → GivesFinal first x → GivesFinal front y → (first ≡ front) × (x ≡ y)
    one_place inputs first x rest front y back rise one_are other_are one other =
        ⊎_elim
        (λ before. absurd (apart first x before.0 y back
        (subst (λ f. RequestsRise (f ++ y ∷ back)) before.1 (subst RequestsRise other_are rise)) one
        (subst (λ f. GivesFinal f y) before.1 other)))
        (λ others. ⊎_elim (λ here. here)
        (λ after. absurd (apart front y after.0 x rest
        (subst (λ f. RequestsRise (f ++ x ∷ rest)) after.1 (subst RequestsRise one_are rise)) other
        (subst (λ f. GivesFinal f x) after.1 one))) others)
        (where_stands first x rest front y back (sym one_are ∙ other_are))
