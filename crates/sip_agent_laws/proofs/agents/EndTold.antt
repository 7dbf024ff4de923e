-- The outcome of a request comes up to the call that holds it, and the user is told of it.
use Rattle.std.proofs.Common.{◌≡◌, ◌⊎◌, inl, inr, ⊎_elim, ℕ, Bool, true, false, cond, ◌&&◌, List, [], ◌∷◌, ◌++◌, ◌≤◌, refl, sym, ap, ◌∙◌, subst, arith}
use Rattle.std.specs.Prelude.{not, Option, None, Some, count_by, nat_le}
use Rattle.std.specs.BTreeMap.{is_at}
use Rattle.std.specs.List.{AllByRecursion}
use Rattle.std.specs.Map.{lookup}
use Rattle.std.specs.Option.{option_map_or}
use Rattle.std.proofs.lemmas.Bool.{false≢true}
use Rattle.std.proofs.lemmas.Cmp.{nat_list_cmp_total}
use Rattle.std.proofs.lemmas.List.Sums.{sum_by-cons}
use Rattle.sip_message.specs.Party.{tag_of}
use Rattle.sip_message.specs.declared.id.Id.{Id}
use Rattle.sip_message.specs.declared.key.Key.{Key}
use Rattle.sip_message.specs.declared.message.Message.{Message}
use Rattle.sip_message.specs.declared.start_line.StartLine.{StartLine}
use Rattle.sip_message.specs.declared.start_line.StartLine.TheVariants as start_line
use Rattle.keyed_machine.specs.declared.item.Item.{Item}
use Rattle.keyed_machine.specs.Machine.{Timed}
use Rattle.keyed_machine.proofs.Ordered.{by_bool, is_at_itself}
use Rattle.sip_transactions.specs.declared.output.Up.{Up as AnUp}
use Rattle.sip_transactions.specs.declared.output.UpKind.{UpKind}
use Rattle.sip_transactions.specs.declared.output.UpKind.TheVariants as kind
use Rattle.sip_transactions.specs.Steps.Input.{role_of}
use Rattle.sip_user.specs.declared.item.CallOut.{CallOut}
use Rattle.sip_user.specs.declared.item.CallOut.TheVariants as out
use Rattle.sip_user.specs.declared.item.Item.TheVariants.{Up, User}
use Rattle.sip_user.specs.declared.notice.Notice.{Notice}
use Rattle.sip_user.specs.declared.notice.Notice.TheVariants.{Response, Timeout, Failed}
use Rattle.sip_held_dialogs.specs.Ids.{is_id}
use Rattle.sip_held_dialogs.specs.Requests.{is_final, is_success}
use Rattle.sip_held_dialogs.proofs.Starts.{starts}
use Rattle.sip_clients.specs.declared.client.Client.{Client}
use Rattle.sip_clients.specs.declared.event.Event.{Event}
use Rattle.sip_clients.specs.Client.{Side, client_at}
use Rattle.sip_clients.specs.Rules.Requests.{is_invite_kind}
use Rattle.sip_clients.specs.Rules.Responses.{response_received, response_to, status_of}
use Rattle.sip_clients.proofs.FirstInvite.{id_exact}
use Rattle.sip_calls.specs.declared.call.Call.{Call}
use Rattle.sip_calls.specs.declared.calls.Calls.{Calls}
use Rattle.sip_calls.specs.Call.{CallItem, call_step, event_of, received}
use Rattle.sip_calls.specs.CallShard.{call_cmp}
use Rattle.sip_calls.specs.OwnCall.{IsCallOf, IsInputOf}
use Rattle.sip_calls.specs.Provisionals.{side_held}
use Rattle.sip_calls.specs.Sides.{side_of}
use Rattle.sip_calls.proofs.CallStarts.{how_many, ids_of}
use Rattle.sip_agent_laws.specs.Agents.Outcomes.{Tells}
use Rattle.sip_agent_laws.specs.Transactions.Outcomes.{is_final as is_final_line, is_outcome}
use Rattle.sip_agent_laws.proofs.agents.CallHeld.{InputIsHarmless, IsHarmless, step_goes}
use Rattle.sip_agent_laws.proofs.agents.ClientsHeld.{Abandons, Holds, IsCommanded, id_itself, is_invite_key}
use Rattle.sip_agent_laws.proofs.agents.Lists.{Among, among_left, among_right}
use Rattle.sip_agent_laws.proofs.agents.OpenLives.{is_server}
use Rattle.sip_agent_laws.proofs.calls.OneTold.{brings_outcome}
use Rattle.sip_agent_laws.proofs.agents.SecondPhase.{CallItems, CallStates, after_item, again_left, fewer_counted, here, moved, never_twice, none_under, own_after, says}

-- ---- what is told

-- the user is told of this outcome, which came up
abbrev IsToldAs : AnUp → UpKind → List CallOut → Type 0
IsToldAs up its outs = (told : Notice) × Among outs (out.Notice told)
    × Tells up.call_id up.id its told

abbrev pub IsTold : AnUp → List CallOut → Type 0
IsTold up outs = IsToldAs up up.kind outs

told_left : (up : AnUp) (outs more : List CallOut) → IsTold up outs → IsTold up (outs ++ more)
told_left up outs more told = (told.0, among_left outs more (out.Notice told.0) told.1, told.2)

pub told_right : (up : AnUp) (outs more : List CallOut) → IsTold up more → IsTold up (outs ++ more)
told_right up outs more told = (told.0, among_right outs more (out.Notice told.0) told.1, told.2)

-- ---- an input that brings the outcome

pub record Brings (id : Id) (input : Option CallItem) : Type 0 where
  pub event : Id
  pub up : AnUp
  pub is : input ≡ Some (event, Up up)
  pub id_is : up.id ≡ id
  pub outcome : is_outcome up.kind ≡ true

early_line : (line : StartLine) → is_final_line line ≡ false → (status : ℕ)
    → status_of line ≡ Some status → is_final status ≡ false
early_line (start_line.Request uri) early status is = absurd cc
early_line (start_line.Response one reason) early status is =
    let same : one ≡ status = cc in sym (ap (λ n. nat_le 200 n) same) ∙ early

-- or it is harmless
either : (id : Id) (input : Option CallItem) → InputIsHarmless id input ⊎ Brings id input
either id None = inl tt
either id (Some (event, User command)) = inl tt
either id (Some (event, Up up)) = by_kind up.kind refl
  where
    brings : (its : UpKind) → up.kind ≡ its → is_outcome its ≡ true → is_id up.id id ≡ true
        → Brings id (Some (event, Up up))
    brings its is outcome same = record {
      event = event;
      up = up;
      is = refl;
      id_is = id_exact up.id id same;
      outcome = ap is_outcome is ∙ outcome;
    }

    harmless : (its : UpKind) → up.kind ≡ its → IsHarmless id up.id its
        → IsHarmless id up.id up.kind
    harmless its is so = subst (IsHarmless id up.id) (sym is) so

    by_kind : (its : UpKind) → up.kind ≡ its
        → IsHarmless id up.id up.kind ⊎ Brings id (Some (event, Up up))
    by_kind (kind.Request request reply_to) is =
        inl (harmless (kind.Request request reply_to) is tt)
    by_kind (kind.Ack ack) is = inl (harmless (kind.Ack ack) is tt)
    by_kind (kind.Response response) is =
        by_bool (is_id up.id id)
        (λ same. by_bool (is_final_line response.start)
        (λ final. inr (brings (kind.Response response) is final same))
        (λ early. inl (harmless (kind.Response response) is
        (λ here status has. early_line response.start early status has))))
        (λ other. inl (harmless (kind.Response response) is
        (λ here. absurd (false≢true (sym other ∙ here)))))
    by_kind its is =
        by_bool (is_id up.id id) (λ same. inr (brings its is refl same))
        (λ other. inl (harmless its is other))

-- ---- the input that brings it tells of it

last_told : (event : Event) (id : Id) (call_id : List ℕ) (response : Message) (side : Side)
    (status : ℕ) (client : Client) → is_final status ≡ true
    → (is_final status && not (is_invite_kind client.kind && is_success status)) ≡ true
    → Among (response_to event id call_id response side status client).1
    (out.Notice (Response call_id id status (tag_of response.from) (tag_of response.to)
    response.body))
last_told event id call_id response side status client final last = rw (last, final) (inl refl)

final_line : (line : StartLine) → is_final_line line ≡ true
    → (status : ℕ) × (status_of line ≡ Some status) × (is_final status ≡ true)
final_line (start_line.Request uri) final = absurd (false≢true final)
final_line (start_line.Response status reason) final = (status, refl, final)

response_told : (call : Call) (event : Event) (up : AnUp) (response : Message) (client : Client)
    → client_at up.id call.clients ≡ Some client → is_invite_kind client.kind ≡ false
    → is_final_line response.start ≡ true
    → IsToldAs up (kind.Response response) (received call event up (kind.Response response)).1
unfolding response_received
response_told call event up response client found other final =
    let side = side_of call in
    let line = final_line response.start final in
    let status = line.0 in
    let told = Response up.call_id up.id status (tag_of response.from) (tag_of response.to)
    response.body in
    let notice = out.Notice told in
    let last : (is_final status && not (is_invite_kind client.kind && is_success status)) ≡ true =
    λ i. line.2 i && not (other i && is_success status) in (
      told,
      subst (λ (o : Option ℕ). Among (option_map_or (λ status. option_map_or
          (response_to event up.id up.call_id response side status)
          (lookup (is_id up.id) side.clients) (side, [])) o (side, [])).1 notice) (sym line.1)
          (subst (λ (o : Option Client). Among (option_map_or
          (response_to event up.id up.call_id response side status) o (side, [])).1 notice)
          (sym found)
          (last_told event up.id up.call_id response side status client line.2 last)),
      (status, line.1, refl),
    )

module _ (k : Key) (other : is_invite_key k ≡ false) where
  received_told : (call : Call) (event : Event) (up : AnUp) (its : UpKind)
      → is_outcome its ≡ true → Holds k up.id call.clients
      → IsToldAs up its (received call event up its).1
  received_told call event up (kind.Request request reply_to) outcome ours =
      absurd (false≢true outcome)
  received_told call event up (kind.Ack ack) outcome ours = absurd (false≢true outcome)
  received_told call event up (kind.Response response) outcome ours =
      response_told call event up response ours.0 ours.1 ((ours.2).invites ∙ other) outcome
  received_told call event up kind.Timeout outcome ours =
      (Timeout up.call_id up.id, inl refl, refl)
  received_told call event up kind.Failed outcome ours =
      (Failed up.call_id up.id, inl refl, refl)

  step_told : (calls : Calls) (call : Option Call) (input : Option CallItem) (now : ℕ) (id : Id)
      → (brings : Brings id input) → Holds k id (side_held call).clients
      → IsTold brings.up (call_step calls call input now).1
  step_told calls None input now id brings ours = absurd cc
  step_told calls (Some call) input now id brings ours =
      subst (λ (i : Option CallItem). IsTold brings.up (call_step calls (Some call) i now).1)
      (sym brings.is)
      (received_told call (event_of calls brings.event now) brings.up brings.up.kind brings.outcome
      (subst (λ i. Holds k i call.clients) (sym brings.id_is) ours))

-- ---- what brings it, counted

brings_one : (id : Id) (input : Option CallItem) → Brings id input
    → brings_outcome id input ≡ true
brings_one id input brings =
    let same : is_id id brings.up.id ≡ true = ap (is_id id) brings.id_is ∙ id_itself id in
    ap (brings_outcome id) brings.is ∙ (λ i. same i && brings.outcome i)

pub one_counted : {X : Type 0} (test : X → Bool) (xs : List X) (x : X) → Among xs x
    → test x ≡ true → 1 ≤ count_by test xs
one_counted test [] x among is = absurd among
one_counted test (y ∷ ys) x (inl same) is =
    omega (
      arith,
      sum_by-cons (λ z. cond {A = ℕ} (test z) 1 0) y ys,
      ap (λ b. cond {A = ℕ} b 1 0) (ap test same ∙ is),
    )
one_counted test (y ∷ ys) x (inr later) is =
    omega (
      arith,
      sum_by-cons (λ z. cond {A = ℕ} (test z) 1 0) y ys,
      one_counted test ys x later is,
    )

none_twice : {X : Type 0} (test : X → Bool) (first : X) (xs : List X) (x : X) → Among xs x
    → test x ≡ true → count_by test (first ∷ xs) ≤ 1 → test first ≡ true → ⊥
none_twice test first xs x among is once here =
    let all = sum_by-cons (λ z. cond {A = ℕ} (test z) 1 0) first xs in
    let one = ap (λ b. cond {A = ℕ} b 1 0) here in
    let later = one_counted test xs x among is in
    omega (arith, all, one, later, once)

fewer_later : {X : Type 0} (test : X → Bool) (first : X) (xs : List X)
    → count_by test (first ∷ xs) ≤ 1 → count_by test xs ≤ 1
fewer_later test first xs once =
    let all = sum_by-cons (λ z. cond {A = ℕ} (test z) 1 0) first xs in
    omega (arith, all, once)

-- ---- the second phase

abbrev Any : Id → Type 0
Any id = Unit {0}

abbrev ItemBrings : Id → Item (List ℕ) (Timed CallItem) → Bool
ItemBrings id item = brings_outcome id item.input.input

module _ (calls : Calls) (k : Key) (now : ℕ) (commanded : IsCommanded k)
    (client : is_server (role_of k) ≡ false) (other : is_invite_key k ≡ false) (id : Id)
    (call_id : List ℕ) where
  abbrev Ours : CallStates → Type 0
  Ours states = Holds k id (side_held (states call_id)).clients

  at_call : (states : CallStates) (item : Item (List ℕ) (Timed CallItem)) → item.key ≡ call_id
      → Ours states → Holds k id (side_held (states item.key)).clients
  at_call states item same ours =
      subst (λ c. Holds k id (side_held (states c)).clients) (sym same) ours

  one_item : (states : CallStates) (item : Item (List ℕ) (Timed CallItem))
      (told : List (Id × Key)) → IsInputOf item.key item.input.input
      → IsCallOf item.key (states item.key)
      → how_many id (ids_of (told ++ starts (here calls k now states item))) ≤ 1
      → (Abandons k (here calls k now states item) → ⊥) → Among told (id, k) → Ours states
      → (Brings id item.input.input → ⊥) → Ours (after_item calls k now states item)
  one_item states item told its own once never started ours no_other =
      by_bool (is_at (call_cmp item.key) call_id)
      (λ hit.
      ⊎_elim
      (λ harmless. moved calls k now (λ call. Holds k id (side_held call).clients) states item
      call_id
      (λ same. ⊎_elim (λ still. still) (λ gone. absurd (never gone))
      ((step_goes k id commanded item.key calls (states item.key) item.input.input
      item.input.moment own its harmless).keeps.is (at_call states item same ours)
      (none_under id (here calls k now states item)
      (λ key there. never_twice id k key told (starts (here calls k now states item)) once started
      there))))
      ours)
      (λ brings. absurd (no_other brings))
      (either id item.input.input))
      (λ miss. moved calls k now (λ call. Holds k id (side_held call).clients) states item
      call_id
      (λ same. absurd (false≢true (sym miss
      ∙ (ap (λ c. is_at (call_cmp c) call_id) same ∙ at_itself call_id))))
      ours)
    where
      at_itself : (q : List ℕ) → is_at (call_cmp q) q ≡ true
      at_itself q = is_at_itself nat_list_cmp_total q

  -- what its call is given brings it, once, and it is held until then
  pub items_told : (items : CallItems) (states : CallStates) (told : List (Id × Key))
      → ((q : List ℕ) → IsCallOf q (states q))
      → AllByRecursion (λ item. IsInputOf item.key item.input.input) items
      → ((x : Id) → how_many x (ids_of (told ++ starts (says calls k now states items))) ≤ 1)
      → (Abandons k (says calls k now states items) → ⊥) → Among told (id, k) → Ours states
      → count_by (ItemBrings id) items ≤ 1
      → (item : Item (List ℕ) (Timed CallItem)) → Among items item → item.key ≡ call_id
      → (brings : Brings id item.input.input) → IsTold brings.up (says calls k now states items)
  items_told [] states told own its once never started ours only item among to brings =
      absurd among
  items_told (first ∷ items) states told own its once never started ours only item (inl same) to
      brings =
      let outs = here calls k now states first in
      let rest = says calls k now (after_item calls k now states first) items in
      subst (λ (i : Item (List ℕ) (Timed CallItem)). (b : Brings id i.input.input)
      → i.key ≡ call_id → IsTold b.up (outs ++ rest)) same
      (λ b key. told_left b.up outs rest
      (step_told k other calls (states first.key) first.input.input first.input.moment id b
      (at_call states first key ours)))
      brings to
  items_told (first ∷ items) states told own its once never started ours only item (inr later) to
      brings =
      let outs = here calls k now states first in
      let after = after_item calls k now states first in
      let rest = says calls k now after items in
      let now_told = told ++ starts outs in
      let all = again_left calls k now commanded client Any told outs rest in
      let once_all : (x : Id) → how_many x (ids_of (now_told ++ starts rest)) ≤ 1 =
      λ x. subst (λ more. how_many x (ids_of more) ≤ 1) all (once x) in
      let still = one_item states first told its.0 (own first.key)
      (fewer_counted id now_told (starts rest) (once_all id))
      (λ gone. never (gone.0, among_left outs rest gone.0 gone.1, gone.2)) started ours
      (λ other. none_twice (ItemBrings id) first items item later
      (brings_one id item.input.input brings) only (brings_one id first.input.input other)) in
      told_right brings.up outs rest
      (items_told items after now_told
      (own_after calls k now commanded client Any states first its.0 own) its.1 once_all
      (λ gone. never (gone.0, among_right outs rest gone.0 gone.1, gone.2))
      (among_left told (starts outs) (id, k) started) still
      (fewer_later (ItemBrings id) first items only) item later to brings)
