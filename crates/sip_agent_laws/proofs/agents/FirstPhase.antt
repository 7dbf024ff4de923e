-- The first phase of a round: what it leaves of a transaction without a final response, and what
-- comes up in it.
use Rattle.std.proofs.Common.{◌≡◌, ◌⊎◌, inl, inr, ⊎_elim, ℕ, Bool, true, false, cond, List, [], ◌∷◌, refl, sym, ap, ◌∙◌, subst}
use Rattle.std.specs.Prelude.{Option, None, Some}
use Rattle.std.specs.BTreeMap.{is_at}
use Rattle.std.specs.List.{AllByRecursion, flat_map}
use Rattle.sip_message.specs.declared.addr.Addr.{Addr}
use Rattle.sip_message.specs.declared.key.Key.{Key}
use Rattle.sip_message.specs.declared.message.Message.{Message}
use Rattle.sip_message.specs.Key.{key_cmp, keys_total}
use Rattle.sip_message.specs.Keys.{exact_keys}
use Rattle.keyed_machine.specs.declared.item.Item.{Item}
use Rattle.keyed_machine.specs.Machine.{Timed, adds, next}
use Rattle.keyed_machine.specs.Phase.{states_then, stepped, told_items}
use Rattle.keyed_machine.proofs.Ordered.{exact_at, is_at_itself, by_bool}
use Rattle.sip_transactions.specs.declared.input.Input.{Input}
use Rattle.sip_transactions.specs.declared.input.Input.TheVariants.{Receive, Start, Answer, Failed, Abandon}
use Rattle.sip_transactions.specs.declared.life.Life.{Life}
use Rattle.sip_transactions.specs.declared.output.UpKind.TheVariants as kind
use Rattle.sip_transactions.specs.declared.output.Out.{Out}
use Rattle.sip_transactions.specs.declared.output.Out.TheVariants as out
use Rattle.sip_transactions.specs.Machine.{transaction_machine}
use Rattle.sip_transactions.specs.Rules.Step.{step_at}
use Rattle.sip_transactions.specs.Steps.Input.{role_of}
use Rattle.sip_agent_laws.specs.Agents.Open.{is_open}
use Rattle.sip_agent_laws.proofs.agents.Lists.{Among, among_left, among_right}
use Rattle.sip_agent_laws.proofs.agents.OpenLives.{IsBegun, IsKept, IsMild, is_server, lives_on, request_up}

abbrev pub States : Type 0
States = Key → Option Life

abbrev pub Items : Type 0
Items = List (Item Key (Timed Input))

abbrev pub Told : Type 0
Told = List ((ℕ × Key) × List Out)

-- all that is said in these groups
abbrev pub all_of : Told → List Out
all_of told = flat_map (λ said. said.1) told

-- no command of a call
abbrev pub IsArrival : Option Input → Type 0
IsArrival None = Unit {0}
IsArrival (Some (Receive id message reply_to)) = Unit {0}
IsArrival (Some (Start id call_id message to)) = ⊥
IsArrival (Some (Answer id message)) = ⊥
IsArrival (Some (Failed id)) = Unit {0}
IsArrival (Some Abandon) = ⊥

abbrev pub AreArrivals : Items → Type 0
AreArrivals items = AllByRecursion (λ item. IsArrival item.input.input) items

abbrev pub tells : States → Items → Told
tells states items = told_items key_cmp transaction_machine states items

abbrev pub after_item : States → Item Key (Timed Input) → States
after_item states item = stepped key_cmp transaction_machine states item

pub no_start : (k : Key) (held : Option Life) (input : Option Input) (outs : List Out) (life : Life)
    → IsArrival input → is_server (role_of k) ≡ false → IsBegun k held input outs life → ⊥
no_start k held input outs life arrives client begun =
    let began = begun.started client in subst IsArrival began.2 arrives

module _ (k : Key) where
  -- ---- one transaction

  abbrev pub IsOpen : Life → Type 0
  IsOpen life = is_open (role_of k) life.state ≡ true

  at_itself : is_at (key_cmp k) k ≡ true
  at_itself = is_at_itself keys_total k

  is_key : (q : Key) → is_at (key_cmp q) k ≡ true → q ≡ k
  is_key q hit = exact_at keys_total exact_keys q k hit

  -- the life was there, and open, and under this id and this Call-ID
  pub record WasOpen (held : Option Life) (life : Life) : Type 0 where
    pub before : Life
    pub was : held ≡ Some before
    pub still : IsOpen before
    pub id : before.context.id ≡ life.context.id
    pub call : before.context.call_id ≡ life.context.call_id

  open_itself : (held : Option Life) (life : Life) → held ≡ Some life → IsOpen life
      → WasOpen held life
  open_itself held life is still =
      record { before = life; was = is; still = still; id = refl; call = refl }

  pub open_before : (held : Option Life) (middle life : Life) → WasOpen held middle
      → middle.context.id ≡ life.context.id → middle.context.call_id ≡ life.context.call_id
      → WasOpen held life
  open_before held middle life was id call = record {
    before = was.before;
    was = was.was;
    still = was.still;
    id = was.id ∙ id;
    call = was.call ∙ call;
  }

  of_kept : (held : Option Life) (outs : List Out) (life : Life) → IsKept k held outs life
      → IsOpen life → WasOpen held life
  of_kept held outs life kept still = record {
    before = kept.before;
    was = kept.was;
    still = (kept.open_before still).0;
    id = kept.id;
    call = kept.call;
  }

  -- ---- a client

  abbrev pub AreMild : Told → Type 0
  AreMild told = AllByRecursion (λ (said : (ℕ × Key) × List Out). (said.0).1 ≡ k
      → AllByRecursion IsMild said.1) told

  module _ (client : is_server (role_of k) ≡ false) where
    -- one input
    pub client_was : (held : Option Life) (now : ℕ) (input : Option Input) (life : Life)
        → IsArrival input → (step_at k held now input).0 ≡ Some life → IsOpen life
        → WasOpen held life × AllByRecursion IsMild (step_at k held now input).1
    client_was held now input life arrives is still =
        ⊎_elim
        (λ kept. (
          of_kept held (step_at k held now input).1 life kept still,
          (kept.open_before still).1 client,
        ))
        (λ begun. absurd
        (no_start k held input (step_at k held now input).1 life arrives client begun))
        (lives_on k held now input life is)

    one_item : (states : States) (item : Item Key (Timed Input)) (life : Life) (hit : Bool)
        → is_at (key_cmp item.key) k ≡ hit → IsArrival item.input.input
        → cond hit (next transaction_machine item.key (states item.key) item.input) (states k)
        ≡ Some life
        → IsOpen life → WasOpen (states k) life × (item.key ≡ k
        → AllByRecursion IsMild (adds transaction_machine item.key (states item.key) item.input))
    one_item states item life true hit arrives is still =
        let same = is_key item.key hit in
        let here = client_was (states k) item.input.moment item.input.input life arrives
        (ap (λ q. next transaction_machine q (states q) item.input) (sym same) ∙ is) still in (
          here.0,
          λ again. subst (λ q. AllByRecursion IsMild
              (adds transaction_machine q (states q) item.input)) (sym same) here.1,
        )
    one_item states item life false miss arrives is still = (
      open_itself (states k) life is still,
      λ same. absurd (subst (λ b. b ≡ true → ⊥) (sym miss) (λ t. false_true t)
          (ap (λ q. is_at (key_cmp q) k) same ∙ at_itself)),
    )
      where
        false_true : false ≡ true → ⊥
        false_true t = absurd cc

    -- all of them
    pub client_then : (items : Items) (states : States) (life : Life) → AreArrivals items
        → states_then key_cmp transaction_machine states items k ≡ Some life → IsOpen life
        → WasOpen (states k) life × AreMild (tells states items)
    client_then [] states life arrive is still = (open_itself (states k) life is still, tt)
    client_then (item ∷ items) states life arrive is still =
        let later = client_then items (after_item states item) life arrive.1 is still in
        let first = one_item states item later.0.before (is_at (key_cmp item.key) k) refl arrive.0
        later.0.was later.0.still in (
          open_before (states k) later.0.before life first.0 later.0.id later.0.call,
          (first.1, later.1),
        )

  -- ---- a server

  -- its request comes up
  abbrev pub ComesUp : List Out → Life → Type 0
  ComesUp outs life = (message : Message) × (reply_to : Addr)
      × Among outs (request_up k life message reply_to)

  module _ (serves : is_server (role_of k) ≡ true) where
    abbrev WasOrComes : Option Life → List Out → Life → Type 0
    WasOrComes held outs life = WasOpen held life ⊎ ComesUp outs life

    pub server_ticked : (held : Option Life) (now : ℕ) (life : Life)
        → (step_at k held now None).0 ≡ Some life → IsOpen life → WasOpen held life
    server_ticked held now life is still =
        ⊎_elim
        (λ kept. of_kept held (step_at k held now None).1 life kept still)
        (λ begun. let came = begun.received serves in absurd (nothing_came came.2))
        (lives_on k held now None life is)
      where
        nothing_came : {input : Input} → None ≡ Some input → ⊥
        nothing_came same = absurd cc

    pub server_was : (held : Option Life) (now : ℕ) (input : Option Input) (life : Life)
        → (step_at k held now input).0 ≡ Some life → IsOpen life
        → WasOrComes held (step_at k held now input).1 life
    server_was held now input life is still =
        ⊎_elim
        (λ kept. inl (of_kept held (step_at k held now input).1 life kept still))
        (λ begun.
        let came = begun.received serves in inr (came.0, came.1, came.3))
        (lives_on k held now input life is)

    served_item : (states : States) (item : Item Key (Timed Input)) (life : Life) (hit : Bool)
        → is_at (key_cmp item.key) k ≡ hit
        → cond hit (next transaction_machine item.key (states item.key) item.input) (states k)
        ≡ Some life
        → IsOpen life → WasOrComes (states k)
        (adds transaction_machine item.key (states item.key) item.input) life
    served_item states item life true hit is still =
        let same = is_key item.key hit in
        subst (λ q. WasOrComes (states k) (adds transaction_machine q (states q) item.input) life)
        (sym same)
        (server_was (states k) item.input.moment item.input.input life
        (ap (λ q. next transaction_machine q (states q) item.input) (sym same) ∙ is) still)
    served_item states item life false miss is still =
        inl (open_itself (states k) life is still)

    named_by : (outs : List Out) (one other : Life) → one.context.id ≡ other.context.id
        → one.context.call_id ≡ other.context.call_id → ComesUp outs one → ComesUp outs other
    named_by outs one other id call came = (
      came.0,
      came.1,
      subst (λ (o : Out). Among outs o)
          (λ i. out.Up (record {
            key = k;
            id = id i;
            call_id = call i;
            kind = kind.Request came.0 came.1;
          })) came.2,
    )

    pub server_then : (items : Items) (states : States) (life : Life)
        → states_then key_cmp transaction_machine states items k ≡ Some life → IsOpen life
        → WasOrComes (states k) (all_of (tells states items)) life
    server_then [] states life is still = inl (open_itself (states k) life is still)
    server_then (item ∷ items) states life is still =
        let here = adds transaction_machine item.key (states item.key) item.input in
        let rest = all_of (tells (after_item states item) items) in
        ⊎_elim
        (λ was. ⊎_elim
        (λ before. inl (open_before (states k) was.before life before was.id was.call))
        (λ came.
        let up = named_by here was.before life was.id was.call came in
        inr (up.0, up.1, among_left here rest _ up.2))
        (served_item states item was.before (is_at (key_cmp item.key) k) refl was.was was.still))
        (λ came. inr (came.0, came.1, among_right here rest _ came.2))
        (server_then items (after_item states item) life is still)

-- what each input of a transaction keeps
pub kept_then : (k : Key) (P : Option Life → Type 0) (Q : Timed Input → Type 0)
    → ((held : Option Life) (timed : Timed Input) → Q timed → P held
    → P (step_at k held timed.moment timed.input).0) → (items : Items) (states : States)
    → AllByRecursion (λ (item : Item Key (Timed Input)). Q item.input) items → P (states k)
    → P (states_then key_cmp transaction_machine states items k)
kept_then k P Q keeps [] states all holds = holds
kept_then k P Q keeps (item ∷ items) states all holds =
    kept_then k P Q keeps items (after_item states item) all.1
    (by_bool (is_at (key_cmp item.key) k)
    (λ hit. subst P (sym (ap (λ b. cond b
    (next transaction_machine item.key (states item.key) item.input) (states k)) hit
    ∙ ap (λ q. next transaction_machine q (states q) item.input)
    (exact_at keys_total exact_keys item.key k hit)))
    (keeps (states k) item.input all.0 holds))
    (λ miss. subst P (sym (ap (λ b. cond b
    (next transaction_machine item.key (states item.key) item.input) (states k)) miss)) holds))
