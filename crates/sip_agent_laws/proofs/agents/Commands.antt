-- What the commands of calls do to one transaction.
use Rattle.std.proofs.Common.{◌≡◌, ◌⊎◌, inl, inr, ⊎_elim, ℕ, Bool, true, false, cond, List, [], ◌∷◌, ◌++◌, refl, sym, ap, ◌∙◌, subst, arith}
use Rattle.std.specs.Prelude.{◌==◌, Option, None, Some, nat_le, nat_lt, option_map, codes, if◌then◌else◌}
use Rattle.std.specs.BTreeMap.{is_at}
use Rattle.std.specs.List.{AllByRecursion, flat_map}
use Rattle.std.proofs.lemmas.Bool.{false≢true}
use Rattle.std.proofs.lemmas.Grind.{common_steps}
use Rattle.sip_message.specs.declared.id.Id.{Id}
use Rattle.sip_message.specs.declared.key.Key.{Key}
use Rattle.sip_message.specs.declared.key.Key.TheVariants as key
use Rattle.sip_message.specs.declared.message.Message.{Message}
use Rattle.sip_message.specs.declared.sent_by.SentBy.{SentBy}
use Rattle.sip_message.specs.declared.start_line.StartLine.{StartLine}
use Rattle.sip_message.specs.declared.start_line.StartLine.TheVariants as start
use Rattle.sip_message.specs.Key.{key_cmp, keys_total}
use Rattle.sip_message.specs.Keys.{exact_keys}
use Rattle.keyed_machine.specs.Machine.{next}
use Rattle.keyed_machine.proofs.Ordered.{by_bool, exact_at, is_at_itself}
use Rattle.sip_transactions.specs.declared.input.Command.{Command}
use Rattle.sip_transactions.specs.declared.input.Command.TheVariants as command
use Rattle.sip_transactions.specs.declared.input.Input.{Input}
use Rattle.sip_transactions.specs.declared.input.Input.TheVariants.{Start, Answer}
use Rattle.sip_transactions.specs.declared.life.Life.{Life}
use Rattle.sip_transactions.specs.declared.output.Out.{Out}
use Rattle.sip_transactions.specs.declared.state.Role.TheVariants as role
use Rattle.sip_transactions.specs.declared.state.State.{State}
use Rattle.sip_transactions.specs.declared.state.State.TheVariants.{Calling, Trying, Proceeding, Completed, Accepted, Confirmed}
use Rattle.sip_transactions.specs.declared.step.Next.{Next}
use Rattle.sip_transactions.specs.declared.step.Next.TheVariants.{Same, Ended, Become}
use Rattle.sip_transactions.specs.declared.trigger.Class.{Class}
use Rattle.sip_transactions.specs.declared.trigger.Class.TheVariants as class
use Rattle.sip_transactions.specs.declared.trigger.Trigger.TheVariants as on
use Rattle.sip_transactions.specs.Rules.Step.{class_of_status, row_applied, step_at}
use Rattle.sip_transactions.specs.Rules.Tables.{invite_server, server, table}
use Rattle.sip_transactions.specs.Shard.{asked_by, command_key}
use Rattle.sip_transactions.specs.Steps.Input.{is_same_method, role_of}
use Rattle.sip_user.specs.declared.item.CallOut.{CallOut}
use Rattle.sip_user.specs.declared.item.CallOut.TheVariants as out
use Rattle.sip_round.specs.Outputs.{command_of}
use Rattle.sip_agent_laws.specs.Agents.Open.{is_open}
use Rattle.sip_agent_laws.proofs.agents.Lists.{Among, among_flat}
use Rattle.sip_agent_laws.proofs.agents.OpenLives.{IsBegun, IsKept, is_server, lives_on, opens}
use Rattle.sip_agent_laws.proofs.transactions.Told.{finals}

-- ---- a final answer

abbrev then_state : Next → State → Option State
then_state next state = elim next [ Same ↦ Some state | Ended ↦ None | Become new ↦ Some new ]

closed : (invite : Bool) (state : State) (c : Class) → finals c ≡ true
    → opens (if invite then role.InviteServer else role.Server)
    (then_state ((if invite then invite_server else server) (Some state) (on.Answer c)).next state)
    ≡ false
closed invite state class.Trying end = absurd (false≢true end)
closed invite state class.Provisional end = absurd (false≢true end)
closed true Calling class.Success end = refl
closed true Trying class.Success end = refl
closed true Proceeding class.Success end = refl
closed true Completed class.Success end = refl
closed true Accepted class.Success end = refl
closed true Confirmed class.Success end = refl
closed true Calling class.Failure end = refl
closed true Trying class.Failure end = refl
closed true Proceeding class.Failure end = refl
closed true Completed class.Failure end = refl
closed true Accepted class.Failure end = refl
closed true Confirmed class.Failure end = refl
closed false Calling class.Success end = refl
closed false Trying class.Success end = refl
closed false Proceeding class.Success end = refl
closed false Completed class.Success end = refl
closed false Accepted class.Success end = refl
closed false Confirmed class.Success end = refl
closed false Calling class.Failure end = refl
closed false Trying class.Failure end = refl
closed false Proceeding class.Failure end = refl
closed false Completed class.Failure end = refl
closed false Accepted class.Failure end = refl
closed false Confirmed class.Failure end = refl

end_status : (trying provisional success : Bool) (status : ℕ) → (status == 100) ≡ trying
    → nat_lt status 200 ≡ provisional → nat_le 200 status ≡ true
    → finals (if trying then class.Trying else if provisional then class.Provisional
    else if success then class.Success else class.Failure) ≡ true
end_status true provisional success status is small final =
    absurd (grind (arith, common_steps, is, final))
end_status false true success status is small final =
    absurd (grind (arith, common_steps, small, final))
end_status false false true status is small final = refl
end_status false false false status is small final = refl

-- a final response
abbrev pub IsFinal : Message → Type 0
IsFinal message = (status : ℕ) × (reason : List ℕ)
    × (message.start ≡ start.Response status reason) × (nat_le 200 status ≡ true)

state_left : {A : Type 0} (o : Option State) (make : State → A) (made : A → State)
    → ((state : State) → made (make state) ≡ state) → (after : A)
    → option_map make o ≡ Some after → o ≡ Some (made after)
state_left None make made back after is = absurd cc
state_left (Some state) make made back after is =
    let same : make state ≡ after = cc in
    ap (λ s. Some s) (sym (back state) ∙ ap made same)

answered_row : (branch : List ℕ) (sent_by : SentBy) (method : List ℕ) (life : Life) (now : ℕ)
    (message : Message) (status : ℕ) → nat_le 200 status ≡ true → (after : Life)
    → (row_applied (key.Server branch sent_by method) now (Some life) life.context
    (on.Answer (class_of_status status)) (Some message) None).0 ≡ Some after
    → is_open (role_of (key.Server branch sent_by method)) after.state ≡ false
unfolding row_applied table
answered_row branch sent_by method life now message status final after is =
    let invite = is_same_method method (codes "INVITE") in
    let c = class_of_status status in
    let row = (if invite then invite_server else server) (Some life.state) (on.Answer c) in
    sym (ap (opens (if invite then role.InviteServer else role.Server))
    (state_left (then_state row.next life.state) _ (λ l. l.state) (λ s. refl) after is))
    ∙ closed invite life.state c
    (end_status (status == 100) (nat_lt status 200) (nat_lt status 300) status refl refl final)

answered : (k : Key) → is_server (role_of k) ≡ true → (life : Life) (now : ℕ) (id : Id)
    (message : Message) → IsFinal message → (after : Life)
    → (step_at k (Some life) now (Some (Answer id message))).0 ≡ Some after
    → is_open (role_of k) after.state ≡ false
unfolding step_at
answered (key.Client branch method) serves life now id message final after is =
    absurd (by_bool (is_same_method method (codes "INVITE"))
    (λ hit. false≢true (sym (ap (λ b. is_server (if b then role.InviteClient else role.Client))
    hit) ∙ serves))
    (λ miss. false≢true (sym (ap (λ b. is_server (if b then role.InviteClient else role.Client))
    miss) ∙ serves)))
answered (key.Server branch sent_by method) serves life now id message final after is =
    let k = key.Server branch sent_by method in
    let by : StartLine → Option Life × List Out = λ line. elim line [
      | start.Request uri ↦ (Some life, [])
      | start.Response status reason ↦ row_applied k now (Some life) life.context
          (on.Answer (class_of_status status)) (Some message) None
    ] in
    answered_row branch sent_by method life now message final.0 final.3 after
    (sym (ap (λ line. (by line).0) final.2) ∙ is)

-- ---- commands among outputs

-- the commands for transactions among outputs
abbrev pub orders : List CallOut → List (Id × Command)
orders outs = flat_map command_of outs

pub ordered_among : (outs : List CallOut) (id : Id) (c : Command) → Among outs (out.Command id c)
    → Among (orders outs) (id, c)
ordered_among outs id c among = among_flat command_of outs (out.Command id c) (id, c) among (inl refl)

-- ---- commands, one after another

module _ (k : Key) where
  -- a command with a final response for this transaction
  abbrev pub IsFinalFor : Command → Type 0
  IsFinalFor (command.Start key call_id message to) = ⊥
  IsFinalFor (command.Answer key message) = (key ≡ k) × IsFinal message
  IsFinalFor (command.Abandon key) = ⊥

  -- a command that gives it up
  abbrev pub IsAbandonOf : Command → Type 0
  IsAbandonOf (command.Start key call_id message to) = ⊥
  IsAbandonOf (command.Answer key message) = ⊥
  IsAbandonOf (command.Abandon key) = key ≡ k

  -- a start of it
  abbrev pub IsStartOf : List ℕ → Command → Type 0
  IsStartOf call_id (command.Start key other message to) = (key ≡ k) × (other ≡ call_id)
  IsStartOf call_id (command.Answer key message) = ⊥
  IsStartOf call_id (command.Abandon key) = ⊥

module _ (k : Key) (now : ℕ) where
  -- one command: a transaction is only given its own
  abbrev pub ordered : Option Life → Id × Command → Option Life
  ordered held c = cond (is_at (key_cmp (command_key c.1)) k)
      (step_at k held now (Some (asked_by c.0 c.1))).0 held

  abbrev pub run : Option Life → List (Id × Command) → Option Life
  run held [] = held
  run held (c ∷ cs) = run (ordered held c) cs

  pub run_append : (held : Option Life) (xs ys : List (Id × Command))
      → run held (xs ++ ys) ≡ run (run held xs) ys
  run_append held [] ys = refl
  run_append held (x ∷ xs) ys = run_append (ordered held x) xs ys

  pub record IsLeft (held : Option Life) (cs : List (Id × Command)) (life : Life) : Type 0 where
    pub before : Life
    pub was : held ≡ Some before
    pub id : before.context.id ≡ life.context.id
    pub call : before.context.call_id ≡ life.context.call_id
    pub open_before : is_open (role_of k) life.state ≡ true → is_open (role_of k) before.state ≡ true
    pub unabandoned : AllByRecursion (λ (c : Id × Command). IsAbandonOf k c.1 → ⊥) cs
    pub unanswered : is_server (role_of k) ≡ true → is_open (role_of k) life.state ≡ true
        → AllByRecursion (λ (c : Id × Command). IsFinalFor k c.1 → ⊥) cs

  -- a client that was started by one of these
  pub record IsNew (cs : List (Id × Command)) (life : Life) : Type 0 where
    pub client : is_server (role_of k) ≡ false
    pub command : Command
    pub among : Among cs (life.context.id, command)
    pub start : IsStartOf k life.context.call_id command

  -- ---- one command

  at_itself : is_at (key_cmp k) k ≡ true
  at_itself = is_at_itself keys_total k

  abbrev StepLeaves : Bool → Option Life → Id × Command → Life → Type 0
  StepLeaves hit held c life = (cond hit (step_at k held now (Some (asked_by c.0 c.1))).0 held
      ≡ Some life) → is_at (key_cmp (command_key c.1)) k ≡ hit
      → IsLeft held (c ∷ []) life ⊎ IsNew (c ∷ []) life

  missed : (held : Option Life) (id : Id) (c : Command) (life : Life) → held ≡ Some life
      → is_at (key_cmp (command_key c)) k ≡ false → IsLeft held ((id, c) ∷ []) life
  missed held id (command.Start key call_id message to) life is miss = record {
    before = life;
    was = is;
    id = refl;
    call = refl;
    open_before = λ still. still;
    unabandoned = (λ gone. gone, tt);
    unanswered = λ server still. (λ final. final, tt);
  }
  missed held id (command.Answer key message) life is miss = record {
    before = life;
    was = is;
    id = refl;
    call = refl;
    open_before = λ still. still;
    unabandoned = (λ gone. gone, tt);
    unanswered = λ server still. (
      λ final. false≢true (sym miss ∙ (ap (λ q. is_at (key_cmp q) k) final.0 ∙ at_itself)),
      tt,
    );
  }
  missed held id (command.Abandon key) life is miss = record {
    before = life;
    was = is;
    id = refl;
    call = refl;
    open_before = λ still. still;
    unabandoned = (
      λ gone. false≢true (sym miss ∙ (ap (λ q. is_at (key_cmp q) k) gone ∙ at_itself)),
      tt,
    );
    unanswered = λ server still. (λ final. final, tt);
  }

  from_kept : (held : Option Life) (id : Id) (c : Command) (outs : List Out) (life : Life)
      → (step_at k held now (Some (asked_by id c))).0 ≡ Some life
      → IsKept k held outs life → IsLeft held ((id, c) ∷ []) life
  unfolding step_at
  from_kept held id (command.Start key call_id message to) outs life is kept = record {
    before = kept.before;
    was = kept.was;
    id = kept.id;
    call = kept.call;
    open_before = λ still. (kept.open_before still).0;
    unabandoned = (λ gone. gone, tt);
    unanswered = λ server still. (λ final. final, tt);
  }
  from_kept held id (command.Answer key message) outs life is kept = record {
    before = kept.before;
    was = kept.was;
    id = kept.id;
    call = kept.call;
    open_before = λ still. (kept.open_before still).0;
    unabandoned = (λ gone. gone, tt);
    unanswered = λ server still. (
      λ final. false≢true
          (sym (answered k server kept.before now id message final.1 life
          (ap (λ h. (step_at k h now (Some (Answer id message))).0) (sym kept.was) ∙ is)) ∙ still),
      tt,
    );
  }
  from_kept held id (command.Abandon key) outs life is kept = absurd cc

  is_key : (q : Key) → is_at (key_cmp q) k ≡ true → q ≡ k
  is_key q hit = exact_at keys_total exact_keys q k hit

  from_begun : (held : Option Life) (id : Id) (c : Command) (outs : List Out) (life : Life)
      → is_at (key_cmp (command_key c)) k ≡ true
      → IsBegun k held (Some (asked_by id c)) outs life → IsNew ((id, c) ∷ []) life
  from_begun held id (command.Start key call_id message to) outs life hit begun =
      by_bool (is_server (role_of k))
      (λ server. let came = begun.received server in absurd cc)
      (λ client. let began = begun.started client in
      let same : Start id call_id message to
      ≡ Start life.context.id life.context.call_id began.0 began.1 = cc in
      record {
        client = client;
        command = command.Start key call_id message to;
        among = inl (λ i. (ap id_in same i, command.Start key call_id message to));
        start = (is_key key hit, ap call_in same);
      })
    where
      id_in : Input → Id
      id_in (Start one of message to) = one
      id_in _ = id

      call_in : Input → List ℕ
      call_in (Start one of message to) = of
      call_in _ = []
  from_begun held id (command.Answer key message) outs life hit begun =
      by_bool (is_server (role_of k))
      (λ server. let came = begun.received server in absurd cc)
      (λ client. let began = begun.started client in absurd cc)
  from_begun held id (command.Abandon key) outs life hit begun =
      by_bool (is_server (role_of k))
      (λ server. let came = begun.received server in absurd cc)
      (λ client. let began = begun.started client in absurd cc)

  one_hit : (held : Option Life) (c : Id × Command) (life : Life) (hit : Bool)
      → StepLeaves hit held c life
  one_hit held c life true is hit =
      ⊎_elim
      (λ kept. inl (from_kept held c.0 c.1 (step_at k held now (Some (asked_by c.0 c.1))).1 life is
      kept))
      (λ begun. inr (from_begun held c.0 c.1 (step_at k held now (Some (asked_by c.0 c.1))).1 life
      hit begun))
      (lives_on k held now (Some (asked_by c.0 c.1)) life is)
  one_hit held c life false is miss = inl (missed held c.0 c.1 life is miss)

  pub one_order : (held : Option Life) (c : Id × Command) (life : Life)
      → ordered held c ≡ Some life → IsLeft held (c ∷ []) life ⊎ IsNew (c ∷ []) life
  one_order held c life is =
      one_hit held c life (is_at (key_cmp (command_key c.1)) k) is refl

  -- ---- all of them

  more_left : (held : Option Life) (c : Id × Command) (cs : List (Id × Command)) (life : Life)
      → (rest : IsLeft (ordered held c) cs life) → IsLeft held (c ∷ []) rest.before
      → IsLeft held (c ∷ cs) life
  more_left held c cs life rest first = record {
    before = first.before;
    was = first.was;
    id = first.id ∙ rest.id;
    call = first.call ∙ rest.call;
    open_before = λ still. first.open_before (rest.open_before still);
    unabandoned = (first.unabandoned.0, rest.unabandoned);
    unanswered = λ server still. (
      (first.unanswered server (rest.open_before still)).0,
      rest.unanswered server still,
    );
  }

  more_new : (held : Option Life) (c : Id × Command) (cs : List (Id × Command)) (life : Life)
      → (rest : IsLeft (ordered held c) cs life) → IsNew (c ∷ []) rest.before
      → IsNew (c ∷ cs) life
  more_new held c cs life rest first = record {
    client = first.client;
    command = first.command;
    among = inl (⊎_elim (λ same. same) (λ none. absurd none) first.among
        ∙ (λ i. (rest.id i, first.command)));
    start = subst (λ of. IsStartOf k of first.command) rest.call first.start;
  }

  pub run_on : (cs : List (Id × Command)) (held : Option Life) (life : Life)
      → run held cs ≡ Some life → IsLeft held cs life ⊎ IsNew cs life
  run_on [] held life is = inl (record {
    before = life;
    was = is;
    id = refl;
    call = refl;
    open_before = λ still. still;
    unabandoned = tt;
    unanswered = λ server still. tt;
  })
  run_on (c ∷ cs) held life is =
      ⊎_elim
      (λ rest. ⊎_elim (λ first. inl (more_left held c cs life rest first))
      (λ first. inr (more_new held c cs life rest first))
      (one_order held c rest.before rest.was))
      (λ new. inr (record {
        client = new.client;
        command = new.command;
        among = inr new.among;
        start = new.start;
      }))
      (run_on cs (ordered held c) life is)

-- ---- what each command keeps

module _ (k : Key) (now : ℕ) where
  pub run_keeps : (P : Option Life → Type 0) (cs : List (Id × Command))
      → ((held : Option Life) (id : Id) (c : Command) → Among cs (id, c) → P held
      → P (ordered k now held (id, c))) → (held : Option Life) → P held → P (run k now held cs)
  run_keeps P [] keeps held holds = holds
  run_keeps P ((id, c) ∷ cs) keeps held holds =
      run_keeps P cs (λ held own other among. keeps held own other (inr among))
      (ordered k now held (id, c)) (keeps held id c (inl refl) holds)

  -- a command for this transaction
  pub ordered_keeps : (P : Option Life → Type 0) (held : Option Life) (id : Id) (c : Command)
      → (command_key c ≡ k → P (step_at k held now (Some (asked_by id c))).0) → P held
      → P (ordered k now held (id, c))
  ordered_keeps P held id c keeps holds =
      by_bool (is_at (key_cmp (command_key c)) k)
      (λ hit. subst (λ b. P (cond b (step_at k held now (Some (asked_by id c))).0 held)) (sym hit)
      (keeps (exact_at keys_total exact_keys (command_key c) k hit)))
      (λ miss. subst (λ b. P (cond b (step_at k held now (Some (asked_by id c))).0 held)) (sym miss)
      holds)
