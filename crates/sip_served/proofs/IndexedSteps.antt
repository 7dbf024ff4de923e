-- The indices of held requests by number, after one request came, changed or went.
use Rattle.std.proofs.Common.{◌≡◌, ℕ, ◌≤◌, ◌<◌, Bool, true, false, cond, ◌||◌, List, [], ◌∷◌, Option, Some, None, refl, sym, ap, ◌∙◌, arith}
use Rattle.std.specs.Prelude.{is_some, nat_le, IfNone, IfSome, if◌then◌else◌}
use Rattle.std.specs.BTreeMap.{BTreeMap, is_at}
use Rattle.std.specs.List.{list_any}
use Rattle.std.specs.Map.{remove_entry, set_value, values_of}
use Rattle.std.specs.Option.{option_and_then, option_map}
use Rattle.std.specs.Ordering.{nat_cmp}
use Rattle.std.proofs.lemmas.Bool.{false≢true, le-leb, leb-true, leb-false, lt-leb}
use Rattle.sip_timers.specs.Index as timers
use Rattle.sip_timers.specs.Queue.{is_due}
use Rattle.sip_timers.proofs.Schedules as schedules
use Rattle.sip_message.specs.declared.id.Id.{Id}
use Rattle.sip_message.specs.declared.key.Key.{Key}
use Rattle.sip_message.specs.declared.message.Message.{Message}
use Rattle.sip_message.specs.Party.{tag_of}
use Rattle.sip_held_dialogs.specs.Requests.{is_invite}
use Rattle.sip_held_dialogs.specs.declared.held_dialog.DialogReference.{DialogReference}
use Rattle.sip_reliable.specs.declared.tick.Tick.{Tick}
use Rattle.sip_reliable.specs.declared.tick.Tick.TheVariants as tick
use Rattle.sip_served.specs.declared.change.Change.{Change}
use Rattle.sip_served.specs.declared.change.Change.TheVariants.{Ack, Answer, FinalResponse, Prack}
use Rattle.sip_served.specs.declared.held_request.HeldRequest.{HeldRequest}
use Rattle.sip_served.specs.declared.held_request.SuccessEnd.TheVariants.{Acknowledged}
use Rattle.sip_served.specs.declared.retransmissions.SuccessDue.{SuccessDue}
use Rattle.sip_served.specs.declared.retransmissions.SuccessDue.TheVariants as repeat
use Rattle.sip_served.specs.Steps.Change.{after_change}
use Rattle.sip_served.specs.Respond.{answers, makes, with_dialog}
use Rattle.sip_served.specs.declared.indices.Indices.{Indices}
use Rattle.sip_served.specs.Steps.Index.{IsIndexOf, with_key}
use Rattle.sip_reliable.specs.Ledger.{tick_answer}
use Rattle.sip_served.specs.declared.held_request.Success.{Success}
use Rattle.sip_served.specs.Steps.Indexed.{at, due_at, kept_ticked, number_ticked, thing_ticked}
use Rattle.sip_served.specs.Steps.Indices.{IsIndices, keys_at}
use Rattle.sip_served.specs.Steps.Keys.{PrackKey, ack_key, ack_of, branch_key, branch_of, id_of, merge_key, merge_of, prack_cmp, prack_key, prack_of}
use Rattle.sip_served.specs.RequestLife.{RequestHappening, EndsSuccess, Finishes, GivesUpProvisionals, MakesDialog, RepeatsProvisionals, RepeatsSuccess, SendsReliably, TakesPrack, request_happened, went_on}
use Rattle.sip_served.specs.Tick.{is_kept_at, next_due_of, provisionals_go, request_due, request_ticked, success_answer, success_at_tick, success_goes, success_passes, success_ticked}
use Rattle.sip_served.proofs.Dues.{requests_due}
use Rattle.sip_served.proofs.Indexes.{by_bool, index_same, thing_moved}
use Rattle.sip_served.proofs.KeyTests.{number_equal}
use Rattle.sip_served.proofs.Numbered.{InOrder, any_found, at_itself, get, none_found, tied_numbers}

-- ---- equal requests have equal indices

indices_same : (before after : ℕ → Option HeldRequest) (indices : Indices)
    → ((n : ℕ) → before n ≡ after n) → IsIndices before indices → IsIndices after indices
indices_same before after indices same tied = record {
  ids = index_same _ indices.ids (keys_at id_of before) (keys_at id_of after)
      (λ n. ap (option_and_then id_of) (same n)) tied.ids;
  merges = index_same _ indices.merges (keys_at merge_of before) (keys_at merge_of after)
      (λ n. ap (option_and_then merge_of) (same n)) tied.merges;
  acks = index_same _ indices.acks (keys_at ack_of before) (keys_at ack_of after)
      (λ n. ap (option_and_then ack_of) (same n)) tied.acks;
  pracks = index_same _ indices.pracks (keys_at prack_of before) (keys_at prack_of after)
      (λ n. ap (option_and_then prack_of) (same n)) tied.pracks;
  branches = index_same _ indices.branches (keys_at branch_of before) (keys_at branch_of after)
      (λ n. ap (option_and_then branch_of) (same n)) tied.branches;
}

-- ---- the request of one number becomes another, comes or goes

module _ (old new : BTreeMap ℕ HeldRequest) (number : ℕ) (x : Option HeldRequest)
    (updates : (q : ℕ) → at new q ≡ cond (is_at (nat_cmp number) q) x (at old q)) where
  with_new : (n : ℕ) → with_key (at old) number x n ≡ at new n
  with_new n =
      sym (updates n ∙ ap (λ b. cond b x (at old n)) (number_equal number n))

  pub indices_moved : (indices : Indices) → IsIndices (with_key (at old) number x) indices
      → IsIndices (at new) indices
  indices_moved indices tied =
      indices_same (with_key (at old) number x) (at new) indices with_new tied

  -- the key of the number's PRACK moved
  pub pracks_moved : (pracks : List (PrackKey × ℕ)) (key : Option PrackKey)
      → key ≡ option_and_then prack_of x
      → IsIndexOf prack_cmp (with_key (keys_at prack_of (at old)) number key) pracks
      → IsIndexOf prack_cmp (keys_at prack_of (at new)) pracks
  pracks_moved pracks key is tied =
      index_same prack_cmp pracks
      (λ n. option_and_then prack_of (with_key (at old) number x n)) (keys_at prack_of (at new))
      (λ n. ap (option_and_then prack_of) (with_new n))
      (thing_moved prack_cmp prack_of (at old) number pracks x key is tied)

  pub dues_moved : (dues : List (ℕ × ℕ)) (moment : Option ℕ)
      → moment ≡ option_and_then request_due x
      → timers.IsIndexOf nat_cmp (timers.with_moment nat_cmp (due_at old) number moment) dues
      → timers.IsIndexOf nat_cmp (due_at new) dues
  dues_moved dues moment is tied =
      schedules.index_of_same nat_cmp
      (timers.with_moment nat_cmp (due_at old) number moment) (due_at new) dues
      (λ q.
      ap (λ m. cond (is_at (nat_cmp number) q) m (due_at old q)) is
      ∙ pushed (is_at (nat_cmp number) q) x (at old q)
      ∙ ap (option_and_then request_due) (sym (updates q)))
      tied
    where
      pushed : (b : Bool) (x y : Option HeldRequest)
          → cond b (option_and_then request_due x) (option_and_then request_due y)
          ≡ option_and_then request_due (cond b x y)
      pushed true x y = refl
      pushed false x y = refl

  pub below_moved : (next : ℕ) → number < next → ((n : ℕ) → next ≤ n → at old n ≡ None) → (n : ℕ)
      → next ≤ n → at new n ≡ None
  below_moved next lt below n le =
      updates n
      ∙ by_bool (is_at (nat_cmp number) n)
      (λ same. absurd (omega (arith, lt, le, tied_numbers number n same)))
      (λ apart. ap (λ b. cond b x (at old n)) apart ∙ below n le)

-- ---- a change that leaves what a request came with

abbrev Came : Type 0
Came = Id × Key × Message × List ℕ

abbrev pub came_with : HeldRequest → Came
came_with held = (held.id, held.key, held.request, held.tag)

one_came : (h : RequestHappening) (held : HeldRequest)
    → came_with (request_happened held h) ≡ came_with held
one_came (MakesDialog life) held = refl
one_came (SendsReliably number response now) held = refl
one_came (TakesPrack number) held = refl
one_came (RepeatsProvisionals numbers now) held = refl
one_came (GivesUpProvisionals now) held = refl
one_came (Finishes response status now) held = refl
one_came (RepeatsSuccess now) held = refl
one_came (EndsSuccess end) held = refl

came_stays : (life : List RequestHappening) (held : HeldRequest)
    → came_with (went_on life held) ≡ came_with held
came_stays [] held = refl
came_stays (h ∷ life) held = came_stays life (request_happened held h) ∙ one_came h held

-- so does each change
pub came_changed : (change : Change) (held : HeldRequest)
    → came_with (after_change change held) ≡ came_with held
came_changed Ack held = came_stays (EndsSuccess Acknowledged ∷ []) held
came_changed (Prack rseq) held = came_stays (TakesPrack rseq ∷ []) held
came_changed (FinalResponse response status now) held =
    came_stays (Finishes response.now status now ∷ []) held
came_changed (Answer event response status reliability now) held =
    let referring = with_dialog event status held in
    came_stays (answers referring status reliability response.now now) referring
    ∙ came_stays (makes event held status) held

module _ (old new : BTreeMap ℕ HeldRequest) (number : ℕ) (x w : HeldRequest)
    (there : at old number ≡ Some x) (came : came_with w ≡ came_with x)
    (updates : (q : ℕ) → at new q ≡ cond (is_at (nat_cmp number) q) (Some w) (at old q)) where
  keys_stay : {K : Type 0} (key_of : HeldRequest → Option K) → key_of w ≡ key_of x → (n : ℕ)
      → option_and_then key_of (at old n) ≡ option_and_then key_of (at new n)
  keys_stay key_of same n =
      by_bool (is_at (nat_cmp number) n)
      (λ here.
      ap (λ m. option_and_then key_of (at old m)) (sym (tied_numbers number n here))
      ∙ ap (option_and_then key_of) there ∙ sym same
      ∙ sym (ap (option_and_then key_of)
      (updates n ∙ ap (λ b. cond b (Some w) (at old n)) here)))
      (λ apart.
      sym (ap (option_and_then key_of)
      (updates n ∙ ap (λ b. cond b (Some w) (at old n)) apart)))

  pub below_stays : (next : ℕ) → ((n : ℕ) → next ≤ n → at old n ≡ None) → (n : ℕ) → next ≤ n
      → at new n ≡ None
  below_stays next below n le =
      updates n
      ∙ by_bool (is_at (nat_cmp number) n)
      (λ same. absurd (never (sym there
      ∙ ap (at old) (tied_numbers number n same) ∙ below n le)))
      (λ apart. ap (λ b. cond b (Some w) (at old n)) apart ∙ below n le)
    where
      never : Some x ≡ None → ⊥
      never same = absurd cc

  -- with an index by PRACKs that may be another
  pub indices_stay : (indices : Indices) (pracks : List (PrackKey × ℕ)) → IsIndices (at old) indices
      → IsIndexOf prack_cmp (keys_at prack_of (at new)) pracks
      → IsIndices (at new) (record indices { pracks = pracks })
  indices_stay indices pracks tied moved = record {
    ids = index_same _ indices.ids (keys_at id_of (at old)) (keys_at id_of (at new))
        (keys_stay id_of (ap (λ (came : Came). Some came.0) came)) tied.ids;
    merges = index_same _ indices.merges (keys_at merge_of (at old)) (keys_at merge_of (at new))
        (keys_stay merge_of (ap (λ (came : Came). Some (merge_key came.2)) came)) tied.merges;
    acks = index_same _ indices.acks (keys_at ack_of (at old)) (keys_at ack_of (at new))
        (keys_stay ack_of (ap (λ (came : Came). if is_invite came.2
        then Some (ack_key came.3 (tag_of came.2.from) came.2.cseq.number) else None) came))
        tied.acks;
    pracks = moved;
    branches = index_same _ indices.branches (keys_at branch_of (at old))
        (keys_at branch_of (at new))
        (keys_stay branch_of (ap (λ (came : Came). branch_key came.1) came)) tied.branches;
  }

  -- a change that also leaves the dialog
  pub indices_stay_all : w.dialog ≡ x.dialog → (indices : Indices) → IsIndices (at old) indices
      → IsIndices (at new) indices
  indices_stay_all dialog indices tied =
      indices_stay indices indices.pracks tied
      (index_same _ indices.pracks (keys_at prack_of (at old)) (keys_at prack_of (at new))
      (keys_stay prack_of (λ i.
      option_map (λ (life : DialogReference). prack_key life.created_by (came i).2.cseq.number)
      (dialog i))) tied.pracks)

-- ---- the first moment at which something is due

pub same_due : (a b : Option ℕ) → ((now : ℕ) → is_due now a ≡ is_due now b) → a ≡ b
same_due None None same = refl
same_due None (Some m) same = absurd (false≢true (same m ∙ le-leb m m (omega arith)))
same_due (Some m) None same = absurd (false≢true (sym (same m) ∙ le-leb m m (omega arith)))
same_due (Some m) (Some k) same =
    let down : k ≤ m = leb-true k m (sym (same m) ∙ le-leb m m (omega arith)) in
    let up : m ≤ k = leb-true m k (same k ∙ le-leb k k (omega arith)) in
    ap (λ (n : ℕ). Some n) (omega (arith, down, up))

passes_some : {X : Type 0} (test : X → Bool) (es : List (ℕ × X)) (n : ℕ) (x : X)
    → get n es ≡ Some x → test x ≡ true → list_any test (values_of es) ≡ true
passes_some test [] n x there passes = absurd cc
passes_some test (e ∷ es) n x there passes =
    by_bool (is_at (nat_cmp n) e.0)
    (λ here.
    let same : Some e.1 ≡ Some x = sym (ap (λ b. cond b (Some e.1) (get n es)) here) ∙ there in
    let is : e.1 ≡ x = cc in
    ap (λ b. b || list_any test (values_of es)) (ap test is ∙ passes))
    (λ apart.
    let later : list_any test (values_of es) ≡ true =
    passes_some test es n x (sym (ap (λ b. cond b (Some e.1) (get n es)) apart) ∙ there) passes in
    ap (λ b. test e.1 || b) later ∙ either (test e.1))
  where
    either : (b : Bool) → (b || true) ≡ true
    either true = refl
    either false = refl

module _ (requests : BTreeMap ℕ HeldRequest) (in_order : InOrder requests.entries) where
  abbrev is_now : ℕ → HeldRequest → Bool
  is_now now held = is_due now (request_due held)

  nothing_due : (now : ℕ) → ((q : ℕ) → is_due now (due_at requests q) ≡ false)
      → list_any (is_now now) (values_of requests.entries) ≡ false
  nothing_due now calm =
      any_found (is_now now) (values_of requests.entries)
      ∙ ap is_some (none_found (is_now now) requests.entries in_order (λ m y there.
      ap (λ o. is_due now (option_and_then request_due o)) (sym there) ∙ calm m))

  something_due : (now q m : ℕ) (o : Option HeldRequest) → at requests q ≡ o
      → option_and_then request_due o ≡ Some m → m ≤ now
      → list_any (is_now now) (values_of requests.entries) ≡ true
  something_due now q m None there is le = absurd cc
  something_due now q m (Some held) there is le =
      passes_some (is_now now) requests.entries q held there
      (ap (is_due now) is ∙ le-leb m now le)

  due_by : (now : ℕ) (first : Option ℕ)
      → IfSome first (λ due. (q : ℕ) → IfSome (due_at requests q) (λ other. due ≤ other))
      → IfSome first (λ due. (q : ℕ) × (due_at requests q ≡ Some due))
      → IfNone first ((q : ℕ) → due_at requests q ≡ None)
      → is_due now first ≡ list_any (is_now now) (values_of requests.entries)
  due_by now None before one none =
      sym (nothing_due now (λ q. ap (is_due now) (none q)))
  due_by now (Some due) before one none =
      by_bool (nat_le due now)
      (λ le.
      le ∙ sym (something_due now one.0 due (at requests one.0) refl one.1 (leb-true due now le)))
      (λ gt.
      gt ∙ sym (nothing_due now (λ q.
      later (due_at requests q) (leb-false due now gt) (before q))))
    where
      later : (o : Option ℕ) → now < due → IfSome o (λ other. due ≤ other) → is_due now o ≡ false
      later None lt from = refl
      later (Some other) lt from = lt-leb other now (omega (arith, lt, from))

  pub first_due : (first : Option ℕ)
      → IfSome first (λ due. (q : ℕ) → IfSome (due_at requests q) (λ other. due ≤ other))
      → IfSome first (λ due. (q : ℕ) × (due_at requests q ≡ Some due))
      → IfNone first ((q : ℕ) → due_at requests q ≡ None)
      → first ≡ next_due_of (values_of requests.entries)
  first_due first before one none =
      same_due first (next_due_of (values_of requests.entries)) (λ now.
      due_by now first before one none ∙ sym (requests_due now (values_of requests.entries)))

-- ---- a tick

came_success : (now : ℕ) (held : HeldRequest) (o : Option Success)
    → came_with (success_at_tick now held o).0 ≡ came_with held
came_success now held None = refl
came_success now held (Some success) = came_stays (success_passes now (Some success)) held

pub came_ticked : (now : ℕ) (held : HeldRequest)
    → came_with (request_ticked now held).0 ≡ came_with held
came_ticked now held =
    let first = (success_ticked now held).0 in
    came_stays (provisionals_go (tick_answer first.ledger now) now) first
    ∙ came_success now held held.success

dialog_success : (now : ℕ) (held : HeldRequest) (success : Success) (due : SuccessDue)
    → (went_on (success_goes due now) held).dialog ≡ held.dialog
dialog_success now held success repeat.Nothing = refl
dialog_success now held success repeat.Again = refl
dialog_success now held success repeat.GivenUp = refl

dialog_first : (now : ℕ) (held : HeldRequest) (o : Option Success)
    → (success_at_tick now held o).0.dialog ≡ held.dialog
dialog_first now held None = refl
dialog_first now held (Some success) =
    dialog_success now held success (success_answer now success)

dialog_second : (now : ℕ) (held : HeldRequest) (answer : Tick)
    → (went_on (provisionals_go answer now) held).dialog ≡ held.dialog
dialog_second now held tick.Nothing = refl
dialog_second now held (tick.Again numbers) = refl
dialog_second now held tick.GivenUp = refl

pub dialog_ticked : (now : ℕ) (held : HeldRequest)
    → (request_ticked now held).0.dialog ≡ held.dialog
dialog_ticked now held =
    let first = (success_ticked now held).0 in
    dialog_second now first (tick_answer first.ledger now) ∙ dialog_first now held held.success

-- an entry that was changed is taken out
pub removed_set : {X : Type 0} (n : ℕ) (es : List (ℕ × X)) (w : X)
    → remove_entry (is_at (nat_cmp n)) (set_value (is_at (nat_cmp n)) es w)
    ≡ remove_entry (is_at (nat_cmp n)) es
removed_set n [] w = refl
removed_set n (e ∷ es) w =
    let test = is_at (nat_cmp n) in
    by_bool (test e.0)
    (λ here.
    ap (λ b. remove_entry test (cond b ((e.0, w) ∷ es) (e ∷ set_value test es w))) here
    ∙ ap (λ b. cond b es ((e.0, w) ∷ remove_entry test es)) here
    ∙ sym (ap (λ b. cond b es (e ∷ remove_entry test es)) here))
    (λ apart.
    ap (λ b. remove_entry test (cond b ((e.0, w) ∷ es) (e ∷ set_value test es w))) apart
    ∙ ap (λ b. cond b (set_value test es w) (e ∷ remove_entry test (set_value test es w))) apart
    ∙ ap (λ fs. e ∷ fs) (removed_set n es w)
    ∙ sym (ap (λ b. cond b es (e ∷ remove_entry test es)) apart))

module _ (old new : BTreeMap ℕ HeldRequest) (now number : ℕ) (x w : HeldRequest)
    (there : at old number ≡ Some x) (is : w ≡ (request_ticked now x).0)
    (updates : (q : ℕ) → at new q ≡ cond (is_at (nat_cmp number) q) (Some w) (at old q)) where
  pub ticked_kept : is_kept_at now w ≡ true → (q : ℕ)
      → at new q ≡ cond (is_at (nat_cmp number) q)
      (option_and_then (kept_ticked now) (at old number)) (at old q)
  ticked_kept stays q =
      updates q
      ∙ sym (ap (λ o. cond (is_at (nat_cmp number) q) o (at old q))
      (ap (option_and_then (kept_ticked now)) there
      ∙ ap (λ held. cond (is_kept_at now held) (Some held) None) (sym is)
      ∙ ap (λ b. cond b (Some w) None) stays))

  module _ (gone : BTreeMap ℕ HeldRequest)
      (removes : (q : ℕ) → at gone q ≡ cond (is_at (nat_cmp number) q) None (at new q)) where
    pub ticked_removed : is_kept_at now w ≡ false → (q : ℕ)
        → at gone q ≡ cond (is_at (nat_cmp number) q)
        (option_and_then (kept_ticked now) (at old number)) (at old q)
    ticked_removed goes q =
        removes q
        ∙ ap (cond (is_at (nat_cmp number) q) None) (updates q)
        ∙ once (is_at (nat_cmp number) q) (at old q)
        ∙ sym (ap (λ o. cond (is_at (nat_cmp number) q) o (at old q))
        (ap (option_and_then (kept_ticked now)) there
        ∙ ap (λ held. cond (is_kept_at now held) (Some held) None) (sym is)
        ∙ ap (λ b. cond b (Some w) None) goes))
      where
        once : (b : Bool) (y : Option HeldRequest) → cond b None (cond b (Some w) y) ≡ cond b None y
        once true y = refl
        once false y = refl

    pub indices_removed : (indices rest : Indices) → IsIndices (at old) indices
        → ((before : ℕ → Option HeldRequest) → IsIndices before indices → before number ≡ Some w
        → IsIndices (with_key before number None) rest)
        → IsIndices (at gone) rest
    indices_removed indices rest tied takes =
        indices_moved new gone number None removes rest
        (takes (at new)
        (indices_stay_all old new number x w there (ap came_with is ∙ came_ticked now x) updates
        (ap (λ (held : HeldRequest). held.dialog) is ∙ dialog_ticked now x) indices tied)
        (updates number ∙ ap (λ b. cond b (Some w) (at old number)) (at_itself number)))

    pub entries_removed : new.entries ≡ set_value (is_at (nat_cmp number)) old.entries w
        → gone.entries ≡ remove_entry (is_at (nat_cmp number)) new.entries
        → is_kept_at now w ≡ false → gone.entries ≡ number_ticked now number old
    entries_removed set taken goes =
        taken ∙ ap (remove_entry (is_at (nat_cmp number))) set
        ∙ removed_set number old.entries w
        ∙ sym (ap (thing_ticked (λ held. (request_ticked now held).0) (is_kept_at now) number
        old.entries) there
        ∙ ap (λ held. cond (is_kept_at now held)
        (set_value (is_at (nat_cmp number)) old.entries held)
        (remove_entry (is_at (nat_cmp number)) old.entries)) (sym is)
        ∙ ap (λ b. cond b (set_value (is_at (nat_cmp number)) old.entries w)
        (remove_entry (is_at (nat_cmp number)) old.entries)) goes)
