-- A held request after something happened to it is what its longer story says.
use Rattle.std.proofs.Common.{◌≡◌, ℕ, ◌+◌, ◌*◌, ◌^◌, nat_lt, min, Bool, true, false, not, cond, ◌&&◌, ◌||◌, List, [], ◌∷◌, ◌++◌, length, refl, sym, ap, subst, ◌∙◌, arith, add-one, append-nil, append_assoc, length-append}
use Rattle.std.specs.Prelude.{Option, None, Some, Ok, is_some, filter, filter_map, fold, if◌then◌else◌}
use Rattle.std.specs.List.{list_any}
use Rattle.std.specs.Option.{option_map}
use Rattle.std.proofs.Math.Nat.{two-pow-succ}
use Rattle.std.proofs.lemmas.List.Elements.{filter_map-append}
use Rattle.std.proofs.lemmas.List.Sums.{fold_push}
use Rattle.std.proofs.lemmas.Bool.{true≢false}
use Rattle.keyed_machine.proofs.Ordered.{by_bool}
use Rattle.sip_message.specs.declared.id.Id.{Id}
use Rattle.sip_message.specs.declared.message.Message.{Message}
use Rattle.sip_reliable.specs.declared.send_fault.SendFault.{SendFault}
use Rattle.sip_reliable.specs.declared.tick.Tick.{Tick}
use Rattle.sip_reliable.specs.declared.tick.Tick.TheVariants as tick
use Rattle.sip_reliable.specs.Happening as reliable
use Rattle.sip_reliable.specs.Ledger.{Ledger, acknowledged, closed_now, happenings_of, ledger_after, ok_unless, send_answer, send_fault, tick_answer, ticked, with_sent}
use Rattle.sip_reliable.specs.Sound.{IsSound}
use Rattle.sip_reliable.proofs.Ledgers.{acknowledge_stands, close_stands, send_stands, tick_stands}
use Rattle.sip_transactions.specs.declared.step.Pace.TheVariants.{Capped}
use Rattle.sip_transactions.specs.declared.timers.TheConstants.{T2}
use Rattle.sip_transactions.specs.Timers.{interval}
use Rattle.sip_timers.specs.declared.estimate.TheConstants.{LIFETIME}
use Rattle.sip_user.specs.declared.command.Respond.{Respond as Answer}
use Rattle.sip_held_dialogs.specs.declared.held_dialog.DialogReference.{DialogReference}
use Rattle.sip_user.specs.declared.refusal.Refusal.{Refusal}
use Rattle.sip_user.specs.declared.refusal.Refusal.TheVariants as bad
use Rattle.sip_held_dialogs.specs.Dialogs.{Dialogs}
use Rattle.sip_held_dialogs.specs.Requests.{dialog_id_of, is_final, is_invite, is_success, supports_100rel}
use Rattle.sip_served.specs.declared.held_request.HeldRequest.{HeldRequest}
use Rattle.sip_served.specs.declared.held_request.Success.{Success}
use Rattle.sip_served.specs.declared.held_request.SuccessEnd.TheVariants.{GivenUp}
use Rattle.sip_served.specs.declared.provisionals.ReliableResponse.{ReliableResponse}
use Rattle.sip_served.specs.declared.retransmissions.SuccessDue.{SuccessDue}
use Rattle.sip_served.specs.declared.retransmissions.SuccessDue.TheVariants as repeat
use Rattle.sip_served.specs.Arrival.{first_rseq}
use Rattle.sip_served.specs.Provisionals.{without_rseq}
use Rattle.sip_served.specs.RequestLife.{RequestHappening, EndsSuccess, Finishes, GivesUpProvisionals, MakesDialog, RepeatsProvisionals, RepeatsSuccess, SendsReliably, TakesPrack, next_retransmission, request_happened, success_sent, went_on}
use Rattle.sip_served.specs.Respond.{after_answer, answers, has_ended, makes_or_confirms_dialog, is_reliable, is_sent_reliably, is_user_status, makes, makes_dialog, may_be_reliable, refusal_for, refusal_of_fault, sends_as, with_dialog}
use Rattle.sip_served.specs.Story.{RequestStory, SuccessStory, dialog_by, goes_on, is_prack_of, next_sending, removal_by, request_of, success_by, success_of, to_provisionals, unacknowledged}
use Rattle.sip_served.specs.Tick.{provisionals_go, provisionals_ticked, request_passes, request_ticked, success_answer, success_at_tick, success_goes, success_passes}
use Rattle.sip_served.proofs.FewWait.{IsKept}
use Rattle.sip_served.proofs.Reading.{fold_on}

-- ---- the 2xx

capped_more : (j : ℕ) → min (2 * interval Capped j) T2 ≡ interval Capped (j + 1)
capped_more j = let twice : 2 ^ (j + 1) ≡ 2 * 2 ^ j =
    ap (λ k. 2 ^ k) (add-one j) ∙ two-pow-succ j ∙ omega arith in rw twice (grind arith)

sent_next : (story : SuccessStory) (now : ℕ)
    → next_sending (record story { repeats = story.repeats ++ now ∷ [] })
    ≡ next_retransmission now (next_sending story)
sent_next story now =
    let long : interval Capped (length (story.repeats ++ now ∷ []))
    ≡ min (2 * interval Capped (length story.repeats)) T2 =
    ap (interval Capped) (length-append story.repeats (now ∷ []))
    ∙ sym (capped_more (length story.repeats)) in
    λ i. record {
      due = fold_push (λ last moment. moment) story.sent story.repeats now i + long i;
      interval = long i;
    }

-- the 2xx is sent again as its story says
repeats_on : (now : ℕ) (o : Option SuccessStory)
    → option_map success_of (option_map
    (λ (story : SuccessStory). record story { repeats = story.repeats ++ now ∷ [] }) o)
    ≡ option_map (λ (success : Success). record success {
      retransmission = next_retransmission now success.retransmission;
    }) (option_map success_of o)
repeats_on now None = refl
repeats_on now (Some story) =
    ap (λ r. Some record (success_of story) { retransmission = r }) (sent_next story now)

-- ---- the reliable provisional responses that went out

any_last : {X : Type 0} (test : X → Bool) (xs : List X) (x : X)
    → list_any test (xs ++ x ∷ []) ≡ (list_any test xs || test x)
any_last test [] x = elim (test x) as (λ b. (b || false) ≡ b) [ true ↦ refl | false ↦ refl ]
any_last test (y ∷ xs) x =
    elim (test y) as (λ b. (b || list_any test (xs ++ x ∷ []))
    ≡ ((b || list_any test xs) || test x))
    [ true ↦ refl | false ↦ any_last test xs x ]

keep_all : (xs : List ReliableResponse) → filter (λ _. true) xs ≡ xs
keep_all [] = refl
keep_all (x ∷ xs) = ap (λ ys. x ∷ ys) (keep_all xs)

module _ (h : RequestHappening) where
  abbrev left : List ReliableResponse → List ReliableResponse
  left responses = filter (λ one. not (is_prack_of one.number h)) responses

  left_step : (one : ReliableResponse) (before later : List ReliableResponse) (a b : Bool)
      → is_prack_of one.number h ≡ b → later ≡ left before ++ unacknowledged (h ∷ [])
      → cond (a || b) later (one ∷ later)
      ≡ left (cond a before (one ∷ before)) ++ unacknowledged (h ∷ [])
  left_step one before later true b is same = same
  left_step one before later false true is same =
      same ∙ ap (λ b. cond (not b) (one ∷ left before) (left before) ++ unacknowledged (h ∷ []))
      (sym is)
  left_step one before later false false is same =
      ap (λ more. one ∷ more) same
      ∙ ap (λ b. cond (not b) (one ∷ left before) (left before) ++ unacknowledged (h ∷ [])) (sym is)

  -- a PRACK takes away its own response and no other
  one_more : (life : List RequestHappening)
      → unacknowledged (life ++ h ∷ [])
      ≡ left (unacknowledged life) ++ unacknowledged (h ∷ [])
  one_more [] = refl
  one_more (SendsReliably number response now ∷ life) =
      let one : ReliableResponse = record { number = number; response = response } in
      ap (λ b. cond b (unacknowledged (life ++ h ∷ [])) (one ∷ unacknowledged (life ++ h ∷ [])))
      (any_last (is_prack_of number) life h)
      ∙ left_step one (unacknowledged life) (unacknowledged (life ++ h ∷ []))
      (list_any (is_prack_of number) life) (is_prack_of number h) refl (one_more life)
  one_more (MakesDialog dialog ∷ life) = one_more life
  one_more (TakesPrack number ∷ life) = one_more life
  one_more (RepeatsProvisionals numbers now ∷ life) = one_more life
  one_more (GivesUpProvisionals now ∷ life) = one_more life
  one_more (Finishes response status now ∷ life) = one_more life
  one_more (RepeatsSuccess now ∷ life) = one_more life
  one_more (EndsSuccess end ∷ life) = one_more life

-- ---- one thing that happens to a request

-- a reliable response that goes out has the next RSeq; sending again and giving up are due
abbrev Fits : HeldRequest → RequestHappening → Type 0
Fits held (SendsReliably number response now) = number ≡ held.ledger.next
Fits held (RepeatsProvisionals numbers now) =
    (tick.Again record { items = numbers } ≡ tick_answer held.ledger now) × IsKept held
Fits held (GivesUpProvisionals now) =
    (tick.GivenUp ≡ tick_answer held.ledger now) × IsKept held
Fits held _ = Unit {0}

module _ (story : RequestStory) where
  abbrev was : HeldRequest
  was = request_of story

  abbrev happened_before : List reliable.Happening
  happened_before = filter_map to_provisionals story.life

  abbrev has_100rel : Bool
  has_100rel = supports_100rel story.arrival.request

  abbrev success_before : Option SuccessStory
  success_before = fold (success_by story.arrival) None story.life

  abbrev held_so : Option DialogReference → Ledger → List ReliableResponse → Option Success
      → Option ℕ
      → HeldRequest
  held_so dialog ledger provisionals success removal = record story.arrival {
    dialog = dialog;
    ledger = ledger;
    provisionals = provisionals;
    success = success;
    removal = removal;
  }

  -- the request with this ledger and these responses that wait
  after : (h : RequestHappening) (ledger : Ledger) (provisionals : List ReliableResponse)
      → ledger_after first_rseq has_100rel (happened_before ++ filter_map to_provisionals (h ∷ []))
      ≡ ledger → left h (unacknowledged story.life) ++ unacknowledged (h ∷ []) ≡ provisionals
      → request_of (goes_on (h ∷ []) story)
      ≡ held_so (dialog_by was.dialog h) ledger provisionals
      (option_map success_of (success_by story.arrival success_before h))
      (removal_by was.removal h)
  after h ledger provisionals same waits =
      let ledgers =
      ap (ledger_after first_rseq has_100rel)
      (filter_map-append to_provisionals story.life (h ∷ [])) ∙ same in
      let responses = one_more h story.life ∙ waits in
      λ i. held_so (fold_on dialog_by story.arrival.dialog story.life (h ∷ []) i) (ledgers i)
      (responses i)
      (option_map success_of (fold_on (success_by story.arrival) None story.life (h ∷ []) i))
      (fold_on removal_by None story.life (h ∷ []) i)

  still : ledger_after first_rseq has_100rel (happened_before ++ []) ≡ was.ledger
  still = ap (ledger_after first_rseq has_100rel) (append-nil happened_before)

  none_left : filter (λ _. true) was.provisionals ++ [] ≡ was.provisionals
  none_left = append-nil (filter (λ _. true) was.provisionals) ∙ keep_all was.provisionals

  tick_after : (t : Tick) (now : ℕ) → t ≡ tick_answer was.ledger now → IsKept was
      → ledger_after first_rseq has_100rel (happened_before ++ happenings_of t now)
      ≡ ticked t was.ledger now
  tick_after t now is kept =
      sym (tick_stands was.ledger (ticked t was.ledger now) t was.ledger.first was.ledger.next now
      kept.rise is refl first_rseq has_100rel happened_before refl)

  happens : (h : RequestHappening) → Fits was h
      → request_of (goes_on (h ∷ []) story) ≡ request_happened was h
  happens (MakesDialog dialog) fits =
      after (MakesDialog dialog) was.ledger was.provisionals still none_left
  happens (SendsReliably number response now) fits =
      let body = nat_lt 0 (length response.body) in
      after (SendsReliably number response now) (with_sent body now was.ledger)
      (was.provisionals ++ record { number = number; response = response } ∷ [])
      (sym (send_stands was.ledger (with_sent body now was.ledger) (Ok number) body now fits refl
      first_rseq has_100rel happened_before refl))
      (ap (λ xs. xs ++ record { number = number; response = response } ∷ [])
      (keep_all was.provisionals))
  happens (TakesPrack number) fits =
      after (TakesPrack number) (acknowledged number was.ledger)
      (without_rseq number was.provisionals)
      (sym (acknowledge_stands {E = Unit {0}} was.ledger (acknowledged number was.ledger) (Ok tt)
      number refl first_rseq has_100rel happened_before refl))
      (append-nil (without_rseq number was.provisionals))
  happens (RepeatsProvisionals numbers now) fits =
      let t = tick.Again record { items = numbers } in
      after (RepeatsProvisionals numbers now) (ticked t was.ledger now) was.provisionals
      (tick_after t now fits.0 fits.1) none_left
  happens (GivesUpProvisionals now) fits =
      after (GivesUpProvisionals now) (ticked tick.GivenUp was.ledger now) was.provisionals
      (tick_after tick.GivenUp now fits.0 fits.1) none_left
  happens (Finishes response status now) fits =
      after (Finishes response status now) (closed_now was.ledger) was.provisionals
      (sym (close_stands was.ledger (closed_now was.ledger) refl first_rseq has_100rel
      happened_before refl)) none_left
      ∙ ap (λ success. held_so was.dialog (closed_now was.ledger) was.provisionals success
      (Some (now + LIFETIME))) (by_success (is_invite story.arrival.request && is_success status))
    where
      by_success : (b : Bool) → option_map success_of (if b
          then Some record { response = response; sent = now; repeats = []; over = None }
          else success_before)
          ≡ (if b then Some (success_sent response now) else was.success)
      by_success true = refl
      by_success false = refl
  happens (RepeatsSuccess now) fits =
      after (RepeatsSuccess now) was.ledger was.provisionals still none_left
      ∙ ap (λ success. held_so was.dialog was.ledger was.provisionals success was.removal)
      (repeats_on now success_before)
  happens (EndsSuccess end) fits =
      after (EndsSuccess end) was.ledger was.provisionals still none_left
      ∙ ap (λ success. held_so was.dialog was.ledger was.provisionals success was.removal)
      (by_success success_before)
    where
      by_success : (o : Option SuccessStory) → option_map success_of
          (option_map (λ (story : SuccessStory). record story { over = Some end }) o)
          ≡ option_map (λ (success : Success). record success { over = Some end })
          (option_map success_of o)
      by_success None = refl
      by_success (Some story) = refl

-- ---- one thing after another

abbrev pub AllFit : HeldRequest → List RequestHappening → Type 0
AllFit held [] = Unit {0}
AllFit held (h ∷ more) = Fits held h × AllFit (request_happened held h) more

pub all_happen : (more : List RequestHappening) (story : RequestStory)
    → AllFit (request_of story) more
    → request_of (goes_on more story) ≡ went_on more (request_of story)
all_happen [] story fits =
    ap (λ life. request_of record story { life = life }) (append-nil story.life)
all_happen (h ∷ more) story fits =
    let step = happens story h fits.0 in
    ap (λ life. request_of record story { life = life })
    (sym (append_assoc story.life (h ∷ []) more))
    ∙ all_happen more (goes_on (h ∷ []) story)
    (subst (λ (held : HeldRequest). AllFit held more) (sym step) fits.1)
    ∙ ap (went_on more) step

-- ---- an answer of the user

unused : (b c d e f : Bool) (o : Option SendFault) (other : Option Refusal)
    → cond b (Some bad.BadStatus) (cond c (Some bad.AlreadyFinal)
    (cond d (Some bad.NotSupported) (cond e (Some bad.DialogEnded)
    (cond f (option_map refusal_of_fault o) other)))) ≡ None
    → f ≡ true → o ≡ None
unused true c d e f o other none is = absurd cc
unused false true d e f o other none is = absurd cc
unused false false true e f o other none is = absurd cc
unused false false false true f o other none is = absurd cc
unused false false false false true None other none is = refl
unused false false false false true (Some fault) other none is = absurd cc
unused false false false false false o other none is = absurd (true≢false (sym is))

-- a reliable answer has a number
abbrev pub Numbered : Answer → HeldRequest → Type 0
Numbered r held =
    is_sent_reliably held r.status r.reliability ≡ true → send_fault held.ledger ≡ None

pub numbered_by : (dialogs : Dialogs) (r : Answer) (held : HeldRequest)
    → refusal_for dialogs r held ≡ None → Numbered r held
numbered_by dialogs r held none =
    unused (not (is_user_status r.status)) (is_some held.removal) (is_reliable r.reliability
    && not (may_be_reliable held r.status)) (makes_or_confirms_dialog held r.status
    && has_ended dialogs held)
    (is_sent_reliably held r.status r.reliability) (send_fault held.ledger) _ none

module _ (event : Id) (r : Answer) (response : Message) (now : ℕ) (held : HeldRequest) where
  abbrev pub answer_happens : List RequestHappening
  answer_happens = makes event held r.status ++ answers held r.status r.reliability response now

  sends_fit : (one : HeldRequest) → one.ledger ≡ held.ledger → send_fault held.ledger ≡ None
      → AllFit one (sends_as (send_answer held.ledger) response now)
  sends_fit one same none =
      subst (λ o. AllFit one (sends_as (ok_unless o held.ledger.next) response now)) (sym none)
      (ap (λ (l : Ledger). l.next) (sym same), tt)

  answers_fit : (one : HeldRequest) → one.ledger ≡ held.ledger → Numbered r held
      → AllFit one (answers held r.status r.reliability response now)
  answers_fit one same has_number =
      by_bool (is_sent_reliably held r.status r.reliability)
      (λ e. rw e (sends_fit one same (has_number e)))
      (λ e. by_bool (is_final r.status) (λ f. rw (e, f) (tt, tt)) (λ f. rw (e, f) tt))

  abbrev made : DialogReference
  made = record { name = dialog_id_of held.request held.tag; created_by = event }

  pub answer_fits : Numbered r held → AllFit held answer_happens
  answer_fits has_number =
      elim (makes_dialog held r.status) as (λ b. AllFit held
      ((if b then MakesDialog made ∷ [] else [])
      ++ answers held r.status r.reliability response now)) [
        | true ↦ (tt, answers_fit record held { dialog = Some made } refl has_number)
        | false ↦ answers_fit held refl has_number
      ]

  -- whether it makes a dialog or not, the rest is the same
  answers_same : answers (with_dialog event r.status held) r.status r.reliability response now
      ≡ answers held r.status r.reliability response now
  answers_same =
      elim (makes_dialog held r.status) as (λ b. answers
      (went_on (if b then MakesDialog made ∷ [] else []) held) r.status r.reliability response now
      ≡ answers held r.status r.reliability response now) [ true ↦ refl | false ↦ refl ]

  pub answer_whole : went_on answer_happens held ≡ after_answer event r response now held
  answer_whole =
      fold_on request_happened held (makes event held r.status)
      (answers held r.status r.reliability response now)
      ∙ ap (λ more. went_on more (with_dialog event r.status held)) (sym answers_same)

-- ---- a tick

pub passes : (now : ℕ) (held : HeldRequest)
    → went_on (request_passes now held) held ≡ (request_ticked now held).0
passes now held = by_success held.success
  where
    rest : List RequestHappening
    rest = provisionals_go (tick_answer held.ledger now) now

    by_due : (due : SuccessDue) → went_on (success_goes due now ++ rest) held
        ≡ (provisionals_ticked now (went_on (success_goes due now) held)).0
    by_due repeat.Nothing = refl
    by_due repeat.Again = refl
    by_due repeat.GivenUp = refl

    by_success : (o : Option Success) → went_on (success_passes now o ++ rest) held
        ≡ (provisionals_ticked now (success_at_tick now held o).0).0
    by_success None = refl
    by_success (Some success) = by_due (success_answer now success)

provisionals_fit : (now : ℕ) (held : HeldRequest) (t : Tick) → t ≡ tick_answer held.ledger now
    → IsKept held → AllFit held (provisionals_go t now)
provisionals_fit now held tick.Nothing is kept = tt
provisionals_fit now held (tick.Again numbers) is kept = ((is, kept), tt)
provisionals_fit now held tick.GivenUp is kept = ((is, kept), tt)

pub passes_fit : (now : ℕ) (held : HeldRequest) → IsKept held
    → AllFit held (request_passes now held)
passes_fit now held kept = by_success held.success
  where
    rest : List RequestHappening
    rest = provisionals_go (tick_answer held.ledger now) now

    rest_fit : (one : HeldRequest) → one.ledger ≡ held.ledger → AllFit one rest
    rest_fit one same =
        provisionals_fit now one (tick_answer held.ledger now)
        (ap (λ ledger. tick_answer ledger now) (sym same))
        (subst (λ (l : Ledger). IsSound l.first l.next l.waiting) (sym same) kept)

    by_due : (due : SuccessDue) → AllFit held (success_goes due now ++ rest)
    by_due repeat.Nothing = rest_fit held refl
    by_due repeat.Again = (tt, rest_fit (request_happened held (RepeatsSuccess now)) refl)
    by_due repeat.GivenUp = (tt, rest_fit (request_happened held (EndsSuccess GivenUp)) refl)

    by_success : (o : Option Success) → AllFit held (success_passes now o ++ rest)
    by_success None = rest_fit held refl
    by_success (Some success) = by_due (success_answer now success)
