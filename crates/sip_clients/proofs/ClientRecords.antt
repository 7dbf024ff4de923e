-- A held client request after something happened to it is what its longer story says.
use Rattle.std.proofs.Common.{◌≡◌, ℕ, ◌+◌, ◌*◌, Bool, true, false, cond, ◌||◌, List, [], ◌∷◌, ◌++◌, refl, sym, ap, ◌∙◌, append-nil, append_assoc}
use Rattle.std.specs.Prelude.{Option, None, Some, filter_map, fold, unwrap_or, if◌then◌else◌}
use Rattle.std.specs.List.{last_or, list_any}
use Rattle.std.specs.Option.{option_map, option_map_or}
use Rattle.std.proofs.lemmas.List.Elements.{filter_map-append}
use Rattle.std.proofs.lemmas.List.Folds.{list_any-append}
use Rattle.std.proofs.lemmas.List.Sums.{fold_push}
use Rattle.sip_message.specs.declared.id.Id.{Id}
use Rattle.sip_timers.specs.declared.estimate.TheConstants.{LIFETIME, T1}
use Rattle.sip_held_dialogs.specs.declared.held_dialog.DialogReference.{DialogReference}
use Rattle.sip_clients.specs.declared.client.Cancelling.{Cancelling}
use Rattle.sip_clients.specs.declared.client.Cancelling.TheVariants.{NotAsked, Waits, Sent}
use Rattle.sip_clients.specs.declared.client.Client.{Client}
use Rattle.sip_clients.specs.declared.client.RequestKind.{RequestKind}
use Rattle.sip_clients.specs.declared.client.RequestKind.TheVariants.{InitialInvite, ReInvite, InDialog, OutOfDialog}
use Rattle.sip_clients.specs.Cancel.{cancelling_after}
use Rattle.sip_clients.specs.ClientLife.{ClientHappening, AsksCancel, GetsSuccess, GetsSuccessAgain, SendsCancel, TakesReliable}
use Rattle.sip_clients.specs.ClientStory.{ClientStory, with_answer, asked_first, cancelling_of, client_told, first_success, is_cancel_sent, is_provisional_response, is_success_response, last_rseq, lives_on, rseq_taken}

-- ---- the record after one thing

-- the state of its cancelling after one more command
abbrev pub asked_again : Id → Cancelling → Cancelling
asked_again id NotAsked = Waits id
asked_again id (Waits first) = Waits first
asked_again id Sent = Sent

abbrev pub cancelling_by : Cancelling → ClientHappening → Cancelling
cancelling_by cancel (GetsSuccess name moment) = cancelling_after true cancel
cancelling_by cancel (GetsSuccessAgain name) = cancelling_after true cancel
cancelling_by cancel (AsksCancel id) = asked_again id cancel
cancelling_by cancel (SendsCancel sent) = Sent
cancelling_by cancel _ = cancel

-- for a first INVITE the dialogs keep the RSeq that is taken
abbrev pub heard_taken : RequestKind → Option ℕ → ℕ → Option ℕ
heard_taken InitialInvite last_rseq rseq = last_rseq
heard_taken _ last_rseq rseq = Some rseq

abbrev pub heard_by : RequestKind → Option ℕ → ClientHappening → Option ℕ
heard_by kind last_rseq (TakesReliable rseq) = heard_taken kind last_rseq rseq
heard_by kind last_rseq _ = last_rseq

abbrev pub removal_by : Option ℕ → ClientHappening → Option ℕ
removal_by removal (GetsSuccess name moment) = Some (unwrap_or removal (moment + LIFETIME))
removal_by removal _ = removal

abbrev pub client_happened : Client → ClientHappening → Client
client_happened client h = record client {
  provisional = client.provisional || is_provisional_response h;
  cancel = cancelling_by client.cancel h;
  last_rseq = heard_by client.kind client.last_rseq h;
  answers = with_answer client.answers h;
  removal = removal_by client.removal h;
}

-- ---- its provisional responses

pub or_false : (b : Bool) → (b || false) ≡ b
or_false true = refl
or_false false = refl

pub any_more : (test : ClientHappening → Bool) (life : List ClientHappening) (h : ClientHappening)
    → list_any test (life ++ h ∷ []) ≡ (list_any test life || test h)
any_more test life h =
    list_any-append test life (h ∷ []) ∙ ap (λ b. list_any test life || b) (or_false (test h))

pub last_push : {X : Type 0} (o : Option X) (xs : List X) (x : X)
    → last_or o (xs ++ x ∷ []) ≡ Some x
last_push o [] x = refl
last_push o (y ∷ xs) x = last_push (Some y) xs x

-- the latest RSeq, by those taken before and now
abbrev heard_then : List ℕ → ClientHappening → Option ℕ
heard_then rseqs h = last_or None (rseqs ++ filter_map rseq_taken (h ∷ []))

last_taken : (rseqs : List ℕ) (h : ClientHappening)
    → heard_then rseqs h ≡ heard_by OutOfDialog (last_or None rseqs) h
last_taken rseqs (TakesReliable rseq) = last_push None rseqs rseq
last_taken rseqs _ = ap (last_or None) (append-nil rseqs)

none_taken : (h : ClientHappening) → None ≡ heard_by InitialInvite None h
none_taken (TakesReliable rseq) = refl
none_taken _ = refl

taken_more : (life : List ClientHappening) (h : ClientHappening)
    → last_rseq OutOfDialog (life ++ h ∷ []) ≡ heard_by OutOfDialog (last_rseq OutOfDialog life) h
taken_more life h =
    ap (last_or None) (filter_map-append rseq_taken life (h ∷ []))
    ∙ last_taken (filter_map rseq_taken life) h

as_inside : (own : DialogReference) (last_rseq : Option ℕ) (h : ClientHappening)
    → heard_by OutOfDialog last_rseq h ≡ heard_by (InDialog own) last_rseq h
as_inside own last_rseq (TakesReliable rseq) = refl
as_inside own last_rseq _ = refl

as_again : (own : DialogReference) (last_rseq : Option ℕ) (h : ClientHappening)
    → heard_by OutOfDialog last_rseq h ≡ heard_by (ReInvite own) last_rseq h
as_again own last_rseq (TakesReliable rseq) = refl
as_again own last_rseq _ = refl

heard_more : (kind : RequestKind) (life : List ClientHappening) (h : ClientHappening)
    → last_rseq kind (life ++ h ∷ []) ≡ heard_by kind (last_rseq kind life) h
heard_more InitialInvite life h = none_taken h
heard_more (ReInvite own) life h = taken_more life h ∙ as_again own (last_rseq OutOfDialog life) h
heard_more (InDialog own) life h = taken_more life h ∙ as_inside own (last_rseq OutOfDialog life) h
heard_more OutOfDialog life h = taken_more life h

-- ---- its 2xx responses

first_kept : (moment : ℕ) (h : ClientHappening) → removal_by (Some moment) h ≡ Some moment
first_kept moment (GetsSuccess name later) = refl
first_kept moment _ = refl

abbrev removed_at : Option ℕ → Option ℕ
removed_at first = option_map (λ moment. moment + 64 * T1) first

first_now : (h : ClientHappening)
    → removed_at (first_success (h ∷ [])) ≡ removal_by None h
first_now (GetsSuccess name later) = refl
first_now _ = refl

removal_more : (life : List ClientHappening) (h : ClientHappening)
    → removed_at (first_success (life ++ h ∷ [])) ≡ removal_by (removed_at (first_success life)) h
removal_more [] h = first_now h
removal_more (GetsSuccess name moment ∷ life) h = sym (first_kept (moment + 64 * T1) h)
removal_more (_ ∷ life) h = removal_more life h

-- ---- its CANCEL

-- the first command that asked, after one asks or a 2xx comes
abbrev pub asked_by : Option Id → ClientHappening → Option Id
asked_by first (GetsSuccess name moment) = None
asked_by first (GetsSuccessAgain name) = None
asked_by first (AsksCancel id) = Some (unwrap_or first id)
asked_by first _ = first

asked_now : (h : ClientHappening) → asked_first (h ∷ []) ≡ asked_by None h
asked_now (AsksCancel id) = refl
asked_now _ = refl

asked_before : (id : Id) (later more : Option Id) (b : Bool) (h : ClientHappening)
    → more ≡ asked_by later h
    → cond (b || is_success_response h) more (Some id) ≡ asked_by (cond b later (Some id)) h
asked_before id later more true h same = same
asked_before id later more false (GetsSuccess name moment) same = same
asked_before id later more false (GetsSuccessAgain name) same = same
asked_before id later more false _ same = refl

pub asked_more : (life : List ClientHappening) (h : ClientHappening)
    → asked_first (life ++ h ∷ []) ≡ asked_by (asked_first life) h
asked_more [] h = asked_now h
asked_more (AsksCancel id ∷ life) h =
    ap (λ b. cond b (asked_first (life ++ h ∷ [])) (Some id)) (any_more is_success_response life h)
    ∙ asked_before id (asked_first life) (asked_first (life ++ h ∷ []))
    (list_any is_success_response life) h (asked_more life h)
asked_more (_ ∷ life) h = asked_more life h

abbrev cancelling_in : Bool → Option Id → Cancelling
cancelling_in sent asked = if sent then Sent else option_map_or Waits asked NotAsked

cancelling_then : (sent : Bool) (asked : Option Id) (h : ClientHappening)
    → cancelling_in (sent || is_cancel_sent h) (asked_by asked h)
    ≡ cancelling_by (cancelling_in sent asked) h
cancelling_then true asked (SendsCancel sent) = refl
cancelling_then true asked _ = refl
cancelling_then false None (AsksCancel other) = refl
cancelling_then false None _ = refl
cancelling_then false (Some id) (AsksCancel other) = refl
cancelling_then false (Some id) _ = refl

cancelling_more : (life : List ClientHappening) (h : ClientHappening)
    → cancelling_of (life ++ h ∷ []) ≡ cancelling_by (cancelling_of life) h
cancelling_more life h =
    (λ i. cancelling_in (any_more is_cancel_sent life h i) (asked_more life h i))
    ∙ cancelling_then (list_any is_cancel_sent life) (asked_first life) h

-- ---- all of it

happens : (story : ClientStory) (h : ClientHappening)
    → client_told (lives_on (h ∷ []) story) ≡ client_happened (client_told story) h
happens story h = λ i. record {
  id = story.id;
  kind = story.kind;
  request = story.request;
  to = story.to;
  provisional = any_more is_provisional_response story.life h i;
  cancel = cancelling_more story.life h i;
  last_rseq = heard_more story.kind story.life h i;
  answers = fold_push with_answer [] story.life h i;
  removal = removal_more story.life h i;
}

pub all_happen : (more : List ClientHappening) (story : ClientStory)
    → client_told (lives_on more story) ≡ fold client_happened (client_told story) more
all_happen [] story = ap (λ life. client_told record story { life = life }) (append-nil story.life)
all_happen (h ∷ more) story =
    ap (λ life. client_told record story { life = life })
    (sym (append_assoc story.life (h ∷ []) more))
    ∙ all_happen more (lives_on (h ∷ []) story)
    ∙ ap (λ client. fold client_happened client more) (happens story h)

-- a request that was just sent has no story yet
pub none_heard : (kind : RequestKind) → last_rseq kind [] ≡ None
none_heard InitialInvite = refl
none_heard (ReInvite own) = refl
none_heard (InDialog own) = refl
none_heard OutOfDialog = refl
