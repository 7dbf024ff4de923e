-- What a response makes happen in the dialog of each name, which goes on, ends or is made anew, and
-- the latest RSeq of the first INVITE in it.
use Rattle.std.proofs.Common.{◌≡◌, inl, inr, ℕ, Bool, true, false, ◌&&◌, cond, List, [], refl, sym, ap, subst, ◌∙◌}
use Rattle.std.specs.Prelude.{Option, None, Some, if◌then◌else◌}
use Rattle.indexmap.specs.IndexMap.{insert_entry}
use Rattle.sip_message.specs.declared.id.Id.{Id}
use Rattle.sip_message.specs.declared.message.Message.{Message}
use Rattle.sip_message.specs.Party.{tag_of}
use Rattle.sip_dialog.specs.declared.dialog.Dialog.{Dialog}
use Rattle.sip_dialog.specs.Life.{Happening}
use Rattle.sip_dialog.specs.Opening.{ByResponse, Opening, contact_uri, opened as dialog_opened}
use Rattle.sip_held_dialogs.specs.declared.pending_request.PendingRequest.TheVariants.{Ack, Prack}
use Rattle.sip_held_dialogs.specs.declared.held_dialog.DialogId.{DialogId}
use Rattle.sip_held_dialogs.specs.declared.held_dialog.HeldDialog.{HeldDialog}
use Rattle.sip_held_dialogs.specs.Dialogs.{dialog_at, is_dialog_id, Dialogs}
use Rattle.sip_held_dialogs.specs.Requests.{is_final, dialog_id_of_tags}
use Rattle.sip_held_dialogs.specs.Sent.{name_of_dialog}
use Rattle.sip_clients.specs.declared.client.RequestKind.{RequestKind}
use Rattle.sip_clients.specs.declared.client.RequestKind.TheVariants.{InitialInvite, ReInvite, InDialog, OutOfDialog}
use Rattle.sip_clients.specs.declared.client.Client.{Client}
use Rattle.sip_clients.specs.declared.reply.ReceivedResponse.{ReceivedResponse}
use Rattle.sip_clients.specs.declared.reply.ReplyCase.{ReplyCase}
use Rattle.sip_clients.specs.declared.reply.ReplyCase.TheVariants as reply
use Rattle.sip_clients.specs.Answers.{has_answer}
use Rattle.sip_clients.specs.Clients.{reply_name}
use Rattle.sip_clients.specs.Pending.{kept_pending}
use Rattle.sip_clients.specs.Dialogs.{accepted, accepted_in, hearing, dialog_by_response, dialog_for_provisional}
use Rattle.sip_clients.specs.Happenings.{success_brings}
use Rattle.sip_clients.specs.Replied.{ack_owed, by_reply_case, heard_first, automatic_body, prack_owed, dialogs_with}
use Rattle.sip_clients.specs.ReceivedResponse.{heard_of, is_dialog_response, has_dialog, reliable_case, reply_case, rseq_of}
use Rattle.sip_held_dialogs.proofs.Entries as entries
use Rattle.sip_held_dialogs.proofs.Heard.{AreApart, Goes, Keeps, Life, Moves, OpensBy, Stays, in_one, keeps_same, keeps_then, name_laws, none_either, nothing, same_name, stays_same, tag_kept}
use Rattle.sip_held_dialogs.proofs.Lives.{cases_fit}
use Rattle.sip_clients.proofs.CommandDialogs.{owed_keeps}
use Rattle.sip_clients.proofs.SentIn.{discharge_life}

abbrev pub heard_number : ReplyCase → RequestKind → Bool → Option ℕ
heard_number (reply.Reliable number) InitialInvite true = Some number
heard_number _ kind named = None

pub unnamed_unheard : (case : ReplyCase) (kind : RequestKind) → heard_number case kind false ≡ None
unnamed_unheard reply.Repeated kind = refl
unnamed_unheard reply.Accepted kind = refl
unnamed_unheard reply.Late kind = refl
unnamed_unheard (reply.Reliable number) InitialInvite = refl
unnamed_unheard (reply.Reliable number) (ReInvite life) = refl
unnamed_unheard (reply.Reliable number) (InDialog life) = refl
unnamed_unheard (reply.Reliable number) OutOfDialog = refl
unnamed_unheard reply.Passed kind = refl
unnamed_unheard reply.Early kind = refl
unnamed_unheard reply.Told kind = refl

-- a dialog may be made in these cases
abbrev pub may_make : ReplyCase → Bool
may_make reply.Repeated = false
may_make reply.Accepted = true
may_make reply.Late = false
may_make (reply.Reliable number) = true
may_make reply.Passed = false
may_make reply.Early = true
may_make reply.Told = false

-- what a 2xx does in a dialog that is held
pub success_keeps : (kind : RequestKind) (response : Message) (held : HeldDialog)
    → Keeps None (success_brings kind response held) held (accepted_in kind response held)
success_keeps InitialInvite response held = (refl, refl, ((cases_fit held).confirms response, refl))
success_keeps (ReInvite life) response held =
    (refl, refl, ((cases_fit held).retargets (contact_uri response), refl))
success_keeps (InDialog life) response held = keeps_same held
success_keeps OutOfDialog response held = keeps_same held

-- a response to any other request makes no dialog
makes_first : (kind : RequestKind) (final again inside : Bool) (last_rseq rseq : Option ℕ)
    → may_make (if final then (if again then reply.Repeated
    else (if has_dialog kind None then reply.Accepted else reply.Late))
    else (if inside && has_dialog kind None then reliable_case last_rseq rseq else reply.Told))
    ≡ true
    → kind ≡ InitialInvite
makes_first InitialInvite final again inside last_rseq rseq makes = refl
makes_first (ReInvite life) true true inside last_rseq rseq makes = absurd cc
makes_first (ReInvite life) true false inside last_rseq rseq makes = absurd cc
makes_first (ReInvite life) false again true last_rseq rseq makes = absurd cc
makes_first (ReInvite life) false again false last_rseq rseq makes = absurd cc
makes_first (InDialog life) true true inside last_rseq rseq makes = absurd cc
makes_first (InDialog life) true false inside last_rseq rseq makes = absurd cc
makes_first (InDialog life) false again true last_rseq rseq makes = absurd cc
makes_first (InDialog life) false again false last_rseq rseq makes = absurd cc
makes_first OutOfDialog true true inside last_rseq rseq makes = absurd cc
makes_first OutOfDialog true false inside last_rseq rseq makes = absurd cc
makes_first OutOfDialog false again true last_rseq rseq makes = absurd cc
makes_first OutOfDialog false again false last_rseq rseq makes = absurd cc

-- a dialog that a response makes has the name of its tags
abbrev pub IsNamedSo : Client → ReceivedResponse → Option HeldDialog → Type 0
IsNamedSo client answer found = found ≡ None
    → is_dialog_id answer.name
    (name_of_dialog (dialog_opened (ByResponse client.request answer.response))) ≡ true

pub first_name : (client : Client) (answer : ReceivedResponse) (found : Option HeldDialog)
    → answer.name ≡ reply_name InitialInvite client answer.response → IsNamedSo client answer found
first_name client answer found own none =
    let from = (client.request).from in
    let to = (answer.response).to in
    let tags = name_of_dialog (dialog_opened (ByResponse client.request answer.response)) in
    let same : answer.name ≡ tags =
    own ∙ (λ i. dialog_id_of_tags (sym (tag_kept (tag_of from)) i) (sym (tag_kept (tag_of to)) i))
    in
    ap (λ name. is_dialog_id name tags) same ∙ name_laws.refl tags

pub reply_names : (client : Client) (answer : ReceivedResponse) (found : Option HeldDialog)
    → answer.name ≡ reply_name client.kind client answer.response
    → may_make (reply_case client found answer) ≡ true → IsNamedSo client answer found
reply_names client answer found own makes none =
    let first : client.kind ≡ InitialInvite =
    makes_first client.kind (is_final answer.status) (has_answer answer.name client.answers)
    (is_dialog_response answer) (heard_of client.kind client None) (rseq_of answer.response)
    (ap (λ (found : Option HeldDialog). may_make (reply_case client found answer)) (sym none)
    ∙ makes) in
    first_name client answer found
    (own ∙ ap (λ kind. reply_name kind client answer.response) first) none

module _ (event : Option Id) (client : Client) (answer : ReceivedResponse)
    (made : event ≡ Some (answer.event).id) where
  abbrev pub start : Opening
  start = ByResponse client.request answer.response

  abbrev pub prack_life : ℕ → Dialog → List Happening
  prack_life number dialog =
      discharge_life (Prack number ((client.request).cseq).number)
      (automatic_body client answer.response) dialog

  -- what happens in the dialog of its name, if it is held or opened
  abbrev pub case_life : ReplyCase → Life
  case_life reply.Repeated held = []
  case_life reply.Accepted held = success_brings client.kind answer.response held
  case_life reply.Late held = []
  case_life (reply.Reliable number) held = prack_life number held.dialog
  case_life reply.Passed held = []
  case_life reply.Early held = []
  case_life reply.Told held = []

  abbrev pub case_begun : ReplyCase → Option HeldDialog → List Happening
  case_begun reply.Repeated found = []
  case_begun reply.Accepted found = []
  case_begun reply.Late found = []
  case_begun (reply.Reliable number) found =
      prack_life number (dialog_for_provisional client answer found).dialog
  case_begun reply.Passed found = []
  case_begun reply.Early found = []
  case_begun reply.Told found = []

  -- ---- the dialog of its name

  abbrev GoesTo : ReplyCase → Option HeldDialog → HeldDialog → DialogId → Type 0
  GoesTo case found after other =
      Goes event (OpensBy (Some start) other) (heard_number case client.kind true) (case_life case)
      (case_begun case found) found (Some after)

  abbrev GoesHere : ReplyCase → Option HeldDialog → HeldDialog → Type 0
  GoesHere case found after =
      (other : DialogId) → is_dialog_id answer.name other ≡ true → GoesTo case found after other

  opens_so : IsNamedSo client answer None → (other : DialogId) → is_dialog_id answer.name other
      ≡ true
      → OpensBy (Some start) other start
  opens_so named other same =
      (refl, same_name answer.name other (name_of_dialog (dialog_opened start)) (named refl) same)

  opened_goes : (found : Option HeldDialog) → IsNamedSo client answer found
      → GoesHere reply.Early found (dialog_for_provisional client answer found)
  opened_goes None named other same =
      inr (made, refl, (start, opens_so named other same, (tt, refl)), inl refl)
  opened_goes (Some held) named other same = inl (keeps_same held)

  ack_goes : (found : Option HeldDialog) → IsNamedSo client answer found
      → GoesHere reply.Accepted found (ack_owed client (accepted client answer found) answer).0
  unfolding ack_owed
  ack_goes found named other same = by_found found named
    where
      keeps : (held : HeldDialog) → Keeps None [] held (ack_owed client held answer).0
      keeps held = owed_keeps answer.event (Ack client.id ((client.request).cseq).number)
          (automatic_body client answer.response) held

      by_found : (found : Option HeldDialog) → IsNamedSo client answer found
          → GoesTo reply.Accepted found (ack_owed client (accepted client answer found) answer).0
          other
      by_found None named =
          let kept = keeps (dialog_by_response client answer) in
          inr (
            made ∙ ap (λ id. Some id) (sym kept.0),
            kept.1,
            (start, opens_so named other same, kept.2),
            inl refl,
          )
      by_found (Some held) named =
          let before = accepted_in client.kind answer.response held in
          inl (keeps_then None (success_brings client.kind answer.response held) held before
          (ack_owed client before answer).0
          (success_keeps client.kind answer.response held) (keeps before))

  -- the dialog after a reliable provisional response, whose PRACK is owed in it
  abbrev prack_owes : ℕ → HeldDialog → HeldDialog
  prack_owes number held =
      (kept_pending answer.event (Prack number ((client.request).cseq).number)
      (automatic_body client answer.response) held).0

  abbrev GoesBy : Option ℕ → (HeldDialog → HeldDialog) → ℕ → Option HeldDialog → Type 0
  GoesBy came hears number found = (other : DialogId) → is_dialog_id answer.name other ≡ true
      → Goes event (OpensBy (Some start) other) came (case_life (reply.Reliable number))
      (case_begun (reply.Reliable number) found) found
      (Some (prack_owes number (hears (dialog_for_provisional client answer found))))

  goes_by : (came : Option ℕ) (hears : HeldDialog → HeldDialog) (number : ℕ)
      → ((held : HeldDialog)
      → Keeps came (prack_life number held.dialog) held (prack_owes number (hears held)))
      → (found : Option HeldDialog) → IsNamedSo client answer found
      → GoesBy came hears number found
  goes_by came hears number keeps None named other same =
      let kept = keeps (dialog_by_response client answer) in
      inr (
        made ∙ ap (λ id. Some id) (sym kept.0),
        kept.1,
        (start, opens_so named other same, kept.2),
        inl refl,
      )
  goes_by came hears number keeps (Some held) named other same = inl (keeps held)

  unheard_goes : (number : ℕ) (found : Option HeldDialog) → IsNamedSo client answer found
      → GoesBy None (λ held. held) number found
  unheard_goes number =
      goes_by None (λ held. held) number (λ held. owed_keeps answer.event
      (Prack number ((client.request).cseq).number) (automatic_body client answer.response) held)

  prack_goes : (kind : RequestKind) (number : ℕ) (found : Option HeldDialog)
      → IsNamedSo client answer found
      → GoesBy (heard_number (reply.Reliable number) kind true) (heard_first kind number) number
      found
  prack_goes InitialInvite number found named =
      goes_by (Some number) (hearing number) number (λ held. owed_keeps answer.event
      (Prack number ((client.request).cseq).number) (automatic_body client answer.response)
      (hearing number held)) found named
  prack_goes (ReInvite life) number found named = unheard_goes number found named
  prack_goes (InDialog life) number found named = unheard_goes number found named
  prack_goes OutOfDialog number found named = unheard_goes number found named

  -- ---- all dialogs

  abbrev pub Answered : ReplyCase → Dialogs → Dialogs → Type 0
  Answered case before after = Moves event (Some start)
      (λ name. heard_number case client.kind (is_dialog_id answer.name name))
      (in_one answer.name (case_life case))
      (λ name. cond (is_dialog_id answer.name name) (case_begun case (dialog_at answer.name before))
      [])
      before after

  still : (b : Bool) (o : Option HeldDialog) → Stays None (λ held. cond b [] []) o o
  still b None = tt
  still b (Some held) =
      subst (λ (life : List Happening). Keeps None life held held) (sym (none_either b))
      (keeps_same held)

  -- if the dialog of its name is this one
  put_moves : (case : ReplyCase) (held : HeldDialog) (dialogs : Dialogs) → AreApart dialogs
      → GoesHere case (dialog_at answer.name dialogs) held
      → Answered case dialogs (insert_entry is_dialog_id dialogs answer.name held)
  put_moves case held dialogs apart here = record {
    apart = entries.apart_inserted name_laws answer.name held dialogs apart;
    goes = λ name. subst (Goes event (OpensBy (Some start) name)
        (heard_number case client.kind (is_dialog_id answer.name name))
        (in_one answer.name (case_life case) name)
        (cond (is_dialog_id answer.name name) (case_begun case (dialog_at answer.name dialogs)) [])
        (dialog_at name dialogs))
        (sym (entries.found_inserted name_laws answer.name name held dialogs))
        (by_name name (is_dialog_id answer.name name) refl);
  }
    where
      by_name : (name : DialogId) (b : Bool) → is_dialog_id answer.name name ≡ b
          → Goes event (OpensBy (Some start) name) (heard_number case client.kind b)
          (λ held. cond b (case_life case held) [])
          (cond b (case_begun case (dialog_at answer.name dialogs)) []) (dialog_at name dialogs)
          (cond b (Some held) (dialog_at name dialogs))
      by_name name true is =
          subst (λ found. Goes event (OpensBy (Some start) name)
          (heard_number case client.kind true) (case_life case)
          (case_begun case (dialog_at answer.name dialogs)) found (Some held))
          (sym (entries.same_key name_laws answer.name name dialogs is)) (here name is)
      by_name name false is =
          subst (λ came. Goes event (OpensBy (Some start) name) came nothing []
          (dialog_at name dialogs) (dialog_at name dialogs))
          (sym (unnamed_unheard case client.kind)) (inl (stays_same (dialog_at name dialogs)))

  pub case_moves : (case : ReplyCase) (dialogs : Dialogs) → AreApart dialogs
      → (may_make case ≡ true → IsNamedSo client answer (dialog_at answer.name dialogs))
      → Answered case dialogs (dialogs_with answer.name
      (by_reply_case case client (dialog_at answer.name dialogs) answer).1 dialogs)
  unfolding prack_owed
  case_moves reply.Repeated dialogs apart named = record {
    apart = apart;
    goes = λ name. inl (still (is_dialog_id answer.name name) (dialog_at name dialogs));
  }
  case_moves reply.Accepted dialogs apart named =
      let found = dialog_at answer.name dialogs in
      put_moves reply.Accepted (ack_owed client (accepted client answer found) answer).0 dialogs
      apart (ack_goes found (named refl))
  case_moves reply.Late dialogs apart named = record {
    apart = apart;
    goes = λ name. inl (still (is_dialog_id answer.name name) (dialog_at name dialogs));
  }
  case_moves (reply.Reliable number) dialogs apart named =
      let found = dialog_at answer.name dialogs in
      put_moves (reply.Reliable number)
      (prack_owed number client (dialog_for_provisional client answer found) answer).0 dialogs apart
      (prack_goes client.kind number found (named refl))
  case_moves reply.Passed dialogs apart named = record {
    apart = apart;
    goes = λ name. inl (still (is_dialog_id answer.name name) (dialog_at name dialogs));
  }
  case_moves reply.Early dialogs apart named =
      let found = dialog_at answer.name dialogs in
      put_moves reply.Early (dialog_for_provisional client answer found) dialogs apart
      (opened_goes found (named refl))
  case_moves reply.Told dialogs apart named = record {
    apart = apart;
    goes = λ name. inl (still (is_dialog_id answer.name name) (dialog_at name dialogs));
  }
