-- An INVITE in a life of a dialog: what a response leaves unchanged in it, and which case the
-- response is.
use Rattle.std.proofs.Common.{◌≡◌, ℕ, Bool, true, false, ◌&&◌, cond, refl, sym, ap, ◌∙◌}
use Rattle.std.specs.Prelude.{Option, None, Some, if◌then◌else◌}
use Rattle.std.specs.Cmp.{first_so, second_so}
use Rattle.std.specs.Option.{option_map_or}
use Rattle.indexmap.specs.IndexMap.{insert_entry}
use Rattle.keyed_machine.proofs.Ordered.{by_bool}
use Rattle.sip_held_dialogs.specs.declared.pending_request.PendingRequest.TheVariants.{Prack}
use Rattle.sip_held_dialogs.specs.declared.held_dialog.DialogReference.{DialogReference}
use Rattle.sip_held_dialogs.specs.declared.held_dialog.DialogId.{DialogId}
use Rattle.sip_held_dialogs.specs.declared.held_dialog.HeldDialog.{HeldDialog}
use Rattle.sip_held_dialogs.specs.Dialogs.{dialog_at, is_dialog_id, lives, Dialogs}
use Rattle.sip_held_dialogs.specs.Ids.{is_id}
use Rattle.sip_held_dialogs.proofs.Entries as entries
use Rattle.sip_held_dialogs.proofs.Heard.{name_laws}
use Rattle.sip_clients.specs.declared.client.RequestKind.TheVariants.{ReInvite}
use Rattle.sip_clients.specs.declared.client.Client.{Client}
use Rattle.sip_clients.specs.declared.reply.ReceivedResponse.{ReceivedResponse}
use Rattle.sip_clients.specs.declared.reply.ReplyCase.{ReplyCase}
use Rattle.sip_clients.specs.declared.reply.ReplyCase.TheVariants as reply
use Rattle.sip_clients.specs.Answers.{has_answer}
use Rattle.sip_clients.specs.Pending.{kept_pending}
use Rattle.sip_clients.specs.Dialogs.{dialog_for_provisional}
use Rattle.sip_clients.specs.Replied.{by_reply_case, automatic_body, prack_owed}
use Rattle.sip_clients.specs.ReceivedResponse.{has_dialog, reliable_case, success_case}
use Rattle.sip_clients.proofs.CommandDialogs.{owed_keeps}
use Rattle.sip_clients.proofs.FirstInvite.{id_exact}
use Rattle.sip_clients.proofs.FirstReply.{Unheard, number_by}

abbrev pub again : DialogReference → Client → Client
again own client = record client { kind = ReInvite own }

-- ---- the request after a response

pub heard_kept : (case : ReplyCase) (client : Client) (found : Option HeldDialog)
    (answer : ReceivedResponse)
    → Unheard case → ((by_reply_case case client found answer).0).last_rseq ≡ client.last_rseq
heard_kept reply.Repeated client found answer none = refl
heard_kept reply.Accepted client found answer none = refl
heard_kept reply.Late client found answer none = refl
heard_kept (reply.Reliable number) client found answer none = absurd cc
heard_kept reply.Passed client found answer none = refl
heard_kept reply.Early client found answer none = refl
heard_kept reply.Told client found answer none = refl

-- ---- which case it is

abbrev pub case_by : Bool → Bool → Bool → ReplyCase → Option ℕ → Option ℕ → ReplyCase
case_by final inside alive winning last_rseq rseq =
    if final then winning else (if inside
    && alive then reliable_case last_rseq rseq else reply.Told)

-- the dialog isn't held: there is no RSeq, or the response is told like any other
abbrev pub Gone : Option ℕ → ReplyCase → Type 0
Gone None case = Unheard case
Gone (Some number) case = case ≡ reply.Told

pub gone : (final inside : Bool) (winning : ReplyCase) (last_rseq rseq : Option ℕ) → Unheard winning
    → Gone (number_by final inside rseq) (case_by final inside false winning last_rseq rseq)
gone true inside winning last_rseq rseq none = none
gone false true winning last_rseq None none = refl
gone false true winning last_rseq (Some number) none = refl
gone false false winning last_rseq rseq none = refl

pub success_unheard : (own : DialogReference) (client : Client) (answer : ReceivedResponse)
    (found : Option HeldDialog) → Unheard (success_case (again own client) found answer.name)
success_unheard own client answer found =
    elim (has_answer answer.name client.answers) as (λ b.
    Unheard (if b then reply.Repeated
    else (if has_dialog (ReInvite own) found then reply.Accepted else reply.Late))) [
      | true ↦ refl
      | false ↦ elim (has_dialog (ReInvite own) found) as (λ b.
          Unheard (if b then reply.Accepted else reply.Late)) [ true ↦ refl | false ↦ refl ]
    ]

-- ---- lives

pub lives_same : (life own : DialogReference) (dialogs : Dialogs)
    → (is_dialog_id life.name own.name && is_id own.created_by life.created_by) ≡ true
    → lives dialogs own ≡ lives dialogs life
lives_same life own dialogs same =
    let named = first_so (is_dialog_id life.name own.name) (is_id own.created_by life.created_by)
    same in
    let created_by = id_exact own.created_by life.created_by
    (second_so (is_dialog_id life.name own.name) (is_id own.created_by life.created_by) same) in
    λ i. option_map_or (λ (held : HeldDialog). is_id held.created_by (created_by i))
    (entries.same_key name_laws life.name own.name dialogs named i) false

-- the dialog of a name is replaced by one of the same life
lives_put : (life : DialogReference) (name : DialogId) (held after : HeldDialog) (dialogs : Dialogs)
    → dialog_at name dialogs ≡ Some held → after.created_by ≡ held.created_by
    → lives (insert_entry is_dialog_id dialogs name after) life ≡ lives dialogs life
lives_put life name held after dialogs is created_by =
    ap is_own (entries.found_inserted name_laws name life.name after dialogs)
    ∙ by_bool (is_dialog_id name life.name)
    (λ same. ap (λ b. is_own (cond b (Some after) (dialog_at life.name dialogs))) same
    ∙ ap (λ id. is_id id life.created_by) created_by
    ∙ ap is_own (sym (entries.same_key name_laws name life.name dialogs same ∙ is)))
    (λ other. ap (λ b. is_own (cond b (Some after) (dialog_at life.name dialogs))) other)
  where
    is_own : Option HeldDialog → Bool
    is_own o = option_map_or (λ (held : HeldDialog). is_id held.created_by life.created_by) o false

pub lives_owed : (life own : DialogReference) (number : ℕ) (client : Client) (dialogs : Dialogs)
    (answer : ReceivedResponse) (found : Option HeldDialog) → dialog_at answer.name dialogs ≡ found
    → has_dialog (ReInvite own) found ≡ true
    → lives (insert_entry is_dialog_id dialogs answer.name
    (prack_owed number (again own client) (dialog_for_provisional (again own client) answer found)
    answer).0) life
    ≡ lives dialogs life
unfolding prack_owed
lives_owed life own number client dialogs answer None is there = absurd cc
lives_owed life own number client dialogs answer (Some held) is there =
    let pending = Prack number ((client.request).cseq).number in
    let offer = automatic_body client answer.response in
    lives_put life answer.name held (kept_pending answer.event pending offer held).0 dialogs is
    (owed_keeps answer.event pending offer held).0
