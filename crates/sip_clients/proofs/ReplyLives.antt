-- What happens in the dialog of each name by a response: what the response does in it, what goes
-- out in it, and what is owed in it afterwards.
use Rattle.std.proofs.Common.{◌≡◌, ℕ, Bool, true, false, not, ◌&&◌, cond, List, [], ◌++◌, refl, sym, ap, subst, ◌∙◌, append-nil, nat_le, nat_lt, inl, inr}
use Rattle.std.specs.Prelude.{Option, None, Some, if◌then◌else◌}
use Rattle.std.specs.Cmp.{first_so}
use Rattle.std.specs.List.{list_any}
use Rattle.indexmap.specs.IndexMap.{insert_entry}
use Rattle.sip_message.specs.declared.cseq.CSeq.{CSeq}
use Rattle.sip_message.specs.declared.id.Id.{Id}
use Rattle.sip_message.specs.declared.message.Message.{Message}
use Rattle.sip_dialog.specs.Life.{Happening}
use Rattle.sip_dialog.specs.Opening.{ByResponse, Opening}
use Rattle.sip_reliable.specs.declared.offer.Offer.{Offer}
use Rattle.sip_reliable.specs.declared.offer.Offer.TheVariants.{Taken, Repeat, Gap}
use Rattle.sip_reliable.specs.Inbound.{offered}
use Rattle.sip_held_dialogs.specs.declared.pending_request.PendingRequest.TheVariants.{Prack, Ack}
use Rattle.sip_held_dialogs.specs.declared.held_dialog.DialogId.{DialogId}
use Rattle.sip_held_dialogs.specs.declared.held_dialog.HeldDialog.{HeldDialog}
use Rattle.sip_held_dialogs.specs.Dialogs.{Dialogs, dialog_at, is_dialog_id}
use Rattle.sip_held_dialogs.specs.Requests.{is_final, is_success}
use Rattle.sip_held_dialogs.specs.Sent.{NumberedFrom, name_of_dialog, number_before, requests_made}
use Rattle.sip_held_dialogs.specs.declared.pending_request.PendingRequest.{PendingRequest}
use Rattle.sip_user.specs.declared.item.CallOut.{CallOut}
use Rattle.sip_held_dialogs.proofs.Entries as entries
use Rattle.sip_held_dialogs.proofs.Heard.{AreApart, Lives, Moves, in_one, leads_as, moves_as, moves_led, name_laws, none_came, none_either, quiet}
use Rattle.sip_held_dialogs.proofs.Starts.{numbered_none}
use Rattle.sip_held_dialogs.proofs.Owing.{Owes, owes_as, still_same, unchanged}
use Rattle.sip_clients.specs.declared.client.Client.{Client}
use Rattle.sip_clients.specs.declared.client.RequestKind.{RequestKind}
use Rattle.sip_clients.specs.declared.client.RequestKind.TheVariants.{InitialInvite, ReInvite, InDialog, OutOfDialog}
use Rattle.sip_clients.specs.declared.event.Event.{Event}
use Rattle.sip_clients.specs.declared.reply.ReceivedResponse.{ReceivedResponse}
use Rattle.sip_clients.specs.declared.reply.ReplyCase.{ReplyCase}
use Rattle.sip_clients.specs.declared.reply.ReplyCase.TheVariants as reply
use Rattle.sip_clients.specs.declared.outputs.ClientChange.{ClientChange}
use Rattle.sip_clients.specs.declared.send_outcome.SendOutcome.{SendOutcome}
use Rattle.sip_clients.specs.Answers.{has_answer}
use Rattle.sip_clients.specs.Cancel.{after_response}
use Rattle.sip_clients.specs.Clients.{reply_name, reply_of}
use Rattle.sip_clients.specs.Dialogs.{dialog_for_provisional, accepted, accepted_in, dialog_by_response}
use Rattle.sip_clients.specs.Happenings.{reply_brings, success_brings}
use Rattle.sip_clients.specs.Replied.{Replied, after_dialog, by_reply_case, ends_dialog, request_over, heard_first, automatic_body, prack_owed, reply_taken, ack_owed, dialogs_with}
use Rattle.sip_clients.specs.ReceivedResponse.{offer_case, heard_of, is_invite_kind, is_last, is_dialog_response, has_dialog, reliable_case, reply_case, rseq_of}
use Rattle.sip_clients.specs.Outputs.{request_said}
use Rattle.sip_clients.specs.Owing.{asked_for, is_direct, is_of_prack}
use Rattle.sip_clients.specs.Provisionals.{is_response}
use Rattle.sip_clients.proofs.CommandDialogs.{ended_leads}
use Rattle.sip_clients.proofs.ReplyDialogs.{IsNamedSo, case_begun, case_life, case_moves, heard_number, may_make, prack_life, reply_names}
use Rattle.sip_clients.proofs.DialogSends.{AreNamed, made_either, change_cseqs, change_sent, said_change}
use Rattle.sip_clients.proofs.SentIn.{discharge_cseqs, discharge_numbered, owed_sent}
use Rattle.sip_clients.proofs.AskedDebts.{case_told, left_by, case_owes, asks_so, last_asks}
use Rattle.sip_clients.proofs.DialogDebts.{ended_same, goes, unless_out, owed_adds, heard_kept, accepted_kept, ack_goes, prack_owes}

heard_dialog : (kind : RequestKind) (number : ℕ) (held : HeldDialog)
    → (heard_first kind number held).dialog ≡ held.dialog
heard_dialog InitialInvite number held = refl
heard_dialog (ReInvite life) number held = refl
heard_dialog (InDialog life) number held = refl
heard_dialog OutOfDialog number held = refl

success_final : (status : ℕ) → is_success status ≡ true → is_final status ≡ true
success_final status e = first_so (nat_le 200 status) (nat_lt status 300) e

not_last : (final success inviting : Bool) → (final && not (inviting && success)) ≡ false
    → final ≡ true → success ≡ true
not_last true true inviting last is = refl
not_last true false true last is = absurd cc
not_last true false false last is = absurd cc
not_last false success inviting last is = absurd cc

-- which 2xx does something, among the cases of a response
abbrev case_success : ReplyCase → List Happening → List Happening
case_success reply.Repeated life = []
case_success reply.Accepted life = life
case_success reply.Late life = []
case_success (reply.Reliable number) life = []
case_success reply.Passed life = []
case_success reply.Early life = []
case_success reply.Told life = []

no_success : (last_rseq rseq : Option ℕ) (life : List Happening)
    → case_success (reliable_case last_rseq rseq) life ≡ []
no_success last_rseq None life = refl
no_success last_rseq (Some rseq) life = by_offer (offered last_rseq rseq)
  where
    by_offer : (offer : Offer) → case_success (offer_case offer rseq) life ≡ []
    by_offer Taken = refl
    by_offer Repeat = refl
    by_offer Gap = refl

by_parts : (final success again there inside : Bool) (last_rseq rseq : Option ℕ)
    (life : List Happening) → (success ≡ true → final ≡ true) → (final ≡ true → success ≡ true)
    → case_success (if final then (if again then reply.Repeated
    else (if there then reply.Accepted else reply.Late))
    else (if inside && there then reliable_case last_rseq rseq else reply.Told)) life
    ≡ (if success && not again && there then life else [])
by_parts true true true there inside last_rseq rseq life so last = refl
by_parts true true false true inside last_rseq rseq life so last = refl
by_parts true true false false inside last_rseq rseq life so last = refl
by_parts true false again there inside last_rseq rseq life so last =
    let wrong : false ≡ true = last refl in absurd cc
by_parts false true again there inside last_rseq rseq life so last =
    let wrong : false ≡ true = so refl in absurd cc
by_parts false false again true true last_rseq rseq life so last = no_success last_rseq rseq life
by_parts false false again false true last_rseq rseq life so last = refl
by_parts false false again there false last_rseq rseq life so last = refl

module _ (event : Event) (id : Id) (call_id : List ℕ) (response : Message) (status : ℕ)
    (asker : Client) (dialogs : Dialogs) (apart : AreApart dialogs) (named : AreNamed dialogs)
  where
    abbrev own : DialogId
    own = reply_name asker.kind asker response

    -- the request after the response came
    abbrev client : Client
    client = after_response (is_final status) asker

    abbrev answer : ReceivedResponse
    answer = reply_of event id call_id own status response

    abbrev found : Option HeldDialog
    found = dialog_at own dialogs

    abbrev case_now : ReplyCase
    case_now = reply_case client found answer

    abbrev Named : ReplyCase → Type 0
    Named case = may_make case ≡ true → IsNamedSo client answer found

    name_kept : (kind : RequestKind)
        → reply_name kind asker response ≡ reply_name kind client response
    name_kept InitialInvite = refl
    name_kept (ReInvite life) = refl
    name_kept (InDialog life) = refl
    name_kept OutOfDialog = refl

    -- the dialog of the name, as it is opened, has its tags
    opened_named : (o : Option HeldDialog) → found ≡ o → IsNamedSo client answer found
        → is_dialog_id own (name_of_dialog (dialog_for_provisional client answer o).dialog) ≡ true
    opened_named None is so = so is
    opened_named (Some held) is so = named own held is

    -- what goes out, in a dialog that is opened in this way
    abbrev case_cseqs : ReplyCase → Option HeldDialog → List CSeq
    case_cseqs reply.Repeated o = []
    case_cseqs reply.Accepted o = []
    case_cseqs reply.Late o = []
    case_cseqs (reply.Reliable number) o =
        discharge_cseqs (Prack number ((client.request).cseq).number)
        (automatic_body client response)
        (dialog_for_provisional client answer o).dialog
    case_cseqs reply.Passed o = []
    case_cseqs reply.Early o = []
    case_cseqs reply.Told o = []

    begun_made : (case : ReplyCase)
        → requests_made (case_cseqs case found) ≡ case_begun (Some event.id) client answer refl case
        found
    begun_made reply.Repeated = refl
    begun_made reply.Accepted = refl
    begun_made reply.Late = refl
    begun_made (reply.Reliable number) = refl
    begun_made reply.Passed = refl
    begun_made reply.Early = refl
    begun_made reply.Told = refl

    goes_out : (case : ReplyCase) → Named case → (name : DialogId)
        → change_cseqs name (by_reply_case case client found answer).3
        ≡ cond (is_dialog_id own name) (case_cseqs case found) []
    unfolding prack_owed
    goes_out reply.Repeated so name = sym (none_either (is_dialog_id own name))
    goes_out reply.Accepted so name = sym (none_either (is_dialog_id own name))
    goes_out reply.Late so name = sym (none_either (is_dialog_id own name))
    goes_out (reply.Reliable number) so name =
        let held = dialog_for_provisional client answer found in
        let last_rseq = heard_first client.kind number held in
        let same = heard_dialog client.kind number held in
        let pending = Prack number ((client.request).cseq).number in
        said_change name event call_id own (prack_owed number client held answer).1
        ∙ owed_sent name own event last_rseq
        (ap (λ dialog. is_dialog_id own (name_of_dialog dialog)) same
        ∙ opened_named found refl (so refl))
        pending (automatic_body client response)
        ∙ ap (λ dialog. cond (is_dialog_id own name)
        (discharge_cseqs pending (automatic_body client response) dialog) []) same
    goes_out reply.Passed so name = sym (none_either (is_dialog_id own name))
    goes_out reply.Early so name = sym (none_either (is_dialog_id own name))
    goes_out reply.Told so name = sym (none_either (is_dialog_id own name))

    changes : (case : ReplyCase) → Named case → (name : DialogId)
        → change_sent name (by_reply_case case client found answer).3
        ≡ cond (is_dialog_id own name) (case_begun (Some event.id) client answer refl case found) []
    changes case so name =
        ap requests_made (goes_out case so name)
        ∙ sym (made_either (is_dialog_id own name) (case_cseqs case found))
        ∙ ap (λ life. cond (is_dialog_id own name) life []) (begun_made case)

    -- with the next numbers
    abbrev start : Opening
    start = ByResponse client.request response

    case_numbered : (case : ReplyCase) (o : Option HeldDialog)
        → NumberedFrom (number_before (Some start) o) (case_cseqs case o)
    case_numbered reply.Repeated o = numbered_none (number_before (Some start) o)
    case_numbered reply.Accepted o = numbered_none (number_before (Some start) o)
    case_numbered reply.Late o = numbered_none (number_before (Some start) o)
    case_numbered (reply.Reliable number) None =
        discharge_numbered (Prack number ((client.request).cseq).number)
        (automatic_body client response)
        (dialog_for_provisional client answer None).dialog
    case_numbered (reply.Reliable number) (Some held) =
        discharge_numbered (Prack number ((client.request).cseq).number)
        (automatic_body client response)
        held.dialog
    case_numbered reply.Passed o = numbered_none (number_before (Some start) o)
    case_numbered reply.Early o = numbered_none (number_before (Some start) o)
    case_numbered reply.Told o = numbered_none (number_before (Some start) o)

    numbered_so : (case : ReplyCase) → Named case → (name : DialogId)
        → NumberedFrom (number_before (Some start) (dialog_at name dialogs))
        (change_cseqs name (by_reply_case case client found answer).3)
    numbered_so case so name =
        subst (NumberedFrom (number_before (Some start) (dialog_at name dialogs)))
        (sym (goes_out case so name)) (by_name (is_dialog_id own name) refl)
      where
        by_name : (b : Bool) → is_dialog_id own name ≡ b
            → NumberedFrom (number_before (Some start) (dialog_at name dialogs))
            (cond b (case_cseqs case found) [])
        by_name false is = numbered_none (number_before (Some start) (dialog_at name dialogs))
        by_name true is =
            subst (λ (o : Option HeldDialog). NumberedFrom (number_before (Some start) o)
            (case_cseqs case found)) (sym (entries.same_key name_laws own name dialogs is))
            (case_numbered case found)

    -- what happens in the dialog of each name
    abbrev brings : ReplyCase → Lives
    brings case name held =
        cond (is_dialog_id own name) (case_success case (success_brings client.kind response held))
        []

    prack_same : (number : ℕ) (name : DialogId) (held : HeldDialog)
        → dialog_at name dialogs ≡ Some held → (b : Bool) → is_dialog_id own name ≡ b
        → cond b (prack_life (Some event.id) client answer refl number held.dialog) []
        ≡ cond b (prack_life (Some event.id) client answer refl number
        (dialog_for_provisional client answer found).dialog) []
    prack_same number name held at false is = refl
    prack_same number name held at true is =
        ap (λ o. prack_life (Some event.id) client answer refl number
        (dialog_for_provisional client answer o).dialog)
        (sym (sym (entries.same_key name_laws own name dialogs is) ∙ at))

    lives : (case : ReplyCase) → Named case → (name : DialogId) (held : HeldDialog)
        → dialog_at name dialogs ≡ Some held
        → in_one own (case_life (Some event.id) client answer refl case) name held
        ≡ brings case name held ++ change_sent name (by_reply_case case client found answer).3
    lives reply.Repeated so name held at = sym (append-nil (brings reply.Repeated name held))
    lives reply.Accepted so name held at = sym (append-nil (brings reply.Accepted name held))
    lives reply.Late so name held at = sym (append-nil (brings reply.Late name held))
    lives (reply.Reliable number) so name held at =
        prack_same number name held at (is_dialog_id own name) refl
        ∙ sym (changes (reply.Reliable number) so name)
        ∙ ap (λ xs. xs ++ change_sent name (by_reply_case (reply.Reliable number) client found
        answer).3)
        (sym (none_either (is_dialog_id own name)))
    lives reply.Passed so name held at = sym (append-nil (brings reply.Passed name held))
    lives reply.Early so name held at = sym (append-nil (brings reply.Early name held))
    lives reply.Told so name held at = sym (append-nil (brings reply.Told name held))

    abbrev spec_by : Bool → DialogId → HeldDialog → List Happening
    spec_by named name held =
        if named && (is_success status && not (has_answer own client.answers))
        && has_dialog client.kind (Some held) then success_brings client.kind response held else []

    brings_so : is_last client.kind status ≡ false → (name : DialogId) (held : HeldDialog)
        → dialog_at name dialogs ≡ Some held
        → brings case_now name held ≡ reply_brings status asker response name held
    brings_so last name held at = by_name (is_dialog_id own name) refl
      where
        by_name : (b : Bool) → is_dialog_id own name ≡ b
            → cond b (case_success case_now (success_brings client.kind response held)) []
            ≡ spec_by b name held
        by_name false is = refl
        by_name true is =
            ap (λ o. case_success (reply_case client o answer)
            (success_brings client.kind response held))
            (sym (entries.same_key name_laws own name dialogs is) ∙ at)
            ∙ by_parts (is_final status) (is_success status) (has_answer own client.answers)
            (has_dialog client.kind (Some held)) (is_dialog_response answer)
            (heard_of client.kind client (Some held)) (rseq_of response)
            (success_brings client.kind response held) (success_final status)
            (not_last (is_final status) (is_success status) (is_invite_kind client.kind) last)

    -- the last response does nothing in a dialog that goes on
    last_brings : is_last client.kind status ≡ true → (name : DialogId) (held : HeldDialog)
        → reply_brings status asker response name held ≡ []
    last_brings last name held =
        by_kind client.kind (is_dialog_id own name) (is_success status)
        (not (has_answer own client.answers)) (has_dialog client.kind (Some held)) last
      where
        never : (final : Bool) → (final && false) ≡ true → ⊥
        never true e = absurd cc
        never false e = absurd cc

        by_kind : (kind : RequestKind) (named success first there : Bool)
            → (is_final status && not (is_invite_kind kind && success)) ≡ true
            → (if named && (success && first) && there then success_brings kind response held else
            [])
            ≡ []
        by_kind kind true false first there last = refl
        by_kind kind false success first there last = refl
        by_kind InitialInvite true true first there last = absurd (never (is_final status) last)
        by_kind (ReInvite life) true true first there last = absurd (never (is_final status) last)
        by_kind (InDialog life) true true first there last = none_either (first && there)
        by_kind OutOfDialog true true first there last = none_either (first && there)

    abbrev RepliedSo : Replied → Type 0
    RepliedSo done = (came : DialogId → Option ℕ)
        × Moves (Some event.id) (Some start) came
        (λ name held. reply_brings status asker response name held ++ change_sent name done.3)
        (λ name. change_sent name done.3) dialogs done.1
        × ((name : DialogId) → NumberedFrom (number_before (Some start) (dialog_at name dialogs))
        (change_cseqs name done.3))

    by_last : (last : Bool) → is_last client.kind status ≡ last
        → RepliedSo (cond {A = Replied} last (request_over client dialogs answer)
        (after_dialog own dialogs (by_reply_case case_now client found answer)))
    by_last true last =
        let after = (request_over client dialogs answer).1 in
        let life : Lives = λ name held. reply_brings status asker response name held ++ [] in (
          none_came,
          moves_led (Some event.id) (Some (ByResponse client.request response)) (λ name. []) life
              dialogs after
              (leads_as quiet life dialogs after
              (λ name held at. sym (ap (λ xs. xs ++ []) (last_brings last name held)))
              (ended_leads client (ends_dialog status) dialogs apart)),
          λ name. numbered_none (number_before (Some start) (dialog_at name dialogs)),
        )
    by_last false last =
        let done = by_reply_case case_now client found answer in
        let after = (after_dialog own dialogs done).1 in
        let so : Named case_now = reply_names client answer found (name_kept asker.kind) in
        let moves = case_moves (Some event.id) client answer refl case_now dialogs apart so in
        let came : DialogId → Option ℕ =
        λ name. heard_number case_now client.kind (is_dialog_id own name) in (
          came,
          moves_as (Some event.id) (Some (ByResponse client.request response)) came
              (in_one own (case_life (Some event.id) client answer refl case_now))
              (λ name held. reply_brings status asker response name held
              ++ change_sent name done.3)
              (λ name. cond (is_dialog_id own name)
              (case_begun (Some event.id) client answer refl case_now found) [])
              (λ name. change_sent name done.3) dialogs after
              (λ name held at. lives case_now so name held at
              ∙ ap (λ xs. xs ++ change_sent name done.3) (brings_so last name held at))
              (λ name. sym (changes case_now so name)) moves,
          numbered_so case_now so,
        )

    pub replied_so : RepliedSo (reply_taken client dialogs answer)
    replied_so = by_last (is_last client.kind status) refl

    -- ---- what is left owed in the dialog of its name

    abbrev invite_number : ℕ
    invite_number = ((client.request).cseq).number

    abbrev ack_debt : PendingRequest
    ack_debt = Ack client.id invite_number

    abbrev prack_debt : ℕ → PendingRequest
    prack_debt rseq = Prack rseq invite_number

    abbrev acked_so : Option HeldDialog → HeldDialog × SendOutcome
    acked_so o = ack_owed client (accepted client answer o) answer

    abbrev pracked_so : ℕ → Option HeldDialog → HeldDialog × SendOutcome
    pracked_so rseq o = prack_owed rseq client (dialog_for_provisional client answer o) answer

    -- what goes out
    abbrev sent_now : PendingRequest → Bool
    sent_now (Ack invite number) = goes (acked_so found).1
    sent_now (Prack rseq number) = goes (pracked_so rseq found).1

    abbrev case_left : ReplyCase → List PendingRequest
    case_left case = case_owes sent_now ack_debt prack_debt case

    ack_here : (o : Option HeldDialog)
        → Owes (Some event.id) (λ pending_requests. pending_requests
        ++ unless_out (goes (acked_so o).1) ack_debt) o
        (Some (acked_so o).0)
    unfolding ack_owed
    ack_here None =
        let made = dialog_by_response client answer in
        let adds = owed_adds event ack_debt (automatic_body client response) made in
        inr (ap (λ id. Some id) (sym adds.0), adds.1)
    ack_here (Some held) =
        let before = accepted_in client.kind response held in
        let adds = owed_adds event ack_debt (automatic_body client response) before in
        let kept = accepted_kept client.kind response held in
        let left = unless_out (goes (acked_so (Some held)).1) ack_debt in
        inl (adds.0 ∙ kept.0, adds.1 ∙ ap (λ pending_requests. pending_requests ++ left) kept.1)

    prack_here : (rseq : ℕ) (o : Option HeldDialog)
        → Owes (Some event.id)
        (λ pending_requests. pending_requests ++ unless_out (goes (pracked_so rseq o).1)
        (prack_debt rseq)) o
        (Some (pracked_so rseq o).0)
    unfolding prack_owed
    prack_here rseq None =
        let made = dialog_by_response client answer in
        let last_rseq = heard_first client.kind rseq made in
        let adds = owed_adds event (prack_debt rseq) (automatic_body client response) last_rseq in
        let kept = heard_kept client.kind rseq made in
        let left = unless_out (goes (pracked_so rseq None).1) (prack_debt rseq) in
        inr (
          ap (λ id. Some id) (sym (adds.0 ∙ kept.0)),
          adds.1 ∙ ap (λ pending_requests. pending_requests ++ left) kept.1,
        )
    prack_here rseq (Some held) =
        let last_rseq = heard_first client.kind rseq held in
        let adds = owed_adds event (prack_debt rseq) (automatic_body client response) last_rseq in
        let kept = heard_kept client.kind rseq held in
        let left = unless_out (goes (pracked_so rseq (Some held)).1) (prack_debt rseq) in
        inl (adds.0 ∙ kept.0, adds.1 ∙ ap (λ pending_requests. pending_requests ++ left) kept.1)

    abbrev early_here : (o : Option HeldDialog)
        → Owes (Some event.id) (λ pending_requests. pending_requests ++ []) o
        (Some (dialog_for_provisional client answer o))
    early_here None = inr (refl, refl)
    early_here (Some held) = inl (refl, sym (append-nil held.pending_requests))

    -- for each name
    abbrev LeavesIn : List PendingRequest → Dialogs → DialogId → Type 0
    LeavesIn left after name =
        Owes (Some event.id) (λ pending_requests. pending_requests
        ++ cond (is_dialog_id own name) left [])
        (dialog_at name dialogs) (dialog_at name after)

    nothing_left : (name : DialogId) → LeavesIn [] dialogs name
    nothing_left name =
        let held = dialog_at name dialogs in
        owes_as (Some event.id) unchanged (λ pending_requests. pending_requests
        ++ cond (is_dialog_id own name) [] []) held
        held (λ pending_requests. sym (ap (λ xs. pending_requests ++ xs)
        (none_either (is_dialog_id own name))
        ∙ append-nil pending_requests)) (inl (still_same held))

    put_leaves : (left : List PendingRequest) (after : HeldDialog)
        → Owes (Some event.id) (λ pending_requests. pending_requests ++ left) found (Some after)
        → (name : DialogId)
        → LeavesIn left (insert_entry is_dialog_id dialogs own after) name
    put_leaves left after here name =
        subst (Owes (Some event.id) (λ pending_requests. pending_requests
        ++ cond (is_dialog_id own name) left [])
        (dialog_at name dialogs))
        (sym (entries.found_inserted name_laws own name after dialogs))
        (by_name (is_dialog_id own name) refl)
      where
        by_name : (b : Bool) → is_dialog_id own name ≡ b
            → Owes (Some event.id) (λ pending_requests. pending_requests ++ cond b left [])
            (dialog_at name dialogs)
            (cond b (Some after) (dialog_at name dialogs))
        by_name true is =
            subst (λ o. Owes (Some event.id) (λ pending_requests. pending_requests ++ left) o
            (Some after))
            (sym (entries.same_key name_laws own name dialogs is)) here
        by_name false is =
            let held = dialog_at name dialogs in
            owes_as (Some event.id) unchanged (λ pending_requests. pending_requests ++ []) held held
            (λ pending_requests. sym (append-nil pending_requests)) (inl (still_same held))

    case_leaves : (case : ReplyCase) (name : DialogId)
        → LeavesIn (case_left case)
        (dialogs_with own (by_reply_case case client found answer).1 dialogs) name
    case_leaves reply.Repeated name = nothing_left name
    case_leaves reply.Accepted name =
        put_leaves (case_left reply.Accepted) (acked_so found).0 (ack_here found) name
    case_leaves reply.Late name = nothing_left name
    case_leaves (reply.Reliable rseq) name =
        put_leaves (case_left (reply.Reliable rseq)) (pracked_so rseq found).0
        (prack_here rseq found) name
    case_leaves reply.Passed name = nothing_left name
    case_leaves reply.Early name =
        put_leaves [] (dialog_for_provisional client answer found) (early_here found) name
    case_leaves reply.Told name = nothing_left name

    -- ---- by the outputs

    abbrev pub given : DialogId → List CallOut → ClientChange → PendingRequest → Bool
    given name outs change (Ack invite number) = list_any is_direct outs
    given name outs change (Prack rseq number) = list_any is_of_prack (change_cseqs name change)

    prack_given : (rseq : ℕ) (name : DialogId) → IsNamedSo client answer found
        → is_dialog_id own name ≡ true
        → list_any is_of_prack (change_cseqs name
        (request_said event call_id own (pracked_so rseq found).1).1)
        ≡ goes (pracked_so rseq found).1
    unfolding prack_owed
    prack_given rseq name so same =
        let held = dialog_for_provisional client answer found in
        ap (list_any is_of_prack) (said_change name event call_id own (pracked_so rseq found).1)
        ∙ prack_owes name own event (heard_first client.kind rseq held)
        (ap (λ dialog. is_dialog_id own (name_of_dialog dialog))
        (heard_dialog client.kind rseq held)
        ∙ opened_named found refl so) same rseq invite_number (automatic_body client response)

    case_given : (case : ReplyCase) → Named case → (name : DialogId) → is_dialog_id own name ≡ true
        → let done = by_reply_case case client found answer in
        case_owes (given name done.2 done.3) ack_debt prack_debt case ≡ case_left case
    case_given reply.Repeated so name same = refl
    case_given reply.Accepted so name same =
        ap (λ b. unless_out b ack_debt) (ack_goes event call_id (acked_so found).1)
    case_given reply.Late so name same = refl
    case_given (reply.Reliable rseq) so name same =
        ap (λ b. unless_out b (prack_debt rseq)) (prack_given rseq name (so refl) same)
    case_given reply.Passed so name same = refl
    case_given reply.Early so name same = refl
    case_given reply.Told so name same = refl

    -- what is owed, by the outputs
    abbrev pub leaves : DialogId → Replied → List PendingRequest
    leaves name done =
        if is_dialog_id own name && has_dialog asker.kind (dialog_at name dialogs)
        then left_by (list_any is_response done.2) (given name done.2 done.3)
        (asked_for status asker response) else []

    abbrev done_now : Replied
    done_now = after_dialog own dialogs (by_reply_case case_now client found answer)

    case_now_leaves : is_last asker.kind status ≡ false → (name : DialogId)
        → leaves name (after_dialog own dialogs (by_reply_case case_now client found answer))
        ≡ cond (is_dialog_id own name) (case_left case_now) []
    case_now_leaves last name = by_name (is_dialog_id own name) refl
      where
        by_name : (b : Bool) → is_dialog_id own name ≡ b
            → (if b && has_dialog asker.kind (dialog_at name dialogs)
            then left_by (list_any is_response done_now.2) (given name done_now.2 done_now.3)
            (asked_for status asker response) else [])
            ≡ cond b (case_left case_now) []
        by_name false is = refl
        by_name true is =
            (λ i. if has_dialog asker.kind (entries.same_key name_laws own name dialogs is i)
            then left_by (case_told case_now client found answer i)
            (given name done_now.2 done_now.3) (asked_for status asker response) else [])
            ∙ asks_so (given name done_now.2 done_now.3) ack_debt prack_debt (is_final status)
            (is_success status) (has_answer own client.answers) (has_dialog client.kind found)
            (is_dialog_response answer) (heard_of client.kind client found) (rseq_of response)
            (success_final status)
            (not_last (is_final status) (is_success status) (is_invite_kind client.kind) last)
            ∙ case_given case_now (reply_names client answer found (name_kept asker.kind)) name is

    abbrev RepliedOwes : Replied → Type 0
    RepliedOwes done = (name : DialogId)
        → Owes (Some event.id) (λ pending_requests. pending_requests ++ leaves name done)
        (dialog_at name dialogs)
        (dialog_at name done.1)

    last_owes : (last : Bool) → is_last client.kind status ≡ last
        → RepliedOwes (cond {A = Replied} last (request_over client dialogs answer)
        (after_dialog own dialogs (by_reply_case case_now client found answer)))
    last_owes true last name =
        let done = request_over client dialogs answer in
        let before = dialog_at name dialogs in
        owes_as (Some event.id) unchanged (λ pending_requests. pending_requests ++ leaves name done)
        before
        (dialog_at name done.1)
        (λ pending_requests. sym (ap (λ xs. pending_requests ++ xs)
        (last_asks (given name done.2 done.3) ack_debt prack_debt asker.kind before
        (is_dialog_id own name) (is_final status) (is_success status) (is_dialog_response answer)
        (list_any is_response done.2) (rseq_of response) last) ∙ append-nil pending_requests))
        (inl (ended_same client (ends_dialog status) dialogs apart name))
    last_owes false last name =
        let done = after_dialog own dialogs (by_reply_case case_now client found answer) in
        owes_as (Some event.id) (λ pending_requests. pending_requests
        ++ cond (is_dialog_id own name) (case_left case_now) [])
        (λ pending_requests. pending_requests ++ leaves name done) (dialog_at name dialogs)
        (dialog_at name done.1)
        (λ pending_requests. ap (λ xs. pending_requests ++ xs) (sym (case_now_leaves last name)))
        (case_leaves case_now name)

    pub replied_owes : RepliedOwes (reply_taken client dialogs answer)
    replied_owes = last_owes (is_last client.kind status) refl
