-- What ends with a client request, and what a response opens and ends: each end is told once.
use Rattle.std.proofs.Common.{◌≡◌, ℕ, Bool, true, false, not, ◌&&◌, ◌||◌, ◌==◌, cond, List, [], ◌∷◌, ◌++◌, refl, sym, ap, subst, ◌∙◌}
use Rattle.std.specs.Prelude.{Option, None, Some, is_some, if◌then◌else◌}
use Rattle.std.specs.Cmp.{first_so}
use Rattle.std.specs.Map.{set_value}
use Rattle.std.specs.Option.{option_map, option_map_or}
use Rattle.indexmap.specs.IndexMap.{insert_entry}
use Rattle.sip_message.specs.declared.id.Id.{Id}
use Rattle.sip_message.specs.declared.message.Message.{Message}
use Rattle.sip_held_dialogs.specs.declared.held_dialog.DialogReference.{DialogReference}
use Rattle.sip_held_dialogs.specs.declared.held_dialog.DialogId.{DialogId}
use Rattle.sip_held_dialogs.specs.declared.held_dialog.HeldDialog.{HeldDialog}
use Rattle.sip_user.specs.declared.item.CallOut.{CallOut}
use Rattle.sip_held_dialogs.specs.Dialogs.{Dialogs, dialog_at, early_ended, ended_at, is_early_of, is_dialog_id, lives}
use Rattle.sip_held_dialogs.specs.Ids.{is_id}
use Rattle.sip_held_dialogs.specs.Requests.{is_final, has_to_tag, is_success}
use Rattle.sip_held_dialogs.proofs.Entries as entries
use Rattle.sip_held_dialogs.proofs.Heard.{AreApart, name_laws}
use Rattle.sip_clients.specs.declared.answers.SentAck.{SentAck}
use Rattle.sip_clients.specs.declared.client.RequestKind.{RequestKind}
use Rattle.sip_clients.specs.declared.client.RequestKind.TheVariants.{InitialInvite, ReInvite, InDialog, OutOfDialog}
use Rattle.sip_clients.specs.declared.client.Client.{Client}
use Rattle.sip_clients.specs.declared.event.Event.{Event}
use Rattle.sip_clients.specs.declared.outputs.ClientChange.{ClientChange}
use Rattle.sip_clients.specs.declared.outputs.ClientChange.TheVariants.{Stays, Over, Starts}
use Rattle.sip_clients.specs.declared.reply.ReceivedResponse.{ReceivedResponse}
use Rattle.sip_clients.specs.declared.reply.ReplyCase.{ReplyCase}
use Rattle.sip_clients.specs.declared.reply.ReplyCase.TheVariants as reply
use Rattle.sip_clients.specs.declared.send_outcome.SendOutcome.{SendOutcome}
use Rattle.sip_clients.specs.declared.send_outcome.SendOutcome.TheVariants.{Sent, Waits, Refused}
use Rattle.sip_clients.specs.Answers.{ack_of, has_answer}
use Rattle.sip_clients.specs.Cancel.{after_response, cancel_client, freed_by, sent_beside}
use Rattle.sip_clients.specs.Client.{Clients, ClientTaken, Side, client_at}
use Rattle.sip_clients.specs.Clients.{found_taken, lost_of, reply_name, reply_of, reply_settled, response_taken, settled, status_of}
use Rattle.sip_clients.specs.Dialogs.{accepted, dialog_for_provisional, ended_with, own_ended}
use Rattle.sip_clients.specs.Outputs.{ack_said, direct, request_said, start_command}
use Rattle.sip_clients.specs.Replied.{Replied, ack_owed, after_dialog, by_reply_case, dialogs_with, ends_dialog, notice, prack_owed, reply_taken, request_over}
use Rattle.sip_clients.specs.ReceivedResponse.{heard_of, is_dialog_response, is_invite_kind, is_last, has_dialog, reliable_case, reply_case, rseq_of}
use Rattle.sip_held_dialogs.proofs.EndedDialogs.{AreNamed, Goes, Which, early_told, ended_none, ends_told, none_told, filtered_named, goes_as, goes_before, goes_beside, goes_filtered_then, goes_removed, goes_same, left_of, names_ended, no_name, none_ends}

-- ---- what ends with a client request

-- the dialog that it was sent in, and no later one of the name
abbrev pub was_sent_in : RequestKind → Which
was_sent_in InitialInvite name held = false
was_sent_in (ReInvite life) name held =
    is_dialog_id life.name name && is_id held.created_by life.created_by
was_sent_in (InDialog life) name held =
    is_dialog_id life.name name && is_id held.created_by life.created_by
was_sent_in OutOfDialog name held = false

abbrev pub ends_with : Client → Bool → Which
ends_with client gone name held =
    is_early_of client.id held || (gone && was_sent_in client.kind name held)

module _ (life : DialogReference) (dialogs : Dialogs) (apart : AreApart dialogs)
    (named : AreNamed dialogs) where
  abbrev is_it : Which
  is_it name held = is_dialog_id life.name name && is_id held.created_by life.created_by

  -- if the dialog still lives, it is the one held under its name
  lives_as : (name : DialogId) (held : HeldDialog) → dialog_at name dialogs ≡ Some held
      → (lives_so : Bool) → lives dialogs life ≡ lives_so → (b : Bool)
      → is_dialog_id life.name name ≡ b → (b && lives_so)
      ≡ (b && is_id held.created_by life.created_by)
  lives_as name held at lives_so is true same =
      sym is ∙ ap (λ o. option_map_or (λ (held : HeldDialog). is_id held.created_by life.created_by)
      o false)
      (sym (entries.same_key name_laws life.name name dialogs same) ∙ at)
  lives_as name held at lives_so is false other = refl

  and_true : (b : Bool) → b ≡ (b && true)
  and_true true = refl
  and_true false = refl

  and_false : (b : Bool) → false ≡ (b && false)
  and_false true = refl
  and_false false = refl

  life_goes : (b : Bool) → lives dialogs life ≡ b
      → let done = cond {A = Dialogs × List CallOut} b (ended_at life.name dialogs) (dialogs, []) in
      Goes no_name is_it dialogs done.0 done.1
  life_goes true is =
      goes_as no_name no_name (λ name held. is_dialog_id life.name name) is_it dialogs
      (ended_at life.name dialogs).0 (ended_at life.name dialogs).1 (λ name. refl)
      (λ name held at. and_true (is_dialog_id life.name name)
      ∙ lives_as name held at true is (is_dialog_id life.name name) refl)
      (goes_removed life.name dialogs apart named)
  life_goes false is =
      goes_as no_name no_name none_ends is_it dialogs dialogs [] (λ name. refl)
      (λ name held at. and_false (is_dialog_id life.name name)
      ∙ lives_as name held at false is (is_dialog_id life.name name) refl)
      (goes_same dialogs [] refl)

own_goes : (kind : RequestKind) (gone : Bool) (dialogs : Dialogs) → AreApart dialogs
    → AreNamed dialogs
    → Goes no_name (λ name held. gone && was_sent_in kind name held) dialogs
    (own_ended kind gone dialogs).0 (own_ended kind gone dialogs).1
own_goes InitialInvite true dialogs apart named = goes_same dialogs [] refl
own_goes InitialInvite false dialogs apart named = goes_same dialogs [] refl
own_goes (ReInvite life) true dialogs apart named =
    life_goes life dialogs apart named (lives dialogs life) refl
own_goes (ReInvite life) false dialogs apart named = goes_same dialogs [] refl
own_goes (InDialog life) true dialogs apart named =
    life_goes life dialogs apart named (lives dialogs life) refl
own_goes (InDialog life) false dialogs apart named = goes_same dialogs [] refl
own_goes OutOfDialog true dialogs apart named = goes_same dialogs [] refl
own_goes OutOfDialog false dialogs apart named = goes_same dialogs [] refl

pub ended_goes : (client : Client) (gone : Bool) (dialogs : Dialogs) → AreApart dialogs
    → AreNamed dialogs
    → Goes no_name (ends_with client gone) dialogs (ended_with client gone dialogs).0
    (ended_with client gone dialogs).1
ended_goes client gone dialogs apart named =
    let early = early_ended client.id dialogs in
    let own = own_ended client.kind gone early.0 in
    goes_filtered_then (is_early_of client.id)
    (λ name held. gone && was_sent_in client.kind name held) dialogs own.0 early.1 own.1 apart
    (early_told client.id dialogs apart named)
    (own_goes client.kind gone early.0
    (entries.apart_filtered name_laws (λ entry. not (is_early_of client.id entry.1)) dialogs apart)
    (filtered_named (λ held. not (is_early_of client.id held)) dialogs apart named))

-- ---- what is said besides

pub request_silent : (event : Event) (call_id : List ℕ) (name : DialogId) (outcome : SendOutcome)
    → names_ended (request_said event call_id name outcome).0 ≡ []
request_silent event call_id name (Sent sending) = refl
request_silent event call_id name Waits = refl
request_silent event call_id name (Refused refusal) = refl

pub ack_silent : (event : Event) (call_id : List ℕ) (outcome : SendOutcome)
    → names_ended (ack_said event call_id outcome).0 ≡ []
ack_silent event call_id (Sent sending) = refl
ack_silent event call_id Waits = refl
ack_silent event call_id (Refused refusal) = refl

again_silent : (ack : Option SentAck)
    → names_ended (option_map_or (λ ack. direct ack ∷ []) ack []) ≡ []
again_silent None = refl
again_silent (Some ack) = refl

pub settled_silent : (event : Event) (id : Id) (change : ClientChange) (clients : Clients)
    → names_ended (settled event id change clients).1 ≡ []
unfolding start_command
settled_silent event id Stays clients = refl
settled_silent event id Over clients = refl
settled_silent event id (Starts client) clients = refl

-- a CANCEL that goes out last
pub beside_goes : (opens : DialogId → Bool) (ends : Which) (before after : Dialogs)
    (freed : Option Id) (invite : Client) (done : Clients × List CallOut)
    → Goes opens ends before after done.1
    → Goes opens ends before after
    (sent_beside (option_map (λ id. cancel_client id invite) freed) done).1
unfolding start_command
beside_goes opens ends before after None invite done goes = goes
beside_goes opens ends before after (Some id) invite done goes =
    goes_beside opens ends before after done.1 (start_command id (cancel_client id invite) ∷ [])
    refl
    goes

-- ---- a response that isn't the last

-- a request opens dialogs: the first INVITE
abbrev pub opens_dialogs : RequestKind → Bool
opens_dialogs InitialInvite = true
opens_dialogs (ReInvite life) = false
opens_dialogs (InDialog life) = false
opens_dialogs OutOfDialog = false

-- whether a dialog is put in by a case
abbrev puts : ReplyCase → Bool
puts reply.Repeated = false
puts reply.Accepted = true
puts reply.Late = false
puts (reply.Reliable number) = true
puts reply.Passed = false
puts reply.Early = true
puts reply.Told = false

-- which response to the first INVITE opens one
abbrev opening : (final success again inside : Bool) → Bool
opening final success again inside = (success && not again) || (not final && inside)

or_true : (b : Bool) → (b || true) ≡ true
or_true true = refl
or_true false = refl

or_false : (b : Bool) → (b || false) ≡ b
or_false true = refl
or_false false = refl

first_reliable : (rseq : Option ℕ) → puts (reliable_case None rseq) ≡ true
first_reliable None = refl
first_reliable (Some number) = refl

-- if no dialog of the name is held
by_kind : (kind : RequestKind) (client : Client) (final success again inside : Bool)
    (rseq : Option ℕ) → (success ≡ true → final ≡ true) → (final ≡ true → success ≡ true)
    → puts (if final then (if again then reply.Repeated
    else (if has_dialog kind None then reply.Accepted else reply.Late))
    else (if inside && has_dialog kind None
    then reliable_case (heard_of kind client None) rseq else reply.Told))
    ≡ (opens_dialogs kind && opening final success again inside)
by_kind InitialInvite client true true true inside rseq so last = refl
by_kind InitialInvite client true true false inside rseq so last = refl
by_kind InitialInvite client true false again inside rseq so last =
    let wrong : false ≡ true = last refl in absurd cc
by_kind InitialInvite client false true again inside rseq so last =
    let wrong : false ≡ true = so refl in absurd cc
by_kind InitialInvite client false false again true rseq so last = first_reliable rseq
by_kind InitialInvite client false false again false rseq so last = refl
by_kind (ReInvite life) client true success true inside rseq so last = refl
by_kind (ReInvite life) client true success false inside rseq so last = refl
by_kind (ReInvite life) client false success again true rseq so last = refl
by_kind (ReInvite life) client false success again false rseq so last = refl
by_kind (InDialog life) client true success true inside rseq so last = refl
by_kind (InDialog life) client true success false inside rseq so last = refl
by_kind (InDialog life) client false success again true rseq so last = refl
by_kind (InDialog life) client false success again false rseq so last = refl
by_kind OutOfDialog client true success true inside rseq so last = refl
by_kind OutOfDialog client true success false inside rseq so last = refl
by_kind OutOfDialog client false success again true rseq so last = refl
by_kind OutOfDialog client false success again false rseq so last = refl

success_final : (status : ℕ) → is_success status ≡ true → is_final status ≡ true
success_final status e = first_so (is_final status) _ e

not_last : (final success inviting : Bool) → (final && not (inviting && success)) ≡ false
    → final ≡ true → success ≡ true
not_last true true inviting last is = refl
not_last true false true last is = absurd cc
not_last true false false last is = absurd cc
not_last false success inviting last is = absurd cc

-- the last response opens no dialog
last_opens : (kind : RequestKind) (final success first early : Bool)
    → (final && not (is_invite_kind kind && success)) ≡ true
    → (opens_dialogs kind && ((success && first) || (not final && early))) ≡ false
last_opens InitialInvite true true first early last = absurd cc
last_opens InitialInvite true false first early last = refl
last_opens InitialInvite false success first early last = absurd cc
last_opens (ReInvite life) final success first early last = refl
last_opens (InDialog life) final success first early last = refl
last_opens OutOfDialog final success first early last = refl

module _ (event : Event) (id : Id) (call_id : List ℕ) (response : Message) (status : ℕ)
    (asker : Client) (dialogs : Dialogs) (apart : AreApart dialogs) (named : AreNamed dialogs)
  where
    abbrev own : DialogId
    own = reply_name asker.kind asker response

    -- the request after the response came
    abbrev noted : Client
    noted = after_response (is_final status) asker

    abbrev answer : ReceivedResponse
    answer = reply_of event id call_id own status response

    abbrev found : Option HeldDialog
    found = dialog_at own dialogs

    abbrev pub opened_by_reply : DialogId → Bool
    opened_by_reply name = opens_dialogs asker.kind && is_dialog_id own name
        && ((is_success status && not (has_answer own asker.answers))
        || (not (is_final status) && (not (status == 100) && has_to_tag response)))

    abbrev pub ended_by_reply : Which
    ended_by_reply name held =
        is_last asker.kind status && ends_with asker (ends_dialog status) name held

    case_silent : (case : ReplyCase) → names_ended (by_reply_case case noted found answer).2 ≡ []
    case_silent reply.Repeated = again_silent (ack_of own noted.answers)
    case_silent reply.Accepted =
        ack_silent event call_id (ack_owed noted (accepted noted answer found) answer).1
    case_silent reply.Late = refl
    case_silent (reply.Reliable number) =
        request_silent event call_id own
        (prack_owed number noted (dialog_for_provisional noted answer found) answer).1
    case_silent reply.Passed = refl
    case_silent reply.Early = refl
    case_silent reply.Told = refl

    put_so : (held : HeldDialog) (name : DialogId)
        → is_some (dialog_at name (insert_entry is_dialog_id dialogs own held))
        ≡ (is_dialog_id own name || is_some (dialog_at name dialogs))
    put_so held name =
        ap (λ o. is_some o) (entries.found_inserted name_laws own name held dialogs)
        ∙ by_name (is_dialog_id own name) (dialog_at name dialogs)
      where
        by_name : (b : Bool) (o : Option HeldDialog)
            → is_some (cond {A = Option HeldDialog} b (Some held) o) ≡ (b || is_some o)
        by_name true o = refl
        by_name false o = refl

    case_held : (case : ReplyCase) (name : DialogId)
        → is_some (dialog_at name
        (dialogs_with own (by_reply_case case noted found answer).1 dialogs))
        ≡ ((puts case && is_dialog_id own name) || is_some (dialog_at name dialogs))
    case_held reply.Repeated name = refl
    case_held reply.Accepted name =
        put_so (ack_owed noted (accepted noted answer found) answer).0 name
    case_held reply.Late name = refl
    case_held (reply.Reliable number) name =
        put_so (prack_owed number noted (dialog_for_provisional noted answer found) answer).0 name
    case_held reply.Passed name = refl
    case_held reply.Early name = put_so (dialog_for_provisional noted answer found) name
    case_held reply.Told name = refl

    abbrev opens_if : Bool → Bool
    opens_if named = opens_dialogs asker.kind && named
        && ((is_success status && not (has_answer own asker.answers))
        || (not (is_final status) && (not (status == 100) && has_to_tag response)))

    -- the response replaces a held dialog, or opens one
    opens_so : is_last noted.kind status ≡ false → (name : DialogId)
        → ((puts (reply_case noted found answer) && is_dialog_id own name)
        || is_some (dialog_at name dialogs))
        ≡ (opened_by_reply name || is_some (dialog_at name dialogs))
    opens_so last name = by_name (is_dialog_id own name) refl
      where
        no_name_opens : (first may : Bool) (b : Bool) → (b && false) ≡ (first && false && may)
        no_name_opens true may true = refl
        no_name_opens true may false = refl
        no_name_opens false may true = refl
        no_name_opens false may false = refl

        with_true : (b first may : Bool) → b ≡ (first && may)
            → (b && true) ≡ (first && true && may)
        with_true true true may e = e
        with_true true false may e = e
        with_true false true may e = e
        with_true false false may e = e

        by_found : (o : Option HeldDialog) → found ≡ o
            → ((puts (reply_case noted o answer) && true) || is_some o)
            ≡ (opens_if true || is_some o)
        by_found None is =
            ap (λ b. b || false) (with_true (puts (reply_case noted None answer))
            (opens_dialogs asker.kind) _
            (by_kind noted.kind noted (is_final status) (is_success status)
            (has_answer own noted.answers) (is_dialog_response answer) (rseq_of response)
            (success_final status)
            (not_last (is_final status) (is_success status) (is_invite_kind noted.kind) last)))
        by_found (Some held) is =
            or_true (puts (reply_case noted (Some held) answer) && true)
            ∙ sym (or_true (opens_if true))

        by_name : (b : Bool) → is_dialog_id own name ≡ b
            → ((puts (reply_case noted found answer) && b) || is_some (dialog_at name dialogs))
            ≡ (opens_if b || is_some (dialog_at name dialogs))
        by_name false other =
            ap (λ b. b || is_some (dialog_at name dialogs))
            (no_name_opens (opens_dialogs asker.kind) _ (puts (reply_case noted found answer)))
        by_name true same =
            let there : found ≡ dialog_at name dialogs =
            sym (entries.same_key name_laws own name dialogs same) in
            subst (λ o. ((puts (reply_case noted found answer) && true) || is_some o)
            ≡ (opens_if true || is_some o)) there (by_found found refl)

    by_last : (last : Bool) → is_last noted.kind status ≡ last
        → let done = cond {A = Replied} last (request_over noted dialogs answer)
        (after_dialog own dialogs (by_reply_case (reply_case noted found answer) noted found
        answer)) in
        Goes opened_by_reply (λ name held. last && ends_with asker (ends_dialog status) name held)
        dialogs done.1 done.2
    by_last true is =
        let ended = ended_with noted (ends_dialog status) dialogs in
        goes_as no_name opened_by_reply (ends_with asker (ends_dialog status))
        (ends_with asker (ends_dialog status)) dialogs ended.0 (notice answer ++ ended.1)
        (λ name. sym (none_opens name)) (λ name held at. refl)
        (goes_before no_name (ends_with asker (ends_dialog status)) dialogs ended.0 (notice answer)
        ended.1 refl (ended_goes noted (ends_dialog status) dialogs apart named))
      where
        between : (first named may : Bool) → (first && may) ≡ false
            → (first && named && may) ≡ false
        between true true may e = e
        between true false may e = refl
        between false named may e = refl

        none_opens : (name : DialogId) → opened_by_reply name ≡ false
        none_opens name =
            between (opens_dialogs asker.kind) (is_dialog_id own name) _
            (last_opens asker.kind (is_final status) (is_success status)
            (not (has_answer own asker.answers)) _ is)
    by_last false is = record {
      held = λ name. case_held (reply_case noted found answer) name ∙ opens_so is name
          ∙ ap (λ b. opened_by_reply name || b) (held_left (dialog_at name dialogs));
      told = λ name. none_told_in name ∙ ended_none (dialog_at name dialogs);
    }
      where
        held_left : (o : Option HeldDialog) → is_some o ≡ left_of (λ held. false) o
        held_left None = refl
        held_left (Some held) = refl

        none_told_in : (name : DialogId)
            → ends_told name (by_reply_case (reply_case noted found answer) noted found answer).2
            ≡ 0
        none_told_in name =
            none_told name
            (by_reply_case (reply_case noted found answer) noted found answer).2
            (case_silent (reply_case noted found answer))

    pub replied_goes : Goes opened_by_reply ended_by_reply dialogs
        (reply_taken noted dialogs answer).1 (reply_taken noted dialogs answer).2
    replied_goes = by_last (is_last noted.kind status) refl

-- ---- all of a response

module _ (event : Event) (id : Id) (call_id : List ℕ) (response : Message) (side : Side)
    (apart : AreApart side.dialogs) (named : AreNamed side.dialogs) where
  abbrev opens_by : Option ℕ → Option Client → DialogId → Bool
  opens_by status o name =
      option_map_or (λ client. option_map_or
      (λ status. opened_by_reply event id call_id response status client side.dialogs apart named
      name) status false) o false

  abbrev ends_by : Option ℕ → Option Client → Which
  ends_by status o name held =
      option_map_or (λ client. option_map_or
      (λ status. ended_by_reply event id call_id response status client side.dialogs apart named
      name held) status false) o false

  abbrev pub RespondedTo : Option ℕ → Option Client → ClientTaken → Type 0
  RespondedTo status o taken =
      Goes (opens_by status o) (ends_by status o) side.dialogs (taken.0).dialogs taken.1

  settles : (status : ℕ) (client : Client)
      → RespondedTo (Some status) (Some client)
      (reply_settled (reply_of event id call_id (reply_name client.kind client response) status
      response) client side)
  settles status client =
      let final = is_final status in
      let answer = reply_of event id call_id (reply_name client.kind client response) status
      response
      in
      let done = reply_taken (after_response final client) side.dialogs answer in
      let clients = set_value (is_id id) side.clients done.0 in
      let after = settled event id done.3 clients in
      let opens = opened_by_reply event id call_id response status client side.dialogs apart named
      in
      let ends = ended_by_reply event id call_id response status client side.dialogs apart named in
      beside_goes opens ends side.dialogs done.1 (freed_by final client.cancel) client
      (after.0, done.2 ++ after.1)
      (goes_beside opens ends side.dialogs done.1 done.2 after.1
      (settled_silent event id done.3 clients)
      (replied_goes event id call_id response status client side.dialogs apart named))

  by_client : (status : Option ℕ) (o : Option Client)
      → RespondedTo status o (found_taken event id call_id response status o side)
  by_client None None = goes_same side.dialogs [] refl
  by_client (Some status) None = goes_same side.dialogs [] refl
  by_client None (Some client) = goes_same side.dialogs [] refl
  by_client (Some status) (Some client) = settles status client

  pub response_goes : RespondedTo (status_of response.start) (client_at id side.clients)
      (response_taken event id call_id response side)
  response_goes = by_client (status_of response.start) (client_at id side.clients)

-- ---- a request that is lost

abbrev pub lost_with : Option Client → Bool → Which
lost_with o timed_out name held =
    option_map_or (λ client. ends_with client timed_out name held) o false

pub lost_goes : (id : Id) (timed_out : Bool) (o : Option Client) (side : Side)
    → AreApart side.dialogs → AreNamed side.dialogs
    → Goes no_name (lost_with o timed_out) side.dialogs ((lost_of id timed_out o side).0).dialogs
    (lost_of id timed_out o side).1
lost_goes id timed_out None side apart named = goes_same side.dialogs [] refl
lost_goes id timed_out (Some client) side apart named =
    ended_goes client timed_out side.dialogs apart named
