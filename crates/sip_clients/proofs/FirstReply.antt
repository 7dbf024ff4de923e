-- A response to a client request: the latest RSeq of the first INVITE in a life of a dialog after
-- it.
use Rattle.std.proofs.Common.{◌≡◌, inl, ℕ, Bool, true, false, not, ◌&&◌, ◌==◌, cond, List, [], ◌∷◌, ◌++◌, map, refl, sym, ap, subst, ◌∙◌}
use Rattle.std.specs.Prelude.{Option, None, Some, filter, if◌then◌else◌}
use Rattle.std.specs.Option.{option_and_then}
use Rattle.sip_message.specs.declared.id.Id.{Id}
use Rattle.sip_dialog.specs.Life.{Happening}
use Rattle.sip_reliable.specs.declared.offer.Offer.{Offer}
use Rattle.sip_reliable.specs.declared.offer.Offer.TheVariants.{Taken, Repeat, Gap}
use Rattle.sip_reliable.specs.Inbound.{offered}
use Rattle.sip_held_dialogs.specs.declared.held_dialog.DialogReference.{DialogReference}
use Rattle.sip_held_dialogs.specs.declared.held_dialog.HeldDialog.{HeldDialog}
use Rattle.sip_user.specs.declared.item.CallOut.{CallOut}
use Rattle.sip_held_dialogs.specs.Dialogs.{dialog_at, is_dialog_id, lives, Dialogs}
use Rattle.sip_held_dialogs.specs.Requests.{is_final, has_to_tag, is_success}
use Rattle.sip_clients.specs.declared.client.RequestKind.TheVariants.{InitialInvite}
use Rattle.sip_clients.specs.declared.client.Client.{Client}
use Rattle.sip_clients.specs.declared.reply.ReceivedResponse.{ReceivedResponse}
use Rattle.sip_clients.specs.declared.reply.ReplyCase.{ReplyCase}
use Rattle.sip_clients.specs.declared.reply.ReplyCase.TheVariants as reply
use Rattle.sip_clients.specs.declared.send_outcome.SendOutcome.{SendOutcome}
use Rattle.sip_clients.specs.declared.send_outcome.SendOutcome.TheVariants.{Sent, Waits, Refused}
use Rattle.sip_clients.specs.Answers.{has_answer}
use Rattle.sip_clients.specs.Client.{Clients}
use Rattle.sip_clients.specs.Clients.{reply_name, settled}
use Rattle.sip_clients.specs.Outputs.{start_command}
use Rattle.sip_clients.specs.Replied.{Replied, after_dialog, by_reply_case, ends_dialog, request_over, prack_owed, reply_taken, told_of_prack}
use Rattle.sip_clients.specs.ReceivedResponse.{is_last, offer_case, reliable_case, reply_case, rseq_of, success_case}
use Rattle.sip_clients.specs.Dialogs.{dialog_for_provisional}
use Rattle.sip_clients.specs.Provisionals.{in_life, is_response, provisional_number, reported_in}
use Rattle.sip_clients.proofs.CommandDialogs.{ended_leads}
use Rattle.sip_clients.proofs.ReplyDialogs.{Answered, IsNamedSo, case_begun, case_life, case_moves, first_name, heard_number, may_make, reply_names, start, unnamed_unheard}
use Rattle.sip_held_dialogs.proofs.Entries as entries
use Rattle.sip_clients.proofs.FirstInvite.{ear_in, no_number, passed_so, silent_from, taken_so}
use Rattle.sip_held_dialogs.proofs.Heard.{AreApart, Goes, Life, OpensBy, in_one, name_laws, nothing}
use Rattle.sip_clients.proofs.Hearing.{Listens}

abbrev pub first : Client → Client
first client = record client { kind = InitialInvite }

-- ---- what is told

-- a reliable provisional response that is taken is told once, whether or not its PRACK goes out
pub told_once : (number : ℕ) (answer : ReceivedResponse) (id : Id) (outcome : SendOutcome)
    (clients : Clients)
    → map (λ out. number) (filter is_response
    ((told_of_prack answer outcome).0
    ++ (settled answer.event id (told_of_prack answer outcome).1 clients).1)) ≡ number ∷ []
unfolding start_command
told_once number answer id (Sent sending) clients = refl
told_once number answer id Waits clients = refl
told_once number answer id (Refused refusal) clients = refl

-- ---- which case it is

-- the response has no such number, or the number decides the case
abbrev pub Decided : (ReplyCase → Type 0) → Option ℕ → Option ℕ → ReplyCase → Type 0
Decided Other last_rseq None case = Other case
Decided Other last_rseq (Some number) case = case ≡ offer_case (offered last_rseq number) number

-- no RSeq of the first INVITE comes in this case
abbrev pub Unheard : ReplyCase → Type 0
Unheard case = heard_number case InitialInvite true ≡ None

abbrev pub number_by : Bool → Bool → Option ℕ → Option ℕ
number_by final inside rseq = if final then None else (if inside then rseq else None)

pub decided : (final inside : Bool) (winning : ReplyCase) (last_rseq rseq : Option ℕ)
    → Unheard winning
    → Decided Unheard last_rseq (number_by final inside rseq)
    (if final then winning else (if inside && true then reliable_case last_rseq rseq else
    reply.Told))
decided true inside winning last_rseq rseq none = none
decided false true winning last_rseq None none = refl
decided false true winning last_rseq (Some number) none = refl
decided false false winning last_rseq rseq none = refl

success_unheard : (client : Client) (found : Option HeldDialog) (answer : ReceivedResponse)
    → Unheard (success_case (first client) found answer.name)
success_unheard client found answer =
    elim (has_answer answer.name client.answers) as (λ b.
    Unheard (if b then reply.Repeated else reply.Accepted)) [ true ↦ refl | false ↦ refl ]

-- ---- one response

-- all outputs of a response
abbrev pub given : ReceivedResponse → Replied → Clients → List CallOut
given answer done clients = done.2 ++ (settled answer.event answer.id done.3 clients).1

module _ (event : Option Id) (life : DialogReference) (client : Client) (answer : ReceivedResponse)
    (dialogs : Dialogs) (apart : AreApart dialogs) (made : event ≡ Some (answer.event).id) where
  abbrev before : Option HeldDialog
  before = dialog_at life.name dialogs

  abbrev Result : Client → Option ℕ → Replied → Clients → Type 0
  Result client number done clients =
      AreApart done.1
      × Listens (event ≡ Some life.created_by) (ear_in life before)
      (ear_in life (dialog_at life.name done.1)) (in_life (lives done.1 life) number)
      (reported_in (in_life (lives done.1 life) number) (given answer done clients))

  abbrev found : Option HeldDialog
  found = dialog_at answer.name dialogs

  -- a response that isn't the last
  abbrev pub taken_as : ReplyCase → Client → Replied
  taken_as case client = after_dialog answer.name dialogs (by_reply_case case client found answer)

  abbrev Named : ReplyCase → Client → Type 0
  Named case client = may_make case ≡ true → IsNamedSo client answer found

  moves_by : (case : ReplyCase) (client : Client) → Named case client
      → Answered event client answer made case dialogs (taken_as case client).1
  moves_by case client named = case_moves event client answer made case dialogs apart named

  -- no RSeq comes
  goes_unheard : (client : Client) (done : Replied) (clients : Clients)
      → AreApart done.1 → (lived : Life) (begun : List Happening)
      → Goes event (OpensBy (Some (start event client answer made)) life.name) None lived begun
      before
      (dialog_at life.name done.1)
      → Result client None done clients
  goes_unheard client done clients apart lived begun goes = (
    apart,
    no_number (event ≡ Some life.created_by) (lives done.1 life) (ear_in life before)
        (ear_in life (dialog_at life.name done.1)) (given answer done clients)
        (silent_from event life (OpensBy (Some (start event client answer made)) life.name) lived
        begun before (dialog_at life.name done.1) goes),
  )

  over : (client : Client) (clients : Clients)
      → Result client None (request_over client dialogs answer) clients
  over client clients =
      let leads = ended_leads client (ends_dialog answer.status) dialogs apart in
      goes_unheard client (request_over client dialogs answer) clients leads.apart nothing []
      (inl (leads.stays life.name))

  -- what happens by a case in the dialog of the life, if it is held or made
  abbrev lived_by : ReplyCase → Client → Life
  lived_by case client = in_one answer.name (case_life event client answer made case) life.name

  abbrev begun_by : ReplyCase → Client → List Happening
  begun_by case client = cond (is_dialog_id answer.name life.name)
      (case_begun event client answer made case found) []

  unheard : (case : ReplyCase) (client : Client) (clients : Clients) → Named case client
      → heard_number case client.kind (is_dialog_id answer.name life.name) ≡ None
      → Result client None (taken_as case client) clients
  unheard case client clients named none =
      let done = taken_as case client in
      let moves = moves_by case client named in
      goes_unheard client done clients moves.apart (lived_by case client) (begun_by case client)
      (subst (λ o. Goes event (OpensBy (Some (start event client answer made)) life.name) o
      (lived_by case client) (begun_by case client) before (dialog_at life.name done.1)) none
      (moves.goes life.name))

  -- an RSeq comes
  by_offer : (number : ℕ) (offer : Offer) (clients : Clients)
      → IsNamedSo (first client) answer found
      → is_dialog_id answer.name life.name ≡ true
      → offered (option_and_then (λ held. held.last_rseq) before) number ≡ offer
      → Result (first client) (Some number) (taken_as (offer_case offer number) (first client))
      clients
  unfolding prack_owed
  by_offer number Taken clients own named is =
      let case = reply.Reliable number in
      let done = taken_as case (first client) in
      let moves = moves_by case (first client) (λ _. own) in
      let Opens = OpensBy (Some (start event (first client) answer made)) life.name in
      let lived = lived_by case (first client) in
      let begun = begun_by case (first client) in
      let here : Goes event Opens (Some number) lived begun before (dialog_at life.name done.1) =
      subst (λ b. Goes event Opens (heard_number case InitialInvite b) lived begun before
      (dialog_at life.name done.1)) named (moves.goes life.name) in (
        moves.apart,
        taken_so event life number Opens lived begun before (dialog_at life.name done.1)
            (lives done.1 life) (given answer done clients) refl here is
            (told_once number answer answer.id
            (prack_owed number (first client) (dialog_for_provisional (first client) answer found)
            answer).1
            clients),
      )
  by_offer number Repeat clients own named is = (
    apart,
    passed_so (event ≡ Some life.created_by) life number before Repeat
        (lives dialogs life) refl is refl (λ last. refl),
  )
  by_offer number Gap clients own named is = (
    apart,
    passed_so (event ≡ Some life.created_by) life number before Gap
        (lives dialogs life) refl is refl (λ last. refl),
  )

  by_number : (number : Option ℕ) (case : ReplyCase) (clients : Clients)
      → IsNamedSo (first client) answer found
      → is_dialog_id answer.name life.name ≡ true
      → Decided Unheard (option_and_then (λ held. held.last_rseq) found) number case
      → Result (first client) number (taken_as case (first client)) clients
  by_number None case clients own named is =
      unheard case (first client) clients (λ _. own) (ap (heard_number case InitialInvite) named
      ∙ is)
  by_number (Some number) case clients own named is =
      let last_rseq = option_and_then (λ (held : HeldDialog). held.last_rseq) found in
      subst (λ c. Result (first client) (Some number) (taken_as c (first client)) clients) (sym is)
      (by_offer number (offered last_rseq number) clients own named
      (ap (λ o. offered (option_and_then (λ (held : HeldDialog). held.last_rseq) o) number)
      (entries.same_key name_laws answer.name life.name dialogs named)))

  -- a response to the first INVITE, in the dialog of the name or in another
  abbrev inside : Bool
  inside = not (answer.status == 100) && has_to_tag answer.response

  abbrev rseq : Option ℕ
  rseq = rseq_of answer.response

  abbrev case_of : Bool → ReplyCase
  case_of final = if final then success_case (first client) found answer.name
      else (if inside && true
      then reliable_case (option_and_then (λ held. held.last_rseq) found) rseq else reply.Told)

  in_dialog : (final named : Bool) (clients : Clients) → IsNamedSo (first client) answer found
      → is_dialog_id life.name answer.name ≡ named
      → Result (first client) (if named then number_by final inside rseq else None)
      (taken_as (case_of final) (first client)) clients
  in_dialog final true clients own named =
      by_number (number_by final inside rseq) (case_of final) clients own
      (name_laws.symm answer.name life.name ∙ named)
      (decided final inside (success_case (first client) found answer.name)
      (option_and_then (λ held. held.last_rseq) found) rseq (success_unheard client found answer))
  in_dialog final false clients own named =
      unheard (case_of final) (first client) clients (λ _. own)
      (ap (heard_number (case_of final) InitialInvite)
      (name_laws.symm answer.name life.name ∙ named)
      ∙ unnamed_unheard (case_of final) InitialInvite)

  by_last : (final success named : Bool) (clients : Clients) → IsNamedSo (first client) answer found
      → is_dialog_id life.name answer.name ≡ named
      → Result (first client) (if named then number_by final inside rseq else None)
      (cond {A = Replied} (final && not success) (request_over (first client) dialogs answer)
      (taken_as (case_of final) (first client))) clients
  by_last true false true clients own named = over (first client) clients
  by_last true false false clients own named = over (first client) clients
  by_last true true b clients own named = in_dialog true b clients own named
  by_last false success b clients own named = in_dialog false b clients own named

  pub first_replied : (clients : Clients) (named : Bool)
      → answer.name ≡ reply_name InitialInvite client answer.response
      → is_dialog_id life.name answer.name ≡ named
      → Result (first client) (if named then provisional_number (Some answer.status) answer.response
      else None) (reply_taken (first client) dialogs answer) clients
  first_replied clients named own is =
      by_last (is_final answer.status) (is_success answer.status) named clients
      (first_name (first client) answer found own) is

  -- a response to another request
  pub other_replied : (client : Client) (clients : Clients)
      → answer.name ≡ reply_name client.kind client answer.response
      → ((case : ReplyCase) (named : Bool) → heard_number case client.kind named ≡ None)
      → Result client None (reply_taken client dialogs answer) clients
  other_replied client clients own none =
      let case = reply_case client found answer in
      elim (is_last client.kind answer.status) as (λ last.
      Result client None (cond {A = Replied} last (request_over client dialogs answer)
      (taken_as case client)) clients) [
        | true ↦ over client clients
        | false ↦ unheard case client clients (reply_names client answer found own)
            (none case (is_dialog_id answer.name life.name))
      ]
