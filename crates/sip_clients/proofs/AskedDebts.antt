-- Which ACKs and PRACKs go out with a response, and which it asks for.
use Rattle.std.proofs.Common.{◌≡◌, ℕ, Bool, true, false, not, ◌&&◌, ◌||◌, List, [], ◌∷◌, ◌++◌, refl, ap, ◌∙◌}
use Rattle.std.specs.Prelude.{Option, None, Some, if◌then◌else◌}
use Rattle.std.specs.List.{list_any}
use Rattle.std.specs.Option.{option_map, option_map_or}
use Rattle.std.proofs.lemmas.List.Folds.{list_any-append}
use Rattle.sip_message.specs.declared.id.Id.{Id}
use Rattle.sip_reliable.specs.declared.offer.Offer.{Offer}
use Rattle.sip_reliable.specs.declared.offer.Offer.TheVariants.{Taken, Repeat, Gap}
use Rattle.sip_reliable.specs.Inbound.{offered}
use Rattle.sip_transactions.specs.declared.input.Command.{Command as Order}
use Rattle.sip_held_dialogs.specs.declared.pending_request.PendingRequest.{PendingRequest}
use Rattle.sip_held_dialogs.specs.declared.held_dialog.HeldDialog.{HeldDialog}
use Rattle.sip_user.specs.declared.item.CallOut.{CallOut}
use Rattle.sip_user.specs.declared.item.CallOut.TheVariants as out
use Rattle.sip_held_dialogs.proofs.Heard.{none_either}
use Rattle.sip_clients.specs.declared.answers.SentAck.{SentAck}
use Rattle.sip_clients.specs.declared.client.Client.{Client}
use Rattle.sip_clients.specs.declared.client.RequestKind.{RequestKind}
use Rattle.sip_clients.specs.declared.client.RequestKind.TheVariants.{InitialInvite, ReInvite, InDialog, OutOfDialog}
use Rattle.sip_clients.specs.declared.event.Event.{Event}
use Rattle.sip_clients.specs.declared.outputs.ClientChange.{ClientChange}
use Rattle.sip_clients.specs.declared.outputs.ClientChange.TheVariants.{Stays, Over, Starts}
use Rattle.sip_clients.specs.declared.reply.ReceivedResponse.{ReceivedResponse}
use Rattle.sip_clients.specs.declared.reply.ReplyCase.{ReplyCase}
use Rattle.sip_clients.specs.declared.reply.ReplyCase.TheVariants as reply
use Rattle.sip_clients.specs.Answers.{ack_of}
use Rattle.sip_clients.specs.Cancel.{cancel_client, sent_beside}
use Rattle.sip_clients.specs.Client.{Clients}
use Rattle.sip_clients.specs.Clients.{settled}
use Rattle.sip_clients.specs.Outputs.{direct, start_command}
use Rattle.sip_clients.specs.Provisionals.{is_response}
use Rattle.sip_clients.specs.Replied.{by_reply_case}
use Rattle.sip_clients.specs.ReceivedResponse.{is_invite_kind, has_dialog, offer_case, reliable_case}
use Rattle.sip_clients.proofs.DialogDebts.{neither_way, unless_out}

-- ---- a response: what goes out

or_false : (b : Bool) → (b || false) ≡ b
or_false true = refl
or_false false = refl

-- a test that no command passes
module _ (p : CallOut → Bool) (none : (id : Id) (order : Order) → p (out.Command id order) ≡ false)
  where
    any_beside : (freed : Option Id) (invite : Client) (done : Clients × List CallOut)
        → list_any p (sent_beside (option_map (λ id. cancel_client id invite) freed) done).1
        ≡ list_any p done.1
    unfolding start_command
    any_beside None invite done = refl
    any_beside (Some id) invite done =
        list_any-append p done.1 (start_command id (cancel_client id invite) ∷ [])
        ∙ ap (λ b. list_any p done.1 || (b || false)) (none id _) ∙ or_false (list_any p done.1)

    any_settled : (event : Event) (id : Id) (change : ClientChange) (clients : Clients)
        → list_any p (settled event id change clients).1 ≡ false
    unfolding start_command
    any_settled event id Stays clients = refl
    any_settled event id Over clients = refl
    any_settled event id (Starts client) clients = ap (λ b. b || false) (none event.id _)

    pub any_given : (freed : Option Id) (invite : Client) (event : Event) (id : Id)
        (change : ClientChange) (clients : Clients) (told : List CallOut)
        → let after = settled event id change clients in
        list_any p (sent_beside (option_map (λ id. cancel_client id invite) freed)
        (after.0, told ++ after.1)).1 ≡ list_any p told
    any_given freed invite event id change clients told =
        let after = settled event id change clients in
        any_beside freed invite (after.0, told ++ after.1)
        ∙ list_any-append p told after.1
        ∙ ap (λ b. list_any p told || b) (any_settled event id change clients)
        ∙ or_false (list_any p told)

-- ---- a response: what it asks for

abbrev told_as : ReplyCase → Bool
told_as reply.Repeated = false
told_as reply.Accepted = true
told_as reply.Late = true
told_as (reply.Reliable number) = true
told_as reply.Passed = false
told_as reply.Early = true
told_as reply.Told = true

again_untold : (o : Option SentAck)
    → list_any is_response (option_map_or (λ ack. direct ack ∷ []) o []) ≡ false
again_untold None = refl
again_untold (Some ack) = refl

pub case_told : (case : ReplyCase) (client : Client) (found : Option HeldDialog)
    (answer : ReceivedResponse)
    → list_any is_response (by_reply_case case client found answer).2 ≡ told_as case
case_told reply.Repeated client found answer = again_untold (ack_of answer.name client.answers)
case_told reply.Accepted client found answer = refl
case_told reply.Late client found answer = refl
case_told (reply.Reliable number) client found answer = refl
case_told reply.Passed client found answer = refl
case_told reply.Early client found answer = refl
case_told reply.Told client found answer = refl

-- what is asked for and doesn't go out
abbrev pub left_by : Bool → (PendingRequest → Bool) → Option PendingRequest → List PendingRequest
left_by told goes o =
    option_map_or (λ pending. if told && not (goes pending) then pending ∷ [] else []) o []

module _ (goes : PendingRequest → Bool) (ack : PendingRequest) (prack : ℕ → PendingRequest) where
  abbrev pub case_owes : ReplyCase → List PendingRequest
  case_owes reply.Repeated = []
  case_owes reply.Accepted = unless_out (goes ack) ack
  case_owes reply.Late = []
  case_owes (reply.Reliable number) = unless_out (goes (prack number)) (prack number)
  case_owes reply.Passed = []
  case_owes reply.Early = []
  case_owes reply.Told = []

  abbrev case_by : Bool → Bool → Bool → Bool → Option ℕ → Option ℕ → ReplyCase
  case_by final again there inside last_rseq rseq =
      if final then (if again then reply.Repeated
      else (if there then reply.Accepted else reply.Late))
      else (if inside && there then reliable_case last_rseq rseq else reply.Told)

  abbrev asked_by : Bool → Bool → Bool → Option ℕ → Option PendingRequest
  asked_by success final inside rseq =
      if success then Some ack
      else option_map prack (if final then None else (if inside then rseq else None))

  by_rseq : (last_rseq rseq : Option ℕ)
      → left_by (told_as (reliable_case last_rseq rseq)) goes (option_map prack rseq)
      ≡ case_owes (reliable_case last_rseq rseq)
  by_rseq last_rseq None = refl
  by_rseq last_rseq (Some rseq) = by_offer (offered last_rseq rseq)
    where
      by_offer : (offer : Offer)
          → left_by (told_as (offer_case offer rseq)) goes (Some (prack rseq))
          ≡ case_owes (offer_case offer rseq)
      by_offer Taken = refl
      by_offer Repeat = refl
      by_offer Gap = refl

  pub asks_so : (final success again there inside : Bool) (last_rseq rseq : Option ℕ)
      → (success ≡ true → final ≡ true) → (final ≡ true → success ≡ true)
      → (if there then left_by (told_as (case_by final again there inside last_rseq rseq)) goes
      (asked_by success final inside rseq) else [])
      ≡ case_owes (case_by final again there inside last_rseq rseq)
  asks_so true true true true inside last_rseq rseq so last = refl
  asks_so true true true false inside last_rseq rseq so last = refl
  asks_so true true false true inside last_rseq rseq so last = refl
  asks_so true true false false inside last_rseq rseq so last = refl
  asks_so true false again there inside last_rseq rseq so last =
      let wrong : false ≡ true = last refl in absurd cc
  asks_so false true again there inside last_rseq rseq so last =
      let wrong : false ≡ true = so refl in absurd cc
  asks_so false false again true true last_rseq rseq so last = by_rseq last_rseq rseq
  asks_so false false again false true last_rseq rseq so last = refl
  asks_so false false again true false last_rseq rseq so last = refl
  asks_so false false again false false last_rseq rseq so last = refl

  -- the last response asks for nothing
  pub last_asks : (kind : RequestKind) (found : Option HeldDialog)
      (named final success inside told : Bool) (rseq : Option ℕ)
      → (final && not (is_invite_kind kind && success)) ≡ true
      → (if named && has_dialog kind found then left_by told goes
      (asked_by success final inside rseq) else []) ≡ []
  last_asks kind found named false success inside told rseq last =
      let wrong : false ≡ true = last in absurd cc
  last_asks kind found named true false inside told rseq last =
      none_either (named && has_dialog kind found)
  last_asks InitialInvite found named true true inside told rseq last =
      let wrong : false ≡ true = last in absurd cc
  last_asks (ReInvite life) found named true true inside told rseq last =
      let wrong : false ≡ true = last in absurd cc
  last_asks (InDialog life) found named true true inside told rseq last = neither_way named _ _
  last_asks OutOfDialog found named true true inside told rseq last = neither_way named _ _
