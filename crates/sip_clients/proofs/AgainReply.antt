-- A response to a client request: the latest RSeq of an INVITE in a life of a dialog after it.
use Rattle.std.proofs.Common.{◌≡◌, ◌⊎◌, inl, inr, ℕ, Bool, true, false, not, ◌&&◌, ◌==◌, cond, List, [], ◌++◌, map, refl, sym, ap, subst, ◌∙◌}
use Rattle.std.specs.Prelude.{Option, None, Some, filter, if◌then◌else◌}
use Rattle.std.specs.Map.{set_value}
use Rattle.std.specs.Option.{option_map, option_map_or}
use Rattle.sip_message.specs.declared.id.Id.{Id}
use Rattle.keyed_machine.proofs.Ordered.{by_bool}
use Rattle.sip_reliable.specs.declared.offer.Offer.{Offer}
use Rattle.sip_reliable.specs.declared.offer.Offer.TheVariants.{Taken, Repeat, Gap}
use Rattle.sip_reliable.specs.Inbound.{latest_after, offered, taken}
use Rattle.sip_held_dialogs.specs.declared.held_dialog.DialogReference.{DialogReference}
use Rattle.sip_held_dialogs.specs.declared.held_dialog.HeldDialog.{HeldDialog}
use Rattle.sip_user.specs.declared.item.CallOut.{CallOut}
use Rattle.sip_held_dialogs.specs.Dialogs.{dialog_at, is_dialog_id, lives, Dialogs}
use Rattle.sip_held_dialogs.specs.Requests.{is_final, has_to_tag, is_success}
use Rattle.sip_held_dialogs.specs.Ids.{is_id}
use Rattle.sip_held_dialogs.proofs.Entries as entries
use Rattle.sip_held_dialogs.proofs.Heard.{id_laws}
use Rattle.sip_clients.specs.declared.client.RequestKind.TheVariants.{ReInvite}
use Rattle.sip_clients.specs.declared.client.Client.{Client}
use Rattle.sip_clients.specs.declared.outputs.ClientChange.{ClientChange}
use Rattle.sip_clients.specs.declared.outputs.ClientChange.TheVariants.{Stays}
use Rattle.sip_clients.specs.declared.reply.ReceivedResponse.{ReceivedResponse}
use Rattle.sip_clients.specs.declared.reply.ReplyCase.{ReplyCase}
use Rattle.sip_clients.specs.declared.reply.ReplyCase.TheVariants as reply
use Rattle.sip_clients.specs.Cancel.{after_response}
use Rattle.sip_clients.specs.Client.{Clients, Side, client_at, client_changed}
use Rattle.sip_clients.specs.Clients.{settled}
use Rattle.sip_clients.specs.Dialogs.{dialog_for_provisional}
use Rattle.sip_clients.specs.Provisionals.{in_life, is_response, provisional_number, reported_in}
use Rattle.sip_clients.specs.Replied.{Replied, after_dialog, by_reply_case, request_over, notice, prack_owed, reply_taken}
use Rattle.sip_clients.specs.ReceivedResponse.{has_dialog, offer_case, rseq_of, success_case}
use Rattle.sip_clients.proofs.AgainCases.{again, heard_kept, case_by, Gone, gone, success_unheard, lives_same, lives_owed}
use Rattle.sip_clients.proofs.AgainInvite.{AgainResult, AreApart, Keeps, asks_ear, client_ear, ear_of, keeps_settled, silent_then}
use Rattle.sip_clients.proofs.ReplyStarts.{case_fresh, replies, rest_kept}
use Rattle.sip_clients.proofs.StartBounds.{StartsFresh}
use Rattle.sip_clients.proofs.FirstInvite.{no_number}
use Rattle.sip_clients.proofs.FirstReply.{Decided, Unheard, decided, number_by, told_once}
use Rattle.sip_clients.proofs.Hearing.{Listens, Silent}

module _ (life : DialogReference) (invite : Id) (event : Option Id) (answer : ReceivedResponse)
    (made : event ≡ Some (answer.event).id) (side : Side) (apart : AreApart side.clients)
    (once : event ≡ Some invite → ear_of life invite side.clients ≡ None) where
  abbrev ear : Clients → Option (Option ℕ)
  ear clients = ear_of life invite clients

  abbrev pub ResultOf : Dialogs → Clients → Option ℕ → List CallOut → Type 0
  ResultOf dialogs clients number outs =
      AgainResult life invite event side.clients dialogs clients number outs

  -- ---- what is left to do once the request was changed by the response

  module _ (clients : Clients) (left : AreApart clients) (dialogs : Dialogs) (change : ClientChange)
      (starts : StartsFresh change) (outs : List CallOut) where
    settles : Keeps life invite event clients (settled answer.event answer.id change clients).0
    settles = keeps_settled life invite event answer.event answer.id change made starts clients left

    finish_silent : Silent (event ≡ Some invite) (ear side.clients) (ear clients)
        → ResultOf dialogs (settled answer.event answer.id change clients).0 None outs
    finish_silent silent =
        let after = (settled answer.event answer.id change clients).0 in (
          settles.apart,
          no_number (event ≡ Some invite) (lives dialogs life) (ear side.clients)
              (ear after) outs (silent_then (event ≡ Some invite) (ear side.clients) (ear clients)
              (ear after) silent settles.silent),
        )

    finish_gone : (number : Option ℕ) → lives dialogs life ≡ false
        → Silent (event ≡ Some invite) (ear side.clients) (ear clients)
        → ResultOf dialogs (settled answer.event answer.id change clients).0 number outs
    finish_gone number dead silent =
        let after = (settled answer.event answer.id change clients).0 in (
          settles.apart,
          subst (λ b. Listens (event ≡ Some invite) (ear side.clients) (ear after)
              (in_life b number) (reported_in (in_life b number) outs)) (sym dead) (
                silent_then (event ≡ Some invite) (ear side.clients) (ear clients)
                    (ear after) silent settles.silent,
                refl,
              ),
        )

    now_heard : (last_rseq now : Option ℕ) (after : Option (Option ℕ)) → ear side.clients
        ≡ Some last_rseq
        → ear clients ≡ Some now → Silent (event ≡ Some invite) (ear clients) after
        → (after ≡ None) ⊎ (after ≡ Some now)
    now_heard last_rseq now after was is (inl none) = inl none
    now_heard last_rseq now after was is (inr (inl same)) = inr (same ∙ is)
    now_heard last_rseq now after was is (inr (inr begins)) =
        absurd (never (sym (once begins.0) ∙ was))
      where
        never : None ≡ Some last_rseq → ⊥
        never e = absurd cc

    finish_heard : (number : ℕ) (last_rseq : Option ℕ) → lives dialogs life ≡ true
        → ear side.clients ≡ Some last_rseq
        → ear clients ≡ Some (latest_after (offered last_rseq number) last_rseq number)
        → map (λ out. number) (filter is_response outs) ≡ taken (offered last_rseq number) number
        → ResultOf dialogs (settled answer.event answer.id change clients).0 (Some number) outs
    finish_heard number last_rseq alive was is told =
        let after = (settled answer.event answer.id change clients).0 in (
          settles.apart,
          subst (λ b. Listens (event ≡ Some invite) (ear side.clients) (ear after)
              (in_life b (Some number)) (reported_in (in_life b (Some number)) outs)) (sym alive)
              (record {
                last = last_rseq;
                was = inl was;
                now = now_heard last_rseq (latest_after (offered last_rseq number) last_rseq number)
                    (ear after) was is settles.silent;
                shows = told;
              }),
        )

  -- ---- the request that is found

  module _ (client : Client) (is : client_at answer.id side.clients ≡ Some client) where
    -- first the request notes that the response has come
    abbrev pub noting : Client → Client
    noting client = after_response (is_final answer.status) client

    abbrev pub change : Client → Client
    change client = (reply_taken (noting client) side.dialogs answer).0

    abbrev pub changed : Clients
    changed = set_value (is_id answer.id) side.clients (change client)

    is_changed : client_changed answer.id change side.clients ≡ changed
    is_changed = ap (λ o. option_map_or (λ client. set_value (is_id answer.id) side.clients
        (change client)) o side.clients) is

    abbrev pub Done : Option ℕ → Replied → Type 0
    Done number done = ResultOf done.1 (settled answer.event answer.id done.3 changed).0 number
        (done.2 ++ (settled answer.event answer.id done.3 changed).1)

    left : AreApart changed
    left = entries.apart_changed id_laws answer.id change side.clients (Some client) apart

    abbrev found_by : Bool → Option Client
    found_by b = cond b (option_map change (client_at invite side.clients))
        (client_at invite side.clients)

    found_now : client_at invite changed ≡ found_by (is_id answer.id invite)
    found_now = ap (client_at invite) (sym is_changed)
        ∙ entries.found_changed id_laws answer.id invite change side.clients

    ear_other : is_id answer.id invite ≡ false → ear changed ≡ ear side.clients
    ear_other other = ap (client_ear life) (found_now ∙ ap found_by other)

    there : is_id answer.id invite ≡ true → client_at invite side.clients ≡ Some client
    there same = entries.same_key id_laws answer.id invite side.clients same ∙ is

    ear_own : is_id answer.id invite ≡ true → ear changed ≡ client_ear life (Some (change client))
    ear_own same =
        ap (client_ear life) (found_now ∙ ap found_by same ∙ ap (option_map change) (there same))

    -- a request that is no INVITE of the life
    no_ear : ((last_rseq : Option ℕ) → asks_ear life client.kind last_rseq ≡ None)
        → is_id answer.id invite ≡ true → ear changed ≡ None
    no_ear none same =
        let after = change client in
        ear_own same ∙ ap (λ kind. asks_ear life kind after.last_rseq)
        (replies (noting client) side.dialogs answer).kept.0 ∙ none after.last_rseq

    other_silent : is_id answer.id invite ≡ false
        → Silent (event ≡ Some invite) (ear side.clients) (ear changed)
    other_silent other = inr (inl (ear_other other))

    finish : Silent (event ≡ Some invite) (ear side.clients) (ear changed)
        → Done None (reply_taken (noting client) side.dialogs answer)
    finish silent =
        let done = reply_taken (noting client) side.dialogs answer in
        finish_silent changed left done.1 done.3 (replies (noting client) side.dialogs answer).fresh
        (done.2 ++ (settled answer.event answer.id done.3 changed).1) silent

    pub no_invite : ((last_rseq : Option ℕ) → asks_ear life client.kind last_rseq ≡ None)
        → Done None (reply_taken (noting client) side.dialogs answer)
    no_invite none =
        finish (by_bool (is_id answer.id invite) (λ same. inl (no_ear none same)) other_silent)

    pub another : is_id answer.id invite ≡ false
        → Done None (reply_taken (noting client) side.dialogs answer)
    another other = finish (other_silent other)

  -- an INVITE of the life, in its dialog
  module _ (own : DialogReference) (client : Client) (named : answer.name ≡ own.name)
      (is : client_at answer.id side.clients ≡ Some (again own client))
      (same : is_id answer.id invite ≡ true)
      (ours : (is_dialog_id life.name own.name && is_id own.created_by life.created_by) ≡ true)
    where
      abbrev found : Client
      found = again own client

      abbrev now : Client
      now = noting found is found

      abbrev after : Clients
      after = changed found is

      abbrev held : Option HeldDialog
      held = dialog_at answer.name side.dialogs

      abbrev taken_as : ReplyCase → Replied
      taken_as case = after_dialog answer.name side.dialogs (by_reply_case case now held answer)

      abbrev pub DoneSo : Option ℕ → Replied → Type 0
      DoneSo number done = Done found is number done

      was : ear side.clients ≡ Some client.last_rseq
      was = ap (client_ear life) (there found is same)
          ∙ (λ i. if ours i then Some client.last_rseq else None)

      -- the latest RSeq after the response
      abbrev Heard : Replied → Type 0
      Heard done = ear after ≡ client_ear life (Some done.0)

      now_is : (case : ReplyCase) → Heard (taken_as case) → Unheard case
          → Silent (event ≡ Some invite) (ear side.clients) (ear after)
      now_is case last_rseq none =
          inr (inl (last_rseq ∙ (λ i. asks_ear life ((rest_kept case now held answer).0 i)
          (heard_kept case now held answer none i))
          ∙ (λ i. if ours i then Some client.last_rseq else None) ∙ sym was))

      over : Heard (request_over now side.dialogs answer)
          → DoneSo None (request_over now side.dialogs answer)
      over last_rseq =
          let done = request_over now side.dialogs answer in
          finish_silent after (left found is) done.1 done.3 tt
          (done.2 ++ (settled answer.event answer.id done.3 after).1)
          (inr (inl (last_rseq ∙ (λ i. if ours i then Some client.last_rseq else None) ∙ sym was)))

      unheard : (case : ReplyCase) → Heard (taken_as case) → Unheard case
          → DoneSo None (taken_as case)
      unheard case last_rseq none =
          let done = taken_as case in
          finish_silent after (left found is) done.1 done.3 (case_fresh case now held answer)
          (done.2 ++ (settled answer.event answer.id done.3 after).1) (now_is case last_rseq none)

      passed : (number : ℕ) (offer : Offer) → offered client.last_rseq number ≡ offer
          → taken offer number ≡ [] → ((last : Option ℕ) → latest_after offer last number ≡ last)
          → lives side.dialogs life ≡ true → Heard (taken_as reply.Passed)
          → DoneSo (Some number) (taken_as reply.Passed)
      passed number offer is_offered none kept alive last_rseq =
          finish_heard after (left found is) side.dialogs Stays tt [] number client.last_rseq alive
          was
          (last_rseq ∙ (λ i. if ours i then Some client.last_rseq else None)
          ∙ ap (λ h. Some h) (sym (ap (λ o. latest_after o client.last_rseq number) is_offered
          ∙ kept client.last_rseq)))
          (sym (ap (λ o. taken o number) is_offered ∙ none))

      by_offer : (number : ℕ) (offer : Offer) → offered client.last_rseq number ≡ offer
          → has_dialog (ReInvite own) held ≡ true → lives side.dialogs life ≡ true
          → Heard (taken_as (offer_case offer number))
          → DoneSo (Some number) (taken_as (offer_case offer number))
      unfolding prack_owed
      by_offer number Taken is_offered there alive last_rseq =
          let done = taken_as (reply.Reliable number) in
          finish_heard after (left found is) done.1 done.3
          (case_fresh (reply.Reliable number) now held answer)
          (done.2 ++ (settled answer.event answer.id done.3 after).1) number client.last_rseq
          (lives_owed life own number (noting found is client) side.dialogs answer held refl there
          ∙ alive) was
          (last_rseq ∙ (λ i. if ours i then Some
          (latest_after (offered client.last_rseq number) client.last_rseq number) else None))
          (told_once number answer answer.id
          (prack_owed number now (dialog_for_provisional now answer held) answer).1 after
          ∙ ap (λ o. taken o number) (sym is_offered))
      by_offer number Repeat is_offered there alive last_rseq =
          passed number Repeat is_offered refl (λ last. refl) alive last_rseq
      by_offer number Gap is_offered there alive last_rseq =
          passed number Gap is_offered refl (λ last. refl) alive last_rseq

      by_number : (number : Option ℕ) (case : ReplyCase) → has_dialog (ReInvite own) held ≡ true
          → lives side.dialogs life ≡ true → Heard (taken_as case)
          → Decided Unheard client.last_rseq number case → DoneSo number (taken_as case)
      by_number None case there alive last_rseq none = unheard case last_rseq none
      by_number (Some number) case there alive last_rseq case_is =
          subst (λ c. DoneSo (Some number) (taken_as c)) (sym case_is)
          (by_offer number (offered client.last_rseq number) refl there alive
          (subst (λ c. Heard (taken_as c)) case_is last_rseq))

      by_gone : (number : Option ℕ) (case : ReplyCase) → lives side.dialogs life ≡ false
          → Heard (taken_as case) → Gone number case → DoneSo number (taken_as case)
      by_gone None case dead last_rseq none = unheard case last_rseq none
      by_gone (Some number) case dead last_rseq case_is =
          let told = subst (λ c. Heard (taken_as c)) case_is last_rseq in
          subst (λ c. DoneSo (Some number) (taken_as c)) (sym case_is)
          (finish_gone after (left found is) side.dialogs Stays tt (notice answer ++ [])
          (Some number) dead (now_is reply.Told told refl))

      abbrev inside : Bool
      inside = not (answer.status == 100) && has_to_tag answer.response

      abbrev rseq : Option ℕ
      rseq = rseq_of answer.response

      abbrev decides : Bool → Bool → ReplyCase
      decides final alive = case_by final inside alive (success_case now held answer.name)
          client.last_rseq rseq

      in_dialog : (final : Bool) → Heard (taken_as (decides final (has_dialog (ReInvite own) held)))
          → DoneSo (number_by final inside rseq)
          (taken_as (decides final (has_dialog (ReInvite own) held)))
      in_dialog final last_rseq =
          let case = decides final (has_dialog (ReInvite own) held) in
          let number = number_by final inside rseq in
          let winning = success_case now held answer.name in
          let none = success_unheard own (noting found is client) answer held in
          let lives_is : has_dialog (ReInvite own) held ≡ lives side.dialogs life =
          ap (λ name. has_dialog (ReInvite own) (dialog_at name side.dialogs)) named
          ∙ lives_same life own side.dialogs ours in
          by_bool (has_dialog (ReInvite own) held)
          (λ there. by_number number case there (sym lives_is ∙ there) last_rseq
          (subst (λ b. Decided Unheard client.last_rseq number (decides final b)) (sym there)
          (decided final inside winning client.last_rseq rseq none)))
          (λ dead. by_gone number case (sym lives_is ∙ dead) last_rseq
          (subst (λ b. Gone number (decides final b)) (sym dead)
          (gone final inside winning client.last_rseq rseq none)))

      by_last : (final success : Bool)
          → Heard (cond {A = Replied} (final && not success) (request_over now side.dialogs answer)
          (taken_as (decides final (has_dialog (ReInvite own) held))))
          → DoneSo (number_by final inside rseq)
          (cond {A = Replied} (final && not success) (request_over now side.dialogs answer)
          (taken_as (decides final (has_dialog (ReInvite own) held))))
      by_last true false last_rseq = over last_rseq
      by_last true true last_rseq = in_dialog true last_rseq
      by_last false success last_rseq = in_dialog false last_rseq

      pub invite_replied : DoneSo (provisional_number (Some answer.status) answer.response)
          (reply_taken now side.dialogs answer)
      invite_replied =
          by_last (is_final answer.status) (is_success answer.status) (ear_own found is same)
