-- The user gives a client request or a dialog up: what is true of every step is true of these.
use Rattle.std.proofs.Common.{◌≡◌, ◌≤◌, true, false, cond, [], ◌∷◌, ◌++◌, refl, sym, ap, subst, ◌∙◌}
use Rattle.std.specs.Prelude.{Option, None, Some, filter}
use Rattle.std.specs.List.{list_any}
use Rattle.std.specs.Map.{values_of}
use Rattle.std.specs.Option.{option_map_or}
use Rattle.std.proofs.lemmas.List.{append-nil}
use Rattle.sip_message.specs.declared.id.Id.{Id}
use Rattle.sip_user.specs.declared.command.AbandonDialog.{AbandonDialog}
use Rattle.sip_user.specs.declared.command.AbandonRequest.{AbandonRequest}
use Rattle.sip_user.specs.declared.refusal.Refusal.{Refusal}
use Rattle.sip_user.specs.declared.refusal.Refusal.TheVariants.{NoSuchDialog, NoSuchRequest}
use Rattle.sip_user.specs.Notices.{refused}
use Rattle.sip_held_dialogs.specs.declared.held_dialog.DialogId.{DialogId}
use Rattle.sip_held_dialogs.specs.declared.held_dialog.DialogReference.{DialogReference}
use Rattle.sip_held_dialogs.specs.declared.held_dialog.HeldDialog.{HeldDialog}
use Rattle.sip_held_dialogs.specs.Dialogs.{Dialogs, dialog_at, early_ended, ended_at, ended_notice, is_dialog_id, is_early_of}
use Rattle.sip_held_dialogs.specs.Ids.{is_id}
use Rattle.sip_held_dialogs.proofs.EndedDialogs.{AreNamed, Goes, goes_as, goes_before, goes_removed, goes_same, no_name, none_ends}
use Rattle.sip_held_dialogs.proofs.Entries as entries
use Rattle.sip_held_dialogs.proofs.Heard.{AreApart, Leads, leads_removed, leads_same, name_laws, quiet}
use Rattle.sip_held_dialogs.proofs.OwnDialogs.{ended_own}
use Rattle.sip_held_dialogs.proofs.Owing.{OweSame, removed_same, same_owed}
use Rattle.sip_held_dialogs.proofs.Starts.{ended_starts, starts}
use Rattle.sip_held_dialogs.proofs.ToldRequests.{reported}
use Rattle.sip_clients.specs.declared.client.Client.{Client}
use Rattle.sip_clients.specs.declared.client.RequestKind.{RequestKind}
use Rattle.sip_clients.specs.declared.client.RequestKind.TheVariants.{InitialInvite, ReInvite, InDialog, OutOfDialog}
use Rattle.sip_clients.specs.declared.event.Event.{Event}
use Rattle.sip_clients.specs.Abandon.{dialog_abandoned, dialog_abandoned_of, end_command, request_abandoned, request_abandoned_of}
use Rattle.sip_clients.specs.Client.{Clients, ClientTaken, Side, client_at}
use Rattle.sip_clients.specs.ClientLife.{acks_out, cancels_out}
use Rattle.sip_clients.specs.ClientRules.{AllLive, AllWait, HoldsRules, KeepsWaiting, SendsNoAck, SendsNoCancel}
use Rattle.sip_clients.specs.ClientTelling.{AreTold, HoldsStories, abandon_told, lost_told}
use Rattle.sip_clients.specs.Clients.{lost_of, request_lost}
use Rattle.sip_clients.specs.Commands.{name_in}
use Rattle.sip_clients.specs.Dialogs.{own_ended}
use Rattle.sip_clients.specs.OwnCall.{AreNoticesOf, IsSideOf, KeepsTo}
use Rattle.sip_clients.specs.RefusedCommands.{IsRefusedAlone, is_refusal}
use Rattle.sip_clients.specs.Rules.Abandon.{abandon_dialog_command, abandon_of_dialog, abandon_of_request, abandon_request_command}
use Rattle.sip_clients.specs.Rules.Requests.{refuse}
use Rattle.sip_clients.proofs.AgainInvite as again
use Rattle.sip_clients.proofs.CommandStories.{lost_holds, lost_rules}
use Rattle.sip_clients.proofs.DialogDebts.{lost_owes}
use Rattle.sip_clients.proofs.DialogSends.{Sends, silent_outs}
use Rattle.sip_clients.proofs.EndedKeys.{AreSound, lost_sound}
use Rattle.sip_clients.proofs.EndedReplies.{lost_goes, lost_with}
use Rattle.sip_clients.proofs.FirstSides.{lost_leads}
use Rattle.sip_clients.proofs.NoRequests.{lost_asks}
use Rattle.sip_clients.proofs.OtherSends.{lost_no_ack, lost_no_cancel}
use Rattle.sip_clients.proofs.OwnReplies.{lost_own}
use Rattle.sip_clients.proofs.RefusedAlone.{by_bool, end_told, ends_told, silent, told_alone}
use Rattle.sip_clients.proofs.RuleEnds.{lost_same}
use Rattle.sip_clients.proofs.StartBounds.{Fits, how_many, waiting, waits_for}
use Rattle.sip_clients.proofs.Tally.{tally_removed}
use Rattle.sip_clients.proofs.Waiting.{lost_waits}
use Rattle.sip_clients.proofs.WithoutStarts.{lost_quiet, none_started, silent_fits, stays_quiet}

-- ---- by what is held

module _ (event : Event) (command : AbandonRequest) (side : Side) where
  abbrev found : Option Client
  found = client_at command.id side.clients

  -- the request is over
  abbrev over : Client → ClientTaken
  over client =
      let lost = request_lost command.id false side in
      (lost.0, end_command command.id client ∷ lost.1)

  by_request : (P : ClientTaken → Type 0)
      → ((refusal : Refusal) → found ≡ None
      → P (side, refused event.id command.call_id refusal))
      → ((client : Client) → P (over client)) → P (request_abandoned event command side)
  by_request P refuses ends = by found refl
    where
      by : (o : Option Client) → found ≡ o → P (request_abandoned_of o event command side)
      by None none = refuses NoSuchRequest none
      by (Some client) is = ends client

module _ (event : Event) (command : AbandonDialog) (side : Side) where
  abbrev own : DialogId
  own = name_in command.local_tag command.remote_tag

  abbrev without : ClientTaken
  without = let ended = ended_at own side.dialogs in (record side { dialogs = ended.0 }, ended.1)

  by_dialog : (P : ClientTaken → Type 0)
      → ((refusal : Refusal) → dialog_at own side.dialogs ≡ None
      → P (side, refused event.id command.call_id refusal))
      → P without → P (dialog_abandoned event command side)
  by_dialog P refuses ends = by (dialog_at own side.dialogs) refl
    where
      by : (o : Option HeldDialog) → dialog_at own side.dialogs ≡ o
          → P (dialog_abandoned_of o event command own side)
      by None none = refuses NoSuchDialog none
      by (Some held) is = ends

-- ---- the rules say the same

pub request_same : (event : Event) (command : AbandonRequest) (side : Side)
    → abandon_request_command event command side ≡ request_abandoned event command side
unfolding abandon_request_command
request_same event command side = by (client_at command.id side.clients)
  where
    by : (o : Option Client)
        → option_map_or (abandon_of_request command side) o
        (refuse event command.call_id side NoSuchRequest)
        ≡ request_abandoned_of o event command side
    by None = refl
    by (Some client) =
        ap (λ (lost : ClientTaken). (lost.0, end_command command.id client ∷ lost.1))
        (lost_same command.id false side)

pub dialog_same : (event : Event) (command : AbandonDialog) (side : Side)
    → abandon_dialog_command event command side ≡ dialog_abandoned event command side
unfolding abandon_dialog_command
dialog_same event command side =
    by (dialog_at (name_in command.local_tag command.remote_tag) side.dialogs)
  where
    by : (o : Option HeldDialog)
        → option_map_or (abandon_of_dialog (name_in command.local_tag command.remote_tag) side) o
        (refuse event command.call_id side NoSuchDialog)
        ≡ dialog_abandoned_of o event command (name_in command.local_tag command.remote_tag) side
    by None = refl
    by (Some held) = refl

-- ---- nothing starts, and no request is told of

lost_starts : (command : AbandonRequest) (side : Side)
    → starts (request_lost command.id false side).1 ≡ []
lost_starts command side =
    none_started (request_lost command.id false side).1
    (lost_quiet command.id false (client_at command.id side.clients) side)

pub request_starts : (event : Event) (command : AbandonRequest) (side : Side)
    → starts (request_abandoned event command side).1 ≡ []
request_starts event command side =
    by_request event command side (λ taken. starts taken.1 ≡ []) (λ refusal none. refl)
    (λ client. lost_starts command side)

pub dialog_starts : (event : Event) (command : AbandonDialog) (side : Side)
    → starts (dialog_abandoned event command side).1 ≡ []
dialog_starts event command side =
    by_dialog event command side (λ taken. starts taken.1 ≡ []) (λ refusal none. refl)
    (ended_starts (name_in command.local_tag command.remote_tag) side.dialogs)

pub request_fits : (event : Event) (command : AbandonRequest) (side : Side)
    → Fits (Some event.id) side.clients (request_abandoned event command side).1
    ((request_abandoned event command side).0).clients
request_fits event command side =
    by_request event command side
    (λ taken. Fits (Some event.id) side.clients taken.1 (taken.0).clients)
    (λ refusal none. stays_quiet (Some event.id) side.clients
    (refused event.id command.call_id refusal) refl)
    (λ client. silent_fits (Some event.id) side.clients
    (end_command command.id client ∷ (request_lost command.id false side).1)
    ((request_lost command.id false side).0).clients (lost_starts command side)
    (fewer (client_at command.id side.clients)))
  where
    fewer : (o : Option Client) (of : Id)
        → how_many of (waiting ((lost_of command.id false o side).0).clients)
        ≤ how_many of (waiting side.clients)
    fewer None of = tally_removed waits_for (is_id of) (is_id command.id) side.clients
    fewer (Some client) of = tally_removed waits_for (is_id of) (is_id command.id) side.clients

pub dialog_fits : (event : Event) (command : AbandonDialog) (side : Side)
    → Fits (Some event.id) side.clients (dialog_abandoned event command side).1
    ((dialog_abandoned event command side).0).clients
dialog_fits event command side =
    by_dialog event command side
    (λ taken. Fits (Some event.id) side.clients taken.1 (taken.0).clients)
    (λ refusal none. stays_quiet (Some event.id) side.clients
    (refused event.id command.call_id refusal) refl)
    (stays_quiet (Some event.id) side.clients (without event command side).1
    (ended_starts (name_in command.local_tag command.remote_tag) side.dialogs))

pub request_asks : (event : Event) (command : AbandonRequest) (side : Side)
    → reported (request_abandoned event command side).1 ≡ []
request_asks event command side =
    by_request event command side (λ taken. reported taken.1 ≡ []) (λ refusal none. refl)
    (λ client. lost_asks command.id false side)

pub dialog_asks : (event : Event) (command : AbandonDialog) (side : Side)
    → reported (dialog_abandoned event command side).1 ≡ []
dialog_asks event command side =
    by_dialog event command side (λ taken. reported taken.1 ≡ []) (λ refusal none. refl)
    (told (dialog_at (name_in command.local_tag command.remote_tag) side.dialogs))
  where
    told : (o : Option HeldDialog)
        → reported (option_map_or (λ held. ended_notice held ∷ []) o []) ≡ []
    told None = refl
    told (Some held) = refl

-- ---- neither a CANCEL nor an ACK goes out

pub request_no_cancel : (event : Event) (command : AbandonRequest)
    → SendsNoCancel (request_abandoned event command)
request_no_cancel event command side =
    by_request event command side (λ taken. cancels_out taken.1 ≡ []) (λ refusal none. refl)
    (λ client. lost_no_cancel command.id false side)

pub request_no_ack : (event : Event) (command : AbandonRequest)
    → SendsNoAck (request_abandoned event command)
request_no_ack event command side =
    by_request event command side (λ taken. acks_out taken.1 ≡ []) (λ refusal none. refl)
    (λ client. lost_no_ack command.id false side)

pub dialog_no_cancel : (event : Event) (command : AbandonDialog)
    → SendsNoCancel (dialog_abandoned event command)
dialog_no_cancel event command side =
    by_dialog event command side (λ taken. cancels_out taken.1 ≡ []) (λ refusal none. refl)
    (sent (dialog_at (name_in command.local_tag command.remote_tag) side.dialogs))
  where
    sent : (o : Option HeldDialog)
        → cancels_out (option_map_or (λ held. ended_notice held ∷ []) o []) ≡ []
    sent None = refl
    sent (Some held) = refl

pub dialog_no_ack : (event : Event) (command : AbandonDialog)
    → SendsNoAck (dialog_abandoned event command)
dialog_no_ack event command side =
    by_dialog event command side (λ taken. acks_out taken.1 ≡ []) (λ refusal none. refl)
    (sent (dialog_at (name_in command.local_tag command.remote_tag) side.dialogs))
  where
    sent : (o : Option HeldDialog)
        → acks_out (option_map_or (λ held. ended_notice held ∷ []) o []) ≡ []
    sent None = refl
    sent (Some held) = refl

-- ---- a refusal is alone

own_none : (kind : RequestKind) (dialogs : Dialogs) → (own_ended kind false dialogs).1 ≡ []
own_none InitialInvite dialogs = refl
own_none (ReInvite life) dialogs = refl
own_none (InDialog life) dialogs = refl
own_none OutOfDialog dialogs = refl

not_refused : (id : Id) (o : Option Client) (side : Side)
    → list_any is_refusal (lost_of id false o side).1 ≡ false
not_refused id None side = refl
not_refused id (Some client) side =
    let early = early_ended client.id side.dialogs in
    ap (λ outs. list_any is_refusal (early.1 ++ outs)) (own_none client.kind early.0)
    ∙ ap (list_any is_refusal) (append-nil early.1)
    ∙ ends_told (filter (is_early_of client.id) (values_of side.dialogs))

pub request_alone : (event : Event) (side : Side) (command : AbandonRequest)
    → IsRefusedAlone side command.call_id event.id (request_abandoned event command side)
request_alone event side command =
    by_request event command side (IsRefusedAlone side command.call_id event.id)
    (λ refusal none. told_alone side command.call_id event.id refusal)
    (λ client. silent side command.call_id event.id (over event command side client)
    (not_refused command.id (client_at command.id side.clients) side))

pub dialog_alone : (event : Event) (side : Side) (command : AbandonDialog)
    → IsRefusedAlone side command.call_id event.id (dialog_abandoned event command side)
dialog_alone event side command =
    by_dialog event command side (IsRefusedAlone side command.call_id event.id)
    (λ refusal none. told_alone side command.call_id event.id refusal)
    (silent side command.call_id event.id (without event command side)
    (end_told (dialog_at (name_in command.local_tag command.remote_tag) side.dialogs)))

-- ---- stories

pub request_holds : (event : Event) (command : AbandonRequest)
    → HoldsStories (request_abandoned event command)
    (λ side outs stories. abandon_told command outs stories)
request_holds event command side stories told =
    by_request event command side
    (λ taken. AreTold (taken.0).clients (abandon_told command taken.1 stories))
    (λ refusal none. told)
    (λ client. subst
    (λ b. AreTold ((request_lost command.id false side).0).clients
    (cond b stories (lost_told command.id stories)))
    (sym (not_refused command.id (client_at command.id side.clients) side))
    (lost_holds command.id false side stories told))

pub request_rules : (event : Event) (command : AbandonRequest)
    → HoldsRules (request_abandoned event command)
    (λ side outs stories. abandon_told command outs stories)
request_rules event command side stories told all =
    elim (list_any is_refusal (request_abandoned event command side).1)
    as (λ b. AllLive (cond b stories (lost_told command.id stories))) [
      | true ↦ all
      | false ↦ lost_rules command.id false side stories told all
    ]

pub request_waits : (event : Event) (command : AbandonRequest)
    → KeepsWaiting (request_abandoned event command)
request_waits event command side all =
    by_request event command side (λ taken. AllWait (taken.0).clients) (λ refusal none. all)
    (λ client. lost_waits command.id false side all)

pub dialog_holds : (event : Event) (command : AbandonDialog)
    → HoldsStories (dialog_abandoned event command) (λ side outs stories. stories)
dialog_holds event command side stories told =
    by_dialog event command side (λ taken. AreTold (taken.0).clients stories)
    (λ refusal none. told) told

pub dialog_rules : (event : Event) (command : AbandonDialog)
    → HoldsRules (dialog_abandoned event command) (λ side outs stories. stories)
dialog_rules event command side stories told all = all

pub dialog_waits : (event : Event) (command : AbandonDialog)
    → KeepsWaiting (dialog_abandoned event command)
dialog_waits event command side all =
    by_dialog event command side (λ taken. AllWait (taken.0).clients) (λ refusal none. all) all

-- ---- the Call-ID

pub request_own : (event : Event) (command : AbandonRequest)
    → KeepsTo command.call_id (request_abandoned event command)
request_own event command side own =
    by_request event command side
    (λ taken. IsSideOf command.call_id taken.0 × AreNoticesOf command.call_id taken.1)
    (λ refusal none. (own, (refl, tt)))
    (λ client. let so = lost_own command.call_id command.id false side own in (so.0, (tt, so.1)))

pub dialog_own : (event : Event) (command : AbandonDialog)
    → KeepsTo command.call_id (dialog_abandoned event command)
dialog_own event command side own =
    let name = name_in command.local_tag command.remote_tag in
    let so = ended_own command.call_id name side.dialogs own.dialogs in
    by_dialog event command side
    (λ taken. IsSideOf command.call_id taken.0 × AreNoticesOf command.call_id taken.1)
    (λ refusal none. (own, (refl, tt)))
    (record { dialogs = so.0; clients = own.clients }, so.1)

-- ---- what the client requests are

pub request_sound : (event : Event) (command : AbandonRequest) (side : Side)
    → AreSound side.clients → AreSound ((request_abandoned event command side).0).clients
request_sound event command side sound =
    by_request event command side (λ taken. AreSound (taken.0).clients) (λ refusal none. sound)
    (λ client. lost_sound command.id false (client_at command.id side.clients) side sound)

pub dialog_sound : (event : Event) (command : AbandonDialog) (side : Side)
    → AreSound side.clients → AreSound ((dialog_abandoned event command side).0).clients
dialog_sound event command side sound =
    by_dialog event command side (λ taken. AreSound (taken.0).clients) (λ refusal none. sound) sound

module _ (life : DialogReference) (invite : Id) (by : Option Id) where
  abbrev KeepsAt : Clients → Clients → Type 0
  KeepsAt before after = again.Keeps life invite by before after

  pub request_keeps : (event : Event) (command : AbandonRequest) (side : Side)
      → again.AreApart side.clients
      → KeepsAt side.clients ((request_abandoned event command side).0).clients
  request_keeps event command side apart =
      by_request event command side (λ taken. KeepsAt side.clients (taken.0).clients)
      (λ refusal none. again.keeps_same life invite by side.clients apart)
      (λ client. again.keeps_lost life invite by command.id false
      (client_at command.id side.clients) side apart)

  pub dialog_keeps : (event : Event) (command : AbandonDialog) (side : Side)
      → again.AreApart side.clients
      → KeepsAt side.clients ((dialog_abandoned event command side).0).clients
  dialog_keeps event command side apart =
      by_dialog event command side (λ taken. KeepsAt side.clients (taken.0).clients)
      (λ refusal none. again.keeps_same life invite by side.clients apart)
      (again.keeps_same life invite by side.clients apart)

-- ---- what the dialogs are

pub request_leads : (event : Event) (command : AbandonRequest) (side : Side)
    → AreApart side.dialogs
    → Leads quiet side.dialogs ((request_abandoned event command side).0).dialogs
request_leads event command side apart =
    by_request event command side (λ taken. Leads quiet side.dialogs (taken.0).dialogs)
    (λ refusal none. leads_same side.dialogs apart)
    (λ client. lost_leads command.id false (client_at command.id side.clients) side apart)

pub dialog_leads : (event : Event) (command : AbandonDialog) (side : Side)
    → AreApart side.dialogs
    → Leads quiet side.dialogs ((dialog_abandoned event command side).0).dialogs
dialog_leads event command side apart =
    by_dialog event command side (λ taken. Leads quiet side.dialogs (taken.0).dialogs)
    (λ refusal none. leads_same side.dialogs apart)
    (leads_removed (name_in command.local_tag command.remote_tag) side.dialogs apart)

pub request_lives : (event : Event) (command : AbandonRequest) (side : Side)
    → AreApart side.dialogs
    → Sends (request_abandoned event command side).1 side.dialogs
    ((request_abandoned event command side).0).dialogs
request_lives event command side apart =
    silent_outs (request_abandoned event command side).1 (request_starts event command side)
    side.dialogs ((request_abandoned event command side).0).dialogs
    (request_leads event command side apart)

pub dialog_lives : (event : Event) (command : AbandonDialog) (side : Side)
    → AreApart side.dialogs
    → Sends (dialog_abandoned event command side).1 side.dialogs
    ((dialog_abandoned event command side).0).dialogs
dialog_lives event command side apart =
    silent_outs (dialog_abandoned event command side).1 (dialog_starts event command side)
    side.dialogs ((dialog_abandoned event command side).0).dialogs
    (dialog_leads event command side apart)

pub request_owes : (event : Event) (command : AbandonRequest) (side : Side)
    → AreApart side.dialogs
    → OweSame side.dialogs ((request_abandoned event command side).0).dialogs
request_owes event command side apart =
    by_request event command side (λ taken. OweSame side.dialogs (taken.0).dialogs)
    (λ refusal none. same_owed side.dialogs)
    (λ client. lost_owes command.id false (client_at command.id side.clients) side apart)

pub dialog_owes : (event : Event) (command : AbandonDialog) (side : Side)
    → AreApart side.dialogs
    → OweSame side.dialogs ((dialog_abandoned event command side).0).dialogs
dialog_owes event command side apart =
    by_dialog event command side (λ taken. OweSame side.dialogs (taken.0).dialogs)
    (λ refusal none. same_owed side.dialogs)
    (removed_same (name_in command.local_tag command.remote_tag) side.dialogs apart)

-- ---- which dialogs end

pub request_goes : (event : Event) (command : AbandonRequest) (side : Side)
    → AreApart side.dialogs → AreNamed side.dialogs
    → Goes no_name (lost_with (client_at command.id side.clients) false) side.dialogs
    ((request_abandoned event command side).0).dialogs (request_abandoned event command side).1
request_goes event command side apart named =
    let found = client_at command.id side.clients in
    let lost = request_lost command.id false side in
    by_request event command side
    (λ taken. Goes no_name (lost_with found false) side.dialogs (taken.0).dialogs taken.1)
    (λ refusal none. subst (λ o. Goes no_name (lost_with o false) side.dialogs side.dialogs
    (refused event.id command.call_id refusal)) (sym none) (goes_same side.dialogs _ refl))
    (λ client. goes_before no_name (lost_with found false) side.dialogs (lost.0).dialogs
    (end_command command.id client ∷ []) lost.1 refl
    (lost_goes command.id false found side apart named))

pub dialog_goes : (event : Event) (command : AbandonDialog) (side : Side)
    → AreApart side.dialogs → AreNamed side.dialogs
    → Goes no_name
    (λ name held. is_dialog_id (name_in command.local_tag command.remote_tag) name) side.dialogs
    ((dialog_abandoned event command side).0).dialogs (dialog_abandoned event command side).1
dialog_goes event command side apart named =
    by_dialog event command side
    (λ taken. Goes no_name (λ name held. is_dialog_id own name) side.dialogs
    (taken.0).dialogs taken.1)
    (λ refusal none. goes_as no_name no_name none_ends (λ name held. is_dialog_id own name)
    side.dialogs side.dialogs (refused event.id command.call_id refusal) (λ name. refl)
    (λ name held at. by_bool (is_dialog_id own name)
    (λ same. absurd (apart_from held (sym at ∙ entries.same_key name_laws own name side.dialogs same
    ∙ none)))
    (λ other. sym other)) (goes_same side.dialogs _ refl))
    (goes_removed own side.dialogs apart named)
  where
    own : DialogId
    own = name_in command.local_tag command.remote_tag

    apart_from : (held : HeldDialog) → Some held ≡ None → ⊥
    apart_from held e = absurd cc
