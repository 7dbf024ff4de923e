-- The rules of how a client request ends: by its last response, by a failure or timeout, or at a
-- tick (RFC 3261, sections 12.2.1.2 and 13.2.2.4).
use Rattle.std.specs.Prelude.{ℕ, Bool, false, not, ◌&&◌, nat_le, List, [], ◌++◌, Option, None, filter, fold, if◌then◌else◌}
use Rattle.std.specs.List.{flat_map, list_any}
use Rattle.std.specs.Map.{lookup, remove_entry, values_of}
use Rattle.std.specs.Option.{option_map_or}
use Rattle.sip_message.specs.declared.id.Id.{Id}
use Rattle.sip_timers.specs.Earlier.{earlier}
use Rattle.sip_held_dialogs.specs.declared.held_dialog.HeldDialog.{HeldDialog}
use Rattle.sip_user.specs.declared.item.CallOut.{CallOut}
use Rattle.sip_held_dialogs.specs.Dialogs.{early_ended, ended_at, is_early_of, lives, Dialogs}
use Rattle.sip_held_dialogs.specs.Ids.{is_id}
use Rattle.sip_clients.specs.declared.client.Client.{Client}
use Rattle.sip_clients.specs.Client.{Clients, ClientTaken, Side}
use Rattle.sip_clients.specs.Rules.Requests.{dialog_of_kind}

-- The early dialogs that a request made end with it (RFC 3261, section 13.2.2.3). If `ends_dialog`,
-- so does the dialog that it was sent in, if that is still held (section 12.2.1.2).
abbrev pub request_over : Client → Bool → Dialogs → Dialogs × List CallOut
request_over client ends_dialog dialogs =
    let early = early_ended client.id dialogs in
    let own = option_map_or (λ reference. if ends_dialog && lives early.0 reference
    then ended_at reference.name early.0 else (early.0, []))
    (dialog_of_kind client.kind) (early.0, []) in
    (own.0, early.1 ++ own.1)

-- The transaction of a request failed to send it (as a 503), or timed out (as a 408; RFC 3261,
-- section 8.1.3.1): it is over. A timeout also ends the dialog that it was sent in.
unfoldable pub request_is_lost : Id → Bool → Side → ClientTaken
request_is_lost id timed_out side =
    let ended = option_map_or (λ client. request_over client timed_out side.dialogs)
    (lookup (is_id id) side.clients) (side.dialogs, []) in
    (record { dialogs = ended.0; clients = remove_entry (is_id id) side.clients }, ended.1)

-- an INVITE is over 64*T1 after its first 2xx (RFC 3261, section 13.2.2.4)
abbrev pub is_over : ℕ → Client → Bool
is_over now client = option_map_or (λ moment. nat_le moment now) client.removal false

-- A tick removes such INVITEs, and those of their dialogs that are still early end. These are all
-- taken out first; then their ends are told, INVITE by INVITE.
unfoldable pub client_tick : Side → ℕ → ClientTaken
client_tick side now =
    let over = filter (is_over now) (values_of side.clients) in
    let ends = λ (held : HeldDialog). list_any (λ client. is_early_of client.id held) over in (
      record {
        dialogs = filter (λ entry. not (ends entry.1)) side.dialogs;
        clients = filter (λ entry. not (is_over now entry.1)) side.clients;
      },
      flat_map (λ client. (early_ended client.id side.dialogs).1) over,
    )

-- ---- for steps and laws: `run` needs nothing of what follows

-- the first moment at which an INVITE is over
unfoldable pub client_due : Clients → Option ℕ
client_due clients = fold (λ due client. earlier due client.removal) None (values_of clients)
