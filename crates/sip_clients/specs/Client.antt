-- The client requests of one Call-ID.
use Rattle.std.specs.Prelude.{List, [], Option, None, false}
use Rattle.std.specs.Map.{lookup, remove_entry, set_value}
use Rattle.std.specs.Option.{option_map_or}
use Rattle.indexmap.specs.IndexMap.{insert_entry}
use Rattle.sip_message.specs.declared.addr.Addr.{Addr}
use Rattle.sip_message.specs.declared.id.Id.{Id}
use Rattle.sip_message.specs.declared.message.Message.{Message}
use Rattle.sip_user.specs.declared.item.CallOut.{CallOut}
use Rattle.sip_held_dialogs.specs.Dialogs.{Dialogs}
use Rattle.sip_held_dialogs.specs.Ids.{is_id}
use Rattle.sip_clients.specs.declared.client.RequestKind.{RequestKind}
use Rattle.sip_clients.specs.declared.client.Cancelling.TheVariants.{NotAsked}
use Rattle.sip_clients.specs.declared.client.Client.{Client}

-- the held client requests by the events that sent them, in the order in which they were sent
abbrev pub Clients : Type 0
Clients = List (Id × Client)

-- the client request that the event of this id sent
abbrev pub client_at : Id → Clients → Option Client
client_at id clients = lookup (is_id id) clients

-- A request that was just sent: no response came, and no CANCEL was asked for. `last_rseq` is for a
-- re-INVITE; otherwise the dialog has it. `answers` has each dialog with a 2xx, and its ACK, or
-- None if that wasn't sent.
abbrev pub client_for : Id → RequestKind → Message → Addr → Client
client_for id kind request to =
    record {
      id = id;
      kind = kind;
      request = request;
      to = to;
      provisional = false;
      cancel = NotAsked;
      last_rseq = None;
      answers = [];
      removal = None;
    }

-- the held dialogs, and the held client requests
pub record Side : Type 0 where
  pub dialogs : Dialogs
  pub clients : Clients

-- what is held after something happened, and what is told and sent
abbrev pub ClientTaken : Type 0
ClientTaken = Side × List CallOut

-- ---- for steps and laws: `run` needs nothing of what follows

-- the requests after this change of the one with this id
abbrev pub client_changed : Id → (Client → Client) → Clients → Clients
client_changed id change clients =
    option_map_or (λ client. set_value (is_id id) clients (change client))
    (client_at id clients) clients

-- the requests without that of this id
abbrev pub without_client : Id → Clients → Clients
without_client id clients = remove_entry (is_id id) clients

-- the requests with this one under this id
abbrev pub with_client : Id → Client → Clients → Clients
with_client id client clients = insert_entry is_id clients id client

-- nothing happens
abbrev pub nothing_done : Side → ClientTaken
nothing_done side = (side, [])
