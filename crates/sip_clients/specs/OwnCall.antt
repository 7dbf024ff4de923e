-- What is held and told on the client side of a call has its own Call-ID: each request has that of
-- its call, and one that follows another, or is sent in a dialog, that of the other or of the
-- dialog (RFC 3261, sections 8.1.1.4, 9.1, 12.1.2 and 12.2.1.1).
use Rattle.std.specs.Prelude.{◌≡◌, ℕ, List}
use Rattle.std.specs.List.{AllByRecursion}
use Rattle.sip_message.specs.declared.id.Id.{Id}
use Rattle.sip_user.specs.declared.item.CallOut.{CallOut}
pub use Rattle.sip_user.specs.OwnCall.{AreNoticesOf, IsNoticeOf, call_of_notice}
pub use Rattle.sip_held_dialogs.specs.OwnDialogs.{AreDialogsOf, IsDialogOf}
use Rattle.sip_clients.specs.declared.client.Client.{Client}
use Rattle.sip_clients.specs.Client.{Clients, Side, ClientTaken}

-- ---- what is held

abbrev pub IsRequestOf : List ℕ → Client → Type 0
IsRequestOf call_id client = client.request.call_id ≡ call_id

abbrev pub AreClientsOf : List ℕ → Clients → Type 0
AreClientsOf call_id clients =
    AllByRecursion (λ (entry : Id × Client). IsRequestOf call_id entry.1) clients

-- each held dialog has this Call-ID, and so has the request of each held client request
pub record IsSideOf (call_id : List ℕ) (side : Side) : Type 0 where
  pub dialogs : AreDialogsOf call_id side.dialogs
  pub clients : AreClientsOf call_id side.clients

-- ---- what a step does

-- if all that is held has this Call-ID, so does all that is held and told after the step
abbrev pub KeepsTo : List ℕ → (Side → ClientTaken) → Type 0
KeepsTo call_id step =
    (side : Side) → IsSideOf call_id side
    → IsSideOf call_id (step side).0 × AreNoticesOf call_id (step side).1

-- a step that only changes client requests doesn't change the dialogs
abbrev pub on_side : (Clients → Clients × List CallOut) → Side → ClientTaken
on_side step side =
    (record side { clients = (step side.clients).0 }, (step side.clients).1)
