-- A client request as it was sent, and what happened to it since. Each field of the held record
-- follows from that (RFC 3261, sections 9.1, 13.2.2.4 and 17.1.1; RFC 3262, section 4). Moments are
-- in ms.
use Rattle.std.specs.Prelude.{ℕ, ◌+◌, ◌*◌, Bool, true, false, List, [], ◌∷◌, ◌++◌, filter_map, fold, Option, None, Some, if◌then◌else◌}
use Rattle.std.specs.List.{last_or, list_any}
use Rattle.std.specs.Option.{option_map, option_map_or}
use Rattle.indexmap.specs.IndexMap.{insert_entry}
use Rattle.sip_message.specs.declared.addr.Addr.{Addr}
use Rattle.sip_message.specs.declared.id.Id.{Id}
use Rattle.sip_message.specs.declared.message.Message.{Message}
use Rattle.sip_timers.specs.declared.estimate.TheConstants.{T1}
use Rattle.sip_held_dialogs.specs.Dialogs.{is_dialog_id}
use Rattle.sip_clients.specs.declared.client.Cancelling.{Cancelling}
use Rattle.sip_clients.specs.declared.client.Cancelling.TheVariants.{NotAsked, Waits, Sent}
use Rattle.sip_clients.specs.declared.client.Client.{Client}
use Rattle.sip_clients.specs.declared.client.RequestKind.{RequestKind}
use Rattle.sip_clients.specs.declared.client.RequestKind.TheVariants.{InitialInvite}
use Rattle.sip_clients.specs.Answers.{AnswerList}
use Rattle.sip_clients.specs.ClientLife.{ClientHappening, AsksCancel, GetsProvisional, GetsSuccess, GetsSuccessAgain, SendsAck, SendsCancel, TakesReliable}

-- the event that sent it, what it is for, the request and its address, and what happened to it
-- since
pub record ClientStory : Type 0 where
  pub id : Id
  pub kind : RequestKind
  pub request : Message
  pub to : Addr
  pub life : List ClientHappening

-- more happens to it
abbrev pub lives_on : List ClientHappening → ClientStory → ClientStory
lives_on more story = record story { life = story.life ++ more }

-- ---- its responses

abbrev pub is_provisional_response : ClientHappening → Bool
is_provisional_response GetsProvisional = true
is_provisional_response _ = false

-- a 2xx; any other final response ends the request
abbrev pub is_success_response : ClientHappening → Bool
is_success_response (GetsSuccess name moment) = true
is_success_response (GetsSuccessAgain name) = true
is_success_response _ = false

-- the RSeq of a reliable provisional response that is taken
abbrev pub rseq_taken : ClientHappening → Option ℕ
rseq_taken (TakesReliable rseq) = Some rseq
rseq_taken _ = None

-- the last RSeq that was taken; for the first INVITE of a call it is kept in the dialogs that it
-- makes
abbrev pub last_rseq : RequestKind → List ClientHappening → Option ℕ
last_rseq InitialInvite life = None
last_rseq _ life = last_or None (filter_map rseq_taken life)

-- the moment of the first 2xx
abbrev pub first_success : List ClientHappening → Option ℕ
first_success [] = None
first_success (GetsSuccess name moment ∷ later) = Some moment
first_success (_ ∷ later) = first_success later

-- after one happening: the dialogs of the 2xx responses, in the order of their first ones, each
-- with the last ACK that went out for it
abbrev pub with_answer : AnswerList → ClientHappening → AnswerList
with_answer answers (GetsSuccess name moment) = insert_entry is_dialog_id answers name None
with_answer answers (SendsAck name ack) = insert_entry is_dialog_id answers name (Some ack)
with_answer answers _ = answers

-- after all that happened
abbrev pub answers_of : List ClientHappening → AnswerList
answers_of life = fold with_answer [] life

-- ---- its CANCEL

abbrev pub is_cancel_sent : ClientHappening → Bool
is_cancel_sent (SendsCancel cancel) = true
is_cancel_sent _ = false

-- the first command to cancel it after which no 2xx came
abbrev pub asked_first : List ClientHappening → Option Id
asked_first [] = None
asked_first (AsksCancel id ∷ later) =
    if list_any is_success_response later then asked_first later else Some id
asked_first (_ ∷ later) = asked_first later

-- the CANCEL went out; or it was asked for and waits for a provisional response; or neither
abbrev pub cancelling_of : List ClientHappening → Cancelling
cancelling_of life =
    if list_any is_cancel_sent life then Sent else option_map_or Waits (asked_first life) NotAsked

-- ---- all of it

-- the request after all that happened to it; an INVITE is removed 64*T1 after its first 2xx
abbrev pub client_told : ClientStory → Client
client_told story = record {
  id = story.id;
  kind = story.kind;
  request = story.request;
  to = story.to;
  provisional = list_any is_provisional_response story.life;
  cancel = cancelling_of story.life;
  last_rseq = last_rseq story.kind story.life;
  answers = answers_of story.life;
  removal = option_map (λ moment. moment + 64 * T1) (first_success story.life);
}
