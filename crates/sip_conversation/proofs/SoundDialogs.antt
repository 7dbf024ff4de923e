-- The parts of a dialog that its requests have keep their rules, however it is made and whatever
-- changes it.
use Rattle.std.proofs.Common.{◌≡◌, ℕ, ◌<◌, ◌^◌, false, List, [], ◌∷◌, length, sym, subst, arith}
use Rattle.std.specs.Prelude.{Option, None, Some, IsTrue, IfSome, reverse, unwrap_or, ◌==◌}
use Rattle.std.specs.List.{AllByRecursion, slice_get}
use Rattle.std.proofs.lemmas.Bool.Decides.{nat_tests}
use Rattle.std.specs.Option.{option_map}
use mathlib.Core.List.{reverse-cons}
use Rattle.sip_grammar.specs.Uri.{is_uri}
use Rattle.sip_grammar.specs.Word.{is_word}
use Rattle.sip_grammar.proofs.Bytes.{uri_is_word}
use Rattle.sip_text.specs.Token.{is_token}
use Rattle.sip_message.specs.Party.{tag_of}
use Rattle.sip_message.specs.Rules.{IsMessage, IsNameAddr, IsParty, IsStartLine}
use Rattle.sip_message.specs.declared.message.Message.{Message}
use Rattle.sip_message.specs.declared.name_addr.NameAddr.{NameAddr}
use Rattle.sip_message.specs.declared.party.Party.{Party}
use Rattle.sip_message.specs.declared.start_line.StartLine.{StartLine}
use Rattle.sip_message.specs.declared.start_line.StartLine.TheVariants as start_line
use Rattle.sip_dialog.specs.Endpoint.{some_unless_empty, tag_option}
use Rattle.sip_dialog.specs.Dialog.{is_ended}
use Rattle.sip_dialog.specs.Opening.{contact_uri, opened_by_request, opened_by_response, request_uri_or}
use Rattle.sip_dialog.specs.Step.{confirmed_at, confirmed_by}
use Rattle.sip_dialog.specs.declared.dialog.Dialog.{Dialog}
use Rattle.sip_dialog.specs.declared.dialog.Side.{Side}
use Rattle.sip_dialog.specs.declared.dialog.Side.TheVariants.{Callee, Caller}
use Rattle.sip_dialog.proofs.Tags.{tag_is_token}
use Rattle.sip_held_dialogs.specs.Dialogs.{Dialogs}
use Rattle.sip_held_dialogs.specs.Requests.{is_invite}
use Rattle.sip_held_dialogs.specs.declared.held_dialog.DialogId.{DialogId}
use Rattle.sip_held_dialogs.specs.declared.held_dialog.HeldDialog.{HeldDialog}
use Rattle.sip_held_dialogs.specs.declared.pending_request.PendingRequest.{PendingRequest}
use Rattle.sip_held_dialogs.specs.declared.pending_request.PendingRequest.TheVariants.{Ack, Prack}
use Rattle.sip_held_dialogs.proofs.Each.{both}
use Rattle.sip_served.specs.Rules.Arrivals.{after_request}
use Rattle.sip_served.specs.Rules.Responses.{after_2xx}
use Rattle.sip_conversation.proofs.Branches.{either}
use Rattle.sip_conversation.proofs.OwnRequests.{IsEnd, IsSoundDialog}

-- what is owed in a dialog has numbers below 2^32
abbrev pub IsSoundPending : PendingRequest → Type 0
IsSoundPending (Ack invite number) = number < 2 ^ 32
IsSoundPending (Prack rseq number) = (rseq < 2 ^ 32) × (number < 2 ^ 32)

pub record IsSound (held : HeldDialog) : Type 0 where
  pub dialog : IsSoundDialog held.dialog
  pub pending : AllByRecursion IsSoundPending held.pending_requests

abbrev pub AreSound : Dialogs → Type 0
AreSound dialogs = AllByRecursion (λ (entry : DialogId × HeldDialog). IsSound entry.1) dialogs

-- ---- the parts of a message that a dialog takes

pub reversed : {X : Type 0} (P : X → Type 0) (xs : List X) → AllByRecursion P xs
    → AllByRecursion P (reverse xs)
reversed P [] all = tt
reversed P (x ∷ xs) all =
    subst (AllByRecursion P) (sym (reverse-cons x xs))
    (both P (reverse xs) (x ∷ []) (reversed P xs all.1) (all.0, tt))

first_word : (contacts : List NameAddr) → AllByRecursion IsNameAddr contacts
    → IfSome (option_map (λ contact. contact.uri) (slice_get contacts 0))
    (λ uri. IsTrue (is_word uri))
first_word [] all = tt
first_word (contact ∷ contacts) all = uri_is_word contact.uri (all.0).uri

contact_word : (message : Message) → IsMessage message
    → IfSome (contact_uri message) (λ uri. IsTrue (is_word uri))
contact_word message rules = first_word message.contacts rules.contacts

or_word : (o : Option (List ℕ)) (otherwise : List ℕ) → IfSome o (λ uri. IsTrue (is_word uri))
    → IsTrue (is_word otherwise) → IsTrue (is_word (unwrap_or o otherwise))
or_word None otherwise word other = other
or_word (Some uri) otherwise word other = word

-- the target of a message with a Contact, or another one
pub target_word : (message : Message) (otherwise : List ℕ) → IsMessage message
    → IsTrue (is_word otherwise) → IsTrue (is_word (unwrap_or (contact_uri message) otherwise))
target_word message otherwise rules other =
    or_word (contact_uri message) otherwise (contact_word message rules) other

token_unless_empty : (tag : List ℕ) → ((length tag == 0) ≡ false → IsTrue (is_token tag))
    → IfSome (some_unless_empty tag) (λ tag. IsTrue (is_token tag))
token_unless_empty [] token = tt
token_unless_empty (b ∷ bs) token = token (grind (arith, nat_tests))

end_keeps : (uri : List ℕ) (party : Party) → IsTrue (is_uri uri) → IsParty party
    → IsEnd uri (tag_option party)
end_keeps uri party word rules = record {
  uri_is = word;
  tag_is = token_unless_empty (tag_of party)
      (λ some. tag_is_token party.parameters some rules.tag);
}

line_word : (uri : List ℕ) (start : StartLine) → IsTrue (is_uri uri) → IsStartLine start
    → IsTrue (is_word (request_uri_or uri start))
line_word uri (start_line.Request other) its line = line
line_word uri (start_line.Response status reason) its line = uri_is_word uri its

-- ---- how a dialog begins

pub by_request_sound : (request : Message) (tag : List ℕ) (status : ℕ) → IsMessage request
    → IsTrue (is_token tag) → IsSoundDialog (opened_by_request request tag status)
by_request_sound request tag status rules token = record {
  call_id = rules.call_id;
  local = record { uri_is = (rules.to).uri; tag_is = token };
  remote = end_keeps request.from.uri request.from (rules.from).uri rules.from;
  target = target_word request request.from.uri rules
      (uri_is_word request.from.uri (rules.from).uri);
  route_set = rules.record_routes;
  number = omega arith;
}

pub by_response_sound : (request response : Message) → IsMessage request → IsMessage response
    → IsSoundDialog (opened_by_response request response)
by_response_sound request response rules answer = record {
  call_id = rules.call_id;
  local = end_keeps request.from.uri request.from (rules.from).uri rules.from;
  remote = end_keeps request.to.uri response.to (rules.to).uri answer.to;
  target = target_word response (request_uri_or request.to.uri request.start) answer
      (line_word request.to.uri request.start (rules.to).uri rules.start);
  route_set = reversed IsNameAddr response.record_routes answer.record_routes;
  number = rules.number;
}

-- ---- how it changes

confirmed_sound_at : (side : Side) (dialog : Dialog) (response : Message) → IsSoundDialog dialog
    → IsMessage response → IsSoundDialog (confirmed_at side dialog response)
confirmed_sound_at Callee dialog response sound rules = record {
  call_id = sound.call_id;
  local = sound.local;
  remote = sound.remote;
  target = sound.target;
  route_set = sound.route_set;
  number = sound.number;
}
confirmed_sound_at Caller dialog response sound rules = record {
  call_id = sound.call_id;
  local = sound.local;
  remote = sound.remote;
  target = target_word response dialog.target rules sound.target;
  route_set = reversed IsNameAddr response.record_routes rules.record_routes;
  number = sound.number;
}

pub confirmed_sound : (dialog : Dialog) (response : Message) → IsSoundDialog dialog
    → IsMessage response → IsSoundDialog (confirmed_by dialog response)
confirmed_sound dialog response sound rules =
    confirmed_sound_at dialog.side dialog response sound rules

pub target_sound : (dialog : Dialog) (uri : List ℕ) → IsSoundDialog dialog → IsTrue (is_word uri)
    → IsSoundDialog (record dialog { target = uri })
target_sound dialog uri sound word = record {
  call_id = sound.call_id;
  local = sound.local;
  remote = sound.remote;
  target = word;
  route_set = sound.route_set;
  number = sound.number;
}

pub number_sound : (dialog : Dialog) (number : ℕ) → IsSoundDialog dialog → number < 2 ^ 32
    → IsSoundDialog (record dialog { local_cseq = number })
number_sound dialog number sound fits = record {
  call_id = sound.call_id;
  local = sound.local;
  remote = sound.remote;
  target = sound.target;
  route_set = sound.route_set;
  number = fits;
}

-- a request of the peer in it
pub visited_sound : (request : Message) (held : HeldDialog) → IsMessage request → IsSound held
    → IsSound (after_request request held)
visited_sound request held rules sound = record {
  dialog = record {
    call_id = (sound.dialog).call_id;
    local = (sound.dialog).local;
    remote = (sound.dialog).remote;
    target = or_word _ held.dialog.target
        (either (λ (o : Option (List ℕ)). IfSome o (λ uri. IsTrue (is_word uri)))
        (is_invite request) (contact_uri request) None
        (λ invite. contact_word request rules) (λ other. tt)) (sound.dialog).target;
    route_set = (sound.dialog).route_set;
    number = (sound.dialog).number;
  };
  pending = sound.pending;
}

-- a 2xx of the user
pub answered_sound : (response : Message) (held : HeldDialog) → IsMessage response → IsSound held
    → IsSound (after_2xx response held)
answered_sound response held rules sound =
    either IsSound (is_ended held.dialog.state) held
    (record held { dialog = confirmed_by held.dialog response }) (λ ended. sound)
    (λ lives. record {
      dialog = confirmed_sound held.dialog response sound.dialog rules;
      pending = sound.pending;
    })
