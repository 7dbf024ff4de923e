-- How a dialog begins (RFC 3261, sections 12.1.1 and 12.1.2): at the callee, with an INVITE that it
-- answers; at the caller, with an answer to its INVITE.
use Rattle.std.specs.Prelude.{ℕ, nat_lt, List, Option, Some, None, reverse, unwrap_or, if◌then◌else◌}
use Rattle.std.specs.List.{slice_get}
use Rattle.std.specs.Option.{option_map}
use Rattle.std.specs.Global.{Global}
use Rattle.sip_message.specs.declared.message.Message.{Message}
use Rattle.sip_message.specs.declared.start_line.StartLine.{StartLine}
use Rattle.sip_message.specs.declared.start_line.StartLine.TheVariants.{Request, Response}
use Rattle.sip_dialog.specs.declared.dialog.Dialog.{Dialog}
use Rattle.sip_dialog.specs.declared.dialog.DialogState.{DialogState}
use Rattle.sip_dialog.specs.declared.dialog.DialogState.TheVariants.{Early, Confirmed}
use Rattle.sip_dialog.specs.declared.dialog.Side.TheVariants.{Caller, Callee}
use Rattle.sip_dialog.specs.Endpoint.{endpoint_of}

-- the message that a dialog begins with
pub data Opening : Type 0 where
  -- at the callee, by a request, the tag that its answers have in To, and the status of the answer
  ByRequest : Message → List ℕ → ℕ → Opening
  -- at the caller, by its request and the response
  ByResponse : Message → Message → Opening

-- a provisional response makes an early dialog, and any other a confirmed one
abbrev pub state_by : ℕ → DialogState
state_by status = if nat_lt status 200 then Early else Confirmed

-- the state in which a dialog begins by a response
abbrev pub first_state : StartLine → DialogState
first_state (Request uri) = Confirmed
first_state (Response status reason) = state_by status

-- the URI of the first Contact, if there is one
abbrev pub contact_uri : Message → Option (List ℕ)
contact_uri message = option_map (λ contact. contact.uri) (slice_get message.contacts 0)

-- the URI of a request line; this one, if the message has no request line
abbrev pub request_uri_or : List ℕ → StartLine → List ℕ
request_uri_or otherwise (Request uri) = uri
request_uri_or otherwise (Response status reason) = otherwise

-- all memory comes from one allocator, which a dialog keeps; nothing else in it depends on that
abbrev pub the_allocator : Global
the_allocator = record { memory = record { seal = tt } }

-- at the callee: the routes in order, no request sent yet, and the number of the INVITE taken
abbrev pub opened_by_request : Message → List ℕ → ℕ → Dialog
opened_by_request request tag status = record {
  alloc = the_allocator;
  side = Callee;
  state = state_by status;
  call_id = request.call_id;
  local = record { uri = request.to.uri; tag = Some tag };
  remote = endpoint_of request.from.uri request.from;
  target = unwrap_or (contact_uri request) request.from.uri;
  route_set = request.record_routes;
  local_cseq = 0;
  remote_cseq = Some request.cseq.number;
}

-- at the caller: the routes in reverse order, the number of its request sent, and no number of the
-- peer taken yet
abbrev pub opened_by_response : Message → Message → Dialog
opened_by_response request response = record {
  alloc = the_allocator;
  side = Caller;
  state = first_state response.start;
  call_id = request.call_id;
  local = endpoint_of request.from.uri request.from;
  remote = endpoint_of request.to.uri response.to;
  target = unwrap_or (contact_uri response) (request_uri_or request.to.uri request.start);
  route_set = reverse response.record_routes;
  local_cseq = request.cseq.number;
  remote_cseq = None;
}

-- the dialog of an opening
abbrev pub opened : Opening → Dialog
opened (ByRequest request tag status) = opened_by_request request tag status
opened (ByResponse request response) = opened_by_response request response
