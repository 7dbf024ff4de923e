-- Each response that the server side of a call makes keeps the rules of messages.
use Rattle.std.proofs.Common.{◌≡◌, ℕ, ◌<◌, ◌^◌, true, false, ◌==◌, List, [], ◌∷◌, ◌++◌, refl, sym, subst, append-nil, append_assoc, codes, length, arith}
use Rattle.std.specs.Prelude.{IsTrue, IfSome, Option, None, Some, filter, is_some, if◌then◌else◌}
use Rattle.std.specs.List.{AllByRecursion, join_by}
use Rattle.sip_grammar.specs.HeaderValue.{is_header_value}
use Rattle.sip_grammar.specs.Parameters.{parameter_named}
use Rattle.sip_grammar.specs.ParameterRules.{IsParameter}
use Rattle.sip_grammar.proofs.Bytes.{token_is_value}
use Rattle.sip_message.specs.Addr.{IsAddr}
use Rattle.sip_message.specs.Party.{tag_of}
use Rattle.sip_message.specs.Response.{answering_to, is_tagged, response_of, tag_parameter, tagged}
use Rattle.sip_message.specs.Rules.{IsMessage, IsNameAddr, IsOtherHeader, IsParty, IsStartLine}
use Rattle.sip_message.specs.declared.addr.Addr.{Addr}
use Rattle.sip_message.specs.declared.header.Header.{Header}
use Rattle.sip_message.specs.declared.message.Message.{Message}
use Rattle.sip_message.specs.declared.name_addr.NameAddr.{NameAddr}
use Rattle.sip_message.specs.declared.party.Party.{Party}
use Rattle.sip_message.specs.declared.start_line.StartLine.TheVariants.{Response}
use Rattle.sip_message.proofs.Tags.{good_tag_added}
use Rattle.sip_dialog.specs.Request.{contact_of}
use Rattle.sip_dialog.proofs.Tags.{tag_is_token}
use Rattle.sip_held_dialogs.specs.Requests.{is_unknown_option, local_tag_of}
use Rattle.sip_user.specs.declared.command.Respond.{Respond}
use Rattle.sip_held_dialogs.proofs.Each.{both, filtered}
use Rattle.sip_served.specs.Rules.Responses.{is_dialog_response, is_sent_reliably, response_sent}
use Rattle.sip_served.specs.declared.held_request.HeldRequest.{HeldRequest}
use Rattle.sip_served.proofs.Joined.{SoFar, added, begun, joined, with_one_more}
use Rattle.sip_served.proofs.Names.{option_100rel, unsupported_name}
use Rattle.sip_conversation.specs.Commands.{IsContent}
use Rattle.sip_conversation.proofs.Branches.{either}
use Rattle.sip_conversation.proofs.OwnRequests.{IsTokenText, contact_keeps, content_keeps, tag_token}

-- ---- the tag

none_of : {X : Type 0} (o : Option X) → is_some o ≡ false → o ≡ None
none_of None none = refl
none_of (Some x) none = absurd cc

-- the To of a response, with this tag if the request has none
to_keeps : (to : Party) (status : ℕ) (tag : List ℕ) → IsParty to → IsTokenText tag
    → IsParty (answering_to to status tag)
unfolding tagged is_tagged
to_keeps to status tag rules token =
    either IsParty (status == 100) to (tagged to tag) (λ trying. rules)
    (λ other. either IsParty (is_some (parameter_named (codes "tag") to.parameters)) to
    (record to { parameters = to.parameters ++ tag_parameter tag ∷ [] }) (λ tagged. rules)
    (λ untagged. record {
      display = rules.display;
      uri = rules.uri;
      parameters = both IsParameter to.parameters (tag_parameter tag ∷ []) rules.parameters
          (record { name = tag_token; value = token_is_value tag token }, tt);
      tag = good_tag_added to.parameters tag
          (none_of (parameter_named (codes "tag") to.parameters) untagged) token;
    }))

-- the tag of the responses to a request that comes: its own, or the one that is made
pub local_token : (request : Message) (made : List ℕ) → IsMessage request → IsTokenText made
    → IsTokenText (local_tag_of request made)
local_token request made rules token =
    either IsTokenText (length (tag_of request.to) == 0) made (tag_of request.to) (λ none. token)
    (λ some. tag_is_token (request.to).parameters some (rules.to).tag)

-- ---- a response

module _ (request : Message) (status : ℕ) (reason tag : List ℕ) (rules : IsMessage request)
    (line : IsStartLine (Response status reason)) (token : IsTokenText tag) where
  -- with these headers
  headers_keep : (contacts record_routes : List NameAddr) (require : List (List ℕ))
      (rseq : Option ℕ) (others : List Header) → AllByRecursion IsNameAddr contacts
      → AllByRecursion IsNameAddr record_routes → AllByRecursion IsTokenText require
      → IfSome rseq (λ n. n < 2 ^ 32) → AllByRecursion IsOtherHeader others
      → IsMessage (record (response_of request status reason tag) {
        contacts = contacts;
        record_routes = record_routes;
        require = require;
        rseq = rseq;
        others = others;
      })
  headers_keep contacts record_routes require rseq others its routes options number headers =
      record {
        start = line;
        top = rules.top;
        vias = rules.vias;
        max_forwards = tt;
        from = rules.from;
        to = to_keeps request.to status tag rules.to token;
        call_id = rules.call_id;
        number = rules.number;
        method = rules.method;
        contacts = its;
        record_routes = routes;
        routes = tt;
        require = options;
        supported = tt;
        rseq = number;
        rack = tt;
        others = headers;
      }

  pub response_keeps : IsMessage (response_of request status reason tag)
  response_keeps = headers_keep [] [] [] None [] tt tt tt tt tt

-- ---- the options that the agent doesn't know

-- they are joined one by one
joined_so : (before options : List (List ℕ)) (text : List ℕ) → SoFar text before
    → AllByRecursion IsTokenText options
    → IsTrue (is_header_value (joined (before ++ options)))
joined_so before [] text so_far all =
    subst (λ (options : List (List ℕ)). IsTrue (is_header_value (joined options)))
    (sym (append-nil before))
    (subst (λ (value : List ℕ). IsTrue (is_header_value value)) so_far.text_is so_far.rule)
joined_so before (option ∷ options) text so_far all =
    subst (λ (options : List (List ℕ)). IsTrue (is_header_value (joined options)))
    (append_assoc before (option ∷ []) options)
    (joined_so (before ++ option ∷ []) options (with_one_more text option)
    (added true text before option all.0 so_far) all.1)

pub extension_keeps : (request : Message) (tag : List ℕ) → IsMessage request → IsTokenText tag
    → IsMessage (record (response_of request 420 (codes "Bad Extension") tag) {
      others = record {
        name = codes "Unsupported";
        value = join_by (λ o. o) (codes ", ") (filter is_unknown_option request.require);
      } ∷ [];
    })
extension_keeps request tag rules token =
    headers_keep request 420 (codes "Bad Extension") tag rules (omega arith, omega arith, refl)
    token [] [] [] None _ tt tt tt tt (
      record {
        name = unsupported_name;
        value = joined_so [] (filter is_unknown_option request.require) [] begun
            (filtered IsTokenText is_unknown_option request.require rules.require);
      },
      tt,
    )

-- ---- the response of the user

pub sent_keeps : (local : Addr) (held : HeldRequest) (respond : Respond) → IsAddr local
    → IsMessage held.request → IsTokenText held.tag
    → IsStartLine (Response respond.status respond.reason) → IsContent respond.content
    → (is_sent_reliably held respond ≡ true → held.ledger.next < 2 ^ 32)
    → IsMessage (response_sent local held respond)
sent_keeps local held respond address rules token line its fits =
    let bare = response_of held.request respond.status respond.reason held.tag in
    let routes = held.request.record_routes in
    let routed : Message =
    record bare { contacts = contact_of local ∷ []; record_routes = routes } in
    let plain : Message = if is_dialog_response held respond.status then routed else bare in
    let next = held.ledger.next in
    let with_rseq : Message → Message = λ message.
    record message { require = codes "100rel" ∷ []; rseq = Some next } in
    let keep = headers_keep held.request respond.status respond.reason held.tag rules line token in
    content_keeps (if is_sent_reliably held respond then with_rseq plain else plain)
    respond.content
    (either IsMessage (is_sent_reliably held respond) (with_rseq plain) plain
    (λ reliably. either (λ message. IsMessage (with_rseq message))
    (is_dialog_response held respond.status) routed bare
    (λ inside. keep (contact_of local ∷ []) routes (codes "100rel" ∷ []) (Some next) []
    (contact_keeps local address, tt) rules.record_routes (option_100rel, tt) (fits reliably) tt)
    (λ outside. keep [] [] (codes "100rel" ∷ []) (Some next) [] tt tt (option_100rel, tt)
    (fits reliably) tt))
    (λ other. either IsMessage (is_dialog_response held respond.status) routed bare
    (λ inside. keep (contact_of local ∷ []) routes [] None [] (contact_keeps local address, tt)
    rules.record_routes tt tt tt) (λ outside. keep [] [] [] None [] tt tt tt tt tt))) its
