-- What the client side starts has the Call-ID of its call and a branch that an event of the call
-- made, and is no ACK.
use Rattle.std.proofs.Common.{◌≡◌, ℕ, Bool, true, false, ◌||◌, ◌==◌, not, List, [], ◌∷◌, ◌++◌, refl, sym, ap, ◌∙◌}
use Rattle.std.specs.Prelude.{Option, None, Some, codes, fold, length, take, if◌then◌else◌}
use Rattle.std.specs.List.{AllByRecursion, slice_get}
use Rattle.std.specs.Option.{option_map_or}
use Rattle.std.specs.Str.{bytes_eq}
use Rattle.std.proofs.lemmas.Bool.{false≢true}
use Rattle.std.proofs.lemmas.Slice.Eq.{bytes_eq-Decides}
use Rattle.sip_message.specs.Content.{Content, with_content_of}
use Rattle.sip_message.specs.Key.{client_key}
use Rattle.sip_message.specs.Party.{tag_of}
use Rattle.sip_message.specs.TopVia.{top_branch, top_via}
use Rattle.sip_message.specs.Via.{branch_of as branch_in}
use Rattle.sip_message.specs.declared.addr.Addr.{Addr}
use Rattle.sip_message.specs.declared.id.Id.{Id}
use Rattle.sip_message.specs.declared.key.Key.{Key}
use Rattle.sip_message.specs.HopByHop.{cancel_of}
use Rattle.sip_message.specs.declared.message.Message.{Message}
use Rattle.sip_message.specs.declared.name_addr.NameAddr.{NameAddr}
use Rattle.sip_message.specs.declared.party.Party.{Party}
use Rattle.sip_message.specs.declared.rack.RAck.{RAck}
use Rattle.sip_message.specs.declared.via.Via.{Via}
use Rattle.sip_grammar.specs.Parameters.{value_named}
use Rattle.sip_dialog.specs.Request.{agent_via, contact_of}
use Rattle.sip_transactions.specs.declared.input.Command.{Command}
use Rattle.sip_transactions.specs.declared.input.Command.TheVariants as order
use Rattle.sip_held_dialogs.specs.Ids.{is_id}
use Rattle.sip_held_dialogs.specs.OwnDialogs.{IsDialogOf}
use Rattle.sip_user.specs.Refusal.{first_refusal}
use Rattle.sip_held_dialogs.specs.Requests.{has_to_tag}
use Rattle.sip_user.specs.declared.command.Invite.{Invite}
use Rattle.sip_user.specs.declared.command.Plain.{Plain}
use Rattle.sip_user.specs.declared.command.ProvisionalSupport.{ProvisionalSupport}
use Rattle.sip_user.specs.declared.command.ProvisionalSupport.TheVariants as support
use Rattle.sip_held_dialogs.specs.declared.held_dialog.DialogId.{DialogId}
use Rattle.sip_held_dialogs.specs.declared.held_dialog.DialogReference.{DialogReference}
use Rattle.sip_held_dialogs.specs.declared.held_dialog.HeldDialog.{HeldDialog}
use Rattle.sip_user.specs.declared.item.CallOut.{CallOut}
use Rattle.sip_user.specs.declared.item.CallOut.TheVariants as out
use Rattle.sip_held_dialogs.specs.declared.pending_request.PendingRequest.{PendingRequest}
use Rattle.sip_held_dialogs.specs.declared.pending_request.PendingRequest.TheVariants.{Ack, Prack}
use Rattle.sip_user.specs.declared.refusal.Refusal.{Refusal}
use Rattle.sip_held_dialogs.proofs.Each.{both, each_inserted}
use Rattle.sip_held_dialogs.proofs.Starts.{starts}
use Rattle.sip_clients.specs.Client.{Clients}
use Rattle.sip_clients.specs.Event.{branch_of}
use Rattle.sip_clients.specs.Name.{name_of}
use Rattle.sip_clients.specs.Rules.Requests.{PendingOutcome, cancel_request, has_command, invite_command, is_invite_kind, method_of, pending_outcome, pending_sent, pending_with, plain_command, refusals_in, request_outside, request_with_next_number, start, with_100rel}
use Rattle.sip_clients.specs.declared.client.Cancelling.{Cancelling}
use Rattle.sip_clients.specs.declared.client.Cancelling.TheVariants.{NotAsked, Sent, Waits}
use Rattle.sip_clients.specs.declared.client.Client.{Client}
use Rattle.sip_clients.specs.declared.client.RequestKind.{RequestKind}
use Rattle.sip_clients.specs.declared.client.RequestKind.TheVariants.{InDialog, ReInvite}
use Rattle.sip_clients.specs.declared.event.Event.{Event}
use Rattle.sip_calls.specs.HeldDialogs.{opens_dialogs}

-- ---- choices

pub either : {X : Type 0} (P : X → Type 0) (b : Bool) (x y : X) → (b ≡ true → P x)
    → (b ≡ false → P y) → P (if b then x else y)
either P true x y one other = one refl
either P false x y one other = other refl

pub found_or : {X Y : Type 0} (P : Y → Type 0) (f : X → Y) (o : Option X) (otherwise : Y)
    → ((x : X) → o ≡ Some x → P (f x)) → (o ≡ None → P otherwise)
    → P (option_map_or f o otherwise)
found_or P f None otherwise some none = none refl
found_or P f (Some x) otherwise some none = some x refl

-- ---- methods

is_ack_method : (method : List ℕ) → bytes_eq method (codes "ACK") ≡ false
    → method ≡ codes "ACK" → ⊥
is_ack_method method other same =
    false≢true (sym other ∙ ap (λ m. bytes_eq m (codes "ACK")) same)

pub first_false : (one two : Bool) → (one || two) ≡ false → one ≡ false
first_false true two none = none
first_false false two none = refl

pub no_command : (method : List ℕ) → has_command method ≡ false → method ≡ codes "ACK" → ⊥
no_command method none =
    is_ack_method method
    (first_false (bytes_eq method (codes "ACK")) (bytes_eq method (codes "CANCEL"))
    (first_false (bytes_eq method (codes "ACK") || bytes_eq method (codes "CANCEL"))
    (bytes_eq method (codes "PRACK")) none))

pub first_holds : (holds : Bool) (refusal : Refusal) (others : List (Bool × Refusal))
    → first_refusal ((holds, refusal) ∷ others) None ≡ None → holds ≡ false
first_holds true refusal others none = absurd cc
first_holds false refusal others none = refl

no_invite : codes "INVITE" ≡ codes "ACK" → ⊥
no_invite same = absurd cc

no_prack : codes "PRACK" ≡ codes "ACK" → ⊥
no_prack same = absurd cc

no_cancel : codes "CANCEL" ≡ codes "ACK" → ⊥
no_cancel same = absurd cc

pub invite_none : codes "INVITE" ≡ codes "CANCEL" → ⊥
invite_none same = false≢true (ap (λ m. bytes_eq m (codes "CANCEL")) same)

prack_none : codes "PRACK" ≡ codes "CANCEL" → ⊥
prack_none same = false≢true (ap (λ m. bytes_eq m (codes "CANCEL")) same)

-- CANCEL has a command of its own
pub command_none : (method : List ℕ) → has_command method ≡ false → method ≡ codes "CANCEL" → ⊥
command_none method none same = false≢true (sym none ∙ ap has_command same)

-- ---- messages with the same To, top branch, Call-ID and method

record IsLike (one other : Message) : Type 0 where
  pub to : one.to ≡ other.to
  pub via : top_via one ≡ top_via other
  pub call : one.call_id ≡ other.call_id
  pub method : one.cseq.method ≡ other.cseq.method

like_content : (message : Message) (content : Content)
    → IsLike (with_content_of message content) message
unfolding with_content_of
like_content message content = record { to = refl; via = refl; call = refl; method = refl }

like_support : (asked_for : ProvisionalSupport) (message : Message)
    → IsLike (with_100rel asked_for message) message
like_support support.None message = record { to = refl; via = refl; call = refl; method = refl }
like_support support.Supported message =
    record { to = refl; via = refl; call = refl; method = refl }
like_support support.Required message =
    record { to = refl; via = refl; call = refl; method = refl }

like_untagged : {one other : Message} → IsLike one other → has_to_tag other ≡ false
    → has_to_tag one ≡ false
like_untagged like untagged =
    ap (λ (to : Party). not (length (tag_of to) == 0)) like.to ∙ untagged

like_branch : {one other : Message} → IsLike one other → top_branch one ≡ top_branch other
like_branch like = ap (λ o. option_map_or branch_in o []) like.via

pub via_alone : (vias : List Via) → slice_get (take 1 vias) 0 ≡ slice_get vias 0
via_alone [] = refl
via_alone (via ∷ vias) = refl

pub top_alone : (vias : List Via)
    → option_map_or branch_in (slice_get (take 1 vias) 0) []
    ≡ option_map_or branch_in (slice_get vias 0) []
top_alone [] = refl
top_alone (via ∷ vias) = refl

pub made_branch : (event : Event) → branch_of event ≡ codes "z9hG4bK" ++ name_of event.seed event.id 0
unfolding branch_of
made_branch event = refl

pub agent_branch : (local : Addr) (branch : List ℕ) → branch_in (agent_via local branch) ≡ branch
unfolding value_named
agent_branch local branch = refl

module _ (home : Addr) (seed call_id : List ℕ) (Came : Id → Type 0)
    (Cancels : Id → Message → Type 0) where
  -- an event of the call
  pub record Comes (event : Event) : Type 0 where
    pub home_is : event.local ≡ home
    pub seed_is : event.seed ≡ seed
    pub came : Came event.id

  -- the branch is one that an event of the call made
  abbrev pub HasBranch : List ℕ → Type 0
  HasBranch branch = (id : Id) × Came id × (branch ≡ codes "z9hG4bK" ++ name_of seed id 0)

  -- its top Via is one that the agent makes: its address, and `rport`
  abbrev pub IsHomeVia : Message → Type 0
  IsHomeVia message = (branch : List ℕ) × (top_via message ≡ Some (agent_via home branch))

  -- it is the CANCEL of a request for which the event of this id asked
  pub record IsCancelOf (id : Id) (message : Message) : Type 0 where
    pub request : Message
    pub asked : Cancels id request
    pub is : message ≡ cancel_of request

  -- it is of the call, with the branch of an event: that of its id, unless it is a CANCEL; the
  -- event of the id of a CANCEL asked for it
  pub record IsOwn (id : Id) (message : Message) : Type 0 where
    pub call : message.call_id ≡ call_id
    pub branch : HasBranch (top_branch message)
    pub via : IsHomeVia message
    pub method : message.cseq.method ≡ codes "ACK" → ⊥
    pub event_is : (message.cseq.method ≡ codes "CANCEL" → ⊥) → branch.0 ≡ id
    pub cancels : message.cseq.method ≡ codes "CANCEL" → IsCancelOf id message

  -- ---- what is held and said

  -- the event for which a CANCEL of this request waits asked for it
  abbrev pub WaitsFor : Message → Cancelling → Type 0
  WaitsFor request NotAsked = Unit {0}
  WaitsFor request (Waits id) = Cancels id request
  WaitsFor request Sent = Unit {0}

  -- the INVITE that opens dialogs has no To tag
  pub record IsOwnOf (id : Id) (kind : RequestKind) (request : Message) (cancel : Cancelling)
      : Type 0 where
    pub own : IsOwn id request
    pub waits : WaitsFor request cancel
    pub invites : is_invite_kind kind ≡ true → request.cseq.method ≡ codes "INVITE"
    pub untagged : opens_dialogs kind ≡ true → has_to_tag request ≡ false

  abbrev pub Own : Client → Type 0
  Own client = IsOwnOf client.id client.kind client.request client.cancel

  abbrev pub AreOwn : Clients → Type 0
  AreOwn clients = AllByRecursion (λ (entry : Id × Client). Own entry.1) clients

  -- a transaction is started with such a request, under its branch, its method and its Call-ID
  pub record IsStarted (id : Id) (key : Key) (of : List ℕ) (message : Message) : Type 0 where
    pub own : IsOwn id message
    pub key_is : key ≡ client_key (top_branch message) message.cseq.method
    pub of_is : of ≡ message.call_id

  abbrev pub CommandSays : Id → Command → Type 0
  CommandSays id (order.Start key of message to) = IsStarted id key of message
  CommandSays id (order.Answer key message) = Unit {0}
  CommandSays id (order.Abandon key) = Unit {0}

  abbrev pub OutSays : CallOut → Type 0
  OutSays (out.Notice notice) = Unit {0}
  OutSays (out.Command id command) = CommandSays id command
  OutSays (out.Direct to bytes) = Unit {0}

  abbrev pub Say : List CallOut → Type 0
  Say outs = AllByRecursion OutSays outs

  some_started : (start : Id × Key) (rest : List (Id × Key)) → start ∷ rest ≡ [] → ⊥
  some_started start rest same = absurd cc

  pub silent_say : (outs : List CallOut) → starts outs ≡ [] → Say outs
  silent_say [] none = tt
  silent_say (out.Notice notice ∷ outs) none = (tt, silent_say outs none)
  silent_say (out.Direct to bytes ∷ outs) none = (tt, silent_say outs none)
  silent_say (out.Command id (order.Answer key message) ∷ outs) none =
      (tt, silent_say outs none)
  silent_say (out.Command id (order.Abandon key) ∷ outs) none = (tt, silent_say outs none)
  silent_say (out.Command id (order.Start key of message to) ∷ outs) none =
      absurd (some_started (id, key) (starts outs) none)

  abbrev pub Done : Clients × List CallOut → Type 0
  Done done = AreOwn done.0 × Say done.1

  pub start_own : (done : Clients × List CallOut) (client : Client) → Done done → Own client
      → Done (start done client)
  start_own done client own its = (
    each_inserted Own is_id client.id client its done.0 own.0,
    both OutSays done.1 _ own.1 (record { own = its.own; key_is = refl; of_is = refl }, tt),
  )

  pub starts_own : (clients : List Client) (done : Clients × List CallOut) → Done done
      → AllByRecursion Own clients → Done (fold start done clients)
  starts_own [] done own all = own
  starts_own (client ∷ clients) done own all =
      starts_own clients (start done client) (start_own done client own all.0) all.1

  -- ---- the requests

  own_branch : (event : Event) → Comes event
      → branch_of event ≡ codes "z9hG4bK" ++ name_of seed event.id 0
  own_branch event comes =
      made_branch event ∙ ap (λ s. codes "z9hG4bK" ++ name_of s event.id 0) comes.seed_is

  like_own : (id : Id) (one other : Message) → IsLike one other → IsOwn id other
      → (other.cseq.method ≡ codes "CANCEL" → ⊥) → IsOwn id one
  like_own id one other like own none = record {
    call = like.call ∙ own.call;
    branch = (own.branch.0, own.branch.1, like_branch like ∙ own.branch.2);
    via = (own.via.0, like.via ∙ own.via.1);
    method = λ is. own.method (sym like.method ∙ is);
    event_is = λ other. own.event_is (λ is. other (like.method ∙ is));
    cancels = λ is. absurd (none (sym like.method ∙ is));
  }

  outside_own : (event : Event) (of method uri from to : List ℕ) (routes : List NameAddr)
      → Comes event → of ≡ call_id → (method ≡ codes "ACK" → ⊥)
      → (method ≡ codes "CANCEL" → ⊥)
      → IsOwn event.id (request_outside event of method uri from to routes)
  outside_own event of method uri from to routes comes is other none = record {
    call = is;
    branch = (
      event.id,
      comes.came,
      agent_branch event.local (branch_of event) ∙ own_branch event comes,
    );
    via = (branch_of event, ap (λ at. Some (agent_via at (branch_of event))) comes.home_is);
    method = other;
    event_is = λ other. refl;
    cancels = λ cancel. absurd (none cancel);
  }

  pub invite_own : (event : Event) (invite : Invite) (clients : Clients) → Comes event
      → invite.call_id ≡ call_id → AreOwn clients → Done (invite_command event invite clients)
  unfolding invite_command value_named
  invite_own event invite clients comes is own =
      let outside = outside_own event invite.call_id (codes "INVITE") invite.request_uri
      invite.from invite.to invite.routes comes is no_invite invite_none in
      let request : Message =
      record (request_outside event invite.call_id (codes "INVITE") invite.request_uri invite.from
      invite.to invite.routes) { contacts = contact_of event.local ∷ [] } in
      let support = like_support invite.support request in
      let content = like_content (with_100rel invite.support request) invite.content in
      start_own (clients, []) _ (own, tt) (record {
        own = record {
          call = content.call ∙ (support.call ∙ outside.call);
          branch = (
            outside.branch.0,
            outside.branch.1,
            like_branch content ∙ (like_branch support ∙ outside.branch.2),
          );
          via = (outside.via.0, content.via ∙ (support.via ∙ outside.via.1));
          method = λ ack. outside.method (sym support.method ∙ (sym content.method ∙ ack));
          event_is = λ other. outside.event_is
              (λ is. other (content.method ∙ (support.method ∙ is)));
          cancels = λ is. absurd (invite_none (sym (content.method ∙ support.method) ∙ is));
        };
        waits = tt;
        invites = λ is. content.method ∙ support.method;
        untagged = λ opens. like_untagged content (like_untagged support refl);
      })

  pub plain_own : (event : Event) (plain : Plain) (clients : Clients) → Comes event
      → plain.call_id ≡ call_id → AreOwn clients → Done (plain_command event plain clients)
  unfolding plain_command
  plain_own event plain clients comes is own =
      let first = has_command plain.method in
      let second = bytes_eq plain.method (codes "INVITE") in
      either Done (first || second || bytes_eq plain.method (codes "BYE")) _ _
      (λ bad. (own, (tt, tt)))
      (λ good.
      let none = command_none plain.method (first_false first second
      (first_false (first || second) (bytes_eq plain.method (codes "BYE")) good)) in
      start_own (clients, []) _ (own, tt) (record {
        own = like_own event.id _ _ (like_content _ plain.content)
            (outside_own event plain.call_id plain.method plain.request_uri plain.from plain.to
            plain.routes comes is
            (no_command plain.method (first_false first second
            (first_false (first || second) (bytes_eq plain.method (codes "BYE")) good)))
            none) none;
        waits = tt;
        invites = λ is. absurd (false≢true is);
        untagged = λ opens. absurd (false≢true opens);
      }))

  pub cancel_own : (id : Id) (invite : Client) → Own invite → Cancels id invite.request
      → Own (cancel_request id invite)
  cancel_own id invite its asks =
      let own = its.own in record {
        own = record {
          call = own.call;
          branch = (own.branch.0, own.branch.1, top_alone invite.request.vias ∙ own.branch.2);
          via = (own.via.0, via_alone invite.request.vias ∙ own.via.1);
          method = no_cancel;
          event_is = λ other. absurd (other refl);
          cancels = λ is. record { request = invite.request; asked = asks; is = refl };
        };
        waits = tt;
        invites = λ is. absurd (false≢true is);
        untagged = λ opens. absurd (false≢true opens);
      }

  -- ---- in a dialog

  re_invites : (b : Bool) (reference : DialogReference)
      → is_invite_kind (if b then ReInvite reference else InDialog reference) ≡ true → b ≡ true
  re_invites true reference is = refl
  re_invites false reference is = is

  in_a_dialog : (b : Bool) (reference : DialogReference)
      → opens_dialogs (if b then ReInvite reference else InDialog reference) ≡ true → ⊥
  in_a_dialog true reference opens = false≢true opens
  in_a_dialog false reference opens = false≢true opens

  pub next_own : (event : Event) (name : DialogId) (method : List ℕ) (rack : Option RAck)
      (content : Content) (held : HeldDialog) → Comes event → IsDialogOf call_id held
      → (method ≡ codes "ACK" → ⊥) → (method ≡ codes "CANCEL" → ⊥)
      → Own (request_with_next_number event name method rack content held)
  next_own event name method rack content held comes its other none =
      let like = like_content _ content in record {
        own = record {
          call = like.call ∙ its;
          branch = (
            event.id,
            comes.came,
            like_branch like
                ∙ (agent_branch event.local (branch_of event) ∙ own_branch event comes),
          );
          via = (
            branch_of event,
            like.via ∙ ap (λ at. Some (agent_via at (branch_of event))) comes.home_is,
          );
          method = λ ack. other (sym like.method ∙ ack);
          event_is = λ other. refl;
          cancels = λ cancel. absurd (none (sym like.method ∙ cancel));
        };
        waits = tt;
        invites = λ is. like.method ∙ (bytes_eq-Decides method (codes "INVITE")).0
            (re_invites (bytes_eq method (codes "INVITE"))
            (record { name = name; created_by = held.created_by }) is);
        untagged = λ opens. absurd (in_a_dialog (bytes_eq method (codes "INVITE"))
            (record { name = name; created_by = held.created_by }) opens);
      }

  pub record IsPaid (done : PendingOutcome) : Type 0 where
    pub prack : AllByRecursion Own done.prack
    pub outs : Say done.outs

  sent_own : (event : Event) (name : DialogId) (pending : PendingRequest) (content : Content)
      (held : HeldDialog) → Comes event → IsDialogOf call_id held
      → IsPaid (pending_sent event name pending content held)
  sent_own event name (Ack invite cseq) content held comes its =
      record { prack = tt; outs = (tt, tt) }
  sent_own event name (Prack rseq cseq) content held comes its = record {
    prack = (
      next_own event name (codes "PRACK")
          (Some record { rseq = rseq; cseq = cseq; method = codes "INVITE" }) content held comes
          its no_prack prack_none,
      tt,
    );
    outs = tt;
  }

  pub outcome_own : (event : Event) (of : List ℕ) (name : DialogId) (pending : PendingRequest)
      (content : Option Content) (without_it with_it : HeldDialog) → Comes event
      → IsDialogOf call_id without_it
      → IsPaid (pending_outcome event of name pending content without_it with_it)
  outcome_own event of name pending content without_it with_it comes its =
      found_or IsPaid (pending_with event of name pending without_it with_it) content _
      (λ content is. found_or IsPaid _
      (first_refusal (refusals_in without_it.dialog (method_of pending)) None) _
      (λ refusal refused. record { prack = tt; outs = (tt, tt) })
      (λ none. sent_own event name pending content without_it comes its))
      (λ none. record { prack = tt; outs = tt })
