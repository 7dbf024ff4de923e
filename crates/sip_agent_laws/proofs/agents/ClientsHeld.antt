-- A request of a call that has no final response stays held until one comes, it is lost, or the
-- user gives it up; and a request that a command starts is held so.
use Rattle.std.proofs.Common.{◌≡◌, ◌⊎◌, inl, inr, ⊎_elim, ℕ, Bool, true, false, cond, ◌&&◌, ◌||◌, List, [], ◌∷◌, ◌++◌, refl, sym, ap, ◌∙◌, subst, arith}
use Rattle.std.specs.Prelude.{◌==◌, ◌+◌, not, Option, None, Some, IfSome, IsSome, codes, filter, fold, find, is_none, is_some, option_and_then, unwrap_or, nat_le, if◌then◌else◌}
use Rattle.std.specs.List.{AllByRecursion}
use Rattle.std.specs.Map.{lookup, remove_entry, set_value}
use Rattle.std.specs.Option.{option_map_or}
use Rattle.std.specs.Str.{bytes_eq}
use Rattle.std.proofs.lemmas.Bool.{false≢true, or_parts, and_parts}
use Rattle.std.proofs.lemmas.Grind.{common_steps}
use Rattle.std.proofs.lemmas.Map.{lookup-set_value}
use Rattle.indexmap.specs.IndexMap.{insert_entry}
use Rattle.keyed_machine.proofs.Ordered.{by_bool}
use Rattle.sip_message.specs.Content.{Content, with_content_of}
use Rattle.sip_message.specs.Key.{client_key, method_in}
use Rattle.sip_message.specs.Party.{tag_of}
use Rattle.sip_message.specs.TopVia.{top_branch}
use Rattle.sip_message.specs.declared.id.Id.{Id}
use Rattle.sip_message.specs.declared.key.Key.{Key}
use Rattle.sip_message.specs.declared.message.Message.{Message}
use Rattle.sip_message.specs.declared.rack.RAck.{RAck}
use Rattle.sip_transactions.specs.declared.input.Command.TheVariants as order
use Rattle.sip_user.specs.declared.command.AbandonDialog.{AbandonDialog}
use Rattle.sip_user.specs.declared.command.AbandonRequest.{AbandonRequest}
use Rattle.sip_user.specs.declared.command.Cancel.{Cancel}
use Rattle.sip_user.specs.declared.command.DialogBody.{DialogBody}
use Rattle.sip_user.specs.declared.command.DialogRequest.{DialogRequest}
use Rattle.sip_user.specs.declared.command.Invite.{Invite}
use Rattle.sip_user.specs.declared.command.Plain.{Plain}
use Rattle.sip_user.specs.declared.command.ProvisionalSupport.{ProvisionalSupport}
use Rattle.sip_user.specs.declared.command.ProvisionalSupport.TheVariants as support
use Rattle.sip_user.specs.declared.item.CallOut.{CallOut}
use Rattle.sip_user.specs.declared.item.CallOut.TheVariants as out
use Rattle.sip_user.specs.declared.refusal.Refusal.{Refusal}
use Rattle.sip_user.specs.declared.refusal.Refusal.TheVariants.{AlreadyFinal, BadMethod, NoSuchDialog, NoSuchRequest, NothingToAck, NothingToPrack}
use Rattle.sip_user.specs.Notices.{refused}
use Rattle.sip_user.specs.Refusal.{first_refusal}
use Rattle.sip_held_dialogs.specs.declared.held_dialog.DialogId.{DialogId}
use Rattle.sip_held_dialogs.specs.declared.held_dialog.DialogReference.{DialogReference}
use Rattle.sip_held_dialogs.specs.declared.held_dialog.HeldDialog.{HeldDialog}
use Rattle.sip_held_dialogs.specs.declared.pending_request.PendingRequest.{PendingRequest}
use Rattle.sip_held_dialogs.specs.declared.pending_request.PendingRequest.TheVariants.{Ack, Prack}
use Rattle.sip_held_dialogs.specs.Dialogs.{Dialogs, early_ended, ended_at, is_dialog_id, lives, tag_text}
use Rattle.sip_held_dialogs.specs.Ids.{is_id}
use Rattle.sip_held_dialogs.specs.OwnDialogs.{AreDialogsOf, IsDialogOf}
use Rattle.sip_held_dialogs.specs.Requests.{dialog_id_of_tags, has_to_tag, is_final, is_success, requires_100rel}
use Rattle.sip_held_dialogs.proofs.Each.{found_one}
use Rattle.sip_held_dialogs.proofs.Entries.{found_inserted}
use Rattle.sip_held_dialogs.proofs.Heard.{id_laws}
use Rattle.sip_held_dialogs.proofs.Starts.{early_starts, ended_starts, none_of_both, starts}
use Rattle.sip_clients.specs.declared.answers.SentAck.{SentAck}
use Rattle.sip_clients.specs.declared.client.Cancelling.{Cancelling}
use Rattle.sip_clients.specs.declared.client.Cancelling.TheVariants.{NotAsked, Sent, Waits}
use Rattle.sip_clients.specs.declared.client.Client.{Client}
use Rattle.sip_clients.specs.declared.client.RequestKind.TheVariants.{InDialog, ReInvite, OutOfDialog}
use Rattle.sip_clients.specs.declared.event.Event.{Event}
use Rattle.sip_clients.specs.declared.reply.ReceivedResponse.{ReceivedResponse as Reply}
use Rattle.sip_clients.specs.Client.{ClientTaken, Clients, Side, client_for}
use Rattle.sip_clients.specs.Rules.Abandon.{abandon_dialog_command, abandon_of_dialog, abandon_of_request, abandon_request_command}
use Rattle.sip_clients.specs.Rules.Ends.{client_tick, is_over, request_is_lost, request_over}
use Rattle.sip_clients.specs.Rules.Requests.{PendingOutcome, ack_command, ack_kept, cancel_command, cancel_of_request, cancel_request, dialog_of_kind, has_command, invite_command, is_asked, is_invite_kind, is_same_pending, method_of, oldest_pending, pending_by_user, pending_command, pending_outcome, pending_sent, pending_unsent, pending_with, plain_command, prack_command, refusals_in, refuse, request_command, request_in_dialog, request_outside, request_with_next_number, start, with_100rel, with_number}
use Rattle.sip_clients.specs.Rules.Responses.{Outcome, accepted, asks_for, dialog_made_by, dialog_response, first_success, has_dialog, is_initial, kept, last_response, notice_of, outcome_of, reliable_response, response_received, response_to, status_of, success_again, success_in, waiting_cancel}
use Rattle.sip_clients.proofs.FirstInvite.{id_exact}
use Rattle.sip_agent_laws.proofs.agents.Commands.{IsAbandonOf, IsStartOf}
use Rattle.sip_agent_laws.proofs.agents.Lists.{Among, among_either, among_left, back_of, both, by_found, by_if, front_of, same_some}

-- ---- what is said

-- a transaction is started under this id
abbrev pub IsUnder : Id → CallOut → Type 0
IsUnder id (out.Notice notice) = ⊥
IsUnder id (out.Command own (order.Start key call_id message to)) = own ≡ id
IsUnder id (out.Command own (order.Answer key message)) = ⊥
IsUnder id (out.Command own (order.Abandon key)) = ⊥
IsUnder id (out.Direct to bytes) = ⊥

abbrev pub NoneUnder : Id → List CallOut → Type 0
NoneUnder id outs = AllByRecursion (λ out. IsUnder id out → ⊥) outs

abbrev pub IsAbandonOut : Key → CallOut → Type 0
IsAbandonOut k (out.Notice notice) = ⊥
IsAbandonOut k (out.Command id asked) = IsAbandonOf k asked
IsAbandonOut k (out.Direct to bytes) = ⊥

-- the transaction is given up
abbrev pub Abandons : Key → List CallOut → Type 0
Abandons k outs = (o : CallOut) × Among outs o × IsAbandonOut k o

abbrev pub IsStartOut : Key → Id → List ℕ → CallOut → Type 0
IsStartOut k id call_id (out.Notice notice) = ⊥
IsStartOut k id call_id (out.Command own asked) = (own ≡ id) × IsStartOf k call_id asked
IsStartOut k id call_id (out.Direct to bytes) = ⊥

-- the transaction is started
abbrev pub Begins : Key → Id → List ℕ → List CallOut → Type 0
Begins k id call_id outs = (o : CallOut) × Among outs o × IsStartOut k id call_id o

some_start : (start : Id × Key) (rest : List (Id × Key)) → start ∷ rest ≡ [] → ⊥
some_start start rest same = absurd cc

pub none_begins : (k : Key) (id : Id) (call_id : List ℕ) (outs : List CallOut)
    → starts outs ≡ [] → Begins k id call_id outs → ⊥
none_begins k id call_id [] none begins = begins.1
none_begins k id call_id (out.Notice notice ∷ outs) none (o, inl same, is) =
    absurd (subst (IsStartOut k id call_id) (sym same) is)
none_begins k id call_id (out.Notice notice ∷ outs) none (o, inr later, is) =
    none_begins k id call_id outs none (o, later, is)
none_begins k id call_id (out.Direct to bytes ∷ outs) none (o, inl same, is) =
    absurd (subst (IsStartOut k id call_id) (sym same) is)
none_begins k id call_id (out.Direct to bytes ∷ outs) none (o, inr later, is) =
    none_begins k id call_id outs none (o, later, is)
none_begins k id call_id (out.Command own (order.Answer key message) ∷ outs) none
    (o, inl same, is) =
    absurd (subst (IsStartOut k id call_id) (sym same) is).1
none_begins k id call_id (out.Command own (order.Answer key message) ∷ outs) none
    (o, inr later, is) =
    none_begins k id call_id outs none (o, later, is)
none_begins k id call_id (out.Command own (order.Abandon key) ∷ outs) none (o, inl same, is) =
    absurd (subst (IsStartOut k id call_id) (sym same) is).1
none_begins k id call_id (out.Command own (order.Abandon key) ∷ outs) none (o, inr later, is) =
    none_begins k id call_id outs none (o, later, is)
none_begins k id call_id (out.Command own (order.Start key of message to) ∷ outs) none begins =
    some_start (own, key) (starts outs) none

-- ---- lists of entries

other_id : (one other : Id) → (one ≡ other → ⊥) → is_id one other ≡ false
other_id one other apart =
    by_bool (is_id one other) (λ same. absurd (apart (id_exact one other same))) (λ no. no)

pub id_itself : (id : Id) → is_id id id ≡ true
id_itself id = grind (arith, common_steps)

module _ {X : Type 0} (id : Id) where
  removed_step : (j : Id) (e : Id × X) (es rest : List (Id × X)) (gone mine : Bool)
      → is_id j e.0 ≡ gone → is_id id e.0 ≡ mine → (is_id j id ≡ false)
      → lookup (is_id id) rest ≡ lookup (is_id id) es
      → lookup (is_id id) (cond gone es (e ∷ rest))
      ≡ cond mine (Some e.1) (lookup (is_id id) es)
  removed_step j e es rest true true is same apart more =
      absurd (false≢true (sym apart
      ∙ ap (λ i. is_id j i) (id_exact id e.0 same) ∙ is))
  removed_step j e es rest true false is same apart more = refl
  removed_step j e es rest false mine is same apart more =
      (λ i. cond (same i) (Some e.1) (more i))

  -- another entry is taken out
  pub found_without : (j : Id) (es : List (Id × X)) → is_id j id ≡ false
      → lookup (is_id id) (remove_entry (is_id j) es) ≡ lookup (is_id id) es
  found_without j [] apart = refl
  found_without j (e ∷ es) apart =
      removed_step j e es (remove_entry (is_id j) es) (is_id j e.0) (is_id id e.0) refl refl apart
      (found_without j es apart)

  left_step : (p : X → Bool) (e : Id × X) (rest : List (Id × X)) (x : X) (found : Option X)
      (mine passes : Bool) → is_id id e.0 ≡ mine → p e.1 ≡ passes → p x ≡ true
      → cond mine (Some e.1) found ≡ Some x → (found ≡ Some x → lookup (is_id id) rest ≡ Some x)
      → lookup (is_id id) (cond passes (e ∷ rest) rest) ≡ Some x
  left_step p e rest x found true true same is good here more =
      ap (λ b. cond b (Some e.1) (lookup (is_id id) rest)) same ∙ here
  left_step p e rest x found true false same is good here more =
      absurd (false≢true (sym is ∙ ap p (same_some e.1 x here) ∙ good))
  left_step p e rest x found false true same is good here more =
      ap (λ b. cond b (Some e.1) (lookup (is_id id) rest)) same ∙ more here
  left_step p e rest x found false false same is good here more = more here

  -- entries are left out by their values
  pub found_left : (p : X → Bool) (es : List (Id × X)) (x : X) → lookup (is_id id) es ≡ Some x
      → p x ≡ true → lookup (is_id id) (filter (λ e. p e.1) es) ≡ Some x
  found_left p [] x is good = is
  found_left p (e ∷ es) x is good =
      left_step p e (filter (λ e. p e.1) es) x (lookup (is_id id) es) (is_id id e.0) (p e.1) refl
      refl good is (λ here. found_left p es x here good)

some_of : {X : Type 0} (o : Option X) (x : X) → o ≡ Some x → IsSome o
some_of {X} o x e = subst (λ (p : Option X). IsSome p) (sym e) refl

-- it is the transaction of an INVITE
abbrev pub is_invite_key : Key → Bool
is_invite_key k = bytes_eq (method_in k) (codes "INVITE")

-- or of another request that a command of its own method doesn't send
pub record IsCommanded (k : Key) : Type 0 where
  pub prack : codes "PRACK" ≡ method_in k → ⊥
  pub cancel : codes "CANCEL" ≡ method_in k → ⊥

pub invite_commanded : (k : Key) → method_in k ≡ codes "INVITE" → IsCommanded k
invite_commanded k invite = record {
  prack = λ same. false≢true (ap (λ m. bytes_eq m (codes "INVITE")) (same ∙ invite));
  cancel = λ same. false≢true (ap (λ m. bytes_eq m (codes "INVITE")) (same ∙ invite));
}

-- ---- one request

-- the same request, of the same kind, without or with a final response as before
pub record IsSame (one other : Client) : Type 0 where
  pub id : one.id ≡ other.id
  pub kind : one.kind ≡ other.kind
  pub request : one.request ≡ other.request
  pub removal : one.removal ≡ other.removal

module _ (k : Key) (id : Id) where
  -- it has this key and this id, and no final response
  pub record IsOurs (client : Client) : Type 0 where
    pub id_is : client.id ≡ id
    pub key_is : client_key (top_branch client.request) client.request.cseq.method ≡ k
    pub invites : is_invite_kind client.kind ≡ is_invite_key k
    pub unanswered : client.removal ≡ None

  abbrev pub Holds : Clients → Type 0
  Holds clients = (client : Client) × (lookup (is_id id) clients ≡ Some client) × IsOurs client

  ours_same : (one other : Client) → IsSame one other → IsOurs other → IsOurs one
  ours_same one other same ours = record {
    id_is = same.id ∙ ours.id_is;
    key_is = ap (λ (m : Message). client_key (top_branch m) m.cseq.method) same.request
        ∙ ours.key_is;
    invites = ap is_invite_kind same.kind ∙ ours.invites;
    unanswered = same.removal ∙ ours.unanswered;
  }

  -- one value is replaced by one that is the same so far
  holds_set : (j : Id) (old new : Client) (clients : Clients)
      → lookup (is_id j) clients ≡ Some old → (is_id j id ≡ true → IsSame new old)
      → Holds clients → Holds (set_value (is_id j) clients new)
  holds_set j old new clients found same ours =
      let set = lookup-set_value id_laws (is_id j) (λ y z e. id_laws.congr j y z e) id new clients
      (some_of (lookup (is_id j) clients) old found) in
      by_bool (is_id j id)
      (λ here. (
        new,
        set ∙ ap (λ b. cond b (Some new) (lookup (is_id id) clients)) here,
        ours_same new ours.0
            (subst (λ (c : Client). IsSame new c)
            (same_some old ours.0
            (sym found ∙ (ap (λ i. lookup (is_id i) clients) (id_exact j id here) ∙ ours.1)))
            (same here)) ours.2,
      ))
      (λ there. (
        ours.0,
        set ∙ ap (λ b. cond b (Some new) (lookup (is_id id) clients)) there ∙ ours.1,
        ours.2,
      ))

  -- ---- what a step does

  -- it stays, unless another is started under its id, or it is given up
  pub record Keeps (before after : Clients) (outs : List CallOut) : Type 0 where
    pub is : Holds before → NoneUnder id outs → Holds after ⊎ Abandons k outs

  -- and it isn't started
  pub record Calm (before after : Clients) (outs : List CallOut) : Type 0 where
    pub keeps : Keeps before after outs
    pub none : (call_id : List ℕ) → Begins k id call_id outs → ⊥

  -- and if it is started it is held, in the call of this Call-ID
  pub record Goes (of : List ℕ) (before after : Clients) (outs : List CallOut) : Type 0 where
    pub keeps : Keeps before after outs
    pub begins : (call_id : List ℕ) → Begins k id call_id outs → Holds after × (call_id ≡ of)

  pub calm_goes : (of : List ℕ) (before after : Clients) (outs : List CallOut)
      → Calm before after outs → Goes of before after outs
  calm_goes of before after outs calm = record {
    keeps = calm.keeps;
    begins = λ call_id begins. absurd (calm.none call_id begins);
  }

  -- nothing is started
  pub silent : (before after : Clients) (outs : List CallOut) → starts outs ≡ []
      → (Holds before → Holds after) → Calm before after outs
  silent before after outs none stays = record {
    keeps = record { is = λ ours free. inl (stays ours) };
    none = λ call_id begins. none_begins k id call_id outs none begins;
  }

  more_of : (of : List ℕ) (before after : Clients) (outs more : List CallOut)
      → starts more ≡ [] → Goes of before after outs → Goes of before after (outs ++ more)
  more_of of before after outs more none goes = record {
    keeps = record {
      is = λ ours free. ⊎_elim (λ still. inl still)
          (λ gone. inr (gone.0, among_left outs more gone.0 gone.1, gone.2))
          (goes.keeps.is ours (front_of (λ out. IsUnder id out → ⊥) outs more free));
    };
    begins = λ call_id begins. ⊎_elim
        (λ here. goes.begins call_id (begins.0, here, begins.2))
        (λ there. absurd (none_begins k id call_id more none (begins.0, there, begins.2)))
        (among_either outs more begins.0 begins.1);
  }

  put_in : (client : Client) (clients : Clients)
      → lookup (is_id id) (insert_entry is_id clients client.id client)
      ≡ cond (is_id client.id id) (Some client) (lookup (is_id id) clients)
  put_in client clients = found_inserted id_laws client.id id client clients

  put_apart : (client : Client) (clients : Clients) → (client.id ≡ id → ⊥) → Holds clients
      → Holds (insert_entry is_id clients client.id client)
  put_apart client clients apart ours = (
    ours.0,
    put_in client clients
        ∙ ap (λ b. cond b (Some client) (lookup (is_id id) clients))
        (other_id client.id id apart) ∙ ours.1,
    ours.2,
  )

  module _ (commanded : IsCommanded k) where
    -- a request with another method
    abbrev IsOther : Client → Type 0
    IsOther client = client.request.cseq.method ≡ method_in k → ⊥

    not_ours : (call_id : List ℕ) (client : Client) → IsOther client
        → IsStartOf k call_id (order.Start
        (client_key (top_branch client.request) client.request.cseq.method)
        client.request.call_id client.request client.to) → ⊥
    not_ours call_id client other is = other (ap method_in is.0)

    start_calm : (before : Clients) (done : Clients × List CallOut) (client : Client)
        → IsOther client → Calm before done.0 done.1
        → Calm before (start done client).0 (start done client).1
    start_calm before done client other calm =
        let started = out.Command client.id (order.Start
        (client_key (top_branch client.request) client.request.cseq.method)
        client.request.call_id client.request client.to) in
        record {
          keeps = record {
            is = λ ours free.
                let parts = front_of (λ out. IsUnder id out → ⊥) done.1 (started ∷ []) free in
                let last = back_of (λ out. IsUnder id out → ⊥) done.1 (started ∷ []) free in
                ⊎_elim (λ still. inl (put_apart client done.0 last.0 still))
                (λ gone. inr (gone.0, among_left done.1 _ gone.0 gone.1, gone.2))
                (calm.keeps.is ours parts);
          };
          none = λ call_id begins. ⊎_elim
              (λ here. calm.none call_id (begins.0, here, begins.2))
              (λ there. ⊎_elim
              (λ same.
              let is : IsStartOut k id call_id started =
              subst (IsStartOut k id call_id) (sym same) begins.2 in
              not_ours call_id client other is.1)
              (λ none. absurd none) there)
              (among_either done.1 (started ∷ []) begins.0 begins.1);
        }

    starts_calm : (before : Clients) (clients : List Client) (done : Clients × List CallOut)
        → AllByRecursion IsOther clients → Calm before done.0 done.1
        → Calm before (fold start done clients).0 (fold start done clients).1
    starts_calm before [] done other calm = calm
    starts_calm before (client ∷ clients) done other calm =
        starts_calm before clients (start done client) other.1
        (start_calm before done client other.0 calm)

    -- one request is started
    pub record IsFresh (of : List ℕ) (client : Client) : Type 0 where
      pub kind : is_invite_kind client.kind
          ≡ bytes_eq client.request.cseq.method (codes "INVITE")
      pub removal : client.removal ≡ None
      pub call : client.request.call_id ≡ of

    start_goes : (of : List ℕ) (before : Clients) (client : Client) → IsFresh of client
        → Goes of before (start (before, []) client).0 (start (before, []) client).1
    start_goes of before client fresh = record {
      keeps = record { is = λ ours free. inl (put_apart client before free.0 ours) };
      begins = λ call_id begins. ⊎_elim
          (λ same.
          let is : IsStartOut k id call_id (out.Command client.id (order.Start
          (client_key (top_branch client.request) client.request.cseq.method)
          client.request.call_id client.request client.to)) =
          subst (IsStartOut k id call_id) (sym same) begins.2 in (
            (
              client,
              put_in client before
                  ∙ ap (λ b. cond b (Some client) (lookup (is_id id) before))
                  (ap (λ i. is_id i id) is.0 ∙ id_itself id),
              record {
                id_is = is.0;
                key_is = is.1.0;
                invites = fresh.kind
                    ∙ ap (λ key. bytes_eq (method_in key) (codes "INVITE")) is.1.0;
                unanswered = fresh.removal;
              },
            ),
            sym is.1.1 ∙ fresh.call,
          ))
          (λ none. absurd none) begins.1;
    }

    -- ---- commands outside of dialogs

    pub record Steps (of : List ℕ) (before : Clients) (taken : ClientTaken) : Type 0 where
      pub goes : Goes of before (taken.0).clients taken.1

    quiet : (of : List ℕ) (before : Clients) (taken : ClientTaken) → starts taken.1 ≡ []
        → (Holds before → Holds (taken.0).clients) → Steps of before taken
    quiet of before taken none stays = record {
      goes = calm_goes of before (taken.0).clients taken.1
          (silent before (taken.0).clients taken.1 none stays);
    }

    still : (of : List ℕ) (side : Side) (outs : List CallOut) → starts outs ≡ []
        → Steps of side.clients (side, outs)
    still of side outs none = quiet of side.clients (side, outs) none (λ ours. ours)

    support_call : (asked : ProvisionalSupport) (message : Message)
        → (with_100rel asked message).call_id ≡ message.call_id
    support_call support.None message = refl
    support_call _ message = refl

    support_method : (asked : ProvisionalSupport) (message : Message)
        → (with_100rel asked message).cseq.method ≡ message.cseq.method
    support_method support.None message = refl
    support_method _ message = refl

    pub invite_goes : (of : List ℕ) (event : Event) (command : Invite) (clients : Clients)
        → command.call_id ≡ of
        → Goes of clients (invite_command event command clients).0
        (invite_command event command clients).1
    unfolding invite_command with_content_of
    invite_goes of event command clients is =
        start_goes of clients _ (record {
          kind = sym (ap (λ m. bytes_eq m (codes "INVITE")) (support_method command.support _));
          removal = refl;
          call = support_call command.support _ ∙ is;
        })

    pub plain_goes : (of : List ℕ) (event : Event) (command : Plain) (clients : Clients)
        → command.call_id ≡ of
        → Goes of clients (plain_command event command clients).0
        (plain_command event command clients).1
    unfolding plain_command with_content_of
    plain_goes of event command clients is =
        let first = has_command command.method in
        let second = bytes_eq command.method (codes "INVITE") in
        let request = request_outside event command.call_id command.method command.request_uri
        command.from command.to command.routes in
        let client = client_for event.id OutOfDialog (with_content_of request command.content)
        command.address in
        by_if (λ (done : Clients × List CallOut). Goes of clients done.0 done.1)
        (first || second || bytes_eq command.method (codes "BYE"))
        (clients, refused event.id command.call_id BadMethod) (start (clients, []) client)
        (λ bad. calm_goes of clients clients _ (silent clients clients _ refl (λ ours. ours)))
        (λ good. start_goes of clients client (record {
          kind = sym (or_parts first second
              (or_parts (first || second) (bytes_eq command.method (codes "BYE")) good).0).1;
          removal = refl;
          call = is;
        }))

    -- ---- commands in a dialog

    next_fresh : (of : List ℕ) (event : Event) (name : DialogId) (method : List ℕ)
        (rack : Option RAck) (content : Content) (held : HeldDialog) → IsDialogOf of held
        → IsFresh of (request_with_next_number event name method rack content held)
    unfolding with_content_of
    next_fresh of event name method rack content held its = record {
      kind = kind_is (bytes_eq method (codes "INVITE"));
      removal = refl;
      call = its;
    }
      where
        kind_is : (b : Bool) → is_invite_kind
            (if b then ReInvite (record { name = name; created_by = held.created_by })
            else InDialog (record { name = name; created_by = held.created_by })) ≡ b
        kind_is true = refl
        kind_is false = refl

    request_held : (of : List ℕ) (event : Event) (command : DialogRequest) (side : Side)
        (name : DialogId) (held : HeldDialog) → IsDialogOf of held
        → Steps of side.clients (request_in_dialog event command side name held)
    request_held of event command side name held its =
        let method = command.method in
        let sent = start (side.clients, [])
        (request_with_next_number event name method None command.content held) in
        let dialogs = set_value (is_dialog_id name) side.dialogs (with_number held) in
        let ended = if bytes_eq method (codes "BYE") then ended_at name dialogs
        else (dialogs, []) in
        by_found (Steps of side.clients) (refuse event command.call_id side)
        (first_refusal ((has_command method, BadMethod) ∷ refusals_in held.dialog method) None)
        (record { dialogs = ended.0; clients = sent.0 }, sent.1 ++ ended.1)
        (λ refusal refused. still of side _ refl)
        (λ none. record {
          goes = more_of of side.clients sent.0 sent.1 ended.1
              (by_if (λ (ended : Dialogs × List CallOut). starts ended.1 ≡ [])
              (bytes_eq method (codes "BYE")) (ended_at name dialogs) (dialogs, [])
              (λ bye. ended_starts name dialogs) (λ other. refl))
              (start_goes of side.clients _
              (next_fresh of event name method None command.content held its));
        })

    dialog_found : (of : List ℕ) (name : DialogId) (dialogs : Dialogs) → AreDialogsOf of dialogs
        → (held : HeldDialog) → lookup (is_dialog_id name) dialogs ≡ Some held
        → IsDialogOf of held
    dialog_found of name dialogs own held is =
        subst (λ o. IfSome o (IsDialogOf of)) is
        (found_one (IsDialogOf of) (is_dialog_id name) dialogs own)

    pub request_goes : (of : List ℕ) (event : Event) (command : DialogRequest) (side : Side)
        → AreDialogsOf of side.dialogs
        → Steps of side.clients (request_command event command side)
    unfolding request_command
    request_goes of event command side dialogs =
        let name = dialog_id_of_tags (tag_text command.local_tag) (tag_text command.remote_tag) in
        by_found (Steps of side.clients) (request_in_dialog event command side name)
        (lookup (is_dialog_id name) side.dialogs)
        (refuse event command.call_id side NoSuchDialog)
        (λ held is. request_held of event command side name held
        (dialog_found of name side.dialogs dialogs held is))
        (λ none. still of side _ refl)

    -- ---- ACK and PRACK

    record IsPaid (done : PendingOutcome) : Type 0 where
      prack : AllByRecursion IsOther done.prack
      outs : starts done.outs ≡ []

    sent_paid : (event : Event) (name : DialogId) (pending : PendingRequest) (content : Content)
        (held : HeldDialog) → IsPaid (pending_sent event name pending content held)
    unfolding with_content_of
    sent_paid event name (Ack invited cseq) content held = record { prack = tt; outs = refl }
    sent_paid event name (Prack rseq cseq) content held =
        record { prack = (commanded.prack, tt); outs = refl }

    outcome_paid : (event : Event) (of : List ℕ) (name : DialogId) (pending : PendingRequest)
        (content : Option Content) (without_it with_it : HeldDialog)
        → IsPaid (pending_outcome event of name pending content without_it with_it)
    outcome_paid event of name pending content without_it with_it =
        by_found IsPaid (pending_with event of name pending without_it with_it) content _
        (λ content is. by_found IsPaid
        (λ refusal. pending_unsent with_it (refused event.id of refusal))
        (first_refusal (refusals_in without_it.dialog (method_of pending)) None)
        (pending_sent event name pending content without_it)
        (λ refusal refused. record { prack = tt; outs = refl })
        (λ none. sent_paid event name pending content without_it))
        (λ none. record { prack = tt; outs = refl })

    acked_holds : (pending : PendingRequest) (name : DialogId) (ack : Option SentAck)
        (clients : Clients) → Holds clients → Holds (ack_kept pending name ack clients)
    acked_holds (Ack invited cseq) name None clients ours = ours
    acked_holds (Ack invited cseq) name (Some ack) clients ours =
        let change : Client → Client = λ client.
        record client { answers = insert_entry is_dialog_id client.answers name (Some ack) } in
        by_found (λ after. Holds after)
        (λ client. set_value (is_id invited) clients (change client))
        (lookup (is_id invited) clients) clients
        (λ client found. holds_set invited client (change client) clients found
        (λ here. record { id = refl; kind = refl; request = refl; removal = refl }) ours)
        (λ none. ours)
    acked_holds (Prack rseq cseq) name ack clients ours = ours

    paid_by_user : (of : List ℕ) (event : Event) (command : DialogBody) (side : Side)
        (name : DialogId) (held : HeldDialog) (pending : PendingRequest)
        → Steps of side.clients (pending_by_user event command side name held pending)
    paid_by_user of event command side name held pending =
        let others = filter (λ other. not (is_same_pending pending other)) held.pending_requests in
        let without_it : HeldDialog = record held { pending_requests = others } in
        let content = Some command.content in
        let done = pending_outcome event command.call_id name pending content without_it held in
        let so = outcome_paid event command.call_id name pending content without_it held in
        record {
          goes = calm_goes of side.clients _ _
              (starts_calm side.clients done.prack
              (ack_kept pending name done.ack side.clients, done.outs) so.prack
              (silent side.clients (ack_kept pending name done.ack side.clients) done.outs so.outs
              (acked_holds pending name done.ack side.clients)));
        }

    pending_goes : (of method : List ℕ) (nothing : Refusal) (event : Event)
        (command : DialogBody) (side : Side)
        → Steps of side.clients (pending_command method nothing event command side)
    pending_goes of method nothing event command side =
        let name = dialog_id_of_tags (tag_text command.local_tag) (tag_text command.remote_tag) in
        by_found (Steps of side.clients) (oldest_pending method nothing event command side name)
        (lookup (is_dialog_id name) side.dialogs)
        (refuse event command.call_id side NoSuchDialog)
        (λ held is. by_found (Steps of side.clients)
        (pending_by_user event command side name held)
        (find (λ pending. bytes_eq (method_of pending) method) held.pending_requests)
        (refuse event command.call_id side nothing)
        (λ pending found. paid_by_user of event command side name held pending)
        (λ none. still of side _ refl))
        (λ none. still of side _ refl)

    pub ack_goes : (of : List ℕ) (event : Event) (command : DialogBody) (side : Side)
        → Steps of side.clients (ack_command event command side)
    unfolding ack_command
    ack_goes of event command side = pending_goes of (codes "ACK") NothingToAck event command side

    pub prack_goes : (of : List ℕ) (event : Event) (command : DialogBody) (side : Side)
        → Steps of side.clients (prack_command event command side)
    unfolding prack_command
    prack_goes of event command side =
        pending_goes of (codes "PRACK") NothingToPrack event command side

    -- ---- CANCEL

    cancel_other : (by : Id) (client : Client) → IsOther (cancel_request by client)
    cancel_other by client is = commanded.cancel is

    cancelled : (of : List ℕ) (event : Event) (command : Cancel) (side : Side) (own : Client)
        → lookup (is_id command.id) side.clients ≡ Some own
        → Steps of side.clients (cancel_of_request event command side own)
    cancelled of event command side own found =
        let with_cancel : Cancelling → Clients = λ cancel.
        set_value (is_id command.id) side.clients (record own { cancel = cancel }) in
        let stays : (cancel : Cancelling) → Holds side.clients → Holds (with_cancel cancel) =
        λ cancel ours. holds_set command.id own (record own { cancel = cancel }) side.clients found
        (λ here. record { id = refl; kind = refl; request = refl; removal = refl }) ours in
        let started = start (with_cancel Sent, []) (cancel_request event.id own) in
        let waits : Clients × List CallOut = (with_cancel (Waits event.id), []) in
        let done = if own.provisional then started else waits in
        let first : ClientTaken = (record side { clients = done.0 }, done.1) in
        let asked : ClientTaken = if is_asked own.cancel then (side, []) else first in
        let late : ClientTaken = if is_some own.removal
        then refuse event command.call_id side AlreadyFinal else asked in
        by_if (Steps of side.clients) (not (is_invite_kind own.kind))
        (refuse event command.call_id side NoSuchRequest) late
        (λ is. still of side _ refl)
        (λ is. by_if (Steps of side.clients) (is_some own.removal)
        (refuse event command.call_id side AlreadyFinal) asked
        (λ final. still of side _ refl)
        (λ early. by_if (Steps of side.clients) (is_asked own.cancel) (side, []) first
        (λ again. still of side _ refl)
        (λ one. record {
          goes = by_if (λ (done : Clients × List CallOut). Goes of side.clients done.0 done.1)
              own.provisional
              (start (with_cancel Sent, []) (cancel_request event.id own))
              (with_cancel (Waits event.id), [])
              (λ came. calm_goes of side.clients _ _
              (start_calm side.clients (with_cancel Sent, []) (cancel_request event.id own)
              (cancel_other event.id own)
              (silent side.clients (with_cancel Sent) [] refl (stays Sent))))
              (λ waits. calm_goes of side.clients _ _
              (silent side.clients (with_cancel (Waits event.id)) [] refl
              (stays (Waits event.id))));
        })))

    pub cancel_goes : (of : List ℕ) (event : Event) (command : Cancel) (side : Side)
        → Steps of side.clients (cancel_command event command side)
    unfolding cancel_command
    cancel_goes of event command side =
        by_found (Steps of side.clients) (cancel_of_request event command side)
        (lookup (is_id command.id) side.clients)
        (refuse event command.call_id side NoSuchRequest)
        (λ own found. cancelled of event command side own found)
        (λ none. still of side _ refl)

    -- ---- the end of a request

    over_silent : (client : Client) (ends : Bool) (dialogs : Dialogs)
        → starts (request_over client ends dialogs).1 ≡ []
    over_silent client ends dialogs =
        let early = early_ended client.id dialogs in
        none_of_both early.1 _ (early_starts client.id dialogs)
        (by_found (λ (ended : Dialogs × List CallOut). starts ended.1 ≡ [])
        (λ (reference : DialogReference). if ends && lives early.0 reference
        then ended_at reference.name early.0 else (early.0, []))
        (dialog_of_kind client.kind) (early.0, [])
        (λ reference is. by_if (λ (ended : Dialogs × List CallOut). starts ended.1 ≡ [])
        (ends && lives early.0 reference) (ended_at reference.name early.0) (early.0, [])
        (λ over. ended_starts reference.name early.0) (λ lives. refl))
        (λ none. refl))

    holds_without : (j : Id) (clients : Clients) → is_id j id ≡ false → Holds clients
        → Holds (remove_entry (is_id j) clients)
    holds_without j clients apart ours =
        (ours.0, found_without id j clients apart ∙ ours.1, ours.2)

    lost_silent : (j : Id) (timed_out : Bool) (side : Side)
        → starts (request_is_lost j timed_out side).1 ≡ []
    unfolding request_is_lost
    lost_silent j timed_out side =
        by_found (λ (ended : Dialogs × List CallOut). starts ended.1 ≡ [])
        (λ client. request_over client timed_out side.dialogs) (lookup (is_id j) side.clients)
        (side.dialogs, []) (λ client is. over_silent client timed_out side.dialogs)
        (λ none. refl)

    lost_holds : (j : Id) (timed_out : Bool) (side : Side) → is_id j id ≡ false
        → Holds side.clients → Holds ((request_is_lost j timed_out side).0).clients
    unfolding request_is_lost
    lost_holds j timed_out side apart ours = holds_without j side.clients apart ours

    pub lost_goes : (of : List ℕ) (j : Id) (timed_out : Bool) (side : Side)
        → is_id j id ≡ false → Steps of side.clients (request_is_lost j timed_out side)
    lost_goes of j timed_out side apart =
        quiet of side.clients (request_is_lost j timed_out side) (lost_silent j timed_out side)
        (lost_holds j timed_out side apart)

    given_up : (of : List ℕ) (command : AbandonRequest) (side : Side) (client : Client)
        → lookup (is_id command.id) side.clients ≡ Some client
        → Steps of side.clients (abandon_of_request command side client)
    given_up of command side client found =
        let over = request_is_lost command.id false side in
        let abandon = out.Command command.id (order.Abandon
        (client_key (top_branch client.request) client.request.cseq.method)) in
        record {
          goes = record {
            keeps = record {
              is = λ ours free. by_bool (is_id command.id id)
                  (λ here.
                  let same = same_some client ours.0
                  (sym found ∙ (ap (λ i. lookup (is_id i) side.clients)
                  (id_exact command.id id here) ∙ ours.1)) in
                  inr (
                    abandon,
                    inl refl,
                    ap (λ (c : Client). client_key (top_branch c.request) c.request.cseq.method)
                        same ∙ (ours.2).key_is,
                  ))
                  (λ there. inl (lost_holds command.id false side there ours));
            };
            begins = λ call_id begins. absurd (⊎_elim
                (λ same.
                let is : IsStartOut k id call_id abandon =
                subst (IsStartOut k id call_id) (sym same) begins.2 in is.1)
                (λ later. none_begins k id call_id over.1
                (lost_silent command.id false side) (begins.0, later, begins.2))
                begins.1);
          };
        }

    pub abandon_goes : (of : List ℕ) (event : Event) (command : AbandonRequest) (side : Side)
        → Steps of side.clients (abandon_request_command event command side)
    unfolding abandon_request_command
    abandon_goes of event command side =
        by_found (Steps of side.clients) (abandon_of_request command side)
        (lookup (is_id command.id) side.clients)
        (refuse event command.call_id side NoSuchRequest)
        (λ client found. given_up of command side client found)
        (λ none. still of side _ refl)

    pub abandon_dialog_goes : (of : List ℕ) (event : Event) (command : AbandonDialog) (side : Side)
        → Steps of side.clients (abandon_dialog_command event command side)
    unfolding abandon_dialog_command
    abandon_dialog_goes of event command side =
        let name = dialog_id_of_tags (tag_text command.local_tag) (tag_text command.remote_tag) in
        by_found (Steps of side.clients) (abandon_of_dialog name side)
        (lookup (is_dialog_id name) side.dialogs)
        (refuse event command.call_id side NoSuchDialog)
        (λ held found. quiet of side.clients (abandon_of_dialog name side held)
        (ended_starts name side.dialogs) (λ ours. ours))
        (λ none. still of side _ refl)

    -- ---- a tick

    pub tick_holds : (side : Side) (now : ℕ) → Holds side.clients
        → Holds ((client_tick side now).0).clients
    unfolding client_tick
    tick_holds side now ours = (
      ours.0,
      found_left id (λ client. not (is_over now client)) side.clients ours.0 ours.1
          (ap (λ removal. not (option_map_or (λ moment. nat_le moment now) removal false))
          (ours.2).unanswered),
      ours.2,
    )

    -- ---- a response

    record IsReplied (final : Bool) (client : Client) (done : Outcome) : Type 0 where
      outs : starts done.outs ≡ []
      prack : AllByRecursion IsOther done.prack
      early : final ≡ false
          → (after : Client) × (done.request ≡ Some after) × IsSame after client

    itself : (client : Client) → IsSame client client
    itself client = record { id = refl; kind = refl; request = refl; removal = refl }

    kept_replied : (final : Bool) (client : Client) (dialogs : Dialogs) (outs : List CallOut)
        → starts outs ≡ [] → IsReplied final client (kept client dialogs outs)
    kept_replied final client dialogs outs none = record {
      outs = none;
      prack = tt;
      early = λ early. (client, refl, itself client);
    }

    asks_replied : (final : Bool) (pending : PendingRequest) (reply : Reply) (client : Client)
        (after : Option SentAck → Client) (held : HeldDialog) (dialogs : Dialogs)
        → (final ≡ false → (ack : Option SentAck) → IsSame (after ack) client)
        → IsReplied final client (asks_for pending reply client after held dialogs)
    asks_replied final pending reply client after held dialogs same =
        let so = outcome_paid reply.event reply.call_id reply.name pending _ held _ in
        record {
          outs = so.outs;
          prack = so.prack;
          early = λ early. (_, refl, same early _);
        }

    reliable_replied : (reply : Reply) (client : Client) (dialogs : Dialogs) (held : HeldDialog)
        (rseq : ℕ) → IsReplied false client (reliable_response reply client dialogs held rseq)
    reliable_replied reply client dialogs held rseq =
        let initial = is_none (dialog_of_kind client.kind) in
        let last = if initial then held.last_rseq else client.last_rseq in
        let heard : Client = record client { last_rseq = Some rseq } in
        let after : Option SentAck → Client = λ ack. if initial then client else heard in
        let dialog : HeldDialog = if initial then record held { last_rseq = Some rseq } else held in
        let pending = Prack rseq client.request.cseq.number in
        by_if (IsReplied false client) (not (option_map_or (λ last. rseq == last + 1) last true))
        (kept client dialogs []) (asks_for pending reply client after dialog dialogs)
        (λ passed. kept_replied false client dialogs [] refl)
        (λ taken. asks_replied false pending reply client after dialog dialogs
        (λ early ack. by_if (λ (after : Client). IsSame after client) initial client
        (record client { last_rseq = Some rseq }) (λ first. itself client)
        (λ again. record { id = refl; kind = refl; request = refl; removal = refl })))

    dialog_replied : (reply : Reply) (client : Client) (dialogs : Dialogs)
        → IsReplied false client (dialog_response reply client dialogs)
    dialog_replied reply client dialogs =
        let response = reply.response in
        let found = lookup (is_dialog_id reply.name) dialogs in
        let held = unwrap_or found (dialog_made_by reply client) in
        by_found (IsReplied false client) (reliable_response reply client dialogs held)
        (if requires_100rel response then response.rseq else None)
        (kept client (insert_entry is_dialog_id dialogs reply.name held) (notice_of reply ∷ []))
        (λ rseq is. reliable_replied reply client dialogs held rseq)
        (λ none. record { outs = refl; prack = tt; early = λ early. (client, refl, itself client) })

    over_replied : (final : Bool) (client : Client) (done : Outcome) → final ≡ true
        → starts done.outs ≡ [] → AllByRecursion IsOther done.prack
        → IsReplied final client done
    over_replied final client done is none prack = record {
      outs = none;
      prack = prack;
      early = λ early. absurd (false≢true (sym early ∙ is));
    }

    again_silent : (answer : Option (Option SentAck))
        → starts (option_map_or (λ (ack : SentAck). out.Direct ack.to ack.bytes ∷ [])
        (option_and_then (λ ack. ack) answer) []) ≡ []
    again_silent None = refl
    again_silent (Some None) = refl
    again_silent (Some (Some ack)) = refl

    outcome_replied : (reply : Reply) (client : Client) (dialogs : Dialogs)
        → IsReplied (is_final reply.status) client (outcome_of reply client dialogs)
    outcome_replied reply client dialogs =
        let final = is_final reply.status in
        let answer = lookup (is_dialog_id reply.name) client.answers in
        let told : Outcome = kept client dialogs (notice_of reply ∷ []) in
        let late : Outcome = kept (accepted reply client None) dialogs (notice_of reply ∷ []) in
        let is_told = not (has_dialog client dialogs && not (reply.status == 100)
        && has_to_tag reply.response) in
        let fifth : Outcome = if is_told then told else dialog_response reply client dialogs in
        let fourth : Outcome = if final then late else fifth in
        let third : Outcome = if final && has_dialog client dialogs
        then first_success reply client dialogs else fourth in
        let second : Outcome = if final && is_some answer
        then success_again answer client dialogs else third in
        let R : Outcome → Type 0 = IsReplied final client in
        by_if R (final && not (is_invite_kind client.kind && is_success reply.status))
        (last_response reply client dialogs) second
        (λ last. over_replied final client (last_response reply client dialogs)
        (and_parts final _ last).0
        (over_silent client ((reply.status == 481) || (reply.status == 408)) dialogs) tt)
        (λ more. by_if R (final && is_some answer) (success_again answer client dialogs) third
        (λ again. over_replied final client (success_again answer client dialogs)
        (and_parts final _ again).0 (again_silent answer) tt)
        (λ new. by_if R (final && has_dialog client dialogs) (first_success reply client dialogs)
        fourth
        (λ success. asks_replied final (Ack client.id client.request.cseq.number) reply client
        (accepted reply client)
        (option_map_or (success_in (is_initial client) reply.response)
        (lookup (is_dialog_id reply.name) dialogs) (dialog_made_by reply client)) dialogs
        (λ early. absurd (false≢true (sym early ∙ (and_parts final _ success).0))))
        (λ none. by_if R final late fifth
        (λ over. over_replied final client late over refl tt)
        (λ early. by_if R is_told told (dialog_response reply client dialogs)
        (λ other. kept_replied final client dialogs (notice_of reply ∷ []) refl)
        (λ dialog. subst (λ f. IsReplied f client (dialog_response reply client dialogs))
        (sym early) (dialog_replied reply client dialogs))))))

    response_to_goes : (of : List ℕ) (event : Event) (j : Id) (call_id : List ℕ)
        (response : Message) (side : Side) (status : ℕ) (client : Client)
        → lookup (is_id j) side.clients ≡ Some client
        → (is_id j id ≡ true → is_final status ≡ false)
        → Steps of side.clients (response_to event j call_id response side status client)
    response_to_goes of event j call_id response side status client found mild =
        let final = is_final status in
        let waiting = waiting_cancel client.cancel in
        let cancels : List Client = if final then []
        else option_map_or (λ asked_by. cancel_request asked_by client ∷ []) waiting [] in
        let after : Client = record client {
          provisional = client.provisional || not final;
          cancel = option_map_or (λ asked_by. if final then NotAsked else Sent) waiting
              client.cancel;
        } in
        let reply : Reply = record {
          event = event;
          id = j;
          call_id = call_id;
          name = option_map_or (λ reference. reference.name) (dialog_of_kind client.kind)
              (dialog_id_of_tags (tag_of client.request.from) (tag_of response.to));
          status = status;
          response = response;
        } in
        let done = outcome_of reply after side.dialogs in
        let so = outcome_replied reply after side.dialogs in
        let removed = remove_entry (is_id j) side.clients in
        let clients : Clients = option_map_or (set_value (is_id j) side.clients) done.request
        removed in
        let stays : Holds side.clients → Holds clients = λ ours.
        by_bool (is_id j id)
        (λ here.
        let early = so.early (mild here) in
        subst (λ request. Holds (option_map_or (set_value (is_id j) side.clients) request removed))
        (sym early.1)
        (holds_set j client early.0 side.clients found (λ again. record {
          id = early.2.id;
          kind = early.2.kind;
          request = early.2.request;
          removal = early.2.removal;
        }) ours))
        (λ there. by_found (λ c. Holds c) (set_value (is_id j) side.clients) done.request removed
        (λ new is. holds_set j client new side.clients found
        (λ here. absurd (false≢true (sym there ∙ here))) ours)
        (λ over. holds_without j side.clients there ours)) in
        record {
          goes = calm_goes of side.clients _ _
              (starts_calm side.clients (done.prack ++ cancels) (clients, done.outs)
              (both IsOther done.prack cancels so.prack
              (by_if (λ cs. AllByRecursion IsOther cs) final []
              (option_map_or (λ asked_by. cancel_request asked_by client ∷ []) waiting [])
              (λ final. tt)
              (λ early. by_found (λ cs. AllByRecursion IsOther cs)
              (λ asked_by. cancel_request asked_by client ∷ []) waiting []
              (λ asked_by is. (cancel_other asked_by client, tt)) (λ none. tt))))
              (silent side.clients clients done.outs so.outs stays));
        }

    pub response_goes : (of : List ℕ) (event : Event) (j : Id) (call_id : List ℕ)
        (response : Message) (side : Side)
        → (is_id j id ≡ true → (status : ℕ) → status_of response.start ≡ Some status
        → is_final status ≡ false)
        → Steps of side.clients (response_received event j call_id response side)
    unfolding response_received
    response_goes of event j call_id response side mild =
        by_found (Steps of side.clients)
        (λ status. option_map_or (response_to event j call_id response side status)
        (lookup (is_id j) side.clients) (side, []))
        (status_of response.start) (side, [])
        (λ status is. by_found (Steps of side.clients)
        (response_to event j call_id response side status) (lookup (is_id j) side.clients)
        (side, [])
        (λ client found. response_to_goes of event j call_id response side status client found
        (λ here. mild here status is))
        (λ none. still of side [] refl))
        (λ none. still of side [] refl)
