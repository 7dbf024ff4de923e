-- The stories of the held client requests: one goes on, one ends, one begins.
use Rattle.std.proofs.Common.{◌≡◌, Bool, false, ◌||◌, cond, List, [], ◌∷◌, ◌++◌, map, refl, sym, ap, ◌∙◌, append-nil}
use Rattle.std.specs.Prelude.{Option, None, Some, filter, fold, unwrap_or}
use Rattle.std.specs.List.{list_any}
use Rattle.std.specs.Map.{lookup, remove_entry, set_value}
use Rattle.std.specs.Option.{option_map, option_map_or}
use Rattle.std.proofs.lemmas.List.Elements.{filter_map-append}
use Rattle.std.proofs.lemmas.List.Folds.{list_any-append}
use Rattle.std.proofs.lemmas.List.Sums.{fold-append}
use Rattle.std.proofs.lemmas.Map.Made.{lookup-map_values}
use Rattle.indexmap.specs.IndexMap.{insert_entry}
use Rattle.sip_message.specs.HopByHop.{cancel_of}
use Rattle.sip_message.specs.declared.addr.Addr.{Addr}
use Rattle.sip_message.specs.declared.id.Id.{Id}
use Rattle.sip_message.specs.declared.message.Message.{Message}
use Rattle.sip_user.specs.declared.item.CallOut.{CallOut}
use Rattle.sip_user.specs.declared.item.CallOut.TheVariants as out
use Rattle.sip_held_dialogs.specs.Ids.{is_id}
use Rattle.sip_held_dialogs.specs.Requests.{is_cancel}
use Rattle.sip_clients.specs.declared.client.Client.{Client}
use Rattle.sip_clients.specs.declared.client.RequestKind.{RequestKind}
use Rattle.sip_clients.specs.declared.client.RequestKind.TheVariants.{OutOfDialog}
use Rattle.sip_clients.specs.declared.event.Event.{Event}
use Rattle.sip_clients.specs.declared.outputs.ClientChange.{ClientChange}
use Rattle.sip_clients.specs.declared.outputs.ClientChange.TheVariants.{Stays, Over, Starts}
use Rattle.sip_clients.specs.Cancel.{cancel_client, sent_beside}
use Rattle.sip_clients.specs.Client.{Clients, client_at, client_changed, client_for, with_client, without_client}
use Rattle.sip_clients.specs.ClientLife.{ClientHappening, Outgoing, request_in, requests_out}
use Rattle.sip_clients.specs.ClientStory.{ClientStory, client_told, lives_on}
use Rattle.sip_clients.specs.ClientTelling.{ClientStories, AreTold, begin_story, begin_stories, happens_to}
use Rattle.sip_clients.specs.Clients.{settled}
use Rattle.sip_clients.specs.Outputs.{start_command}
use Rattle.sip_clients.specs.Provisionals.{is_response}
use Rattle.sip_clients.proofs.ClientRecords.{all_happen, client_happened, none_heard, or_false}
use Rattle.sip_clients.proofs.StoryMaps.{insert_read, read, remove_read, set_read}
use Rattle.sip_clients.proofs.WithoutStarts.{AreQuiet}

pub some_same : {A : Type 0} (x y : A) → Some x ≡ Some y → x ≡ y
some_same x y e = ap (λ o. unwrap_or o x) e

-- ---- what is held

module _ (clients : Clients) (stories : ClientStories) (told : AreTold clients stories) where
  -- this changes the request that is found under the id, or none
  happens_on : (id : Id) (more : List ClientHappening) (change : Client → Client)
      (o : Option Client) → client_at id clients ≡ o
      → ((story : ClientStory) → Some (client_told story) ≡ o
      → client_told (lives_on more story) ≡ change (client_told story))
      → AreTold (option_map_or (λ client. set_value (is_id id) clients (change client)) o clients)
      (happens_to id more stories)
  happens_on id more change o at step = by_found (lookup (is_id id) stories) refl
    where
      changed : Option Client → Clients
      changed o = option_map_or (λ client. set_value (is_id id) clients (change client)) o clients

      same : (found : Option ClientStory) → lookup (is_id id) stories ≡ found
          → o ≡ option_map client_told found
      same found is =
          sym at ∙ ap (lookup (is_id id)) told
          ∙ lookup-map_values client_told (is_id id) stories ∙ ap (option_map client_told) is

      by_found : (found : Option ClientStory) → lookup (is_id id) stories ≡ found
          → AreTold (changed o)
          (option_map_or (λ story. set_value (is_id id) stories (lives_on more story)) found
          stories)
      by_found None is = ap changed (same None is) ∙ told
      by_found (Some story) is =
          ap changed (same (Some story) is)
          ∙ (λ i. set_value (is_id id) (told i) (change (client_told story)))
          ∙ ap (set_value (is_id id) (read client_told stories))
          (sym (step story (sym (same (Some story) is))))
          ∙ sym (set_read client_told (is_id id) stories (lives_on more story))

  pub put_on : (id : Id) (more : List ClientHappening) (client after : Client)
      → client_at id clients ≡ Some client → fold client_happened client more ≡ after
      → AreTold (set_value (is_id id) clients after) (happens_to id more stories)
  put_on id more client after at same =
      happens_on id more (λ before. after) (Some client) at
      (λ story is. all_happen more story
      ∙ ap (λ before. fold client_happened before more) (some_same (client_told story) client is)
      ∙ same)

  pub changed_on : (id : Id) (more : List ClientHappening) (change : Client → Client)
      → ((client : Client) → client_at id clients ≡ Some client
      → fold client_happened client more ≡ change client)
      → AreTold (client_changed id change clients) (happens_to id more stories)
  changed_on id more change step =
      happens_on id more change (client_at id clients) refl
      (λ story is. all_happen more story ∙ step (client_told story) (sym is))

  pub over_on : (id : Id) → AreTold (without_client id clients) (remove_entry (is_id id) stories)
  over_on id =
      ap (remove_entry (is_id id)) told ∙ sym (remove_read client_told (is_id id) stories)

  pub begin_on : (id : Id) (kind : RequestKind) (request : Message) (to : Addr)
      → AreTold (with_client id (client_for id kind request to) clients)
      (insert_entry is_id stories id
      record { id = id; kind = kind; request = request; to = to; life = [] })
  begin_on id kind request to =
      let story : ClientStory =
      record { id = id; kind = kind; request = request; to = to; life = [] } in
      (λ i. insert_entry is_id (told i) id
      record (client_for id kind request to) { last_rseq = sym (none_heard kind) i })
      ∙ sym (insert_read client_told is_id stories id story)

-- ---- what goes out

pub none_sent : (outs : List CallOut) → AreQuiet outs → requests_out outs ≡ []
none_sent [] quiet = refl
none_sent (out.Notice notice ∷ outs) quiet = none_sent outs quiet.1
none_sent (out.Command id command ∷ outs) quiet = absurd quiet.0
none_sent (out.Direct to bytes ∷ outs) quiet = none_sent outs quiet.1

pub both_sent : (outs more : List CallOut)
    → requests_out (outs ++ more) ≡ requests_out outs ++ requests_out more
both_sent outs more = filter_map-append request_in outs more

pub quiet_then : (outs more : List CallOut) → AreQuiet outs
    → requests_out (outs ++ more) ≡ requests_out more
quiet_then outs more quiet =
    both_sent outs more ∙ ap (λ sent. sent ++ requests_out more) (none_sent outs quiet)

abbrev pub sent_as : Id → Client → Outgoing
sent_as id client = record { id = id; request = client.request; to = client.to }

start_sent : (id : Id) (client : Client)
    → requests_out (start_command id client ∷ []) ≡ sent_as id client ∷ []
unfolding start_command
start_sent id client = refl

start_silent : (id : Id) (client : Client)
    → list_any is_response (start_command id client ∷ []) ≡ false
unfolding start_command
start_silent id client = refl

-- what a request that an event sends is for
pub record IsSentFor (event : Event) (sent_for : Message → RequestKind) (client : Client) : Type 0
  where
    pub fresh : client ≡ client_for event.id (sent_for client.request) client.request client.to

abbrev pub ChangesFor : Event → (Message → RequestKind) → ClientChange → Type 0
ChangesFor event sent_for Stays = Unit {0}
ChangesFor event sent_for Over = ⊥
ChangesFor event sent_for (Starts client) = IsSentFor event sent_for client

pub settled_on : (event : Event) (id : Id) (sent_for : Message → RequestKind)
    (change : ClientChange) (clients : Clients) (stories : ClientStories)
    → AreTold clients stories → ChangesFor event sent_for change
    → AreTold (settled event id change clients).0
    (begin_stories sent_for (settled event id change clients).1 stories)
settled_on event id sent_for Stays clients stories told is = told
settled_on event id sent_for Over clients stories told is = absurd is
settled_on event id sent_for (Starts client) clients stories told is =
    ap (λ one. with_client event.id one clients) is.fresh
    ∙ begin_on clients stories told event.id (sent_for client.request) client.request client.to
    ∙ (λ i. map (λ entry. (entry.0, client_told entry.1))
    (fold (begin_story sent_for) stories (sym (start_sent event.id client) i)))

-- none of it is a CANCEL
abbrev pub HasNoCancel : ClientChange → Type 0
HasNoCancel Stays = Unit {0}
HasNoCancel Over = Unit {0}
HasNoCancel (Starts client) = is_cancel client.request ≡ false

abbrev is_cancel_out : Outgoing → Bool
is_cancel_out sent = is_cancel sent.request

pub settled_no_cancel : (event : Event) (id : Id) (change : ClientChange) (clients : Clients)
    → HasNoCancel change
    → filter is_cancel_out (requests_out (settled event id change clients).1) ≡ []
settled_no_cancel event id Stays clients none = refl
settled_no_cancel event id Over clients none = refl
settled_no_cancel event id (Starts client) clients none =
    ap (filter is_cancel_out) (start_sent event.id client)
    ∙ ap (λ b. cond b (sent_as event.id client ∷ []) []) none

-- ---- the CANCEL that is sent last

abbrev pub freed_out : Client → Option Id → List Outgoing
freed_out invite freed =
    option_map_or (λ id. sent_as id (cancel_client id invite) ∷ []) freed []

pub freed_cancel : (invite : Client) (freed : Option Id)
    → filter is_cancel_out (freed_out invite freed) ≡ freed_out invite freed
freed_cancel invite None = refl
freed_cancel invite (Some id) = refl

abbrev pub beside : Client → Option Id → Clients × List CallOut → Clients × List CallOut
beside invite freed done = sent_beside (option_map (λ id. cancel_client id invite) freed) done

pub beside_sent : (invite : Client) (freed : Option Id) (done : Clients × List CallOut)
    → requests_out (beside invite freed done).1 ≡ requests_out done.1 ++ freed_out invite freed
beside_sent invite None done = sym (append-nil (requests_out done.1))
beside_sent invite (Some id) done =
    both_sent done.1 (start_command id (cancel_client id invite) ∷ [])
    ∙ ap (λ sent. requests_out done.1 ++ sent) (start_sent id (cancel_client id invite))

pub beside_silent : (invite : Client) (freed : Option Id) (done : Clients × List CallOut)
    → list_any is_response (beside invite freed done).1 ≡ list_any is_response done.1
beside_silent invite None done = refl
beside_silent invite (Some id) done =
    list_any-append is_response done.1 (start_command id (cancel_client id invite) ∷ [])
    ∙ ap (λ b. list_any is_response done.1 || b) (start_silent id (cancel_client id invite))
    ∙ or_false (list_any is_response done.1)

pub settled_silent : (event : Event) (id : Id) (change : ClientChange) (clients : Clients)
    → list_any is_response (settled event id change clients).1 ≡ false
settled_silent event id Stays clients = refl
settled_silent event id Over clients = refl
settled_silent event id (Starts client) clients = start_silent event.id client

pub beside_on : (sent_for : Message → RequestKind) (invite : Client)
    → sent_for (cancel_of invite.request) ≡ OutOfDialog
    → (freed : Option Id) (done : Clients × List CallOut) (stories : ClientStories)
    → AreTold done.0 stories
    → AreTold (beside invite freed done).0
    (fold (begin_story sent_for) stories (freed_out invite freed))
beside_on sent_for invite plain None done stories told = told
beside_on sent_for invite plain (Some id) done stories told =
    begin_on done.0 stories told id OutOfDialog (cancel_of invite.request) invite.to
    ∙ (λ i. map (λ entry. (entry.0, client_told entry.1)) (insert_entry is_id stories id record {
      id = id;
      kind = sym plain i;
      request = cancel_of invite.request;
      to = invite.to;
      life = [];
    }))

pub then_begin : (sent_for : Message → RequestKind) (sent more : List Outgoing)
    (stories : ClientStories)
    → fold (begin_story sent_for) stories (sent ++ more)
    ≡ fold (begin_story sent_for) (fold (begin_story sent_for) stories sent) more
then_begin sent_for sent more stories = fold-append (begin_story sent_for) stories sent more
