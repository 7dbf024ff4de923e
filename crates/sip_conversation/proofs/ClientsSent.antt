-- Each client request that a call holds went out under its id.
use Rattle.std.proofs.Common.{◌≡◌, ⊎_elim, ℕ, Bool, true, false, cond, List, [], ◌∷◌, map, refl, sym, ap, subst}
use Rattle.std.specs.Prelude.{Contains, Option, None, Some, fold}
use Rattle.std.specs.List.{AllByRecursion, cons_option, list_any}
use Rattle.std.specs.Map.{lookup, remove_entry, set_value}
use Rattle.std.proofs.lemmas.List.Elements.{filter_map-append}
use Rattle.sip_message.specs.declared.id.Id.{Id}
use Rattle.sip_message.specs.declared.message.Message.{Message}
use Rattle.keyed_machine.specs.Machine.{Timed, outputs_from}
use Rattle.sip_transactions.specs.declared.input.Command.TheVariants as order
use Rattle.sip_transactions.specs.declared.output.UpKind.{UpKind}
use Rattle.sip_transactions.specs.declared.output.UpKind.TheVariants as kind
use Rattle.sip_transactions.specs.declared.output.Up.{Up as AnUp}
use Rattle.sip_held_dialogs.specs.Dialogs.{Dialogs}
use Rattle.sip_held_dialogs.specs.Ids.{is_id}
use Rattle.sip_user.specs.declared.command.UserCommand.{UserCommand}
use Rattle.sip_user.specs.declared.command.UserCommand.TheVariants as user
use Rattle.sip_user.specs.declared.item.CallOut.{CallOut}
use Rattle.sip_user.specs.declared.item.CallOut.TheVariants as out
use Rattle.sip_user.specs.declared.item.Item.TheVariants.{Up, User}
use Rattle.sip_held_dialogs.proofs.Each.{filtered}
use Rattle.sip_clients.specs.Client.{Side, client_at}
use Rattle.sip_clients.specs.ClientLife.{ClientHappening, Outgoing, SendsAck, acks_out, request_in, requests_out}
use Rattle.sip_clients.specs.ClientStory.{ClientStory, client_told, lives_on}
use Rattle.sip_clients.specs.ClientTelling.{ClientStories, begin_stories, begin_story, happens_to, reply_told, response_told}
use Rattle.sip_clients.specs.Clients.{status_of}
use Rattle.sip_clients.specs.Commands.{name_in}
use Rattle.sip_clients.specs.RefusedCommands.{is_refusal}
use Rattle.sip_clients.specs.ReceivedResponse.{is_last}
use Rattle.sip_clients.specs.declared.client.Client.{Client}
use Rattle.sip_clients.specs.declared.client.RequestKind.{RequestKind}
use Rattle.sip_clients.specs.declared.event.Event.{Event}
use Rattle.sip_calls.specs.Call.{CallItem, call_machine, call_step, event_of}
use Rattle.sip_calls.specs.ClientHistories.{client_stories, told_by_command, told_by_input, told_by_kind, told_from, told_next}
use Rattle.sip_calls.specs.Histories.{call_from}
use Rattle.sip_calls.specs.Provisionals.{side_held}
use Rattle.sip_calls.specs.declared.call.Call.{Call}
use Rattle.sip_calls.specs.declared.calls.Calls.{Calls}
use Rattle.sip_calls.proofs.CallStarts.{id_exact}
use Rattle.sip_calls.proofs.ClientHistories.{holds_client_stories}
use Rattle.sip_conversation.proofs.Among.{all_of, first_or_later, among_first, among_later, none_among}
use Rattle.sip_conversation.proofs.Branches.{either, found_or}
use Rattle.sip_conversation.proofs.OneStart.{start_id, started_with}
use Rattle.sip_conversation.proofs.Rounds.{all_of_parts}

-- ---- entries by their ids

module _ {X : Type 0} (P : Id → X → Type 0) where
  abbrev Every : List (Id × X) → Type 0
  Every entries = AllByRecursion (λ (entry : Id × X). P entry.0 entry.1) entries

  put : (id : Id) (x : X) → P id x → (es : List (Id × X)) → Every es
      → Every (set_value (is_id id) es x)
  put id x new [] every = tt
  put id x new (e ∷ es) every = by_key (is_id id e.0) refl (put id x new es every.1)
    where
      by_key : (b : Bool) → is_id id e.0 ≡ b → Every (set_value (is_id id) es x)
          → Every (cond b ((e.0, x) ∷ es) (e ∷ set_value (is_id id) es x))
      by_key true at rest = (subst (λ k. P k x) (id_exact id e.0 at) new, every.1)
      by_key false at rest = (every.0, rest)

  found_at : (id : Id) (es : List (Id × X)) → Every es → (x : X)
      → lookup (is_id id) es ≡ Some x → P id x
  found_at id [] every x is = absurd cc
  found_at id (e ∷ es) every x is =
      by_key (is_id id e.0) refl is (λ later. found_at id es every.1 x later)
    where
      by_key : (b : Bool) → is_id id e.0 ≡ b
          → cond b (Some e.1) (lookup (is_id id) es) ≡ Some x
          → (lookup (is_id id) es ≡ Some x → P id x) → P id x
      by_key true at is rest =
          let same : e.1 ≡ x = cc in
          subst (P id) same (subst (λ k. P k e.1) (sym (id_exact id e.0 at)) every.0)
      by_key false at is rest = rest is

  removed : (id : Id) (es : List (Id × X)) → Every es → Every (remove_entry (is_id id) es)
  removed id [] every = tt
  removed id (e ∷ es) every = by_key (is_id id e.0) (removed id es every.1)
    where
      by_key : (b : Bool) → Every (remove_entry (is_id id) es)
          → Every (cond b es (e ∷ remove_entry (is_id id) es))
      by_key true rest = every.1
      by_key false rest = (every.0, rest)

-- ---- the stories

module _ (Went : Outgoing → Type 0) where
  -- it went out under its id
  abbrev StoryWent : Id → ClientStory → Type 0
  StoryWent id story = (story.id ≡ id)
      × Went record { id = story.id; request = story.request; to = story.to }

  abbrev AllWent : ClientStories → Type 0
  AllWent = Every StoryWent

  abbrev OutsWent : List CallOut → Type 0
  OutsWent outs = AllByRecursion Went (requests_out outs)

  one_begins : (sent_for : Message → RequestKind) (sent : Outgoing) → Went sent
      → (stories : ClientStories) → AllWent stories → AllWent (begin_story sent_for stories sent)
  one_begins sent_for sent went [] all = ((refl, went), tt)
  one_begins sent_for sent went (e ∷ es) all =
      by_key (is_id sent.id e.0) refl (one_begins sent_for sent went es all.1)
    where
      story : ClientStory
      story = record {
        id = sent.id;
        kind = sent_for sent.request;
        request = sent.request;
        to = sent.to;
        life = [];
      }

      by_key : (b : Bool) → is_id sent.id e.0 ≡ b → AllWent (begin_story sent_for es sent)
          → AllWent (cond b ((e.0, story) ∷ es) (e ∷ begin_story sent_for es sent))
      by_key true at rest = ((id_exact sent.id e.0 at, went), all.1)
      by_key false at rest = (all.0, rest)

  begins : (sent_for : Message → RequestKind) (sents : List Outgoing) (stories : ClientStories)
      → AllByRecursion Went sents → AllWent stories
      → AllWent (fold (begin_story sent_for) stories sents)
  begins sent_for [] stories went all = all
  begins sent_for (sent ∷ sents) stories went all =
      begins sent_for sents (begin_story sent_for stories sent) went.1
      (one_begins sent_for sent went.0 stories all)

  begun_went : (sent_for : Message → RequestKind) (outs : List CallOut) (stories : ClientStories)
      → OutsWent outs → AllWent stories → AllWent (begin_stories sent_for outs stories)
  begun_went sent_for outs stories went all = begins sent_for (requests_out outs) stories went all

  happened : (id : Id) (more : List ClientHappening) (stories : ClientStories)
      → AllWent stories → AllWent (happens_to id more stories)
  happened id more stories all =
      found_or AllWent (λ story. set_value (is_id id) stories (lives_on more story))
      (lookup (is_id id) stories) stories
      (λ story is. put StoryWent id (lives_on more story)
      (found_at StoryWent id stories all story is) stories all)
      (λ none. all)

  module _ (outs : List CallOut) (went : OutsWent outs) where
    reply_went : (event : Event) (id : Id) (status : ℕ) (client : Client) (response : Message)
        (dialogs : Dialogs) (stories : ClientStories) → AllWent stories
        → AllWent (reply_told event id status client response dialogs outs stories)
    reply_went event id status client response dialogs stories all =
        either AllWent (is_last client.kind status) (remove_entry (is_id id) stories) _
        (λ last. removed StoryWent id stories all)
        (λ more. begun_went _ outs _ went (happened id _ stories all))

    response_went : (event : Event) (id : Id) (response : Message) (side : Side)
        (stories : ClientStories) → AllWent stories
        → AllWent (response_told event id response side outs stories)
    response_went event id response side stories all =
        found_or AllWent _ (client_at id side.clients) stories
        (λ client is. found_or AllWent
        (λ status. reply_told event id status client response side.dialogs outs stories)
        (status_of response.start) stories
        (λ status is. reply_went event id status client response side.dialogs stories all)
        (λ none. all))
        (λ none. all)

    kind_went : (side : Side) (event : Event) (up : AnUp) (k : UpKind) (stories : ClientStories)
        → AllWent stories → AllWent (told_by_kind side event up k outs stories)
    kind_went side event up (kind.Request request reply_to) stories all = all
    kind_went side event up (kind.Ack ack) stories all = all
    kind_went side event up (kind.Response response) stories all =
        response_went event up.id response side stories all
    kind_went side event up kind.Timeout stories all = removed StoryWent up.id stories all
    kind_went side event up kind.Failed stories all = removed StoryWent up.id stories all

    command_went : (side : Side) (event : Event) (command : UserCommand)
        (stories : ClientStories) → AllWent stories
        → AllWent (told_by_command side event command outs stories)
    command_went side event (user.Invite invite) stories all =
        begun_went _ outs stories went all
    command_went side event (user.Plain plain) stories all = begun_went _ outs stories went all
    command_went side event (user.Request request) stories all =
        begun_went _ outs stories went all
    command_went side event (user.Respond respond) stories all = all
    command_went side event (user.Ack ack) stories all =
        let name = name_in ack.local_tag ack.remote_tag in
        let acks = map (SendsAck name) (acks_out outs) in
        found_or AllWent (λ invite. happens_to invite acks stories) _ stories
        (λ invite is. happened invite acks stories all) (λ none. all)
    command_went side event (user.Prack prack) stories all =
        begun_went _ outs stories went all
    command_went side event (user.Cancel cancel) stories all =
        either AllWent (list_any is_refusal outs) stories _ (λ refused. all)
        (λ taken. begun_went _ outs _ went (happened cancel.id _ stories all))
    command_went side event (user.AbandonRequest abandon) stories all =
        either AllWent (list_any is_refusal outs) stories _ (λ refused. all)
        (λ taken. removed StoryWent abandon.id stories all)
    command_went side event (user.AbandonDialog abandon) stories all = all

    input_went : (calls : Calls) (side : Side) (input : Option CallItem) (now : ℕ)
        (stories : ClientStories) → AllWent stories
        → AllWent (told_by_input calls side input now outs stories)
    input_went calls side None now stories all =
        filtered (λ (entry : Id × ClientStory). StoryWent entry.0 entry.1) _ stories all
    input_went calls side (Some (id, Up up)) now stories all =
        kind_went side (event_of calls id now) up up.kind stories all
    input_went calls side (Some (id, User command)) now stories all =
        command_went side (event_of calls id now) command stories all

  from_went : (calls : Calls) (key : List ℕ) (state : Option Call) (stories : ClientStories)
      (inputs : List (Timed CallItem))
      → OutsWent (outputs_from (call_machine calls) key state inputs) → AllWent stories
      → AllWent (told_from calls state stories inputs)
  from_went calls key state stories [] went all = all
  from_went calls key state stories (timed ∷ inputs) went all =
      let step = call_step calls state timed.input timed.moment in
      let later = outputs_from (call_machine calls) key step.0 inputs in
      let parts = all_of_parts Went (requests_out step.1) (requests_out later)
      (subst (AllByRecursion Went) (filter_map-append request_in step.1 later) went) in
      from_went calls key step.0 (told_next calls state stories timed) inputs parts.1
      (input_went step.1 parts.0 calls (side_held state) timed.input timed.moment stories all)

  abbrev ClientWent : Id → Client → Type 0
  ClientWent id client = (client.id ≡ id)
      × Went record { id = client.id; request = client.request; to = client.to }

  clients_went : (stories : ClientStories) → AllWent stories
      → Every ClientWent (map (λ entry. (entry.0, client_told entry.1)) stories)
  clients_went [] all = tt
  clients_went (entry ∷ stories) all = (all.0, clients_went stories all.1)

-- ---- the output with which it went out

-- an output starts a transaction with it
record IsStartOf (one : CallOut) (id : Id) (request : Message) : Type 0 where
  pub starts : start_id one ≡ Some id
  pub sends : (otherwise : Message) → started_with otherwise one ≡ request

start_so : (one : CallOut) (sent : Outgoing) → request_in one ≡ Some sent
    → IsStartOf one sent.id sent.request
start_so (out.Notice notice) sent is = absurd cc
start_so (out.Direct to bytes) sent is = absurd cc
start_so (out.Command id (order.Answer key message)) sent is = absurd cc
start_so (out.Command id (order.Abandon key)) sent is = absurd cc
start_so (out.Command id (order.Start key of request to)) sent is =
    let made : Outgoing = record { id = id; request = request; to = to } in
    let same : made ≡ sent = cc in
    record {
      starts = ap (λ (s : Outgoing). Some s.id) same;
      sends = λ otherwise. ap (λ (s : Outgoing). s.request) same;
    }

pub record WentOut (outs : List CallOut) (id : Id) (request : Message) : Type 0 where
  pub one : CallOut
  pub among : Contains outs one
  pub starts : start_id one ≡ Some id
  pub sends : (otherwise : Message) → started_with otherwise one ≡ request

later_out : (first : CallOut) (outs : List CallOut) (id : Id) (request : Message)
    → WentOut outs id request → WentOut (first ∷ outs) id request
later_out first outs id request went = record {
  one = went.one;
  among = among_later first outs went.one went.among;
  starts = went.starts;
  sends = went.sends;
}

first_out : (first : CallOut) (outs : List CallOut) (id : Id) (request : Message)
    → IsStartOf first id request → WentOut (first ∷ outs) id request
first_out first outs id request start = record {
  one = first;
  among = among_first first outs;
  starts = start.starts;
  sends = start.sends;
}

out_of : (outs : List CallOut) (sent : Outgoing) → Contains (requests_out outs) sent
    → WentOut outs sent.id sent.request
out_of [] sent among = absurd (none_among sent among)
out_of (first ∷ outs) sent among =
    by_first (request_in first) refl among (λ later. out_of outs sent later)
  where
    by_first : (o : Option Outgoing) → request_in first ≡ o
        → Contains (cons_option o (requests_out outs)) sent
        → (Contains (requests_out outs) sent → WentOut outs sent.id sent.request)
        → WentOut (first ∷ outs) sent.id sent.request
    by_first None is among rest = later_out first outs sent.id sent.request (rest among)
    by_first (Some made) is among rest =
        ⊎_elim
        (λ same. first_out first outs sent.id sent.request
        (subst (λ (s : Outgoing). IsStartOf first s.id s.request) same (start_so first made is)))
        (λ later. later_out first outs sent.id sent.request (rest later))
        (first_or_later made (requests_out outs) sent among)

-- a held client request has the id under which it is held, and went out under it
pub held_went : (calls : Calls) (key : List ℕ) (inputs : List (Timed CallItem)) (id : Id)
    (client : Client) → client_at id (side_held (call_from calls None inputs)).clients ≡ Some client
    → WentOut (outputs_from (call_machine calls) key None inputs) id client.request
held_went calls key inputs id client at =
    let outs = outputs_from (call_machine calls) key None inputs in
    let Went : Outgoing → Type 0 = Contains (requests_out outs) in
    let all = from_went Went calls key None [] inputs
    (all_of Went (requests_out outs) (λ sent among. among)) tt in
    let so = found_at (ClientWent Went) id _
    (subst (Every (ClientWent Went)) (sym (holds_client_stories calls inputs))
    (clients_went Went (client_stories calls inputs) all)) client at in
    subst (λ i. WentOut outs i client.request) so.0
    (out_of outs record { id = client.id; request = client.request; to = client.to } so.1)
