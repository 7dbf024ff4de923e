-- For all inputs of a call: if messages and commands came by a moment, each request that is held is
-- removed 64*T1 after it at the latest.
use Rattle.std.proofs.Common.{◌≡◌, ◌≤◌, ℕ, Bool, true, false, List, [], ◌∷◌, refl, sym, subst}
use Rattle.std.specs.Prelude.{Option, None, Some}
use Rattle.std.specs.List.{AllByRecursion}
use Rattle.std.specs.Option.{option_map_or}
use Rattle.keyed_machine.specs.Machine.{Timed}
use Rattle.sip_transactions.specs.declared.output.UpKind.{UpKind}
use Rattle.sip_transactions.specs.declared.output.UpKind.TheVariants as kind
use Rattle.sip_transactions.specs.declared.output.Up.{Up as AnUp}
use Rattle.sip_user.specs.Command.{call_of_command}
use Rattle.sip_user.specs.Notices.{refused}
use Rattle.sip_user.specs.declared.command.UserCommand.{UserCommand}
use Rattle.sip_user.specs.declared.command.UserCommand.TheVariants.{Invite, Plain, Request, Respond, Ack, Prack, Cancel, AbandonRequest, AbandonDialog}
use Rattle.sip_user.specs.declared.item.Item.{Item}
use Rattle.sip_user.specs.declared.item.Item.TheVariants.{Up, User}
use Rattle.sip_user.specs.declared.refusal.Refusal.{Refusal}
use Rattle.sip_served.specs.Rules.Ticks.{server_tick}
use Rattle.sip_served.specs.State.{ServedTaken}
use Rattle.sip_served.proofs.ResponseRules.{respond_same}
use Rattle.sip_clients.specs.Client.{Side}
use Rattle.sip_clients.specs.declared.event.Event.{Event}
use Rattle.sip_calls.specs.declared.call.Call.{Call}
use Rattle.sip_calls.specs.declared.calls.Calls.{Calls}
use Rattle.sip_calls.specs.Call.{CallItem, call_refusal, call_step, call_tick, event_of, item_of_call, kept_call, made_tag, new_call, received, used_command}
use Rattle.sip_calls.specs.HeldRequests.{requests_held}
use Rattle.sip_calls.specs.Histories.{call_from}
use Rattle.sip_calls.specs.Provisionals.{side_held}
use Rattle.sip_calls.specs.Sides.{by_server, side_of}
use Rattle.sip_calls.proofs.HeldRequests.{kept_requests}
use Rattle.sip_calls.proofs.KeptSides.{kept_side}
use Rattle.sip_agent_laws.specs.Calls.Rest.{is_from_outside, is_message, item_is_outside}
use Rattle.sip_agent_laws.proofs.calls.ServedBounds as served
use Rattle.sip_agent_laws.proofs.calls.ClientBounds as clients

-- all ends are 64*T1 after the moment at the latest
pub record AreSet (m : ℕ) (state : Option Call) : Type 0 where
  pub requests : AllByRecursion (served.IsSet m) (requests_held state)
  pub clients : clients.AreSet m (side_held state).clients

pub none_set : (m : ℕ) → AreSet m None
none_set m = record { requests = tt; clients = tt }

module _ (m : ℕ) where
  -- the same of a call that may hold nothing
  record IsSet (call : Call) : Type 0 where
    pub requests : AllByRecursion (served.IsSet m) (call.served).requests
    pub clients : clients.AreSet m call.clients

  kept_set : (call : Call) → IsSet call → AreSet m (kept_call call)
  kept_set call set = record {
    requests = subst (AllByRecursion (served.IsSet m)) (sym (kept_requests call)) set.requests;
    clients = subst (λ (side : Side). clients.AreSet m side.clients) (sym (kept_side call))
        set.clients;
  }

  new_set : (calls : Calls) → IsSet (new_call calls.local)
  new_set calls = record { requests = tt; clients = tt }

  -- ---- one input

  received_set : (call : Call) (event : Event) (up : AnUp) (k : UpKind)
      → (is_message k ≡ true → event.moment ≤ m) → IsSet call
      → IsSet (received call event up k).0
  received_set call event up (kind.Request request reply_to) by set = record {
    requests = served.kind_set m call.served (made_tag event) up (kind.Request request reply_to)
        event.moment by set.requests;
    clients = set.clients;
  }
  received_set call event up (kind.Ack ack) by set = record {
    requests = served.kind_set m call.served (made_tag event) up (kind.Ack ack) event.moment by
        set.requests;
    clients = set.clients;
  }
  received_set call event up (kind.Response response) by set = record {
    requests = set.requests;
    clients = clients.response_set m event (by refl) up.id up.call_id response (side_of call)
        set.clients;
  }
  received_set call event up kind.Timeout by set = record {
    requests = set.requests;
    clients = clients.lost_set m up.id true (side_of call) set.clients;
  }
  received_set call event up kind.Failed by set = record {
    requests = set.requests;
    clients = clients.lost_set m up.id false (side_of call) set.clients;
  }

  used_set : (call : Call) (event : Event) (command : UserCommand) → event.moment ≤ m
      → IsSet call → IsSet (used_command call event command).0
  used_set call event (Invite invite) by set = record {
    requests = set.requests;
    clients = clients.invite_set m event invite call.clients set.clients;
  }
  used_set call event (Plain plain) by set = record {
    requests = set.requests;
    clients = clients.plain_set m event plain call.clients set.clients;
  }
  used_set call event (Request request) by set = record {
    requests = set.requests;
    clients = clients.request_set m event request (side_of call) set.clients;
  }
  used_set call event (Respond respond) by set = record {
    requests = subst (λ (taken : ServedTaken). served.AreSet m taken.0)
        (sym (respond_same call.served event.id respond event.moment))
        (served.respond_set m call.served event.id respond event.moment by set.requests);
    clients = set.clients;
  }
  used_set call event (Ack ack) by set = record {
    requests = set.requests;
    clients = clients.ack_set m event ack (side_of call) set.clients;
  }
  used_set call event (Prack prack) by set = record {
    requests = set.requests;
    clients = clients.prack_set m event prack (side_of call) set.clients;
  }
  used_set call event (Cancel cancel) by set = record {
    requests = set.requests;
    clients = clients.cancel_set m event cancel (side_of call) set.clients;
  }
  used_set call event (AbandonRequest abandon) by set = record {
    requests = set.requests;
    clients = clients.abandon_set m event abandon (side_of call) set.clients;
  }
  used_set call event (AbandonDialog abandon) by set = record {
    requests = set.requests;
    clients = clients.dialog_set m event abandon (side_of call) set.clients;
  }

  item_set : (held : Bool) (call : Call) (event : Event) (item : Item)
      → (item_is_outside item ≡ true → event.moment ≤ m) → IsSet call
      → IsSet (item_of_call held call event item).0
  item_set held call event (Up up) by set = received_set call event up up.kind by set
  item_set held call event (User command) by set = by_refusal (call_refusal held command)
    where
      by_refusal : (o : Option Refusal) → IsSet (option_map_or
          (λ refusal. (call, refused event.id (call_of_command command) refusal)) o
          (used_command call event command)).0
      by_refusal None = used_set call event command (by refl) set
      by_refusal (Some refusal) = set

  tick_set : (call : Call) (now : ℕ) → IsSet call → IsSet (call_tick call now).0
  tick_set call now set =
      let first = by_server call (server_tick call.served now) in
      record {
        requests = served.tick_set m call.served now set.requests;
        clients = clients.tick_set m now (side_of first.0) set.clients;
      }

  pub step_set : (calls : Calls) (state : Option Call) (input : Option CallItem) (now : ℕ)
      → (is_from_outside input ≡ true → now ≤ m) → AreSet m state
      → AreSet m (call_step calls state input now).0
  step_set calls None None now by set = none_set m
  step_set calls None (Some (id, item)) now by set =
      kept_set (item_of_call false (new_call calls.local) (event_of calls id now) item).0
      (item_set false (new_call calls.local) (event_of calls id now) item by (new_set calls))
  step_set calls (Some call) None now by set =
      kept_set (call_tick call now).0
      (tick_set call now record { requests = set.requests; clients = set.clients })
  step_set calls (Some call) (Some (id, item)) now by set =
      kept_set (item_of_call true call (event_of calls id now) item).0
      (item_set true call (event_of calls id now) item by
      record { requests = set.requests; clients = set.clients })

  pub from_set : (calls : Calls) (inputs : List (Timed CallItem)) (state : Option Call)
      → AllByRecursion (λ (timed : Timed CallItem). is_from_outside timed.input ≡ true
      → timed.moment ≤ m) inputs
      → AreSet m state → AreSet m (call_from calls state inputs)
  from_set calls [] state by set = set
  from_set calls (input ∷ inputs) state by set =
      from_set calls inputs (call_step calls state input.input input.moment).0 by.1
      (step_set calls state input.input input.moment by.0 set)
