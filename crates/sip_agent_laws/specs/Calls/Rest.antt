-- When a call is at rest: nothing of it is due at any moment (RFC 3261, section 13.3.1.4; RFC 3262,
-- section 3).
use Rattle.std.specs.Prelude.{◌≡◌, ◌≤◌, ℕ, ◌+◌, ◌*◌, Bool, true, false, ◌&&◌, is_none, nat_le, List, ◌++◌, Option, None, Some}
use Rattle.std.specs.List.{AllByRecursion, list_any}
use Rattle.keyed_machine.specs.Machine.{Timed}
use Rattle.sip_timers.specs.declared.estimate.TheConstants.{T1}
use Rattle.sip_message.specs.declared.id.Id.{Id}
use Rattle.sip_transactions.specs.declared.output.UpKind.{UpKind}
use Rattle.sip_transactions.specs.declared.output.UpKind.TheVariants as kind
use Rattle.sip_user.specs.declared.item.Item.{Item}
use Rattle.sip_user.specs.declared.item.Item.TheVariants.{Up, User}
use Rattle.sip_clients.specs.declared.client.Client.{Client}
use Rattle.sip_calls.specs.declared.call.Call.{Call}
use Rattle.sip_calls.specs.declared.calls.Calls.{Calls}
use Rattle.sip_calls.specs.Call.{CallItem, call_due}
use Rattle.sip_calls.specs.Histories.{call_from}
use Rattle.sip_agent_laws.specs.Calls.Waiting.{NothingWaits, awaits_report}

-- ---- at rest

-- a call that is held: nothing of it is due, and no request in it has a final response
pub record Rests (call : Call) : Type 0 where
  pub due : call_due call ≡ None
  pub requests : AllByRecursion (λ held. held.removal ≡ None) (call.served).requests
  pub clients : AllByRecursion (λ (entry : Id × Client). entry.1.removal ≡ None) call.clients

abbrev pub IsAtRest : Option Call → Type 0
IsAtRest None = Unit {0}
IsAtRest (Some call) = Rests call

-- ---- inputs

-- a transaction hands up a message, or that it timed out or couldn't send
abbrev pub is_message : UpKind → Bool
is_message (kind.Request request reply_to) = true
is_message (kind.Ack ack) = true
is_message (kind.Response response) = true
is_message kind.Timeout = false
is_message kind.Failed = false

abbrev pub item_is_outside : Item → Bool
item_is_outside (Up up) = is_message up.kind
item_is_outside (User command) = true

-- a message or a command, and no tick or report of a transaction
abbrev pub is_from_outside : Option CallItem → Bool
is_from_outside None = false
is_from_outside (Some (id, item)) = item_is_outside item

-- a tick at this moment or later
abbrev pub is_tick_from : ℕ → Timed CallItem → Bool
is_tick_from moment timed = is_none timed.input && nat_le moment timed.moment

-- ---- the laws

-- The messages and commands came by the moment m; then a tick came at m + 64*T1 or later, and
-- maybe other ticks and reports.
pub record IsOver (m : ℕ) (before after : List (Timed CallItem)) : Type 0 where
  pub by : AllByRecursion (λ (timed : Timed CallItem). is_from_outside timed.input ≡ true
      → timed.moment ≤ m) before
  pub none : AllByRecursion (λ (timed : Timed CallItem). is_from_outside timed.input ≡ false) after
  pub ticked : list_any (is_tick_from (m + 64 * T1)) after ≡ true

-- then the call is at rest
abbrev pub AtRestAfterAll : Type 0
AtRestAfterAll = (calls : Calls) (m : ℕ) (before after : List (Timed CallItem))
    → IsOver m before after → IsAtRest (call_from calls None (before ++ after))

-- a call at rest in which nothing waits, for the user or for a transaction, isn't held
abbrev pub NothingLeft : Type 0
NothingLeft = (call : Option Call) → IsAtRest call → NothingWaits call
    → awaits_report call ≡ false → call ≡ None
