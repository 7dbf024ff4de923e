-- What a shard of calls holds, and what its items are to one call.
use Rattle.std.specs.Prelude.{ℕ, List}
use Rattle.std.specs.Ordering.{nat_cmp}
use Rattle.std.specs.Cmp.Lexicographic.{slice_cmp}
use Rattle.std.specs.declared.cmp.Ordering.{Ordering}
use Rattle.keyed_machine.specs.Machine.{Timed, given_at}
use Rattle.sip_message.specs.declared.id.Id.{Id}
use Rattle.keyed_machine.specs.Table.{Held}
use Rattle.sip_user.specs.declared.item.Item.{Item}
use Rattle.sip_calls.specs.Call.{CallItem}
use Rattle.sip_calls.specs.declared.call.Call.{Call}
use Rattle.sip_calls.specs.declared.calls.Calls.{Calls}

-- what all calls share, and the held calls by Call-ID (`None` if the shard is broken)
pub record HeldCalls : Type 0 where
  pub calls : Calls
  pub held : Held (List ℕ) Call

-- Call-IDs are compared byte by byte
abbrev pub call_cmp : List ℕ → List ℕ → Ordering
call_cmp = slice_cmp nat_cmp

-- an item, as an input of one call
abbrev pub item_input : Id → Item → ℕ → Timed CallItem
item_input id item now = given_at now (id, item)
