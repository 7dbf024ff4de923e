-- `lead` takes a round through its three phases on workers, and gives its answer.
use Rattle.std.proofs.Common.{◌≡◌, ◌<◌, true, false, ℕ, List, ◌++◌, length, map, refl, sym, subst, arith}
use Rattle.std.specs.List.{AllByRecursion}
use Rattle.sip_calls.specs.Call.{call_machine}
use Rattle.sip_calls.specs.CallShard.{call_cmp}
use Rattle.sip_message.specs.Key.{branch_in, key_cmp}
use Rattle.keyed_machine.specs.Groups.{groups}
use Rattle.sip_transactions.specs.Machine.{transaction_machine}
use Rattle.sip_round.specs.AgentState.{ShardTables, calls_held, lives_held}
use Rattle.sip_round.specs.Arrivals.{arrivals_from}
use Rattle.sip_shards.specs.Parts.{owner_of}
use Rattle.sip_round.specs.Phases.{call_items, command_items, transaction_items}
use Rattle.sip_round.specs.Steps.Arrived.{IsArrived}
use Rattle.sip_round.specs.Steps.Led.{Deals}
use Rattle.sip_shards.proofs.Climbing.{climbs_in_order}
use Rattle.sip_shards.proofs.Numbered.{parts_counted}
use Rattle.sip_round.proofs.ByEvent.{items_climb}
use Rattle.sip_round.proofs.HeldInShards.{each}
use Rattle.sip_round.proofs.InForm.{given_together}
use Rattle.sip_round.proofs.Leading.{dealt, deals}
use Rattle.sip_round.proofs.Numbered.{calls_climb, commands_climb}
use Rattle.sip_round.proofs.lead.lead.Goals as goal

pub invariant_of-phase : goal.invariant_of-phase
invariant_of-phase g c =
    let shard_of = g.C.Cut.shard_of c.args.cut.now in
    let begun = c.args.begun in
    let arrivals = arrivals_from begun.calls.local begun.number 1 c.args.round.now.events in
    let lives = c.into_parts-lives.result.0.items in
    let here = subst (λ (held : ShardTables).
    IsArrived (owner_of shard_of branch_in (length held.transactions))
    (length held.transactions) arrivals (map (λ part. part.items) begun.parts.items)
    begun.waiting.items) (sym c.into_parts-lives.ensures.shards) c.requires.arrived in
    record {
      in_bounds = c.requires.moment;
      a_part_each = parts_counted (λ part. part.items) (owner_of shard_of branch_in (length lives))
          (length lives) (transaction_items arrivals) begun.parts.items here.parts_are;
    }

pub deal_phase-requires-clause-alike : goal.deal_phase-requires-clause-alike
deal_phase-requires-clause-alike g c κs within =
    each _ (λ shard. refl) c.into_parts-lives.result.0.items

pub deal_phase-requires-2-clause-alike : goal.deal_phase-requires-2-clause-alike
deal_phase-requires-2-clause-alike g c κs within =
    subst (λ (held : ShardTables). AllByRecursion (λ shard. shard.calls ≡ c.args.begun.calls)
    held.calls) (sym c.into_parts-lives.ensures.shards) c.requires.alike

pub returns-clause-alike : goal.returns-clause-alike
returns-clause-alike g c =
    subst (λ (held : ShardTables). AllByRecursion (λ shard. shard.calls ≡ c.args.begun.calls)
    held.calls) (sym c.of.ensures) c.in_ok-held.ensures.alike

pub returns-clause-deals : goal.returns-clause-deals
returns-clause-deals g c =
    let shard_of = g.C.Cut.shard_of c.args.cut.now in
    let within : (name : List ℕ) (n : ℕ) → 0 < n → shard_of name n < n =
    λ name n some. g.met.C.Cut.within c.args.cut.now name n some in
    let begun = c.args.begun in
    let now = c.args.round.now.moment in
    let arrivals = arrivals_from begun.calls.local begun.number 1 c.args.round.now.events in
    let old : ShardTables = record {
      transactions = c.into_parts-lives.result.0.items;
      calls = c.into_parts-lives.result.1.items;
    } in
    let new : ShardTables = record {
      transactions = c.in_ok-lives-2.lives.items;
      calls = c.in_ok-held.held.items;
    } in
    let are = c.into_parts-lives.ensures.are in
    let same = c.into_parts-lives.ensures.shards in
    let parts = map (λ part. part.items) begun.parts.items in
    let here = subst (λ (held : ShardTables).
    IsArrived (owner_of shard_of branch_in (length held.transactions))
    (length held.transactions) arrivals parts begun.waiting.items) (sym same)
    c.requires.arrived in
    let mid = c.in_ok-lives.lives.items in
    let mid_held = map (λ shard. shard.held) mid in
    let items = c.in_ok-outputs.items.items in
    let commands = c.in_ok-commands.commands.items in
    let first = dealt shard_of within now key_cmp transaction_machine branch_in
    (λ shard. shard.held) old.transactions mid (length old.transactions) true
    (transaction_items arrivals) parts (groups c.in_ok-lives.said.ticks.items)
    (groups c.in_ok-lives.said.items.items) are.0 refl here.parts_are
    (climbs_in_order 1 _ (items_climb 1 arrivals here.placed)) c.in_ok-lives.ensures.dealt in
    let second = dealt shard_of within now call_cmp (call_machine begun.calls)
    (λ call_id. call_id) (λ shard. shard.held) old.calls new.calls c.len.result true
    (call_items 0 items) (map (λ part. part.items) c.in_ok-parts.parts.items)
    (groups c.in_ok-held.said.ticks.items) (groups c.in_ok-held.said.items.items)
    (omega (arith, are.0, are.2))
    (omega (arith, c.len.ensures, c.into_parts-lives.result.1.ok)) c.in_ok-parts.ensures.parts
    (climbs_in_order 0 _ (calls_climb 0 items)) c.in_ok-held.ensures.dealt in
    let third = dealt shard_of within now key_cmp transaction_machine branch_in
    (λ shard. shard.held) mid new.transactions c.len-2.result false
    (command_items 0 commands) (map (λ part. part.items) c.in_ok-parts-2.parts.items)
    (groups c.in_ok-lives-2.said.ticks.items) (groups c.in_ok-lives-2.said.items.items)
    (omega (arith, c.in_ok-lives.ensures.count, are.0))
    (omega (arith, c.len-2.ensures, c.in_ok-lives.lives.ok)) c.in_ok-parts-2.ensures.parts
    (climbs_in_order 0 _ (commands_climb 0 commands)) c.in_ok-lives-2.ensures.dealt in
    let led_first = c.in_ok-outputs.ensures.2
    (owner_of shard_of branch_in (length (lives_held old))) (lives_held old) mid_held now
    arrivals here.placed here.waiting_are first in
    let reported = c.in_ok-commands.ensures items c.in_ok-parts.ensures.places in
    let led_second = reported.2 begun.calls
    (owner_of shard_of (λ call_id. call_id) (length (calls_held old))) (calls_held old)
    (calls_held new) now second in
    let led_third = c.in_ok-end_third.ensures.2 (owner_of shard_of branch_in (length mid_held))
    mid_held (lives_held new) now commands third in
    let one = c.in_ok-outputs.ensures.0 in
    let two = reported.0 in
    let three = c.in_ok-end_third.ensures.0 in
    let outputs = (one ++ two) ++ three in
    let whole = deals shard_of begun.number c.args.round.now old new mid_held items commands one
    two three led_third begun.calls led_first led_second in (
      outputs,
      given_together g.F.Form.form one two three c.in_ok-outputs.outputs.items
          c.end_second.new.outputs.items c.end_third.new.outputs.items c.in_ok-outputs.ensures.1
          reported.1 c.in_ok-end_third.ensures.1,
      subst (λ old. Deals begun.calls shard_of begun.number c.args.round.now old c.of.result
          outputs) same
          (subst (λ new. Deals begun.calls shard_of begun.number c.args.round.now old new outputs)
          (sym c.of.ensures) whole),
    )
