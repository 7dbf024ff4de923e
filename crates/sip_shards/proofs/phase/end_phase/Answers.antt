-- `end_phase` gives the shards in order, and sorts the outputs.
use Rattle.keyed_machine.specs.Groups.{groups}
use Rattle.sip_shards.proofs.phase.end_phase.Goals as goal

pub returns : goal.returns
returns g c = record {
  gathered = c.in_ok-gather.field-0.items;
  joined_ticks = groups c.in_ok-shards.replies.ticks.items;
  joined_items = groups c.in_ok-shards.replies.items.items;
  is_gathered = c.in_ok-gather.ensures;
  apart = c.in_ok-shards.ensures;
  sorts_ticks = c.in_order.ensures.ticks;
  sorts_items = c.in_order.ensures.items;
}
