-- The loop of `stream`: the rounds so far were run, and their output file was written. The agent
-- has as many shards as are asked for.
use Rattle.std.specs.Prelude.{◌≡◌}
use Rattle.std.specs.Io.KnownBytes.{prepend_known}
use Rattle.sip_round.specs.AgentState.{shard_count}
use Rattle.sip_stream.specs.Steps.{SoFar}
use Rattle.sip_stream.proofs.streamed_replay.stream.Given as goal

abbrev pub invariant-loop : goal.invariant-loop
invariant-loop g l =
    SoFar g.C.Cut.shard_of l.fn.kind l.streaming.agent l.streaming.first l.head.items
    (g.R.CountedRead.remaining l.fn.reader)
    (prepend_known l.input.text.items (g.R.CountedRead.remaining l.reader))
    (g.W.CountedWrite.contents l.fn.writer) (g.W.CountedWrite.contents l.writer)
    (g.R.CountedRead.failures l.fn.reader) (g.R.CountedRead.failures l.reader)
    (g.W.CountedWrite.failures l.fn.writer) (g.W.CountedWrite.failures l.writer)
    (g.W.CountedWrite.flushed l.writer) × (shard_count l.streaming.agent ≡ l.fn.shards)
