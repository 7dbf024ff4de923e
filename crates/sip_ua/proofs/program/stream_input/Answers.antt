-- A replay round by round of an input that is a file never ends in status 1, and none in status 2.
use Rattle.std.proofs.Common.{subst}
use Rattle.std.specs.Prelude.{IfErr, IfSome}
use Rattle.sip_stream.specs.Streams.{ComesOnly}
use Rattle.sip_ua.proofs.Streamed.{never_1, never_2}
use Rattle.sip_ua.proofs.program.stream_input.Goals as goal

pub returns-clause-only : goal.returns-clause-only
returns-clause-only g c =
    never_1 c.args.kind (g.R.Read.remaining c.args.input.now)
    c.replay_streamed-end.result c.finish.result c.finish.ensures
    (subst (λ reader. IfErr c.replay_streamed-end.result
    (λ fault. IfSome (g.R.Read.remaining reader.now)
    (ComesOnly c.args.kind fault)))
    c.new-input.ensures c.replay_streamed-end.ensures.only)

pub returns-clause-words : goal.returns-clause-words
returns-clause-words g c =
    never_2 c.replay_streamed-end.result c.finish.result c.finish.ensures
