-- What the statuses of `ua` tell, for the kind of file that the words ask for; a command that reads
-- nothing leaves the input.
use Rattle.std.proofs.Common.{◌≡◌, ◌≢◌, ◌⊎◌, ◌<◌, ◌≤◌, ◌^◌, Bool, List, IfSome, length, subst, sym, ◌∙◌}
use Rattle.std.proofs.lemmas.Bool.{false≢true}
use Rattle.sip_files.specs.EventFile.{IsFile}
use Rattle.sip_files.specs.Replay.{WritesFront}
use Rattle.sip_files.specs.declared.version.FileKind.{FileKind}
use Rattle.sip_round.specs.declared.config.Config.{Config}
use Rattle.sip_round.specs.declared.round.Round.{Round}
use Rattle.sip_stream.specs.Streams.{IsStream}
use Rattle.sip_ua.specs.Inputs.{HasRefusedRound, IsNoFile}
use Rattle.sip_ua.specs.Repair.{replayed}
use Rattle.sip_ua.proofs.program.ua.Goals as goal

-- a fact about what is asked for is one about what the words say
as_asked : (P : FileKind → Bool → Type 0) (kind said : FileKind) (repairs asks : Bool)
    → kind ≡ said → repairs ≡ asks → P kind repairs → P said asks
as_asked P kind said repairs asks same alike fact =
    subst (λ kind. P kind asks) same (subst (P kind) alike fact)

pub returns-in-Replay-clause-no_file : goal.returns-in-Replay-clause-no_file
returns-in-Replay-clause-no_file g c = λ asks is.
    as_asked (λ kind repairs. IfSome (g.R.Read.remaining c.args.input.now)
    (λ input. (2 ^ 26 < length input) ⊎ IsNoFile kind (replayed kind repairs input))) _ _ _ _
    c.kind_asked-kind.ensures c.asks_repair-repairs.ensures (c.replay_input.ensures.no_file is)

pub returns-in-Replay-clause-refused_round : goal.returns-in-Replay-clause-refused_round
returns-in-Replay-clause-refused_round g c = λ asks is.
    as_asked (λ kind repairs. IfSome (g.R.Read.remaining c.args.input.now)
    (λ input. HasRefusedRound kind (replayed kind repairs input))) _ _ _ _
    c.kind_asked-kind.ensures c.asks_repair-repairs.ensures
    (c.replay_input.ensures.refused_round is)

pub returns-in-Replay-clause-only : goal.returns-in-Replay-clause-only
returns-in-Replay-clause-only g c = λ asks.
    as_asked (λ kind repairs. IfSome (g.R.Read.remaining c.args.input.now)
    (λ input. length input ≤ 2 ^ 26 → IsFile kind (replayed kind repairs input)
    → c.replay_input.result ≢ 1)) _ _ _ _
    c.kind_asked-kind.ensures c.asks_repair-repairs.ensures c.replay_input.ensures.only

pub returns-in-Replay-clause-front : goal.returns-in-Replay-clause-front
returns-in-Replay-clause-front g c = λ asks is.
    as_asked (λ kind repairs. (c.replay_input.new.output ≡ c.args.output.now)
    ⊎ IfSome (g.R.Read.remaining c.args.input.now) (λ input. WritesFront kind
    (g.W.Write.contents c.args.output.now) (g.W.Write.contents c.replay_input.new.output)
    (replayed kind repairs input))) _ _ _ _
    c.kind_asked-kind.ensures c.asks_repair-repairs.ensures (c.replay_input.ensures.front is)

pub returns-in-Replay-clause-unread : goal.returns-in-Replay-clause-unread
returns-in-Replay-clause-unread g c = λ no_replay no_stream no_ladder.
    absurd (false≢true (sym no_replay ∙ c.command_asked-asked.ensures.replays c.in-Replay.is))

pub returns-in-Stream-clause-stream_only : goal.returns-in-Stream-clause-stream_only
returns-in-Stream-clause-stream_only g c = λ asks.
    subst (λ kind. IfSome (g.R.Read.remaining c.args.input.now)
    (λ input. (config : Config) (rounds : List Round)
    → IsStream kind config rounds input → c.stream_input.result ≢ 1))
    c.kind_asked-kind.ensures c.stream_input.ensures.only

pub returns-in-Stream-clause-unread : goal.returns-in-Stream-clause-unread
returns-in-Stream-clause-unread g c = λ no_replay no_stream no_ladder.
    absurd (false≢true (sym no_stream ∙ c.command_asked-asked.ensures.streams c.in-Stream.is))

pub returns-in-Ladder-clause-unread : goal.returns-in-Ladder-clause-unread
returns-in-Ladder-clause-unread g c = λ no_replay no_stream no_ladder.
    absurd (false≢true (sym no_ladder ∙ c.command_asked-asked.ensures.draws c.in-Ladder.is))
