-- A host's last round as text, and a host that goes on from such texts in another process.
use Rattle.std.specs.Prelude.{◌≡◌, ◌⊎◌, ℕ, Bool, ◌&&◌, ◌==◌, true, false, List, [], ◌∷◌, ◌++◌, IfOk, OnErr, Option, None, Some, Result, Err, length, nat_le}
use Rattle.sip_files.specs.Written.{session_round_text}
use Rattle.sip_host.specs.Hosting.{shard_of}
use Rattle.sip_host.specs.declared.host.Host.{Host}
use Rattle.sip_host.specs.declared.resume_fault.ResumeFault.{ResumeFault}
use Rattle.sip_host.specs.declared.resume_fault.ResumeFault.TheVariants as resume_fault
use Rattle.sip_files.specs.Rounds.{SpellsRound, TellsLinesFault, first_round}
use Rattle.sip_files.specs.declared.lines_fault.LinesFault.{LinesFault}
use Rattle.sip_round.specs.AgentState.{refusal_of}
use Rattle.sip_round.specs.Answers.{StandsFor}
use Rattle.sip_round.specs.declared.config.Config.{Config}
use Rattle.sip_round.specs.declared.round.Round.{Round}
use Rattle.sip_round.specs.declared.round_fault.RoundFault.{RoundFault}
use Rattle.sip_round.specs.declared.round_fault.RoundFault.TheVariants as round_fault

-- the text of a round in a session; empty if there is none
abbrev pub text_of_round : Option Round → List ℕ
text_of_round None = []
text_of_round (Some round) = session_round_text round

-- no event waits for the next round, and all outputs of the last one are taken
abbrev pub is_idle : Host → Bool
is_idle host = (length host.events == 0) && nat_le (length host.outputs.items) host.taken

-- Whatever rounds the agent stood for, it now stands for this one too, which it didn't refuse. It
-- is the last round, and has no outputs to take.
pub record GoesOn (round : Round) (old new : Host) : Type 0 where
  pub stands : (config : Config) (rounds : List Round)
      → StandsFor shard_of old.agent config rounds
      → StandsFor shard_of new.agent config (rounds ++ round ∷ [])
  pub accepted : refusal_of old.agent round ≡ None
  pub kept : new.last_round ≡ Some round
  pub no_events : new.events ≡ []
  pub no_outputs : new.outputs.items ≡ []
  pub none_taken : new.taken ≡ 0
  pub headers : new.headers ≡ old.headers

-- The first round of the text is run, and how long its lines are is told. A fault changes nothing;
-- but if memory ran out in the middle of the round, the agent holds nothing from then on.
pub record Resumes (text : List ℕ) (old new : Host) (answer : Result ℕ ResumeFault) :
    Type 0 where
  pub goes_on : IfOk answer (λ taken. (taken ≡ length (first_round text))
      × (round : Round) × SpellsRound (first_round text) round × GoesOn round old new)
  pub busy : is_idle old ≡ false → answer ≡ Err resume_fault.Busy
  pub idle : answer ≡ Err resume_fault.Busy → is_idle old ≡ false
  pub lines : (why : LinesFault) → answer ≡ Err (resume_fault.Lines why)
      → TellsLinesFault (first_round text) why
  pub round : (why : RoundFault) → answer ≡ Err (resume_fault.Round why)
      → (round : Round) × SpellsRound (first_round text) round
      × ((refusal_of old.agent round ≡ Some why) ⊎ (why ≡ round_fault.NoMemory false)
      ⊎ (why ≡ round_fault.NoMemory true))
  pub same : OnErr answer (¬ (answer ≡ Err (resume_fault.Round (round_fault.NoMemory true)))
      → new ≡ old)
  pub broken : answer ≡ Err (resume_fault.Round (round_fault.NoMemory true))
      → new.agent.shards ≡ None
