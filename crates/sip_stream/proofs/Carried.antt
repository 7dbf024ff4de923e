-- What an agent stands for, another one that holds the same stands for too; and what is left by
-- rounds after which agents don't hold the same.
use Rattle.std.proofs.Common.{ℕ, List, Option, None, Some}
use Rattle.std.specs.Prelude.{IfSome}
use Rattle.sip_stream.specs.Journals.{LeaveOthers}
use Rattle.sip_files.specs.declared.version.FileKind.TheVariants.{Session}
use Rattle.sip_round.specs.AgentState.{AgentState}
use Rattle.sip_round.specs.Answers.{StandsFor}
use Rattle.sip_round.specs.SameRounds.{LeaveTheSame}
use Rattle.sip_round.specs.declared.config.Config.{Config}
use Rattle.sip_round.specs.declared.round.Round.{Round}
use Rattle.sip_stream.specs.Streams.{StandsForFile}

module _ {C : Type 0} (shard_of : C → List ℕ → ℕ → ℕ) (one other : AgentState C) where
  pub carried : ((config : Config) (rounds : List Round) → StandsFor shard_of one config rounds
      → StandsFor shard_of other config rounds) → (input : Option (List ℕ))
      → IfSome input (StandsForFile shard_of Session one)
      → IfSome input (StandsForFile shard_of Session other)
  carried carry None s = tt
  carried carry (Some whole) s = record {
    config = s.config;
    rounds = s.rounds;
    spelled = s.spelled;
    unrefused = s.unrefused;
    stands = carry s.config s.rounds s.stands;
  }

  pub others : ((config other_config : Config) (rounds other_rounds : List Round)
      → StandsFor shard_of one config rounds → StandsFor shard_of other other_config other_rounds
      → LeaveTheSame config other_config rounds other_rounds → ⊥)
      → (long short : Option (List ℕ)) → IfSome long (StandsForFile shard_of Session one)
      → IfSome short (StandsForFile shard_of Session other)
      → IfSome long (λ l. IfSome short (LeaveOthers l))
  others differ None short s t = tt
  others differ (Some l) None s t = tt
  others differ (Some l) (Some k) s t = record {
    config = s.config;
    rounds = s.rounds;
    other_config = t.config;
    other_rounds = t.rounds;
    spelled = s.spelled;
    other_spelled = t.spelled;
    differ = differ s.config t.config s.rounds t.rounds s.stands t.stands;
  }
