-- A shorter journal, and what it has of the longer one.
use Rattle.std.specs.Prelude.{◌≡◌, ◌⊎◌, ℕ, ◌+◌, List, [], ◌∷◌, ◌++◌, length}
use Rattle.std.specs.List.{AllZip}
use Rattle.sip_files.specs.EventFile.{SpellsSession}
use Rattle.sip_files.specs.Rounds.{SpellsRounds}
use Rattle.sip_files.specs.Written.{session_text}
use Rattle.sip_round.specs.declared.config.Config.{Config}
use Rattle.sip_round.specs.declared.round.Event.{Event}
use Rattle.sip_round.specs.declared.round.Event.TheVariants.{Datagram}
use Rattle.sip_round.specs.declared.round.Round.{Round}

-- the text is a head of this configuration, and then the lines of these rounds
pub record IsJournal (config : Config) (rounds : List Round) (text : List ℕ) : Type 0 where
  pub head : List ℕ
  pub lines : List ℕ
  pub parts : text ≡ head ++ lines
  pub configured : SpellsSession config [] head
  pub say : SpellsRounds lines rounds

-- a datagram without bytes, which is dropped and changes nothing
abbrev pub nothing : Event
nothing = Datagram (record { ip = 0 ∷ 0 ∷ 0 ∷ 0 ∷ []; port = 0 }) []

abbrev pub StaysOrIsNothing : Event → Event → Type 0
StaysOrIsNothing event kept = (kept ≡ event) ⊎ (kept ≡ nothing)

-- a round at the same moment; in each place the same event or nothing; the last ones may be missing
pub record Thins (round kept : Round) : Type 0 where
  pub moment : kept.moment ≡ round.moment
  pub front : List Event
  pub missing : List Event
  pub parts : round.events ≡ front ++ missing
  pub events : AllZip StaysOrIsNothing front kept.events

-- The text is a session of the rounds from one of them on, each thinned, with their numbers. The
-- last one is there as it was.
pub record IsShorter (config : Config) (rounds : List Round) (text : List ℕ) : Type 0 where
  pub before : List Round
  pub rest : List Round
  pub kept : List Round
  pub parts : rounds ≡ before ++ rest
  pub thins : AllZip Thins rest kept
  pub last : (others : List Round) (round : Round) → rounds ≡ others ++ round ∷ []
      → (front : List Round) × (kept ≡ front ++ round ∷ [])
  pub written : text ≡ session_text (record config { first = config.first + length before }) kept

-- the short journal is a shorter one of the long journal
pub record Shortens (long short : List ℕ) : Type 0 where
  pub config : Config
  pub rounds : List Round
  pub long_is : IsJournal config rounds long
  pub short_is : IsShorter config rounds short
