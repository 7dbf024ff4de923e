-- Reading the lines of a file one after another, each where it may stand.
use Rattle.std.specs.Prelude.{ℕ, nat_eq, Bool, true, false, not, ◌&&◌, ◌||◌, ◌==◌, List, [], ◌∷◌, ◌++◌, length, count_by, Option, Some, None, replicate, if◌then◌else◌}
use Rattle.std.specs.List.{list_any}
use Rattle.std.specs.Option.{option_map}
use Rattle.sip_text.specs.Options.{◌>>=◌}
use Rattle.sip_message.specs.Wildcard.{has_wildcard_uri}
use Rattle.sip_message.specs.declared.addr.Addr.{Addr}
use Rattle.sip_round.specs.declared.round.Event.{Event}
use Rattle.sip_round.specs.declared.round.Round.{Round}
use Rattle.sip_files.specs.declared.event_line.EventLine.{EventLine}
use Rattle.sip_files.specs.declared.event_line.EventLine.TheVariants as line
use Rattle.sip_files.specs.declared.draft.Stage.{Stage}
use Rattle.sip_files.specs.declared.draft.Stage.TheVariants as stage
use Rattle.sip_files.specs.declared.draft.Draft.{Draft}
use Rattle.sip_files.specs.declared.given_header.GivenHeader.{GivenHeader}
use Rattle.sip_files.specs.declared.progress.Progress.{Progress}
use Rattle.sip_files.specs.declared.given_headers.GivenHeaders.{GivenHeaders}
use Rattle.sip_files.specs.Given.{gathered, with_headers}
use Rattle.sip_files.specs.Unregister.{expires_at_once, is_expires, is_only_wildcard}

abbrev pub nothing_read : Draft
nothing_read = record {
  config = record {
    local = record { ip = replicate 4 0; port = 0 };
    seed = replicate 32 0;
    first = 0;
  };
  stage = stage.Local;
  rounds = [];
}

abbrev pub is_begun : Stage → Bool
is_begun stage.Local = false
is_begun stage.Seed = true
is_begun stage.First = true
is_begun stage.Rounds = true

abbrev pub local_taken : Stage → Draft → Addr → Option Draft
local_taken stage.Local draft local =
    Some (record draft { config = record draft.config { local = local }; stage = stage.Seed })
local_taken stage.Seed draft local = None
local_taken stage.First draft local = None
local_taken stage.Rounds draft local = None

abbrev pub seed_taken : Stage → Draft → List ℕ → Option Draft
seed_taken stage.Local draft seed = None
seed_taken stage.Seed draft seed =
    Some (record draft { config = record draft.config { seed = seed }; stage = stage.First })
seed_taken stage.First draft seed = None
seed_taken stage.Rounds draft seed = None

abbrev pub first_taken : Stage → Draft → ℕ → Option Draft
first_taken stage.Local draft number = None
first_taken stage.Seed draft number =
    Some (record draft { config = record draft.config { first = number }; stage = stage.Rounds })
first_taken stage.First draft number =
    Some (record draft { config = record draft.config { first = number }; stage = stage.Rounds })
first_taken stage.Rounds draft number = None

abbrev pub begun_round : Draft → ℕ → Draft
begun_round draft moment = record draft {
  stage = stage.Rounds;
  rounds = draft.rounds
      ++ (record { moment = moment; events = [] }) ∷ [];
}

abbrev pub round_taken : Stage → Draft → ℕ → Option Draft
round_taken stage.Local draft moment = None
round_taken stage.Seed draft moment = Some (begun_round draft moment)
round_taken stage.First draft moment = Some (begun_round draft moment)
round_taken stage.Rounds draft moment = Some (begun_round draft moment)

-- the event is put into the last round
abbrev pub with_event : List Round → Event → Option (List Round)
with_event [] event = None
with_event (round ∷ []) event = Some ((record round { events = round.events ++ event ∷ [] }) ∷ [])
with_event (round ∷ next ∷ rounds) event =
    option_map (λ rounds. round ∷ rounds) (with_event (next ∷ rounds) event)

abbrev pub event_drafted : Draft → Event → Option Draft
event_drafted draft event =
    option_map (λ rounds. record draft { rounds = rounds }) (with_event draft.rounds event)

-- a header line is taken together with the line that follows it
abbrev pub taken : Draft → EventLine → Option Draft
taken draft (line.Local local) = local_taken draft.stage draft local
taken draft (line.Seed seed) = seed_taken draft.stage draft seed
taken draft (line.First number) = first_taken draft.stage draft number
taken draft (line.Round moment) = round_taken draft.stage draft moment
taken draft (line.Event event) = event_drafted draft event
taken draft (line.Header header) = None

-- one step after another, each of which may fail
unfoldable pub all_gone : {S I : Type 0} → (S → I → Option S) → S → List I → Option S
all_gone step start [] = Some start
all_gone step start (item ∷ items) = step start item >>= λ next. all_gone step next items

abbrev pub drafted : Draft → List EventLine → Option Draft
drafted = all_gone taken

-- ---- header lines, and the lines before which they stand

abbrev pub no_lines : Progress
no_lines = record { draft = nothing_read; headers = [] }

-- the lines may be all of a file
abbrev pub is_whole : Progress → Bool
is_whole progress = is_begun progress.draft.stage && (length progress.headers == 0)

-- `*` is the only Contact, and there is no Expires yet, or one of 0 seconds
abbrev pub may_unregister : GivenHeaders → Bool
may_unregister headers = is_only_wildcard headers.contacts
    && (nat_eq (count_by is_expires headers.others) 0 || expires_at_once headers.others)

-- a command may follow these headers, maybe after more of them
abbrev pub may_go_on : GivenHeaders → Bool
may_go_on headers =
    not (list_any has_wildcard_uri headers.contacts) || may_unregister headers

-- header lines may stand only in a round, where a command may follow them
abbrev pub header_in_round : List Round → Progress → GivenHeader → Option Progress
header_in_round [] progress header = None
header_in_round (round ∷ rounds) progress header =
    if may_go_on (gathered (progress.headers ++ header ∷ []))
    then Some (record progress { headers = progress.headers ++ header ∷ [] }) else None

abbrev pub header_went : Progress → GivenHeader → Option Progress
header_went progress header = header_in_round progress.draft.rounds progress header

abbrev pub line_went : Progress → EventLine → Option Progress
line_went progress item =
    with_headers progress.headers item >>= λ whole.
    option_map (λ draft. record { draft = draft; headers = [] }) (taken progress.draft whole)

abbrev pub went : Progress → EventLine → Option Progress
went progress (line.Header header) = header_went progress header
went progress item = line_went progress item

abbrev pub gone : Progress → List EventLine → Option Progress
gone = all_gone went
