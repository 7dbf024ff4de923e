-- What a ladder shows for rounds and their outputs: a line for each event and each output.
use Rattle.std.specs.Prelude.{◌≡◌, ℕ, Bool, List, [], ◌∷◌, ◌++◌, codes, fold, map}
use Rattle.std.specs.List.{list_any}
use Rattle.std.specs.Str.{bytes_eq}
use Rattle.std.specs.BTreeSet.{insert_key}
use Rattle.std.specs.Cmp.Lexicographic.{slice_cmp}
use Rattle.std.specs.Ordering.{nat_cmp}
use Rattle.sip_message.specs.Addr.{addr_text}
use Rattle.sip_files.specs.Outputs.{output_text}
use Rattle.sip_files.specs.Written.{event_text}
use Rattle.sip_round.specs.declared.round.Event.{Event}
use Rattle.sip_round.specs.declared.round.Event.TheVariants as event
use Rattle.sip_round.specs.declared.round.Round.{Round}
use Rattle.sip_round.specs.declared.output.Output.{Output}
use Rattle.sip_round.specs.declared.output.Output.TheVariants as output
use Rattle.sip_ladder.specs.Label.{datagram_label, fields_label}
use Rattle.sip_ladder.specs.declared.line.Line.{Line}
use Rattle.sip_ladder.specs.declared.line.Way.{Way}
use Rattle.sip_ladder.specs.declared.line.Way.TheVariants.{In, Out, Own}

-- ---- what happens

-- an event that comes, or an output that is given, at a moment
pub data Happening : Type 0 where
  Comes : ℕ → Event → Happening
  IsGiven : ℕ → Output → Happening

-- a round's events, and then its outputs, all at its moment
abbrev pub round_happenings : Round → List Output → List Happening
round_happenings round outputs =
    map (Comes round.moment) round.events ++ map (IsGiven round.moment) outputs

-- the rounds, each with its outputs
abbrev pub happenings : List Round → List (List Output) → List Happening
happenings [] answers = []
happenings (round ∷ rounds) [] = []
happenings (round ∷ rounds) (outputs ∷ answers) =
    round_happenings round outputs ++ happenings rounds answers

-- ---- which datagrams are repeats

-- the direction of a datagram, and its peer
abbrev pub way_name : Way → List ℕ
way_name (In peer) = codes "from " ++ addr_text peer ++ codes " "
way_name (Out peer) = codes "to " ++ addr_text peer ++ codes " "
way_name Own = []

-- what identifies a datagram: its direction, its peer and its bytes
abbrev pub datagram_name : Way → List ℕ → List ℕ
datagram_name way bytes = way_name way ++ bytes

-- a datagram with this name came or went before
abbrev pub is_among : List (List ℕ) → List ℕ → Bool
is_among names name = list_any (bytes_eq name) names

-- the set of the names, with this one
abbrev pub with_name : List ℕ → List (List ℕ) → List (List ℕ)
with_name name names = insert_key (slice_cmp nat_cmp) names name

-- ---- a line

-- the moment of a line, where its arrow is drawn, and its label
pub record Shape : Type 0 where
  pub moment : ℕ
  pub way : Way
  pub label : List ℕ

abbrev pub shape : Line → Shape
shape line = record { moment = line.moment; way = line.way; label = line.label }

-- the line of a datagram, after the datagrams with these names
abbrev pub arrow_shape : List (List ℕ) → ℕ → Way → List ℕ → Shape
arrow_shape names moment way bytes = record {
  moment = moment;
  way = way;
  label = datagram_label bytes (is_among names (datagram_name way bytes));
}

-- a line without an arrow, for the line of a file
abbrev pub own_shape : ℕ → List ℕ → Shape
own_shape moment text = record { moment = moment; way = Own; label = fields_label text }

-- a datagram comes from its peer; other events have no arrow
abbrev pub event_shape : List (List ℕ) → ℕ → Event → Shape
event_shape names moment (event.Datagram from bytes) = arrow_shape names moment (In from) bytes
event_shape names moment (event.Failed key) = own_shape moment (event_text (event.Failed key))
event_shape names moment (event.Command command) =
    own_shape moment (event_text (event.Command command))

-- a Send goes to its peer; other outputs have no arrow
abbrev pub output_shape : List (List ℕ) → ℕ → Output → Shape
output_shape names moment (output.Send key to bytes) = arrow_shape names moment (Out to) bytes
output_shape names moment (output.Dropped place reason) =
    own_shape moment (output_text (output.Dropped place reason))
output_shape names moment (output.Notice notice) =
    own_shape moment (output_text (output.Notice notice))

abbrev pub shape_of : List (List ℕ) → Happening → Shape
shape_of names (Comes moment event) = event_shape names moment event
shape_of names (IsGiven moment output) = output_shape names moment output

-- the names after an event
abbrev pub event_names : List (List ℕ) → Event → List (List ℕ)
event_names names (event.Datagram from bytes) = with_name (datagram_name (In from) bytes) names
event_names names (event.Failed key) = names
event_names names (event.Command command) = names

-- the names after an output
abbrev pub output_names : List (List ℕ) → Output → List (List ℕ)
output_names names (output.Send key to bytes) = with_name (datagram_name (Out to) bytes) names
output_names names (output.Dropped place reason) = names
output_names names (output.Notice notice) = names

abbrev pub names_of : List (List ℕ) → Happening → List (List ℕ)
names_of names (Comes moment event) = event_names names event
names_of names (IsGiven moment output) = output_names names output

-- ---- all lines

-- a line for each, after the datagrams with these names
abbrev pub shapes_after : List (List ℕ) → List Happening → List Shape
shapes_after names [] = []
shapes_after names (happening ∷ more) =
    shape_of names happening ∷ shapes_after (names_of names happening) more

abbrev pub shapes : List Round → List (List Output) → List Shape
shapes rounds answers = shapes_after [] (happenings rounds answers)

-- the lines of these were added, after the datagrams with these names
abbrev pub Shows : List Happening → List Line → List Line → List (List ℕ) → List (List ℕ) → Type 0
Shows happenings old new names after =
    (map shape new ≡ map shape old ++ shapes_after names happenings)
    × (after ≡ fold names_of names happenings)
