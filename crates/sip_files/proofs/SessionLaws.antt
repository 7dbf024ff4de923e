-- Lines without header lines and `abandon` are the lines of a session exactly if they are those of an
-- event file.
use Rattle.std.proofs.Common.{◌≡◌, ℕ, true, false, not, IsTrue, List, [], ◌∷◌, codes, refl, sym, ap, subst, ◌∙◌}
use Rattle.std.specs.Prelude.{Bool, ◌&&◌, ◌↔◌, nat_eq}
use Rattle.std.specs.List.{AllByRecursion, starts_with}
use Rattle.sip_user.specs.declared.command.UserCommand.{UserCommand}
use Rattle.sip_user.specs.declared.command.UserCommand.TheVariants as command
use Rattle.sip_round.specs.declared.config.Config.{Config}
use Rattle.sip_round.specs.declared.round.Event.TheVariants.{Datagram, Failed, Command}
use Rattle.sip_round.specs.declared.round.Round.{Round}
use Rattle.sip_files.specs.declared.version.Version.{Version}
use Rattle.sip_files.specs.declared.version.Version.TheVariants.{One, Two, SessionOne}
use Rattle.sip_files.specs.declared.event_line.EventLine.{EventLine}
use Rattle.sip_files.specs.declared.event_line.EventLine.TheVariants as line
use Rattle.sip_files.specs.Field.{rest_field, word_field}
use Rattle.sip_files.specs.Events.{IsCommandLine, SpellsLine, command_text}
use Rattle.sip_files.specs.declared.version.FileKind.TheVariants as file_kind
use Rattle.sip_files.specs.EventFile.{is_of_kind, SpellsEvents, SpellsIn, SpellsSession, file_text, with_ends}
use Rattle.sip_files.proofs.FileLines.{SayAll, AllOne, same_lines, first_line}
use Rattle.sip_files.proofs.LineLaws.{in_session}
use Rattle.sip_files.proofs.OneFile.{said_by, lines_of, after_version}

of_kind : (version : Version) → is_of_kind file_kind.Events version ≡ true
    → is_of_kind file_kind.Session version ≡ true
of_kind One fits = refl
of_kind Two fits = refl
of_kind SessionOne fits = refl

pub event_file_session : (config : Config) (rounds : List Round) (text : List ℕ)
    → SpellsEvents config rounds text → SpellsSession config rounds text
event_file_session config rounds text s = (s.0, of_kind s.0 s.1, s.2)

-- ---- without header lines and `abandon`

abbrev is_for_events : List ℕ → Bool
is_for_events text = not (starts_with nat_eq text (codes " "))
    && not (starts_with nat_eq text (codes "abandon "))

abbrev NoHeader : List ℕ → Type 0
NoHeader text = IsTrue (is_for_events text)

command_in_two : (text : List ℕ) (c : UserCommand) → NoHeader text → text ≡ command_text c
    → IsCommandLine SessionOne c → IsCommandLine Two c
unfolding word_field
command_in_two text (command.Invite c) plain is fits = fits
command_in_two text (command.Plain c) plain is fits = fits
command_in_two text (command.Request c) plain is fits = fits
command_in_two text (command.Respond c) plain is fits = fits
command_in_two text (command.Ack c) plain is fits = fits
command_in_two text (command.Prack c) plain is fits = fits
command_in_two text (command.Cancel c) plain is fits = (refl, fits.1)
command_in_two text (command.AbandonRequest c) plain is fits =
    let wrong : false ≡ true = sym (ap is_for_events is) ∙ plain in absurd cc
command_in_two text (command.AbandonDialog c) plain is fits =
    let wrong : false ≡ true = sym (ap is_for_events is) ∙ plain in absurd cc

in_two : (text : List ℕ) (item : EventLine) → NoHeader text → SpellsLine SessionOne text item
    → SpellsLine Two text item
unfolding rest_field
in_two text (line.Local address) plain s = s
in_two text (line.Seed seed) plain s = s
in_two text (line.First number) plain s = s
in_two text (line.Round moment) plain s = s
in_two text (line.Event (Datagram from bytes)) plain s = s
in_two text (line.Event (Failed key)) plain s = s
in_two text (line.Event (Command c)) plain s = (command_in_two text c plain s.1 s.0, s.1)
in_two text (line.Header header) plain s =
    let header_line : false ≡ true = sym (ap is_for_events s.spelled) ∙ plain in absurd cc

all_in_two : (lines : List (List ℕ)) (said : List EventLine) → AllByRecursion NoHeader lines
    → SayAll SessionOne lines said → SayAll Two lines said
all_in_two [] [] plain says = tt
all_in_two [] (x ∷ said) plain says = elim says [ ]
all_in_two (l ∷ lines) [] plain says = elim says [ ]
all_in_two (l ∷ lines) (x ∷ said) plain says =
    (in_two l x plain.0 says.0, all_in_two lines said plain.1 says.1)

all_in_session : (version : Version) (lines : List (List ℕ)) (said : List EventLine)
    → SayAll version lines said → SayAll SessionOne lines said
all_in_session version [] [] says = tt
all_in_session version [] (x ∷ said) says = elim says [ ]
all_in_session version (l ∷ lines) [] says = elim says [ ]
all_in_session version (l ∷ lines) (x ∷ said) says =
    (in_session version l x says.0, all_in_session version lines said says.1)

-- the lines of a file are those in its spelling
says_of : (version : Version) (config : Config) (rounds : List Round) (lines : List (List ℕ))
    → AllOne lines → (s : SpellsIn version config rounds (file_text version lines))
    → SayAll version lines (said_by s)
says_of version config rounds lines one s =
    let text = file_text version lines in
    let same : s.lines ≡ lines =
    same_lines lines s.lines one (lines_of version config rounds text s)
    (after_version version config rounds text (with_ends lines) s (first_line version lines)) in
    subst (λ (ls : List (List ℕ)). SayAll version ls (said_by s)) same s.says

pub without_headers : (config : Config) (rounds : List Round) (lines : List (List ℕ))
    → AllOne lines → AllByRecursion NoHeader lines
    → (SpellsIn SessionOne config rounds (file_text SessionOne lines)
    ↔ SpellsIn Two config rounds (file_text Two lines))
without_headers config rounds lines one plain = (
  λ s. record {
    head = s.head;
    headed = s.headed;
    lines = lines;
    configured = s.configured;
    made = s.made;
    says = all_in_two lines (said_by s) plain (says_of SessionOne config rounds lines one s);
    spelled = refl;
  },
  λ s. record {
    head = s.head;
    headed = s.headed;
    lines = lines;
    configured = s.configured;
    made = s.made;
    says = all_in_session Two lines (said_by s) (says_of Two config rounds lines one s);
    spelled = refl;
  },
)
