-- What is written for a configuration and rounds is their event file. A line that says an event, a
-- header or a command is read as that.
use Rattle.std.proofs.Common.{◌≡◌, ℕ, List, [], ◌∷◌, ◌++◌, Option, Some, None, map, refl, sym, ap, subst, ◌∙◌, append_assoc, append-nil, inl, inr}
use Rattle.std.specs.Prelude.{IfNone, IfSome}
use Rattle.std.specs.List.{flat_map, AllByRecursion, AllZip}
use Rattle.std.specs.Str.{str_to_ascii_lowercase}
use Rattle.sip_message.specs.declared.key.Key.{Key}
use Rattle.sip_message.specs.declared.key.Key.TheVariants.{Client, Server}
use Rattle.sip_user.specs.declared.command.UserCommand.{UserCommand}
use Rattle.sip_round.specs.declared.config.Config.{Config}
use Rattle.sip_round.specs.declared.round.Event.{Event}
use Rattle.sip_round.specs.declared.round.Event.TheVariants.{Datagram, Failed, Command}
use Rattle.sip_round.specs.declared.round.Round.{Round}
use Rattle.sip_files.specs.declared.version.Version.{Version}
use Rattle.sip_files.specs.declared.version.Version.TheVariants.{Two, SessionOne}
use Rattle.sip_files.specs.declared.version.FileKind.{FileKind}
use Rattle.sip_files.specs.declared.version.FileKind.TheVariants as file_kind
use Rattle.sip_files.specs.declared.event_line.EventLine.{EventLine}
use Rattle.sip_files.specs.declared.event_line.EventLine.TheVariants as line
use Rattle.sip_files.specs.declared.given_header.GivenHeader.{GivenHeader}
use Rattle.sip_files.specs.Events.{SpellsEvent, SpellsHeader, SpellsLine}
use Rattle.sip_files.specs.EventFile.{Head, HeadedLine, SaysHeaded, headed_lines, SpellsEvents, file_lines, head_lines, round_lines, with_ends, version_line}
use Rattle.sip_files.specs.Steps.ReadLine.{line_at}
use Rattle.sip_files.specs.Written.{IsConfig, IsEvent, IsKey, IsRound, SpellsCommand, SpellsEventLine, user_command_of, written_version, ended_text, event_lines, event_of_line, events_text, failed_text, head_in, header_of_line, line_text, round_in, round_text}
use Rattle.sip_files.proofs.LineLaws.{line_took, line_again}

-- ---- the lines are spelled

pub failed_spelled : (version : Version) (key : Key) → IsKey key
    → SpellsEvent version (failed_text key) (Failed key)
failed_spelled version (Client branch method) fits =
    inl (record {
      branch = branch;
      method = method;
      bytes = fits.1;
      token = fits.2;
      named = ap (λ b. Client b method) (sym fits.0);
      spelled = refl;
    })
failed_spelled version (Server branch sent_by method) fits =
    inr (record {
      branch = branch;
      host = sent_by.host;
      port = sent_by.port;
      method = method;
      bytes = fits.1;
      host_bytes = fits.4;
      bound = fits.5;
      token = fits.2;
      named =
          ap (λ b. Server b sent_by method) (sym fits.0)
          ∙ ap (λ h. Server (str_to_ascii_lowercase branch)
          (record { host = h; port = sent_by.port }) method) (sym fits.3);
      spelled = refl;
    })

event_spelled : (event : Event) → IsEvent event
    → SpellsLine Two (line_text (line.Event event)) (line.Event event)
event_spelled (Datagram from bytes) fits = (fits, refl)
event_spelled (Failed key) fits = failed_spelled Two key fits
event_spelled (Command command) fits = (fits, refl)

-- ---- the lines of a file

-- each line has the text that is written for it
abbrev pub Spelled : Version → List EventLine → Type 0
Spelled version items = AllZip (SpellsLine version) (map line_text items) items

pub each_zip : (version : Version) (xs ys : List EventLine) → Spelled version xs
    → Spelled version ys → Spelled version (xs ++ ys)
each_zip version [] ys none more = more
each_zip version (x ∷ xs) ys some more = (some.0, each_zip version xs ys some.1 more)

events_zip : (events : List Event) → AllByRecursion IsEvent events
    → Spelled Two (map line.Event events)
events_zip [] fits = tt
events_zip (event ∷ events) fits = (event_spelled event fits.0, events_zip events fits.1)

rounds_zip : (rounds : List Round) → AllByRecursion IsRound rounds
    → Spelled Two (flat_map round_lines rounds)
rounds_zip [] fits = tt
rounds_zip (round ∷ rounds) fits =
    each_zip Two (round_lines round) (flat_map round_lines rounds)
    (((fits.0).moment, refl), events_zip round.events (fits.0).events) (rounds_zip rounds fits.1)

-- ---- their text

abbrev pub text_of : List EventLine → List ℕ
text_of lines = with_ends (map line_text lines)

pub text_of-append : (xs ys : List EventLine) → text_of (xs ++ ys) ≡ text_of xs ++ text_of ys
text_of-append [] ys = refl
text_of-append (x ∷ xs) ys =
    ap (λ t. (line_text x ++ 10 ∷ []) ++ t) (text_of-append xs ys)
    ∙ sym (append_assoc (line_text x ++ 10 ∷ []) (text_of xs) (text_of ys))

text_of-events : (events : List Event) → text_of (map line.Event events)
    ≡ flat_map (event_lines file_kind.Events) events
unfolding ended_text
text_of-events [] = refl
text_of-events (event ∷ events) =
    ap (λ t. (line_text (line.Event event) ++ 10 ∷ []) ++ t) (text_of-events events)

text_of-round : (round : Round) → text_of (round_lines round) ≡ round_text round
unfolding round_in ended_text
text_of-round round =
    ap (λ t. (line_text (line.Round round.moment) ++ 10 ∷ []) ++ t) (text_of-events round.events)

text_of-rounds : (rounds : List Round)
    → text_of (flat_map round_lines rounds) ≡ flat_map round_text rounds
text_of-rounds [] = refl
text_of-rounds (round ∷ rounds) =
    text_of-append (round_lines round) (flat_map round_lines rounds)
    ∙ ap (λ t. t ++ text_of (flat_map round_lines rounds)) (text_of-round round)
    ∙ ap (λ t. round_text round ++ t) (text_of-rounds rounds)

-- ---- the file

abbrev pub whole_head : Config → Head
whole_head config = record {
  local = config.local;
  seed = Some config.seed;
  first = Some config.first;
}

pub head_is : (version : Version) (config : Config)
    → head_in version config
    ≡ (version_line version ++ 10 ∷ []) ++ text_of (head_lines (whole_head config))
unfolding head_in ended_text
head_is version config =
    let a = line_text (line.Local config.local) ++ 10 ∷ [] in
    let b = line_text (line.Seed config.seed) ++ 10 ∷ [] in
    let c = line_text (line.First config.first) ++ 10 ∷ [] in
    let v = version_line version ++ 10 ∷ [] in
    append_assoc (v ++ a) b c ∙ append_assoc v a (b ++ c)
    ∙ ap (λ t. v ++ (a ++ (b ++ t))) (sym (append-nil c))

pub head_spelled : (version : Version) (config : Config) → IsConfig config
    → Spelled version (head_lines (whole_head config))
head_spelled version config fits =
    ((fits.local, refl), ((fits.seed, refl), ((fits.first, refl), tt)))

-- lines without header lines before them
abbrev pub unheaded : List EventLine → List HeadedLine
unheaded items = map (λ item. record { headers = []; item = item }) items

pub unheaded_made : (items : List EventLine) → AllZip SaysHeaded (unheaded items) items
unheaded_made [] = tt
unheaded_made (item ∷ items) = (refl, unheaded_made items)

pub unheaded_lines : (items : List EventLine) → flat_map headed_lines (unheaded items) ≡ items
unheaded_lines [] = refl
unheaded_lines (item ∷ items) =
    ap (λ (xs : List EventLine). item ∷ xs) (unheaded_lines items)

pub written_is_spelled : (config : Config) (rounds : List Round) → IsConfig config
    → AllByRecursion IsRound rounds → SpellsEvents config rounds (events_text config rounds)
unfolding events_text
written_is_spelled config rounds fits each =
    let head = whole_head config in
    let lines = file_lines head rounds in (
      Two,
      refl,
      record {
        head = head;
        headed = unheaded lines;
        lines = map line_text lines;
        configured = refl;
        made = unheaded_made lines;
        says = subst (λ (xs : List EventLine). AllZip (SpellsLine Two) (map line_text lines) xs)
            (sym (unheaded_lines lines))
            (each_zip Two (head_lines head) (flat_map round_lines rounds)
            (head_spelled Two config fits) (rounds_zip rounds each));
        spelled =
            ap (λ t. t ++ flat_map round_text rounds) (head_is Two config)
            ∙ append_assoc (version_line Two ++ 10 ∷ []) (text_of (head_lines head))
            (flat_map round_text rounds)
            ∙ ap (λ t. (version_line Two ++ 10 ∷ []) ++ (text_of (head_lines head) ++ t))
            (sym (text_of-rounds rounds))
            ∙ ap (λ t. (version_line Two ++ 10 ∷ []) ++ t)
            (sym (text_of-append (head_lines head) (flat_map round_lines rounds)));
      },
    )

-- ---- an event, a header or a command by itself

one_event : (text : List ℕ) (event other : Event) → SpellsEventLine text event
    → SpellsEventLine text other → Some (line.Event event) ≡ Some (line.Event other)
one_event text event other s t =
    sym (line_again Two text (line.Event event) s) ∙ line_again Two text (line.Event other) t

in_line : (text : List ℕ) (item : EventLine) → SpellsLine Two text item
    → IfSome (event_of_line item) (SpellsEventLine text)
in_line text (line.Local address) s = tt
in_line text (line.Seed seed) s = tt
in_line text (line.First number) s = tt
in_line text (line.Round moment) s = tt
in_line text (line.Event event) s = s
in_line text (line.Header header) s = tt

pub says_event : (text : List ℕ) (item : EventLine) → Some item ≡ line_at Two text
    → IfSome (event_of_line item) (SpellsEventLine text)
says_event text item e = in_line text item (line_took Two text item (sym e))

none_said : (text : List ℕ) (item : EventLine) (found : Option Event)
    → Some item ≡ line_at Two text → event_of_line item ≡ found
    → IfNone found ((given : Event) → ¬ SpellsEventLine text given)
none_said text item (Some event) e f = tt
none_said text item None e f =
    λ given s.
    let other : Some item ≡ Some (line.Event given) =
    e ∙ line_again Two text (line.Event given) s in
    let same : item ≡ line.Event given = cc in
    let no : Some given ≡ None = sym (ap event_of_line same) ∙ f in
    absurd cc

pub says_no_event : (text : List ℕ) (item : EventLine) → Some item ≡ line_at Two text
    → IfNone (event_of_line item) ((given : Event) → ¬ SpellsEventLine text given)
says_no_event text item e = none_said text item (event_of_line item) e refl

pub says_nothing : (text : List ℕ) → None ≡ line_at Two text
    → (given : Event) → ¬ SpellsEventLine text given
says_nothing text e given s =
    let no : None ≡ Some (line.Event given) = e ∙ line_again Two text (line.Event given) s in
    absurd cc

-- the same for a header

header_in_line : (text : List ℕ) (item : EventLine) → SpellsLine SessionOne text item
    → IfSome (header_of_line item) (SpellsHeader text)
header_in_line text (line.Local address) s = tt
header_in_line text (line.Seed seed) s = tt
header_in_line text (line.First number) s = tt
header_in_line text (line.Round moment) s = tt
header_in_line text (line.Event event) s = tt
header_in_line text (line.Header header) s = s

pub says_header : (text : List ℕ) (item : EventLine) → Some item ≡ line_at SessionOne text
    → IfSome (header_of_line item) (SpellsHeader text)
says_header text item e = header_in_line text item (line_took SessionOne text item (sym e))

no_header_said : (text : List ℕ) (item : EventLine) (found : Option GivenHeader)
    → Some item ≡ line_at SessionOne text → header_of_line item ≡ found
    → IfNone found ((given : GivenHeader) → ¬ SpellsHeader text given)
no_header_said text item (Some header) e f = tt
no_header_said text item None e f =
    λ given s.
    let other : Some item ≡ Some (line.Header given) =
    e ∙ line_again SessionOne text (line.Header given) s in
    let same : item ≡ line.Header given = cc in
    let no : Some given ≡ None = sym (ap header_of_line same) ∙ f in
    absurd cc

pub says_no_header : (text : List ℕ) (item : EventLine) → Some item ≡ line_at SessionOne text
    → IfNone (header_of_line item) ((given : GivenHeader) → ¬ SpellsHeader text given)
says_no_header text item e = no_header_said text item (header_of_line item) e refl

pub says_nothing_in_session : (text : List ℕ) → None ≡ line_at SessionOne text
    → (given : GivenHeader) → ¬ SpellsHeader text given
says_nothing_in_session text e given s =
    let no : None ≡ Some (line.Header given) =
    e ∙ line_again SessionOne text (line.Header given) s in
    absurd cc

-- the same for a command

command_in_line : (kind : FileKind) (text : List ℕ) (item : EventLine)
    → SpellsLine (written_version kind) text item
    → IfSome (user_command_of item) (SpellsCommand kind text)
command_in_line kind text (line.Local address) s = tt
command_in_line kind text (line.Seed seed) s = tt
command_in_line kind text (line.First number) s = tt
command_in_line kind text (line.Round moment) s = tt
command_in_line kind text (line.Event (Datagram from bytes)) s = tt
command_in_line kind text (line.Event (Failed key)) s = tt
command_in_line kind text (line.Event (Command command)) s = s
command_in_line kind text (line.Header header) s = tt

pub says_command : (kind : FileKind) (text : List ℕ) (item : EventLine)
    → Some item ≡ line_at (written_version kind) text
    → IfSome (user_command_of item) (SpellsCommand kind text)
says_command kind text item e =
    command_in_line kind text item (line_took (written_version kind) text item (sym e))

no_command_said : (kind : FileKind) (text : List ℕ) (item : EventLine) (found : Option UserCommand)
    → Some item ≡ line_at (written_version kind) text → user_command_of item ≡ found
    → IfNone found ((given : UserCommand) → ¬ SpellsCommand kind text given)
no_command_said kind text item (Some command) e f = tt
no_command_said kind text item None e f =
    λ given s.
    let other : Some item ≡ Some (line.Event (Command given)) =
    e ∙ line_again (written_version kind) text (line.Event (Command given)) s in
    let same : item ≡ line.Event (Command given) = cc in
    let no : Some given ≡ None = sym (ap user_command_of same) ∙ f in
    absurd cc

pub says_no_command : (kind : FileKind) (text : List ℕ) (item : EventLine)
    → Some item ≡ line_at (written_version kind) text
    → IfNone (user_command_of item) ((given : UserCommand) → ¬ SpellsCommand kind text given)
says_no_command kind text item e = no_command_said kind text item (user_command_of item) e refl

pub no_command_in : (kind : FileKind) (text : List ℕ)
    → None ≡ line_at (written_version kind) text
    → (given : UserCommand) → ¬ SpellsCommand kind text given
no_command_in kind text e given s =
    let no : None ≡ Some (line.Event (Command given)) =
    e ∙ line_again (written_version kind) text (line.Event (Command given)) s in
    absurd cc
