-- What is written for a session is that session.
use Rattle.std.proofs.Common.{◌≡◌, ℕ, true, cond, List, [], ◌∷◌, ◌++◌, map, Some, None, refl, sym, ap, subst, ◌∙◌, append_assoc, append-nil}
use Rattle.std.specs.List.{flat_map, AllByRecursion, AllZip}
use Rattle.std.specs.Option.{option_map}
use Rattle.std.proofs.lemmas.List.Concat.{flat_map-append}
use Rattle.sip_text.proofs.Options.{same_some}
use Rattle.sip_user.specs.declared.command.UserCommand.{UserCommand}
use Rattle.sip_user.specs.declared.command.UserCommand.TheVariants as command
use Rattle.sip_round.specs.declared.config.Config.{Config}
use Rattle.sip_round.specs.declared.round.Event.{Event}
use Rattle.sip_round.specs.declared.round.Event.TheVariants.{Datagram, Failed, Command}
use Rattle.sip_round.specs.declared.round.Round.{Round}
use Rattle.sip_files.specs.declared.version.Version.TheVariants.{SessionOne}
use Rattle.sip_files.specs.declared.version.FileKind.TheVariants as file_kind
use Rattle.sip_files.specs.declared.event_line.EventLine.{EventLine}
use Rattle.sip_files.specs.declared.event_line.EventLine.TheVariants as line
use Rattle.sip_files.specs.declared.given_header.GivenHeader.{GivenHeader}
use Rattle.sip_files.specs.declared.given_headers.GivenHeaders.{GivenHeaders}
use Rattle.sip_files.specs.EventFile.{HeadedLine, SaysHeaded, SpellsSession, head_lines, headed_lines, round_lines, version_line}
use Rattle.sip_files.specs.Given.{gathered, command_with, with_headers}
use Rattle.sip_files.specs.Unregister.{contacts_fit}
use Rattle.sip_files.specs.Written.{AreHeaders, IsConfig, IsEventOf, IsSessionCommand, IsSessionRound, bare, command_headers, ended_text, event_lines, headers_of, line_text, round_in, session_round_text, session_text}
use Rattle.sip_files.proofs.WrittenHeaders.{headers_with, headers_spelled, headers_written, gathered_again}
use Rattle.sip_files.proofs.WrittenLaws.{Spelled, each_zip, text_of, text_of-append, failed_spelled, whole_head, head_is, head_spelled, unheaded, unheaded_made, unheaded_lines}

-- ---- a command and its headers

abbrev given_of : UserCommand → List GivenHeader
given_of (command.Invite c) = headers_with c.routes c.content
given_of (command.Plain c) = headers_with c.routes c.content
given_of (command.Request c) = headers_with [] c.content
given_of (command.Respond c) = headers_with [] c.content
given_of (command.Ack c) = headers_with [] c.content
given_of (command.Prack c) = headers_with [] c.content
given_of (command.Cancel c) = []
given_of (command.AbandonRequest c) = []
given_of (command.AbandonDialog c) = []

-- without headers, a command stays as its line says it
bare_with_none : (c : UserCommand) (other : UserCommand)
    → command_with (gathered []) (bare c) ≡ Some other → bare c ≡ other
bare_with_none (command.Invite c) other e = same_some (bare (command.Invite c)) other e
bare_with_none (command.Plain c) other e = same_some (bare (command.Plain c)) other e
bare_with_none (command.Request c) other e = same_some (bare (command.Request c)) other e
bare_with_none (command.Respond c) other e = same_some (bare (command.Respond c)) other e
bare_with_none (command.Ack c) other e = same_some (bare (command.Ack c)) other e
bare_with_none (command.Prack c) other e = same_some (bare (command.Prack c)) other e
bare_with_none (command.Cancel c) other e = absurd cc
bare_with_none (command.AbandonRequest c) other e = absurd cc
bare_with_none (command.AbandonDialog c) other e = absurd cc

headed_by : (headers : List GivenHeader) (c : UserCommand)
    → contacts_fit (gathered headers) (bare c) ≡ true
    → command_with (gathered headers) (bare c) ≡ Some c
    → with_headers headers (line.Event (Command (bare c))) ≡ Some (line.Event (Command c))
headed_by [] c fit e =
    ap (λ (d : UserCommand). Some (line.Event (Command d))) (bare_with_none c c e)
headed_by (header ∷ headers) c fit e =
    ap (option_map (λ d. line.Event (Command d)))
    (ap (λ r. cond r (command_with (gathered (header ∷ headers)) (bare c)) None) fit ∙ e)

-- the headers that are written for a command give it its content again
given_again : (headers : List GivenHeader) (all : GivenHeaders) (c : UserCommand)
    → gathered headers ≡ all → contacts_fit all (bare c) ≡ true
    → command_with all (bare c) ≡ Some c
    → with_headers headers (line.Event (Command (bare c))) ≡ Some (line.Event (Command c))
given_again headers all c is fit e =
    headed_by headers c (ap (λ (g : GivenHeaders). contacts_fit g (bare c)) is ∙ fit)
    (ap (λ (g : GivenHeaders). command_with g (bare c)) is ∙ e)

command_made : (c : UserCommand) → contacts_fit (headers_of c) c ≡ true
    → with_headers (given_of c) (line.Event (Command (bare c))) ≡ Some (line.Event (Command c))
command_made (command.Invite c) fit =
    given_again (headers_with c.routes c.content) _ (command.Invite c)
    (gathered_again c.routes c.content) fit refl
command_made (command.Plain c) fit =
    given_again (headers_with c.routes c.content) _ (command.Plain c)
    (gathered_again c.routes c.content) fit refl
command_made (command.Request c) fit =
    given_again (headers_with [] c.content) _ (command.Request c) (gathered_again [] c.content)
    fit refl
command_made (command.Respond c) fit =
    given_again (headers_with [] c.content) _ (command.Respond c) (gathered_again [] c.content)
    fit refl
command_made (command.Ack c) fit =
    given_again (headers_with [] c.content) _ (command.Ack c) (gathered_again [] c.content) fit
    refl
command_made (command.Prack c) fit =
    given_again (headers_with [] c.content) _ (command.Prack c) (gathered_again [] c.content) fit
    refl
command_made (command.Cancel c) fit = refl
command_made (command.AbandonRequest c) fit = refl
command_made (command.AbandonDialog c) fit = refl

command_headers_spelled : (c : UserCommand) → AreHeaders (headers_of c)
    → Spelled SessionOne (map line.Header (given_of c))
command_headers_spelled (command.Invite c) fits = headers_spelled c.routes c.content fits
command_headers_spelled (command.Plain c) fits = headers_spelled c.routes c.content fits
command_headers_spelled (command.Request c) fits = headers_spelled [] c.content fits
command_headers_spelled (command.Respond c) fits = headers_spelled [] c.content fits
command_headers_spelled (command.Ack c) fits = headers_spelled [] c.content fits
command_headers_spelled (command.Prack c) fits = headers_spelled [] c.content fits
command_headers_spelled (command.Cancel c) fits = tt
command_headers_spelled (command.AbandonRequest c) fits = tt
command_headers_spelled (command.AbandonDialog c) fits = tt

command_headers_written : (c : UserCommand)
    → text_of (map line.Header (given_of c)) ≡ command_headers c
command_headers_written (command.Invite c) = headers_written c.routes c.content
command_headers_written (command.Plain c) = headers_written c.routes c.content
command_headers_written (command.Request c) = headers_written [] c.content
command_headers_written (command.Respond c) = headers_written [] c.content
command_headers_written (command.Ack c) = headers_written [] c.content
command_headers_written (command.Prack c) = headers_written [] c.content
command_headers_written (command.Cancel c) = refl
command_headers_written (command.AbandonRequest c) = refl
command_headers_written (command.AbandonDialog c) = refl

-- the line of a command says nothing about its headers
bare_text : (c : UserCommand)
    → line_text (line.Event (Command (bare c))) ≡ line_text (line.Event (Command c))
bare_text (command.Invite c) = refl
bare_text (command.Plain c) = refl
bare_text (command.Request c) = refl
bare_text (command.Respond c) = refl
bare_text (command.Ack c) = refl
bare_text (command.Prack c) = refl
bare_text (command.Cancel c) = refl
bare_text (command.AbandonRequest c) = refl
bare_text (command.AbandonDialog c) = refl

-- ---- events

abbrev event_headed : Event → HeadedLine
event_headed (Datagram from bytes) =
    record { headers = []; item = line.Event (Datagram from bytes) }
event_headed (Failed key) = record { headers = []; item = line.Event (Failed key) }
event_headed (Command c) = record { headers = given_of c; item = line.Event (Command (bare c)) }

event_made : (event : Event) → IsEventOf IsSessionCommand event
    → SaysHeaded (event_headed event) (line.Event event)
event_made (Datagram from bytes) fits = refl
event_made (Failed key) fits = refl
event_made (Command c) fits = command_made c (fits.1).1

event_spelled : (event : Event) → IsEventOf IsSessionCommand event
    → Spelled SessionOne (headed_lines (event_headed event))
event_spelled (Datagram from bytes) fits = ((fits, refl), tt)
event_spelled (Failed key) fits = (failed_spelled SessionOne key fits, tt)
event_spelled (Command c) fits =
    each_zip SessionOne (map line.Header (given_of c)) (line.Event (Command (bare c)) ∷ [])
    (command_headers_spelled c (fits.1).0) ((fits.0, refl), tt)

event_written : (event : Event)
    → text_of (headed_lines (event_headed event)) ≡ event_lines file_kind.Session event
unfolding ended_text
event_written (Datagram from bytes) = append-nil _
event_written (Failed key) = append-nil _
event_written (Command c) =
    text_of-append (map line.Header (given_of c)) (line.Event (Command (bare c)) ∷ [])
    ∙ (λ i. command_headers_written c i
    ++ append-nil (line_text (line.Event (Command (bare c))) ++ 10 ∷ []) i)
    ∙ ap (λ (t : List ℕ). command_headers c ++ (t ++ 10 ∷ [])) (bare_text c)

-- ---- rounds

abbrev round_headed : Round → List HeadedLine
round_headed round =
    (record { headers = []; item = line.Round round.moment }) ∷ map event_headed round.events

abbrev rounds_headed : List Round → List HeadedLine
rounds_headed rounds = flat_map round_headed rounds

zip_both : (xs : List HeadedLine) (ys : List EventLine) (zs : List HeadedLine)
    (ws : List EventLine) → AllZip SaysHeaded xs ys → AllZip SaysHeaded zs ws
    → AllZip SaysHeaded (xs ++ zs) (ys ++ ws)
zip_both [] [] zs ws none more = more
zip_both [] (y ∷ ys) zs ws none more = elim none [ ]
zip_both (x ∷ xs) [] zs ws none more = elim none [ ]
zip_both (x ∷ xs) (y ∷ ys) zs ws some more = (some.0, zip_both xs ys zs ws some.1 more)

events_made : (events : List Event) → AllByRecursion (IsEventOf IsSessionCommand) events
    → AllZip SaysHeaded (map event_headed events) (map line.Event events)
events_made [] fits = tt
events_made (event ∷ events) fits = (event_made event fits.0, events_made events fits.1)

rounds_made : (rounds : List Round) → AllByRecursion IsSessionRound rounds
    → AllZip SaysHeaded (rounds_headed rounds) (flat_map round_lines rounds)
rounds_made [] fits = tt
rounds_made (round ∷ rounds) fits =
    zip_both (round_headed round) (round_lines round) (rounds_headed rounds)
    (flat_map round_lines rounds) (refl, events_made round.events (fits.0).events)
    (rounds_made rounds fits.1)

abbrev all_lines : List HeadedLine → List EventLine
all_lines headed = flat_map headed_lines headed

events_spelled : (events : List Event) → AllByRecursion (IsEventOf IsSessionCommand) events
    → Spelled SessionOne (all_lines (map event_headed events))
events_spelled [] fits = tt
events_spelled (event ∷ events) fits =
    each_zip SessionOne (headed_lines (event_headed event)) (all_lines (map event_headed events))
    (event_spelled event fits.0) (events_spelled events fits.1)

spelled_after : (xs ys : List HeadedLine) → Spelled SessionOne (all_lines xs)
    → Spelled SessionOne (all_lines ys) → Spelled SessionOne (all_lines (xs ++ ys))
spelled_after xs ys some more =
    subst (λ (ls : List EventLine). Spelled SessionOne ls)
    (sym (flat_map-append headed_lines xs ys))
    (each_zip SessionOne (all_lines xs) (all_lines ys) some more)

rounds_spelled : (rounds : List Round) → AllByRecursion IsSessionRound rounds
    → Spelled SessionOne (all_lines (rounds_headed rounds))
rounds_spelled [] fits = tt
rounds_spelled (round ∷ rounds) fits =
    spelled_after (round_headed round) (rounds_headed rounds)
    (((fits.0).moment, refl), events_spelled round.events (fits.0).events)
    (rounds_spelled rounds fits.1)

text_after : (xs ys : List HeadedLine)
    → text_of (all_lines (xs ++ ys)) ≡ text_of (all_lines xs) ++ text_of (all_lines ys)
text_after xs ys =
    ap (λ (ls : List EventLine). text_of ls) (flat_map-append headed_lines xs ys)
    ∙ text_of-append (all_lines xs) (all_lines ys)

events_written : (events : List Event)
    → text_of (all_lines (map event_headed events))
    ≡ flat_map (event_lines file_kind.Session) events
events_written [] = refl
events_written (event ∷ events) =
    text_of-append (headed_lines (event_headed event)) (all_lines (map event_headed events))
    ∙ (λ i. event_written event i ++ events_written events i)

round_written : (round : Round)
    → text_of (all_lines (round_headed round)) ≡ session_round_text round
unfolding round_in ended_text
round_written round =
    ap (λ (t : List ℕ). (line_text (line.Round round.moment) ++ 10 ∷ []) ++ t)
    (events_written round.events)

rounds_written : (rounds : List Round)
    → text_of (all_lines (rounds_headed rounds)) ≡ flat_map session_round_text rounds
rounds_written [] = refl
rounds_written (round ∷ rounds) =
    text_after (round_headed round) (rounds_headed rounds)
    ∙ (λ i. round_written round i ++ rounds_written rounds i)

-- ---- the file

pub session_is_spelled : (config : Config) (rounds : List Round) → IsConfig config
    → AllByRecursion IsSessionRound rounds
    → SpellsSession config rounds (session_text config rounds)
unfolding session_text
session_is_spelled config rounds fits each =
    let head = whole_head config in
    let first = head_lines head in
    let front = unheaded first in
    let headed = front ++ rounds_headed rounds in
    let said = all_lines headed in
    let v = version_line SessionOne ++ 10 ∷ [] in (
      SessionOne,
      refl,
      record {
        head = head;
        headed = headed;
        lines = map line_text said;
        configured = refl;
        made = zip_both front first (rounds_headed rounds) (flat_map round_lines rounds)
            (unheaded_made first) (rounds_made rounds each);
        says = spelled_after front (rounds_headed rounds)
            (subst (λ (ls : List EventLine). Spelled SessionOne ls) (sym (unheaded_lines first))
            (head_spelled SessionOne config fits)) (rounds_spelled rounds each);
        spelled =
            ap (λ (t : List ℕ). t ++ flat_map session_round_text rounds) (head_is SessionOne config)
            ∙ append_assoc v (text_of first) (flat_map session_round_text rounds)
            ∙ ap (λ (t : List ℕ). v ++ (text_of first ++ t)) (sym (rounds_written rounds))
            ∙ ap (λ (ls : List EventLine). v ++ (text_of ls
            ++ text_of (all_lines (rounds_headed rounds)))) (sym (unheaded_lines first))
            ∙ ap (λ (t : List ℕ). v ++ t) (sym (text_after front (rounds_headed rounds)));
      },
    )
