-- What a session says fits a session: its commands have a status, and Contacts that may stand
-- before them.
use Rattle.std.proofs.Common.{◌≡◌, ◌≤◌, ℕ, Bool, true, false, cond, List, [], ◌∷◌, ◌++◌, map, Some, None, refl, sym, ap, subst, ◌∙◌, append_assoc}
use Rattle.std.specs.List.{flat_map, AllByRecursion, AllZip}
use Rattle.sip_text.proofs.Options.{same_some}
use Rattle.sip_message.specs.Content.{Content, content_of_body}
use Rattle.sip_message.specs.declared.name_addr.NameAddr.{NameAddr}
use Rattle.sip_user.specs.declared.command.Respond.{Respond}
use Rattle.sip_user.specs.declared.command.UserCommand.{UserCommand}
use Rattle.sip_user.specs.declared.command.UserCommand.TheVariants as command
use Rattle.sip_round.specs.declared.config.Config.{Config}
use Rattle.sip_round.specs.declared.round.Event.{Event}
use Rattle.sip_round.specs.declared.round.Event.TheVariants.{Datagram, Failed, Command}
use Rattle.sip_round.specs.declared.round.Round.{Round}
use Rattle.sip_files.specs.declared.version.Version.{Version}
use Rattle.sip_files.specs.declared.version.Version.TheVariants.{Two}
use Rattle.sip_files.specs.declared.event_line.EventLine.{EventLine}
use Rattle.sip_files.specs.declared.event_line.EventLine.TheVariants as line
use Rattle.sip_files.specs.declared.given_header.GivenHeader.{GivenHeader}
use Rattle.sip_files.specs.declared.given_headers.GivenHeaders.{GivenHeaders}
use Rattle.sip_files.specs.EventFile.{HeadedLine, SaysHeaded, SpellsSession, head_lines, headed_lines, round_lines}
use Rattle.sip_files.specs.EventLines.{SpellsLines}
use Rattle.sip_files.specs.Events.{IsCommandLine, SpellsLine}
use Rattle.sip_files.specs.Given.{command_with, gathered, unrouted, with_given, with_headers}
use Rattle.sip_files.specs.Rounds.{SpellsRound}
use Rattle.sip_files.specs.Unregister.{contacts_fit}
use Rattle.sip_files.specs.Written.{FitsSession, HasStatus, SpellsEventLine, by_header, headers_of}
use Rattle.sip_files.proofs.CommandLines.{mapped}

-- ---- what a rule gives where another is known

pub each_one : {X : Type 0} (P Q : X → Type 0) (xs : List X)
    → AllByRecursion (λ x. P x → Q x) xs → AllByRecursion P xs → AllByRecursion Q xs
each_one P Q [] both all = tt
each_one P Q (x ∷ xs) both all = (both.0 all.0, each_one P Q xs both.1 all.1)

-- ---- a command with its headers

-- the command has no header, and a status
abbrev pub IsBare : UserCommand → Type 0
IsBare c = HasStatus c × (headers_of c ≡ gathered [])

no_header : (content : Content) → content ≡ content_of_body content.body
    → by_header [] content ≡ gathered []
no_header content alone = ap (by_header []) alone

pub line_bare : (version : Version) (c : UserCommand) → IsCommandLine version c → IsBare c
line_bare version (command.Invite c) fits = (
  tt,
  ap (λ (routes : List NameAddr). by_header routes c.content) fits.routes
      ∙ no_header c.content (fits.content).alone,
)
line_bare version (command.Plain c) fits = (
  tt,
  ap (λ (routes : List NameAddr). by_header routes c.content) fits.routes
      ∙ no_header c.content (fits.content).alone,
)
line_bare version (command.Request c) fits = (tt, no_header c.content (fits.content).alone)
line_bare version (command.Respond c) fits = (fits.status, no_header c.content (fits.content).alone)
line_bare version (command.Ack c) fits = (tt, no_header c.content (fits.content).alone)
line_bare version (command.Prack c) fits = (tt, no_header c.content (fits.content).alone)
line_bare version (command.Cancel c) fits = (tt, refl)
line_bare version (command.AbandonRequest c) fits = (tt, refl)
line_bare version (command.AbandonDialog c) fits = (tt, refl)

bare_fits : (c : UserCommand) → IsBare c → FitsSession (Command c)
bare_fits c bare = (
  bare.0,
  subst (λ (headers : GivenHeaders). contacts_fit headers c ≡ true) (sym bare.1) refl,
)

taken : {A : Type 0} (routes : List NameAddr) (asked given : A)
    → unrouted routes asked ≡ Some given → asked ≡ given
taken [] asked given e = same_some asked given e
taken (route ∷ routes) asked given e = absurd cc

-- the command with these headers has its own status, and they are its headers
module _ (all : GivenHeaders) where
  with_fits : (c whole : UserCommand) → HasStatus c → contacts_fit all c ≡ true
      → command_with all c ≡ Some whole → FitsSession (Command whole)
  with_fits (command.Invite c) whole status fit e =
      subst (λ (w : UserCommand). FitsSession (Command w)) (same_some _ whole e) (tt, fit)
  with_fits (command.Plain c) whole status fit e =
      subst (λ (w : UserCommand). FitsSession (Command w)) (same_some _ whole e) (tt, fit)
  with_fits (command.Request c) whole status fit e =
      let made = mapped command.Request _ whole e in
      subst (λ (w : UserCommand). FitsSession (Command w))
      (ap command.Request (taken all.routes _ made.0 made.1) ∙ made.2) (tt, fit)
  with_fits (command.Respond c) whole status fit e =
      let made = mapped command.Respond _ whole e in
      subst (λ (w : UserCommand). FitsSession (Command w))
      (ap command.Respond (taken all.routes _ made.0 made.1) ∙ made.2) (status, fit)
  with_fits (command.Ack c) whole status fit e =
      let made = mapped command.Ack _ whole e in
      subst (λ (w : UserCommand). FitsSession (Command w))
      (ap command.Ack (taken all.routes _ made.0 made.1) ∙ made.2) (tt, fit)
  with_fits (command.Prack c) whole status fit e =
      let made = mapped command.Prack _ whole e in
      subst (λ (w : UserCommand). FitsSession (Command w))
      (ap command.Prack (taken all.routes _ made.0 made.1) ∙ made.2) (tt, fit)
  with_fits (command.Cancel c) whole status fit e = absurd cc
  with_fits (command.AbandonRequest c) whole status fit e = absurd cc
  with_fits (command.AbandonDialog c) whole status fit e = absurd cc

  if_fits : (c whole : UserCommand) → HasStatus c → (fit : Bool) → contacts_fit all c ≡ fit
      → cond fit (command_with all c) None ≡ Some whole → FitsSession (Command whole)
  if_fits c whole status true fit e = with_fits c whole status fit e
  if_fits c whole status false fit e = absurd cc

pub given_fits : (headers : List GivenHeader) (c whole : UserCommand) → IsBare c
    → with_given headers c ≡ Some whole → FitsSession (Command whole)
given_fits [] c whole bare e =
    subst (λ (w : UserCommand). FitsSession (Command w)) (same_some c whole e) (bare_fits c bare)
given_fits (header ∷ headers) c whole bare e =
    if_fits (gathered (header ∷ headers)) c whole bare.0
    (contacts_fit (gathered (header ∷ headers)) c) refl e

-- ---- a line with its headers

-- an event that a line says fits
abbrev LineFits : EventLine → Type 0
LineFits (line.Local address) = Unit {0}
LineFits (line.Seed seed) = Unit {0}
LineFits (line.First number) = Unit {0}
LineFits (line.Round moment) = Unit {0}
LineFits (line.Event event) = FitsSession event
LineFits (line.Header header) = Unit {0}

alone_fits : (version : Version) (text : List ℕ) (item : EventLine)
    → SpellsLine version text item → LineFits item
alone_fits version text (line.Local address) s = tt
alone_fits version text (line.Seed seed) s = tt
alone_fits version text (line.First number) s = tt
alone_fits version text (line.Round moment) s = tt
alone_fits version text (line.Event (Datagram from bytes)) s = tt
alone_fits version text (line.Event (Failed key)) s = tt
alone_fits version text (line.Event (Command c)) s = bare_fits c (line_bare version c s.0)
alone_fits version text (line.Header header) s = tt

headed_fits : (version : Version) (text : List ℕ) (headers : List GivenHeader)
    (item whole : EventLine) → SpellsLine version text item
    → with_headers headers item ≡ Some whole → LineFits whole
headed_fits version text [] item whole s e =
    subst LineFits (same_some item whole e) (alone_fits version text item s)
headed_fits version text (header ∷ headers) (line.Local address) whole s e = absurd cc
headed_fits version text (header ∷ headers) (line.Seed seed) whole s e = absurd cc
headed_fits version text (header ∷ headers) (line.First number) whole s e = absurd cc
headed_fits version text (header ∷ headers) (line.Round moment) whole s e = absurd cc
headed_fits version text (header ∷ headers) (line.Event (Datagram from bytes)) whole s e = absurd cc
headed_fits version text (header ∷ headers) (line.Event (Failed key)) whole s e = absurd cc
headed_fits version text (header ∷ headers) (line.Event (Command c)) whole s e =
    let made = mapped (λ (d : UserCommand). line.Event (Command d))
    (with_given (header ∷ headers) c) whole e in
    subst LineFits made.2
    (given_fits (header ∷ headers) c made.0 (line_bare version c s.0) made.1)
headed_fits version text (header ∷ headers) (line.Header other) whole s e = absurd cc

-- ---- all lines

-- the line behind others
behind : {A B : Type 0} (P : A → B → Type 0) (texts : List A) (xs : List B) (y : B) (ys : List B)
    → AllZip P texts (xs ++ y ∷ ys)
    → (text : A) × P text y × (left : List A) × AllZip P left ys
behind P [] [] y ys all = elim all [ ]
behind P (t ∷ texts) [] y ys all = (t, all.0, texts, all.1)
behind P [] (x ∷ xs) y ys all = elim all [ ]
behind P (t ∷ texts) (x ∷ xs) y ys all = behind P texts xs y ys all.1

lines_fit : (version : Version) (texts : List (List ℕ)) (headed : List HeadedLine)
    (items : List EventLine) → AllZip (SpellsLine version) texts (flat_map headed_lines headed)
    → AllZip SaysHeaded headed items → AllByRecursion LineFits items
lines_fit version texts [] [] says made = tt
lines_fit version texts [] (x ∷ items) says made = elim made [ ]
lines_fit version texts (h ∷ headed) [] says made = elim made [ ]
lines_fit version texts (h ∷ headed) (x ∷ items) says made =
    let last = behind (SpellsLine version) texts (map line.Header h.headers) h.item
    (flat_map headed_lines headed)
    (subst (λ (ls : List EventLine). AllZip (SpellsLine version) texts ls)
    (append_assoc (map line.Header h.headers) (h.item ∷ []) (flat_map headed_lines headed))
    says) in (
      headed_fits version last.0 h.headers h.item x last.1 made.0,
      lines_fit version last.2 headed items last.3 made.1,
    )

-- ---- the events of the rounds

last_ones : {X : Type 0} (P : X → Type 0) (xs ys : List X) → AllByRecursion P (xs ++ ys)
    → AllByRecursion P ys
last_ones P [] ys all = all
last_ones P (x ∷ xs) ys all = last_ones P xs ys all.1

-- the events of a round, and the lines behind them
events_fit : (events : List Event) (left : List EventLine)
    → AllByRecursion LineFits (map line.Event events ++ left)
    → AllByRecursion FitsSession events × AllByRecursion LineFits left
events_fit [] left all = (tt, all)
events_fit (event ∷ events) left all =
    let more = events_fit events left all.1 in ((all.0, more.0), more.1)

rounds_fit : (rounds : List Round) → AllByRecursion LineFits (flat_map round_lines rounds)
    → AllByRecursion (λ (round : Round). AllByRecursion FitsSession round.events) rounds
rounds_fit [] all = tt
rounds_fit (round ∷ rounds) all =
    let parts = events_fit round.events (flat_map round_lines rounds) all.1 in
    (parts.0, rounds_fit rounds parts.1)

session_fits : (config : Config) (rounds : List Round) (text : List ℕ)
    → SpellsSession config rounds text
    → AllByRecursion (λ (round : Round). AllByRecursion FitsSession round.events) rounds
session_fits config rounds text s =
    let said = s.2 in
    rounds_fit rounds
    (last_ones LineFits (head_lines said.head) (flat_map round_lines rounds)
    (lines_fit s.0 said.lines said.headed _ said.says said.made))

-- ---- what a text says

pub line_says : (text : List ℕ) (event : Event) → SpellsEventLine text event → FitsSession event
line_says text event s = alone_fits Two text (line.Event event) s

pub lines_say : (lines : List ℕ) (event : Event) → SpellsLines lines event → FitsSession event
lines_say lines event s = ((session_fits s.config _ _ s.spelled).0).0

pub round_says : (lines : List ℕ) (round : Round) → SpellsRound lines round
    → AllByRecursion FitsSession round.events
round_says lines round s = (session_fits s.config _ _ s.spelled).0
