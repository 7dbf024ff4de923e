-- A file of any length falls apart into its head and the lines of each round.
use Rattle.std.proofs.Common.{◌≡◌, ℕ, Bool, true, false, List, [], ◌∷◌, ◌++◌, map, Option, Some, None, refl, sym, ap, subst, ◌∙◌, append_assoc, append-nil, inl, inr}
use Rattle.std.specs.Prelude.{not, ◌&&◌, ◌==◌}
use Rattle.std.specs.List.{flat_map, AllByRecursion, AllZip}
use Rattle.std.proofs.lemmas.Bool.{and_parts, not-true}
use Rattle.std.proofs.lemmas.List.Concat.{flat_map-append}
use Rattle.sip_text.proofs.Cuts.{has_no}
use Rattle.sip_text.proofs.Options.{same_some}
use Rattle.sip_files.specs.EventFile.{HeadedLine, SaysHeaded, SpellsIn, head_lines, headed_lines, round_lines, version_line, with_ends}
use Rattle.sip_files.specs.Events.{SpellsEvent, SpellsHeaderIn, SpellsLine}
use Rattle.sip_files.specs.Field.{address_field, number_field, plain_field, rest_field}
use Rattle.sip_files.specs.Given.{with_headers}
use Rattle.sip_files.specs.declared.event_line.EventLine.{EventLine}
use Rattle.sip_files.specs.declared.event_line.EventLine.TheVariants as line
use Rattle.sip_files.specs.declared.given_header.GivenHeader.{GivenHeader}
use Rattle.sip_files.specs.declared.version.Version.{Version}
use Rattle.sip_files.specs.declared.version.Version.TheVariants.{One, Two, SessionOne}
use Rattle.sip_files.proofs.FileLines.{version_no, with_end}
use Rattle.sip_files.proofs.LineEnds.{line_no}
use Rattle.sip_files.specs.Rounds.{begins_round, first_round}
use Rattle.sip_round.specs.declared.config.Config.{Config}
use Rattle.sip_round.specs.declared.round.Event.{Event}
use Rattle.sip_round.specs.declared.round.Event.TheVariants.{Command, Datagram, Failed}
use Rattle.sip_round.specs.declared.round.Round.{Round}
use Rattle.sip_stream.specs.Streams.{IsRounds}
use Rattle.sip_stream.proofs.Chunks.{after_first}
use Rattle.sip_stream.proofs.Joined.{SaysRounds, is_plain, plain_line}
use Rattle.sip_user.specs.declared.command.UserCommand.{UserCommand}
use Rattle.sip_user.specs.declared.command.UserCommand.TheVariants as command

-- ---- a line begins a round if it says one

abbrev is_round : EventLine → Bool
is_round (line.Local address) = false
is_round (line.Seed seed) = false
is_round (line.First number) = false
is_round (line.Round moment) = true
is_round (line.Event event) = false
is_round (line.Header header) = false

abbrev begins : List ℕ → List ℕ → Bool
begins rest text = begins_round (text ++ rest)

command_begins : (version : Version) (text rest : List ℕ) (asked : UserCommand)
    → SpellsEvent version text (Command asked) → begins_round (text ++ rest) ≡ false
command_begins version text rest (command.Invite c) says = ap (begins rest) says.1
command_begins version text rest (command.Plain c) says = ap (begins rest) says.1
command_begins version text rest (command.Request c) says = ap (begins rest) says.1
command_begins version text rest (command.Respond c) says = ap (begins rest) says.1
command_begins version text rest (command.Ack c) says = ap (begins rest) says.1
command_begins version text rest (command.Prack c) says = ap (begins rest) says.1
command_begins version text rest (command.Cancel c) says = ap (begins rest) says.1
command_begins version text rest (command.AbandonRequest c) says = ap (begins rest) says.1
command_begins version text rest (command.AbandonDialog c) says = ap (begins rest) says.1

header_begins : (version : Version) (text rest : List ℕ) (header : GivenHeader)
    → SpellsHeaderIn version text header → begins_round (text ++ rest) ≡ false
unfolding rest_field
header_begins One text rest header says = elim says [ ]
header_begins Two text rest header says = elim says [ ]
header_begins SessionOne text rest header says = ap (begins rest) says.spelled

begins_line : (version : Version) (text rest : List ℕ) (item : EventLine)
    → SpellsLine version text item → begins_round (text ++ rest) ≡ is_round item
unfolding address_field number_field plain_field
begins_line version text rest (line.Local address) says = ap (begins rest) says.1
begins_line version text rest (line.Seed seed) says = ap (begins rest) says.1
begins_line version text rest (line.First number) says = ap (begins rest) says.1
begins_line version text rest (line.Round moment) says = ap (begins rest) says.1
begins_line version text rest (line.Event (Datagram from bytes)) says = ap (begins rest) says.1
begins_line version text rest (line.Event (Failed key)) says =
    elim says [
      | inl client ↦ ap (begins rest) client.spelled
      | inr server ↦ ap (begins rest) server.spelled
    ]
begins_line version text rest (line.Event (Command asked)) says =
    command_begins version text rest asked says
begins_line version text rest (line.Header header) says =
    header_begins version text rest header says

-- ---- the first round goes on up to such a line

line_then : (text rest : List ℕ) → has_no 10 text ≡ true
    → first_round (text ++ 10 ∷ rest) ≡ text ++ 10 ∷ after_first (begins_round rest) rest
unfolding first_round
line_then [] rest none = refl
line_then (b ∷ bytes) rest none =
    let parts = and_parts (not (b == 10)) (has_no 10 bytes) none in
    ap (λ (other : Bool). b ∷ after_first (other && begins_round (bytes ++ 10 ∷ rest))
    (bytes ++ 10 ∷ rest)) (not-true (b == 10) parts.0)
    ∙ ap (λ (t : List ℕ). b ∷ t) (line_then bytes rest parts.1)

-- none of these lines says a round
abbrev NoRound : List EventLine → Type 0
NoRound items = AllByRecursion (λ item. is_round item ≡ false) items

ends_there : (rest : List ℕ) → IsRounds rest → after_first (begins_round rest) rest ≡ []
unfolding first_round
ends_there rest (inl none) =
    ap (λ (t : List ℕ). after_first (begins_round t) t) none
ends_there rest (inr next) = ap (λ (stops : Bool). after_first stops rest) next

pub through : (version : Version) (first : List ℕ) (lines : List (List ℕ))
    (items : List EventLine) (rest : List ℕ) → has_no 10 first ≡ true
    → AllZip (SpellsLine version) lines items → NoRound items → IsRounds rest
    → first_round (first ++ 10 ∷ (with_ends lines ++ rest)) ≡ first ++ 10 ∷ with_ends lines
through version first [] [] rest none says other next =
    line_then first rest none ∙ ap (λ (t : List ℕ). first ++ 10 ∷ t) (ends_there rest next)
through version first [] (item ∷ items) rest none says other next = elim says [ ]
through version first (text ∷ lines) [] rest none says other next = elim says [ ]
through version first (text ∷ lines) (item ∷ items) rest none says other next =
    let after = with_ends lines ++ rest in
    let here = begins_line version text (10 ∷ after) item says.0 ∙ other.0 in
    ap (λ (t : List ℕ). first_round (first ++ 10 ∷ t)) (with_end text (with_ends lines) rest)
    ∙ line_then first (text ++ 10 ∷ after) none
    ∙ ap (λ (stops : Bool). first ++ 10 ∷ after_first stops (text ++ 10 ∷ after)) here
    ∙ ap (λ (t : List ℕ). first ++ 10 ∷ t)
    (through version text lines items rest (line_no version text item says.0) says.1 other.1 next)
    ∙ ap (λ (t : List ℕ). first ++ 10 ∷ t)
    (sym (append_assoc text (10 ∷ []) (with_ends lines)))

-- ---- lists that belong together, in two parts

pub record Parts {A B : Type 0} (P : A → B → Type 0) (xs : List A) (ys more : List B) : Type 0 where
  pub front : List A
  pub others : List A
  pub whole : xs ≡ front ++ others
  pub first : AllZip P front ys
  pub second : AllZip P others more

pub in_parts : {A B : Type 0} (P : A → B → Type 0) (xs : List A) (ys more : List B)
    → AllZip P xs (ys ++ more) → Parts P xs ys more
in_parts P xs [] more all =
    record { front = []; others = xs; whole = refl; first = tt; second = all }
in_parts P [] (y ∷ ys) more all = elim all [ ]
in_parts {A} P (x ∷ xs) (y ∷ ys) more all =
    let p = in_parts P xs ys more all.1 in
    record {
      front = x ∷ p.front;
      others = p.others;
      whole = ap (λ (zs : List A). x ∷ zs) p.whole;
      first = (all.0, p.first);
      second = p.second;
    }

pub no_round_append : (items more : List EventLine) → NoRound items → NoRound more
    → NoRound (items ++ more)
no_round_append [] more none others = others
no_round_append (item ∷ items) more none others =
    (none.0, no_round_append items more none.1 others)

-- ---- what stands before an event

no_round_headers : (headers : List GivenHeader) → NoRound (map line.Header headers)
no_round_headers [] = tt
no_round_headers (header ∷ headers) = (refl, no_round_headers headers)

headed_event : (headers : List GivenHeader) (item : EventLine) (event : Event)
    → with_headers headers item ≡ Some (line.Event event) → is_round item ≡ false
headed_event [] item event says = ap is_round (same_some item (line.Event event) says)
headed_event (header ∷ headers) (line.Local a) event says = refl
headed_event (header ∷ headers) (line.Seed a) event says = refl
headed_event (header ∷ headers) (line.First a) event says = refl
headed_event (header ∷ headers) (line.Round a) event says = absurd cc
headed_event (header ∷ headers) (line.Event e) event says = refl
headed_event (header ∷ headers) (line.Header a) event says = refl

pub no_round_events : (headed : List HeadedLine) (events : List Event)
    → AllZip SaysHeaded headed (map line.Event events) → NoRound (flat_map headed_lines headed)
no_round_events [] [] made = tt
no_round_events [] (event ∷ events) made = elim made [ ]
no_round_events (h ∷ hs) [] made = elim made [ ]
no_round_events (h ∷ hs) (event ∷ events) made =
    no_round_append (headed_lines h) (flat_map headed_lines hs)
    (no_round_append (map line.Header h.headers) (h.item ∷ []) (no_round_headers h.headers)
    (headed_event h.headers h.item event made.0, tt)) (no_round_events hs events made.1)

-- ---- the lines of rounds

-- lines of some rounds, and the lines of those after them
pub record FirstRound (version : Version) (round : Round) (more : List Round) (text : List ℕ) :
    Type 0 where
  pub lines : List ℕ
  pub left : List ℕ
  pub parts : text ≡ lines ++ left
  pub one : SaysRounds version (round ∷ []) lines
  pub others : SaysRounds version more left
  pub alone : (rest : List ℕ) → IsRounds rest → first_round (lines ++ rest) ≡ lines
  pub next : (rest : List ℕ) → begins_round (lines ++ rest) ≡ true

pub first_of : (version : Version) (round : Round) (more : List Round) (text : List ℕ)
    → SaysRounds version (round ∷ more) text → FirstRound version round more text
first_of version round more text s =
    let items = round_lines round in
    let h = in_parts SaysHeaded s.headed items (flat_map round_lines more) s.made in
    let said : flat_map headed_lines s.headed
    ≡ flat_map headed_lines h.front ++ flat_map headed_lines h.others =
    ap (flat_map headed_lines) h.whole ∙ flat_map-append headed_lines h.front h.others in
    let l = in_parts (SpellsLine version) s.lines (flat_map headed_lines h.front)
    (flat_map headed_lines h.others)
    (subst (λ (xs : List EventLine). AllZip (SpellsLine version) s.lines xs) said s.says) in
    let b = begun h.front l.front h.first l.first in
    record {
      lines = with_ends l.front;
      left = with_ends l.others;
      parts = s.spelled ∙ ap with_ends l.whole
          ∙ flat_map-append (λ text. text ++ 10 ∷ []) l.front l.others;
      one = record {
        headed = h.front;
        lines = l.front;
        made = subst (λ (xs : List EventLine). AllZip SaysHeaded h.front xs)
            (sym (append-nil items)) h.first;
        says = l.first;
        spelled = refl;
      };
      others = record {
        headed = h.others;
        lines = l.others;
        made = h.second;
        says = l.second;
        spelled = refl;
      };
      alone = b.0;
      next = b.1;
    }
  where
    begun : (headed : List HeadedLine) (lines : List (List ℕ))
        → AllZip SaysHeaded headed (round_lines round)
        → AllZip (SpellsLine version) lines (flat_map headed_lines headed)
        → ((rest : List ℕ) → IsRounds rest
        → first_round (with_ends lines ++ rest) ≡ with_ends lines)
        × ((rest : List ℕ) → begins_round (with_ends lines ++ rest) ≡ true)
    begun [] lines made says = elim made [ ]
    begun (h ∷ hs) lines made says =
        by_lines lines
        (subst (λ (xs : List EventLine). AllZip (SpellsLine version) lines
        (xs ++ flat_map headed_lines hs))
        (plain_line h (line.Round round.moment) made.0 tt) says)
      where
        by_lines : (lines : List (List ℕ))
            → AllZip (SpellsLine version) lines
            (line.Round round.moment ∷ flat_map headed_lines hs)
            → ((rest : List ℕ) → IsRounds rest
            → first_round (with_ends lines ++ rest) ≡ with_ends lines)
            × ((rest : List ℕ) → begins_round (with_ends lines ++ rest) ≡ true)
        by_lines [] says = elim says [ ]
        by_lines (text ∷ lines) says = (
          λ rest next.
              ap first_round (with_end text (with_ends lines) rest)
              ∙ through version text lines (flat_map headed_lines hs) rest
              (line_no version text (line.Round round.moment) says.0) says.1
              (no_round_events hs round.events made.1) next
              ∙ sym (append_assoc text (10 ∷ []) (with_ends lines)),
          λ rest.
              ap begins_round (with_end text (with_ends lines) rest)
              ∙ begins_line version text (10 ∷ (with_ends lines ++ rest))
              (line.Round round.moment) says.0,
        )

no_lines : (version : Version) (lines : List (List ℕ)) (headed : List HeadedLine)
    → AllZip SaysHeaded headed []
    → AllZip (SpellsLine version) lines (flat_map headed_lines headed) → with_ends lines ≡ []
no_lines version [] headed made says = refl
no_lines version (text ∷ lines) [] made says = elim says [ ]
no_lines version (text ∷ lines) (h ∷ hs) made says = elim made [ ]

pub of_none : (version : Version) (text : List ℕ) → SaysRounds version [] text → text ≡ []
of_none version text s = s.spelled ∙ no_lines version s.lines s.headed s.made s.says

pub are_rounds : (version : Version) (rounds : List Round) (text rest : List ℕ)
    → SaysRounds version rounds text → IsRounds rest → IsRounds (text ++ rest)
are_rounds version [] text rest s next =
    subst IsRounds (ap (λ (t : List ℕ). t ++ rest) (sym (of_none version text s))) next
are_rounds version (round ∷ rounds) text rest s next =
    let f = first_of version round rounds text s in
    inr (ap begins_round (ap (λ (t : List ℕ). t ++ rest) f.parts
    ∙ append_assoc f.lines f.left rest) ∙ f.next (f.left ++ rest))

-- ---- the head

pub record FirstLines (version : Version) (config : Config) (rounds : List Round)
    (text : List ℕ) : Type 0 where
  pub lines : List ℕ
  pub left : List ℕ
  pub parts : text ≡ lines ++ left
  pub head : SpellsIn version config [] lines
  pub others : SaysRounds version rounds left
  pub alone : (rest : List ℕ) → IsRounds rest → first_round (lines ++ rest) ≡ lines

-- lines that no header lines precede, and none of which says a round
abbrev OfHead : List EventLine → Type 0
OfHead items = AllByRecursion (λ item. is_plain item × (is_round item ≡ false)) items

no_round_head : (headed : List HeadedLine) (items : List EventLine) → OfHead items
    → AllZip SaysHeaded headed items → NoRound (flat_map headed_lines headed)
no_round_head [] items of_head made = tt
no_round_head (h ∷ hs) [] of_head made = elim made [ ]
no_round_head (h ∷ hs) (item ∷ items) of_head made =
    no_round_append (headed_lines h) (flat_map headed_lines hs)
    (subst NoRound (sym (plain_line h item made.0 (of_head.0).0)) ((of_head.0).1, tt))
    (no_round_head hs items of_head.1 made.1)

pub head_of : (version : Version) (config : Config) (rounds : List Round) (text : List ℕ)
    → SpellsIn version config rounds text → FirstLines version config rounds text
head_of version config rounds text s =
    let items = head_lines s.head in
    let h = in_parts SaysHeaded s.headed items (flat_map round_lines rounds) s.made in
    let said : flat_map headed_lines s.headed
    ≡ flat_map headed_lines h.front ++ flat_map headed_lines h.others =
    ap (flat_map headed_lines) h.whole ∙ flat_map-append headed_lines h.front h.others in
    let l = in_parts (SpellsLine version) s.lines (flat_map headed_lines h.front)
    (flat_map headed_lines h.others)
    (subst (λ (xs : List EventLine). AllZip (SpellsLine version) s.lines xs) said s.says) in
    let first = version_line version ++ 10 ∷ [] in
    let joined = flat_map-append (λ text. text ++ 10 ∷ []) l.front l.others in
    record {
      lines = first ++ with_ends l.front;
      left = with_ends l.others;
      parts = s.spelled ∙ ap (λ (ls : List (List ℕ)). first ++ with_ends ls) l.whole
          ∙ ap (λ (t : List ℕ). first ++ t) joined
          ∙ sym (append_assoc first (with_ends l.front) (with_ends l.others));
      head = record {
        head = s.head;
        headed = h.front;
        lines = l.front;
        configured = s.configured;
        made = subst (λ (xs : List EventLine). AllZip SaysHeaded h.front xs)
            (sym (append-nil items)) h.first;
        says = l.first;
        spelled = refl;
      };
      others = record {
        headed = h.others;
        lines = l.others;
        made = h.second;
        says = l.second;
        spelled = refl;
      };
      alone = λ rest next.
          ap first_round (with_end (version_line version) (with_ends l.front) rest)
          ∙ through version (version_line version) l.front (flat_map headed_lines h.front) rest
          (version_no version) l.first
          (no_round_head h.front items (each_of_head s.head.seed s.head.first) h.first) next
          ∙ sym (append_assoc (version_line version) (10 ∷ []) (with_ends l.front));
    }
  where
    each_of_head : (seed : Option (List ℕ)) (first : Option ℕ)
        → OfHead (head_lines (record { local = (s.head).local; seed = seed; first = first }))
    each_of_head None None = ((tt, refl), tt)
    each_of_head None (Some number) = ((tt, refl), ((tt, refl), tt))
    each_of_head (Some bytes) None = ((tt, refl), ((tt, refl), tt))
    each_of_head (Some bytes) (Some number) = ((tt, refl), ((tt, refl), ((tt, refl), tt)))
