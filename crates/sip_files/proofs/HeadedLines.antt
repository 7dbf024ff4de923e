-- Lines with the header lines before them. They can be read on as what they say together is taken,
-- and whatever can be read on is such lines.
use Rattle.std.proofs.Common.{◌≡◌, Bool, true, false, cond, List, [], ◌∷◌, ◌++◌, map, Option, Some, None, refl, sym, ap, subst, ◌∙◌, append_assoc, append-nil}
use Rattle.std.specs.List.{flat_map, AllZip}
use Rattle.std.specs.Option.{option_map}
use Rattle.std.proofs.lemmas.List.{map-append}
use Rattle.std.proofs.lemmas.List.Concat.{flat_map-append}
use Rattle.sip_text.specs.Options.{◌>>=◌}
use Rattle.sip_text.proofs.Options.{bind_some, passed, same_some}
use Rattle.sip_user.specs.declared.command.UserCommand.{UserCommand}
use Rattle.sip_round.specs.declared.round.Event.{Event}
use Rattle.sip_round.specs.declared.round.Event.TheVariants.{Datagram, Failed, Command}
use Rattle.sip_round.specs.declared.round.Round.{Round}
use Rattle.sip_files.specs.declared.draft.Draft.{Draft}
use Rattle.sip_files.specs.declared.event_line.EventLine.{EventLine}
use Rattle.sip_files.specs.declared.event_line.EventLine.TheVariants as line
use Rattle.sip_files.specs.declared.given_header.GivenHeader.{GivenHeader}
use Rattle.sip_files.specs.declared.progress.Progress.{Progress}
use Rattle.sip_files.specs.EventFile.{HeadedLine, SaysHeaded, headed_lines}
use Rattle.sip_files.specs.Given.{command_with, gathered, with_given, with_headers}
use Rattle.sip_files.specs.Steps.Drafting.{nothing_read, no_lines, with_event, taken, header_in_round, line_went, may_go_on, went, all_gone, drafted, gone}
use Rattle.sip_files.proofs.CommandLines.{mapped}
use Rattle.sip_files.proofs.Drafts.{gone-append, gone-one, gone-push}
use Rattle.sip_files.proofs.DraftStages.{event_none}
use Rattle.sip_files.proofs.Unregistering.{fit_goes_on, may_prefix}
use Rattle.sip_files.specs.Unregister.{contacts_fit}

pub zip_push : {A B : Type 0} (P : A → B → Type 0) (xs : List A) (ys : List B) (x : A) (y : B)
    → AllZip P xs ys → P x y → AllZip P (xs ++ x ∷ []) (ys ++ y ∷ [])
zip_push P [] [] x y all last = (last, tt)
zip_push P [] (b ∷ ys) x y all last = elim all [ ]
zip_push P (a ∷ xs) [] x y all last = elim all [ ]
zip_push P (a ∷ xs) (b ∷ ys) x y all last = (all.0, zip_push P xs ys x y all.1 last)

-- a draft, with header lines that wait for their command
abbrev pub waiting : Draft → List GivenHeader → Progress
waiting draft headers = record { draft = draft; headers = headers }

-- ---- what is taken can be read on

-- header lines stand before an event, and an event stands in a round
event_in : (draft next : Draft) (event : Event) (item : EventLine) → line.Event event ≡ item
    → taken draft item ≡ Some next → draft.rounds ≡ [] → ⊥
event_in draft next event item is e none =
    let read : taken draft (line.Event event) ≡ Some next = ap (taken draft) is ∙ e in
    let x = mapped (λ rounds. record draft { rounds = rounds }) (with_event draft.rounds event) next
    read in
    event_none draft.rounds x.0 event none x.1

in_round : (draft next : Draft) (header : GivenHeader) (headers : List GivenHeader)
    (item x : EventLine) → with_headers (header ∷ headers) item ≡ Some x
    → taken draft x ≡ Some next → draft.rounds ≡ [] → ⊥
in_round draft next header headers (line.Local a) x e f none = absurd cc
in_round draft next header headers (line.Seed a) x e f none = absurd cc
in_round draft next header headers (line.First a) x e f none = absurd cc
in_round draft next header headers (line.Round a) x e f none = absurd cc
in_round draft next header headers (line.Event (Datagram from bytes)) x e f none = absurd cc
in_round draft next header headers (line.Event (Failed key)) x e f none = absurd cc
in_round draft next header headers (line.Event (Command c)) x e f none =
    let made = mapped (λ (d : UserCommand). line.Event (Command d))
    (with_given (header ∷ headers) c) x e in
    event_in draft next (Command made.0) x made.2 f none
in_round draft next header headers (line.Header a) x e f none = absurd cc

pub header_goes : (rounds : List Round) (progress : Progress) (header : GivenHeader)
    → (rounds ≡ [] → ⊥) → may_go_on (gathered (progress.headers ++ header ∷ [])) ≡ true
    → header_in_round rounds progress header
    ≡ Some (record progress { headers = progress.headers ++ header ∷ [] })
header_goes [] progress header some may = absurd (some refl)
header_goes (round ∷ rounds) progress header some may =
    ap (λ b. cond b (Some (record progress { headers = progress.headers ++ header ∷ [] })) None) may

headers_go : (draft : Draft) (done headers : List GivenHeader) → (draft.rounds ≡ [] → ⊥)
    → may_go_on (gathered (done ++ headers)) ≡ true
    → gone (waiting draft done) (map line.Header headers) ≡ Some (waiting draft (done ++ headers))
unfolding all_gone
headers_go draft done [] some may =
    ap (λ (hs : List GivenHeader). Some (waiting draft hs)) (sym (append-nil done))
headers_go draft done (header ∷ headers) some may =
    let joined = append_assoc done (header ∷ []) headers in
    let all : may_go_on (gathered ((done ++ header ∷ []) ++ headers)) ≡ true =
    ap (λ (hs : List GivenHeader). may_go_on (gathered hs)) joined ∙ may in
    ap (λ o. o >>= λ next. gone next (map line.Header headers))
    (header_goes draft.rounds (waiting draft done) header some
    (may_prefix (done ++ header ∷ []) headers all))
    ∙ headers_go draft (done ++ header ∷ []) headers some all
    ∙ ap (λ (hs : List GivenHeader). Some (waiting draft hs)) joined

-- header lines before a command that takes them
may_stand : (header : GivenHeader) (headers : List GivenHeader) (item x : EventLine)
    → with_headers (header ∷ headers) item ≡ Some x
    → may_go_on (gathered (header ∷ headers)) ≡ true
may_stand header headers (line.Local a) x e = absurd cc
may_stand header headers (line.Seed a) x e = absurd cc
may_stand header headers (line.First a) x e = absurd cc
may_stand header headers (line.Round a) x e = absurd cc
may_stand header headers (line.Event (Datagram from bytes)) x e = absurd cc
may_stand header headers (line.Event (Failed key)) x e = absurd cc
may_stand header headers (line.Event (Command c)) x e =
    let made = mapped (λ (d : UserCommand). line.Event (Command d))
    (with_given (header ∷ headers) c) x e in
    fit_goes_on (gathered (header ∷ headers)) c
    (unless_none (contacts_fit (gathered (header ∷ headers)) c)
    (command_with (gathered (header ∷ headers)) c) made.0 made.1)
  where
    unless_none : (b : Bool) (o : Option UserCommand) (y : UserCommand) → cond b o None ≡ Some y
        → b ≡ true
    unless_none true o y e = refl
    unless_none false o y e = absurd cc
may_stand header headers (line.Header a) x e = absurd cc

before_goes : (draft next : Draft) (headers : List GivenHeader) (item x : EventLine)
    → with_headers headers item ≡ Some x → taken draft x ≡ Some next
    → gone (waiting draft []) (map line.Header headers) ≡ Some (waiting draft headers)
unfolding all_gone
before_goes draft next [] item x e f = refl
before_goes draft next (header ∷ headers) item x e f =
    headers_go draft [] (header ∷ headers) (in_round draft next header headers item x e f)
    (may_stand header headers item x e)

line_goes : (draft next : Draft) (headers : List GivenHeader) (item x : EventLine)
    → with_headers headers item ≡ Some x → taken draft x ≡ Some next
    → line_went (waiting draft headers) item ≡ Some (waiting next [])
line_goes draft next headers item x e f =
    ap (λ o. o >>= λ whole. option_map (λ d. waiting d []) (taken draft whole)) e
    ∙ ap (option_map (λ d. waiting d [])) f

item_goes : (draft next : Draft) (headers : List GivenHeader) (item x : EventLine)
    → with_headers headers item ≡ Some x → taken draft x ≡ Some next
    → went (waiting draft headers) item ≡ Some (waiting next [])
item_goes draft next headers (line.Local a) x e f =
    line_goes draft next headers (line.Local a) x e f
item_goes draft next headers (line.Seed a) x e f =
    line_goes draft next headers (line.Seed a) x e f
item_goes draft next headers (line.First a) x e f =
    line_goes draft next headers (line.First a) x e f
item_goes draft next headers (line.Round a) x e f =
    line_goes draft next headers (line.Round a) x e f
item_goes draft next headers (line.Event a) x e f =
    line_goes draft next headers (line.Event a) x e f
item_goes draft next [] (line.Header a) x e f =
    let none : ◌≡◌ {A = Option Draft} None (Some next) =
    ap (taken draft) (same_some (line.Header a) x e) ∙ f in absurd cc
item_goes draft next (header ∷ headers) (line.Header a) x e f = absurd cc

one_goes : (draft next : Draft) (headed : HeadedLine) (x : EventLine) → SaysHeaded headed x
    → taken draft x ≡ Some next
    → gone (waiting draft []) (headed_lines headed) ≡ Some (waiting next [])
one_goes draft next headed x e f =
    gone-append went (waiting draft []) (map line.Header headed.headers) (headed.item ∷ [])
    ∙ ap (λ o. o >>= λ p. gone p (headed.item ∷ []))
    (before_goes draft next headed.headers headed.item x e f)
    ∙ gone-one went (waiting draft headed.headers) headed.item
    ∙ item_goes draft next headed.headers headed.item x e f

pub headed_gone : (draft end : Draft) (headed : List HeadedLine) (items : List EventLine)
    → AllZip SaysHeaded headed items → drafted draft items ≡ Some end
    → gone (waiting draft []) (flat_map headed_lines headed) ≡ Some (waiting end [])
unfolding all_gone
headed_gone draft end [] [] all e = ap (option_map (λ d. waiting d [])) e
headed_gone draft end [] (x ∷ items) all e = elim all [ ]
headed_gone draft end (h ∷ headed) [] all e = elim all [ ]
headed_gone draft end (h ∷ headed) (x ∷ items) all e =
    let one = bind_some (taken draft x) (λ next. drafted next items) end e in
    gone-append went (waiting draft []) (headed_lines h) (flat_map headed_lines headed)
    ∙ ap (λ o. o >>= λ p. gone p (flat_map headed_lines headed))
    (one_goes draft one.0 h x all.0 one.1)
    ∙ headed_gone one.0 end headed items all.1 one.2

-- ---- what can be read on are lines with their headers

-- the lines so far: those taken with their headers, and the header lines that wait
pub record Headed (progress : Progress) (said : List EventLine) : Type 0 where
  pub headed : List HeadedLine
  pub items : List EventLine
  pub made : AllZip SaysHeaded headed items
  pub takes : drafted nothing_read items ≡ Some progress.draft
  pub whole : said ≡ flat_map headed_lines headed ++ map line.Header progress.headers
  pub in_round : (progress.headers ≡ [] → ⊥) → progress.draft.rounds ≡ [] → ⊥
  pub goes_on : may_go_on (gathered progress.headers) ≡ true

module _ (progress next : Progress) (said : List EventLine) (h : Headed progress said) where
  header_step : (rounds : List Round) (header : GivenHeader) → progress.draft.rounds ≡ rounds
      → header_in_round rounds progress header ≡ Some next
      → Headed next (said ++ line.Header header ∷ [])
  header_step [] header is e = absurd cc
  header_step (round ∷ rounds) header is e =
      let more : Progress = record progress { headers = progress.headers ++ header ∷ [] } in
      let before = flat_map headed_lines h.headed in
      let stands = passed (may_go_on (gathered (progress.headers ++ header ∷ []))) more next e in
      subst (λ (p : Progress). Headed p (said ++ line.Header header ∷ []))
      stands.1 (record {
        headed = h.headed;
        items = h.items;
        made = h.made;
        takes = h.takes;
        whole = ap (λ (ls : List EventLine). ls ++ line.Header header ∷ []) h.whole
            ∙ append_assoc before (map line.Header progress.headers) (line.Header header ∷ [])
            ∙ ap (λ (ls : List EventLine). before ++ ls)
            (sym (map-append line.Header progress.headers (header ∷ [])));
        in_round = λ some none.
            (let no : ◌≡◌ {A = List Round} (round ∷ rounds) [] = sym is ∙ none in absurd cc);
        goes_on = stands.0;
      })

  line_step : (item : EventLine) → line_went progress item ≡ Some next
      → Headed next (said ++ item ∷ [])
  line_step item e =
      let x = bind_some (with_headers progress.headers item)
      (λ whole. option_map (λ d. waiting d []) (taken progress.draft whole)) next e in
      let d = mapped (λ d. waiting d []) (taken progress.draft x.0) next x.2 in
      let one : HeadedLine = record { headers = progress.headers; item = item } in
      let before = flat_map headed_lines h.headed in
      subst (λ (p : Progress). Headed p (said ++ item ∷ [])) d.2 (record {
        headed = h.headed ++ one ∷ [];
        items = h.items ++ x.0 ∷ [];
        made = zip_push SaysHeaded h.headed h.items one x.0 h.made x.1;
        takes = gone-push taken nothing_read progress.draft h.items x.0 h.takes ∙ d.1;
        whole = ap (λ (ls : List EventLine). ls ++ item ∷ []) h.whole
            ∙ append_assoc before (map line.Header progress.headers) (item ∷ [])
            ∙ ap (λ (ls : List EventLine). before ++ ls) (sym (append-nil (headed_lines one)))
            ∙ sym (flat_map-append headed_lines h.headed (one ∷ []))
            ∙ sym (append-nil (flat_map headed_lines (h.headed ++ one ∷ [])));
        in_round = λ some. absurd (some refl);
        goes_on = refl;
      })

  step_headed : (item : EventLine) → went progress item ≡ Some next
      → Headed next (said ++ item ∷ [])
  step_headed (line.Local a) e = line_step (line.Local a) e
  step_headed (line.Seed a) e = line_step (line.Seed a) e
  step_headed (line.First a) e = line_step (line.First a) e
  step_headed (line.Round a) e = line_step (line.Round a) e
  step_headed (line.Event a) e = line_step (line.Event a) e
  step_headed (line.Header header) e = header_step progress.draft.rounds header refl e

all_headed : (progress end : Progress) (before lines : List EventLine) → Headed progress before
    → gone progress lines ≡ Some end → Headed end (before ++ lines)
unfolding all_gone
all_headed progress end before [] h e =
    subst (λ (p : Progress). Headed p (before ++ [])) (same_some progress end e)
    (subst (λ (ls : List EventLine). Headed progress ls) (sym (append-nil before)) h)
all_headed progress end before (item ∷ lines) h e =
    let x = bind_some (went progress item) (λ next. gone next lines) end e in
    let further = all_headed x.0 end (before ++ item ∷ []) lines
    (step_headed progress x.0 before h item x.1) x.2 in
    subst (λ (ls : List EventLine). Headed end ls) (append_assoc before (item ∷ []) lines) further

nothing_headed : Headed no_lines []
unfolding all_gone
nothing_headed = record {
  headed = [];
  items = [];
  made = tt;
  takes = refl;
  whole = refl;
  in_round = λ some. absurd (some refl);
  goes_on = refl;
}

pub headed_of : (said : List EventLine) (end : Progress) → gone no_lines said ≡ Some end
    → Headed end said
headed_of said end e = all_headed no_lines end [] said nothing_headed e
