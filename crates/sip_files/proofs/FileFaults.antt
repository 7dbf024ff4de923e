-- What a reader of a file finds: a draft, or the line with which no file goes on, and the fault
-- that says so.
use Rattle.std.proofs.Common.{◌≡◌, ℕ, ◌≤◌, ◌^◌, true, false, IsTrue, cond, List, [], ◌∷◌, ◌++◌, length, map, Option, Some, None, refl, sym, ap, subst, ◌∙◌, append_assoc, append-nil, arith, inl, inr, codes}
use Rattle.std.specs.List.{flat_map, AllZip}
use Rattle.std.specs.Option.{option_map}
use Rattle.std.specs.Str.{bytes_eq}
use Rattle.std.proofs.lemmas.List.Concat.{flat_map-append}
use Rattle.std.proofs.lemmas.Option.{some_pair_parts}
use Rattle.sip_text.specs.Options.{◌>>=◌}
use Rattle.sip_text.proofs.Cuts.{has_no, cut_again, uncut}
use Rattle.sip_text.proofs.Options.{bind_some, same_some, chosen, passed}
use Rattle.sip_text.specs.Cut.{cut_at}
use Rattle.sip_text.specs.Character.{is_token_byte}
use Rattle.sip_text.specs.Token.{is_token}
use Rattle.sip_grammar.specs.HeaderEntry.{is_named}
use Rattle.sip_grammar.specs.HeaderValue.{is_header_value}
use Rattle.sip_grammar.specs.OtherName.{is_compact_name, is_other_name}
use Rattle.sip_grammar.specs.Uri.{is_uri, is_uri_byte}
use Rattle.sip_grammar.specs.Word.{is_word, is_word_byte}
use Rattle.sip_message.specs.declared.addr.Addr.{Addr}
use Rattle.sip_message.specs.Content.{content_of_body}
use Rattle.sip_user.specs.declared.command.Plain.{Plain}
use Rattle.sip_user.specs.declared.command.UserCommand.{UserCommand}
use Rattle.sip_user.specs.declared.command.UserCommand.TheVariants as command
use Rattle.sip_round.specs.declared.config.Config.{Config}
use Rattle.sip_round.specs.declared.round.Event.{Event}
use Rattle.sip_round.specs.declared.round.Event.TheVariants.{Command}
use Rattle.sip_round.specs.declared.round.Round.{Round}
use Rattle.sip_files.specs.declared.version.Version.{Version}
use Rattle.sip_files.specs.declared.version.Version.TheVariants.{One, Two, SessionOne}
use Rattle.sip_files.specs.declared.version.FileKind.{FileKind}
use Rattle.sip_files.specs.declared.event_line.EventLine.{EventLine}
use Rattle.sip_files.specs.declared.event_line.EventLine.TheVariants as line
use Rattle.sip_files.specs.declared.draft.Stage.{Stage}
use Rattle.sip_files.specs.declared.draft.Stage.TheVariants as stage
use Rattle.sip_files.specs.declared.draft.Draft.{Draft}
use Rattle.sip_files.specs.declared.given_header.GivenHeader.{GivenHeader}
use Rattle.sip_files.specs.declared.progress.Progress.{Progress}
use Rattle.sip_files.specs.declared.events_fault.EventsFault.{EventsFault}
use Rattle.sip_files.specs.declared.events_fault.EventsFault.TheVariants.{TooLong, BadVersion, BadLine, NoMemory}
use Rattle.sip_files.specs.Field.{address_field}
use Rattle.sip_files.specs.Events.{IsPlain, SpellsLine, command_text}
use Rattle.sip_files.specs.EventFile.{Head, config_of, HeadedLine, SaysHeaded, headed_lines, with_ends, version_line, file_text, is_of_kind, SpellsFile, SpellsIn, IsFile, IsBegun, IsBadLine, HasVersion, TellsFault}
use Rattle.sip_files.specs.declared.given_header.GivenHeader.TheVariants as given
use Rattle.sip_files.specs.Given.{gathered, plain_with}
use Rattle.sip_files.specs.Unregister.{contacts_fit}
use Rattle.sip_files.specs.Written.{line_text}
use Rattle.sip_files.specs.Steps.Drafting.{is_begun, nothing_read, no_lines, with_event, taken, went, all_gone, drafted, gone}
use Rattle.sip_files.specs.Steps.Lines.{version_at, version_in, FollowsVersion, TellsVersion, TellsLine, Drafts, Stuck}
use Rattle.sip_files.proofs.FieldLaws.{same_text}
use Rattle.sip_files.proofs.FileLines.{SayAll, no_line, same_line, with_end, same_front, longer, each_one, no_text, version_no, first_line, in_version}
use Rattle.sip_files.proofs.LineEnds.{line_no}
use Rattle.sip_files.proofs.DraftStages.{file_of, nothing_of, begun_unless}
use Rattle.sip_files.proofs.Drafts.{gone-push, next_gone, Begun}
use Rattle.sip_files.proofs.HeadedLines.{zip_push, waiting, Headed, header_goes, headed_of}
use Rattle.sip_files.proofs.Unregistering.{at_once, by_bool, fit_goes_on, register_fits}
use Rattle.sip_files.proofs.WrittenHeaders.{other_spelled}
use Rattle.sip_files.proofs.OneFile.{after_version, said_by, lines_of, gives, goes, further_of, not_stuck, has_version, not_alone}

-- ---- what a reader finds

pub begun_of : (at : Stage) → is_begun at ≡ true → Begun at
begun_of stage.Local e = absurd cc
begun_of stage.Seed e = tt
begun_of stage.First e = tt
begun_of stage.Rounds e = tt

-- lines that give a draft, with no header line left over, are those of a file
spelled_by : (kind : FileKind) (version : Version) (lines : List (List ℕ)) (said : List EventLine)
    (draft : Draft) (text : List ℕ) → IsTrue (is_of_kind kind version)
    → gone no_lines said ≡ Some (waiting draft []) → Begun draft.stage
    → SayAll version lines said → text ≡ file_text version lines
    → SpellsFile kind draft.config draft.rounds text
spelled_by kind version lines said draft text fits e begun says is =
    let h = headed_of said (waiting draft []) e in
    let f = file_of h.items draft h.takes begun in
    let whole : said ≡ flat_map headed_lines h.headed =
    h.whole ∙ append-nil (flat_map headed_lines h.headed) in (
      version,
      fits,
      record {
        head = f.head;
        headed = h.headed;
        lines = lines;
        configured = f.configured;
        made = subst (λ (xs : List EventLine). AllZip SaysHeaded h.headed xs) f.spelled h.made;
        says = subst (λ (xs : List EventLine). SayAll version lines xs) whole says;
        spelled = is;
      },
    )

pub found : (kind : FileKind) (version : Version) (text after : List ℕ) (draft : Draft)
    → IsTrue (is_of_kind kind version) → FollowsVersion version text after
    → Drafts version draft after → SpellsFile kind draft.config draft.rounds text
found kind version text after draft fits follows d =
    spelled_by kind version d.lines d.said draft text fits d.gives (begun_of draft.stage d.begun)
    d.says
    (follows ∙ ap (λ (t : List ℕ). version_line version ++ 10 ∷ t) d.spelled
    ∙ sym (first_line version d.lines))

-- ---- lines with which a file begins

abbrev some_address : Addr
some_address = record { ip = 0 ∷ 0 ∷ 0 ∷ 0 ∷ []; port = 0 }

abbrev least_head : Head
least_head = record { local = some_address; seed = None; first = None }

abbrev least_lines : List (List ℕ)
least_lines = (codes "local" ++ address_field some_address) ∷ []

abbrev least_headed : List HeadedLine
least_headed = (record { headers = []; item = line.Local some_address }) ∷ []

least_says : (version : Version)
    → SayAll version least_lines (flat_map headed_lines least_headed)
least_says version = ((((refl, refl), omega arith), refl), tt)

-- a file with only its first two lines
least_spelled : (kind : FileKind) (version : Version) (text : List ℕ)
    → IsTrue (is_of_kind kind version) → text ≡ file_text version least_lines
    → SpellsFile kind (config_of least_head) [] text
least_spelled kind version text fits e = (
  version,
  fits,
  record {
    head = least_head;
    headed = least_headed;
    lines = least_lines;
    configured = refl;
    made = (refl, tt);
    says = least_says version;
    spelled = e;
  },
)

no_lines_begun : (kind : FileKind) (version : Version) → IsTrue (is_of_kind kind version)
    → IsBegun kind (file_text version [])
no_lines_begun kind version fits = (
  with_ends least_lines,
  config_of least_head,
  [],
  least_spelled kind version (file_text version [] ++ with_ends least_lines) fits
      (sym (flat_map-append (λ text. text ++ 10 ∷ []) (version_line version ∷ []) least_lines)),
)

-- a command before which any header may stand, a `*` too if an Expires of 0 seconds does
abbrev least_plain : Plain
least_plain = record {
  call_id = codes "c";
  address = some_address;
  method = codes "REGISTER";
  request_uri = codes "a";
  from = codes "a";
  to = codes "a";
  routes = [];
  content = content_of_body [];
}

abbrev plain_line : EventLine
plain_line = line.Event (Command (command.Plain least_plain))

least_is_plain : IsPlain least_plain
unfolding is_token is_token_byte is_word is_word_byte is_uri is_uri_byte
least_is_plain = record {
  call_id = (refl, refl);
  address = ((refl, refl), omega arith);
  method = refl;
  request_uri = (refl, refl);
  from = (refl, refl);
  to = (refl, refl);
  routes = refl;
  content = record { alone = refl; bytes = refl };
}

some_event : (rounds : List Round) (event : Event) → (rounds ≡ [] → ⊥)
    → (changed : List Round) × (with_event rounds event ≡ Some changed)
some_event [] event some = absurd (some refl)
some_event (round ∷ []) event some =
    ((record round { events = round.events ++ event ∷ [] }) ∷ [], refl)
some_event (round ∷ next ∷ rounds) event some =
    let more = some_event (next ∷ rounds) event (λ e. cc) in
    (round ∷ more.0, ap (option_map (λ rs. round ∷ rs)) more.1)

-- its first line was taken, since header lines stand in rounds
in_rounds : (progress : Progress) (said : List EventLine) → Headed progress said
    → (progress.headers ≡ [] → ⊥) → progress.draft.stage ≡ stage.Local → ⊥
unfolding all_gone
in_rounds progress said h some at =
    let none = nothing_of h.items progress.draft h.takes at in
    let same : nothing_read ≡ progress.draft =
    same_some nothing_read progress.draft (sym (ap (drafted nothing_read) none) ∙ h.takes) in
    h.in_round some (sym (ap (λ (d : Draft). d.rounds) same))

ended_lines : (version : Version) (lines : List (List ℕ)) (next : List ℕ)
    → file_text version lines ++ with_ends (next ∷ []) ≡ file_text version (lines ++ next ∷ [])
ended_lines version lines next =
    sym (flat_map-append (λ text. text ++ 10 ∷ []) (version_line version ∷ lines) (next ∷ []))

-- the line of an Expires of 0 seconds
abbrev expires_line : List ℕ
expires_line = line_text (line.Header (given.Other at_once))

expires_spelled : SpellsLine SessionOne expires_line (line.Header (given.Other at_once))
unfolding is_header_value is_named is_compact_name is_other_name is_token is_token_byte
expires_spelled = other_spelled at_once (record { name = refl; value = refl }, refl, refl)

-- it may stand where a header line may
expires_says : (version : Version) (text : List ℕ) (header : GivenHeader)
    → SpellsLine version text (line.Header header)
    → SpellsLine version expires_line (line.Header (given.Other at_once))
expires_says One text header says = absurd says
expires_says Two text header says = absurd says
expires_says SessionOne text header says = expires_spelled

expires_in : (version : Version) (lines : List (List ℕ)) (before after : List EventLine)
    (header : GivenHeader) → SayAll version lines (before ++ line.Header header ∷ after)
    → SpellsLine version expires_line (line.Header (given.Other at_once))
expires_in version [] [] after header says = elim says [ ]
expires_in version (text ∷ lines) [] after header says = expires_says version text header says.0
expires_in version [] (item ∷ before) after header says = elim says [ ]
expires_in version (text ∷ lines) (item ∷ before) after header says =
    expires_in version lines before after header says.1

-- a front of a file that begins is one, too
fewer_lines : (kind : FileKind) (version : Version) (lines : List (List ℕ)) (next : List ℕ)
    → IsBegun kind (file_text version (lines ++ next ∷ [])) → IsBegun kind (file_text version lines)
fewer_lines kind version lines next begun = (
  with_ends (next ∷ []) ++ begun.0,
  begun.1,
  begun.2,
  subst (SpellsFile kind begun.1 begun.2)
      (ap (λ text. text ++ begun.0) (sym (ended_lines version lines next))
      ∙ append_assoc (file_text version lines) (with_ends (next ∷ [])) begun.0) begun.3,
)

-- after header lines that such a command takes, a file can go on with it
goes_on_fit : (kind : FileKind) (version : Version) (lines : List (List ℕ)) (said : List EventLine)
    (draft : Draft) (header : GivenHeader) (headers : List GivenHeader)
    → IsTrue (is_of_kind kind version)
    → gone no_lines said ≡ Some (waiting draft (header ∷ headers)) → SayAll version lines said
    → contacts_fit (gathered (header ∷ headers)) (command.Plain least_plain) ≡ true
    → IsBegun kind (file_text version lines)
goes_on_fit kind version lines said draft header headers fits e says taken_by =
    let waits = waiting draft (header ∷ headers) in
    let h = headed_of said waits e in
    let event = Command (command.Plain (plain_with (gathered (header ∷ headers)) least_plain)) in
    let some : header ∷ headers ≡ [] → ⊥ = λ none. cc in
    let more = some_event draft.rounds event (h.in_round some) in
    let next : Draft = record draft { rounds = more.0 } in
    let whole : Option UserCommand =
    Some (command.Plain (plain_with (gathered (header ∷ headers)) least_plain)) in
    let went_on : went waits plain_line ≡ Some (waiting next []) =
    ap (λ b. option_map (λ (c : UserCommand). line.Event (Command c)) (cond b whole None)
    >>= λ item. option_map (λ (d : Draft). waiting d []) (taken draft item)) taken_by
    ∙ ap (λ o. option_map (λ d. waiting d [])
    (option_map (λ rounds. record draft { rounds = rounds }) o)) more.1 in
    let text = command_text (command.Plain least_plain) in (
      with_ends (text ∷ []),
      next.config,
      next.rounds,
      spelled_by kind version (lines ++ text ∷ []) (said ++ plain_line ∷ []) next
          (file_text version lines ++ with_ends (text ∷ [])) fits
          (gone-push went no_lines waits said plain_line e ∙ went_on)
          (begun_unless next.stage (in_rounds waits said h some))
          (zip_push (SpellsLine version) lines said text plain_line says
          (least_is_plain, refl))
          (ended_lines version lines text),
    )

-- after any header lines it can, maybe with an Expires of 0 seconds before that
goes_on : (kind : FileKind) (version : Version) (lines : List (List ℕ)) (said : List EventLine)
    (draft : Draft) (header : GivenHeader) (headers : List GivenHeader)
    → IsTrue (is_of_kind kind version)
    → gone no_lines said ≡ Some (waiting draft (header ∷ headers)) → SayAll version lines said
    → IsBegun kind (file_text version lines)
goes_on kind version lines said draft header headers fits e says =
    let all = header ∷ headers in
    let register = command.Plain least_plain in
    let h = headed_of said (waiting draft all) e in
    by_bool (contacts_fit (gathered all) register)
    (λ fit. goes_on_fit kind version lines said draft header headers fits e says fit)
    (λ unfit.
    let last = given.Other at_once in
    let fit = register_fits all register refl h.goes_on unfit in
    let went_on = header_goes draft.rounds (waiting draft all) last (h.in_round (λ none. cc))
    (fit_goes_on (gathered (all ++ last ∷ [])) register fit) in
    fewer_lines kind version lines expires_line
    (goes_on_fit kind version (lines ++ expires_line ∷ []) (said ++ line.Header last ∷ []) draft
    header (headers ++ last ∷ []) fits
    (gone-push went no_lines (waiting draft all) said (line.Header last) e ∙ went_on)
    (zip_push (SpellsLine version) lines said expires_line (line.Header last) says
    (expires_in version lines (flat_map headed_lines h.headed) (map line.Header headers) header
    (subst (SayAll version lines) h.whole says))) fit))

none_headed : (headed : List HeadedLine) (items : List EventLine)
    → AllZip SaysHeaded headed items → items ≡ [] → headed ≡ []
none_headed [] items all none = refl
none_headed (h ∷ headed) items all none =
    elim (subst (λ (xs : List EventLine). AllZip SaysHeaded (h ∷ headed) xs) none all) [ ]

nothing_said : (said : List EventLine) (progress : Progress) → (h : Headed progress said)
    → progress.headers ≡ [] → h.items ≡ [] → said ≡ []
nothing_said said progress h none no_items =
    let no_lines_headed : h.headed ≡ [] =
    none_headed h.headed h.items h.made no_items in
    h.whole ∙ ap (λ (hs : List HeadedLine). flat_map headed_lines hs
    ++ map line.Header progress.headers) no_lines_headed
    ∙ ap (λ (hs : List GivenHeader). map line.Header hs) none

begun_at : (kind : FileKind) (version : Version) (lines : List (List ℕ)) (said : List EventLine)
    (draft : Draft) (at : Stage) → IsTrue (is_of_kind kind version) → draft.stage ≡ at
    → gone no_lines said ≡ Some (waiting draft []) → SayAll version lines said
    → (Begun at → IsBegun kind (file_text version lines))
    → IsBegun kind (file_text version lines)
begun_at kind version lines said draft stage.Local fits is e says further =
    let h = headed_of said (waiting draft []) e in
    let none = no_text version lines said says (nothing_said said (waiting draft []) h refl
    (nothing_of h.items draft h.takes is)) in
    subst (λ (ls : List (List ℕ)). IsBegun kind (file_text version ls)) (sym none)
    (no_lines_begun kind version fits)
begun_at kind version lines said draft stage.Seed fits is e says further = further tt
begun_at kind version lines said draft stage.First fits is e says further = further tt
begun_at kind version lines said draft stage.Rounds fits is e says further = further tt

begun_with : (kind : FileKind) (version : Version) (lines : List (List ℕ)) (said : List EventLine)
    (draft : Draft) (headers : List GivenHeader) → IsTrue (is_of_kind kind version)
    → gone no_lines said ≡ Some (waiting draft headers) → SayAll version lines said
    → IsBegun kind (file_text version lines)
begun_with kind version lines said draft [] fits e says =
    begun_at kind version lines said draft draft.stage fits refl e says (λ begun. (
      [],
      draft.config,
      draft.rounds,
      spelled_by kind version lines said draft (file_text version lines ++ []) fits e begun says
          (append-nil (file_text version lines)),
    ))
begun_with kind version lines said draft (header ∷ headers) fits e says =
    goes_on kind version lines said draft header headers fits e says

-- lines that give a progress are the beginning of some file
pub begun_by : (kind : FileKind) (version : Version) (lines : List (List ℕ))
    (said : List EventLine) (progress : Progress) → IsTrue (is_of_kind kind version)
    → gone no_lines said ≡ Some progress → SayAll version lines said
    → IsBegun kind (file_text version lines)
begun_by kind version lines said progress fits e says =
    begun_with kind version lines said progress.draft progress.headers fits e says

-- ---- a line with which no file begins

stuck_by : (version : Version) (number : ℕ) (after : List ℕ) (k : Stuck version number after)
    (next rest rest' : List ℕ) (config : Config) (rounds : List Round) (text : List ℕ)
    (s : SpellsIn version config rounds text) (others : List (List ℕ)) (further : List EventLine)
    → k.left ≡ next ++ 10 ∷ rest → has_no 10 next ≡ true
    → said_by s ≡ k.said ++ further → SayAll version others further
    → next ++ 10 ∷ rest' ≡ with_ends others → ⊥
stuck_by version number after k next rest rest' config rounds text s [] further is none whole says
    e = no_line next rest' none (sym e)
stuck_by version number after k next rest rest' config rounds text s
    (line ∷ others) [] is none whole says e = elim says [ ]
stuck_by version number after k next rest rest' config rounds text s (line ∷ others)
    (item ∷ further) is none whole says e =
    let g = gives version config rounds text s in
    let same = same_line next rest' line (with_ends others) none (line_no version line item says.0)
    (e ∙ append_assoc line (10 ∷ []) (with_ends others)) in
    let stop = k.no_next line rest item says.0 (is ∙ ap (λ (t : List ℕ). t ++ 10 ∷ rest) same.0) in
    next_gone went no_lines k.progress (waiting g.draft []) k.said further item k.gives
    (sym (ap (gone no_lines) whole) ∙ goes version config rounds text s) stop

-- with the next line, no file begins
not_begun : (kind : FileKind) (version : Version) (number : ℕ) (after : List ℕ)
    (k : Stuck version number after) (next rest : List ℕ) → k.left ≡ next ++ 10 ∷ rest
    → has_no 10 next ≡ true → IsBegun kind (file_text version (k.before ++ next ∷ [])) → ⊥
not_begun kind version number after k next rest is none begun =
    let lines = k.before ++ next ∷ [] in
    let text = file_text version lines ++ begun.0 in
    let follows : FollowsVersion version text (with_ends lines ++ begun.0) =
    with_end (version_line version) (with_ends lines) begun.0 in
    let s = in_version kind version begun.1 begun.2 text (with_ends lines ++ begun.0) follows
    begun.3 in
    let f = same_front k.before s.lines (next ++ 10 ∷ begun.0)
    (each_one version k.before k.said k.says) (lines_of version begun.1 begun.2 text s)
    (sym (longer k.before next begun.0)
    ∙ after_version version begun.1 begun.2 text (with_ends lines ++ begun.0) s follows) in
    let on = further_of version begun.1 begun.2 text s k.before f.others k.said k.says f.whole in
    stuck_by version number after k next rest begun.0 begun.1 begun.2 text s f.others on.further is
    none on.whole on.says f.rest

pub bad_line : (kind : FileKind) (version : Version) (number : ℕ) (text after : List ℕ)
    → IsTrue (is_of_kind kind version) → FollowsVersion version text after
    → Stuck version number after → IsBadLine kind number text
bad_line kind version number text after fits follows k = record {
  none = λ file. not_stuck kind version file.0 file.1 text after number file.2 follows k;
  before = version_line version ∷ k.before;
  left = k.left;
  parts = follows ∙ ap (λ (t : List ℕ). version_line version ++ 10 ∷ t) k.parts
      ∙ sym (with_end (version_line version) (with_ends k.before) k.left);
  one_each = (version_no version, each_one version k.before k.said k.says);
  counted = omega (arith, k.counted);
  begun = begun_by kind version k.before k.said k.progress fits k.gives k.says;
  stuck = λ next rest is none begun.
      not_begun kind version number after k next rest is none begun;
}

pub no_end : (kind : FileKind) (version : Version) (text : List ℕ)
    → IsTrue (is_of_kind kind version) → text ≡ version_line version → IsBadLine kind 1 text
no_end kind version text fits e = record {
  none = λ file. not_alone kind version file.0 file.1 text e file.2;
  before = [];
  left = text;
  parts = refl;
  one_each = tt;
  counted = refl;
  begun = (
    file_text version least_lines,
    config_of least_head,
    [],
    least_spelled kind version (file_text version least_lines) fits refl,
  );
  stuck = λ next rest is one begun.
      (let cut : ◌≡◌ {A = Option (List ℕ × List ℕ)} None (Some (next, rest)) =
      sym (uncut 10 (version_line version) (version_no version)) ∙ ap (cut_at 10) (sym e ∙ is)
      ∙ cut_again 10 next rest one in absurd cc);
}

-- ---- faults

-- a line that names a version is the line of that version
version_named : (line : List ℕ) (version : Version) → version_at line ≡ Some version
    → line ≡ version_line version
version_named line version e =
    let P : Version → Type 0 = λ v. line ≡ version_line v in
    elim (chosen (bytes_eq line (version_line One)) (Some One)
    (cond (bytes_eq line (version_line Two)) (Some Two)
    (cond (bytes_eq line (version_line SessionOne)) (Some SessionOne) None)) (Some version) e) [
      | inl a ↦ subst P (same_some One version a.1) (same_text line (version_line One) a.0)
      | inr a ↦ elim (chosen (bytes_eq line (version_line Two)) (Some Two)
          (cond (bytes_eq line (version_line SessionOne)) (Some SessionOne) None)
          (Some version) a.1) [
            | inl b ↦ subst P (same_some Two version b.1) (same_text line (version_line Two) b.0)
            | inr b ↦ (let g =
                passed (bytes_eq line (version_line SessionOne)) SessionOne version b.1 in
                subst P g.1 (same_text line (version_line SessionOne) g.0))
          ]
    ]

pub version_found : (kind : FileKind) (line : List ℕ) (version : Version)
    → version_in kind line ≡ Some version
    → IsTrue (is_of_kind kind version) × (line ≡ version_line version)
version_found kind line version e =
    let v = bind_some (version_at line)
    (λ version. cond (is_of_kind kind version) (Some version) None) version e in
    let g = passed (is_of_kind kind v.0) v.0 version v.2 in
    let P : Version → Type 0 = λ v. IsTrue (is_of_kind kind v) × (line ≡ version_line v) in
    subst P g.1 (g.0, version_named line v.0 v.1)

named_again : (version : Version) → version_at (version_line version) ≡ Some version
named_again One = refl
named_again Two = refl
named_again SessionOne = refl

version_again : (kind : FileKind) (version : Version) → IsTrue (is_of_kind kind version)
    → version_in kind (version_line version) ≡ Some version
version_again kind version fits =
    ap (λ o. o >>= λ v. cond (is_of_kind kind v) (Some v) None) (named_again version)
    ∙ ap (λ r. cond r (Some version) None) fits

-- a line that names no version of the kind
unlike : (kind : FileKind) (line : List ℕ) → version_in kind line ≡ None → (version : Version)
    → IsTrue (is_of_kind kind version) → line ≡ version_line version → ⊥
unlike kind line none version fits is =
    let no : ◌≡◌ {A = Option Version} None (Some version) =
    sym none ∙ ap (version_in kind) is ∙ version_again kind version fits in
    absurd cc

-- a text of one line without an end
pub no_version : (kind : FileKind) (text : List ℕ) → cut_at 10 text ≡ None
    → version_in kind text ≡ None → HasVersion kind text → ⊥
no_version kind text uncut none has =
    elim (has.2) [
      | inl alone ↦ unlike kind text none has.0 has.1 alone
      | inr more ↦ (let cut : ◌≡◌ {A = Option (List ℕ × List ℕ)} None
          (Some (version_line has.0, more.0)) =
          sym uncut ∙ ap (cut_at 10) more.1
          ∙ cut_again 10 (version_line has.0) more.0 (version_no has.0) in absurd cc)
    ]

-- a text with a first line
pub no_version_line : (kind : FileKind) (text line after : List ℕ)
    → cut_at 10 text ≡ Some (line, after) → version_in kind line ≡ None → HasVersion kind text → ⊥
no_version_line kind text line after cut none has =
    elim (has.2) [
      | inl alone ↦ (let no : ◌≡◌ {A = Option (List ℕ × List ℕ)} (Some (line, after)) None =
          sym cut ∙ ap (cut_at 10) alone
          ∙ uncut 10 (version_line has.0) (version_no has.0) in absurd cc)
      | inr more ↦ (let same = some_pair_parts line (version_line has.0) after more.0
          (sym cut ∙ ap (cut_at 10) more.1
          ∙ cut_again 10 (version_line has.0) more.0 (version_no has.0)) in
          unlike kind line none has.0 has.1 same.0)
    ]

pub version_only : (kind : FileKind) (fault : EventsFault) (text : List ℕ) (config : Config)
    (rounds : List Round) → TellsVersion kind fault text → SpellsFile kind config rounds text
    → fault ≡ NoMemory
version_only kind TooLong text config rounds tells s = elim tells [ ]
version_only kind BadVersion text config rounds tells s =
    absurd (tells (has_version kind config rounds text s))
version_only kind (BadLine number) text config rounds tells s =
    absurd (not_alone kind tells.0 config rounds text tells.3 s)
version_only kind NoMemory text config rounds tells s = elim tells [ ]

pub version_tells : (kind : FileKind) (fault : EventsFault) (text : List ℕ)
    → length text ≤ 2 ^ 26 → TellsVersion kind fault text → TellsFault kind fault text
version_tells kind TooLong text small tells = elim tells [ ]
version_tells kind BadVersion text small tells = (small, tells)
version_tells kind (BadLine number) text small tells = (
  small,
  (tells.0, tells.1, inl tells.3),
  subst (λ (n : ℕ). IsBadLine kind n text) (sym tells.2)
      (no_end kind tells.0 text tells.1 tells.3),
)
version_tells kind NoMemory text small tells = tt

pub line_only : (kind : FileKind) (version : Version) (fault : EventsFault) (text after : List ℕ)
    (config : Config) (rounds : List Round) → FollowsVersion version text after
    → TellsLine version fault after → SpellsFile kind config rounds text → fault ≡ NoMemory
line_only kind version TooLong text after config rounds follows tells s = elim tells [ ]
line_only kind version BadVersion text after config rounds follows tells s = elim tells [ ]
line_only kind version (BadLine number) text after config rounds follows tells s =
    absurd (not_stuck kind version config rounds text after number s follows tells)
line_only kind version NoMemory text after config rounds follows tells s = refl

pub line_tells : (kind : FileKind) (version : Version) (fault : EventsFault)
    (text after : List ℕ) → length text ≤ 2 ^ 26 → IsTrue (is_of_kind kind version)
    → FollowsVersion version text after → TellsLine version fault after
    → TellsFault kind fault text
line_tells kind version TooLong text after small fits follows tells = elim tells [ ]
line_tells kind version BadVersion text after small fits follows tells = elim tells [ ]
line_tells kind version (BadLine number) text after small fits follows tells = (
  small,
  (version, fits, inr (after, follows)),
  bad_line kind version number text after fits follows tells,
)
line_tells kind version NoMemory text after small fits follows tells = tt

-- for a file of the kind no fault fits but lack of memory
pub never_bad : (kind : FileKind) (fault : EventsFault) (text : List ℕ) → TellsFault kind fault text
    → IsFile kind text → fault ≡ NoMemory
never_bad kind TooLong text tells file = absurd (omega (arith, file.3, tells))
never_bad kind BadVersion text tells file =
    absurd (tells.1 (has_version kind file.0 file.1 text file.2))
never_bad kind (BadLine number) text tells file = absurd ((tells.2).none file)
never_bad kind NoMemory text tells file = refl
