-- The lines of a round behind a head: behind other rounds they say the same.
use Rattle.std.proofs.Common.{◌≡◌, ℕ, List, [], ◌∷◌, ◌++◌, map, Option, Some, None, refl, sym, ap, subst, ◌∙◌, append_assoc}
use Rattle.std.specs.List.{flat_map, AllZip}
use Rattle.std.proofs.lemmas.List.Concat.{flat_map-append}
use Rattle.sip_text.proofs.Options.{same_some}
use Rattle.sip_user.specs.declared.command.UserCommand.{UserCommand}
use Rattle.sip_message.specs.declared.addr.Addr.{Addr}
use Rattle.sip_round.specs.declared.config.Config.{Config}
use Rattle.sip_round.specs.declared.round.Event.{Event}
use Rattle.sip_round.specs.declared.round.Event.TheVariants.{Datagram, Failed, Command}
use Rattle.sip_round.specs.declared.round.Round.{Round}
use Rattle.sip_files.specs.declared.event_line.EventLine.{EventLine}
use Rattle.sip_files.specs.declared.event_line.EventLine.TheVariants as line
use Rattle.sip_files.specs.declared.given_header.GivenHeader.{GivenHeader}
use Rattle.sip_files.specs.declared.version.FileKind.{FileKind}
use Rattle.sip_files.specs.declared.version.Version.{Version}
use Rattle.sip_files.specs.EventFile.{HeadedLine, SaysHeaded, SpellsFile, SpellsIn, file_lines, head_lines, headed_lines, round_lines, version_line, with_ends}
use Rattle.sip_files.specs.Events.{SpellsLine}
use Rattle.sip_files.specs.Given.{with_given, with_headers}
use Rattle.sip_files.specs.Written.{head_in, line_text}
use Rattle.sip_files.proofs.CommandLines.{mapped}
use Rattle.sip_files.proofs.FileLines.{each_one, in_version, same_front}
use Rattle.sip_files.proofs.OneFile.{after_version, further_of, lines_of}
use Rattle.sip_files.proofs.WrittenLaws.{head_is, head_spelled, whole_head}
use Rattle.sip_files.specs.Rounds.{some_config}
use Rattle.sip_files.proofs.HeadLines.{is_config}

pub zip_append : {A B : Type 0} (P : A → B → Type 0) (xs others : List A) (ys more : List B)
    → AllZip P xs ys → AllZip P others more → AllZip P (xs ++ others) (ys ++ more)
zip_append P [] others [] more none rest = rest
zip_append P [] others (y ∷ ys) more none rest = elim none [ ]
zip_append P (x ∷ xs) others [] more none rest = elim none [ ]
zip_append P (x ∷ xs) others (y ∷ ys) more some rest =
    (some.0, zip_append P xs others ys more some.1 rest)

-- ---- no header lines stand before the lines of a head, or before a round's

-- a line that isn't an event's
abbrev pub is_plain : EventLine → Type 0
is_plain (line.Local address) = Unit {0}
is_plain (line.Seed seed) = Unit {0}
is_plain (line.First number) = Unit {0}
is_plain (line.Round moment) = Unit {0}
is_plain (line.Event event) = ⊥
is_plain (line.Header header) = ⊥

is_event : (item : EventLine) (event : Event) → item ≡ line.Event event → is_plain item → ⊥
is_event item event is plain = subst is_plain is plain

headed_plain : (header : GivenHeader) (headers : List GivenHeader) (item x : EventLine)
    → with_headers (header ∷ headers) item ≡ Some x → is_plain x → ⊥
headed_plain header headers (line.Local a) x e plain = absurd cc
headed_plain header headers (line.Seed a) x e plain = absurd cc
headed_plain header headers (line.First a) x e plain = absurd cc
headed_plain header headers (line.Round a) x e plain = absurd cc
headed_plain header headers (line.Event (Datagram from bytes)) x e plain = absurd cc
headed_plain header headers (line.Event (Failed key)) x e plain = absurd cc
headed_plain header headers (line.Event (Command c)) x e plain =
    let made = mapped (λ (d : UserCommand). line.Event (Command d))
    (with_given (header ∷ headers) c) x e in
    is_event x (Command made.0) (sym made.2) plain
headed_plain header headers (line.Header a) x e plain = absurd cc

-- what is said with such a line is the line alone
pub plain_line : (h : HeadedLine) (x : EventLine) → SaysHeaded h x → is_plain x
    → headed_lines h ≡ x ∷ []
plain_line h x says plain = by_headers h.headers h.item x says plain
  where
    by_headers : (headers : List GivenHeader) (item x : EventLine)
        → with_headers headers item ≡ Some x → is_plain x
        → map line.Header headers ++ item ∷ [] ≡ x ∷ []
    by_headers [] item x says plain = ap (λ (y : EventLine). y ∷ []) (same_some item x says)
    by_headers (header ∷ headers) item x says plain =
        absurd (headed_plain header headers item x says plain)

-- ---- what stands behind the head

-- lines with their headers, which say these lines
pub record Behind (further : List EventLine) (items : List EventLine) : Type 0 where
  pub headed : List HeadedLine
  pub made : AllZip SaysHeaded headed items
  pub said : flat_map headed_lines headed ≡ further

-- the first of them is a plain line
record First (x : EventLine) (said : List EventLine) (items : List EventLine) : Type 0 where
  rest : List HeadedLine
  made : AllZip SaysHeaded rest items
  whole : said ≡ x ∷ flat_map headed_lines rest

first_plain : (headed : List HeadedLine) (x : EventLine) (items : List EventLine) → is_plain x
    → AllZip SaysHeaded headed (x ∷ items) → First x (flat_map headed_lines headed) items
first_plain [] x items plain made = elim made [ ]
first_plain (h ∷ hs) x items plain made = record {
  rest = hs;
  made = made.1;
  whole = ap (λ (xs : List EventLine). xs ++ flat_map headed_lines hs)
      (plain_line h x made.0 plain);
}

nothing_made : (headed : List HeadedLine) → AllZip SaysHeaded headed []
    → flat_map headed_lines headed ≡ []
nothing_made [] made = refl
nothing_made (h ∷ hs) made = elim made [ ]

module _ (address : Addr) (bytes : List ℕ) (number : ℕ) (further : List EventLine) where
  abbrev all : List EventLine
  all = line.Local address ∷ line.Seed bytes ∷ line.First number ∷ further

  -- the second line is a seed
  no_seed : (rest : List HeadedLine) (rounds : List Round) (said : List EventLine)
      → AllZip SaysHeaded rest (flat_map round_lines rounds)
      → said ≡ flat_map headed_lines rest → said ≡ line.Seed bytes ∷ line.First number ∷ further
      → ⊥
  no_seed rest [] said made is e =
      let none = sym (nothing_made rest made) ∙ sym is ∙ e in absurd cc
  no_seed rest (round ∷ rounds) said made is e =
      let f = first_plain rest (line.Round round.moment) _ tt made in
      let same = sym f.whole ∙ sym is ∙ e in absurd cc

  no_first : (rest : List HeadedLine) (rounds : List Round) (said : List EventLine)
      → AllZip SaysHeaded rest (flat_map round_lines rounds)
      → said ≡ flat_map headed_lines rest → said ≡ line.First number ∷ further → ⊥
  no_first rest [] said made is e =
      let none = sym (nothing_made rest made) ∙ sym is ∙ e in absurd cc
  no_first rest (round ∷ rounds) said made is e =
      let f = first_plain rest (line.Round round.moment) _ tt made in
      let same = sym f.whole ∙ sym is ∙ e in absurd cc

  same_tail : (x y : EventLine) (xs ys : List EventLine) → x ∷ xs ≡ y ∷ ys → xs ≡ ys
  same_tail x y xs ys e = cc

  -- a whole head stands before the rounds
  pub behind : (local : Addr) (seed : Option (List ℕ)) (first : Option ℕ) (rounds : List Round)
      (headed : List HeadedLine)
      → AllZip SaysHeaded headed (file_lines (record { local = local; seed = seed; first = first })
      rounds) → flat_map headed_lines headed ≡ all
      → Behind further (flat_map round_lines rounds)
  behind local None None rounds headed made e =
      let a = first_plain headed (line.Local local) _ tt made in
      absurd (no_seed a.rest rounds _ a.made refl
      (same_tail _ _ _ _ (sym a.whole ∙ e)))
  behind local None (Some n) rounds headed made e =
      let a = first_plain headed (line.Local local) _ tt made in
      let b = first_plain a.rest (line.First n) _ tt a.made in
      let same = sym b.whole ∙ same_tail _ _ _ _ (sym a.whole ∙ e) in absurd cc
  behind local (Some s) None rounds headed made e =
      let a = first_plain headed (line.Local local) _ tt made in
      let b = first_plain a.rest (line.Seed s) _ tt a.made in
      absurd (no_first b.rest rounds _ b.made refl
      (same_tail _ _ _ _ (sym b.whole ∙ same_tail _ _ _ _ (sym a.whole ∙ e))))
  behind local (Some s) (Some n) rounds headed made e =
      let a = first_plain headed (line.Local local) _ tt made in
      let b = first_plain a.rest (line.Seed s) _ tt a.made in
      let c = first_plain b.rest (line.First n) _ tt b.made in
      record {
        headed = c.rest;
        made = c.made;
        said = same_tail _ _ _ _ (sym c.whole ∙ same_tail _ _ _ _ (sym b.whole
            ∙ same_tail _ _ _ _ (sym a.whole ∙ e)));
      }

-- ---- the lines of rounds

-- the text of lines that say these rounds, in this version
pub record SaysRounds (version : Version) (rounds : List Round) (text : List ℕ) : Type 0 where
  pub headed : List HeadedLine
  pub lines : List (List ℕ)
  pub made : AllZip SaysHeaded headed (flat_map round_lines rounds)
  pub says : AllZip (SpellsLine version) lines (flat_map headed_lines headed)
  pub spelled : text ≡ with_ends lines

head_texts : List (List ℕ)
head_texts = map line_text (head_lines (whole_head some_config))

-- what stands behind that head says the rounds
pub says_rounds : (kind : FileKind) (version : Version) (config : Config) (rounds : List Round)
    (text : List ℕ) → SpellsFile kind config rounds (head_in version some_config ++ text)
    → SaysRounds version rounds text
unfolding head_texts
says_rounds kind version config rounds text spells =
    let file = head_in version some_config ++ text in
    let after = with_ends head_texts ++ text in
    let follows : file ≡ version_line version ++ 10 ∷ after =
    ap (λ (head : List ℕ). head ++ text) (head_is version some_config)
    ∙ append_assoc (version_line version ++ 10 ∷ []) (with_ends head_texts) text
    ∙ append_assoc (version_line version) (10 ∷ []) after in
    let s = in_version kind version config rounds file after follows spells in
    let items = head_lines (whole_head some_config) in
    let spelled = head_spelled version some_config is_config in
    let f = same_front head_texts s.lines text (each_one version head_texts items spelled)
    (lines_of version config rounds file s)
    (after_version version config rounds file after s follows) in
    let on = further_of version config rounds file s head_texts f.others items spelled f.whole in
    let b = behind some_config.local some_config.seed some_config.first on.further s.head.local
    s.head.seed s.head.first rounds s.headed s.made on.whole in
    record {
      headed = b.headed;
      lines = f.others;
      made = b.made;
      says = subst (λ (xs : List EventLine). AllZip (SpellsLine version) f.others xs)
          (sym b.said) on.says;
      spelled = f.rest;
    }

-- ---- behind other rounds

pub joined_in : (version : Version) (config : Config) (rounds more : List Round)
    (file text : List ℕ)
    → SpellsIn version config rounds file → SaysRounds version more text
    → SpellsIn version config (rounds ++ more) (file ++ text)
joined_in version config rounds more file text s m = record {
  head = s.head;
  headed = s.headed ++ m.headed;
  lines = s.lines ++ m.lines;
  configured = s.configured;
  made =
      subst (λ (items : List EventLine). AllZip SaysHeaded (s.headed ++ m.headed) items)
      (append_assoc (head_lines s.head) (flat_map round_lines rounds)
      (flat_map round_lines more)
      ∙ ap (λ (items : List EventLine). head_lines s.head ++ items)
      (sym (flat_map-append round_lines rounds more)))
      (zip_append SaysHeaded s.headed m.headed (file_lines s.head rounds)
      (flat_map round_lines more) s.made m.made);
  says =
      subst (λ (items : List EventLine). AllZip (SpellsLine version) (s.lines ++ m.lines) items)
      (sym (flat_map-append headed_lines s.headed m.headed))
      (zip_append (SpellsLine version) s.lines m.lines (flat_map headed_lines s.headed)
      (flat_map headed_lines m.headed) s.says m.says);
  spelled =
      ap (λ (t : List ℕ). t ++ text) s.spelled
      ∙ append_assoc (version_line version ++ 10 ∷ []) (with_ends s.lines) text
      ∙ ap (λ (t : List ℕ). (version_line version ++ 10 ∷ []) ++ (with_ends s.lines ++ t)) m.spelled
      ∙ ap (λ (t : List ℕ). (version_line version ++ 10 ∷ []) ++ t)
      (sym (flat_map-append (λ line. line ++ 10 ∷ []) s.lines m.lines));
}

-- a file goes on with the lines of a round that is spelled behind a head of its version
pub joined : (kind : FileKind) (version : Version) (config other : Config)
    (rounds more : List Round) (file text : List ℕ) → SpellsIn version config rounds file
    → SpellsFile kind other more (head_in version some_config ++ text)
    → SpellsIn version config (rounds ++ more) (file ++ text)
joined kind version config other rounds more file text s spells =
    joined_in version config rounds more file text s
    (says_rounds kind version other more text spells)
