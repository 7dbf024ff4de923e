-- Of an input that is a file of its kind, each round is one, so that only some faults come.
use Rattle.std.proofs.Common.{◌≡◌, ℕ, ◌<◌, ◌≤◌, ◌^◌, suc, true, false, List, [], ◌∷◌, ◌++◌, length, map, Option, Some, None, refl, sym, ap, subst, ◌∙◌, append_assoc, append-nil, length-append, arith, inl, inr}
use Rattle.std.specs.Prelude.{IfSome, IsTrue, Option, None, Some}
use Rattle.std.specs.List.{AllZip}
use Rattle.std.proofs.lemmas.List.{append_cancel_left}
use Rattle.sip_files.specs.EventFile.{SpellsFile, SpellsIn, head_lines, is_of_kind, version_line, with_ends}
use Rattle.sip_files.specs.Events.{SpellsLine}
use Rattle.sip_files.specs.Written.{head_in, line_text}
use Rattle.sip_files.specs.declared.event_line.EventLine.{EventLine}
use Rattle.sip_files.specs.declared.events_fault.EventsFault.{EventsFault}
use Rattle.sip_files.specs.declared.version.FileKind.{FileKind}
use Rattle.sip_files.specs.declared.version.FileKind.TheVariants as file_kind
use Rattle.sip_files.specs.declared.version.Version.{Version}
use Rattle.sip_files.specs.declared.version.Version.TheVariants.{One, Two, SessionOne}
use Rattle.sip_files.proofs.FileFaults.{never_bad}
use Rattle.sip_files.proofs.FileLines.{first_line, in_version, same_line, version_no, with_end}
use Rattle.sip_files.proofs.OneFile.{one_file}
use Rattle.sip_files.proofs.WrittenLaws.{head_is, head_spelled, unheaded, unheaded_lines, unheaded_made, whole_head}
use Rattle.sip_files.specs.Rounds.{begins_round, first_round, some_config}
use Rattle.sip_files.specs.declared.lines_fault.LinesFault.{LinesFault}
use Rattle.sip_files.specs.declared.lines_fault.LinesFault.TheVariants as lines_fault
use Rattle.sip_files.proofs.HeadLines.{is_config}
use Rattle.sip_round.specs.AgentState.{round_fault}
use Rattle.sip_round.specs.Answers.{refused, refused_from, refused_or}
use Rattle.sip_round.specs.declared.config.Config.{Config}
use Rattle.sip_round.specs.declared.round.Round.{Round}
use Rattle.sip_round.specs.declared.round_fault.RoundFault.{RoundFault}
use Rattle.sip_stream.specs.Steps.{StopsAt}
use Rattle.sip_stream.specs.Streams.{Begins, ComesOnly, HasBadHead, HasBadRound, IsRounds, IsStream, HasRefused, TellsLines, TellsStream, behind_head}
use Rattle.sip_stream.specs.declared.stream_fault.StreamFault.{StreamFault}
use Rattle.sip_stream.specs.declared.stream_fault.StreamFault.TheVariants as fault
use Rattle.sip_stream.proofs.Apart.{FirstRound, are_rounds, first_of, head_of, of_none}
use Rattle.sip_stream.proofs.Heads.{in_parts, others}
use Rattle.sip_stream.proofs.Joined.{SaysRounds, joined_in}

-- ---- the lines of rounds behind a head

in_session : (version : Version) → IsTrue (is_of_kind file_kind.Session version)
in_session One = refl
in_session Two = refl
in_session SessionOne = refl

pub head_alone : (version : Version) → SpellsIn version some_config [] (head_in version some_config)
head_alone version =
    let items = head_lines (whole_head some_config) in
    record {
      head = whole_head some_config;
      headed = unheaded items;
      lines = map line_text items;
      configured = refl;
      made = unheaded_made items;
      says = subst (λ (xs : List EventLine). AllZip (SpellsLine version) (map line_text items) xs)
          (sym (unheaded_lines items)) (head_spelled version some_config is_config);
      spelled = head_is version some_config;
    }

spelled_behind : (version : Version) (rounds : List Round) (lines : List ℕ)
    → SaysRounds version rounds lines
    → SpellsIn version some_config rounds (behind_head version lines)
spelled_behind version rounds lines s =
    joined_in version some_config [] rounds (head_in version some_config) lines
    (head_alone version) s

one_round : (version : Version) (round other : Round) (lines : List ℕ)
    → SaysRounds version (round ∷ []) lines → SaysRounds version (other ∷ []) lines
    → round ≡ other
one_round version round other lines s t =
    let spelled : (x : Round) → SaysRounds version (x ∷ []) lines
    → SpellsFile file_kind.Session some_config (x ∷ []) (behind_head version lines) =
    λ x says. (version, in_session version, spelled_behind version (x ∷ []) lines says) in
    let same = (one_file file_kind.Session (behind_head version lines) some_config some_config
    (round ∷ []) (other ∷ []) (spelled round s) (spelled other t)).1 in
    cc

same_behind : (version another : Version) (lines : List ℕ)
    → version_line version ≡ version_line another
    → behind_head version lines ≡ behind_head another lines
same_behind version another lines same =
    ap (λ (head : List ℕ). head ++ lines) (in_parts version
    ∙ ap (λ (line : List ℕ). line ++ 10 ∷ others) same ∙ sym (in_parts another))

-- ---- rounds with which others begin

rounds_alone : (version : Version) (rounds : List Round) (text : List ℕ)
    → SaysRounds version rounds text → IsRounds text
rounds_alone version rounds text s =
    subst IsRounds (append-nil text) (are_rounds version rounds text [] s (inl refl))

first_alone : (version : Version) (round : Round) (more : List Round) (text : List ℕ)
    → (f : FirstRound version round more text) → first_round text ≡ f.lines
first_alone version round more text f =
    ap first_round f.parts ∙ f.alone f.left (rounds_alone version more f.left f.others)

record Further (version : Version) (all rounds : List Round) (left : List ℕ) : Type 0 where
  more : List Round
  whole : all ≡ rounds ++ more
  says : SaysRounds version more left

further : (version : Version) (rounds all : List Round) (text left : List ℕ)
    → SaysRounds version rounds text → SaysRounds version all (text ++ left) → IsRounds left
    → Further version all rounds left
further version [] all text left s a next = record {
  more = all;
  whole = refl;
  says = subst (SaysRounds version all)
      (ap (λ (t : List ℕ). t ++ left) (of_none version text s)) a;
}
further version (round ∷ rounds) [] text left s a next =
    let f = first_of version round rounds text s in
    let begins : begins_round (text ++ left) ≡ true =
    ap begins_round (ap (λ (t : List ℕ). t ++ left) f.parts ∙ append_assoc f.lines f.left left)
    ∙ f.next (f.left ++ left) in
    let none : true ≡ false =
    sym begins ∙ ap begins_round (of_none version (text ++ left) a) in
    absurd cc
further version (round ∷ rounds) (other ∷ all) text left s a next =
    let f = first_of version round rounds text s in
    let g = first_of version other all (text ++ left) a in
    let parts : text ++ left ≡ f.lines ++ (f.left ++ left) =
    ap (λ (t : List ℕ). t ++ left) f.parts ∙ append_assoc f.lines f.left left in
    let same : f.lines ≡ g.lines =
    sym (f.alone (f.left ++ left) (are_rounds version rounds f.left left f.others next))
    ∙ sym (ap first_round parts) ∙ first_alone version other all (text ++ left) g in
    let behind : g.left ≡ f.left ++ left =
    append_cancel_left g.lines g.left (f.left ++ left)
    (sym g.parts ∙ parts ∙ ap (λ (t : List ℕ). t ++ (f.left ++ left)) same) in
    let on = further version rounds all f.left left f.others
    (subst (SaysRounds version all) behind g.others) next in
    let one = one_round version other round g.lines g.one
    (subst (SaysRounds version (round ∷ [])) same f.one) in
    record {
      more = on.more;
      whole = ap (λ (x : Round). x ∷ all) one ∙ ap (λ (xs : List Round). round ∷ xs) on.whole;
      says = on.says;
    }

-- ---- a file that begins with another one

record Continues (version : Version) (config own : Config) (all rounds : List Round)
    (left : List ℕ) : Type 0 where
  configured : own ≡ config
  on : Further version all rounds left

module _ (kind : FileKind) (config : Config) (all : List Round) (input : List ℕ)
    (s : IsStream kind config all input) where
  same_first : (version : Version) (after : List ℕ) → input ≡ version_line version ++ 10 ∷ after
      → version_line version ≡ version_line (s.spelled).0
  same_first version after follows =
      let own = (s.spelled).2 in
      (same_line (version_line version) after (version_line (s.spelled).0) (with_ends own.lines)
      (version_no version) (version_no (s.spelled).0)
      (sym follows ∙ own.spelled ∙ first_line (s.spelled).0 own.lines)).0

  module _ (own : Config) (rounds : List Round) (left : List ℕ)
      (b : Begins kind own rounds input left) where
    follows : input ≡ version_line (b.spelled).0
        ++ 10 ∷ (with_ends ((b.spelled).2).lines ++ left)
    follows =
        b.whole ∙ ap (λ (t : List ℕ). t ++ left) ((b.spelled).2).spelled
        ∙ with_end (version_line (b.spelled).0) (with_ends ((b.spelled).2).lines) left

    continues : Continues (b.spelled).0 config own all rounds left
    continues =
        let version = (b.spelled).0 in
        let h = head_of version config all input
        (in_version kind version config all input _ follows s.spelled) in
        let f = head_of version own rounds b.file (b.spelled).2 in
        let parts : input ≡ f.lines ++ (f.left ++ left) =
        b.whole ∙ ap (λ (t : List ℕ). t ++ left) f.parts ∙ append_assoc f.lines f.left left in
        let same : f.lines ≡ h.lines =
        sym (f.alone (f.left ++ left) (are_rounds version rounds f.left left f.others b.next))
        ∙ sym (ap first_round parts) ∙ ap first_round h.parts
        ∙ h.alone h.left (rounds_alone version all h.left h.others) in
        let behind : h.left ≡ f.left ++ left =
        append_cancel_left h.lines h.left (f.left ++ left)
        (sym h.parts ∙ parts ∙ ap (λ (t : List ℕ). t ++ (f.left ++ left)) same) in
        record {
          configured = (one_file kind h.lines own config [] []
              (version, (b.spelled).1, subst (SpellsIn version own []) same f.head)
              (version, (b.spelled).1, h.head)).0;
          on = further version rounds all f.left left f.others
              (subst (SaysRounds version all) behind h.others) b.next;
        }

  -- ---- no lines are bad

  too_many : (front more : List ℕ) → 2 ^ 26 < length front → length (front ++ more) ≤ 2 ^ 26 → ⊥
  too_many front more long fits = omega (arith, long, fits, length-append front more)

  no_bad_head : (given : EventsFault) → HasBadHead kind given input → ⊥
  no_bad_head given bad =
      let version = (s.spelled).0 in
      let h = head_of version config all input (s.spelled).2 in
      let head : first_round input ≡ bad.lines ++ (bad.next).more =
      ap first_round bad.whole ∙ (bad.next).front in
      let fits = subst (λ (t : List ℕ). length t ≤ 2 ^ 26) head s.head in
      elim (bad.next).whole [
        | inl none ↦
            (let own : bad.lines ≡ h.lines =
            sym (append-nil bad.lines) ∙ ap (λ (t : List ℕ). bad.lines ++ t) (sym none)
            ∙ sym head ∙ ap first_round h.parts
            ∙ h.alone h.left (rounds_alone version all h.left h.others) in
            let short = subst (λ (t : List ℕ). length t ≤ 2 ^ 26)
            (ap (λ (t : List ℕ). bad.lines ++ t) none ∙ append-nil bad.lines) fits in
            bad.cause (never_bad kind given bad.lines bad.tells (
              config,
              [],
              (version, (s.spelled).1, subst (SpellsIn version config []) (sym own) h.head),
              short,
            )))
        | inr long ↦ too_many bad.lines (bad.next).more long fits
      ]

  -- the lines are those of one round, and no longer than a file may be
  module _ (version : Version) (lines : List ℕ) (of_kind : IsTrue (is_of_kind kind version))
      (short : length (behind_head version lines) ≤ 2 ^ 26) (round : Round)
      (one : SaysRounds version (round ∷ []) lines) where
    spelled_one : SpellsFile kind some_config (round ∷ []) (behind_head version lines)
    spelled_one = (version, of_kind, spelled_behind version (round ∷ []) lines one)

    not_bad : (given : LinesFault) → TellsLines kind version given lines → ⊥
    not_bad lines_fault.TooLong tells = omega (arith, tells, short)
    not_bad (lines_fault.BadLine number) tells =
        tells.1.none (some_config, round ∷ [], spelled_one, short)
    not_bad lines_fault.NotOne tells =
        tells.4 (ap length (one_file kind (behind_head version lines) tells.1 some_config tells.2
        (round ∷ []) tells.3 spelled_one).1)
    not_bad lines_fault.NoMemory tells = elim tells [ ]

  no_bad_round : (index : ℕ) (given : LinesFault) → HasBadRound kind index given input → ⊥
  no_bad_round index given bad =
      let b = bad.begins in
      let c = continues bad.config bad.rounds (bad.lines ++ bad.left) b in
      by_more (c.on).more (c.on).says
    where
      version : Version
      version = ((bad.begins).spelled).0

      no_lines : (front more : List ℕ) → front ++ more ≡ [] → front ≡ []
      no_lines [] more e = refl
      no_lines (x ∷ front) more e = absurd cc

      by_more : (more : List Round) → SaysRounds version more (bad.lines ++ bad.left) → ⊥
      by_more [] says = bad.some (no_lines bad.lines bad.left (of_none version _ says))
      by_more (round ∷ more) says =
          let f = first_of version round more (bad.lines ++ bad.left) says in
          let first : f.lines ≡ bad.lines ++ (bad.next).more =
          sym (first_alone version round more (bad.lines ++ bad.left) f) ∙ (bad.next).front in
          let begun : begins_round f.lines ≡ true =
          ap begins_round (sym (append-nil f.lines)) ∙ f.next [] in
          let fits = s.each (bad.begins).file f.lines f.left
          ((bad.begins).whole ∙ ap (λ (t : List ℕ). (bad.begins).file ++ t) f.parts) begun
          (f.alone f.left (rounds_alone version more f.left f.others)) in
          let same = same_first version _
          (follows bad.config bad.rounds (bad.lines ++ bad.left) bad.begins) in
          let short = subst (λ (t : List ℕ). length t ≤ 2 ^ 26)
          (sym (same_behind version (s.spelled).0 f.lines same)) fits in
          elim (bad.next).whole [
            | inl none ↦
                (let own : f.lines ≡ bad.lines =
                first ∙ ap (λ (t : List ℕ). bad.lines ++ t) none ∙ append-nil bad.lines in
                not_bad version bad.lines ((bad.begins).spelled).1
                (subst (λ (t : List ℕ). length (behind_head version t) ≤ 2 ^ 26) own short) round
                (subst (SaysRounds version (round ∷ [])) own f.one) given bad.tells)
            | inr long ↦
                too_many bad.lines (bad.next).more long
                (omega (
                  arith,
                  short,
                  length-append (head_in version some_config) f.lines,
                  ap length first,
                ))
          ]

  -- ---- the first round that is refused

  refused_longer : (number moment index : ℕ) (rounds more : List Round) (found : ℕ × RoundFault)
      → refused_from number moment index rounds ≡ Some found
      → refused_from number moment index (rounds ++ more) ≡ Some found
  refused_longer number moment index [] more found is = absurd cc
  refused_longer number moment index (round ∷ rounds) more found is =
      by_fault (round_fault moment number round)
      (refused_longer (suc number) round.moment (suc index) rounds more found) is
    where
      by_fault : (refusal : Option RoundFault)
          → (refused_from (suc number) round.moment (suc index) rounds ≡ Some found
          → refused_from (suc number) round.moment (suc index) (rounds ++ more) ≡ Some found)
          → refused_or refusal index (refused_from (suc number) round.moment (suc index) rounds)
          ≡ Some found
          → refused_or refusal index
          (refused_from (suc number) round.moment (suc index) (rounds ++ more)) ≡ Some found
      by_fault None on is = on is
      by_fault (Some refusal) on is = is

  refuses : (index : ℕ) (given : RoundFault) → HasRefused kind index given input
      → refused config all ≡ Some (index, given)
  unfolding refused
  refuses index given r =
      let c = continues r.config r.rounds r.left r.begins in
      ap (λ (rounds : List Round). refused_from config.first 0 0 rounds) (c.on).whole
      ∙ refused_longer config.first 0 0 r.rounds (c.on).more (index, given)
      (ap (λ (x : Config). refused_from x.first 0 0 r.rounds) (sym c.configured) ∙ r.refuses)

pub comes_only : (kind : FileKind) (given : StreamFault) (input : List ℕ)
    → TellsStream kind given input → ComesOnly kind given input
comes_only kind fault.Input input tells = λ config rounds s. tt
comes_only kind (fault.Head given) input tells = λ config rounds s.
    no_bad_head kind config rounds input s given tells
comes_only kind (fault.Lines index given) input tells = λ config rounds s.
    no_bad_round kind config rounds input s index given tells
comes_only kind (fault.Round index given) input tells = λ config rounds s.
    refuses kind config rounds input s index given tells
comes_only kind fault.Output input tells = λ config rounds s. tt
comes_only kind fault.NoMemory input tells = λ config rounds s. tt

-- the same of an input that may be known
pub only_known : (kind : FileKind) (given : StreamFault) (input before after : Option (List ℕ))
    → IfSome input (StopsAt kind given before after) → IfSome input (ComesOnly kind given)
only_known kind given None before after s = tt
only_known kind given (Some whole) before after s = comes_only kind given whole s.tells
