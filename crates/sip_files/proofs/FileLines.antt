-- A text is cut into its lines in one way only. The lines say one thing, in one version.
use Rattle.std.proofs.Common.{◌≡◌, ℕ, true, List, [], ◌∷◌, ◌++◌, Option, Some, None, refl, sym, ap, subst, ◌∙◌, append_assoc}
use Rattle.std.specs.List.{AllByRecursion, AllZip}
use Rattle.std.proofs.lemmas.List.{append-nil}
use Rattle.std.proofs.lemmas.List.Concat.{flat_map-append}
use Rattle.std.proofs.lemmas.Option.{some_pair_parts}
use Rattle.sip_text.proofs.Cuts.{has_no, cut_again}
use Rattle.sip_text.proofs.Options.{same_some}
use Rattle.sip_text.specs.Cut.{cut_at}
use Rattle.sip_round.specs.declared.config.Config.{Config}
use Rattle.sip_round.specs.declared.round.Round.{Round}
use Rattle.sip_files.specs.declared.version.Version.{Version}
use Rattle.sip_files.specs.declared.version.FileKind.{FileKind}
use Rattle.sip_files.specs.declared.version.Version.TheVariants.{One, Two, SessionOne}
use Rattle.sip_files.specs.declared.event_line.EventLine.{EventLine}
use Rattle.sip_files.specs.Events.{SpellsLine}
use Rattle.sip_files.specs.EventFile.{with_ends, version_line, file_text, SpellsIn, SpellsFile, IsOneLine}
use Rattle.sip_files.specs.Steps.Lines.{version_at, FollowsVersion}
use Rattle.sip_files.proofs.LineEnds.{line_no}
use Rattle.sip_files.proofs.LineLaws.{one_meaning}

abbrev pub SayAll : Version → List (List ℕ) → List EventLine → Type 0
SayAll version lines said = AllZip (SpellsLine version) lines said

-- ---- a text is cut into its lines in one way only

abbrev pub AllOne : List (List ℕ) → Type 0
AllOne lines = AllByRecursion IsOneLine lines

pub no_line : (text rest : List ℕ) → has_no 10 text ≡ true → [] ≡ text ++ 10 ∷ rest → ⊥
no_line text rest none e =
    let cut : ◌≡◌ {A = Option (List ℕ × List ℕ)} None (Some (text, rest)) =
    ap (cut_at 10) e ∙ cut_again 10 text rest none in
    absurd cc

pub same_line : (text rest other after : List ℕ) → has_no 10 text ≡ true → has_no 10 other ≡ true
    → text ++ 10 ∷ rest ≡ other ++ 10 ∷ after → (text ≡ other) × (rest ≡ after)
same_line text rest other after p q e =
    some_pair_parts text other rest after
    (sym (cut_again 10 text rest p) ∙ ap (cut_at 10) e ∙ cut_again 10 other after q)

pub with_end : (text rest left : List ℕ)
    → ((text ++ 10 ∷ []) ++ rest) ++ left ≡ text ++ 10 ∷ (rest ++ left)
with_end text rest left =
    append_assoc (text ++ 10 ∷ []) rest left ∙ append_assoc text (10 ∷ []) (rest ++ left)

-- the lines with which a text of lines begins are the first of them
pub record Front (lines all : List (List ℕ)) (left : List ℕ) : Type 0 where
  pub others : List (List ℕ)
  pub whole : all ≡ lines ++ others
  pub rest : left ≡ with_ends others

pub same_front : (lines all : List (List ℕ)) (left : List ℕ) → AllOne lines → AllOne all
    → with_ends lines ++ left ≡ with_ends all → Front lines all left
same_front [] all left one all_one e = record { others = all; whole = refl; rest = e }
same_front (x ∷ xs) [] left one all_one e =
    absurd (no_line x (with_ends xs ++ left) one.0 (sym e ∙ with_end x (with_ends xs) left))
same_front (x ∷ xs) (y ∷ ys) left one all_one e =
    let cut = same_line x (with_ends xs ++ left) y (with_ends ys) one.0 all_one.0
    (sym (with_end x (with_ends xs) left) ∙ e ∙ append_assoc y (10 ∷ []) (with_ends ys)) in
    let further = same_front xs ys left one.1 all_one.1 cut.1 in
    record {
      others = further.others;
      whole = ap (λ (z : List ℕ). z ∷ ys) (sym cut.0)
          ∙ ap (λ (zs : List (List ℕ)). x ∷ zs) further.whole;
      rest = further.rest;
    }

no_lines : (others : List (List ℕ)) → AllOne others → [] ≡ with_ends others → others ≡ []
no_lines [] one e = refl
no_lines (x ∷ xs) one e =
    absurd (no_line x (with_ends xs) one.0 (e ∙ append_assoc x (10 ∷ []) (with_ends xs)))

all_after : (lines others : List (List ℕ)) → AllOne (lines ++ others) → AllOne others
all_after [] others one = one
all_after (x ∷ xs) others one = all_after xs others one.1

-- the same lines, if nothing is left
pub same_lines : (lines all : List (List ℕ)) → AllOne lines → AllOne all
    → with_ends lines ≡ with_ends all → all ≡ lines
same_lines lines all one all_one e =
    let f = same_front lines all [] one all_one (append-nil (with_ends lines) ∙ e) in
    let none = no_lines f.others (all_after lines f.others
    (subst (λ (ls : List (List ℕ)). AllByRecursion IsOneLine ls) f.whole all_one)) f.rest in
    f.whole ∙ ap (λ (others : List (List ℕ)). lines ++ others) none ∙ append-nil lines

-- with one more line
pub longer : (lines : List (List ℕ)) (next rest : List ℕ)
    → with_ends (lines ++ next ∷ []) ++ rest ≡ with_ends lines ++ (next ++ 10 ∷ rest)
longer lines next rest =
    ap (λ (t : List ℕ). t ++ rest) (flat_map-append (λ text. text ++ 10 ∷ []) lines (next ∷ []))
    ∙ append_assoc (with_ends lines) (with_ends (next ∷ [])) rest
    ∙ ap (λ (t : List ℕ). with_ends lines ++ t) (with_end next [] rest)

-- ---- lines say one thing

module _ (version : Version) where
  pub each_one : (lines : List (List ℕ)) (said : List EventLine) → SayAll version lines said
      → AllOne lines
  each_one [] [] says = tt
  each_one [] (x ∷ said) says = elim says [ ]
  each_one (line ∷ lines) [] says = elim says [ ]
  each_one (line ∷ lines) (x ∷ said) says =
      (line_no version line x says.0, each_one lines said says.1)

  -- what the first lines say comes first
  pub record Says (before others : List (List ℕ)) (first all : List EventLine) : Type 0 where
    pub further : List EventLine
    pub whole : all ≡ first ++ further
    pub says : AllZip (SpellsLine version) others further

  pub says_on : (before others : List (List ℕ)) (first all : List EventLine)
      → SayAll version before first → SayAll version (before ++ others) all
      → Says before others first all
  says_on [] others [] all before_says says = record { further = all; whole = refl; says = says }
  says_on [] others (x ∷ first) all before_says says = elim before_says [ ]
  says_on (line ∷ before) others [] all before_says says = elim before_says [ ]
  says_on (line ∷ before) others (x ∷ first) [] before_says says = elim says [ ]
  says_on (line ∷ before) others (x ∷ first) (y ∷ all) before_says says =
      let on = says_on before others first all before_says.1 says.1 in
      let same = one_meaning version version line y x says.0 before_says.0 in
      record {
        further = on.further;
        whole = ap (λ (z : EventLine). z ∷ all) same
            ∙ ap (λ (zs : List EventLine). x ∷ zs) on.whole;
        says = on.says;
      }

  nothing_said : (said : List EventLine) → SayAll version [] said → said ≡ []
  nothing_said [] says = refl
  nothing_said (x ∷ said) says = elim says [ ]

  pub no_text : (lines : List (List ℕ)) (said : List EventLine) → SayAll version lines said
      → said ≡ []
      → lines ≡ []
  no_text [] said says none = refl
  no_text (line ∷ lines) said says none =
      elim (subst (λ (xs : List EventLine). SayAll version (line ∷ lines) xs) none says) [ ]

  -- lines say one list of things
  pub one_list : (lines : List (List ℕ)) (said other : List EventLine) → SayAll version lines said
      → SayAll version lines other → other ≡ said
  one_list lines said other says others =
      let on = says_on lines [] said other says
      (subst (λ (ls : List (List ℕ)). SayAll version ls other) (sym (append-nil lines)) others) in
      on.whole ∙ ap (λ (xs : List EventLine). said ++ xs) (nothing_said on.further on.says)
      ∙ append-nil said

-- ---- the first line names one version

pub version_no : (version : Version) → has_no 10 (version_line version) ≡ true
version_no One = refl
version_no Two = refl
version_no SessionOne = refl

version_again : (version : Version) → version_at (version_line version) ≡ Some version
version_again One = refl
version_again Two = refl
version_again SessionOne = refl

same_version : (version another : Version) → version_line version ≡ version_line another
    → version ≡ another
same_version version another e =
    same_some version another (sym (version_again version) ∙ ap version_at e
    ∙ version_again another)

-- the line of the version, and the others
pub first_line : (version : Version) (lines : List (List ℕ))
    → FollowsVersion version (file_text version lines) (with_ends lines)
first_line version lines = append_assoc (version_line version) (10 ∷ []) (with_ends lines)

-- a text that begins with the line of a version spells the same as in this version
pub in_version : (kind : FileKind) (version : Version) (config : Config) (rounds : List Round)
    (text after : List ℕ) → FollowsVersion version text after → SpellsFile kind config rounds text
    → SpellsIn version config rounds text
in_version kind version config rounds text after follows s =
    let cut = same_line (version_line s.0) (with_ends (s.2).lines) (version_line version) after
    (version_no s.0) (version_no version)
    (sym ((s.2).spelled ∙ first_line s.0 (s.2).lines) ∙ follows) in
    subst (λ (v : Version). SpellsIn v config rounds text) (same_version s.0 version cut.0) s.2
