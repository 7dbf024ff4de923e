-- A file has one meaning: what its lines say is what was read from it.
use Rattle.std.proofs.Common.{◌≡◌, ℕ, true, false, ◌&&◌, List, [], ◌∷◌, ◌++◌, Option, Some, None, refl, sym, ap, subst, ◌∙◌, append_assoc, append-nil, inr}
use Rattle.std.specs.List.{flat_map}
use Rattle.std.proofs.lemmas.List.{append_cancel_left}
use Rattle.sip_text.proofs.Cuts.{cut_again, uncut}
use Rattle.sip_text.proofs.Options.{same_some}
use Rattle.sip_text.specs.Cut.{cut_at}
use Rattle.sip_round.specs.declared.config.Config.{Config}
use Rattle.sip_round.specs.declared.round.Round.{Round}
use Rattle.sip_files.specs.declared.version.Version.{Version}
use Rattle.sip_files.specs.declared.version.FileKind.{FileKind}
use Rattle.sip_files.specs.declared.event_line.EventLine.{EventLine}
use Rattle.sip_files.specs.declared.draft.Draft.{Draft}
use Rattle.sip_files.specs.declared.draft.Stage.{Stage}
use Rattle.sip_files.specs.declared.draft.Stage.TheVariants as stage
use Rattle.sip_files.specs.declared.progress.Progress.{Progress}
use Rattle.sip_files.specs.EventFile.{config_of, file_lines, headed_lines, with_ends, version_line, SpellsIn, SpellsFile, HasVersion}
use Rattle.sip_files.specs.Steps.Drafting.{nothing_read, no_lines, is_begun, is_whole, went, gone}
use Rattle.sip_files.specs.Steps.Lines.{FollowsVersion, Drafts, Stuck}
use Rattle.sip_files.proofs.Drafts.{next_gone, Begun, Gives, file_gives}
use Rattle.sip_files.proofs.HeadedLines.{waiting, headed_gone}
use Rattle.sip_files.proofs.FileLines.{SayAll, AllOne, same_front, same_lines, each_one, Says, says_on, one_list, version_no, first_line, in_version}

-- ---- what the spelling of a file says about what was read

-- the lines of a file that is spelled
pub after_version : (version : Version) (config : Config) (rounds : List Round)
    (text after : List ℕ)
    (s : SpellsIn version config rounds text) → FollowsVersion version text after
    → after ≡ with_ends s.lines
after_version version config rounds text after s follows =
    append_cancel_left (version_line version ++ 10 ∷ []) after (with_ends s.lines)
    (append_assoc (version_line version) (10 ∷ []) after ∙ sym follows ∙ s.spelled)

-- what they say, including header lines
abbrev pub said_by : {version : Version} {config : Config} {rounds : List Round} {text : List ℕ}
    → SpellsIn version config rounds text → List EventLine
said_by s = flat_map headed_lines s.headed

pub lines_of : (version : Version) (config : Config) (rounds : List Round) (text : List ℕ)
    (s : SpellsIn version config rounds text) → AllOne s.lines
lines_of version config rounds text s = each_one version s.lines (said_by s) s.says

pub gives : (version : Version) (config : Config) (rounds : List Round) (text : List ℕ)
    (s : SpellsIn version config rounds text)
    → Gives (config_of s.head) rounds (file_lines s.head rounds)
gives version config rounds text s = file_gives s.head.local s.head.seed s.head.first rounds

-- all lines can be read on, and no header line waits
pub goes : (version : Version) (config : Config) (rounds : List Round) (text : List ℕ)
    (s : SpellsIn version config rounds text)
    → gone no_lines (said_by s) ≡ Some (waiting (gives version config rounds text s).draft [])
goes version config rounds text s =
    let g = gives version config rounds text s in
    headed_gone nothing_read g.draft s.headed (file_lines s.head rounds) s.made g.taken_all

pub record Same (config : Config) (rounds : List Round) (draft : Draft) : Type 0 where
  pub configured : draft.config ≡ config
  pub all_rounds : draft.rounds ≡ rounds
  pub begun : Begun draft.stage

pub only_draft : (kind : FileKind) (version : Version) (config : Config) (rounds : List Round)
    (text after : List ℕ) (draft : Draft) → SpellsFile kind config rounds text
    → FollowsVersion version text after → Drafts version draft after → Same config rounds draft
only_draft kind version config rounds text after draft spells follows d =
    let s = in_version kind version config rounds text after follows spells in
    let lines : s.lines ≡ d.lines =
    same_lines d.lines s.lines (each_one version d.lines d.said d.says)
    (lines_of version config rounds text s)
    (sym d.spelled ∙ after_version version config rounds text after s follows) in
    let says = subst (λ (ls : List (List ℕ)). SayAll version ls (said_by s)) lines s.says in
    let same : said_by s ≡ d.said = one_list version d.lines d.said (said_by s) d.says says in
    let g = gives version config rounds text s in
    let is : waiting g.draft [] ≡ waiting draft [] =
    same_some (waiting g.draft []) (waiting draft [])
    (sym (goes version config rounds text s) ∙ ap (gone no_lines) same ∙ d.gives) in
    let P : Draft → Type 0 = λ x. Same config rounds x in
    subst P (ap (λ (p : Progress). p.draft) is) (record {
      configured = g.configured ∙ s.configured;
      all_rounds = g.all_rounds;
      begun = g.begun;
    })

whole_at : (at : Stage) → Begun at → (is_begun at && true) ≡ true
whole_at stage.Local begun = elim begun [ ]
whole_at stage.Seed begun = refl
whole_at stage.First begun = refl
whole_at stage.Rounds begun = refl

-- the progress after a whole file is whole
not_part : (progress : Progress) (draft : Draft) → Begun draft.stage
    → progress ≡ waiting draft [] → is_whole progress ≡ false → ⊥
not_part progress draft begun same part =
    let no : true ≡ false = sym (whole_at draft.stage begun) ∙ sym (ap is_whole same) ∙ part in
    absurd cc

not_stuck_by : (version : Version) (config : Config) (rounds : List Round) (text after : List ℕ)
    (number : ℕ) (s : SpellsIn version config rounds text) (k : Stuck version number after)
    (others : List (List ℕ)) (further : List EventLine)
    → said_by s ≡ k.said ++ further → SayAll version others further
    → k.left ≡ with_ends others → ⊥
not_stuck_by version config rounds text after number s k [] [] whole says rest =
    let g = gives version config rounds text s in
    let same : k.progress ≡ waiting g.draft [] =
    same_some k.progress (waiting g.draft [])
    (sym k.gives ∙ ap (gone no_lines) (sym (append-nil k.said) ∙ sym whole)
    ∙ goes version config rounds text s) in
    not_part k.progress g.draft g.begun same (k.more rest)
not_stuck_by version config rounds text after number s k [] (next ∷ further) whole says rest =
    elim says [ ]
not_stuck_by version config rounds text after number s k (line ∷ others) [] whole says rest =
    elim says [ ]
not_stuck_by version config rounds text after number s k (line ∷ others) (next ∷ further) whole
    says rest =
    let g = gives version config rounds text s in
    let none = k.no_next line (with_ends others) next says.0
    (rest ∙ append_assoc line (10 ∷ []) (with_ends others)) in
    next_gone went no_lines k.progress (waiting g.draft []) k.said further next k.gives
    (sym (ap (gone no_lines) whole) ∙ goes version config rounds text s) none

-- what the lines of a file after its first one say
pub further_of : (version : Version) (config : Config) (rounds : List Round) (text : List ℕ)
    (s : SpellsIn version config rounds text) (before others : List (List ℕ))
    (said : List EventLine) → SayAll version before said → s.lines ≡ before ++ others
    → Says version before others said (said_by s)
further_of version config rounds text s before others said says whole =
    says_on version before others said (said_by s) says
    (subst (λ (ls : List (List ℕ)). SayAll version ls (said_by s)) whole s.says)

pub not_stuck : (kind : FileKind) (version : Version) (config : Config) (rounds : List Round)
    (text after : List ℕ) (number : ℕ) → SpellsFile kind config rounds text
    → FollowsVersion version text after → Stuck version number after → ⊥
not_stuck kind version config rounds text after number spells follows k =
    let s = in_version kind version config rounds text after follows spells in
    let f = same_front k.before s.lines k.left (each_one version k.before k.said k.says)
    (lines_of version config rounds text s)
    (sym k.parts ∙ after_version version config rounds text after s follows) in
    let on = further_of version config rounds text s k.before f.others k.said k.says f.whole in
    not_stuck_by version config rounds text after number s k f.others on.further on.whole on.says
    f.rest

pub has_version : (kind : FileKind) (config : Config) (rounds : List Round) (text : List ℕ)
    → SpellsFile kind config rounds text → HasVersion kind text
has_version kind config rounds text s =
    (s.0, s.1, inr (with_ends (s.2).lines, (s.2).spelled ∙ first_line s.0 (s.2).lines))

version_alone : (version another : Version) (text after : List ℕ) → text ≡ version_line version
    → FollowsVersion another text after → ⊥
version_alone version another text after e f =
    let cut : ◌≡◌ {A = Option (List ℕ × List ℕ)} None (Some (version_line another, after)) =
    sym (uncut 10 (version_line version) (version_no version)) ∙ ap (cut_at 10) (sym e ∙ f)
    ∙ cut_again 10 (version_line another) after (version_no another) in
    absurd cc

-- a single line isn't a file
pub not_alone : (kind : FileKind) (version : Version) (config : Config) (rounds : List Round)
    (text : List ℕ) → text ≡ version_line version → SpellsFile kind config rounds text → ⊥
not_alone kind version config rounds text e s =
    version_alone version s.0 text (with_ends (s.2).lines) e
    ((s.2).spelled ∙ first_line s.0 (s.2).lines)

-- ---- one file for each text

pub one_file : (kind : FileKind) (text : List ℕ) (config other : Config)
    (rounds others : List Round) → SpellsFile kind config rounds text
    → SpellsFile kind other others text → (config ≡ other) × (rounds ≡ others)
one_file kind text config other rounds others spells others_spell =
    let version = spells.0 in
    let s = spells.2 in
    let follows : FollowsVersion version text (with_ends s.lines) =
    s.spelled ∙ first_line version s.lines in
    let t = in_version kind version other others text (with_ends s.lines) follows others_spell in
    let lines : t.lines ≡ s.lines =
    same_lines s.lines t.lines (lines_of version config rounds text s)
    (lines_of version other others text t)
    (after_version version other others text (with_ends s.lines) t follows) in
    let says = subst (λ (ls : List (List ℕ)). SayAll version ls (said_by t)) lines t.says in
    let same : said_by t ≡ said_by s =
    one_list version s.lines (said_by s) (said_by t) s.says says in
    let g = gives version config rounds text s in
    let h = gives version other others text t in
    let is : waiting g.draft [] ≡ waiting h.draft [] =
    same_some (waiting g.draft []) (waiting h.draft [])
    (sym (goes version config rounds text s) ∙ sym (ap (gone no_lines) same)
    ∙ goes version other others text t) in (
      sym s.configured ∙ sym g.configured ∙ ap (λ (p : Progress). p.draft.config) is
          ∙ h.configured ∙ t.configured,
      sym g.all_rounds ∙ ap (λ (p : Progress). p.draft.rounds) is ∙ h.all_rounds,
    )
