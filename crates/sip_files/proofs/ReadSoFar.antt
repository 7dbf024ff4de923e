-- What a reader that takes the lines of an event file one after another has shown so far.
use Rattle.std.proofs.Common.{◌≡◌, ℕ, ◌+◌, true, false, eqb, List, [], ◌∷◌, ◌++◌, length, Option, Some, None, refl, sym, ap, ◌∙◌, append-nil, arith}
use Rattle.std.proofs.lemmas.Bool.{and_parts, eqb-true}
use Rattle.std.specs.List.{AllZip}
use Rattle.std.proofs.lemmas.List.{length_push, nil_from_length}
use Rattle.std.proofs.lemmas.Option.{some_pair_parts}
use Rattle.sip_text.proofs.Cuts.{cut_took, cut_again}
use Rattle.sip_text.proofs.Options.{same_some}
use Rattle.sip_text.specs.Cut.{cut_at}
use Rattle.sip_files.specs.declared.version.Version.{Version}
use Rattle.sip_files.specs.declared.event_line.EventLine.{EventLine}
use Rattle.sip_files.specs.declared.given_header.GivenHeader.{GivenHeader}
use Rattle.sip_files.specs.declared.progress.Progress.{Progress}
use Rattle.sip_files.specs.Events.{SpellsLine}
use Rattle.sip_files.specs.EventFile.{with_ends}
use Rattle.sip_files.specs.Steps.ReadLine.{line_at}
use Rattle.sip_files.specs.Steps.Drafting.{no_lines, is_begun, is_whole, went, all_gone, gone}
use Rattle.sip_files.specs.Steps.Lines.{Drafts, Stuck}
use Rattle.sip_files.proofs.FileLines.{no_line, longer}
use Rattle.sip_files.proofs.LineEnds.{line_no}
use Rattle.sip_files.proofs.LineLaws.{line_took, line_again}
use Rattle.sip_files.proofs.Drafts.{gone-push}
use Rattle.sip_files.proofs.HeadedLines.{waiting, zip_push}

pub record SoFar (version : Version) (progress : Progress) (number : ℕ) (text left : List ℕ) :
    Type 0 where
  pub lines : List (List ℕ)
  pub said : List EventLine
  pub says : AllZip (SpellsLine version) lines said
  pub parts : text ≡ with_ends lines ++ left
  pub gives : gone no_lines said ≡ Some progress
  pub counted : number ≡ length lines + 2

pub nothing_yet : (version : Version) (text : List ℕ) → SoFar version no_lines 2 text text
unfolding all_gone
nothing_yet version text =
    record { lines = []; said = []; says = tt; parts = refl; gives = refl; counted = refl }

-- the line that is cut off is the next one
same_cut : (version : Version) (left line after other rest : List ℕ) (next : EventLine)
    → Some (line, after) ≡ cut_at 10 left → SpellsLine version other next
    → left ≡ other ++ 10 ∷ rest → line_at version line ≡ Some next
same_cut version left line after other rest next cut says e =
    let same = some_pair_parts line other after rest
    (cut ∙ ap (cut_at 10) e ∙ cut_again 10 other rest (line_no version other next says)) in
    ap (line_at version) same.0 ∙ line_again version other next says

module _ (version : Version) (progress : Progress) (number : ℕ) (text left : List ℕ)
    (s : SoFar version progress number text left) where
  pub one_further : (next : Progress) (line after : List ℕ) (item : EventLine)
      → Some (line, after) ≡ cut_at 10 left → Some item ≡ line_at version line
      → Some next ≡ went progress item → SoFar version next (number + 1) text after
  one_further next line after item cut is goes =
      let parts = cut_took 10 left (line, after) (sym cut) in
      record {
        lines = s.lines ++ line ∷ [];
        said = s.said ++ item ∷ [];
        says = zip_push (SpellsLine version) s.lines s.said line item s.says
            (line_took version line item (sym is));
        parts = s.parts ∙ ap (λ (x : List ℕ). with_ends s.lines ++ x) parts.whole
            ∙ sym (longer s.lines line after);
        gives = gone-push went no_lines progress s.said item s.gives ∙ sym goes;
        counted = omega (arith, s.counted, length_push s.lines line);
      }

  stuck_here : (left ≡ [] → is_whole progress ≡ false) → ((line after : List ℕ) (next : EventLine)
      → SpellsLine version line next → left ≡ line ++ 10 ∷ after → went progress next ≡ None)
      → Stuck version number text
  stuck_here more no_next = record {
    progress = progress;
    before = s.lines;
    said = s.said;
    left = left;
    says = s.says;
    parts = s.parts;
    gives = s.gives;
    counted = s.counted;
    more = more;
    no_next = no_next;
  }

  pub without_end : (left ≡ [] → ⊥) → None ≡ cut_at 10 left → Stuck version number text
  without_end more cut =
      stuck_here (λ none. absurd (more none)) (λ line after next says e.
      (let none : ◌≡◌ {A = Option (List ℕ × List ℕ)} None (Some (line, after)) = cut
      ∙ ap (cut_at 10) e ∙ cut_again 10 line after (line_no version line next says) in absurd cc))

  pub no_such_line : (line after : List ℕ) → (left ≡ [] → ⊥) → Some (line, after) ≡ cut_at 10 left
      → None ≡ line_at version line → Stuck version number text
  no_such_line line after more cut is =
      stuck_here (λ none. absurd (more none)) (λ other rest next says e.
      (let none : ◌≡◌ {A = Option EventLine} None (Some next) = is
      ∙ same_cut version left line after other rest next cut says e in absurd cc))

  pub not_there : (line after : List ℕ) (item : EventLine) → (left ≡ [] → ⊥)
      → Some (line, after) ≡ cut_at 10 left → Some item ≡ line_at version line
      → None ≡ went progress item → Stuck version number text
  not_there line after item more cut is stop =
      stuck_here (λ none. absurd (more none)) (λ other rest next says e.
      (let same : item ≡ next = same_some item next
      (is ∙ same_cut version left line after other rest next cut says e) in
      sym (stop ∙ ap (went progress) same)))

  -- the lines end before a file may end
  pub ends_early : left ≡ [] → is_whole progress ≡ false → Stuck version number text
  ends_early none part =
      stuck_here (λ same. part) (λ line after next says e.
      absurd (no_line line after (line_no version line next says) (sym none ∙ e)))

  pub all_read : left ≡ [] → is_whole progress ≡ true → Drafts version progress.draft text
  all_read none whole =
      let both = and_parts (is_begun progress.draft.stage)
      (eqb (length progress.headers) 0) whole in
      let empty : progress.headers ≡ [] =
      nil_from_length progress.headers (eqb-true (length progress.headers) 0 both.1) in
      record {
        lines = s.lines;
        said = s.said;
        says = s.says;
        spelled = s.parts ∙ ap (λ (x : List ℕ). with_ends s.lines ++ x) none
            ∙ append-nil (with_ends s.lines);
        gives = s.gives
            ∙ ap (λ (hs : List GivenHeader). Some (waiting progress.draft hs)) empty;
        begun = both.0;
      }
