-- The first bad line behind a head: none of the head's four lines is it.
use Rattle.std.proofs.Common.{◌≡◌, ◌+◌, ◌-◌, ◌<◌, ℕ, List, [], ◌∷◌, ◌++◌, length, map, refl, sym, ap, subst, ◌∙◌, append_assoc, arith, inl, inr}
use Rattle.std.specs.List.{AllByRecursion}
use Rattle.std.proofs.lemmas.List.Concat.{flat_map-append}
use Rattle.sip_files.specs.EventFile.{HasVersion, IsBadLine, IsBegun, IsOneLine, SpellsFile, head_lines, version_line, with_ends}
use Rattle.sip_files.specs.Written.{head_in, line_text}
use Rattle.sip_files.specs.declared.version.FileKind.{FileKind}
use Rattle.sip_files.specs.declared.version.Version.{Version}
use Rattle.sip_files.proofs.FileLines.{AllOne, each_one, longer, same_line, version_no, with_end}
use Rattle.sip_files.proofs.WrittenLaws.{head_is, head_spelled, whole_head}
use Rattle.sip_files.specs.Rounds.{some_config}
use Rattle.sip_files.proofs.HeadLines.{is_config}
use Rattle.sip_stream.specs.Streams.{behind_head}
use Rattle.sip_stream.proofs.Heads.{in_parts, others}
use Rattle.sip_stream.proofs.Only.{head_alone}

-- ---- lines that begin as others do

-- the line after those before it
record NextLine (before all : List (List ℕ)) (left behind : List ℕ) : Type 0 where
  next : List ℕ
  more : List (List ℕ)
  whole : all ≡ before ++ next ∷ more
  rest : left ≡ next ++ 10 ∷ (with_ends more ++ behind)

next_line : (before all : List (List ℕ)) (left behind : List ℕ) → AllOne before → AllOne all
    → length before < length all → with_ends before ++ left ≡ with_ends all ++ behind
    → NextLine before all left behind
next_line [] [] left behind one all_one fewer e = absurd (omega arith)
next_line [] (y ∷ ys) left behind one all_one fewer e =
    record { next = y; more = ys; whole = refl; rest = e ∙ with_end y (with_ends ys) behind }
next_line (x ∷ xs) [] left behind one all_one fewer e = absurd (omega arith)
next_line (x ∷ xs) (y ∷ ys) left behind one all_one fewer e =
    let cut = same_line x (with_ends xs ++ left) y (with_ends ys ++ behind) one.0 all_one.0
    (sym (with_end x (with_ends xs) left) ∙ e ∙ with_end y (with_ends ys) behind) in
    let fewer_on : length xs < length ys = omega arith in
    let on = next_line xs ys left behind one.1 all_one.1 fewer_on cut.1 in
    record {
      next = on.next;
      more = on.more;
      whole = ap (λ (z : List ℕ). z ∷ ys) (sym cut.0)
          ∙ ap (λ (zs : List (List ℕ)). x ∷ zs) on.whole;
      rest = on.rest;
    }

one_of : (before more : List (List ℕ)) (next : List ℕ) → AllOne (before ++ next ∷ more)
    → IsOneLine next
one_of [] more next one = one.0
one_of (x ∷ xs) more next one = one_of xs more next one.1

-- ---- the head

module _ (version : Version) where
  texts : List (List ℕ)
  texts = version_line version ∷ map line_text (head_lines (whole_head some_config))

  text_is : head_in version some_config ≡ with_ends texts
  unfolding texts
  text_is = head_is version some_config

  texts_one : AllOne texts
  unfolding texts
  texts_one = (
    version_no version,
    each_one version (map line_text (head_lines (whole_head some_config)))
        (head_lines (whole_head some_config)) (head_spelled version some_config is_config),
  )

  four : length texts ≡ 4
  unfolding texts
  four = refl

  module _ (kind : FileKind) (lines : List ℕ)
      (file : SpellsFile kind some_config [] (head_in version some_config)) where
    begun_with : (before more : List (List ℕ)) (next : List ℕ) → texts ≡ before ++ next ∷ more
        → IsBegun kind (with_ends (before ++ next ∷ []))
    begun_with before more next whole =
        let text : with_ends texts ≡ with_ends (before ++ next ∷ []) ++ with_ends more =
        ap with_ends whole ∙ flat_map-append (λ text. text ++ 10 ∷ []) before (next ∷ more)
        ∙ ap (λ (rest : List ℕ). with_ends before ++ rest)
        (append_assoc next (10 ∷ []) (with_ends more))
        ∙ sym (longer before next (with_ends more)) in (
          with_ends more,
          some_config,
          [],
          subst (λ (t : List ℕ). SpellsFile kind some_config [] t) (text_is ∙ text) file,
        )

    not_in_head : (number : ℕ) → (bad : IsBadLine kind number (behind_head version lines))
        → length bad.before < 4 → ⊥
    not_in_head number bad fewer =
        let n = next_line bad.before texts bad.left lines bad.one_each texts_one
        (omega (arith, fewer, four))
        (sym bad.parts ∙ ap (λ (head : List ℕ). head ++ lines) text_is) in
        bad.stuck n.next (with_ends n.more ++ lines) n.rest
        (one_of bad.before n.more n.next
        (subst (λ (all : List (List ℕ)). AllByRecursion IsOneLine all) n.whole texts_one))
        (begun_with bad.before n.more n.next n.whole)

    above_four : (number : ℕ) → IsBadLine kind number (behind_head version lines)
        → (number - 4) + 4 ≡ number
    above_four number bad = omega (arith, not_in_head number bad, bad.counted)

not_behind : (xs ys : List ℕ) (y : ℕ) → [] ≡ xs ++ y ∷ ys → ⊥
not_behind [] ys y e = absurd cc
not_behind (x ∷ xs) ys y e = absurd cc

-- the head of a version of the kind is a file
head_file : (kind : FileKind) (version : Version) (lines : List ℕ)
    → HasVersion kind (behind_head version lines)
    → SpellsFile kind some_config [] (head_in version some_config)
head_file kind version lines has =
    subst (SpellsFile kind some_config [])
    (in_parts has.0 ∙ ap (λ (line : List ℕ). line ++ 10 ∷ others) same ∙ sym (in_parts version))
    (has.0, has.1, head_alone has.0)
  where
    follows : behind_head version lines ≡ version_line version ++ 10 ∷ (others ++ lines)
    follows =
        ap (λ (head : List ℕ). head ++ lines) (in_parts version)
        ∙ append_assoc (version_line version) (10 ∷ others) lines

    same : version_line has.0 ≡ version_line version
    same = elim has.2 [
      | inl alone ↦
          (let cut = same_line (version_line has.0) [] (version_line version)
          ((others ++ lines) ++ 10 ∷ []) (version_no has.0) (version_no version)
          (ap (λ (t : List ℕ). t ++ 10 ∷ []) (sym alone ∙ follows)
          ∙ append_assoc (version_line version) (10 ∷ (others ++ lines)) (10 ∷ [])) in
          absurd (not_behind (others ++ lines) [] 10 cut.1))
      | inr then ↦
          (same_line (version_line has.0) then.0 (version_line version) (others ++ lines)
          (version_no has.0) (version_no version) (sym then.1 ∙ follows)).0
    ]

-- the lines are numbered behind the head's
pub numbered : (kind : FileKind) (version : Version) (lines : List ℕ) (number : ℕ)
    → HasVersion kind (behind_head version lines)
    → IsBadLine kind number (behind_head version lines)
    → IsBadLine kind ((number - 4) + 4) (behind_head version lines)
numbered kind version lines number has bad =
    subst (λ (n : ℕ). IsBadLine kind n (behind_head version lines))
    (sym (above_four version kind lines (head_file kind version lines has) number bad)) bad
