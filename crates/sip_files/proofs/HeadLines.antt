-- The head before the lines of rounds: its four lines, none of which is the first bad one.
use Rattle.std.proofs.Common.{◌≡◌, ◌<◌, ℕ, List, [], ◌∷◌, ◌++◌, length, map, refl, sym, ap, subst, ◌∙◌, append_assoc, append-nil, arith}
use Rattle.std.specs.List.{AllByRecursion}
use Rattle.std.proofs.lemmas.List.Concat.{flat_map-append}
use Rattle.sip_files.specs.EventFile.{head_lines as said_in, IsBadLine, IsBegun, IsOneLine, SpellsSession, with_ends, version_line}
use Rattle.sip_files.specs.Written.{IsConfig, IsSessionRound, line_text, session_head_text, session_round_text, session_text}
use Rattle.sip_files.specs.declared.version.FileKind.TheVariants as file_kind
use Rattle.sip_files.specs.declared.version.Version.TheVariants.{SessionOne}
use Rattle.sip_files.proofs.FileLines.{AllOne, each_one, longer, same_line, version_no, with_end}
use Rattle.sip_files.proofs.WrittenLaws.{head_is, head_spelled, whole_head}
use Rattle.sip_files.proofs.WrittenSessions.{session_is_spelled}
use Rattle.sip_files.specs.Rounds.{SpellsRound, session_with, some_config}
use Rattle.sip_round.specs.declared.round.Round.{Round}

-- ---- lines that begin as others do

-- the line after those before it
record NextLine (before all : List (List ℕ)) (left behind : List ℕ) : Type 0 where
  next : List ℕ
  others : List (List ℕ)
  whole : all ≡ before ++ next ∷ others
  rest : left ≡ next ++ 10 ∷ (with_ends others ++ behind)

next_line : (before all : List (List ℕ)) (left behind : List ℕ) → AllOne before → AllOne all
    → length before < length all → with_ends before ++ left ≡ with_ends all ++ behind
    → NextLine before all left behind
next_line [] [] left behind one all_one fewer e = absurd (omega arith)
next_line [] (y ∷ ys) left behind one all_one fewer e =
    record { next = y; others = ys; whole = refl; rest = e ∙ with_end y (with_ends ys) behind }
next_line (x ∷ xs) [] left behind one all_one fewer e = absurd (omega arith)
next_line (x ∷ xs) (y ∷ ys) left behind one all_one fewer e =
    let cut = same_line x (with_ends xs ++ left) y (with_ends ys ++ behind) one.0 all_one.0
    (sym (with_end x (with_ends xs) left) ∙ e ∙ with_end y (with_ends ys) behind) in
    let fewer_on : length xs < length ys = omega arith in
    let on = next_line xs ys left behind one.1 all_one.1 fewer_on cut.1 in
    record {
      next = on.next;
      others = on.others;
      whole = ap (λ (z : List ℕ). z ∷ ys) (sym cut.0)
          ∙ ap (λ (zs : List (List ℕ)). x ∷ zs) on.whole;
      rest = on.rest;
    }

one_of : (before others : List (List ℕ)) (next : List ℕ) → AllOne (before ++ next ∷ others)
    → IsOneLine next
one_of [] others next one = one.0
one_of (x ∷ xs) others next one = one_of xs others next one.1

-- ---- the head

abbrev head_lines : List (List ℕ)
head_lines = version_line SessionOne ∷ map line_text (said_in (whole_head some_config))

head_text_is : session_head_text some_config ≡ with_ends head_lines
head_text_is = head_is SessionOne some_config

pub is_config : IsConfig some_config
is_config = record {
  local = ((refl, refl), omega arith);
  seed = (refl, refl);
  first = omega arith;
}

head_one : AllOne head_lines
head_one = (
  version_no SessionOne,
  each_one SessionOne (map line_text (said_in (whole_head some_config)))
      (said_in (whole_head some_config)) (head_spelled SessionOne some_config is_config),
)

-- a session without rounds
pub head_is_session : SpellsSession some_config [] (with_ends head_lines)
unfolding session_text
head_is_session =
    subst (λ (text : List ℕ). SpellsSession some_config [] text)
    (append-nil (session_head_text some_config) ∙ head_text_is)
    (session_is_spelled some_config [] is_config tt)

begun_with : (before others : List (List ℕ)) (next : List ℕ)
    → head_lines ≡ before ++ next ∷ others
    → IsBegun file_kind.Session (with_ends (before ++ next ∷ []))
begun_with before others next whole =
    let text : with_ends head_lines ≡ with_ends (before ++ next ∷ []) ++ with_ends others =
    ap with_ends whole ∙ flat_map-append (λ text. text ++ 10 ∷ []) before (next ∷ others)
    ∙ ap (λ (rest : List ℕ). with_ends before ++ rest) (append_assoc next (10 ∷ []) (with_ends others))
    ∙ sym (longer before next (with_ends others)) in (
      with_ends others,
      some_config,
      [],
      subst (λ (t : List ℕ). SpellsSession some_config [] t) text head_is_session,
    )

not_in_head : (number : ℕ) (lines : List ℕ)
    → (bad : IsBadLine file_kind.Session number (session_with lines))
    → length bad.before < 4 → ⊥
unfolding session_with
not_in_head number lines bad fewer =
    let n = next_line bad.before head_lines bad.left lines bad.one_each head_one fewer
    (sym bad.parts ∙ ap (λ (head : List ℕ). head ++ lines) head_text_is) in
    bad.stuck n.next (with_ends n.others ++ lines) n.rest
    (one_of bad.before n.others n.next
    (subst (λ (all : List (List ℕ)). AllByRecursion IsOneLine all) n.whole head_one))
    (begun_with bad.before n.others n.next n.whole)

-- the first bad line stands behind the head
pub behind_head : (number : ℕ) (lines : List ℕ)
    → IsBadLine file_kind.Session number (session_with lines) → 4 < number
behind_head number lines bad = omega (arith, not_in_head number lines bad, bad.counted)

-- ---- a round alone

pub written_round : (round : Round) → IsSessionRound round
    → SpellsRound (session_round_text round) round
unfolding session_text session_with
written_round round fits = record {
  config = some_config;
  spelled =
      subst (λ (text : List ℕ). SpellsSession some_config (round ∷ []) text)
      (ap (λ (lines : List ℕ). session_head_text some_config ++ lines)
      (append-nil (session_round_text round)))
      (session_is_spelled some_config (round ∷ []) is_config (fits, tt));
}
