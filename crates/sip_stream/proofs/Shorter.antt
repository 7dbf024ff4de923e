-- A shorter journal while it is written, and at its end.
use Rattle.std.proofs.Common.{◌≡◌, ◌<◌, ◌≤◌, ◌+◌, ℕ, zero, suc, List, [], ◌∷◌, ◌++◌, length, take, drop, Option, Some, None, inl, inr, refl, sym, ap, subst, ◌∙◌, append_assoc, append-nil, length-append, take-append-drop, arith}
use Rattle.std.specs.Prelude.{◌⊎◌, IfNone, IfOk, IfSome, OnOk, Result, Ok, Err}
use Rattle.std.specs.List.{AllZip, flat_map}
use Rattle.std.specs.Io.KnownBytes.{Appends, Consumes, IsAtEnd}
use Rattle.std.proofs.KnownBytes.{Appends-trans, Consumes-trans, Consumes-whole}
use Rattle.std.proofs.lemmas.List.Concat.{flat_map-append}
use Rattle.sip_round.specs.declared.config.Config.{Config}
use Rattle.sip_round.specs.declared.round.Event.{Event}
use Rattle.sip_round.specs.declared.round.Round.{Round}
use Rattle.sip_files.specs.EventFile.{SpellsIn, SpellsSession, head_lines, version_line}
use Rattle.sip_files.specs.Written.{session_head_text, session_round_text, session_text}
use Rattle.sip_files.specs.Rounds.{SpellsRound, SpellsRounds, session_with, some_config}
use Rattle.sip_files.specs.declared.version.FileKind.TheVariants as file_kind
use Rattle.sip_files.specs.declared.version.Version.TheVariants.{SessionOne}
use Rattle.sip_files.proofs.FileLines.{in_version}
use Rattle.sip_files.proofs.HeadLines.{is_config}
use Rattle.sip_files.proofs.WrittenLaws.{head_is, text_of, whole_head}
use Rattle.sip_files.proofs.WrittenSessions.{session_is_spelled}
use Rattle.sip_stream.specs.Shorter.{Shortens, StaysOrIsNothing, Thins}
use Rattle.sip_stream.specs.Steps.{IsShortened, from}
use Rattle.sip_stream.proofs.Joined.{joined, zip_append}

-- ---- answers

pub on_ok : {T E P Q : Type 0} (result : Result T E) → OnOk result P → (P → Q) → OnOk result Q
on_ok (Ok value) p f = f p
on_ok (Err error) p f = tt

pub if_ok : {T E : Type 0} {P Q : T → Type 0} (result : Result T E) → IfOk result P
    → ((value : T) → P value → Q value) → IfOk result Q
if_ok (Ok value) p f = f value p
if_ok (Err error) p f = tt

pub if_some : {A : Type 0} (P : A → Type 0) (o : Option A) (value : A) → o ≡ Some value
    → IfSome o P → P value
if_some P o value is p = subst (λ x. IfSome x P) is p

pub if_none : {A : Type 0} (P : Type 0) (o : Option A) → o ≡ None → IfNone o P → P
if_none P o is p = subst (λ x. IfNone x P) is p

-- ---- lists

same_tail : {A : Type 0} (x y : A) (xs ys : List A) → x ∷ xs ≡ y ∷ ys → xs ≡ ys
same_tail x y xs ys e = cc

same_last : (xs ys : List Round) (x y : Round) → xs ++ x ∷ [] ≡ ys ++ y ∷ [] → x ≡ y
same_last [] [] x y e = cc
same_last [] (b ∷ ys) x y e =
    absurd (omega (arith, ap length e, length-append ys (y ∷ [])))
same_last (a ∷ xs) [] x y e =
    absurd (omega (arith, ap length e, length-append xs (x ∷ [])))
same_last (a ∷ xs) (b ∷ ys) x y e =
    same_last xs ys x y (same_tail a b (xs ++ x ∷ []) (ys ++ y ∷ []) e)

zip_take : {A B : Type 0} (P : A → B → Type 0) (count : ℕ) (xs : List A) (ys : List B)
    → AllZip P xs ys → AllZip P (take count xs) (take count ys)
zip_take P zero xs ys zip = tt
zip_take P (suc count) [] [] zip = tt
zip_take P (suc count) [] (y ∷ ys) zip = elim zip [ ]
zip_take P (suc count) (x ∷ xs) [] zip = elim zip [ ]
zip_take P (suc count) (x ∷ xs) (y ∷ ys) zip = (zip.0, zip_take P count xs ys zip.1)

nothing_zips : (kept rest : List Round) → rest ≡ [] → AllZip Thins rest kept → kept ≡ []
nothing_zips [] rest none zip = refl
nothing_zips (k ∷ kept) rest none zip =
    elim (subst (λ (xs : List Round). AllZip Thins xs (k ∷ kept)) none zip) [ ]

-- ---- one round

-- the first ones of these events
pub thinned : (round kept : Round) (events others : List Event) (count : ℕ)
    → round.events ≡ events → AllZip StaysOrIsNothing events others → kept.moment ≡ round.moment
    → kept.events ≡ take count others → Thins round kept
thinned round kept events others count all zip moment are = record {
  moment = moment;
  front = take count events;
  missing = drop count events;
  parts = all ∙ sym (take-append-drop count events);
  events = subst (λ (ks : List Event). AllZip StaysOrIsNothing (take count events) ks) (sym are)
      (zip_take StaysOrIsNothing count events others zip);
}

pub same_events : (events : List Event) → AllZip StaysOrIsNothing events events
same_events [] = tt
same_events (event ∷ events) = (inl refl, same_events events)

-- a round that stays as it is
pub whole_round : (round : Round) → Thins round round
whole_round round = record {
  moment = refl;
  front = round.events;
  missing = [];
  parts = sym (append-nil round.events);
  events = same_events round.events;
}

-- ---- the lines of rounds

none_say : SpellsRounds [] []
unfolding session_with session_text
none_say = record {
  config = some_config;
  spelled = session_is_spelled some_config [] is_config tt;
}

follows : (lines : List ℕ) → (after : List ℕ)
    × (session_with lines ≡ version_line SessionOne ++ 10 ∷ after)
unfolding session_with
follows lines =
    let others = text_of (head_lines (whole_head some_config)) in (
      others ++ lines,
      ap (λ (head : List ℕ). head ++ lines) (head_is SessionOne some_config)
          ∙ append_assoc (version_line SessionOne ++ 10 ∷ []) others lines
          ∙ append_assoc (version_line SessionOne) (10 ∷ []) (others ++ lines),
    )

say_more : (lines more : List ℕ) (rounds : List Round) (round : Round) → SpellsRounds lines rounds
    → SpellsRound more round → SpellsRounds (lines ++ more) (rounds ++ round ∷ [])
unfolding session_with
say_more lines more rounds round s m =
    let begins = follows lines in
    let before = in_version file_kind.Session SessionOne s.config rounds (session_with lines)
    begins.0 begins.1 s.spelled in
    let all = joined file_kind.Session SessionOne s.config m.config rounds (round ∷ [])
    (session_with lines) more before m.spelled in
    record {
      config = s.config;
      spelled = (
        SessionOne,
        refl,
        subst (λ (t : List ℕ). SpellsIn SessionOne s.config (rounds ++ round ∷ []) t)
            (append_assoc (session_head_text some_config) lines more) all,
      );
    }

text_of_none : (config : Config) → session_text config [] ≡ session_head_text config
unfolding session_text
text_of_none config = append-nil (session_head_text config)

text_more : (config : Config) (kept : List Round) (round : Round)
    → session_text config (kept ++ round ∷ []) ≡ session_text config kept ++ session_round_text round
unfolding session_text
text_more config kept round =
    ap (λ (t : List ℕ). session_head_text config ++ t)
    (flat_map-append session_round_text kept (round ∷ [])
    ∙ ap (λ (t : List ℕ). flat_map session_round_text kept ++ t)
    (append-nil (session_round_text round)))
    ∙ sym (append_assoc (session_head_text config) (flat_map session_round_text kept)
    (session_round_text round))

-- ---- the whole

pub before_end : (old new : Option (List ℕ)) (lines : List ℕ) → lines ≡ [] → Consumes old new lines
    → IsAtEnd new → IsAtEnd old
before_end None new lines none consumed ended = tt
before_end (Some xs) None lines none consumed ended = elim consumed [ ]
before_end (Some xs) (Some ys) lines none consumed ended =
    consumed ∙ ap (λ (l : List ℕ). l ++ ys) none ∙ ended

-- the same of a configuration that stays
pub of_config : (chosen last number : ℕ) (config other : Config)
    (input pending old new : Option (List ℕ)) → other ≡ config
    → IsShortened chosen last config number input pending old new
    → IsShortened chosen last other number input pending old new
of_config chosen last number config other input pending old new same =
    subst (λ (c : Config). IsShortened chosen last c number input pending old new) (sym same)

pub begun : (chosen last : ℕ) (config : Config) (number : ℕ) (input pending old new : Option (List ℕ))
    (head bytes : List ℕ) → SpellsSession config [] head → Consumes input pending head
    → number ≡ config.first → config.first ≤ chosen
    → bytes ≡ session_head_text (from chosen config) → Appends old new bytes
    → IsShortened chosen last config number input pending old new
begun chosen last config number input pending old new head bytes configured consumed first low text
    appended = record {
      head = head;
      lines = [];
      rounds = [];
      before = [];
      rest = [];
      kept = [];
      configured = configured;
      say = none_say;
      consumed = subst (Consumes input pending) (sym (append-nil head)) consumed;
      numbered = omega (arith, first);
      parts = refl;
      thins = tt;
      skipped = λ _. refl;
      counted = λ reached. omega (arith, reached, first, low);
      ends = λ _ some others round none.
          absurd (omega (arith, some, first, low));
      appended = subst (Appends old new) (text ∙ sym (text_of_none (from chosen config))) appended;
    }

module _ {chosen last : ℕ} {config : Config} {number : ℕ} {input pending old new : Option (List ℕ)}
    (g : IsShortened chosen last config number input pending old new) (next : Option (List ℕ))
    (after : ℕ) (lines : List ℕ) (round : Round) (says : SpellsRound lines round)
    (consumed : Consumes pending next lines) (is_next : after ≡ number + 1) where
  taken : Consumes input next (g.head ++ (g.lines ++ lines))
  taken = subst (Consumes input next) (append_assoc g.head g.lines lines)
      (Consumes-trans input pending next (g.head ++ g.lines) lines g.consumed consumed)

  counted_on : after ≡ config.first + length (g.rounds ++ round ∷ [])
  counted_on = omega (arith, is_next, g.numbered, length-append g.rounds (round ∷ []))

  pub skips : number < chosen → IsShortened chosen last config after input next old new
  skips below =
      let low : number ≤ chosen = omega (arith, below) in
      let none = g.skipped low in
      let all : g.rounds ≡ g.before =
      g.parts ∙ ap (λ (rs : List Round). g.before ++ rs) none ∙ append-nil g.before in
      record {
        head = g.head;
        lines = g.lines ++ lines;
        rounds = g.rounds ++ round ∷ [];
        before = g.before ++ round ∷ [];
        rest = [];
        kept = [];
        configured = g.configured;
        say = say_more g.lines lines g.rounds round g.say says;
        consumed = taken;
        numbered = counted_on;
        parts = ap (λ (rs : List Round). rs ++ round ∷ []) all
            ∙ sym (append-nil (g.before ++ round ∷ []));
        thins = tt;
        skipped = λ _. refl;
        counted = λ reached.
            omega (
              arith,
              reached,
              below,
              is_next,
              g.numbered,
              ap length all,
              length-append g.before (round ∷ []),
            );
        ends = λ _ some. absurd (omega (arith, some, below, is_next));
        appended = subst (λ (ks : List Round). Appends old new (session_text (from chosen config) ks))
            (nothing_zips g.kept g.rest none g.thins) g.appended;
      }

  pub keeps : (newer : Option (List ℕ)) (kept : Round) (text : List ℕ) → chosen ≤ number
      → Thins round kept → (number ≡ last → kept ≡ round) → text ≡ session_round_text kept
      → Appends new newer text → IsShortened chosen last config after input next old newer
  keeps newer kept text reached thin whole is appended = record {
    head = g.head;
    lines = g.lines ++ lines;
    rounds = g.rounds ++ round ∷ [];
    before = g.before;
    rest = g.rest ++ round ∷ [];
    kept = g.kept ++ kept ∷ [];
    configured = g.configured;
    say = say_more g.lines lines g.rounds round g.say says;
    consumed = taken;
    numbered = counted_on;
    parts = ap (λ (rs : List Round). rs ++ round ∷ []) g.parts
        ∙ append_assoc g.before g.rest (round ∷ []);
    thins = zip_append Thins g.rest (round ∷ []) g.kept (kept ∷ []) g.thins (thin, tt);
    skipped = λ low. absurd (omega (arith, low, reached, is_next));
    counted = λ _. g.counted reached;
    ends = λ end some others other are. (
      g.kept,
      ap (λ (k : Round). g.kept ++ k ∷ [])
          (whole (omega (arith, end, is_next)) ∙ same_last g.rounds others round other are),
    );
    appended = subst (Appends old newer)
        (ap (λ (t : List ℕ). session_text (from chosen config) g.kept ++ t) is
        ∙ sym (text_more (from chosen config) g.kept kept))
        (Appends-trans old new newer (session_text (from chosen config) g.kept) text g.appended
        appended);
  }

abbrev pub IsEnd : ℕ → ℕ → ℕ → ℕ → Type 0
IsEnd chosen last first number =
    (number ≡ first) × (chosen ≡ first) ⊎ (chosen < number) × (number ≡ last + 1)

pub ended : {chosen last : ℕ} {config : Config} {number : ℕ}
    {input pending old new : Option (List ℕ)}
    (g : IsShortened chosen last config number input pending old new) → IsAtEnd pending
    → IsEnd chosen last config.first number
    → IfSome input (λ long. (short : List ℕ) × Shortens long short × Appends old new short)
ended {chosen} {last} {config} {number} {input} {pending} {old} {new} g is_end end =
    Consumes-whole input pending (g.head ++ g.lines)
    (λ long. (short : List ℕ) × Shortens long short × Appends old new short) g.consumed is_end (
      session_text (from chosen config) g.kept,
      record {
        config = config;
        rounds = g.rounds;
        long_is = record {
          head = g.head;
          lines = g.lines;
          parts = refl;
          configured = g.configured;
          say = g.say;
        };
        short_is = record {
          before = g.before;
          rest = g.rest;
          kept = g.kept;
          parts = g.parts;
          thins = g.thins;
          last = last_is end;
          written = ap (λ (n : ℕ). session_text (from n config) g.kept) (g.counted (reached end));
        };
      },
      g.appended,
    )
  where
    reached : IsEnd chosen last config.first number → chosen ≤ number
    reached end = elim end [
      | inl none ↦ omega (arith, none.0, none.1)
      | inr some ↦ omega (arith, some.0)
    ]

    last_is : IsEnd chosen last config.first number → (others : List Round) (round : Round)
        → g.rounds ≡ others ++ round ∷ [] → (front : List Round) × (g.kept ≡ front ++ round ∷ [])
    last_is end others round are = elim end [
      | inl none ↦ absurd (omega (
        arith,
        none.0,
        g.numbered,
        ap length are,
        length-append others (round ∷ []),
      ))
      | inr some ↦ g.ends some.1 some.0 others round are
    ]
