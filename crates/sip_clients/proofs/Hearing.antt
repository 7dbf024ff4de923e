-- Numbers that come one after the other, each shown or not by the latest before it: in a life that
-- one event begins, those in order are shown.
use Rattle.std.proofs.Common.{◌≡◌, ◌⊎◌, inl, inr, ℕ, List, [], ◌∷◌, ◌++◌, true, false, refl, sym, ap, subst, ◌∙◌, append_assoc, append-nil, arith}
use Rattle.std.specs.Prelude.{Option, None, Some, unwrap_or}
use Rattle.std.specs.List.{AllByRecursion, IsDistinct, filter_map, cons_option}
use Rattle.std.specs.Option.{option_to_list}
use Rattle.std.proofs.lemmas.Bool.{false≢true}
use Rattle.std.proofs.lemmas.Grind.{common_steps}
use Rattle.std.proofs.lemmas.Map.Keys.{IsDistinct-head, IsDistinct-tail}
use Rattle.sip_message.specs.declared.id.Id.{Id}
use Rattle.sip_reliable.specs.Inbound.{in_order, latest, latest_after, offered, taken}
use Rattle.sip_reliable.proofs.InOrder.{stays, takes}
use Rattle.sip_held_dialogs.specs.Ids.{is_id}

-- ---- one input

-- nothing came: the latest number doesn't change, the life is over, or it begins
abbrev pub Silent : Type 0 → Option (Option ℕ) → Option (Option ℕ) → Type 0
Silent Begins before after = (after ≡ None) ⊎ ((after ≡ before) ⊎ (Begins × (after ≡ Some None)))

-- a number came, in a life that goes on or begins
pub record Hears (Begins : Type 0) (before after : Option (Option ℕ)) (number : ℕ)
    (reported : List ℕ) : Type 0 where
  pub last : Option ℕ
  pub was : (before ≡ Some last) ⊎ (Begins × (last ≡ None))
  pub now : (after ≡ None) ⊎ (after ≡ Some (latest_after (offered last number) last number))
  pub shows : reported ≡ taken (offered last number) number

abbrev pub Listens : Type 0 → Option (Option ℕ) → Option (Option ℕ) → Option ℕ → List ℕ → Type 0
Listens Begins before after None reported = Silent Begins before after × (reported ≡ [])
Listens Begins before after (Some number) reported = Hears Begins before after number reported

-- ---- ids

same_id : (x y : Id) → Some x ≡ Some y → x ≡ y
same_id x y e = ap (λ o. unwrap_or o x) e

id_itself : (x : Id) → is_id x x ≡ true
id_itself x = grind (arith, common_steps)

-- no later input is of the event
abbrev pub NoneOf : Id → List Id → Type 0
NoneOf created_by ids = AllByRecursion (λ id. is_id created_by id ≡ false) ids

none_now : (created_by : Id) (o : Option Id) (rest : List Id)
    → NoneOf created_by (cons_option o rest)
    → (o ≡ Some created_by → ⊥) × NoneOf created_by rest
none_now created_by None rest all = (λ e. absurd cc, all)
none_now created_by (Some id) rest all = (
  λ e. absurd (false≢true (sym all.0 ∙ ap (is_id created_by) (same_id id created_by e)
      ∙ id_itself created_by)),
  all.1,
)

pub apart_now : (created_by : Id) (o : Option Id) (rest : List Id)
    → IsDistinct is_id (cons_option o rest)
    → IsDistinct is_id rest × (o ≡ Some created_by → NoneOf created_by rest)
apart_now created_by None rest apart = (apart, λ e. absurd cc)
apart_now created_by (Some id) rest apart = (
  IsDistinct-tail is_id id rest apart,
  λ e. subst (λ x. NoneOf x rest) (same_id id created_by e) (IsDistinct-head is_id id rest apart),
)

abbrev InOrderFrom : List ℕ → List ℕ → List ℕ → Type 0
InOrderFrom before reported came = in_order before ++ reported ≡ in_order (before ++ came)

-- the life is over, or this is the latest number
abbrev Heard : Option (Option ℕ) → List ℕ → Type 0
Heard ear before = (ear ≡ None) ⊎ (ear ≡ Some (latest before))

-- one number more
one_more : (before : List ℕ) (last : Option ℕ) (n : ℕ) (now reported came : List ℕ)
    → last ≡ latest before → now ≡ taken (offered last n) n
    → InOrderFrom (before ++ n ∷ []) reported came → InOrderFrom before (now ++ reported) (n ∷ came)
one_more before last n now reported came is shown_now later =
    ap (λ xs. in_order before ++ (xs ++ reported)) shown_now
    ∙ sym (append_assoc (in_order before) (taken (offered last n) n) reported)
    ∙ ap (λ xs. xs ++ reported) (sym (takes last (offered last n) before n refl is))
    ∙ later ∙ ap in_order (append_assoc before (n ∷ []) came)

last_is : (before : List ℕ) (ear : Option (Option ℕ)) (last : Option ℕ) → Heard ear before
    → ear ≡ Some last → last ≡ latest before
last_is before ear last (inl none) is = absurd cc
last_is before ear last (inr last_rseq) is = ap (λ o. unwrap_or o last) (sym is ∙ last_rseq)

heard_next : (before : List ℕ) (n : ℕ) (last : Option ℕ) (ear : Option (Option ℕ))
    → last ≡ latest before
    → ((ear ≡ None) ⊎ (ear ≡ Some (latest_after (offered last n) last n)))
    → Heard ear (before ++ n ∷ [])
heard_next before n last ear is (inl none) = inl none
heard_next before n last ear is (inr now) =
    inr (now ∙ ap (λ l. Some l) (stays last (latest_after (offered last n) last n)
    (offered last n) before n refl refl is))

still_heard : (Begins : Type 0) (before : List ℕ) (old new : Option (Option ℕ)) → (Begins → ⊥)
    → Heard old before → Silent Begins old new → Heard new before
still_heard Begins before old new never last_rseq (inl none) = inl none
still_heard Begins before old new never (inl none) (inr (inl same)) = inl (same ∙ none)
still_heard Begins before old new never (inr is) (inr (inl same)) = inr (same ∙ is)
still_heard Begins before old new never last_rseq (inr (inr begins)) = absurd (never begins.0)

-- in the life
in_life : (Begins : Type 0) (before : List ℕ) (old new : Option (Option ℕ)) (o : Option ℕ)
    (now reported came : List ℕ) → (Begins → ⊥) → Heard old before → Listens Begins old new o now
    → ((so_far : List ℕ) → Heard new so_far → InOrderFrom so_far reported came)
    → InOrderFrom before (now ++ reported) (option_to_list o ++ came)
in_life Begins before old new None now reported came never last_rseq silent later =
    subst (λ xs. InOrderFrom before (xs ++ reported) came) (sym silent.1)
    (later before (still_heard Begins before old new never last_rseq silent.0))
in_life Begins before old new (Some n) now reported came never last_rseq hears later =
    let is : hears.last ≡ latest before = by_was hears.was in
    one_more before hears.last n now reported came is hears.shows
    (later (before ++ n ∷ []) (heard_next before n hears.last new is hears.now))
  where
    by_was : ((old ≡ Some hears.last) ⊎ (Begins × (hears.last ≡ None))) → hears.last ≡ latest before
    by_was (inl is) = last_is before old hears.last last_rseq is
    by_was (inr begins) = absurd (never begins.0)

-- before it
before_life : (Begins : Type 0) (old new : Option (Option ℕ)) (o : Option ℕ)
    (now reported came : List ℕ) → old ≡ None → Listens Begins old new o now
    → (Begins → (so_far : List ℕ) → Heard new so_far → InOrderFrom so_far reported came)
    → (new ≡ None → InOrderFrom [] reported came)
    → InOrderFrom [] (now ++ reported) (option_to_list o ++ came)
before_life Begins old new None now reported came none silent begun later =
    subst (λ xs. InOrderFrom [] (xs ++ reported) came) (sym silent.1) (by_silence silent.0)
  where
    by_silence : Silent Begins old new → InOrderFrom [] reported came
    by_silence (inl gone) = later gone
    by_silence (inr (inl same)) = later (same ∙ none)
    by_silence (inr (inr begins)) = begun begins.0 [] (inr begins.1)
before_life Begins old new (Some n) now reported came none hears begun later = by_was hears.was
  where
    by_was : ((old ≡ Some hears.last) ⊎ (Begins × (hears.last ≡ None)))
        → InOrderFrom [] (now ++ reported) (n ∷ came)
    by_was (inl is) = absurd (never (sym none ∙ is))
      where
        never : None ≡ Some hears.last → ⊥
        never e = absurd cc
    by_was (inr begins) = one_more [] hears.last n now reported came begins.1 hears.shows
        (begun begins.0 (n ∷ []) (heard_next [] n hears.last new begins.1 hears.now))

-- ---- all inputs

module _ {S I : Type 0} (next : S → I → S) (event : I → Option Id) (number : S → I → Option ℕ)
    (shows : S → I → List ℕ) (ear : S → Option (Option ℕ)) (Sound : S → Type 0) (created_by : Id)
    (step : (state : S) (input : I) → Sound state → (event input ≡ Some created_by → ear state
    ≡ None)
    → Sound (next state input) × Listens (event input ≡ Some created_by) (ear state)
    (ear (next state input)) (number state input) (shows state input)) where
  abbrev pub came_from : S → List I → List ℕ
  came_from state [] = []
  came_from state (input ∷ inputs) =
      option_to_list (number state input) ++ came_from (next state input) inputs

  abbrev pub shown_from : S → List I → List ℕ
  shown_from state [] = []
  shown_from state (input ∷ inputs) = shows state input ++ shown_from (next state input) inputs

  from_life : (inputs : List I) (state : S) (before : List ℕ) → Sound state
      → NoneOf created_by (filter_map event inputs) → Heard (ear state) before
      → InOrderFrom before (shown_from state inputs) (came_from state inputs)
  from_life [] state before sound others last_rseq =
      append-nil (in_order before) ∙ ap in_order (sym (append-nil before))
  from_life (input ∷ inputs) state before sound others last_rseq =
      let now = none_now created_by (event input) (filter_map event inputs) others in
      let done = step state input sound (λ is. absurd (now.0 is)) in
      in_life (event input ≡ Some created_by) before (ear state) (ear (next state input))
      (number state input) (shows state input) (shown_from (next state input) inputs)
      (came_from (next state input) inputs)
      now.0 last_rseq done.1 (λ so_far. from_life inputs (next state input) so_far done.0 now.1)

  from_before : (inputs : List I) (state : S) → Sound state
      → IsDistinct is_id (filter_map event inputs) → ear state ≡ None
      → InOrderFrom [] (shown_from state inputs) (came_from state inputs)
  from_before [] state sound apart none = refl
  from_before (input ∷ inputs) state sound apart none =
      let now = apart_now created_by (event input) (filter_map event inputs) apart in
      let done = step state input sound (λ _. none) in
      before_life (event input ≡ Some created_by) (ear state) (ear (next state input))
      (number state input) (shows state input) (shown_from (next state input) inputs)
      (came_from (next state input) inputs)
      none done.1 (λ begins so_far. from_life inputs (next state input) so_far done.0
      (now.1 begins)) (λ gone. from_before inputs (next state input) done.0 now.0 gone)

  -- if no number came before, and events differ
  pub heard_in_order : (inputs : List I) (state : S) → Sound state
      → IsDistinct is_id (filter_map event inputs) → ear state ≡ None
      → shown_from state inputs ≡ in_order (came_from state inputs)
  heard_in_order inputs state sound apart none = from_before inputs state sound apart none
