-- Drafts of event files: the lines of a file are taken one after another.
use Rattle.std.proofs.Common.{◌≡◌, ℕ, List, [], ◌∷◌, ◌++◌, map, Option, Some, None, refl, sym, ap, ◌∙◌, append_assoc}
use Rattle.std.specs.List.{flat_map}
use Rattle.std.specs.Option.{option_map}
use Rattle.std.proofs.lemmas.List.{append-nil}
use Rattle.sip_text.specs.Options.{◌>>=◌}
use Rattle.sip_message.specs.declared.addr.Addr.{Addr}
use Rattle.sip_round.specs.declared.config.Config.{Config}
use Rattle.sip_round.specs.declared.round.Event.{Event}
use Rattle.sip_round.specs.declared.round.Round.{Round}
use Rattle.sip_files.specs.declared.event_line.EventLine.{EventLine}
use Rattle.sip_files.specs.declared.event_line.EventLine.TheVariants as line
use Rattle.sip_files.specs.declared.draft.Stage.{Stage}
use Rattle.sip_files.specs.declared.draft.Stage.TheVariants as stage
use Rattle.sip_files.specs.declared.draft.Draft.{Draft}
use Rattle.sip_files.specs.EventFile.{config_of, round_lines, file_lines}
use Rattle.sip_files.specs.Steps.Drafting.{nothing_read, begun_round, round_taken, with_event, all_gone, drafted}

abbrev pub one_more : Round → Event → Round
one_more round event = record round { events = round.events ++ event ∷ [] }

pub with_event-last : (rounds : List Round) (round : Round) (event : Event)
    → with_event (rounds ++ round ∷ []) event ≡ Some (rounds ++ one_more round event ∷ [])
with_event-last [] round event = refl
with_event-last (first ∷ []) round event = refl
with_event-last (first ∷ next ∷ rounds) round event =
    ap (option_map (λ rs. first ∷ rs)) (with_event-last (next ∷ rounds) round event)

-- ---- one step after another

module _ {S I : Type 0} (step : S → I → Option S) where
  pub gone-append : (start : S) (items more : List I)
      → all_gone step start (items ++ more)
      ≡ (all_gone step start items >>= λ next. all_gone step next more)
  unfolding all_gone
  gone-append start [] more = refl
  gone-append start (item ∷ items) more =
      further (step start item) (λ s. gone-append s items more)
    where
      further : (o : Option S) → ((s : S) → all_gone step s (items ++ more)
          ≡ (all_gone step s items >>= λ n. all_gone step n more))
          → (o >>= λ s. all_gone step s (items ++ more))
          ≡ ((o >>= λ s. all_gone step s items) >>= λ n. all_gone step n more)
      further None same = refl
      further (Some s) same = same s

  pub gone-one : (start : S) (item : I) → all_gone step start (item ∷ []) ≡ step start item
  unfolding all_gone
  gone-one start item = whole (step start item)
    where
      whole : (o : Option S) → (o >>= λ s. Some s) ≡ o
      whole None = refl
      whole (Some s) = refl

  pub gone-push : (start next : S) (items : List I) (last : I)
      → all_gone step start items ≡ Some next
      → all_gone step start (items ++ last ∷ []) ≡ step next last
  gone-push start next items last e =
      gone-append start items (last ∷ [])
      ∙ ap (λ o. o >>= λ s. all_gone step s (last ∷ [])) e
      ∙ gone-one next last

  -- a run that goes on made its next step
  pub next_gone : (start next end : S) (items more : List I) (item : I)
      → all_gone step start items ≡ Some next
      → all_gone step start (items ++ item ∷ more) ≡ Some end
      → step next item ≡ None → ⊥
  unfolding all_gone
  next_gone start next end items more item e whole none =
      let split : (all_gone step start items >>= λ s. all_gone step s (item ∷ more)) ≡ Some end =
      sym (gone-append start items (item ∷ more)) ∙ whole in
      let after : (step next item >>= λ s. all_gone step s more) ≡ Some end =
      sym (ap (λ o. o >>= λ s. all_gone step s (item ∷ more)) e) ∙ split in
      let stop : ◌≡◌ {A = Option S} None (Some end) =
      sym (ap (λ o. o >>= λ s. all_gone step s more) none) ∙ after in
      absurd cc

-- ---- a file's lines are taken

abbrev pub Begun : Stage → Type 0
Begun stage.Local = ⊥
Begun stage.Seed = Unit {0}
Begun stage.First = Unit {0}
Begun stage.Rounds = Unit {0}

abbrev pub draft_of : Config → Stage → List Round → Draft
draft_of config at rounds = record { config = config; stage = at; rounds = rounds }

events_taken : (config : Config) (at : Stage) (rounds : List Round) (moment : ℕ)
    (done events : List Event) (more : List EventLine)
    → drafted (draft_of config at (rounds ++ (record { moment = moment; events = done }) ∷ []))
    (map line.Event events ++ more)
    ≡ drafted (draft_of config at (rounds
    ++ (record { moment = moment; events = done ++ events }) ∷ [])) more
unfolding all_gone
events_taken config at rounds moment done [] more =
    ap (λ (es : List Event). drafted
    (draft_of config at (rounds ++ (record { moment = moment; events = es }) ∷ [])) more)
    (sym (append-nil done))
events_taken config at rounds moment done (event ∷ events) more =
    ap (λ o. option_map (λ rs. draft_of config at rs) o >>= λ d.
    drafted d (map line.Event events ++ more))
    (with_event-last rounds (record { moment = moment; events = done }) event)
    ∙ events_taken config at rounds moment (done ++ event ∷ []) events more
    ∙ ap (λ (es : List Event). drafted
    (draft_of config at (rounds ++ (record { moment = moment; events = es }) ∷ [])) more)
    (append_assoc done (event ∷ []) events)

round_begun : (config : Config) (at : Stage) (rounds : List Round) (moment : ℕ) → Begun at
    → round_taken at (draft_of config at rounds) moment
    ≡ Some (begun_round (draft_of config at rounds) moment)
round_begun config stage.Local rounds moment begun = elim begun [ ]
round_begun config stage.Seed rounds moment begun = refl
round_begun config stage.First rounds moment begun = refl
round_begun config stage.Rounds rounds moment begun = refl

abbrev stage_after : Stage → List Round → Stage
stage_after at [] = at
stage_after at (round ∷ rounds) = stage.Rounds

stage_after_rounds : (rounds : List Round) → stage_after stage.Rounds rounds ≡ stage.Rounds
stage_after_rounds [] = refl
stage_after_rounds (round ∷ rounds) = refl

rounds_taken : (config : Config) (at : Stage) (done rounds : List Round) → Begun at
    → drafted (draft_of config at done) (flat_map round_lines rounds)
    ≡ Some (draft_of config (stage_after at rounds) (done ++ rounds))
unfolding all_gone
rounds_taken config at done [] begun =
    ap (λ (rs : List Round). Some (draft_of config at rs)) (sym (append-nil done))
rounds_taken config at done (round ∷ rounds) begun =
    ap (λ o. o >>= λ d. drafted d (map line.Event round.events ++ flat_map round_lines rounds))
    (round_begun config at done round.moment begun)
    ∙ events_taken config stage.Rounds done round.moment [] round.events
    (flat_map round_lines rounds)
    ∙ rounds_taken config stage.Rounds (done ++ round ∷ []) rounds tt
    ∙ ap (λ s. Some (draft_of config s ((done ++ round ∷ []) ++ rounds)))
    (stage_after_rounds rounds)
    ∙ ap (λ (rs : List Round). Some (draft_of config stage.Rounds rs))
    (append_assoc done (round ∷ []) rounds)

stage_begun : (at : Stage) (rounds : List Round) → Begun at → Begun (stage_after at rounds)
stage_begun at [] begun = begun
stage_begun at (round ∷ rounds) begun = tt

-- the draft that a file gives
pub record Gives (config : Config) (rounds : List Round) (lines : List EventLine) : Type 0 where
  pub draft : Draft
  pub taken_all : drafted nothing_read lines ≡ Some draft
  pub configured : draft.config ≡ config
  pub all_rounds : draft.rounds ≡ rounds
  pub begun : Begun draft.stage

gives_by : (config : Config) (at : Stage) (rounds : List Round) (lines : List EventLine) → Begun at
    → drafted nothing_read lines ≡ drafted (draft_of config at []) (flat_map round_lines rounds)
    → Gives config rounds lines
gives_by config at rounds lines begun e = record {
  draft = draft_of config (stage_after at rounds) rounds;
  taken_all = e ∙ rounds_taken config at [] rounds begun;
  configured = refl;
  all_rounds = refl;
  begun = stage_begun at rounds begun;
}

pub file_gives : (local : Addr) (seed : Option (List ℕ)) (first : Option ℕ) (rounds : List Round)
    → Gives (config_of (record { local = local; seed = seed; first = first })) rounds
    (file_lines (record { local = local; seed = seed; first = first }) rounds)
unfolding all_gone
file_gives local None None rounds = gives_by _ stage.Seed rounds _ tt refl
file_gives local None (Some n) rounds = gives_by _ stage.Rounds rounds _ tt refl
file_gives local (Some s) None rounds = gives_by _ stage.First rounds _ tt refl
file_gives local (Some s) (Some n) rounds = gives_by _ stage.Rounds rounds _ tt refl
