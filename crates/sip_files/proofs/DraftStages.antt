-- The lines taken into a draft are those of a file, as far as the draft's stage says.
use Rattle.std.proofs.Common.{◌≡◌, ℕ, List, [], ◌∷◌, ◌++◌, map, Option, Some, None, refl, sym, ap, subst, ◌∙◌, append_assoc}
use Rattle.std.specs.List.{flat_map}
use Rattle.std.specs.Option.{option_map}
use Rattle.std.specs.Prelude.{replicate}
use Rattle.std.proofs.lemmas.List.{append-nil}
use Rattle.std.proofs.lemmas.List.Concat.{flat_map-append}
use Rattle.sip_text.proofs.Options.{bind_some, same_some}
use Rattle.sip_message.specs.declared.addr.Addr.{Addr}
use Rattle.sip_round.specs.declared.config.Config.{Config}
use Rattle.sip_round.specs.declared.round.Event.{Event}
use Rattle.sip_round.specs.declared.round.Round.{Round}
use Rattle.sip_files.specs.declared.event_line.EventLine.{EventLine}
use Rattle.sip_files.specs.declared.event_line.EventLine.TheVariants as line
use Rattle.sip_files.specs.declared.draft.Stage.{Stage}
use Rattle.sip_files.specs.declared.draft.Stage.TheVariants as stage
use Rattle.sip_files.specs.declared.draft.Draft.{Draft}
use Rattle.sip_files.specs.EventFile.{Head, config_of, head_lines, round_lines, file_lines}
use Rattle.sip_files.specs.Steps.Drafting.{nothing_read, local_taken, seed_taken, first_taken, begun_round, round_taken, with_event, taken, all_gone, drafted}
use Rattle.sip_files.proofs.Drafts.{one_more, Begun, draft_of}

abbrev zeros : List ℕ
zeros = replicate 32 0

-- the lines before a draft, by its stage
abbrev Reached : Config → Stage → List Round → List EventLine → Type 0
Reached config stage.Local rounds lines =
    (config ≡ nothing_read.config) × (rounds ≡ []) × (lines ≡ [])
Reached config stage.Seed rounds lines =
    (local : Addr) × (config ≡ record { local = local; seed = zeros; first = 0 }) × (rounds ≡ [])
    × (lines ≡ line.Local local ∷ [])
Reached config stage.First rounds lines =
    (local : Addr) × (seed : List ℕ) × (config ≡ record { local = local; seed = seed; first = 0 })
    × (rounds ≡ []) × (lines ≡ line.Local local ∷ line.Seed seed ∷ [])
Reached config stage.Rounds rounds lines =
    (head : Head) × (config ≡ config_of head) × (lines ≡ file_lines head rounds)

abbrev ReachedBy : Draft → List EventLine → Type 0
ReachedBy draft lines = Reached draft.config draft.stage draft.rounds lines

no_draft : (d : Draft) → ◌≡◌ {A = Option Draft} None (Some d) → ⊥
no_draft d e = cc

local_step : (config : Config) (at : Stage) (rounds : List Round) (lines : List EventLine)
    (local : Addr) (next : Draft) → Reached config at rounds lines
    → local_taken at (draft_of config at rounds) local ≡ Some next
    → ReachedBy next (lines ++ line.Local local ∷ [])
local_step config stage.Local rounds lines local next r e =
    subst (λ (d : Draft). ReachedBy d (lines ++ line.Local local ∷ []))
    (same_some (draft_of (record config { local = local }) stage.Seed rounds) next e) (
      local,
      ap (λ (c : Config). record c { local = local }) r.0,
      r.1,
      ap (λ (ls : List EventLine). ls ++ line.Local local ∷ []) r.2,
    )
local_step config stage.Seed rounds lines local next r e = absurd (no_draft next e)
local_step config stage.First rounds lines local next r e = absurd (no_draft next e)
local_step config stage.Rounds rounds lines local next r e = absurd (no_draft next e)

seed_step : (config : Config) (at : Stage) (rounds : List Round) (lines : List EventLine)
    (seed : List ℕ) (next : Draft) → Reached config at rounds lines
    → seed_taken at (draft_of config at rounds) seed ≡ Some next
    → ReachedBy next (lines ++ line.Seed seed ∷ [])
seed_step config stage.Local rounds lines seed next r e = absurd (no_draft next e)
seed_step config stage.Seed rounds lines seed next r e =
    subst (λ (d : Draft). ReachedBy d (lines ++ line.Seed seed ∷ []))
    (same_some (draft_of (record config { seed = seed }) stage.First rounds) next e) (
      r.0,
      seed,
      ap (λ (c : Config). record c { seed = seed }) r.1,
      r.2,
      ap (λ (ls : List EventLine). ls ++ line.Seed seed ∷ []) r.3,
    )
seed_step config stage.First rounds lines seed next r e = absurd (no_draft next e)
seed_step config stage.Rounds rounds lines seed next r e = absurd (no_draft next e)

-- the lines of a head without rounds
no_rounds : (head : Head) (rounds : List Round) (lines : List EventLine) → rounds ≡ []
    → lines ≡ head_lines head → lines ≡ file_lines head rounds
no_rounds head rounds lines none e =
    e ∙ sym (append-nil (head_lines head))
    ∙ ap (λ (rs : List Round). head_lines head ++ flat_map round_lines rs) (sym none)

first_step : (config : Config) (at : Stage) (rounds : List Round) (lines : List EventLine)
    (number : ℕ) (next : Draft) → Reached config at rounds lines
    → first_taken at (draft_of config at rounds) number ≡ Some next
    → ReachedBy next (lines ++ line.First number ∷ [])
first_step config stage.Local rounds lines number next r e = absurd (no_draft next e)
first_step config stage.Seed rounds lines number next r e =
    let head : Head = record { local = r.0; seed = None; first = Some number } in
    subst (λ (d : Draft). ReachedBy d (lines ++ line.First number ∷ []))
    (same_some (draft_of (record config { first = number }) stage.Rounds rounds) next e) (
      head,
      ap (λ (c : Config). record c { first = number }) r.1,
      no_rounds head rounds (lines ++ line.First number ∷ []) r.2
          (ap (λ (ls : List EventLine). ls ++ line.First number ∷ []) r.3),
    )
first_step config stage.First rounds lines number next r e =
    let head : Head = record { local = r.0; seed = Some r.1; first = Some number } in
    subst (λ (d : Draft). ReachedBy d (lines ++ line.First number ∷ []))
    (same_some (draft_of (record config { first = number }) stage.Rounds rounds) next e) (
      head,
      ap (λ (c : Config). record c { first = number }) r.2,
      no_rounds head rounds (lines ++ line.First number ∷ []) r.3
          (ap (λ (ls : List EventLine). ls ++ line.First number ∷ []) r.4),
    )
first_step config stage.Rounds rounds lines number next r e = absurd (no_draft next e)

-- a round without events, after the lines of a file
round_added : (head : Head) (rounds : List Round) (lines : List EventLine) (moment : ℕ)
    → lines ≡ file_lines head rounds
    → lines ++ line.Round moment ∷ []
    ≡ file_lines head (rounds ++ (record { moment = moment; events = [] }) ∷ [])
round_added head rounds lines moment e =
    ap (λ (ls : List EventLine). ls ++ line.Round moment ∷ []) e
    ∙ append_assoc (head_lines head) (flat_map round_lines rounds) (line.Round moment ∷ [])
    ∙ ap (λ (ls : List EventLine). head_lines head ++ ls)
    (sym (flat_map-append round_lines rounds ((record { moment = moment; events = [] }) ∷ [])))

round_step : (config : Config) (at : Stage) (rounds : List Round) (lines : List EventLine)
    (moment : ℕ) (next : Draft) → Reached config at rounds lines
    → round_taken at (draft_of config at rounds) moment ≡ Some next
    → ReachedBy next (lines ++ line.Round moment ∷ [])
round_step config stage.Local rounds lines moment next r e = absurd (no_draft next e)
round_step config stage.Seed rounds lines moment next r e =
    let head : Head = record { local = r.0; seed = None; first = None } in
    subst (λ (d : Draft). ReachedBy d (lines ++ line.Round moment ∷ []))
    (same_some (begun_round (draft_of config stage.Seed rounds) moment) next e)
    (head, r.1, round_added head rounds lines moment (no_rounds head rounds lines r.2 r.3))
round_step config stage.First rounds lines moment next r e =
    let head : Head = record { local = r.0; seed = Some r.1; first = None } in
    subst (λ (d : Draft). ReachedBy d (lines ++ line.Round moment ∷ []))
    (same_some (begun_round (draft_of config stage.First rounds) moment) next e)
    (head, r.2, round_added head rounds lines moment (no_rounds head rounds lines r.3 r.4))
round_step config stage.Rounds rounds lines moment next r e =
    subst (λ (d : Draft). ReachedBy d (lines ++ line.Round moment ∷ []))
    (same_some (begun_round (draft_of config stage.Rounds rounds) moment) next e)
    (r.0, r.1, round_added r.0 rounds lines moment r.2)

-- an event is put into the last round
map_push : (events : List Event) (event : Event)
    → map line.Event (events ++ event ∷ []) ≡ map line.Event events ++ line.Event event ∷ []
map_push [] event = refl
map_push (first ∷ events) event =
    ap (λ (ls : List EventLine). line.Event first ∷ ls) (map_push events event)

further : (round : Round) (rounds changed : List Round) (event : Event) (o : Option (List Round))
    → ((rs : List Round) → with_event rounds event ≡ Some rs
    → flat_map round_lines rs ≡ flat_map round_lines rounds ++ line.Event event ∷ [])
    → with_event rounds event ≡ o → option_map (λ rs. round ∷ rs) o ≡ Some changed
    → flat_map round_lines changed ≡ flat_map round_lines (round ∷ rounds) ++ line.Event event ∷ []
further round rounds changed event None before is made = absurd cc
further round rounds changed event (Some rs) before is made =
    let P : List Round → Type 0 = λ x. flat_map round_lines x
    ≡ flat_map round_lines (round ∷ rounds) ++ line.Event event ∷ [] in
    subst P (same_some (round ∷ rs) changed made)
    (ap (λ (ls : List EventLine). round_lines round ++ ls) (before rs is)
    ∙ sym (append_assoc (round_lines round) (flat_map round_lines rounds)
    (line.Event event ∷ [])))

event_added : (rounds changed : List Round) (event : Event) → with_event rounds event ≡ Some changed
    → flat_map round_lines changed ≡ flat_map round_lines rounds ++ line.Event event ∷ []
event_added [] changed event e = absurd cc
event_added (round ∷ []) changed event e =
    let P : List Round → Type 0 = λ rs. flat_map round_lines rs ≡ flat_map round_lines (round ∷ [])
    ++ line.Event event ∷ [] in
    subst P (same_some (one_more round event ∷ []) changed e)
    (append-nil (round_lines (one_more round event))
    ∙ ap (λ (ls : List EventLine). line.Round round.moment ∷ ls) (map_push round.events event)
    ∙ ap (λ (ls : List EventLine). ls ++ line.Event event ∷ [])
    (sym (append-nil (round_lines round))))
event_added (round ∷ next ∷ rounds) changed event e =
    further round (next ∷ rounds) changed event (with_event (next ∷ rounds) event)
    (λ rs is. event_added (next ∷ rounds) rs event is) refl e

pub event_none : (rounds changed : List Round) (event : Event) → rounds ≡ []
    → with_event rounds event ≡ Some changed → ⊥
event_none rounds changed event none e =
    let stop : ◌≡◌ {A = Option (List Round)} None (Some changed) =
    sym (ap (λ (rs : List Round). with_event rs event) none) ∙ e in
    absurd cc

event_step : (config : Config) (at : Stage) (rounds : List Round) (lines : List EventLine)
    (event : Event) (changed : List Round) → Reached config at rounds lines
    → with_event rounds event ≡ Some changed
    → Reached config at changed (lines ++ line.Event event ∷ [])
event_step config stage.Local rounds lines event changed r e =
    absurd (event_none rounds changed event r.1 e)
event_step config stage.Seed rounds lines event changed r e =
    absurd (event_none rounds changed event r.2 e)
event_step config stage.First rounds lines event changed r e =
    absurd (event_none rounds changed event r.3 e)
event_step config stage.Rounds rounds lines event changed r e = (
  r.0,
  r.1,
  ap (λ (ls : List EventLine). ls ++ line.Event event ∷ []) r.2
      ∙ append_assoc (head_lines r.0) (flat_map round_lines rounds) (line.Event event ∷ [])
      ∙ ap (λ (ls : List EventLine). head_lines r.0 ++ ls)
      (sym (event_added rounds changed event e)),
)

event_by : (config : Config) (at : Stage) (rounds : List Round) (lines : List EventLine)
    (event : Event) (next : Draft) (o : Option (List Round)) → with_event rounds event ≡ o
    → Reached config at rounds lines → option_map (λ rs. draft_of config at rs) o ≡ Some next
    → ReachedBy next (lines ++ line.Event event ∷ [])
event_by config at rounds lines event next None is r e = absurd (no_draft next e)
event_by config at rounds lines event next (Some changed) is r e =
    subst (λ (d : Draft). ReachedBy d (lines ++ line.Event event ∷ []))
    (same_some (draft_of config at changed) next e)
    (event_step config at rounds lines event changed r is)

step : (draft : Draft) (lines : List EventLine) (item : EventLine) (next : Draft)
    → ReachedBy draft lines → taken draft item ≡ Some next → ReachedBy next (lines ++ item ∷ [])
step draft lines (line.Local local) next r e =
    local_step draft.config draft.stage draft.rounds lines local next r e
step draft lines (line.Seed seed) next r e =
    seed_step draft.config draft.stage draft.rounds lines seed next r e
step draft lines (line.First number) next r e =
    first_step draft.config draft.stage draft.rounds lines number next r e
step draft lines (line.Round moment) next r e =
    round_step draft.config draft.stage draft.rounds lines moment next r e
step draft lines (line.Event event) next r e =
    event_by draft.config draft.stage draft.rounds lines event next
    (with_event draft.rounds event) refl r e
step draft lines (line.Header header) next r e = absurd (no_draft next e)

all_steps : (draft : Draft) (before lines : List EventLine) (end : Draft) → ReachedBy draft before
    → drafted draft lines ≡ Some end → ReachedBy end (before ++ lines)
unfolding all_gone
all_steps draft before [] end r e =
    subst (λ (d : Draft). ReachedBy d (before ++ [])) (same_some draft end e)
    (subst (λ (ls : List EventLine). ReachedBy draft ls) (sym (append-nil before)) r)
all_steps draft before (item ∷ lines) end r e =
    let x = bind_some (taken draft item) (λ next. drafted next lines) end e in
    let further = all_steps x.0 (before ++ item ∷ []) lines end
    (step draft before item x.0 r x.1) x.2 in
    subst (λ (ls : List EventLine). ReachedBy end ls)
    (append_assoc before (item ∷ []) lines) further

reached : (lines : List EventLine) (end : Draft) → drafted nothing_read lines ≡ Some end
    → ReachedBy end lines
reached lines end e = all_steps nothing_read [] lines end (refl, refl, refl) e

-- the lines of a draft that has begun are those of a file
pub record IsFile (config : Config) (rounds : List Round) (lines : List EventLine) : Type 0 where
  pub head : Head
  pub configured : config_of head ≡ config
  pub spelled : lines ≡ file_lines head rounds

file_at : (config : Config) (at : Stage) (rounds : List Round) (lines : List EventLine) → Begun at
    → Reached config at rounds lines → IsFile config rounds lines
file_at config stage.Local rounds lines begun r = elim begun [ ]
file_at config stage.Seed rounds lines begun r =
    let head : Head = record { local = r.0; seed = None; first = None } in
    record { head = head; configured = sym r.1; spelled = no_rounds head rounds lines r.2 r.3 }
file_at config stage.First rounds lines begun r =
    let head : Head = record { local = r.0; seed = Some r.1; first = None } in
    record { head = head; configured = sym r.2; spelled = no_rounds head rounds lines r.3 r.4 }
file_at config stage.Rounds rounds lines begun r =
    record { head = r.0; configured = sym r.1; spelled = r.2 }

pub file_of : (lines : List EventLine) (draft : Draft) → drafted nothing_read lines ≡ Some draft
    → Begun draft.stage → IsFile draft.config draft.rounds lines
file_of lines draft e begun =
    file_at draft.config draft.stage draft.rounds lines begun (reached lines draft e)

nothing_at : (config : Config) (at : Stage) (rounds : List Round) (lines : List EventLine)
    → at ≡ stage.Local → Reached config at rounds lines → lines ≡ []
nothing_at config stage.Local rounds lines e r = r.2
nothing_at config stage.Seed rounds lines e r = absurd cc
nothing_at config stage.First rounds lines e r = absurd cc
nothing_at config stage.Rounds rounds lines e r = absurd cc

pub nothing_of : (lines : List EventLine) (draft : Draft) → drafted nothing_read lines ≡ Some draft
    → draft.stage ≡ stage.Local → lines ≡ []
nothing_of lines draft e at =
    nothing_at draft.config draft.stage draft.rounds lines at (reached lines draft e)

pub begun_unless : (at : Stage) → (at ≡ stage.Local → ⊥) → Begun at
begun_unless stage.Local other = absurd (other refl)
begun_unless stage.Seed other = tt
begun_unless stage.First other = tt
begun_unless stage.Rounds other = tt

pub not_local : (at : Stage) → Begun at → at ≡ stage.Local → ⊥
not_local stage.Local begun e = elim begun [ ]
not_local stage.Seed begun e = cc
not_local stage.First begun e = cc
not_local stage.Rounds begun e = cc
