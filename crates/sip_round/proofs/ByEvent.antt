-- What the transactions say, put in between the arrivals one by one, is what they say by place.
use Rattle.std.proofs.Common.{◌≡◌, ℕ, suc, ◌<◌, true, false, cond, List, [], ◌∷◌, ◌++◌, map, nat_eq, refl, sym, ◌∙◌, ap, subst, arith, append-nil, append_assoc}
use Rattle.std.specs.Prelude.{filter}
use Rattle.std.specs.List.{flat_map}
use Rattle.std.proofs.lemmas.Grind.{common_steps, flat_map-append}
use Rattle.sip_message.specs.declared.id.Id.{Id}
use Rattle.sip_message.specs.declared.key.Key.{Key}
use Rattle.keyed_machine.specs.declared.item.Item as model
use Rattle.keyed_machine.specs.Phase.{by_place}
use Rattle.sip_transactions.specs.declared.input.Input.{Input}
use Rattle.sip_transactions.specs.declared.output.Out.{Out}
use Rattle.sip_user.specs.declared.item.Item.{Item}
use Rattle.sip_round.specs.Arrivals.{Arrival}
use Rattle.sip_round.specs.Arrivals as arrival
use Rattle.sip_round.specs.Steps.Arrived.{ArePlaced}
use Rattle.sip_round.specs.Outputs.{joined, outs_of, user_items}
use Rattle.sip_round.specs.Phases.{transaction_items}
use Rattle.sip_round.specs.Steps.Waiting.{all_waiting, by_event}
use Rattle.sip_shards.proofs.Climbing.{Climbs, climbs_from_less}
use Rattle.sip_shards.proofs.Together.{first_of, rest_of}

pub flat_map-map : {X Y Z : Type 0} (f : Y → List Z) (g : X → Y) (xs : List X)
    → flat_map f (map g xs) ≡ flat_map (λ x. f (g x)) xs
flat_map-map f g [] = refl
flat_map-map f g (x ∷ xs) = ap (λ more. f (g x) ++ more) (flat_map-map f g xs)

-- what is made of groups of outputs, group by group
abbrev pub each : {L X Y : Type 0} → (X → List Y) → List (L × List X) → List Y
each f groups = flat_map (λ group. flat_map f group.1) groups

pub by_groups : {L X Y : Type 0} (f : X → List Y) (groups : List (L × List X))
    → each f groups ≡ flat_map f (joined groups)
by_groups f [] = refl
by_groups f (g ∷ gs) =
    ap (λ more. flat_map f g.1 ++ more) (by_groups f gs)
    ∙ sym (flat_map-append f g.1 (joined gs))

-- what is made of outputs to a tick, and then of items' outputs, put behind what was there
pub behind : {L M X Y : Type 0} (f : X → List Y) (ticks : List (L × List X))
    (items : List (M × List X)) (before middle after : List Y) → middle ≡ before ++ each f ticks
    → after ≡ middle ++ each f items → after ≡ before ++ flat_map f (joined ticks ++ joined items)
behind f ticks items before middle after first second =
    second ∙ ap (λ m. m ++ each f items) first
    ∙ append_assoc before (each f ticks) (each f items)
    ∙ ap (λ t. before ++ (t ++ each f items)) (by_groups f ticks)
    ∙ ap (λ i. before ++ (flat_map f (joined ticks) ++ i)) (by_groups f items)
    ∙ ap (λ o. before ++ o) (sym (flat_map-append f (joined ticks) (joined items)))

abbrev Said : Type 0
Said = List ((ℕ × Key) × List Out)

abbrev said_places : Said → List ℕ
said_places told = map (λ said. (said.0).0) told

abbrev said_in : Said → ℕ → List Out
said_in told place = joined (filter (λ said. nat_eq (said.0).0 place) told)

abbrev pub item_places : List (Id × Arrival) → List ℕ
item_places arrivals =
    map (λ (item : model.Item Key Input). item.place) (transaction_items arrivals)

one_climbs : (place : ℕ) (id : Id) (a : Arrival) (rest : List (Id × Arrival)) → id.place ≡ place
    → Climbs (suc place) (item_places rest) → Climbs place (item_places ((id, a) ∷ rest))
one_climbs place id (arrival.Transaction key input) rest at later =
    (omega (arith, at), subst (λ n. Climbs (suc n) (item_places rest)) (sym at) later)
one_climbs place id (arrival.Dropped why) rest at later =
    climbs_from_less place (suc place) (item_places rest) (omega arith) later
one_climbs place id (arrival.User command) rest at later =
    climbs_from_less place (suc place) (item_places rest) (omega arith) later

-- the places of the transactions' inputs climb
pub items_climb : (place : ℕ) (arrivals : List (Id × Arrival)) → ArePlaced place arrivals
    → Climbs place (item_places arrivals)
items_climb place [] placed = tt
items_climb place (a ∷ rest) placed =
    one_climbs place a.0 a.1 rest placed.0 (items_climb (suc place) rest placed.1)

nothing_at : (place n : ℕ) (told : Said) → place < n → Climbs n (said_places told)
    → said_in told place ≡ []
nothing_at place n [] below climbs = refl
nothing_at place n (t ∷ ts) below climbs =
    ap (λ b. joined (cond b (t ∷ filter (λ said. nat_eq (said.0).0 place) ts)
    (filter (λ said. nat_eq (said.0).0 place) ts)))
    (other (t.0).0 place (omega (arith, below, climbs.0)))
    ∙ nothing_at place (suc (t.0).0) ts (omega (arith, below, climbs.0)) climbs.1
  where
    other : (n place : ℕ) → place < n → nat_eq n place ≡ false
    other n place below = grind (arith, common_steps, below)

abbrev by_said : Said → Id × Arrival → Id × List Out × List (Id × Item)
by_said told a = (a.0, outs_of (said_in told) a.0 a.1, user_items a.0 a.1)

-- the outputs for an earlier place don't matter to the arrivals that follow
later_outs : (t : (ℕ × Key) × List Out) (ts : Said) (id : Id) (a : Arrival) → (t.0).0 < id.place
    → outs_of (said_in (t ∷ ts)) id a ≡ outs_of (said_in ts) id a
later_outs t ts id (arrival.Transaction key input) below =
    ap (λ b. joined (cond b (t ∷ filter (λ said. nat_eq (said.0).0 id.place) ts)
    (filter (λ said. nat_eq (said.0).0 id.place) ts))) (other (t.0).0 id.place below)
  where
    other : (n place : ℕ) → n < place → nat_eq n place ≡ false
    other n place below = grind (arith, common_steps, below)
later_outs t ts id (arrival.Dropped why) below = refl
later_outs t ts id (arrival.User command) below = refl

all_later : (t : (ℕ × Key) × List Out) (ts : Said) (place : ℕ) (arrivals : List (Id × Arrival))
    → (t.0).0 < place → ArePlaced place arrivals
    → map (by_said ts) arrivals ≡ map (by_said (t ∷ ts)) arrivals
all_later t ts place [] below placed = refl
all_later t ts place (a ∷ rest) below placed =
    ap (λ outs. (a.0, outs, user_items a.0 a.1) ∷ map (by_said ts) rest)
    (sym (later_outs t ts a.0 a.1 (omega (arith, below, placed.0))))
    ∙ ap (λ more. by_said (t ∷ ts) a ∷ more)
    (all_later t ts (suc place) rest (omega (arith, below)) placed.1)

one_woven : (place : ℕ) (id : Id) (a : Arrival) (rest : List (Id × Arrival)) → id.place ≡ place
    → ArePlaced (suc place) rest
    → ((told : Said) → said_places told ≡ item_places rest
    → by_event (all_waiting rest) (map by_place told) ≡ map (by_said told) rest)
    → (told : Said) → said_places told ≡ item_places ((id, a) ∷ rest)
    → by_event (all_waiting ((id, a) ∷ rest)) (map by_place told)
    ≡ map (by_said told) ((id, a) ∷ rest)
unfolding first_of rest_of
one_woven place id (arrival.Transaction key input) rest at later ih [] same = absurd cc
one_woven place id (arrival.Transaction key input) rest at later ih (t ∷ ts) same =
    let here : (t.0).0 ≡ id.place = ap (first_of 0) same in
    let rest_same : said_places ts ≡ item_places rest = ap rest_of same in
    let climbs : Climbs (suc place) (said_places ts) =
    subst (Climbs (suc place)) (sym rest_same) (items_climb (suc place) rest later) in
    let mine : said_in (t ∷ ts) id.place ≡ t.1 =
    ap (λ b. joined (cond b (t ∷ filter (λ said. nat_eq (said.0).0 id.place) ts)
    (filter (λ said. nat_eq (said.0).0 id.place) ts))) (same_place (t.0).0 id.place here)
    ∙ ap (λ more. t.1 ++ more) (nothing_at id.place (suc place) ts (omega (arith, at)) climbs)
    ∙ append-nil t.1 in
    ap (λ more. (id, t.1, []) ∷ more)
    (ih ts rest_same ∙ all_later t ts (suc place) rest (omega (arith, here, at)) later)
    ∙ ap (λ outs. (id, outs, []) ∷ map (by_said (t ∷ ts)) rest) (sym mine)
  where
    same_place : (n place : ℕ) → n ≡ place → nat_eq n place ≡ true
    same_place n place e = grind (arith, common_steps, e)
one_woven place id (arrival.Dropped why) rest at later ih told same =
    ap (λ more. by_said told (id, arrival.Dropped why) ∷ more) (ih told same)
one_woven place id (arrival.User command) rest at later ih told same =
    ap (λ more. by_said told (id, arrival.User command) ∷ more) (ih told same)

pub woven_by_place : (place : ℕ) (arrivals : List (Id × Arrival)) → ArePlaced place arrivals
    → (told : Said) → said_places told ≡ item_places arrivals
    → by_event (all_waiting arrivals) (map by_place told) ≡ map (by_said told) arrivals
woven_by_place place [] placed told same = refl
woven_by_place place (a ∷ rest) placed told same =
    one_woven place a.0 a.1 rest placed.0 placed.1
    (λ ts e. woven_by_place (suc place) rest placed.1 ts e) told same
