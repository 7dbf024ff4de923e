-- The distinct peers of a list, when one more peer is put at its end.
use Rattle.std.proofs.Common.{◌≡◌, ℕ, suc, ◌+◌, ◌<◌, ◌≤◌, Bool, true, false, not, ◌&&◌, ◌||◌, cond, eqb, List, [], ◌∷◌, ◌++◌, length, take, ap, sym, ◌∙◌, refl, arith, append-nil, ◌⊎◌, inl, inr, min, drop}
use Rattle.std.specs.Prelude.{filter}
use Rattle.std.specs.List.{list_any}
use Rattle.std.specs.Str.{bytes_eq}
use Rattle.std.proofs.lemmas.Bool.{eqb-true, and_parts, both_ways}
use Rattle.std.proofs.lemmas.List.{length-take, length_push, take_all, take-append-drop, take-append-le}
use Rattle.std.proofs.lemmas.List.Elements.{filter-append}
use Rattle.std.proofs.lemmas.List.Folds.{list_any-append}
use Rattle.std.proofs.lemmas.Slice.Eq.{bytes_eq-Decides}
use Rattle.sip_message.specs.declared.addr.Addr.{Addr}
use Rattle.sip_ladder.specs.Columns.{distinct}
use Rattle.sip_ladder.specs.Row.{is_same_address, place_of}

-- one of these peers has the address
abbrev is_known : List Addr → Addr → Bool
is_known peers address = list_any (λ peer. is_same_address peer address) peers

-- the peers with another address
abbrev others : Addr → List Addr → List Addr
others peer peers = filter (λ other. not (is_same_address peer other)) peers

same_for_all : (one other third : Addr) → is_same_address one other ≡ true
    → is_same_address one third ≡ is_same_address other third
same_for_all one other third same =
    let parts = and_parts (eqb one.port other.port) (bytes_eq one.ip other.ip) same in
    let port : one.port ≡ other.port = eqb-true one.port other.port parts.0 in
    let ip : one.ip ≡ other.ip = (bytes_eq-Decides one.ip other.ip).0 parts.1 in
    ap (λ p. eqb p third.port && bytes_eq one.ip third.ip) port
    ∙ ap (λ i. eqb other.port third.port && bytes_eq i third.ip) ip

-- ---- a peer among those with another address

one_before : (peer address first : Addr) (peers : List Addr) (same : Bool)
    → is_same_address peer address ≡ false → is_same_address peer first ≡ same
    → is_known (others peer peers) address ≡ is_known peers address
    → is_known (cond (not same) (first ∷ others peer peers) (others peer peers)) address
    ≡ (is_same_address first address || is_known peers address)
one_before peer address first peers true differs same later =
    later ∙ sym (ap (λ b. b || is_known peers address)
    (sym (same_for_all peer first address same) ∙ differs))
one_before peer address first peers false differs same later =
    ap (λ b. is_same_address first address || b) later

known_among_others : (peer address : Addr) (peers : List Addr)
    → is_same_address peer address ≡ false
    → is_known (others peer peers) address ≡ is_known peers address
known_among_others peer address [] differs = refl
known_among_others peer address (first ∷ peers) differs =
    one_before peer address first peers (is_same_address peer first) differs refl
    (known_among_others peer address peers differs)

-- ---- one more peer at the end

-- a peer with another address is left, one with the same address isn't
others_more : (peer address : Addr) (peers : List Addr) (same : Bool)
    → is_same_address peer address ≡ same
    → others peer (peers ++ address ∷ []) ≡ others peer peers ++ cond (not same) (address ∷ []) []
others_more peer address peers same is =
    filter-append (λ other. not (is_same_address peer other)) peers (address ∷ [])
    ∙ ap (λ b. others peer peers ++ cond (not b) (address ∷ []) []) is

more : List Addr → Addr → Bool → List Addr
more peers address true = peers
more peers address false = peers ++ address ∷ []

first_more : (peer address : Addr) (peers before : List Addr) (same known : Bool)
    → is_same_address peer address ≡ same → is_known before address ≡ known
    → peers ≡ more before address known
    → peer ∷ others peer peers
    ≡ more (peer ∷ others peer before) address (same || is_known (others peer before) address)
unfolding more
first_more peer address peers before true true same known is =
    ap (λ ps. peer ∷ others peer ps) is
first_more peer address peers before true false same known is =
    ap (λ ps. peer ∷ others peer ps) is ∙ ap (λ ps. peer ∷ ps)
    (others_more peer address before true same ∙ append-nil (others peer before))
first_more peer address peers before false true same known is =
    ap (λ ps. peer ∷ others peer ps) is
    ∙ sym (ap (λ b. more (peer ∷ others peer before) address b)
    (known_among_others peer address before same ∙ known))
first_more peer address peers before false false same known is =
    ap (λ ps. peer ∷ others peer ps) is
    ∙ ap (λ ps. peer ∷ ps) (others_more peer address before false same)
    ∙ sym (ap (λ b. more (peer ∷ others peer before) address b)
    (known_among_others peer address before same ∙ known))

distinct_more : (peers : List Addr) (address : Addr)
    → distinct (peers ++ address ∷ [])
    ≡ more (distinct peers) address (is_known (distinct peers) address)
unfolding more
distinct_more [] address = refl
distinct_more (peer ∷ peers) address =
    first_more peer address (distinct (peers ++ address ∷ [])) (distinct peers)
    (is_same_address peer address) (is_known (distinct peers) address) refl refl
    (distinct_more peers address)

-- ---- places

placed : (peer address : Addr) (peers : List Addr) (same : Bool)
    → is_same_address peer address ≡ same
    → (is_known peers address ≡ true → place_of peers address < length peers)
    → (same || is_known peers address) ≡ true
    → cond same 0 (1 + place_of peers address) < suc (length peers)
placed peer address peers true is later known = omega arith
placed peer address peers false is later known =
    let lt : place_of peers address < length peers = later known in omega arith

place_known : (peers : List Addr) (address : Addr) → is_known peers address ≡ true
    → place_of peers address < length peers
place_known [] address known = absurd (both_ways false refl known)
place_known (peer ∷ peers) address known =
    placed peer address peers (is_same_address peer address) refl (place_known peers address) known

unplaced : (peer address : Addr) (peers : List Addr) (same : Bool)
    → (is_known peers address ≡ false → place_of peers address ≡ length peers)
    → (same || is_known peers address) ≡ false
    → cond same 0 (1 + place_of peers address) ≡ suc (length peers)
unplaced peer address peers true later unknown = absurd (both_ways true unknown refl)
unplaced peer address peers false later unknown =
    let same : place_of peers address ≡ length peers = later unknown in omega arith

place_unknown : (peers : List Addr) (address : Addr) → is_known peers address ≡ false
    → place_of peers address ≡ length peers
place_unknown [] address unknown = refl
place_unknown (peer ∷ peers) address unknown =
    unplaced peer address peers (is_same_address peer address) (place_unknown peers address) unknown

-- ---- the first twelve

-- a peer that has a place among the first isn't a new one
known_of_front : (n : ℕ) (peers : List Addr) (address : Addr)
    → is_known (take n peers) address ≡ true → is_known peers address ≡ true
known_of_front n peers address known =
    sym (ap (λ ps. is_known ps address) (take-append-drop n peers))
    ∙ list_any-append (λ peer. is_same_address peer address) (take n peers) (drop n peers)
    ∙ ap (λ b. b || is_known (drop n peers) address) known

not_placed : (n : ℕ) (peers kept : List Addr) (address : Addr) → is_known peers address ≡ false
    → kept ≡ take n peers → place_of kept address < length kept
    → (known : Bool) → is_known kept address ≡ known → ⊥
not_placed n peers kept address unknown front lt true known =
    both_ways (is_known peers address) unknown (known_of_front n peers address
    (sym (ap (λ ps. is_known ps address) front) ∙ known))
not_placed n peers kept address unknown front lt false known =
    let end : place_of kept address ≡ length kept = place_unknown kept address known in omega arith

unchanged : (n : ℕ) (peers kept : List Addr) (address : Addr) (known : Bool)
    → is_known peers address ≡ known → kept ≡ take n peers
    → (place_of kept address < length kept) ⊎ (n ≤ length kept)
    → kept ≡ take n (more peers address known)
unfolding more
unchanged n peers kept address true is front why = front
unchanged n peers kept address false is front (inl lt) =
    absurd (not_placed n peers kept address is front lt (is_known kept address) refl)
unchanged n peers kept address false is front (inr full) =
    let long : length kept ≡ min n (length peers) = ap length front ∙ length-take n peers in
    front ∙ sym (take-append-le n peers (address ∷ []) (omega arith))

-- a peer that is known, or for which there is no room, changes nothing
pub kept_as_is : (n : ℕ) (all kept : List Addr) (address : Addr) → kept ≡ take n (distinct all)
    → (place_of kept address < length kept) ⊎ (n ≤ length kept)
    → kept ≡ take n (distinct (all ++ address ∷ []))
kept_as_is n all kept address front why =
    unchanged n (distinct all) kept address (is_known (distinct all) address) refl front why
    ∙ ap (take n) (sym (distinct_more all address))

pushed : (n : ℕ) (peers kept next : List Addr) (address : Addr) (known : Bool)
    → is_known peers address ≡ known → kept ≡ peers → length kept < n
    → place_of kept address ≡ length kept → next ≡ kept ++ address ∷ []
    → next ≡ take n (more peers address known)
unfolding more
pushed n peers kept next address true is all room place adds =
    let lt : place_of peers address < length peers = place_known peers address is in
    let same : place_of kept address ≡ place_of peers address =
    ap (λ ps. place_of ps address) all in
    let long : length kept ≡ length peers = ap length all in
    absurd (omega arith)
pushed n peers kept next address false is all room place adds =
    let long : length kept ≡ length peers = ap length all in
    adds ∙ ap (λ ps. ps ++ address ∷ []) all
    ∙ sym (take_all n (peers ++ address ∷ []) (omega (arith, length_push peers address)))

-- one more peer
pub kept_more : (n : ℕ) (all kept next : List Addr) (address : Addr) → kept ≡ take n (distinct all)
    → length kept < n → place_of kept address ≡ length kept → next ≡ kept ++ address ∷ []
    → next ≡ take n (distinct (all ++ address ∷ []))
kept_more n all kept next address front room place adds =
    let long : length kept ≡ min n (length (distinct all)) =
    ap length front ∙ length-take n (distinct all) in
    pushed n (distinct all) kept next address (is_known (distinct all) address) refl
    (front ∙ take_all n (distinct all) (omega arith)) room place adds
    ∙ ap (take n) (sym (distinct_more all address))
