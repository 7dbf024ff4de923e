-- The columns that lines need, line by line.
use Rattle.std.proofs.Common.{◌≡◌, ℕ, ◌+◌, ◌<◌, ◌/◌, min, max, List, [], ◌∷◌, ◌++◌, length, get_or, take, map, ap, sym, ◌∙◌, arith, append-nil}
use Rattle.std.specs.Prelude.{Some, None}
use Rattle.std.specs.List.{cons_option, filter_map}
use Rattle.std.proofs.lemmas.List.{length-take, map-append, take_more, take-take}
use Rattle.std.proofs.lemmas.List.Elements.{filter_map-append}
use Rattle.sip_message.specs.declared.addr.Addr.{Addr}
use Rattle.sip_ladder.specs.Columns.{columns_of, distinct, peer_of, peers_of}
use Rattle.sip_ladder.specs.declared.columns.Columns.{Columns}
use Rattle.sip_ladder.specs.declared.line.Line.{Line}
use Rattle.sip_ladder.specs.declared.line.Way.{Way}

-- the peers of all arrows, each as often as it has an arrow
abbrev pub arrows : List Line → List Addr
arrows lines = filter_map peer_of (map (λ line. line.way) lines)

arrows_more : (lines : List Line) (i : ℕ) (line : Line) → i < length lines
    → line ≡ get_or lines i line
    → arrows (take (i + 1) lines) ≡ arrows (take i lines) ++ filter_map peer_of (line.way ∷ [])
arrows_more lines i line lt is =
    ap arrows (take_more lines i line lt ∙ ap (λ l. take i lines ++ l ∷ []) (sym is))
    ∙ ap (filter_map peer_of) (map-append (λ l. l.way) (take i lines) (line ∷ []))
    ∙ filter_map-append peer_of (map (λ l. l.way) (take i lines)) (line.way ∷ [])

-- one more line with an arrow
pub with_arrow : (lines : List Line) (i : ℕ) (line : Line) (peer : Addr) (before now : List Addr)
    → i < length lines → line ≡ get_or lines i line → Some peer ≡ peer_of line.way
    → before ≡ take 12 (distinct (arrows (take i lines)))
    → ((all : List Addr) → before ≡ take 12 (distinct all)
    → now ≡ take 12 (distinct (all ++ peer ∷ [])))
    → now ≡ take 12 (distinct (arrows (take (i + 1) lines)))
with_arrow lines i line peer before now lt is way so_far adds =
    adds (arrows (take i lines)) so_far
    ∙ sym (ap (λ ps. take 12 (distinct ps)) (arrows_more lines i line lt is
    ∙ ap (λ p. arrows (take i lines) ++ cons_option p []) (sym way)))

pub without_arrow : (lines : List Line) (i : ℕ) (line : Line) (now : List Addr)
    → i < length lines → line ≡ get_or lines i line → None ≡ peer_of line.way
    → now ≡ take 12 (distinct (arrows (take i lines)))
    → now ≡ take 12 (distinct (arrows (take (i + 1) lines)))
without_arrow lines i line now lt is way so_far =
    so_far ∙ sym (ap (λ ps. take 12 (distinct ps)) (arrows_more lines i line lt is
    ∙ ap (λ p. arrows (take i lines) ++ cons_option p []) (sym way)
    ∙ append-nil (arrows (take i lines))))

abbrev columns_with : List Addr → ℕ → Columns
columns_with peers count =
    record { peers = peers; count = count; width = min (36 / max count 1) 18 }

-- the columns made of the first twelve peers
pub columns_are : (ways : List Way) (kept front : List Addr) (count width : ℕ)
    → kept ≡ take 12 (peers_of ways) → front ≡ take 11 kept → count ≡ length kept
    → width ≡ min (36 / max count 1) 18
    → record { peers = front; count = count; width = width } ≡ columns_of ways
unfolding columns_of
columns_are ways kept front count width are first counted wide =
    let peers : front ≡ take 11 (peers_of ways) =
    first ∙ ap (take 11) are ∙ take-take 11 12 (peers_of ways) (omega arith) in
    let number : count ≡ min 12 (length (peers_of ways)) =
    counted ∙ ap length are ∙ length-take 12 (peers_of ways) in
    ap (λ w. record { peers = front; count = count; width = w }) wide
    ∙ ap (λ ps. columns_with ps count) peers
    ∙ ap (columns_with (take 11 (peers_of ways))) number
