-- The head of a ladder grows by one peer, and by one number.
use Rattle.std.proofs.Common.{◌≡◌, ℕ, ◌+◌, ◌<◌, List, [], ◌∷◌, ◌++◌, length, get_or, take, ap, sym, ◌∙◌, arith, decimal}
use Rattle.std.specs.List.{enumerate_from, flat_map, range_with_len}
use Rattle.std.proofs.lemmas.List.{flat_map_more, length-take-le, map-id, take_more}
use Rattle.std.proofs.lemmas.List.FromFn.{map-range_with_len_more}
use Rattle.sip_message.specs.Addr.{addr_text}
use Rattle.sip_message.specs.declared.addr.Addr.{Addr}
use Rattle.sip_ladder.specs.Head.{legend_line, peer_lines}

numbers_more : (n : ℕ) → range_with_len 1 (n + 1) ≡ range_with_len 1 n ++ (n + 1) ∷ []
numbers_more n =
    let sum : 1 + n ≡ n + 1 = omega arith in
    sym (map-id (range_with_len 1 (n + 1)))
    ∙ map-range_with_len_more (λ k. k) 1 n (n + 1) sum
    ∙ ap (λ ks. ks ++ (n + 1) ∷ []) (map-id (range_with_len 1 n))

pub number_more : (f : ℕ → List ℕ) (before now next : List ℕ) (n : ℕ)
    → now ≡ before ++ flat_map f (range_with_len 1 n) → next ≡ now ++ f (n + 1)
    → next ≡ before ++ flat_map f (range_with_len 1 (n + 1))
number_more f before now next n so_far adds =
    adds ∙ ap (λ t. t ++ f (n + 1)) so_far ∙ flat_map_more f before (range_with_len 1 n) (n + 1)
    ∙ sym (ap (λ ks. before ++ flat_map f ks) (numbers_more n))

enumerate_push : {X : Type 0} (n : ℕ) (xs : List X) (x : X)
    → enumerate_from n (xs ++ x ∷ []) ≡ enumerate_from n xs ++ (n + length xs, x) ∷ []
enumerate_push n [] x = let end : n ≡ n + 0 = omega arith in ap (λ k. (k, x) ∷ []) end
enumerate_push n (y ∷ ys) x =
    let place : (n + 1) + length ys ≡ n + length (y ∷ ys) = omega arith in
    ap (λ ps. (n, y) ∷ ps) (enumerate_push (n + 1) ys x
    ∙ ap (λ k. enumerate_from (n + 1) ys ++ (k, x) ∷ []) place)

pub peer_more : (peers : List Addr) (i : ℕ) (d : Addr) (before now next : List ℕ)
    → i < length peers → now ≡ before ++ peer_lines (take i peers)
    → next ≡ now ++ legend_line (decimal (i + 1)) (addr_text (get_or peers i d))
    → next ≡ before ++ peer_lines (take (i + 1) peers)
peer_more peers i d before now next lt so_far adds =
    let peer = get_or peers i d in
    let line : ℕ × Addr → List ℕ = λ p. legend_line (decimal p.0) (addr_text p.1) in
    let place : 1 + length (take i peers) ≡ i + 1 =
    omega (arith, length-take-le i peers (omega arith)) in
    let more : enumerate_from 1 (take (i + 1) peers)
    ≡ enumerate_from 1 (take i peers) ++ (i + 1, peer) ∷ [] =
    ap (enumerate_from 1) (take_more peers i d lt)
    ∙ enumerate_push 1 (take i peers) peer
    ∙ ap (λ k. enumerate_from 1 (take i peers) ++ (k, peer) ∷ []) place in
    adds ∙ ap (λ t. t ++ line (i + 1, peer)) so_far
    ∙ flat_map_more line before (enumerate_from 1 (take i peers)) (i + 1, peer)
    ∙ sym (ap (λ ps. before ++ flat_map line ps) more)
