-- One more event, by place.
use Rattle.std.proofs.Common.{◌≡◌, ℕ, suc, ◌+◌, ◌<◌, List, ◌∷◌, ◌++◌, ◌∙◌, sym, ap, length, drop, get_or, append_assoc, arith}
use Rattle.std.proofs.Math.Seq.{drop-cons}
use Rattle.sip_message.specs.declared.addr.Addr.{Addr}
use Rattle.sip_round.specs.declared.round.Event.{Event}
use Rattle.sip_round.specs.Arrivals.{arrival_of, arrivals_from}

one_more : (n : ℕ) → suc n ≡ n + 1
one_more n = omega arith

pub next_arrival : (local : Addr) (round place index : ℕ) (event : Event) (events : List Event)
    → index < length events → event ≡ get_or events index event
    → arrivals_from local round place (drop index events)
    ≡ (
      record { round = round; place = place },
      arrival_of local (record { round = round; place = place }) event,
    ) ∷ arrivals_from local round (place + 1) (drop (index + 1) events)
next_arrival local round place index event events within item =
    let left : event ∷ drop (index + 1) events ≡ drop index events =
    ap (λ n. event ∷ drop n events) (sym (one_more index))
    ∙ ap (λ e. e ∷ drop (suc index) events) item ∙ sym (drop-cons events index event within) in
    sym (ap (λ n. (
      record { round = round; place = place },
      arrival_of local (record { round = round; place = place }) event,
    ) ∷ arrivals_from local round n (drop (index + 1) events)) (sym (one_more place))
    ∙ ap (arrivals_from local round place) left)

-- a list was mapped one element further
pub further : {A B : Type 0} (of : List A → List B) (a : A) (made front newer whole : List B)
    {left rest : List A} → left ≡ a ∷ rest → of (a ∷ rest) ≡ made ++ of rest
    → newer ≡ front ++ made → front ++ of left ≡ whole → newer ++ of rest ≡ whole
further of a made front newer whole {left} {rest} next here pushed before =
    ap (λ m. m ++ of rest) pushed ∙ append_assoc front made (of rest)
    ∙ ap (λ o. front ++ o) (sym here) ∙ ap (λ l. front ++ of l) (sym next) ∙ before
