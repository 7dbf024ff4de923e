-- Which events are let in: all, if they are usual; otherwise one after another.
use Rattle.std.proofs.Common.{◌≡◌, ℕ, Bool, true, false, not, ◌&&◌, ◌||◌, List, [], ◌∷◌, ◌++◌, append_assoc, append-nil, length, Result, Ok, Err, refl, sym, ap, ◌∙◌}
use Rattle.std.proofs.lemmas.Bool.{false≢true}
use Rattle.std.proofs.lemmas.List.Elements.{filter-append}
use Rattle.std.specs.List.{list_all}
use Rattle.std.specs.Prelude.{filter, cond, nat_lt}
use Rattle.sip_transactions.proofs.RowFacts.{and-left, and-right}
use Rattle.sip_message.specs.declared.fault.ReadFault.{ReadFault}
use Rattle.sip_message.specs.declared.message.Message.{Message}
use Rattle.sip_reader.specs.ReadMessage.{message_at}
use Rattle.sip_round.specs.declared.config.Config.{Config}
use Rattle.sip_round.specs.declared.round.Event.{Event}
use Rattle.sip_round.specs.declared.round.Event.TheVariants.{Command, Datagram, Failed}
use Rattle.sip_round.specs.declared.round.Round.{Round}
use Rattle.sip_round.specs.NewTransactions.{would_begin}
use Rattle.sip_udp.specs.Admission.{is_shed, is_shed_message, is_usual, is_usual_datagram}
use Rattle.sip_udp.specs.declared.admission.Load.{Load}
use Rattle.sip_udp.specs.declared.admission.Load.TheVariants as load
use Rattle.sip_udp.specs.declared.admission.RequestLimits.{RequestLimits}
use Rattle.sip_udp.specs.declared.admission.TheConstants.{USUAL_LENGTH}

small : (a b c begins : Bool) → (not a && not b) ≡ true
    → (not (not (a || (b && c))) && begins) ≡ false
small false false c begins is = refl
small false true c begins is = absurd (false≢true is)
small true b c begins is = absurd (false≢true is)

unread : (config : Config) (rounds : List Round) (limits : RequestLimits) (at : Load) (len : ℕ)
    (read : Result Message ReadFault) → is_usual_datagram limits at len ≡ true
    → is_shed_message config rounds limits at len read ≡ false
unread config rounds limits load.Low len (Ok message) usual =
    small (nat_lt limits.largest len) (nat_lt USUAL_LENGTH len)
    (nat_lt limits.vias (length message.vias)) (would_begin config rounds message) usual
unread config rounds limits load.Low len (Err fault) usual = refl
unread config rounds limits load.High len read usual = absurd (false≢true usual)
unread config rounds limits load.Full len read usual = absurd (false≢true usual)

pub usual_let_in : (config : Config) (rounds : List Round) (limits : RequestLimits) (at : Load)
    (event : Event) → is_usual limits at event ≡ true
    → is_shed config rounds limits at event ≡ false
usual_let_in config rounds limits at (Datagram from bytes) usual =
    unread config rounds limits at (length bytes) (message_at bytes) usual
usual_let_in config rounds limits at (Failed key) usual = refl
usual_let_in config rounds limits at (Command command) usual = refl

pub none_shed : (config : Config) (rounds : List Round) (limits : RequestLimits) (at : Load)
    (events : List Event) → list_all (is_usual limits at) events ≡ true
    → events ≡ filter (λ event. not (is_shed config rounds limits at event)) events
none_shed config rounds limits at [] usual = refl
none_shed config rounds limits at (event ∷ events) usual =
    let keep : List Event → List Event =
    filter (λ event. not (is_shed config rounds limits at event)) in
    ap (λ more. event ∷ more) (none_shed config rounds limits at events
    (and-right (is_usual limits at event) _ usual))
    ∙ sym (ap (λ shed. cond (not shed) (event ∷ keep events) (keep events))
    (usual_let_in config rounds limits at event
    (and-left _ (list_all (is_usual limits at) events) usual)))

-- ---- one event after another

-- what was let in so far, and what is let in of the events that are left, is what is let in of all
abbrev pub LetsIn : Config → List Round → RequestLimits → Load → List Event → List Event
    → List Event → Type 0
LetsIn config rounds limits at admitted left all =
    admitted ++ filter (λ event. not (is_shed config rounds limits at event)) left
    ≡ filter (λ event. not (is_shed config rounds limits at event)) all

pub one_let_in : (config : Config) (rounds : List Round) (limits : RequestLimits)
    (at : Load) (admitted more left all : List Event) (event : Event)
    → more ≡ admitted ++ filter (λ event. not (is_shed config rounds limits at event)) (event ∷ [])
    → LetsIn config rounds limits at admitted (event ∷ left) all
    → LetsIn config rounds limits at more left all
one_let_in config rounds limits at admitted more left all event adds so_far =
    let keep : List Event → List Event =
    filter (λ event. not (is_shed config rounds limits at event)) in
    ap (λ front. front ++ keep left) adds
    ∙ append_assoc admitted (keep (event ∷ [])) (keep left)
    ∙ ap (λ more. admitted ++ more)
    (sym (filter-append (λ event. not (is_shed config rounds limits at event)) (event ∷ []) left))
    ∙ so_far

pub all_let_in : (config : Config) (rounds : List Round) (limits : RequestLimits)
    (at : Load) (admitted left all : List Event) → left ≡ []
    → LetsIn config rounds limits at admitted left all
    → admitted ≡ filter (λ event. not (is_shed config rounds limits at event)) all
all_let_in config rounds limits at admitted left all none so_far =
    sym (append-nil admitted)
    ∙ ap (λ left. admitted ++ filter (λ event. not (is_shed config rounds limits at event)) left)
    (sym none) ∙ so_far
