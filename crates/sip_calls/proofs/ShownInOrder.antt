-- The reliable provisional responses to an INVITE in a life of a dialog are shown in order.
use Rattle.std.proofs.Common.{◌≢◌, AllPairs, ℕ, List, sym, subst}
use Rattle.sip_reliable.specs.Inbound.{IsConsecutive}
use Rattle.sip_reliable.proofs.InOrder.{consecutive, once}
use Rattle.sip_clients.specs.Provisionals.{InTheDialog, OfTheCall}
use Rattle.sip_calls.specs.Provisionals.{ShownConsecutive, ShownInOrder, ShownOnce, came}
use Rattle.sip_calls.proofs.AgainSteps.{again_in_order}
use Rattle.sip_calls.proofs.FirstSteps.{first_in_order}

pub shown_in_order : ShownInOrder
shown_in_order calls inputs differ OfTheCall life = first_in_order life calls inputs differ
shown_in_order calls inputs differ (InTheDialog invite) life =
    again_in_order life invite calls inputs differ

abbrev Once : List ℕ → Type 0
Once numbers = AllPairs (λ x y. x ≢ y) numbers

pub shown_consecutive : ShownConsecutive
shown_consecutive calls inputs differ invite life =
    subst IsConsecutive (sym (shown_in_order calls inputs differ invite life))
    (consecutive (came calls invite life inputs))

pub shown_once : ShownOnce
shown_once calls inputs differ invite life =
    subst Once (sym (shown_in_order calls inputs differ invite life))
    (once (came calls invite life inputs))
