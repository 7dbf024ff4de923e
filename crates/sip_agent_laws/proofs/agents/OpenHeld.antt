-- The request of a transaction without a final response is held by its call.
use Rattle.std.proofs.Common.{◌≡◌, ⊎_elim, true, List, [], ◌∷◌, map, refl, sym, ap, ◌∙◌}
use Rattle.std.specs.Prelude.{Option, Some, codes, find, if◌then◌else◌}
use Rattle.std.specs.Str.{bytes_eq}
use Rattle.std.proofs.lemmas.Bool.{false≢true}
use Rattle.std.proofs.lemmas.Slice.Eq.{bytes_eq-Decides}
use Rattle.keyed_machine.proofs.Ordered.{by_bool}
use Rattle.sip_message.specs.Key.{method_in}
use Rattle.sip_message.specs.declared.id.Id.{Id}
use Rattle.sip_message.specs.declared.key.Key.{Key}
use Rattle.sip_message.specs.declared.key.Key.TheVariants as key
use Rattle.sip_transactions.specs.Ids.{IdsRise}
use Rattle.sip_transactions.specs.declared.state.Role.{Role}
use Rattle.sip_transactions.specs.declared.state.Role.TheVariants as role
use Rattle.sip_transactions.specs.Steps.Input.{is_same_method, role_of}
use Rattle.sip_held_dialogs.specs.Ids.{is_id}
use Rattle.sip_served.specs.declared.held_request.HeldRequest.{HeldRequest}
use Rattle.sip_served.specs.State.{has_id}
use Rattle.sip_calls.specs.declared.call.Call.{Call}
use Rattle.sip_calls.specs.HeldRequests.{requests_held}
use Rattle.sip_round.specs.CallsHeld.{call_after}
use Rattle.sip_round.proofs.CallsHeld.{requests_held_by_id}
use Rattle.sip_agent_laws.specs.Agents.Open.{EachOpenIsHeld, HoldsOfPeer, HoldsOpen}
use Rattle.sip_agent_laws.proofs.agents.LinkedRounds.{rounds_linked}
use Rattle.sip_agent_laws.proofs.agents.ClientsHeld as client_side
use Rattle.sip_agent_laws.proofs.agents.Lists.{Among, found_among, found_passes}
use Rattle.sip_agent_laws.proofs.agents.OpenLives.{is_server}
use Rattle.sip_agent_laws.proofs.agents.ServedHeld as server_side
use Rattle.sip_agent_laws.proofs.agents.ServedHeld.{apart_of}

-- ---- what is held under an id is found under it

some_found : (id : Id) (requests : List HeldRequest) (held : HeldRequest) → Among requests held
    → has_id id held ≡ true
    → (other : HeldRequest) × (find (has_id id) requests ≡ Some other)
some_found id [] held among is = absurd among
some_found id (first ∷ requests) held among is =
    by_bool (has_id id first)
    (λ hit. (first, ap (λ b. if b then Some first else find (has_id id) requests) hit))
    (λ miss. ⊎_elim
    (λ same. absurd (false≢true (sym miss ∙ (ap (has_id id) same ∙ is))))
    (λ later.
    let rest = some_found id requests held later is in
    (rest.0, ap (λ b. if b then Some first else find (has_id id) requests) miss ∙ rest.1)) among)

same_ids : (one other id : Id) → is_id one id ≡ true → other ≡ id → is_id one other ≡ true
same_ids one other id is same = ap (λ i. is_id one i) same ∙ is

of_peer : (requests : List HeldRequest) (key : Key) (id : Id)
    → IdsRise (map (λ held. held.id) requests) → (ours : server_side.Holds key id requests)
    → find (has_id id) requests ≡ Some ours.0
of_peer requests key id rise ours =
    let passes : has_id id ours.0 ≡ true =
    ap (λ i. is_id i id) (ours.2).id_is ∙ client_side.id_itself id in
    let found = some_found id requests ours.0 ours.1 passes in
    let same : found.0 ≡ ours.0 =
    apart_of requests rise found.0 ours.0 (found_among (has_id id) requests found.0 found.1) ours.1
    (same_ids found.0.id ours.0.id id (found_passes (has_id id) requests found.0 found.1)
    (ours.2).id_is) in
    found.1 ∙ ap (λ h. Some h) same

holds_of_peer : (call : Option Call) (key : Key) (id : Id)
    → IdsRise (map (λ held. held.id) (requests_held call))
    → server_side.Holds key id (requests_held call) → HoldsOfPeer call key id
holds_of_peer call key id rise ours = record {
  held = ours.0;
  found = of_peer (requests_held call) key id rise ours;
  key_is = (ours.2).key_is;
  unanswered = (ours.2).unanswered;
}

-- ---- by the role

invite_of : (k : Key) → role_of k ≡ role.InviteClient → method_in k ≡ codes "INVITE"
invite_of (key.Client branch method) is =
    by_bool (is_same_method method (codes "INVITE"))
    (λ hit. (bytes_eq-Decides method (codes "INVITE")).0 hit)
    (λ miss. absurd (other (sym (ap (λ b. if b then role.InviteClient else role.Client) miss)
    ∙ is)))
  where
    other : role.Client ≡ role.InviteClient → ⊥
    other same = absurd cc
invite_of (key.Server branch sent_by method) is =
    by_bool (is_same_method method (codes "INVITE"))
    (λ hit. absurd (one (sym (ap (λ b. if b then role.InviteServer else role.Server) hit) ∙ is)))
    (λ miss. absurd (other (sym (ap (λ b. if b then role.InviteServer else role.Server) miss)
    ∙ is)))
  where
    one : role.InviteServer ≡ role.InviteClient → ⊥
    one same = absurd cc

    other : role.Server ≡ role.InviteClient → ⊥
    other same = absurd cc

pub each_open_is_held : EachOpenIsHeld
each_open_is_held config rounds k life is still = by_role (role_of k) refl
  where
    call : Option Call
    call = call_after config rounds life.context.call_id

    serves : (r : Role) → role_of k ≡ r → is_server r ≡ true
        → HoldsOfPeer call k life.context.id
    serves r same server =
        holds_of_peer call k life.context.id
        (requests_held_by_id config rounds life.context.call_id)
        ((rounds_linked config rounds).2.served k (ap is_server same ∙ server) life is still)

    by_role : (r : Role) → role_of k ≡ r → HoldsOpen r call k life.context.id
    by_role role.InviteClient same =
        let invite = invite_of k same in
        let ours = (rounds_linked config rounds).2.asked k
        (client_side.invite_commanded k invite) (ap is_server same) life is still in
        record {
          client = ours.0;
          found = ours.1;
          key_is = (ours.2).key_is;
          invites = (ours.2).invites ∙ ap (λ m. bytes_eq m (codes "INVITE")) invite;
          unanswered = (ours.2).unanswered;
        }
    by_role role.Client same = tt
    by_role role.InviteServer same = serves role.InviteServer same refl
    by_role role.Server same = serves role.Server same refl
