-- The indices of held requests by number.
use Rattle.std.specs.Prelude.{ℕ, Option}
use Rattle.std.specs.Option.{option_and_then}
use Rattle.sip_message.specs.contracts.id.IdOrd.TheImpl as id_order
use Rattle.sip_served.specs.declared.held_request.HeldRequest.{HeldRequest}
use Rattle.sip_served.specs.declared.indices.Indices.{Indices}
use Rattle.sip_served.specs.Steps.Index.{IsIndexOf}
use Rattle.sip_served.specs.Steps.Keys.{ack_of, branch_of, id_of, merge_of, prack_cmp, prack_of, text_cmp}

-- the keys of the requests of these numbers
abbrev pub keys_at : {K : Type 0} → (HeldRequest → Option K) → (ℕ → Option HeldRequest) → ℕ
    → Option K
keys_at key_of at number = option_and_then key_of (at number)

-- each index has the requests of these numbers, and no others
pub record IsIndices (at : ℕ → Option HeldRequest) (indices : Indices) : Type 0 where
  pub ids : IsIndexOf id_order.ghosts.cmp (keys_at id_of at) indices.ids
  pub merges : IsIndexOf text_cmp (keys_at merge_of at) indices.merges
  pub acks : IsIndexOf text_cmp (keys_at ack_of at) indices.acks
  pub pracks : IsIndexOf prack_cmp (keys_at prack_of at) indices.pracks
  pub branches : IsIndexOf text_cmp (keys_at branch_of at) indices.branches
