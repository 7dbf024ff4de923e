-- When two ids are the same, and their order.
use Rattle.std.specs.Prelude.{Bool, ◌&&◌, ◌==◌, List}
use Rattle.std.specs.declared.cmp.Ordering.{Ordering}
use Rattle.std.specs.Ordering.{nat_cmp, on, then_cmp}
use Rattle.std.specs.List.Sorted.{IsStrictlySortedBy}
use Rattle.sip_message.specs.declared.id.Id.{Id}

-- the same event: of one round, at one place
abbrev pub is_id : Id → Id → Bool
is_id one other = (one.round == other.round) && (one.place == other.place)

-- events in their order: by round, and in a round by place
abbrev pub id_cmp : Id → Id → Ordering
id_cmp = then_cmp (on (λ id. id.round) nat_cmp) (on (λ id. id.place) nat_cmp)

-- ids rise: each is below those after it (for clauses of `run`)
abbrev pub IdsRise : List Id → Type 0
IdsRise ids = IsStrictlySortedBy id_cmp ids
