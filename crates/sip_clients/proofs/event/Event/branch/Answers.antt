-- `Event::branch`: the made text has the cookie, so it is a branch.
use Rattle.std.proofs.Common.{rules}
use Rattle.std.specs.Prelude.{Option, None, Some, IsSome, IsTrue}
use Rattle.std.specs.Option.{SomeIff}
use Rattle.sip_message.specs.Via.{has_cookie}
use Rattle.sip_clients.proofs.Hex.{branch_has_cookie}
use Rattle.sip_clients.specs.Event.{branch_of}
use Rattle.sip_clients.specs.Name.{name_of}
use Rattle.sip_clients.proofs.event.Event.branch.Goals as goal

some_if : {T : Type 0} (o : Option T) (P : Type 0) (v : T) → SomeIff o P v → P → IsSome o
some_if None P v never p = absurd (never p)
some_if (Some x) P v both p = search rules

pub unwrap-requires : goal.unwrap-requires
unfolding branch_of
unwrap-requires c =
    let event = c.args.self.now in
    let rule : IsTrue (has_cookie c.in_ok-branch_token.field-0) =
    rw c.in_ok-branch_token.ensures (branch_has_cookie (name_of event.seed event.id 0)) in
    some_if c.new.result _ _ c.new.ensures rule
