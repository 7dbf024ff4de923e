-- What is true of both sides.
use Rattle.sip_conversation.specs.Conversation.{Side, of_sides}
use Rattle.sip_conversation.specs.Conversation as side

pub each_side : {X : Type 0} (P : X → Type 0) (one other : X) → P one → P other
    → (s : Side) → P (of_sides one other s)
each_side P one other first second side.One = first
each_side P one other first second side.Other = second
