-- The result of waiting for a datagram.
use Rattle.std.specs.Prelude.{ℕ, ◌≤◌, List, length}
use Rattle.sip_udp.specs.declared.inlet.Received.{Received}
use Rattle.sip_udp.specs.declared.inlet.Received.TheVariants as received

-- a datagram stands at the front of the buffer
abbrev pub IsInBuffer : Received → List ℕ → Type 0
IsInBuffer (received.Datagram from count) buffer = count ≤ length buffer
IsInBuffer received.Nothing buffer = Unit
IsInBuffer received.Failed buffer = Unit
