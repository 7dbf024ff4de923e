-- What the owner of a boxed host has.
use base.Fml.{Fml, ftrue}
use base.Stored.{Coded}
use denote.RawPtr.{Ptr}
use Rattle.std.specs.Prelude.{Option, Some, None}
use Rattle.std.specs.Coded.{coded_option}
use Rattle.std.specs.Box.Ownership.{box_owns}
use Rattle.std.specs.Global.{Global}
use Rattle.std_heap.specs.contracts.GlobalAllocator.TheImpl.{ghosts}
use Rattle.sip_host.specs.contracts.host.Host.{the_row}

-- the box of the host, if there is one
abbrev pub owned_owns : Global → Ptr → Option the_row.Denot → Fml
owned_owns alloc at None = ftrue
owned_owns alloc at (Some host) = box_owns (ghosts.dealloc_token alloc) the_row at host

-- how a host, or no host, stands in memory
abbrev pub host_coded : Coded (Option the_row.Denot)
host_coded = coded_option the_row.coded
