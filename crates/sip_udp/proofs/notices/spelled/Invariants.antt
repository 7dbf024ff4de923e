-- The loop of `spelled`: the text is that of the headers so far.
use Rattle.std.proofs.Common.{◌≡◌, take}
use Rattle.std.specs.List.{flat_map}
use Rattle.sip_udp.specs.Telling.{spelled_header}
use Rattle.sip_udp.proofs.notices.spelled.Given as goal

abbrev pub invariant-loop-header : goal.invariant-loop-header
invariant-loop-header l =
    l.text.items ≡ flat_map spelled_header (take l.header-index l.headers)
