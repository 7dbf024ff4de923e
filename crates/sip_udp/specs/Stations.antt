-- Stations at the ends of lines.
use Rattle.std.specs.Prelude.{List, ◌∷◌, map, Option, IfSome}
use Rattle.sip_desk.specs.Lines.{IsEndOf, KeepsLines}
use Rattle.sip_desk.specs.declared.desk.Desk.{Desk}
use Rattle.sip_desk.specs.declared.ended.Ended.{Ended}
use Rattle.sip_round.specs.declared.round.Event.{Event}
use Rattle.sip_udp.specs.declared.other_station.OtherStation.{OtherStation}
use Rattle.sip_udp.specs.declared.station.Station.{Station}

-- the desks of all stations: the caller's own, and those of the others
abbrev pub desks_of : {F : Type 0} → Station F → List OtherStation → List (Desk Event)
desks_of own others = own.desk ∷ map (λ other. other.station.desk) others

-- the station has the line that it had
abbrev pub KeepsItsLine : OtherStation → OtherStation → Type 0
KeepsItsLine old new = KeepsLines old.station.desk new.station.desk

-- the end, unless the desk is gone, belongs to a line of the desk
abbrev pub EndsStation : {E : Type 0} → Desk E → Option (Ended E) → Type 0
EndsStation desk end = IfSome end (λ one. IsEndOf desk one)
