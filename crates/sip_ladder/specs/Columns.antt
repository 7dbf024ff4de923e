-- The columns of a ladder: one for each of the first eleven peers, and one for all others.
use Rattle.std.specs.Prelude.{◌/◌, min, max, not, List, [], ◌∷◌, length, take, filter, Option, Some, None}
use Rattle.std.specs.List.{filter_map}
use Rattle.sip_message.specs.declared.addr.Addr.{Addr}
use Rattle.sip_ladder.specs.Row.{is_same_address}
use Rattle.sip_ladder.specs.declared.columns.Columns.{Columns}
use Rattle.sip_ladder.specs.declared.line.Way.{Way}
use Rattle.sip_ladder.specs.declared.line.Way.TheVariants.{In, Out, Own}

-- the peer from whose column the arrow comes, or to whose column it goes
abbrev pub peer_of : Way → Option Addr
peer_of (In from) = Some from
peer_of (Out to) = Some to
peer_of Own = None

-- each peer once, in the order in which they first come
abbrev pub distinct : List Addr → List Addr
distinct [] = []
distinct (peer ∷ peers) =
    peer ∷ filter (λ other. not (is_same_address peer other)) (distinct peers)

-- the peers of rows with these ways
abbrev pub peers_of : List Way → List Addr
peers_of ways = distinct (filter_map peer_of ways)

-- The twelfth column is that of all others. The columns take 36 characters at most, each 18.
unfoldable pub columns_of : List Way → Columns
columns_of ways =
    let peers = peers_of ways in
    let count = min 12 (length peers) in
    record { peers = take 11 peers; count = count; width = min (36 / max count 1) 18 }
