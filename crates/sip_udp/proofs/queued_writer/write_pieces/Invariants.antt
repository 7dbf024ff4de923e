-- The loop of `write_pieces`: the text is that of the pieces so far.
use Rattle.std.proofs.Common.{◌≡◌, take}
use Rattle.std.specs.List.{flat_map}
use Rattle.sip_udp.proofs.queued_writer.write_pieces.Given as goal

abbrev pub invariant-loop-piece : goal.invariant-loop-piece
invariant-loop-piece g l =
    l.text.items ≡ flat_map (λ piece. piece.text.items) (take l.piece-index l.pieces)
