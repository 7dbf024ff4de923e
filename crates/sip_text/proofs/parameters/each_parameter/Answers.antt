-- `each_parameter` reads each piece between semicolons, or fails if one isn't a parameter.
use Rattle.std.proofs.Common.{◌≡◌, ◌++◌, ◌∷◌, [], map, sym}
use Rattle.std.proofs.lemmas.List.{map_push}
use Rattle.sip_text.specs.Parameter.{parameter_from}
use Rattle.sip_text.specs.Pieces.{parameter_now}
use Rattle.sip_text.specs.declared.separator.Separator.TheVariants.{Byte}
use Rattle.sip_text.proofs.Loops.{piece_fails, piece_read, last_fails, last_read}
use Rattle.sip_text.proofs.parameters.each_parameter.Goals as goal

pub returns-in_default-parameter_in : goal.returns-in_default-parameter_in
returns-in_default-parameter_in c =
    piece_fails (Byte 59) parameter_from
    (map parameter_now c.loop-piece.parameters.items) c.loop-piece.rest.now c.in-Some.piece.now
    c.in-Some.after.now _ (sym c.in-Some.ensures.exact)
    (sym c.in_default-parameter_in.ensures.exact) c.loop-piece.invariant

pub loop-piece-preserved : goal.loop-piece-preserved
loop-piece-preserved c =
    let e : map parameter_now c.push.new.self.items
    ≡ map parameter_now c.loop-piece.parameters.items
    ++ parameter_now c.in-Some-parameter_in.parameter ∷ [] =
    rw c.in_ok-push.ensures.items (map_push _ c.loop-piece.parameters.items
    c.in-Some-parameter_in.parameter) in
    rw e (piece_read (Byte 59) parameter_from
    (map parameter_now c.loop-piece.parameters.items) c.loop-piece.rest.now c.in-Some.piece.now
    c.in-Some.after.now (parameter_now c.in-Some-parameter_in.parameter) _
    (sym c.in-Some.ensures.exact) (sym c.in-Some-parameter_in.ensures.exact)
    c.loop-piece.invariant)

pub returns-in_default-parameter_in-2 : goal.returns-in_default-parameter_in-2
returns-in_default-parameter_in-2 c =
    last_fails (Byte 59) parameter_from
    (map parameter_now c.loop-piece.parameters.items) c.loop-piece.rest.now _
    (sym c.in_default.ensures.exact)
    (sym c.in_default-parameter_in-2.ensures.exact) c.loop-piece.invariant

pub returns : goal.returns
returns c =
    let e : map parameter_now c.push-2.new.self.items
    ≡ map parameter_now c.loop-piece.parameters.items
    ++ parameter_now c.in-Some-parameter_in-2.last ∷ [] =
    rw c.in_ok-push-2.ensures.items
    (map_push _ c.loop-piece.parameters.items c.in-Some-parameter_in-2.last) in
    rw e (last_read (Byte 59) parameter_from
    (map parameter_now c.loop-piece.parameters.items) c.loop-piece.rest.now
    (parameter_now c.in-Some-parameter_in-2.last) _ (sym c.in_default.ensures.exact)
    (sym c.in-Some-parameter_in-2.ensures.exact) c.loop-piece.invariant)
