-- `split_of` gives the values of all pieces, or None if a piece isn't in the form.
use Rattle.std.proofs.Common.{sym, ◌∙◌}
use Rattle.sip_text.proofs.Loops.{piece_fails, piece_read, last_fails, last_read}
use Rattle.sip_header_values.proofs.row.split_of.Goals as goal

pub returns-in_default-2 : goal.returns-in_default-2
returns-in_default-2 g c =
    piece_fails c.args.separator g.R.Row.reads c.loop-piece.values c.loop-piece.rest.now
    c.in-Some.piece.now c.in-Some.after.now _ (sym c.in-Some.ensures.exact)
    (sym c.in_ok-value.ensures ∙ c.in_default-2.is) c.loop-piece.invariant

pub loop-piece-preserved : goal.loop-piece-preserved
loop-piece-preserved g c =
    rw c.in_ok-push.ensures.ok (piece_read c.args.separator g.R.Row.reads c.loop-piece.values
    c.loop-piece.rest.now c.in-Some.piece.now c.in-Some.after.now c.in-Some-2.value _
    (sym c.in-Some.ensures.exact) (sym c.in_ok-value.ensures ∙ c.in-Some-2.is)
    c.loop-piece.invariant)

pub returns-in_default-3 : goal.returns-in_default-3
returns-in_default-3 g c =
    last_fails c.args.separator g.R.Row.reads c.loop-piece.values c.loop-piece.rest.now _
    (sym c.in_default.ensures.exact)
    (sym c.in_ok-last.ensures ∙ c.in_default-3.is) c.loop-piece.invariant

pub returns : goal.returns
returns g c =
    rw c.in_ok-push-2.ensures.ok (last_read c.args.separator g.R.Row.reads c.loop-piece.values
    c.loop-piece.rest.now c.in-Some-3.last _ (sym c.in_default.ensures.exact)
    (sym c.in_ok-last.ensures ∙ c.in-Some-3.is) c.loop-piece.invariant)
