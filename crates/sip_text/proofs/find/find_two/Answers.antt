-- `find_two` gives the first place of either byte in the whole text, or None if there is none.
use Rattle.std.proofs.Common.{◌≡◌, ◌+◌, ◌-◌, length, subst, arith}
use Rattle.memchr.specs.Find.{IsFirst, Passes, is_byte2}
use Rattle.sip_text.proofs.Lanes.{first_of_all, found_later, none_further}
use Rattle.sip_text.proofs.find.find_two.Goals as goal

pub loop-place-init : goal.loop-place-init
loop-place-init c = record { within = omega arith; none = λ k low high. absurd (omega arith) }

pub returns-in-Some : goal.returns-in-Some
returns-in-Some c =
    let text = c.args.text.now in
    let place = c.loop-place.place in
    found_later (Passes (is_byte2 c.args.one c.args.other) text) place place (place + 16)
    (length text) c.in-Some.found (omega arith) (omega arith) c.loop-place.invariant.none
    c.in-Some.ensures

pub loop-place-preserved : goal.loop-place-preserved
loop-place-preserved c =
    let text = c.args.text.now in
    record {
      within = omega arith;
      none = none_further (Passes (is_byte2 c.args.one c.args.other) text) c.loop-place.place 16
          c.loop-place.invariant.none c.in_default.ensures;
    }

pub returns : goal.returns
returns c =
    let text = c.args.text.now in
    let P = Passes (is_byte2 c.args.one c.args.other) text in
    let whole : length text - 16 + 16 ≡ length text = omega arith in
    first_of_all P (length text - 16) c.loop-place.place (length text) c.find_in_lanes-2.result
    (omega arith) c.loop-place.invariant.none
    (subst (λ end. IsFirst P (length text - 16) end c.find_in_lanes-2.result) whole
    c.find_in_lanes-2.ensures)
