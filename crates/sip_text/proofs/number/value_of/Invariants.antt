-- The loop of `value_of`: the value of the digits read so far, which isn't above the maximum.
use Rattle.std.proofs.Common.{◌≡◌, ◌≤◌, take}
use Rattle.std.specs.Str.Parse.{digits_value}
use Rattle.sip_text.proofs.number.value_of.Given as goal

abbrev pub invariant-loop-digit : goal.invariant-loop-digit
invariant-loop-digit l =
    record {
      so_far : l.value ≡ digits_value 10 (take l.digit-index l.digits);
      small : l.value ≤ l.most;
    }
