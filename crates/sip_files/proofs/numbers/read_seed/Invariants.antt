-- The loop of `read_seed`: the bytes so far, with those of the rest, are those of the field.
use Rattle.std.proofs.Common.{◌≡◌, ◌-◌, length, take}
use Rattle.sip_files.specs.Steps.Reading.{pairs_at}
use Rattle.sip_files.proofs.Escapes.{onto}
use Rattle.sip_files.proofs.numbers.read_seed.Given as goal

-- what was read so far and what is left give what the whole field gives
abbrev pub invariant-loop-i : goal.invariant-loop-i
invariant-loop-i l =
    record {
      len : length l.seed ≡ 32;
      so_far : onto (take l.i l.seed) (pairs_at (32 - l.i) l.left) ≡ pairs_at 32 l.field;
    }
