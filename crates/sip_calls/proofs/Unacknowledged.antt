-- For all inputs of a call: the reliable provisional responses to a held INVITE await their PRACK,
-- and are sent again, exactly as the outputs say.
use Rattle.std.specs.Prelude.{[]}
use Rattle.sip_served.specs.Unacknowledged.{awaited_by, awaited_rseqs, kept_rseqs, repeated_by, repeated_rseqs}
use Rattle.sip_served.proofs.Unacknowledged.{told_awaited, told_kept, told_repeated}
use Rattle.sip_calls.specs.Unacknowledged.{AwaitedAsTold, KeptAsTold, RepeatedAsTold}
use Rattle.sip_calls.proofs.Read.{read_as_told}

pub kept_as_told : KeptAsTold
kept_as_told = read_as_told [] kept_rseqs awaited_by told_kept

pub awaited_as_told : AwaitedAsTold
awaited_as_told = read_as_told [] awaited_rseqs awaited_by told_awaited

pub repeated_as_told : RepeatedAsTold
repeated_as_told = read_as_told [] repeated_rseqs repeated_by told_repeated
