-- What is made before the first send: for each output, the key under which its failure is reported.
use Rattle.std.specs.Prelude.{Option, None}
use Rattle.sip_message.specs.declared.key.Key.{Key}
use Rattle.sip_round.specs.declared.output.Output.{Output}
use Rattle.sip_round.specs.declared.output.Output.TheVariants as output

-- only a Send of a transaction has one
abbrev pub key_of : Output → Option Key
key_of (output.Send key to bytes) = key
key_of (output.Dropped place reason) = None
key_of (output.Notice notice) = None
