-- Whether a request would begin a transaction (RFC 3261, section 17.2.3).
use Rattle.std.specs.Prelude.{List, Bool, codes, is_some, not, ◌&&◌}
use Rattle.std.specs.Str.{bytes_eq}
use Rattle.keyed_machine.specs.Machine.{tick_at}
use Rattle.keyed_machine.specs.Phase.{states_after}
use Rattle.sip_message.specs.Key.{key_cmp}
use Rattle.sip_message.specs.Message.{is_request_message}
use Rattle.sip_message.specs.MessageKey.{key_of_message}
use Rattle.sip_message.specs.declared.message.Message.{Message}
use Rattle.sip_transactions.specs.Machine.{transaction_machine}
use Rattle.sip_round.specs.declared.config.Config.{Config}
use Rattle.sip_round.specs.declared.round.Round.{Round}
use Rattle.sip_round.specs.Answers.{past_of}

-- a request other than ACK, after rounds that left no transaction with its key
abbrev pub would_begin : Config → List Round → Message → Bool
would_begin config rounds message =
    is_request_message message && not (bytes_eq message.cseq.method (codes "ACK"))
    && not (is_some (states_after key_cmp transaction_machine tick_at
    (past_of config rounds).transactions (key_of_message message)))
