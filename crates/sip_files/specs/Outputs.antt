-- The output file, version 1: the outputs of rounds have exactly one text.
use Rattle.std.specs.Prelude.{ℕ, List, ◌++◌, codes, map}
use Rattle.std.specs.Global.{Vec}
use Rattle.std.specs.List.{flat_map}
use Rattle.sip_message.specs.declared.id.Id.{Id}
use Rattle.sip_message.specs.Fault.{fault_text}
use Rattle.sip_transactions.specs.declared.output.DropReason.{DropReason}
use Rattle.sip_transactions.specs.declared.output.DropReason.TheVariants.{NotOurs, NoTransaction, Unreadable}
use Rattle.sip_user.specs.declared.notice.Notice.{Notice}
use Rattle.sip_user.specs.declared.notice.Notice.TheVariants as notice
use Rattle.sip_user.specs.Refusal.{number_of}
use Rattle.sip_round.specs.declared.output.Output.{Output}
use Rattle.sip_round.specs.declared.output.Output.TheVariants as output
use Rattle.sip_files.specs.Field.{plain_field, number_field, id_field, address_field, word_field, rest_field}

abbrev pub reason_text : DropReason → List ℕ
reason_text NotOurs = plain_field (codes "NotOurs")
reason_text NoTransaction = plain_field (codes "NoTransaction")
reason_text (Unreadable fault) = plain_field (fault_text fault)

-- `notice`, the call as a word, and the name of the notice's form
unfoldable pub form_text : List ℕ → List ℕ → List ℕ
form_text call_id form = codes "notice" ++ word_field call_id ++ plain_field form

-- the same, followed by an id
unfoldable pub form_with_id : List ℕ → List ℕ → Id → List ℕ
form_with_id call_id form id = form_text call_id form ++ id_field id

-- the tags and the body are words
abbrev pub notice_text : Notice → List ℕ
notice_text (notice.Request call_id id method local_tag remote_tag body) =
    form_with_id call_id (codes "request") id ++ plain_field method ++ word_field local_tag
    ++ word_field remote_tag ++ word_field body
notice_text (notice.Response call_id id status local_tag remote_tag body) =
    form_with_id call_id (codes "response") id ++ number_field status ++ word_field local_tag
    ++ word_field remote_tag ++ word_field body
notice_text (notice.Ack call_id id body) = form_with_id call_id (codes "ack") id ++ word_field body
notice_text (notice.Prack call_id id rseq body) =
    form_with_id call_id (codes "prack") id ++ number_field rseq ++ word_field body
notice_text (notice.Timeout call_id id) = form_with_id call_id (codes "timeout") id
notice_text (notice.Failed call_id id) = form_with_id call_id (codes "failed") id
notice_text (notice.NoAck call_id id) = form_with_id call_id (codes "noack") id
notice_text (notice.NoPrack call_id id) = form_with_id call_id (codes "noprack") id
notice_text (notice.Cancel call_id id) = form_with_id call_id (codes "cancel") id
notice_text (notice.Ended call_id local_tag remote_tag) =
    form_text call_id (codes "ended") ++ word_field local_tag ++ word_field remote_tag
notice_text (notice.Refused call_id place refusal) =
    form_text call_id (codes "refused") ++ number_field place ++ number_field (number_of refusal)

abbrev pub output_text : Output → List ℕ
output_text (output.Send key to bytes) = codes "send" ++ address_field to ++ rest_field bytes
output_text (output.Dropped place reason) = codes "drop" ++ number_field place ++ reason_text reason
output_text (output.Notice notice) = notice_text notice

unfoldable pub output_line : Output → List ℕ
output_line output = output_text output ++ codes "\n"

-- the round's moment, and its outputs in order
unfoldable pub round_outputs_text : ℕ → List Output → List ℕ
round_outputs_text moment outputs =
    codes "round" ++ number_field moment ++ codes "\n" ++ flat_map output_line outputs

abbrev pub rounds_text : List (ℕ × List Output) → List ℕ
rounds_text rounds = flat_map (λ round. round_outputs_text round.0 round.1) rounds

unfoldable pub outputs_text : List (ℕ × List Output) → List ℕ
outputs_text rounds = codes "sip-outputs 1\n" ++ rounds_text rounds

-- the moment of each round, and the list of its outputs
abbrev pub told : List (ℕ × Vec Output) → List (ℕ × List Output)
told rounds = map (λ round. (round.0, round.1.items)) rounds
