-- What belongs to one Call-ID (RFC 3261, section 8.1.1.4).
use Rattle.std.specs.Prelude.{◌≡◌, ℕ, List}
use Rattle.std.specs.List.{AllByRecursion}
use Rattle.sip_transactions.specs.declared.output.UpKind.{UpKind}
use Rattle.sip_transactions.specs.declared.output.UpKind.TheVariants as kind
use Rattle.sip_user.specs.declared.item.CallOut.{CallOut}
use Rattle.sip_user.specs.declared.item.CallOut.TheVariants as out
use Rattle.sip_user.specs.declared.item.Item.{Item}
use Rattle.sip_user.specs.declared.item.Item.TheVariants.{Up, User}
use Rattle.sip_user.specs.declared.notice.Notice.{Notice}
use Rattle.sip_user.specs.declared.notice.Notice.TheVariants.{Request, Response, Ack, Prack, Timeout, Failed, NoAck, NoPrack, Cancel, Ended, Refused}
use Rattle.sip_user.specs.Command.{call_of_command}

-- ---- what is told

-- the Call-ID that a notice carries
abbrev pub call_of_notice : Notice → List ℕ
call_of_notice (Request call_id id method local_tag remote_tag body) = call_id
call_of_notice (Response call_id id status local_tag remote_tag body) = call_id
call_of_notice (Ack call_id id body) = call_id
call_of_notice (Prack call_id id rseq body) = call_id
call_of_notice (Timeout call_id id) = call_id
call_of_notice (Failed call_id id) = call_id
call_of_notice (NoAck call_id id) = call_id
call_of_notice (NoPrack call_id id) = call_id
call_of_notice (Cancel call_id id) = call_id
call_of_notice (Ended call_id local_tag remote_tag) = call_id
call_of_notice (Refused call_id place refusal) = call_id

-- an output is a notice with this Call-ID, or no notice at all
abbrev pub IsNoticeOf : List ℕ → CallOut → Type 0
IsNoticeOf call_id (out.Notice notice) = call_of_notice notice ≡ call_id
IsNoticeOf call_id (out.Command id command) = Unit {0}
IsNoticeOf call_id (out.Direct to bytes) = Unit {0}

abbrev pub AreNoticesOf : List ℕ → List CallOut → Type 0
AreNoticesOf call_id outs = AllByRecursion (IsNoticeOf call_id) outs

-- ---- what happens

-- a request that comes up has this Call-ID; nothing is said of anything else
abbrev pub IsKindOf : List ℕ → UpKind → Type 0
IsKindOf call_id (kind.Request request reply_to) = request.call_id ≡ call_id
IsKindOf call_id (kind.Ack ack) = Unit {0}
IsKindOf call_id (kind.Response response) = Unit {0}
IsKindOf call_id kind.Timeout = Unit {0}
IsKindOf call_id kind.Failed = Unit {0}

-- what a transaction of this Call-ID hands up, or a command of the user for this Call-ID
abbrev pub IsItemOf : List ℕ → Item → Type 0
IsItemOf call_id (Up up) = (up.call_id ≡ call_id) × IsKindOf call_id up.kind
IsItemOf call_id (User command) = call_of_command command ≡ call_id
