-- The keys by which held requests are found.
use Rattle.std.specs.Prelude.{ℕ, List, Option, None, Some, if◌then◌else◌}
use Rattle.std.specs.Cmp.Lexicographic.{slice_cmp}
use Rattle.std.specs.Option.{option_map}
use Rattle.std.specs.Ordering.{nat_cmp, ordering_then}
use Rattle.std.specs.Str.{str_to_ascii_lowercase}
use Rattle.std.specs.declared.cmp.Ordering.{Ordering}
use Rattle.sip_message.specs.contracts.id.IdOrd.TheImpl as id_order
use Rattle.sip_message.specs.declared.id.Id.{Id}
use Rattle.sip_message.specs.declared.key.Key.{Key}
use Rattle.sip_message.specs.declared.key.Key.TheVariants.{Client, Server}
use Rattle.sip_message.specs.declared.message.Message.{Message}
use Rattle.sip_message.specs.Party.{tag_of}
use Rattle.sip_held_dialogs.specs.Requests.{is_invite}
use Rattle.sip_served.specs.declared.held_request.HeldRequest.{HeldRequest}
use Rattle.sip_served.specs.Steps.Index.{pair_cmp}

-- two texts and a number, by which a request is found
abbrev pub TextKey : Type 0
TextKey = List ℕ × List ℕ × ℕ

abbrev pub text_cmp : TextKey → TextKey → Ordering
text_cmp a b =
    ordering_then (ordering_then (slice_cmp nat_cmp a.0 b.0) (slice_cmp nat_cmp a.1 b.1))
    (nat_cmp a.2 b.2)

-- an event and a number
abbrev pub PrackKey : Type 0
PrackKey = Id × ℕ

abbrev pub prack_cmp : PrackKey → PrackKey → Ordering
prack_cmp = pair_cmp id_order.ghosts.cmp

-- what the same request has that came by another path (RFC 3261, section 8.2.2.2)
abbrev pub merge_key : Message → TextKey
merge_key request =
    (str_to_ascii_lowercase (tag_of request.from), request.cseq.method, request.cseq.number)

-- what the ACK of an INVITE has: the tags, in lower case, and the number (RFC 3261, section
-- 13.2.2.4)
abbrev pub ack_key : List ℕ → List ℕ → ℕ → TextKey
ack_key local remote number =
    (str_to_ascii_lowercase local, str_to_ascii_lowercase remote, number)

-- what the PRACK of a response to an INVITE has: the event that made its dialog, and the number of
-- the CSeq in its RAck (RFC 3262, section 7.2)
abbrev pub prack_key : Id → ℕ → PrackKey
prack_key created_by number = (created_by, number)

-- what the CANCEL of a request has; a client's key has none of it (RFC 3261, section 9.2)
abbrev pub branch_key : Key → Option TextKey
branch_key (Server branch sent_by method) = Some (branch, sent_by.host, sent_by.port)
branch_key (Client branch method) = None

-- ---- of a held request; an ACK is only for an INVITE, a PRACK only for one in a dialog

abbrev pub id_of : HeldRequest → Option Id
id_of held = Some held.id

abbrev pub merge_of : HeldRequest → Option TextKey
merge_of held = Some (merge_key held.request)

abbrev pub ack_of : HeldRequest → Option TextKey
ack_of held =
    if is_invite held.request
    then Some (ack_key held.tag (tag_of held.request.from) held.request.cseq.number)
    else None

abbrev pub prack_of : HeldRequest → Option PrackKey
prack_of held =
    option_map (λ dialog. prack_key dialog.created_by held.request.cseq.number) held.dialog

abbrev pub branch_of : HeldRequest → Option TextKey
branch_of held = branch_key held.key
