-- The text of an ACK isn't that of an INVITE.
use Rattle.std.proofs.Common.{◌≡◌, ℕ, Bool, true, false, List, ◌++◌, refl, sym, ◌∙◌, ap, codes}
use Rattle.std.specs.Prelude.{◌==◌, Option, None, Some}
use Rattle.std.specs.List.{flat_map, slice_get}
use Rattle.std.specs.Str.{bytes_eq}
use Rattle.std.proofs.lemmas.Bool.{false≢true}
use Rattle.std.proofs.lemmas.Slice.Eq.{bytes_eq-Decides}
use Rattle.sip_message.specs.declared.message.Message.{Message}
use Rattle.sip_message.specs.declared.start_line.StartLine.{StartLine}
use Rattle.sip_message.specs.declared.start_line.StartLine.TheVariants as start
use Rattle.sip_message.specs.HopByHop.{ack_of}
use Rattle.sip_message.specs.Message.{is_request_message, is_request_line}
use Rattle.sip_message.specs.Written.{written, head_text, start_text, identity_text, routes_text, extensions_text, content_text, via_line, number_line}

-- a message's text, by its start line and its method
abbrev text_by : StartLine → List ℕ → Message → List ℕ
text_by line method m =
    start_text line method ++ flat_map via_line m.vias
    ++ number_line (codes "Max-Forwards") m.max_forwards
    ++ identity_text m ++ routes_text m ++ extensions_text m ++ content_text m

-- texts that differ
unfoldable pub Apart : List ℕ → Option (List ℕ) → Type 0
Apart text None = Unit {0}
Apart text (Some bytes) = bytes_eq bytes text ≡ false

pub first_of : List ℕ → Option ℕ
first_of text = slice_get text 0

text-is : (m : Message) → written m ≡ text_by m.start m.cseq.method m
unfolding written head_text
text-is m = refl

invite_first : (uri : List ℕ) (m : Message)
    → first_of (text_by (start.Request uri) (codes "INVITE") m) ≡ Some 73
unfolding start_text first_of
invite_first uri m = refl

-- whether the first byte is an I
abbrev is_i : Option ℕ → Bool
is_i None = false
is_i (Some byte) = byte == 73

ack_first : (line : StartLine) (m : Message) → first_of (text_by line (codes "ACK") m) ≡ Some 73 → ⊥
unfolding start_text first_of
ack_first (start.Request uri) m same = false≢true (ap is_i same)
ack_first (start.Response status reason) m same = false≢true (ap is_i same)

ack-text : (request response : Message)
    → written (ack_of request response)
    ≡ text_by request.start (codes "ACK") (ack_of request response)
ack-text request response = text-is (ack_of request response)

by_line : (line : StartLine) (m : Message) → is_request_line line ≡ true
    → first_of (text_by line (codes "INVITE") m) ≡ Some 73
by_line (start.Request uri) m request = invite_first uri m
by_line (start.Response status reason) m request = absurd (false≢true request)

-- the text of an INVITE
pub request_first : (m : Message) → is_request_message m ≡ true → m.cseq.method ≡ codes "INVITE"
    → first_of (written m) ≡ Some 73
request_first m request invite =
    ap first_of (text-is m ∙ ap (λ method. text_by m.start method m) invite)
    ∙ by_line m.start m request

not_true : (b : Bool) → (b ≡ true → ⊥) → b ≡ false
not_true true no_way = absurd (no_way refl)
not_true false no_way = refl

pub ack_apart : (request response : Message) (text : List ℕ) → first_of text ≡ Some 73
    → bytes_eq (written (ack_of request response)) text ≡ false
ack_apart request response text invite =
    not_true _ (λ same. ack_first request.start (ack_of request response)
    (ap first_of (sym (ack-text request response)
    ∙ (bytes_eq-Decides (written (ack_of request response)) text).0 same) ∙ invite))
