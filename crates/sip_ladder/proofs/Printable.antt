-- Labels have printable characters only.
use Rattle.std.proofs.Common.{◌≡◌, ℕ, ◌-◌, ◌==◌, Bool, true, false, cond, List, [], ◌∷◌, ◌++◌, length, take, drop, refl, ◌∙◌, decimal, codes}
use Rattle.std.specs.Prelude.{Option, Some, None, nat_le}
use Rattle.std.specs.Option.{option_map_or}
use Rattle.std.specs.List.{list_all}
use Rattle.std.proofs.lemmas.Bool.{and_from}
use Rattle.std.proofs.lemmas.List.Folds.{list_all-append}
use Rattle.sip_message.specs.Message.{is_request_message}
use Rattle.sip_message.specs.Party.{tag_of}
use Rattle.sip_message.specs.Via.{first_branch}
use Rattle.sip_message.specs.declared.message.Message.{Message}
use Rattle.sip_message.specs.declared.rack.RAck.{RAck}
use Rattle.sip_message.specs.declared.start_line.StartLine.{StartLine}
use Rattle.sip_message.specs.declared.start_line.StartLine.TheVariants.{Request, Response}
use Rattle.sip_ladder.specs.Label.{again_text, details, first_line, is_printable, message_label, named, number_named, as_visible, as_visible_byte, status_text, summary, tag_text, unread_label, without_cookie, word}

abbrev pub AreShown : List ℕ → Type 0
AreShown text = list_all is_printable text ≡ true

pub both : (one other : List ℕ) → AreShown one → AreShown other → AreShown (one ++ other)
both one other p q =
    list_all-append is_printable one other
    ∙ and_from (list_all is_printable one) (list_all is_printable other) p q

pub either : (test : Bool) (one other : List ℕ) → AreShown one → AreShown other
    → AreShown (cond test one other)
either true one other p q = p
either false one other p q = q

one_shown : (byte : ℕ) (test : Bool) → is_printable byte ≡ test
    → is_printable (cond test byte 63) ≡ true
one_shown byte true is = is
one_shown byte false is = refl

pub shown_is : (text : List ℕ) → AreShown (as_visible text)
shown_is [] = refl
shown_is (byte ∷ text) =
    and_from (is_printable (as_visible_byte byte)) (list_all is_printable (as_visible text))
    (one_shown byte (is_printable byte) refl) (shown_is text)

pub word_is : (text : List ℕ) → AreShown (word text)
unfolding word
word_is text =
    either (nat_le (length text) 21) (as_visible text)
    (codes ".." ++ as_visible (drop (length text - 9) text))
    (shown_is text)
    (both (codes "..") (as_visible (drop (length text - 9) text)) refl
    (shown_is (drop (length text - 9) text)))

named_is : (name text : List ℕ) → AreShown name → AreShown (named name text)
unfolding named
named_is name text p =
    both (codes " " ++ name) (word text) (both (codes " ") name refl p) (word_is text)

number_is : (name : List ℕ) (number : Option ℕ) → AreShown name
    → AreShown (number_named name number)
number_is name None p = refl
number_is name (Some number) p = named_is name (decimal number) p

status_is : (start : StartLine) → AreShown (status_text start)
status_is (Request uri) = refl
status_is (Response status reason) =
    both (word (decimal status)) (codes " ") (word_is (decimal status)) refl

again_is : (is_again : Bool) → AreShown (again_text is_again)
again_is true = refl
again_is false = refl

summary_is : (message : Message) (is_again : Bool) → AreShown (summary message is_again)
unfolding summary
summary_is message is_again =
    let number = named [] (decimal message.cseq.number) in
    let again = again_text is_again in
    let start = status_text message.start in
    let method = word message.cseq.method in
    both (start ++ method ++ number) again
    (both (start ++ method) number
    (both start method (status_is message.start) (word_is message.cseq.method))
    (named_is [] (decimal message.cseq.number) refl)) (again_is is_again)

tag_is : (message : Message) → AreShown (tag_text message)
unfolding tag_text
tag_is message =
    let from = named (codes "from=") (tag_of message.from) in
    let to = named (codes "to=") (tag_of message.to) in
    either (length (tag_of message.to) == 0) (cond (is_request_message message) from []) to
    (either (is_request_message message) from []
    (named_is (codes "from=") (tag_of message.from) refl) refl)
    (named_is (codes "to=") (tag_of message.to) refl)

rack_is : (rack : Option RAck)
    → AreShown (option_map_or (λ r. named (codes "rack=") (decimal r.rseq)) rack [])
rack_is None = refl
rack_is (Some rack) = named_is (codes "rack=") (decimal rack.rseq) refl

details_is : (message : Message) → AreShown (details message)
unfolding details
details_is message =
    let rseq = number_named (codes "rseq=") message.rseq in
    let rack = option_map_or (λ r. named (codes "rack=") (decimal r.rseq)) message.rack [] in
    let tag = tag_text message in
    let branch = named (codes "branch=") (without_cookie (first_branch message.vias)) in
    let call = named (codes "call=") message.call_id in
    both (rseq ++ rack ++ tag ++ branch) call
    (both (rseq ++ rack ++ tag) branch
    (both (rseq ++ rack) tag
    (both rseq rack (number_is (codes "rseq=") message.rseq refl) (rack_is message.rack))
    (tag_is message))
    (named_is (codes "branch=") (without_cookie (first_branch message.vias)) refl))
    (named_is (codes "call=") message.call_id refl)

pub message_is : (message : Message) (is_again : Bool) → AreShown (message_label message is_again)
message_is message is_again =
    both (summary message is_again) (details message) (summary_is message is_again)
    (details_is message)

pub unread_is : (bytes : List ℕ) (is_again : Bool) → AreShown (unread_label bytes is_again)
unfolding unread_label
unread_is bytes is_again =
    let again = again_text is_again in
    let front = as_visible (take 40 (first_line bytes)) in
    both (codes "?" ++ again ++ codes " ") front
    (both (codes "?" ++ again) (codes " ") (both (codes "?") again refl (again_is is_again)) refl)
    (shown_is (take 40 (first_line bytes)))
