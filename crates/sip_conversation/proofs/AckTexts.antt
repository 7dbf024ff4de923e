-- A request whose text is that of an ACK has its method, and no response has such a text.
use Rattle.std.proofs.Common.{◌≡◌, ℕ, true, false, List, [], ◌∷◌, ◌++◌, refl, sym, ap, ◌∙◌, arith, append_assoc}
use Rattle.std.specs.Prelude.{codes, IsTrue, Some}
use Rattle.std.specs.List.{AllByRecursion, flat_map, list_all}
use Rattle.std.proofs.lemmas.Bool.{false≢true}
use Rattle.sip_text.specs.Character.{is_token_byte}
use Rattle.sip_text.specs.Token.{is_token}
use Rattle.sip_message.specs.declared.message.Message.{Message}
use Rattle.sip_message.specs.declared.start_line.StartLine.{StartLine}
use Rattle.sip_message.specs.declared.start_line.StartLine.TheVariants as start
use Rattle.sip_message.specs.Message.{is_request_line, is_request_message}
use Rattle.sip_message.specs.Written.{content_text, extensions_text, head_text, identity_text, number_line, routes_text, start_text, via_line, written}
use Rattle.sip_clients.specs.Clients.{status_of}
use Rattle.sip_transactions.proofs.RowFacts.{and-left, and-right}

-- a word and a space, and more
abbrev Begins : List ℕ → List ℕ → Type 0
Begins word text = (rest : List ℕ) × (text ≡ word ++ 32 ∷ rest)

begins_more : (word text more : List ℕ) → Begins word text → Begins word (text ++ more)
begins_more word text more begins = (
  begins.0 ++ more,
  ap (λ bytes. bytes ++ more) begins.1 ∙ append_assoc word (32 ∷ begins.0) more,
)

head_begins : (word : List ℕ) (m : Message) → Begins word (start_text m.start m.cseq.method)
    → Begins word (head_text m)
unfolding head_text
head_begins word m begins =
    let first = start_text m.start m.cseq.method in
    let vias = flat_map via_line m.vias in
    begins_more word (first ++ vias) (number_line (codes "Max-Forwards") m.max_forwards)
    (begins_more word first vias begins)

text_begins : (word : List ℕ) (m : Message) → Begins word (start_text m.start m.cseq.method)
    → Begins word (written m)
unfolding written
text_begins word m begins =
    let one = head_text m ++ identity_text m in
    let two = one ++ routes_text m in
    let three = two ++ extensions_text m in
    begins_more word three (content_text m)
    (begins_more word two (extensions_text m)
    (begins_more word one (routes_text m)
    (begins_more word (head_text m) (identity_text m) (head_begins word m begins))))

request_begins : (line : StartLine) (method : List ℕ) → is_request_line line ≡ true
    → Begins method (start_text line method)
unfolding start_text
request_begins (start.Request uri) method is =
    let spaced = method ++ codes " " in
    begins_more method (spaced ++ uri) (codes " SIP/2.0\r\n")
    (begins_more method spaced uri ([], refl))
request_begins (start.Response code reason) method is = absurd cc

-- ---- words without spaces

abbrev IsNoSpace : ℕ → Type 0
IsNoSpace byte = byte ≡ 32 → ⊥

first_of : (one other : ℕ) (more rest : List ℕ) → one ∷ more ≡ other ∷ rest → one ≡ other
first_of one other more rest same = cc

rest_of : (one other : ℕ) (more rest : List ℕ) → one ∷ more ≡ other ∷ rest → more ≡ rest
rest_of one other more rest same = cc

same_word : (one other rest more : List ℕ) → AllByRecursion IsNoSpace one
    → AllByRecursion IsNoSpace other → one ++ 32 ∷ rest ≡ other ++ 32 ∷ more → one ≡ other
same_word [] [] rest more here there same = refl
same_word [] (byte ∷ other) rest more here there same =
    absurd (there.0 (sym (first_of 32 byte rest (other ++ 32 ∷ more) same)))
same_word (byte ∷ one) [] rest more here there same =
    absurd (here.0 (first_of byte 32 (one ++ 32 ∷ rest) more same))
same_word (byte ∷ one) (first ∷ other) rest more here there same =
    let bytes : byte ≡ first =
    first_of byte first (one ++ 32 ∷ rest) (other ++ 32 ∷ more) same in
    let words : one ≡ other = same_word one other rest more here.1 there.1
    (rest_of byte first (one ++ 32 ∷ rest) (other ++ 32 ∷ more) same) in
    ap (λ b. b ∷ one) bytes ∙ ap (λ w. first ∷ w) words

space_is_none : is_token_byte 32 ≡ false
unfolding is_token_byte
space_is_none = refl

no_spaces : (bytes : List ℕ) → list_all is_token_byte bytes ≡ true
    → AllByRecursion IsNoSpace bytes
no_spaces [] all = tt
no_spaces (byte ∷ bytes) all = (
  λ space. false≢true (sym space_is_none ∙ (sym (ap is_token_byte space)
      ∙ and-left (is_token_byte byte) (list_all is_token_byte bytes) all)),
  no_spaces bytes (and-right (is_token_byte byte) (list_all is_token_byte bytes) all),
)

token_spaces : (word : List ℕ) → IsTrue (is_token word) → AllByRecursion IsNoSpace word
unfolding is_token
token_spaces [] token = tt
token_spaces (byte ∷ bytes) token = no_spaces (byte ∷ bytes) token

ack_spaces : AllByRecursion IsNoSpace (codes "ACK")
ack_spaces = (
  λ is. absurd (omega arith),
  (λ is. absurd (omega arith), (λ is. absurd (omega arith), tt)),
)

-- a request whose text is that of one whose method is ACK
pub is_ack : (request ack : Message) → is_request_message request ≡ true
    → IsTrue (is_token request.cseq.method) → is_request_message ack ≡ true
    → ack.cseq.method ≡ codes "ACK" → written request ≡ written ack
    → request.cseq.method ≡ codes "ACK"
is_ack request ack is token so method same =
    let one = text_begins request.cseq.method request
    (request_begins request.start request.cseq.method is) in
    let other = text_begins ack.cseq.method ack (request_begins ack.start ack.cseq.method so) in
    same_word request.cseq.method (codes "ACK") one.0 other.0
    (token_spaces request.cseq.method token) ack_spaces
    (sym one.1 ∙ (same ∙ (other.1 ∙ ap (λ word. word ++ 32 ∷ other.0) method)))

-- ---- a response

response_begins : (line : StartLine) (method : List ℕ) (status : ℕ)
    → status_of line ≡ Some status → Begins (codes "SIP/2.0") (start_text line method)
unfolding start_text
response_begins (start.Request uri) method status is = absurd cc
response_begins (start.Response code reason) method status is = (_, refl)

version_spaces : AllByRecursion IsNoSpace (codes "SIP/2.0")
version_spaces = (
  λ is. absurd (omega arith),
  (
    λ is. absurd (omega arith),
    (
      λ is. absurd (omega arith),
      (
        λ is. absurd (omega arith),
        (
          λ is. absurd (omega arith),
          (λ is. absurd (omega arith), (λ is. absurd (omega arith), tt)),
        ),
      ),
    ),
  ),
)

not_both : codes "SIP/2.0" ≡ codes "ACK" → ⊥
not_both same = absurd cc

-- its text is that of no ACK
pub no_ack : (response ack : Message) (status : ℕ) → status_of response.start ≡ Some status
    → is_request_message ack ≡ true → ack.cseq.method ≡ codes "ACK"
    → written response ≡ written ack → ⊥
no_ack response ack status is so method same =
    let one = text_begins (codes "SIP/2.0") response
    (response_begins response.start response.cseq.method status is) in
    let other = text_begins ack.cseq.method ack (request_begins ack.start ack.cseq.method so) in
    not_both (same_word (codes "SIP/2.0") (codes "ACK") one.0 other.0 version_spaces ack_spaces
    (sym one.1 ∙ (same ∙ (other.1 ∙ ap (λ word. word ++ 32 ∷ other.0) method))))
