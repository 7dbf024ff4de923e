-- Words in the places of numbers, and the message that has these numbers.
use Rattle.std.proofs.Common.{◌≡◌, ℕ, Bool, true, false, ◌&&◌, ltb, cond, List, [], ◌∷◌, ◌++◌, map, Option, Some, None, is_some, refl, sym, ap, subst, ◌∙◌}
use Rattle.std.specs.List.{flat_map, list_all}
use Rattle.std.specs.Option.{option_map, option_to_list}
use Rattle.std.proofs.lemmas.Bool.{and_from, and_parts}
use Rattle.std.proofs.lemmas.List.Folds.{list_all-append}
use Rattle.std.proofs.lemmas.Option.{same_Some, none-some}
use Rattle.sip_text.specs.Forms.{each}
use Rattle.sip_text.proofs.Separators.{and_then_some}
use Rattle.sip_message.specs.declared.message.Message.{Message}
use Rattle.sip_message.specs.declared.rack.RAck.{RAck}
use Rattle.sip_message.specs.declared.via.Via.{Via}
use Rattle.sip_header_values.specs.declared.numeral.Numeral.{Numeral}
use Rattle.sip_header_values.specs.declared.numeral.Numeral.TheVariants.{Number, NotANumber}
use Rattle.sip_header_values.specs.declared.sequence.RAckDraft.{RAckDraft}
use Rattle.sip_header_values.specs.declared.via.ViaDraft.{ViaDraft}
use Rattle.sip_text.specs.Options.{◌>>=◌}
use Rattle.sip_headers.specs.Complete.{slot_of, draft_with}
use Rattle.sip_headers.specs.Headers.{Headers}
use Rattle.sip_headers.specs.Numbers.{via_draft, rack_draft, headers_with, number_words, are_numbers, known, known_slot, known_both, known_rack, known_port, port_of, numbers_in, via_with, rack_with, message_with}
use Rattle.sip_headers.specs.declared.numbers.Numbers.{Numbers}
use Rattle.sip_headers.specs.declared.slot.Slot.TheVariants.{Once}

-- the two words of a RAck in the places of numbers
abbrev rack_words : RAckDraft → List Numeral
rack_words rack = rack.rseq ∷ (rack.cseq ∷ [])

-- the ports of the Via values
abbrev pub port_words : List ViaDraft → List Numeral
port_words vias = flat_map (λ via. option_to_list via.port) vias

-- ---- when there are numbers

abbrev pub is_number : Numeral → Bool
is_number word = is_some (known word)

abbrev pub is_port : Numeral → Bool
is_port word = is_some (port_of word)

and_true : (b : Bool) → (b && true) ≡ b
and_true true = refl
and_true false = refl

then_some : {X Y : Type 0} (test : Numeral → Bool) (o : Option X) (words : List Numeral)
    (f : X → Option Y) (rest : List Numeral) → is_some o ≡ list_all test words
    → ((x : X) → is_some (f x) ≡ list_all test rest)
    → is_some (o >>= f) ≡ list_all test (words ++ rest)
then_some test None words f rest e more =
    ap (λ b. b && list_all test rest) e ∙ sym (list_all-append test words rest)
then_some test (Some x) words f rest e more =
    more x ∙ ap (λ b. b && list_all test rest) e ∙ sym (list_all-append test words rest)

mapped_some : {X Y : Type 0} (o : Option X) (g : X → Y)
    → is_some (o >>= λ x. Some (g x)) ≡ is_some o
mapped_some None g = refl
mapped_some (Some x) g = refl

known_some : (word : Numeral) → is_some (known word) ≡ list_all is_number (word ∷ [])
known_some word = sym (and_true (is_number word))

known_slot_some : (word : Option Numeral)
    → is_some (known_slot (slot_of word)) ≡ list_all is_number (option_to_list word)
known_slot_some None = refl
known_slot_some (Some (Number n)) = refl
known_slot_some (Some NotANumber) = refl

known_both_some : (a b : Numeral) → is_some (known_both a b) ≡ list_all is_number (a ∷ (b ∷ []))
known_both_some (Number a) (Number b) = refl
known_both_some (Number a) NotANumber = refl
known_both_some NotANumber b = refl

known_rack_some : (rack : Option RAckDraft) → is_some (known_rack (slot_of rack))
    ≡ list_all is_number (flat_map rack_words (option_to_list rack))
known_rack_some None = refl
known_rack_some (Some rack) = known_both_some rack.rseq rack.cseq

numbers_some : (h : Headers)
    → is_some (numbers_in (draft_with h)) ≡ list_all is_number (number_words h)
unfolding numbers_in
numbers_some h =
    then_some is_number (known h.cseq.number) (h.cseq.number ∷ []) _
    (option_to_list h.max_forwards
    ++ (option_to_list h.rseq ++ (flat_map rack_words (option_to_list h.rack)
    ++ option_to_list h.content_length))) (known_some h.cseq.number)
    (λ cseq. then_some is_number (known_slot (slot_of h.max_forwards))
    (option_to_list h.max_forwards) _
    (option_to_list h.rseq ++ (flat_map rack_words (option_to_list h.rack)
    ++ option_to_list h.content_length)) (known_slot_some h.max_forwards)
    (λ max_forwards. then_some is_number (known_slot (slot_of h.rseq)) (option_to_list h.rseq) _
    (flat_map rack_words (option_to_list h.rack) ++ option_to_list h.content_length)
    (known_slot_some h.rseq)
    (λ rseq. then_some is_number (known_rack (slot_of h.rack))
    (flat_map rack_words (option_to_list h.rack)) _
    (option_to_list h.content_length) (known_rack_some h.rack)
    (λ rack. mapped_some (known_slot (slot_of h.content_length))
    (λ content_length. record {
      max_forwards = max_forwards;
      cseq = cseq;
      rseq = rseq;
      rack = rack;
      content_length = content_length;
    }) ∙ known_slot_some h.content_length))))

known_port_some : (word : Option Numeral)
    → is_some (known_port word) ≡ list_all is_port (option_to_list word)
known_port_some None = refl
known_port_some (Some word) =
    let one : ℕ → Option ℕ = λ n. Some n in
    mapped_some (port_of word) one ∙ sym (and_true (is_port word))

via_some : (via : ViaDraft) → is_some (via_with via) ≡ list_all is_port (option_to_list via.port)
via_some via =
    mapped_some (known_port via.port)
    (λ port. record {
      transport = via.transport;
      host = via.host;
      port = port;
      parameters = via.parameters;
    })
    ∙ known_port_some via.port

vias_some : (vias : List ViaDraft)
    → is_some (each via_with vias) ≡ list_all is_port (port_words vias)
vias_some [] = refl
vias_some (via ∷ vias) =
    then_some is_port (via_with via) (option_to_list via.port) _ (port_words vias) (via_some via)
    (λ x. mapped_some (each via_with vias) (λ xs. x ∷ xs) ∙ vias_some vias)

some_value : {X : Type 0} (o : Option X) → is_some o ≡ true → (x : X) × (o ≡ Some x)
some_value None e = absurd cc
some_value (Some x) e = (x, refl)

-- the numbers of good words
pub record HasNumbers (h : Headers) : Type 0 where
  pub numbers : Numbers
  pub vias : List Via
  pub numbers_are : numbers_in (draft_with h) ≡ Some numbers
  pub vias_are : each via_with h.vias ≡ Some vias

pub numbers_there : (h : Headers) → are_numbers h ≡ true → HasNumbers h
numbers_there h e =
    let both = and_parts (list_all is_port (port_words h.vias))
    (list_all is_number (number_words h)) e in
    let numbers = some_value (numbers_in (draft_with h)) (numbers_some h ∙ both.1) in
    let vias = some_value (each via_with h.vias) (vias_some h.vias ∙ both.0) in
    record { numbers = numbers.0; vias = vias.0; numbers_are = numbers.1; vias_are = vias.1 }

pub are_all_numbers : (h : Headers) (numbers : Numbers) (vias : List Via)
    → numbers_in (draft_with h) ≡ Some numbers → each via_with h.vias ≡ Some vias
    → are_numbers h ≡ true
are_all_numbers h numbers vias e f =
    and_from _ _ (sym (vias_some h.vias) ∙ ap is_some f) (sym (numbers_some h) ∙ ap is_some e)

-- ---- which words they are

known_is : (word : Numeral) (n : ℕ) → known word ≡ Some n → Number n ≡ word
known_is (Number m) n e = ap (λ x. Number x) (sym (same_Some m n e))
known_is NotANumber n e = absurd cc

known_slot_is : (word : Option Numeral) (n : Option ℕ) → known_slot (slot_of word) ≡ Some n
    → option_map Number n ≡ word
known_slot_is None n e = ap (option_map Number) (sym (same_Some None n e))
known_slot_is (Some (Number m)) n e = ap (option_map Number) (sym (same_Some (Some m) n e))
known_slot_is (Some NotANumber) n e = absurd cc

known_rack_is : (rack : Option RAckDraft) (numbers : Option (ℕ × ℕ))
    → known_rack (slot_of rack) ≡ Some numbers
    → option_map rack_draft (rack_with (slot_of rack) numbers) ≡ rack
known_rack_is None numbers e = refl
known_rack_is (Some rack) numbers e =
    let a = and_then_some _ (known rack.rseq) numbers e in
    let b = and_then_some _ (known rack.cseq) numbers a.2 in
    ap (λ ns. option_map rack_draft (rack_with (Once rack) ns))
    (sym (same_Some (Some (a.0, b.0)) numbers b.2))
    ∙ (λ i. Some (record {
      rseq = known_is rack.rseq a.0 a.1 i;
      cseq = known_is rack.cseq b.0 b.1 i;
      method = rack.method;
    }))

port_is : (word : Numeral) (n : ℕ) → port_of word ≡ Some n → Number n ≡ word
port_is word n e =
    let a = and_then_some _ (known word) n e in
    ap (λ m. Number m) (sym (within a.0 (ltb 65535 a.0) a.2)) ∙ known_is word a.0 a.1
  where
    within : (m : ℕ) (r : Bool) → cond r None (Some m) ≡ Some n → m ≡ n
    within m true f = absurd (none-some n f)
    within m false f = same_Some m n f

known_port_is : (word : Option Numeral) (port : Option ℕ) → known_port word ≡ Some port
    → option_map Number port ≡ word
known_port_is None port e = ap (option_map Number) (sym (same_Some None port e))
known_port_is (Some word) port e =
    let a = and_then_some _ (port_of word) port e in
    ap (option_map Number) (sym (same_Some (Some a.0) port a.2))
    ∙ ap (λ (x : Numeral). Some x) (port_is word a.0 a.1)

via_is : (draft : ViaDraft) (via : Via) → via_with draft ≡ Some via → via_draft via ≡ draft
via_is draft via e =
    let a = and_then_some (λ port.
    Some (record {
      transport = draft.transport;
      host = draft.host;
      port = port;
      parameters = draft.parameters;
    })) (known_port draft.port) via e in
    ap via_draft (sym (same_Some _ via a.2))
    ∙ (λ i. record {
      transport = draft.transport;
      host = draft.host;
      port = known_port_is draft.port a.0 a.1 i;
      parameters = draft.parameters;
    })

vias_are : (drafts : List ViaDraft) (vias : List Via) → each via_with drafts ≡ Some vias
    → map via_draft vias ≡ drafts
vias_are [] vias e = ap (map via_draft) (sym (same_Some [] vias e))
vias_are (draft ∷ drafts) vias e =
    let a = and_then_some (λ x. each via_with drafts >>= λ xs. Some (x ∷ xs))
    (via_with draft) vias e in
    let b = and_then_some (λ xs. Some (a.0 ∷ xs)) (each via_with drafts) vias a.2 in
    ap (map via_draft) (sym (same_Some (a.0 ∷ b.0) vias b.2))
    ∙ (λ i. via_is draft a.0 a.1 i ∷ vias_are drafts b.0 b.1 i)

-- what each number was read from
pub record AreKnown (h : Headers) (numbers : Numbers) : Type 0 where
  pub cseq : known h.cseq.number ≡ Some numbers.cseq
  pub max_forwards : known_slot (slot_of h.max_forwards) ≡ Some numbers.max_forwards
  pub rseq : known_slot (slot_of h.rseq) ≡ Some numbers.rseq
  pub rack : known_rack (slot_of h.rack) ≡ Some numbers.rack
  pub content_length : known_slot (slot_of h.content_length) ≡ Some numbers.content_length

pub are_known : (h : Headers) (numbers : Numbers) → numbers_in (draft_with h) ≡ Some numbers
    → AreKnown h numbers
unfolding numbers_in
are_known h numbers e =
    let a = and_then_some _ (known h.cseq.number) numbers e in
    let b = and_then_some _ (known_slot (slot_of h.max_forwards)) numbers a.2 in
    let c = and_then_some _ (known_slot (slot_of h.rseq)) numbers b.2 in
    let d = and_then_some _ (known_rack (slot_of h.rack)) numbers c.2 in
    let g = and_then_some _ (known_slot (slot_of h.content_length)) numbers d.2 in
    subst (λ (ns : Numbers). AreKnown h ns) (same_Some _ numbers g.2)
    (record { cseq = a.1; max_forwards = b.1; rseq = c.1; rack = d.1; content_length = g.1 })

-- the headers are those of the message with these numbers
pub numbered : (h : Headers) (numbers : Numbers) (m : Message)
    → numbers_in (draft_with h) ≡ Some numbers → each via_with h.vias ≡ Some m.vias
    → message_with m.start m.vias numbers (draft_with h) m.body ≡ Some m
    → h ≡ headers_with m numbers.content_length
numbered h numbers m e f made =
    let are = are_known h numbers e in
    sym (λ i. record {
      vias = vias_are h.vias m.vias f i;
      max_forwards = known_slot_is h.max_forwards numbers.max_forwards are.max_forwards i;
      from = h.from;
      to = h.to;
      call_id = h.call_id;
      cseq = record {
        number = known_is h.cseq.number numbers.cseq are.cseq i;
        method = h.cseq.method;
      };
      contacts = h.contacts;
      record_routes = h.record_routes;
      routes = h.routes;
      require = h.require;
      supported = h.supported;
      rseq = known_slot_is h.rseq numbers.rseq are.rseq i;
      rack = known_rack_is h.rack numbers.rack are.rack i;
      content_length = known_slot_is h.content_length numbers.content_length are.content_length i;
      others = h.others;
    }) ∙ ap (λ (n : Message). headers_with n numbers.content_length) (same_Some _ m made)

-- ---- and the other way round

abbrev pub rack_numbers : RAck → ℕ × ℕ
rack_numbers rack = (rack.rseq, rack.cseq)

abbrev pub numbers_with : Message → Option ℕ → Numbers
numbers_with m length = record {
  max_forwards = m.max_forwards;
  cseq = m.cseq.number;
  rseq = m.rseq;
  rack = option_map rack_numbers m.rack;
  content_length = length;
}

if_again : (n : Option ℕ) → known_slot (slot_of (option_map Number n)) ≡ Some n
if_again None = refl
if_again (Some n) = refl

rack_again : (rack : Option RAck)
    → known_rack (slot_of (option_map rack_draft rack)) ≡ Some (option_map rack_numbers rack)
rack_again None = refl
rack_again (Some rack) = refl

pub numbers_again : (m : Message) (length : Option ℕ)
    → numbers_in (draft_with (headers_with m length)) ≡ Some (numbers_with m length)
unfolding numbers_in
numbers_again m length =
    rw (if_again m.max_forwards, if_again m.rseq, rack_again m.rack, if_again length) refl

port_again : (port : Option ℕ) → list_all is_port (option_to_list (option_map Number port)) ≡ true
    → known_port (option_map Number port) ≡ Some port
port_again None e = refl
port_again (Some n) e = by (ltb 65535 n) e
  where
    by : (r : Bool) → (is_some (cond r None (Some n)) && true) ≡ true
        → (cond r None (Some n) >>= λ m. Some (Some m)) ≡ Some (Some n)
    by true f = absurd cc
    by false f = refl

via_again : (via : Via) → list_all is_port (option_to_list (option_map Number via.port)) ≡ true
    → via_with (via_draft via) ≡ Some via
via_again via e =
    ap (λ o. o >>= λ port. Some (record
    { transport = via.transport; host = via.host; port = port; parameters = via.parameters }))
    (port_again via.port e)

vias_again : (vias : List Via) → list_all is_port (port_words (map via_draft vias)) ≡ true
    → each via_with (map via_draft vias) ≡ Some vias
vias_again [] e = refl
vias_again (via ∷ vias) e =
    let both = and_parts (list_all is_port (option_to_list (option_map Number via.port)))
    (list_all is_port (port_words (map via_draft vias)))
    (sym (list_all-append is_port (option_to_list (option_map Number via.port))
    (port_words (map via_draft vias))) ∙ e) in
    rw (via_again via both.0, vias_again vias both.1) refl

pub ports_again : (m : Message) (length : Option ℕ) → are_numbers (headers_with m length) ≡ true
    → each via_with (map via_draft m.vias) ≡ Some m.vias
ports_again m length e =
    vias_again m.vias (and_parts (list_all is_port (port_words (map via_draft m.vias)))
    (list_all is_number (number_words (headers_with m length))) e).0

rack_same : (rack : Option RAck)
    → rack_with (slot_of (option_map rack_draft rack)) (option_map rack_numbers rack) ≡ rack
rack_same None = refl
rack_same (Some rack) = refl

pub message_again : (m : Message) (length : Option ℕ)
    → message_with m.start m.vias (numbers_with m length) (draft_with (headers_with m length))
    m.body ≡ Some m
message_again m length = λ i. Some (record m { rack = rack_same m.rack i })

-- ---- of the first Via

abbrev pub HasParameters : ViaDraft → List Via → Type 0
HasParameters draft [] = ⊥
HasParameters draft (via ∷ vias) = draft.parameters ≡ via.parameters

pub via_parameters : (draft : ViaDraft) (drafts : List ViaDraft) (vias : List Via)
    → each via_with (draft ∷ drafts) ≡ Some vias → HasParameters draft vias
via_parameters draft drafts vias e =
    let a = and_then_some (λ x. each via_with drafts >>= λ xs. Some (x ∷ xs))
    (via_with draft) vias e in
    let b = and_then_some (λ xs. Some (a.0 ∷ xs)) (each via_with drafts) vias a.2 in
    subst (λ vs. HasParameters draft vs) (same_Some (a.0 ∷ b.0) vias b.2)
    (ap (λ (v : ViaDraft). v.parameters) (sym (via_is draft a.0 a.1)))
