-- What the head of a text that was written for a message with a content says.
use Rattle.std.proofs.Common.{◌≡◌, ◌≤◌, ℕ, IsTrue, List, [], ◌∷◌, ◌++◌, drop, length, Option, Some, None, refl, sym, subst, arith}
use Rattle.std.specs.List.{AllZip}
use Rattle.std.specs.Option.{option_to_list}
use Rattle.sip_grammar.specs.HeaderEntry.{entry, header_named, is_single}
use Rattle.sip_grammar.specs.declared.header_name.HeaderName.{HeaderName}
use Rattle.sip_grammar.specs.declared.header_name.HeaderName.TheVariants as table
use Rattle.sip_message.specs.Content.{Content, contacts_of_content, with_content_of, with_type_of}
use Rattle.sip_message.specs.declared.message.Message.{Message}
use Rattle.sip_headers.specs.Headers.{AreRows, Headers}
use Rattle.sip_headers.specs.Slot.{Many}
use Rattle.sip_headers.specs.Named.{others_in}
use Rattle.sip_headers.specs.Numbers.{headers_with}
use Rattle.sip_header_values.specs.Address.{AreNameAddrs, IsPartyText}
use Rattle.sip_header_values.specs.Sequence.{AreTokens, IsCallId, IsCSeqText}
use Rattle.sip_reader.specs.Head.{HasValues}
use Rattle.sip_reader.specs.Steps.ReadHead.{head_at, values_at}
use Rattle.sip_reader.specs.Spells.{Spells}
use Rattle.sip_reader.specs.WrittenContent.{IsWrittenWith}
use Rattle.sip_reader.proofs.HeadMessages.{known_said, others_said, values_like}
use Rattle.sip_reader.proofs.HeadValues.{has_values, one_list}
use Rattle.sip_reader.proofs.RoundTrip.{written_spelled}

spelled_with : (m : Message) (content : Content) (text : List ℕ) → IsWrittenWith content m text
    → Spells (with_content_of m content) text
spelled_with m content text is =
    let made = with_content_of m content in
    subst (Spells made) (sym is.text_is)
    (written_spelled made is.good (subst (λ (t : List ℕ). length t ≤ 65535) is.text_is is.short))

-- ---- the rows of a message that was read

-- the values of a header in the text
abbrev head_values : List ℕ → HeaderName → List (List ℕ)
head_values text header = values_at (entry header).name (drop 1 (head_at text))

has_all : (text : List ℕ) (header : HeaderName)
    → HasValues (entry header).name (head_values text header) text
has_all text header = has_values (entry header).name text (head_values text header) refl

rows_said : (text : List ℕ) (m : Message) (is : Spells m text)
    → AreRows (headers_with m is.content_length) (head_values text) (others_in is.headers_are.0)
rows_said text m is = known_said text m (head_values text) is (has_all text)

-- what is true of the values in the text is true of these
of_values : (text : List ℕ) (header : HeaderName) (values : List (List ℕ))
    (P : List (List ℕ) → Type 0) → HasValues (entry header).name values text
    → P (head_values text header) → P values
of_values text header values P has holds =
    subst P (one_list text (entry header).name (head_values text header) values
    (has_all text header) has) holds

-- ---- headers that may occur once

at_most_one : {X : Type 0} (P : X → List ℕ → Type 0) (o : Option X)
    (values : List (List ℕ)) → AllZip P (option_to_list o) values → length values ≤ 1
at_most_one P None [] is = omega arith
at_most_one P None (value ∷ values) is = absurd is
at_most_one P (Some x) [] is = absurd is
at_most_one P (Some x) (value ∷ []) is = omega arith
at_most_one P (Some x) (value ∷ (other ∷ values)) is = absurd is.1

single : (header : HeaderName) (h : Headers) (values : HeaderName → List (List ℕ))
    (further : List (List ℕ × List ℕ)) → IsTrue (is_single (entry header).kind)
    → AreRows h values further → length (values header) ≤ 1
single table.Via h values further is rows = absurd cc
single table.MaxForwards h values further is rows = at_most_one _ h.max_forwards _ rows.max_forwards
single table.From h values further is rows = at_most_one IsPartyText (Some h.from) _ rows.from
single table.To h values further is rows = at_most_one IsPartyText (Some h.to) _ rows.to
single table.CallId h values further is rows = at_most_one IsCallId (Some h.call_id) _ rows.call_id
single table.CSeq h values further is rows = at_most_one IsCSeqText (Some h.cseq) _ rows.cseq
single table.Contact h values further is rows = absurd cc
single table.RecordRoute h values further is rows = absurd cc
single table.Route h values further is rows = absurd cc
single table.Require h values further is rows = absurd cc
single table.Supported h values further is rows = absurd cc
single table.RSeq h values further is rows = at_most_one _ h.rseq _ rows.rseq
single table.RAck h values further is rows = at_most_one _ h.rack _ rows.rack
single table.ContentLength h values further is rows =
    at_most_one _ h.content_length _ rows.content_length

-- ---- what is written

pub others_written : (m : Message) (content : Content) (text name : List ℕ)
    (values : List (List ℕ)) → IsWrittenWith content m text → header_named name ≡ None
    → HasValues name values text
    → values ≡ values_like name (m.others ++ with_type_of content.body content.others)
unfolding with_content_of
others_written m content text name values is none has =
    others_said text name (with_content_of m content) values (spelled_with m content text is) none
    has

pub contacts_written : (m : Message) (content : Content) (text : List ℕ)
    (values : List (List ℕ)) → IsWrittenWith content m text
    → HasValues (entry table.Contact).name values text
    → Many AreNameAddrs (contacts_of_content m.contacts content.contacts) values
unfolding with_content_of
contacts_written m content text values is has =
    of_values text table.Contact values
    (Many AreNameAddrs (contacts_of_content m.contacts content.contacts)) has
    (rows_said text (with_content_of m content) (spelled_with m content text is)).contacts

pub require_written : (m : Message) (content : Content) (text : List ℕ)
    (values : List (List ℕ)) → IsWrittenWith content m text
    → HasValues (entry table.Require).name values text
    → Many AreTokens (m.require ++ content.require) values
unfolding with_content_of
require_written m content text values is has =
    of_values text table.Require values (Many AreTokens (m.require ++ content.require)) has
    (rows_said text (with_content_of m content) (spelled_with m content text is)).require

pub supported_written : (m : Message) (content : Content) (text : List ℕ)
    (values : List (List ℕ)) → IsWrittenWith content m text
    → HasValues (entry table.Supported).name values text
    → Many AreTokens (m.supported ++ content.supported) values
unfolding with_content_of
supported_written m content text values is has =
    of_values text table.Supported values (Many AreTokens (m.supported ++ content.supported)) has
    (rows_said text (with_content_of m content) (spelled_with m content text is)).supported

pub once_written : (m : Message) (content : Content) (text : List ℕ) (header : HeaderName)
    (values : List (List ℕ)) → IsWrittenWith content m text
    → IsTrue (is_single (entry header).kind) → HasValues (entry header).name values text
    → length values ≤ 1
once_written m content text header values is once has =
    let spelled = spelled_with m content text is in
    of_values text header values (λ vs. length vs ≤ 1) has
    (single header (headers_with (with_content_of m content) spelled.content_length)
    (head_values text) (others_in spelled.headers_are.0) once
    (rows_said text (with_content_of m content) spelled))
