-- A text is a value of a header exactly if it is read as that value. Each proof is put together
-- like its form.
use Rattle.std.proofs.Common.{ℕ, Bool, List, [], codes}
use Rattle.sip_text.specs.Forms.{Guarded}
use Rattle.sip_text.specs.Token.{is_token}
use Rattle.sip_text.specs.Trimmed.{trimmed}
use Rattle.sip_text.specs.declared.separator.Separator.TheVariants.{Byte, Anywhere, Blank, Colon}
use Rattle.sip_text.proofs.ParameterForms.{parameter_reads, parameters_reads}
use Rattle.sip_text.proofs.ReadForms.{Reads, passing_reads, never_reads, or_empty_reads, of_reads, guarded_reads, checked_reads, told_reads, behind_reads, both_reads, cut_reads, split_reads}
use Rattle.sip_grammar.specs.DisplayText.{is_display_text}
use Rattle.sip_grammar.specs.Host.{is_host}
use Rattle.sip_grammar.specs.Tag.{has_good_tag}
use Rattle.sip_grammar.specs.PartyDisplay.{is_party_display}
use Rattle.sip_grammar.specs.Uri.{is_uri}
use Rattle.sip_grammar.specs.Word.{is_word}
use Rattle.sip_grammar.specs.declared.parameter.Parameter.{Parameter}
use Rattle.sip_message.specs.declared.name_addr.NameAddr.{NameAddr}
use Rattle.sip_message.specs.declared.party.Party.{Party}
use Rattle.sip_header_values.specs.declared.numeral.Numeral.{Numeral}
use Rattle.sip_header_values.specs.declared.sequence.CSeqDraft.{CSeqDraft}
use Rattle.sip_header_values.specs.declared.sequence.RAckDraft.{RAckDraft}
use Rattle.sip_header_values.specs.declared.via.ViaDraft.{ViaDraft}
use Rattle.sip_header_values.specs.Address as address
use Rattle.sip_header_values.specs.Numeral.{numeral, numeral_from, IsNumeral}
use Rattle.sip_grammar.specs.ParameterValues as parameters
use Rattle.sip_header_values.specs.Sequence as sequence
use Rattle.sip_header_values.specs.ViaValue as via
use Rattle.sip_header_values.proofs.SentBys.{HostCut, PortCut, SentByCut, EndCut}
use Rattle.sip_header_values.proofs.CutVias.{BehindProtocol, ViaCut, as_parts, as_cuts}
use Rattle.sip_header_values.proofs.Transports.{HopCut}

pub numeral_reads : Reads (List ℕ) Numeral numeral_from IsNumeral
numeral_reads = told_reads numeral (passing_reads is_word)

-- ---- parameters

one_reads : Reads (List ℕ) Parameter parameters.one_parameter parameters.OneParameter
one_reads = told_reads parameters.parameter_of parameter_reads

many_reads : Reads (List ℕ) (List Parameter) parameters.many_parameters parameters.ManyParameters
many_reads = split_reads (Byte 59) one_reads

pub all_reads : Reads (List ℕ) (List Parameter) parameters.all_parameters parameters.AllParameters
all_reads = parameters_reads one_reads

-- ---- addresses

uri_reads : Reads (List ℕ) (List ℕ) address.uri_from address.UriText
uri_reads = of_reads trimmed (passing_reads is_uri)

bracketed_reads : Reads (List ℕ) address.Target address.bracketed_from address.Bracketed
bracketed_reads = cut_reads (Byte 62) (both_reads uri_reads all_reads) never_reads

bare_reads : Reads (List ℕ) address.Target address.bare_from address.Bare
bare_reads = cut_reads (Byte 59) (both_reads uri_reads many_reads)
    (told_reads (λ uri. (uri, [])) uri_reads)

address_reads : (is_display : List ℕ → Bool)
    → Reads (List ℕ) (List ℕ × address.Target) (address.address_from is_display)
    (address.Address is_display)
address_reads is_display =
    cut_reads (Byte 60) (both_reads (of_reads trimmed (passing_reads is_display)) bracketed_reads)
    (told_reads (λ target. ([], target)) bare_reads)

pub party_reads : Reads (List ℕ) Party address.party_from address.IsPartyText
party_reads = told_reads address.party_of
    (checked_reads (λ address. has_good_tag address.1.1) (address_reads is_party_display))

name_addr_reads : Reads (List ℕ) NameAddr address.name_addr_from address.IsNameAddr
name_addr_reads = told_reads address.name_addr_of (address_reads is_display_text)

pub name_addrs_reads : Reads (List ℕ) (List NameAddr) address.name_addrs_from address.AreNameAddrs
name_addrs_reads = split_reads (Byte 44) name_addr_reads

-- ---- Via

host_reads : Reads (List ℕ) (List ℕ) via.host_from HostCut
host_reads = of_reads trimmed (passing_reads is_host)

port_reads : Reads (List ℕ) Numeral via.port_from PortCut
port_reads = of_reads trimmed numeral_reads

sent_by_reads : Reads (List ℕ) via.SentBy via.sent_by_from SentByCut
sent_by_reads = cut_reads Colon (told_reads via.with_port (both_reads host_reads port_reads))
    (told_reads via.without_port host_reads)

end_reads : Reads (List ℕ) (via.SentBy × List Parameter) via.end_from (Guarded via.is_closed EndCut)
end_reads = guarded_reads via.is_closed (cut_reads (Anywhere 59)
    (both_reads sent_by_reads many_reads) (told_reads via.sent_by_alone sent_by_reads))

hop_reads : Reads (List ℕ) ViaDraft via.hop_from HopCut
hop_reads = cut_reads Blank (told_reads via.via_of
    (both_reads (passing_reads is_token) (of_reads trimmed end_reads))) never_reads

behind_protocol_reads : Reads (List ℕ) ViaDraft via.behind_protocol_from BehindProtocol
behind_protocol_reads = cut_reads (Byte 47)
    (behind_reads (via.is_like (codes "2.0")) (of_reads trimmed hop_reads)) never_reads

via_cut_reads : Reads (List ℕ) ViaDraft via.via_from ViaCut
via_cut_reads = of_reads trimmed (cut_reads (Byte 47)
    (behind_reads (via.is_like (codes "SIP")) behind_protocol_reads) never_reads)

pub via_reads : Reads (List ℕ) ViaDraft via.via_from via.IsVia
via_reads = record {
  takes = λ text v e. as_parts v text (via_cut_reads.takes text v e);
  again = λ text v is. via_cut_reads.again text v (as_cuts v text is);
}

pub vias_reads : Reads (List ℕ) (List ViaDraft) via.vias_from via.AreVias
vias_reads = split_reads (Byte 44) via_reads

-- ---- tokens, CSeq and RAck

token_reads : Reads (List ℕ) (List ℕ) sequence.token_from sequence.IsTokenText
token_reads = of_reads trimmed (passing_reads is_token)

pub tokens_reads : Reads (List ℕ) (List (List ℕ)) sequence.tokens_from sequence.AreTokens
tokens_reads = or_empty_reads (split_reads (Byte 44) token_reads)

pub call_id_reads : Reads (List ℕ) (List ℕ) sequence.call_id_from sequence.IsCallId
call_id_reads = passing_reads is_word

pub cseq_reads : Reads (List ℕ) CSeqDraft sequence.cseq_from sequence.IsCSeqText
cseq_reads = cut_reads Blank (told_reads sequence.cseq_of
    (both_reads numeral_reads token_reads)) never_reads

pub rack_reads : Reads (List ℕ) RAckDraft sequence.rack_from sequence.IsRAckText
rack_reads = cut_reads Blank (told_reads sequence.rack_of
    (both_reads numeral_reads (of_reads trimmed cseq_reads))) never_reads
