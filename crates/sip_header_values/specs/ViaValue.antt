-- Via values (RFC 3261, sections 20.42 and 25.1), with words in the place of their ports.
use Rattle.std.specs.Prelude.{◌≡◌, ℕ, Bool, IsTrue, not, List, [], ◌∷◌, ◌++◌, Option, Some, None, codes}
use Rattle.std.specs.Borrow.{Bor}
use Rattle.std.specs.Str.{str_eq_ignore_ascii_case}
use Rattle.sip_text.specs.Character.{is_blank}
use Rattle.sip_text.specs.Forms.{passing, never, reading_of, guarded, told, both, behind, on_cut, Split, split}
use Rattle.sip_text.specs.Lines.{has_no}
use Rattle.sip_text.specs.OpenQuote.{has_open_quote}
use Rattle.sip_text.specs.Token.{is_run, is_token}
use Rattle.sip_text.specs.Trimmed.{trimmed}
use Rattle.sip_text.specs.declared.separator.Separator.TheVariants.{Byte, Anywhere, Blank, Colon}
use Rattle.sip_grammar.specs.Host.{is_host}
use Rattle.sip_grammar.specs.declared.parameter.Parameter.{Parameter}
use Rattle.sip_header_values.specs.declared.numeral.Numeral.{Numeral}
use Rattle.sip_header_values.specs.declared.via.ViaDraft.{ViaDraft}
use Rattle.sip_header_values.specs.Numeral.{IsNumeral, numeral_from}
use Rattle.sip_grammar.specs.ParameterValues.{AllParameters, many_parameters}

-- ---- the text of a Via value

-- this mark, with blanks allowed around it
abbrev pub IsMark : ℕ → List ℕ → Type 0
IsMark mark text = trimmed text ≡ mark ∷ []

-- A colon and the word of a port. The word has no semicolon: neither quotes nor `<` hide one in the
-- place of a port.
pub record IsPort (port : Numeral) (text : List ℕ) : Type 0 where
  pub colon : List ℕ
  pub word : List ℕ
  pub parts : text ≡ colon ++ word
  pub colon_is : IsMark 58 colon
  pub word_is : IsNumeral port word
  pub no_semicolon : IsTrue (has_no 59 word)

-- a colon and a port, or nothing
abbrev pub IsPortPart : Option Numeral → List ℕ → Type 0
IsPortPart None text = text ≡ []
IsPortPart (Some port) text = IsPort port text

-- One Via value: `SIP`, a slash, `2.0`, a slash, the transport, white space, the host, and the port
-- and the parameters, if given.
pub record IsVia (via : ViaDraft) (text : List ℕ) : Type 0 where
  pub protocol : List ℕ
  pub slash : List ℕ
  pub version : List ℕ
  pub next_slash : List ℕ
  pub space : List ℕ
  pub port : List ℕ
  pub parameters : List ℕ
  pub parts : trimmed text ≡ protocol ++ (slash ++ (version ++ (next_slash ++ (via.transport
      ++ (space ++ (via.host ++ (port ++ parameters)))))))
  pub protocol_is : IsTrue (str_eq_ignore_ascii_case protocol (codes "SIP"))
  pub slash_is : IsMark 47 slash
  pub version_is : IsTrue (str_eq_ignore_ascii_case version (codes "2.0"))
  pub next_slash_is : IsMark 47 next_slash
  pub transport_is : IsTrue (is_token via.transport)
  pub space_is : IsTrue (is_run is_blank space)
  pub host_is : IsTrue (is_host via.host)
  pub port_is : IsPortPart via.port port
  pub parameters_is : AllParameters via.parameters parameters
  pub quotes_end : IsTrue (not (has_open_quote text))

-- Via values between commas, which count outside quotes and angle brackets
abbrev pub AreVias : List ViaDraft → List ℕ → Type 0
AreVias vias text = Split (Byte 44) IsVia vias text

-- ---- what reading from left to right finds

-- a host, and a word in the place of its port, if there is one
abbrev pub SentBy : Type 0
SentBy = List ℕ × Option Numeral

-- what reading the host finds
abbrev pub host_from : List ℕ → Option (List ℕ)
host_from text = reading_of (passing is_host) trimmed text

-- what reading the word of the port finds
abbrev pub port_from : List ℕ → Option Numeral
port_from text = reading_of numeral_from trimmed text

-- a sent-by with a port
abbrev pub with_port : List ℕ × Numeral → SentBy
with_port parts = (parts.0, Some parts.1)

-- a sent-by without a port
abbrev pub without_port : List ℕ → SentBy
without_port host = (host, None)

-- what reading a sent-by finds: a host, a colon outside brackets and a port, or only a host
abbrev pub sent_by_from : List ℕ → Option SentBy
sent_by_from text =
    on_cut Colon (told with_port (both host_from port_from)) (told without_port host_from) text

-- what a host and its port point to
abbrev pub sent_by_now : Bor (List ℕ) × Option Numeral → SentBy
sent_by_now sent_by = (sent_by.0.now, sent_by.1)

-- a sent-by without parameters
abbrev pub sent_by_alone : SentBy → SentBy × List Parameter
sent_by_alone sent_by = (sent_by, [])

-- each quoted string has its end
abbrev pub is_closed : List ℕ → Bool
is_closed text = not (has_open_quote text)

-- what reading a sent-by and its parameters finds
abbrev pub end_from : List ℕ → Option (SentBy × List Parameter)
end_from text = guarded is_closed (on_cut (Anywhere 59) (both sent_by_from many_parameters)
    (told sent_by_alone sent_by_from)) text

-- a Via of these parts
abbrev pub via_of : List ℕ × (SentBy × List Parameter) → ViaDraft
via_of parts = record {
  transport = parts.0;
  host = parts.1.0.0;
  port = parts.1.0.1;
  parameters = parts.1.1;
}

-- a token before white space, and what follows
abbrev pub transport_from : List ℕ → Option (List ℕ × List ℕ)
transport_from text = on_cut Blank (both (passing is_token) (λ rest. Some rest)) never text

-- what reading the transport and the rest of the value finds
abbrev pub hop_from : List ℕ → Option ViaDraft
hop_from text = on_cut Blank (told via_of (both (passing is_token) (reading_of end_from trimmed)))
    never text

-- this word, in any case of its letters, with blanks allowed around it
abbrev pub is_like : List ℕ → List ℕ → Bool
is_like word text = str_eq_ignore_ascii_case (trimmed text) word

-- what reading the version and the rest of the value finds
abbrev pub behind_protocol_from : List ℕ → Option ViaDraft
behind_protocol_from text =
    on_cut (Byte 47) (behind (is_like (codes "2.0")) (reading_of hop_from trimmed)) never text

-- what reading a Via value without the blanks at its ends finds
abbrev pub protocol_from : List ℕ → Option ViaDraft
protocol_from text =
    on_cut (Byte 47) (behind (is_like (codes "SIP")) behind_protocol_from) never text

-- what reading a Via value finds
abbrev pub via_from : List ℕ → Option ViaDraft
via_from text = reading_of protocol_from trimmed text

-- what reading Via values between commas finds
abbrev pub vias_from : List ℕ → Option (List ViaDraft)
vias_from text = split (Byte 44) via_from text
