-- CSeq and RAck, with words in the place of their numbers (RFC 3261, section 20.16; RFC 3262,
-- section 7.2), and tokens.
use Rattle.std.specs.Prelude.{ℕ, List, Option}
use Rattle.sip_text.specs.Forms.{Passing, passing, Never, never, Of, reading_of, Told, told, Both, both, OnCut, on_cut, OrEmpty, or_empty, Split, split}
use Rattle.sip_text.specs.Token.{is_token}
use Rattle.sip_text.specs.Trimmed.{trimmed}
use Rattle.sip_text.specs.declared.separator.Separator.TheVariants.{Byte, Blank}
use Rattle.sip_grammar.specs.Word.{is_word}
use Rattle.sip_header_values.specs.declared.numeral.Numeral.{Numeral}
use Rattle.sip_header_values.specs.declared.sequence.CSeqDraft.{CSeqDraft}
use Rattle.sip_header_values.specs.declared.sequence.RAckDraft.{RAckDraft}
use Rattle.sip_header_values.specs.Numeral.{IsNumeral, numeral_from}

-- ---- tokens

-- a token, with blanks allowed around it
abbrev pub IsTokenText : List ℕ → List ℕ → Type 0
IsTokenText token text = Of (Passing is_token) trimmed token text

-- what reading it finds
abbrev pub token_from : List ℕ → Option (List ℕ)
token_from text = reading_of (passing is_token) trimmed text

-- Require and Supported: tokens with commas between them; an empty value is an empty list
abbrev pub AreTokens : List (List ℕ) → List ℕ → Type 0
AreTokens tokens text = OrEmpty (Split (Byte 44) IsTokenText) tokens text

-- what reading a list of tokens finds
abbrev pub tokens_from : List ℕ → Option (List (List ℕ))
tokens_from text = or_empty (split (Byte 44) token_from) text

-- ---- Call-ID

-- the value of a Call-ID
abbrev pub IsCallId : List ℕ → List ℕ → Type 0
IsCallId call_id text = Passing is_word call_id text

-- what reading it finds
abbrev pub call_id_from : List ℕ → Option (List ℕ)
call_id_from text = passing is_word text

-- ---- CSeq and RAck

-- a CSeq of these parts
abbrev pub cseq_of : Numeral × List ℕ → CSeqDraft
cseq_of parts = record { number = parts.0; method = parts.1 }

-- the value of a CSeq: a number, a blank, a method
abbrev pub IsCSeqText : CSeqDraft → List ℕ → Type 0
IsCSeqText cseq text =
    OnCut Blank (Told cseq_of (Both IsNumeral IsTokenText)) Never cseq text

-- what reading it finds
abbrev pub cseq_from : List ℕ → Option CSeqDraft
cseq_from text = on_cut Blank (told cseq_of (both numeral_from token_from)) never text

-- a RAck of these parts
abbrev pub rack_of : Numeral × CSeqDraft → RAckDraft
rack_of parts = record { rseq = parts.0; cseq = parts.1.number; method = parts.1.method }

-- the value of a RAck: a number, a blank, and a CSeq
abbrev pub IsRAckText : RAckDraft → List ℕ → Type 0
IsRAckText rack text =
    OnCut Blank (Told rack_of (Both IsNumeral (Of IsCSeqText trimmed))) Never rack text

-- what reading it finds
abbrev pub rack_from : List ℕ → Option RAckDraft
rack_from text = on_cut Blank (told rack_of
    (both numeral_from (reading_of cseq_from trimmed))) never text
