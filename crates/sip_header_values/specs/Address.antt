-- Addresses: From and To, Contact, Route and Record-Route (RFC 3261, sections 20.10, 20.20, 20.30,
-- 20.34 and 20.39).
use Rattle.std.specs.Prelude.{ℕ, Bool, List, [], Option, Some}
use Rattle.sip_text.specs.Forms.{Passing, passing, Never, never, Of, reading_of, Checked, checked, Told, told, Both, both, OnCut, on_cut, Split, split}
use Rattle.sip_text.specs.Trimmed.{trimmed}
use Rattle.sip_text.specs.declared.separator.Separator.TheVariants.{Byte}
use Rattle.sip_grammar.specs.DisplayText.{is_display_text}
use Rattle.sip_grammar.specs.PartyDisplay.{is_party_display}
use Rattle.sip_grammar.specs.Tag.{has_good_tag}
use Rattle.sip_grammar.specs.Uri.{is_uri}
use Rattle.sip_grammar.specs.declared.parameter.Parameter.{Parameter}
use Rattle.sip_message.specs.declared.name_addr.NameAddr.{NameAddr}
use Rattle.sip_message.specs.declared.party.Party.{Party}
use Rattle.sip_grammar.specs.ParameterValues.{ManyParameters, many_parameters, AllParameters, all_parameters}

-- a URI and parameters
abbrev pub Target : Type 0
Target = List ℕ × List Parameter

-- ---- the parts

-- a URI, with blanks allowed around it
abbrev pub UriText : List ℕ → List ℕ → Type 0
UriText uri text = Of (Passing is_uri) trimmed uri text

-- what reading it finds
abbrev pub uri_from : List ℕ → Option (List ℕ)
uri_from text = reading_of (passing is_uri) trimmed text

-- a URI before `>`, and what follows
abbrev pub uri_before_bracket : List ℕ → Option (List ℕ × List ℕ)
uri_before_bracket text = on_cut (Byte 62) (both uri_from (λ rest. Some rest)) never text

-- after `<`: a URI, `>` and parameters
abbrev pub Bracketed : Target → List ℕ → Type 0
Bracketed target text = OnCut (Byte 62) (Both UriText AllParameters) Never target text

-- what reading the part after `<` finds
abbrev pub bracketed_from : List ℕ → Option Target
bracketed_from text = on_cut (Byte 62) (both uri_from all_parameters) never text

-- A URI without brackets, and parameters. All that follows the first semicolon belongs to the
-- header.
abbrev pub Bare : Target → List ℕ → Type 0
Bare target text =
    OnCut (Byte 59) (Both UriText ManyParameters) (Told (λ uri. (uri, [])) UriText) target text

-- what reading an address without brackets finds
abbrev pub bare_from : List ℕ → Option Target
bare_from text =
    on_cut (Byte 59) (both uri_from many_parameters) (told (λ uri. (uri, [])) uri_from) text

-- the display text before `<`, with blanks allowed around it
abbrev pub Display : (List ℕ → Bool) → List ℕ → List ℕ → Type 0
Display is_display display text = Of (Passing is_display) trimmed display text

-- what reading it finds
abbrev pub display_from : (List ℕ → Bool) → List ℕ → Option (List ℕ)
display_from is_display text = reading_of (passing is_display) trimmed text

-- a display text, `<`, a URI, `>` and parameters; or a URI without brackets and parameters
abbrev pub Address : (List ℕ → Bool) → List ℕ × Target → List ℕ → Type 0
Address is_display address text =
    OnCut (Byte 60) (Both (Display is_display) Bracketed) (Told (λ target. ([], target)) Bare)
    address text

-- what reading an address finds
abbrev pub address_from : (List ℕ → Bool) → List ℕ → Option (List ℕ × Target)
address_from is_display text =
    on_cut (Byte 60) (both (display_from is_display) bracketed_from)
    (told (λ target. ([], target)) bare_from) text

-- ---- From and To

-- a From or a To of these parts
abbrev pub party_of : List ℕ × Target → Party
party_of address = record { display = address.0; uri = address.1.0; parameters = address.1.1 }

-- the value of a From or a To, whose tag is a token
abbrev pub IsPartyText : Party → List ℕ → Type 0
IsPartyText party text =
    Told party_of (Checked (λ address. has_good_tag address.1.1) (Address is_party_display)) party
    text

-- what reading it finds
abbrev pub party_from : List ℕ → Option Party
party_from text =
    told party_of (checked (λ address. has_good_tag address.1.1) (address_from is_party_display))
    text

-- ---- Contact, Route and Record-Route

-- an address of these parts
abbrev pub name_addr_of : List ℕ × Target → NameAddr
name_addr_of address = record { display = address.0; uri = address.1.0; parameters = address.1.1 }

-- the value of a Contact or of a route
abbrev pub IsNameAddr : NameAddr → List ℕ → Type 0
IsNameAddr address text = Told name_addr_of (Address is_display_text) address text

-- what reading it finds
abbrev pub name_addr_from : List ℕ → Option NameAddr
name_addr_from text = told name_addr_of (address_from is_display_text) text

-- addresses between commas, which count outside quotes and angle brackets
abbrev pub AreNameAddrs : List NameAddr → List ℕ → Type 0
AreNameAddrs addresses text = Split (Byte 44) IsNameAddr addresses text

-- what reading a list of them finds
abbrev pub name_addrs_from : List ℕ → Option (List NameAddr)
name_addrs_from text = split (Byte 44) name_addr_from text
