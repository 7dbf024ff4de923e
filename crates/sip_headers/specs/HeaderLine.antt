-- Header lines (RFC 3261, sections 7.3.1 and 7.3.3).
use Rattle.std.specs.Prelude.{ℕ, List, Option, Some, None}
use Rattle.sip_text.specs.Forms.{Passing, passing, Never, never, Of, reading_of, Told, told, Both, both, OnCut, on_cut}
use Rattle.sip_text.specs.Token.{is_token}
use Rattle.sip_text.specs.Trimmed.{trimmed, trimmed_end}
use Rattle.sip_text.specs.declared.separator.Separator.TheVariants.{Byte}
use Rattle.sip_grammar.specs.HeaderEntry.{header_named}
use Rattle.sip_grammar.specs.HeaderValue.{has_no_line_byte}
use Rattle.sip_grammar.specs.declared.header_name.HeaderName.{HeaderName}
use Rattle.sip_headers.specs.declared.line_class.LineClass.{LineClass}
use Rattle.sip_headers.specs.declared.line_class.LineClass.TheVariants as declared

-- ---- one line

-- A name, a colon, and a value: the name is a token with white space after it, the value a text
-- without CR and LF, with white space around it.
abbrev pub IsHeaderLine : List ℕ × List ℕ → List ℕ → Type 0
IsHeaderLine parts line =
    OnCut (Byte 58) (Both (Of (Passing is_token) trimmed_end)
    (Told trimmed (Passing has_no_line_byte))) Never parts line

-- what reading a header line finds: the name and the value
abbrev pub line_from : List ℕ → Option (List ℕ × List ℕ)
line_from line =
    on_cut (Byte 58) (both (reading_of (passing is_token) trimmed_end)
    (told trimmed (passing has_no_line_byte))) never line

-- the name, and what follows the colon
abbrev pub name_before_colon : List ℕ → Option (List ℕ × List ℕ)
name_before_colon line =
    on_cut (Byte 58) (both (reading_of (passing is_token) trimmed_end) (λ rest. Some rest)) never
    line

-- ---- the class of a line

-- a line that is no header line, a value of a header of the table, or another header
pub data Class : Type 0 where
  bad : Class
  known : HeaderName → List ℕ → Class
  other : List ℕ → List ℕ → Class

-- the class of a line, by the header of its name
abbrev pub class_by_name : List ℕ → List ℕ → Option HeaderName → Class
class_by_name name value None = other name value
class_by_name name value (Some header) = known header value

-- the class of a line, by its name and its value, if it has them
abbrev pub class_by_parts : Option (List ℕ × List ℕ) → Class
class_by_parts None = bad
class_by_parts (Some parts) = class_by_name parts.0 parts.1 (header_named parts.0)

-- the class of a line
abbrev pub class_from : List ℕ → Class
class_from line = class_by_parts (line_from line)

abbrev pub class_now : LineClass → Class
class_now declared.Bad = bad
class_now (declared.Known header value) = known header value.now
class_now (declared.Other name value) = other name.now value.now
