-- A quoted string without its end (RFC 3261, section 25.1).
use Rattle.std.specs.Prelude.{ℕ, Bool, true, false, List, fold}
use Rattle.sip_text.specs.Separator.{after}
use Rattle.sip_text.specs.declared.separator.Place.{Place}
use Rattle.sip_text.specs.declared.separator.Place.TheVariants.{Plain, Quoted, Escaped}

-- between quotes
abbrev pub is_in_quotes : Place → Bool
is_in_quotes Quoted = true
is_in_quotes Escaped = true
is_in_quotes place = false

-- the text ends within quotes
unfoldable pub has_open_quote : List ℕ → Bool
has_open_quote text = is_in_quotes (fold after Plain text)
