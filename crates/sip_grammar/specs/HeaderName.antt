-- The names of the headers that are parsed into fields of their own (RFC 3261, sections 7.3.1 and
-- 7.3.3).
use Rattle.std.specs.Prelude.{ℕ, List}
use Rattle.sip_grammar.specs.HeaderEntry.{entry}
use Rattle.sip_grammar.specs.declared.header_name.HeaderName.{HeaderName}

-- the long name, as it is written
abbrev pub header_name : HeaderName → List ℕ
header_name header = (entry header).name
