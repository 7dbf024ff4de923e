-- The first line of a text. A line ends in CR LF or in LF alone (RFC 3261, section 7; LF alone is
-- this project's choice).
use Rattle.std.specs.Prelude.{ℕ, List, Option}
use Rattle.std.specs.Option.{option_map}
use Rattle.std.specs.Str.Lines.{strip_carriage_return}
use Rattle.sip_text.specs.Cut.{cut_at}

-- the first line without its end, and what follows; nothing if no line ends
unfoldable pub line_at : List ℕ → Option (List ℕ × List ℕ)
line_at text = option_map (λ p. (strip_carriage_return p.0, p.1)) (cut_at 10 text)
