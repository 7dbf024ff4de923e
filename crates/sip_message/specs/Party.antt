-- From and To (RFC 3261, sections 19.3, 20.20 and 20.39).
use Rattle.std.specs.Prelude.{ℕ, List, [], ◌∷◌, Option, Some, None, codes}
use Rattle.sip_grammar.specs.declared.parameter.Parameter.{Parameter}
use Rattle.sip_message.specs.declared.party.Party.{Party}
use Rattle.sip_grammar.specs.Tag.{tag_in}

-- the tag, empty if there is none
abbrev pub tag_of : Party → List ℕ
tag_of party = tag_in party.parameters

-- the parameter `tag`, if there is a tag
abbrev pub tag_alone : Option (List ℕ) → List Parameter
tag_alone None = []
tag_alone (Some tag) = (record { name = codes "tag"; value = Some tag }) ∷ []

-- the party of a URI, with no display text, and with a tag if there is one
abbrev pub party_of : List ℕ → Option (List ℕ) → Party
party_of uri tag = record { display = []; uri = uri; parameters = tag_alone tag }
