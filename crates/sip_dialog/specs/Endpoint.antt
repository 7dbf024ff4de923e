-- The two ends of a dialog (RFC 3261, section 12).
use Rattle.std.specs.Prelude.{ℕ, List, [], ◌∷◌, Option, Some, None}
use Rattle.sip_message.specs.declared.party.Party.{Party}
use Rattle.sip_message.specs.Party.{tag_of}
use Rattle.sip_dialog.specs.declared.endpoint.Endpoint.{Endpoint}

-- the text, if it isn't empty
abbrev pub some_unless_empty : List ℕ → Option (List ℕ)
some_unless_empty [] = None
some_unless_empty (b ∷ bs) = Some (b ∷ bs)

-- the tag of a From or a To, if it has one
abbrev pub tag_option : Party → Option (List ℕ)
tag_option party = some_unless_empty (tag_of party)

-- an end with this URI and the tag of the party
abbrev pub endpoint_of : List ℕ → Party → Endpoint
endpoint_of uri party = record { uri = uri; tag = tag_option party }
