-- What happens to the reliable provisional responses that are sent for one INVITE, each with its
-- RSeq number (RFC 3262, section 3).
use Rattle.std.specs.Prelude.{ℕ, Bool, true, false, List, ◌==◌}
use Rattle.std.specs.List.{list_any}

-- what can happen to the responses of one INVITE
pub data Happening : Type 0 where
  -- a response is sent, with a body or without, at a moment
  Sends : ℕ → Bool → ℕ → Happening
  -- the responses with these numbers are sent again, at a moment
  Repeats : List ℕ → ℕ → Happening
  -- one had no PRACK in time: no response sent before is sent again
  GivesUp : Happening
  -- the PRACK of the response with this number comes
  Acknowledges : ℕ → Happening
  -- a final response is sent
  Closes : Happening

-- whether a response is sent
abbrev pub is_sending : Happening → Bool
is_sending (Sends number has_body now) = true
is_sending (Repeats numbers now) = false
is_sending GivesUp = false
is_sending (Acknowledges number) = false
is_sending Closes = false

-- whether it is one of these numbers
abbrev pub is_among : List ℕ → ℕ → Bool
is_among numbers wanted = list_any (λ number. wanted == number) numbers

-- whether the response with this number is sent again
abbrev pub is_repeat_of : ℕ → Happening → Bool
is_repeat_of wanted (Sends number has_body now) = false
is_repeat_of wanted (Repeats numbers now) = is_among numbers wanted
is_repeat_of wanted GivesUp = false
is_repeat_of wanted (Acknowledges number) = false
is_repeat_of wanted Closes = false

-- whether the PRACK of the response with this number comes
abbrev pub is_acknowledgment_of : ℕ → Happening → Bool
is_acknowledgment_of wanted (Sends number has_body now) = false
is_acknowledgment_of wanted (Repeats numbers now) = false
is_acknowledgment_of wanted GivesUp = false
is_acknowledgment_of wanted (Acknowledges number) = wanted == number
is_acknowledgment_of wanted Closes = false

-- whether it gives up the responses sent before
abbrev pub is_giving_up : Happening → Bool
is_giving_up (Sends number has_body now) = false
is_giving_up (Repeats numbers now) = false
is_giving_up GivesUp = true
is_giving_up (Acknowledges number) = false
is_giving_up Closes = false

-- whether no response follows it, because the INVITE has its final response
abbrev pub is_closing : Happening → Bool
is_closing (Sends number has_body now) = false
is_closing (Repeats numbers now) = false
is_closing GivesUp = false
is_closing (Acknowledges number) = false
is_closing Closes = true
