-- The branch of a request that the agent makes (RFC 3261, sections 8.1.1.7 and 25.1).
use Rattle.std.specs.Prelude.{ℕ, Bool, ◌&&◌, List}
use Rattle.sip_text.specs.Token.{is_token}
use Rattle.sip_message.specs.Via.{has_cookie}

-- a token that begins with `z9hG4bK`, in any case of the letters
abbrev pub is_branch : List ℕ → Bool
is_branch text = is_token text && has_cookie text
