-- The start line (RFC 3261, sections 7.1 and 7.2).
use Rattle.std.specs.Prelude.{◌≡◌, ◌≤◌, ◌⊎◌, ℕ, Bool, IsTrue, List, [], ◌∷◌, ◌++◌, length, codes}
use Rattle.std.specs.Str.{str_eq_ignore_ascii_case}
use Rattle.std.specs.Str.Parse.{digits_value}
use Rattle.sip_text.specs.Number.{is_digits}
use Rattle.sip_text.specs.Token.{is_token}
use Rattle.sip_grammar.specs.Word.{is_word}
use Rattle.sip_grammar.specs.Reason.{is_reason}
use Rattle.sip_message.specs.declared.start_line.StartLine.{StartLine}
use Rattle.sip_message.specs.declared.start_line.StartLine.TheVariants.{Request, Response}

-- the version, in any case of its letters
abbrev pub is_version : List ℕ → Bool
is_version text = str_eq_ignore_ascii_case text (codes "SIP/2.0")

-- a method, the Request-URI and the version, with a space between two of them
pub record IsRequestLine (method uri line : List ℕ) : Type 0 where
  pub version : List ℕ
  pub parts : line ≡ method ++ (32 ∷ (uri ++ (32 ∷ version)))
  pub method_is : IsTrue (is_token method)
  pub uri_is : IsTrue (is_word uri)
  pub version_is : IsTrue (is_version version)

-- three digits, from 100 to 699
pub record IsStatusCode (status : ℕ) (text : List ℕ) : Type 0 where
  pub three : length text ≡ 3
  pub digits : IsTrue (is_digits text)
  pub value : digits_value 10 text ≡ status
  pub least : 100 ≤ status
  pub most : status ≤ 699

-- The version, a space, the status code, a space and the reason. If the reason is empty, the space
-- before it may be missing: this project's choice.
pub record IsStatusLine (status : ℕ) (reason line : List ℕ) : Type 0 where
  pub version : List ℕ
  pub code : List ℕ
  pub end : List ℕ
  pub parts : line ≡ version ++ (32 ∷ (code ++ end))
  pub version_is : IsTrue (is_version version)
  pub code_is : IsStatusCode status code
  pub end_is : (end ≡ 32 ∷ reason) ⊎ ((end ≡ []) × (reason ≡ []))
  pub reason_is : IsTrue (is_reason reason)

-- The line is this start line; the method is that of a request.
abbrev pub SpellsStart : StartLine → List ℕ → List ℕ → Type 0
SpellsStart (Request uri) method line = IsRequestLine method uri line
SpellsStart (Response status reason) method line = IsStatusLine status reason line
