-- A header given by its name and value is the one that its line says.
use Rattle.std.proofs.Common.{◌≡◌, ℕ, List, Some, None, ap, sym, ◌∙◌}
use Rattle.std.specs.Prelude.{Option, Result, Ok, Err, IfNone, IfOk, IfSome, IsTrue}
use Rattle.sip_text.specs.Token.{is_token}
use Rattle.sip_files.proofs.GivenLaws.{given_again, given_took}
use Rattle.sip_files.specs.Given.{given_at}
use Rattle.sip_files.specs.Written.{header_text}
use Rattle.sip_files.specs.declared.given_header.GivenHeader.{GivenHeader}
use Rattle.sip_host.specs.Asking.{SaysHeader}

none_is_not_some : {X : Type 0} (x : X) → ◌≡◌ {A = Option X} None (Some x) → ⊥
none_is_not_some x e = absurd cc

module _ {E : Type 0} (name value line : List ℕ) (is : line ≡ header_text name value) where
  pub some_said : IsTrue (is_token name) → (result : Result (Option GivenHeader) E)
      → IfOk result (λ found. found ≡ given_at line)
      → IfOk result (λ found. IfSome found (SaysHeader name value))
  some_said token (Ok None) found = tt
  some_said token (Ok (Some header)) found = record {
    token = token;
    given = given_took (header_text name value) header (ap given_at (sym is) ∙ sym found);
  }
  some_said token (Err e) found = tt

  pub none_said : (result : Result (Option GivenHeader) E)
      → IfOk result (λ found. found ≡ given_at line)
      → IfOk result (λ found. IfNone found ((header : GivenHeader)
      → ¬ (SaysHeader name value header)))
  none_said (Ok None) found = λ header says. none_is_not_some header
      (found ∙ ap given_at is ∙ given_again (header_text name value) header says.given)
  none_said (Ok (Some header)) found = tt
  none_said (Err e) found = tt
