-- A header's name, directly before its colon.
use Rattle.std.proofs.Common.{◌≡◌, ℕ, List, Some, refl, ap, ◌∙◌}
use Rattle.sip_text.specs.Run.{run_before}
use Rattle.sip_text.specs.Token.{is_token_byte}
use Rattle.sip_text.specs.declared.separator.Separator.TheVariants.{Byte}
use Rattle.sip_text.proofs.Runs.{run_found}
use Rattle.sip_grammar.proofs.Characters.{no_colon}
use Rattle.sip_grammar.proofs.Passing.{cut_here, token_passes}
use Rattle.sip_grammar.proofs.PlainRuns.{token_is}
use Rattle.sip_grammar.proofs.WrittenBytes.{solid_end, token_solid}
use Rattle.sip_headers.specs.HeaderLine.{name_before_colon}

pub name_first : (line : List ℕ) (p : List ℕ × List ℕ) → run_before is_token_byte 58 line ≡ Some p
    → name_before_colon line ≡ Some p
name_first line p e =
    let run = run_found is_token_byte 58 line p e in
    let token = token_is p.0 run.run_is in
    ap name_before_colon run.parts
    ∙ rw (
      cut_here (Byte 58) p.0 58 p.1 (token_passes 58 no_colon p.0 token) refl,
      solid_end p.0 (token_solid p.0 token),
      token,
    ) refl
