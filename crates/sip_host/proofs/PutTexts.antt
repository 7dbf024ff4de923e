-- Texts at the beginning of a buffer.
use Rattle.std.proofs.Common.{◌≡◌, ◌<◌, ◌≤◌, ◌+◌, ◌-◌, ℕ, List, ◌++◌, drop, length, sym, ap, ◌∙◌, arith, append_assoc, length-append, length-drop}
use Rattle.std.proofs.lemmas.List.{drop-drop}
use Rattle.std.proofs.lemmas.Bool.Decides.{nat_tests}
use Rattle.sip_host.specs.Handing.{put_in}

fits : (text buffer : List ℕ) → length text ≤ length buffer
    → put_in text buffer ≡ text ++ drop (length text) buffer
fits text buffer fit = grind (arith, nat_tests)

-- two texts that are longer than the buffer
pub pair_too_long : (first second buffer : List ℕ)
    → length buffer < length first + length second → put_in (first ++ second) buffer ≡ buffer
pair_too_long first second buffer short =
    let longer : length buffer < length (first ++ second) =
    omega (arith, length-append first second) in
    grind (arith, nat_tests)

-- a text, and one more directly after it
pub put_after : (first second buffer : List ℕ) → length first ≤ length buffer
    → length second ≤ length buffer - length first
    → first ++ put_in second (drop (length first) buffer) ≡ put_in (first ++ second) buffer
put_after first second buffer fit fits_too =
    let within : length second ≤ length (drop (length first) buffer) =
    omega (arith, length-drop (length first) buffer) in
    let both : length (first ++ second) ≤ length buffer =
    omega (arith, length-append first second) in
    ap (λ rest. first ++ rest) (fits second (drop (length first) buffer) within)
    ∙ ap (λ rest. first ++ (second ++ rest)) (drop-drop (length second) (length first) buffer)
    ∙ sym (append_assoc first second (drop (length first + length second) buffer))
    ∙ ap (λ n. (first ++ second) ++ drop n buffer) (sym (length-append first second))
    ∙ sym (fits (first ++ second) buffer both)
