-- `bad_extension_response` makes the 420 that names the unknown options.
use Rattle.std.proofs.Common.{ℕ, List, filter, ap, ◌∙◌}
use Rattle.sip_served.specs.Arrival.{unsupported, with_header}
use Rattle.sip_held_dialogs.specs.Requests.{is_unknown_option}
use Rattle.sip_served.proofs.outputs.bad_extension_response.Goals as goal

pub returns : goal.returns
returns c =
    let header =
    c.in_ok-header.ensures ∙ ap (λ (options : List (List ℕ)). unsupported
    (filter is_unknown_option options))
    (c.as_slice.ensures ∙ ap (λ request. request.require) c.get.ensures) in
    c.in_ok-add_header.ensures ∙ (λ i. with_header (header i) (c.in_ok-response.ensures i))
