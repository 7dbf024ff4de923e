-- `unknown_options` joins the unknown options, and the text is the value of a header.
use Rattle.std.proofs.Common.{◌≡◌, ℕ, ◌+◌, List, [], ◌∷◌, ◌++◌, cond, subst, sym, ap, ◌∙◌, take, filter}
use Rattle.std.proofs.lemmas.List.{take_all}
use Rattle.std.proofs.lemmas.List.Elements.{filter_more}
use Rattle.sip_held_dialogs.specs.Requests.{is_unknown_option}
use Rattle.sip_served.proofs.Joined.{SoFar, added, begun, joined, with_one_more}
use Rattle.sip_served.proofs.unsupported.unknown_options.Goals as goal

pub from_text-requires : goal.from_text-requires
from_text-requires c = c.loop-option.invariant.rule

pub loop-option-init : goal.loop-option-init
loop-option-init c =
    subst (λ (text : List ℕ). SoFar text [])
    (sym (c.from_vec-text.ensures ∙ c.new.ensures.items)) begun

pub loop-option-preserved : goal.loop-option-preserved
loop-option-preserved c =
    let all = c.args.options.now in
    let i = c.loop-option.option-index in
    let option = c.option-item.result in
    let before : List (List ℕ) = filter is_unknown_option (take i all) in
    let more : before ++ cond (is_unknown_option option) (option ∷ []) []
    ≡ filter is_unknown_option (take (i + 1) all) =
    sym (filter_more is_unknown_option all i option c.loop-option-test.true
    ∙ ap (λ (x : List ℕ). before ++ cond (is_unknown_option x) (x ∷ []) [])
    (sym c.option-item.is)) in
    let next =
    added (is_unknown_option option) c.loop-option.text before option
    c.in_ok-push_unknown.ensures.token c.loop-option.invariant in
    subst (λ (text : List ℕ). SoFar text (filter is_unknown_option (take (i + 1) all)))
    (sym c.in_ok-push_unknown.ensures.text)
    (subst (λ (options : List (List ℕ)). SoFar
    (cond (is_unknown_option option) (with_one_more c.loop-option.text option)
    c.loop-option.text) options) more next)

pub returns : goal.returns
returns c =
    c.from_text.ensures ∙ c.loop-option.invariant.text_is
    ∙ ap (λ (options : List (List ℕ)). joined (filter is_unknown_option options))
    (take_all c.loop-option.option-index c.args.options.now c.loop-option-test.false)
