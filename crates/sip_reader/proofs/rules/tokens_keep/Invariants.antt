-- The loop of `tokens_keep`: the tokens so far are tokens.
use Rattle.std.proofs.Common.{take}
use Rattle.std.specs.Prelude.{IsTrue}
use Rattle.std.specs.List.{AllByRecursion}
use Rattle.sip_text.specs.Token.{is_token}
use Rattle.sip_reader.proofs.rules.tokens_keep.Given as goal

abbrev pub invariant-loop-token : goal.invariant-loop-token
invariant-loop-token l =
    AllByRecursion (λ token. IsTrue (is_token token)) (take l.token-index l.tokens)
