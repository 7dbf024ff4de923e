-- The loop of `unknown_options`: the unknown ones among the options so far are joined.
use Rattle.std.proofs.Common.{take, filter}
use Rattle.sip_held_dialogs.specs.Requests.{is_unknown_option}
use Rattle.sip_served.proofs.Joined.{SoFar}
use Rattle.sip_served.proofs.unsupported.unknown_options.Given as goal

abbrev pub invariant-loop-option : goal.invariant-loop-option
invariant-loop-option l = SoFar l.text (filter is_unknown_option (take l.option-index l.options))
