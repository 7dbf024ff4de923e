-- What is true of each notice that a call says is true of each that its user is given.
use Rattle.std.proofs.Common.{List, [], ◌∷◌, sym, subst}
use Rattle.std.specs.Prelude.{Contains, None}
use Rattle.std.specs.List.{AllByRecursion, flat_map}
use Rattle.std.proofs.lemmas.Cmp.{nat_list_cmp_total}
use Rattle.keyed_machine.specs.Laws.{EachKeyAlone}
use Rattle.keyed_machine.specs.Machine.{outputs_from, tick_at}
use Rattle.keyed_machine.proofs.Ordered.{is_at_itself}
use Rattle.sip_user.specs.OwnCall.{call_of_notice}
use Rattle.sip_user.specs.declared.item.CallOut.{CallOut}
use Rattle.sip_user.specs.declared.item.CallOut.TheVariants as call_out
use Rattle.sip_user.specs.declared.notice.Notice.{Notice}
use Rattle.sip_calls.specs.Call.{call_machine}
use Rattle.sip_calls.specs.CallShard.{call_cmp}
use Rattle.sip_round.specs.declared.config.Config.{Config}
use Rattle.sip_round.specs.declared.output.Output.{Output}
use Rattle.sip_round.specs.declared.output.Output.TheVariants as output
use Rattle.sip_round.specs.declared.round.Round.{Round}
use Rattle.sip_round.specs.Answers.{answers, calls_of, past_of}
use Rattle.sip_round.specs.Given.{all_given, is_notice_of, notice_in}
use Rattle.sip_round.specs.Laws.{call_inputs_of, said_of_call}
use Rattle.sip_round.proofs.GivenNotices.{notices_given}
use Rattle.sip_round.proofs.Said.{call_alone}
use Rattle.sip_conversation.proofs.Among.{among_kept, each_of}

module _ (NoticeTells : Notice → Type 0) where
  -- an output that is a notice is such a one
  abbrev pub OutTells : CallOut → Type 0
  OutTells (call_out.Notice told) = NoticeTells told
  OutTells (call_out.Command id command) = Unit {0}
  OutTells (call_out.Direct to bytes) = Unit {0}

  abbrev OutputTells : Output → Type 0
  OutputTells (output.Send key to bytes) = Unit {0}
  OutputTells (output.Dropped place why) = Unit {0}
  OutputTells (output.Notice told) = NoticeTells told

  notices_tell : (outs : List CallOut) → AllByRecursion OutTells outs
      → AllByRecursion OutputTells (flat_map notice_in outs)
  notices_tell [] tells = tt
  notices_tell (call_out.Notice told ∷ outs) tells = (tells.0, notices_tell outs tells.1)
  notices_tell (call_out.Command id command ∷ outs) tells = notices_tell outs tells.1
  notices_tell (call_out.Direct to bytes ∷ outs) tells = notices_tell outs tells.1

  pub notice_given : (config : Config) (rounds : List Round)
      → EachKeyAlone call_cmp (call_machine (calls_of config)) tick_at → (told : Notice)
      → AllByRecursion OutTells (outputs_from (call_machine (calls_of config))
      (call_of_notice told) None (call_inputs_of config rounds (call_of_notice told)))
      → Contains (all_given (answers config rounds)) (output.Notice told)
      → NoticeTells told
  notice_given config rounds alone told tells among =
      let call_id = call_of_notice told in
      let given : Output = output.Notice told in
      each_of OutputTells (flat_map notice_in (said_of_call config rounds call_id)) given
      (notices_tell (said_of_call config rounds call_id)
      (subst (AllByRecursion OutTells)
      (sym (call_alone (calls_of config) alone [] (past_of config rounds).calls call_id)) tells))
      (subst (λ outs. Contains outs given) (notices_given config rounds call_id)
      (among_kept (is_notice_of call_id) (all_given (answers config rounds)) given among
      (is_at_itself nat_list_cmp_total call_id)))
