-- The other side said what comes in a turn in the turns before it.
use Rattle.std.proofs.Common.{Bool, List, [], ◌∷◌, ◌++◌, subst}
use Rattle.std.specs.Prelude.{Contains, IfSome, Option, None, Some}
use Rattle.std.proofs.lemmas.List.Elements.{Contains-push}
use Rattle.sip_message.specs.declared.message.Message.{Message}
use Rattle.sip_message.specs.Addr.{IsAddr}
use Rattle.sip_message.specs.Key.{key_cmp}
use Rattle.sip_message.specs.Written.{written}
use Rattle.keyed_machine.specs.Laws.{EachKeyAlone}
use Rattle.keyed_machine.specs.Machine.{tick_at}
use Rattle.sip_transactions.specs.Machine.{transaction_machine}
use Rattle.sip_round.specs.declared.config.Config.{Config}
use Rattle.sip_conversation.specs.Conversation.{Carried, Side, Turn, is_side, peer, rounds_of}
use Rattle.sip_conversation.specs.Datagrams.{DatagramsAreTextsSaid}
use Rattle.sip_conversation.specs.Messages.{CallsHearUnchanged, CallsKeepRules, ComesUnchanged, IsSaid, MessagesComeUnchanged, message_up}
use Rattle.sip_conversation.proofs.Among.{among_kept, mapped_among}
use Rattle.sip_conversation.proofs.Fronts.{carried_to, keeps_to, own_side, peer_rounds, sent_before}
use Rattle.sip_conversation.proofs.Unchanged.{calls_hear, datagrams_said, messages_unchanged}

comes_before : (configs : Side → Config) (before : List Turn) (turn : Turn) (message : Message)
    → ComesUnchanged configs (before ++ turn ∷ []) turn.side message
    → ComesUnchanged configs before turn.side message
comes_before configs before turn message comes = record {
  original = comes.original;
  said = subst (λ rounds. IsSaid (configs (peer turn.side)) rounds comes.original)
      (peer_rounds before turn) comes.said;
  sent = sent_before configs before turn (written comes.original) comes.sent;
  rules = comes.rules;
  short = comes.short;
  same = comes.same;
}

if_before : (configs : Side → Config) (before : List Turn) (turn : Turn) (o : Option Message)
    → IfSome o (ComesUnchanged configs (before ++ turn ∷ []) turn.side)
    → IfSome o (ComesUnchanged configs before turn.side)
if_before configs before turn None comes = tt
if_before configs before turn (Some message) comes =
    comes_before configs before turn message comes

-- the last turn belongs to its own side
last_round : (before : List Turn) (turn : Turn)
    → Contains (rounds_of turn.side (before ++ turn ∷ [])) turn.round
last_round before turn =
    let own : Turn → Bool = λ t. is_side turn.side t.side in
    mapped_among (λ (t : Turn). t.round) _ turn
    (among_kept own (before ++ turn ∷ []) turn (Contains-push before turn) (own_side turn.side))

module _ (alone : EachKeyAlone key_cmp transaction_machine tick_at) (configs : Side → Config)
    (addresses : (s : Side) → IsAddr (configs s).local) (turns : List Turn)
    (carried : Carried configs turns) (keep : CallsKeepRules configs turns) where
  pub messages_before : MessagesComeUnchanged configs turns
  messages_before before after turn same key id message reply_to given =
      comes_before configs before turn message
      (messages_unchanged alone configs addresses (before ++ turn ∷ [])
      (carried_to configs turns before after turn same carried)
      (keeps_to configs turns before after turn same keep) turn.side key id
      message reply_to given)

  pub datagrams_before : DatagramsAreTextsSaid configs turns
  datagrams_before before after turn same from bytes among =
      let text = datagrams_said alone configs addresses (before ++ turn ∷ [])
      (carried_to configs turns before after turn same carried)
      (keeps_to configs turns before after turn same keep) turn.side turn.round
      (last_round before turn) from bytes among in
      record {
        original = text.original;
        said = subst (λ rounds. IsSaid (configs (peer turn.side)) rounds text.original)
            (peer_rounds before turn) text.said;
        text = text.text;
        read = text.read;
      }

  pub calls_before : CallsHearUnchanged configs turns
  calls_before before after turn same call_id up comes =
      if_before configs before turn (message_up up.kind)
      (calls_hear alone configs addresses (before ++ turn ∷ [])
      (carried_to configs turns before after turn same carried)
      (keeps_to configs turns before after turn same keep) turn.side call_id up
      comes)
