-- An ACK that no transaction waits for comes up.
use Rattle.std.proofs.Common.{◌≡◌, ℕ, Bool, true, false, cond, List, [], ◌∷◌, refl, sym, ap, ◌∙◌, codes}
use Rattle.std.specs.Prelude.{Option, None, Some, filter_map}
use Rattle.std.proofs.lemmas.Bool.{false≢true}
use Rattle.sip_message.specs.declared.addr.Addr.{Addr}
use Rattle.sip_message.specs.declared.id.Id.{Id}
use Rattle.sip_message.specs.declared.key.Key.{Key}
use Rattle.sip_message.specs.declared.message.Message.{Message}
use Rattle.sip_message.specs.declared.start_line.StartLine.{StartLine}
use Rattle.sip_message.specs.declared.start_line.StartLine.TheVariants as start
use Rattle.keyed_machine.specs.Machine.{state_from}
use Rattle.sip_transactions.specs.declared.input.Input.TheVariants.{Receive}
use Rattle.sip_transactions.specs.declared.life.Context.{Context}
use Rattle.sip_transactions.specs.declared.life.Life.{Life}
use Rattle.sip_transactions.specs.declared.output.Out.{Out}
use Rattle.sip_transactions.specs.declared.output.UpKind.{UpKind}
use Rattle.sip_transactions.specs.declared.output.UpKind.TheVariants as kind
use Rattle.sip_transactions.specs.declared.state.Role.TheVariants.{InviteServer}
use Rattle.sip_transactions.specs.declared.state.State.{State}
use Rattle.sip_transactions.specs.declared.state.State.TheVariants.{Accepted}
use Rattle.sip_transactions.specs.declared.trigger.Trigger.{Trigger}
use Rattle.sip_transactions.specs.declared.trigger.Trigger.TheVariants as on
use Rattle.sip_transactions.specs.Steps.Input.{arrival_of, is_same_method, role_of}
use Rattle.sip_transactions.specs.Steps.Life.{begun, life_after, state_of, step_machine}
use Rattle.sip_transactions.specs.Steps.Output.{handed_out, kind_of, made_of, outputs_of}
use Rattle.sip_transactions.proofs.RowFacts.{by_test}
use Rattle.sip_agent_laws.specs.Transactions.Acks.{AcksComeUp, kind_up, lets_acks_by}
use Rattle.sip_agent_laws.proofs.transactions.OftenSent.{by_role, to_role}

abbrev is_ack : Trigger → Bool
is_ack on.Ack = true
is_ack trigger = false

-- an ACK is handed up as one
ack_kind : (ack : Message) (reply_to : Addr) (line : StartLine)
    → is_ack (arrival_of line ack.cseq.method) ≡ true → kind_of line ack reply_to ≡ kind.Ack ack
ack_kind ack reply_to (start.Response status reason) is = absurd (false≢true is)
ack_kind ack reply_to (start.Request uri) is =
    by_test (is_same_method ack.cseq.method (codes "ACK"))
    (λ hit. ap (λ b. cond b (kind.Ack ack) (kind.Request ack reply_to)) hit)
    (λ miss. absurd (false≢true (sym (ap (λ b. is_ack (cond b on.Ack on.Request)) miss) ∙ is)))

module _ (key : Key) (own : role_of key ≡ InviteServer) (id : Id) (ack : Message) (reply_to : Addr)
    (now : ℕ) where
  abbrev by : Option Life → List UpKind
  by held =
      filter_map kind_up (by_role InviteServer key held now (Some (Receive id ack reply_to))
      (Some on.Ack)).1

  at_none : by None ≡ kind_of ack.start ack reply_to ∷ []
  unfolding begun life_after outputs_of made_of handed_out
  at_none = refl

  at_accepted : (context : Context)
      → by (Some record { state = Accepted; context = context })
      ≡ kind_of ack.start ack reply_to ∷ []
  unfolding life_after outputs_of made_of handed_out
  at_accepted context = refl

  by_held : (held : Option Life) → lets_acks_by (state_of held) ≡ true
      → by held ≡ kind_of ack.start ack reply_to ∷ []
  by_held None lets = at_none
  by_held (Some life) lets = by_state life.state lets
    where
      by_state : (state : State) → lets_acks_by (Some state) ≡ true
          → by (Some record { state = state; context = life.context })
          ≡ kind_of ack.start ack reply_to ∷ []
      by_state Accepted lets = at_accepted life.context
      by_state state lets = absurd (false≢true lets)

pub acks_come_up : AcksComeUp step_machine
acks_come_up key inputs own lets id ack reply_to now is =
    let held = state_from step_machine key None inputs in
    ap (λ (after : Option Life × List Out). filter_map kind_up after.1)
    (to_role key InviteServer own held now (Some (Receive id ack reply_to)) refl)
    ∙ ap (λ trigger. filter_map kind_up (by_role InviteServer key held now
    (Some (Receive id ack reply_to)) (Some trigger)).1) is
    ∙ by_held key own id ack reply_to now held lets
    ∙ ap (λ up. up ∷ []) (ack_kind ack reply_to ack.start (ap is_ack is))
