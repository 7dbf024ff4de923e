-- A row that begins no life and sends nothing only hands up or drops what came.
use Rattle.std.proofs.Common.{◌≡◌, ℕ, List, refl, ap}
use Rattle.std.specs.Prelude.{Option, None, Some, option_map, option_to_list}
use Rattle.std.proofs.lemmas.List.{append-nil}
use Rattle.sip_message.specs.declared.addr.Addr.{Addr}
use Rattle.sip_message.specs.declared.key.Key.{Key}
use Rattle.sip_message.specs.declared.message.Message.{Message}
use Rattle.sip_transactions.specs.declared.life.Context.{Context}
use Rattle.sip_transactions.specs.declared.step.Step.{Step}
use Rattle.sip_transactions.specs.declared.step.Next.TheVariants as next
use Rattle.sip_transactions.specs.declared.step.Sent.TheVariants as send
use Rattle.sip_transactions.specs.Steps.Life.{life_after, life_in, entered, armed, last_of}
use Rattle.sip_transactions.specs.Steps.Output.{made_bytes, made_of, outputs_of, handed_out}

pub passed_next : (context : Context) (step : Step) (now : ℕ) (made : Option (List ℕ))
    → step.next ≡ next.Ended → life_after None context step now made ≡ None
unfolding life_after
passed_next context step now made ended =
    ap (λ n. option_map (life_in (armed step.due now (last_of made context))) (entered n None))
    ended

none_made : (request : Option Message) (message : Message)
    → made_bytes request send.Nothing (Some message) ≡ None
unfolding made_of
none_made request message = refl

pub passed_adds : (key : Key) (context : Context) (step : Step) (message : Message)
    (reply_to : Addr)
    → step.sent ≡ send.Nothing
    → outputs_of key context step (made_bytes None step.sent (Some message))
    (Some (message, reply_to))
    ≡ option_to_list (handed_out key context step.handed (Some (message, reply_to)))
unfolding outputs_of
passed_adds key context step message reply_to silent =
    rw (silent, none_made None message)
    (append-nil (option_to_list (handed_out key context step.handed (Some (message, reply_to)))))
