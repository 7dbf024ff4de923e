-- What is written for a message that keeps the rules arrives as that message; a request has the
-- stamp of its source.
use Rattle.std.proofs.Common.{◌≡◌, ◌⊎◌, inl, inr, ℕ, Bool, true, false, List, length, sym, ap, ◌∙◌, subst, ◌<◌, ◌≤◌}
use Rattle.std.specs.Prelude.{nat_lt, Result, Ok, Err, Some, None, if◌then◌else◌}
use Rattle.std.proofs.lemmas.Bool.{ltb-false, ltb-true}
use Rattle.sip_message.specs.declared.addr.Addr.{Addr}
use Rattle.sip_message.specs.declared.fault.ReadFault.{ReadFault}
use Rattle.sip_message.specs.declared.fault.ReadFault.TheVariants as fault
use Rattle.sip_message.specs.declared.id.Id.{Id}
use Rattle.sip_message.specs.declared.key.Key.{Key}
use Rattle.sip_message.specs.declared.message.Message.{Message}
use Rattle.sip_message.specs.Message.{is_request_message}
use Rattle.sip_message.specs.MessageKey.{key_of_message}
use Rattle.sip_message.specs.Rules.{IsMessage}
use Rattle.sip_message.specs.Source.{answer_address, stamped}
use Rattle.sip_message.specs.Written.{written}
use Rattle.keyed_machine.proofs.Ordered.{by_bool}
use Rattle.sip_reader.specs.ReadMessage.{message_at, message_in}
use Rattle.sip_reader.specs.SkippedEnds.{without_line_ends}
use Rattle.sip_reader.proofs.RoundTrip.{written_spelled}
use Rattle.sip_reader.proofs.Spelled.{spelled_again}
use Rattle.sip_transactions.specs.declared.input.Input.{Input}
use Rattle.sip_transactions.specs.declared.input.Input.TheVariants.{Failed, Receive}
use Rattle.sip_transactions.specs.Shard.{is_stray, keyed_input}
use Rattle.sip_round.specs.declared.config.Config.{Config}
use Rattle.sip_round.specs.declared.round.Event.{Event}
use Rattle.sip_round.specs.declared.round.Event.TheVariants.{Datagram}
use Rattle.sip_round.specs.declared.round.Event.TheVariants as event
use Rattle.sip_round.specs.Arrivals.{arrival_for, arrival_of, datagram_arrival, message_arrival}
use Rattle.sip_conversation.specs.Messages.{come_from}
use Rattle.sip_conversation.proofs.Rounds.{ArrivalFits}

-- a text that isn't too long is read as its message
read_again : (message : Message) → IsMessage message → length (written message) ≤ 65535
    → message_at (written message) ≡ Ok message
read_again message rules short =
    spelled_again (written message) message (written_spelled message rules short)

what_comes : (message : Message) → IsMessage message
    → ((message_at (written message) ≡ Ok message) × (length (written message) ≤ 65535))
    ⊎ (message_at (written message) ≡ Err fault.TooLong)
what_comes message rules =
    let text = written message in
    let read : Bool → Result Message ReadFault =
    λ long. if long then Err fault.TooLong else message_in (without_line_ends text) in
    by_bool (nat_lt 65535 (length text))
    (λ long. inr (ap read long))
    (λ short. let fits = ltb-false 65535 (length text) short in
    inl (read_again message rules fits, fits))

-- a text that isn't too long is that of one message
pub same_text : (one other : Message) → IsMessage one → IsMessage other
    → length (written one) ≤ 65535 → written one ≡ written other → one ≡ other
same_text one other rules also short same =
    same_ok (message_at (written one)) one other (read_again one rules short)
    (ap message_at same
    ∙ read_again other also (subst (λ text. length text ≤ 65535) same short))
  where
    same_ok : (read : Result Message ReadFault) (one other : Message) → read ≡ Ok one
        → read ≡ Ok other → one ≡ other
    same_ok read one other is also = cc

pub read_or_long : (message : Message) → IsMessage message
    → (message_at (written message) ≡ Ok message) ⊎ (65535 < length (written message))
read_or_long message rules =
    let text = written message in
    by_bool (nat_lt 65535 (length text))
    (λ long. inr (ltb-true 65535 (length text) long))
    (λ short. inl (read_again message rules (ltb-false 65535 (length text) short)))

-- the address to which the answer to what came from an address goes
abbrev pub answered_to : Addr → Message → Addr
answered_to from message =
    if is_request_message message then answer_address message from else from

module _ (config : Config) (Fits : Key → Input → Type 0) (id : Id) (from : Addr) where
  abbrev ReceiptFits : Message → Addr → Type 0
  ReceiptFits message reply_to = Fits (key_of_message message) (Receive id message reply_to)

  stray_or_not : (stray : Bool) (message : Message) (reply_to : Addr)
      → ReceiptFits message reply_to
      → ArrivalFits config Fits (arrival_for (if stray then None
      else Some (key_of_message message, Receive id message reply_to)))
  stray_or_not true message reply_to fits = tt
  stray_or_not false message reply_to fits = fits

  -- whatever is received for a message fits
  by_request : (request : Bool) (message : Message)
      → ReceiptFits (if request then stamped message from else message)
      (if request then answer_address message from else from)
      → ArrivalFits config Fits (if request
      then arrival_for (keyed_input config.local id (stamped message from)
      (answer_address message from))
      else arrival_for (keyed_input config.local id message from))
  by_request true message fits =
      stray_or_not (is_stray config.local (stamped message from)) (stamped message from)
      (answer_address message from) fits
  by_request false message fits =
      stray_or_not (is_stray config.local message) message from fits

  long_or_read : (message : Message) (read : Result Message ReadFault)
      → (length (written message) ≤ 65535
      → ReceiptFits (come_from from message) (answered_to from message))
      → ((read ≡ Ok message) × (length (written message) ≤ 65535)) ⊎ (read ≡ Err fault.TooLong)
      → ArrivalFits config Fits (datagram_arrival config.local id from read)
  unfolding message_arrival
  long_or_read message read fits (inl is) =
      subst (λ r. ArrivalFits config Fits (datagram_arrival config.local id from r)) (sym is.0)
      (by_request (is_request_message message) message (fits is.1))
  long_or_read message read fits (inr long) =
      subst (λ r. ArrivalFits config Fits (datagram_arrival config.local id from r)) (sym long) tt

  -- what arrives with the text of a message that keeps the rules fits, if the message as it comes
  -- from there does; a text that is too long is dropped
  pub text_fits : (message : Message) (bytes : List ℕ) → bytes ≡ written message
      → IsMessage message
      → (length (written message) ≤ 65535
      → ReceiptFits (come_from from message) (answered_to from message))
      → ArrivalFits config Fits (arrival_of config.local id (Datagram from bytes))
  unfolding arrival_of
  text_fits message bytes is rules fits =
      subst (λ text. ArrivalFits config Fits
      (datagram_arrival config.local id from (message_at text))) (sym is)
      (long_or_read message (message_at (written message)) fits (what_comes message rules))

-- what is true of all that may be received, and of each failed send, is true of what arrives
pub any_arrival : (config : Config) (Fits : Key → Input → Type 0)
    → ((id : Id) (message : Message) (reply_to : Addr)
    → Fits (key_of_message message) (Receive id message reply_to))
    → ((key : Key) (id : Id) → Fits key (Failed id)) → (id : Id) (e : Event)
    → ArrivalFits config Fits (arrival_of config.local id e)
unfolding arrival_of message_arrival
any_arrival config Fits receipts failures id (event.Datagram from bytes) =
    by_read (message_at bytes)
  where
    by_read : (read : Result Message ReadFault)
        → ArrivalFits config Fits (datagram_arrival config.local id from read)
    by_read (Ok message) =
        by_request config Fits id from (is_request_message message) message
        (receipts id (come_from from message) (answered_to from message))
    by_read (Err fault) = tt
any_arrival config Fits receipts failures id (event.Failed key) = failures key id
any_arrival config Fits receipts failures id (event.Command command) = tt
