-- What happens to a held request of the peer, and how each happening changes the held record (RFC
-- 3261, sections 12.1.1, 13.3.1.4 and 17.2.2; RFC 3262, section 3). Moments are in ms.
use Rattle.std.specs.Prelude.{ℕ, ◌+◌, ◌*◌, min, ◌&&◌, nat_lt, List, [], ◌∷◌, ◌++◌, length, fold, None, Some, if◌then◌else◌}
use Rattle.std.specs.Option.{option_map}
use Rattle.sip_message.specs.declared.message.Message.{Message}
use Rattle.sip_reliable.specs.declared.tick.Tick.TheVariants as tick
use Rattle.sip_reliable.specs.Ledger.{acknowledged, closed_now, ticked, with_sent}
use Rattle.sip_timers.specs.declared.estimate.TheConstants.{LIFETIME, T1}
use Rattle.sip_transactions.specs.declared.timers.TheConstants.{T2}
use Rattle.sip_held_dialogs.specs.declared.held_dialog.DialogReference.{DialogReference}
use Rattle.sip_held_dialogs.specs.Requests.{is_invite, is_success}
use Rattle.sip_served.specs.declared.held_request.HeldRequest.{HeldRequest}
use Rattle.sip_served.specs.declared.held_request.Retransmission.{Retransmission}
use Rattle.sip_served.specs.declared.held_request.Success.{Success}
use Rattle.sip_served.specs.declared.held_request.SuccessEnd.{SuccessEnd}
use Rattle.sip_served.specs.Provisionals.{without_rseq}

-- what happens to a request that is held
pub data RequestHappening : Type 0 where
  -- an answer makes this dialog
  MakesDialog : DialogReference → RequestHappening
  -- a reliable provisional response goes out, with this RSeq, at a moment
  SendsReliably : ℕ → Message → ℕ → RequestHappening
  -- the PRACK of the response of this RSeq comes
  TakesPrack : ℕ → RequestHappening
  -- the responses of these RSeqs are sent again, at a moment
  RepeatsProvisionals : List ℕ → ℕ → RequestHappening
  -- no PRACK came in time, at this moment: the responses that wait aren't sent again
  GivesUpProvisionals : ℕ → RequestHappening
  -- a final response goes out, of this status, at a moment
  Finishes : Message → ℕ → ℕ → RequestHappening
  -- the 2xx to it is sent again, at a moment
  RepeatsSuccess : ℕ → RequestHappening
  -- the 2xx to it isn't sent again
  EndsSuccess : SuccessEnd → RequestHappening

-- A 2xx to an INVITE is sent again after T1. It is given up 64*T1 after it was sent, if its ACK
-- doesn't come.
abbrev pub success_sent : Message → ℕ → Success
success_sent response now =
    record {
      response = response;
      end = now + LIFETIME;
      retransmission = record { due = now + T1; interval = T1 };
      over = None;
    }

-- the next interval is twice the last, up to T2, and counts from this moment
abbrev pub next_retransmission : ℕ → Retransmission → Retransmission
next_retransmission now last =
    record { due = now + min (2 * last.interval) T2; interval = min (2 * last.interval) T2 }

-- The request after something happened to it. No response follows a final one, and 64*T1 after it
-- the request is removed.
abbrev pub request_happened : HeldRequest → RequestHappening → HeldRequest
request_happened held (MakesDialog life) = record held { dialog = Some life }
request_happened held (SendsReliably number response now) = record held {
  ledger = with_sent (nat_lt 0 (length response.body)) now held.ledger;
  provisionals = held.provisionals ++ record { number = number; response = response } ∷ [];
}
request_happened held (TakesPrack number) = record held {
  ledger = acknowledged number held.ledger;
  provisionals = without_rseq number held.provisionals;
}
request_happened held (RepeatsProvisionals numbers now) =
    record held { ledger = ticked (tick.Again record { items = numbers }) held.ledger now }
request_happened held (GivesUpProvisionals now) =
    record held { ledger = ticked tick.GivenUp held.ledger now }
request_happened held (Finishes response status now) = record held {
  ledger = closed_now held.ledger;
  success =
      if is_invite held.request && is_success status then Some (success_sent response now)
      else held.success;
  removal = Some (now + LIFETIME);
}
request_happened held (RepeatsSuccess now) = record held {
  success = option_map (λ (success : Success). record success {
    retransmission = next_retransmission now success.retransmission;
  }) held.success;
}
request_happened held (EndsSuccess end) = record held {
  success = option_map (λ (success : Success). record success { over = Some end }) held.success;
}

-- the request after all of this, in order
abbrev pub went_on : List RequestHappening → HeldRequest → HeldRequest
went_on life held = fold request_happened held life
