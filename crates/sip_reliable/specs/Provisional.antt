-- One reliable provisional response that was sent: when it is sent again, and when it is given up
-- (RFC 3262, section 3). Moments are in milliseconds.
use Rattle.std.specs.Prelude.{ℕ, ◌+◌, ◌*◌, ◌^◌, nat_le, Bool, false, ◌&&◌, if◌then◌else◌, List, count_by, fold, Option, None, Some, min}
use Rattle.std.specs.List.{list_any}
use Rattle.std.specs.Option.{is_none, is_some, option_map, option_map_or}
use Rattle.sip_timers.specs.declared.estimate.TheConstants.{LIFETIME, T1}
use Rattle.sip_reliable.specs.declared.provisional.Retransmission.{Retransmission}
use Rattle.sip_reliable.specs.Happening.{Happening, Sends, Repeats, GivesUp, Acknowledges, Closes, is_among, is_giving_up, is_repeat_of}

-- Its RSeq, whether it has a body, when it was sent, and, until it is given up, when it is `due` to
-- be sent again and how often it was (`repeats`).
pub record Provisional : Type 0 where
  pub number : ℕ
  pub has_body : Bool
  pub sent : ℕ
  pub retransmission : Option Retransmission

-- the interval before a response is sent again, by how often it was: T1, 2*T1, 4*T1 .., uncapped
abbrev pub interval_after : ℕ → ℕ
interval_after repeats = T1 * 2 ^ repeats

-- ---- what is due at a moment

-- whether it isn't sent any more
abbrev pub is_given_up : Provisional → Bool
is_given_up p = is_none p.retransmission

-- the moment at which it is given up
abbrev pub end_of : Provisional → ℕ
end_of p = p.sent + LIFETIME

-- 64*T1 went by since it was sent, and it wasn't given up
abbrev pub is_late : ℕ → Provisional → Bool
is_late now p = is_some p.retransmission && nat_le (end_of p) now

-- whether it is to be sent again
abbrev pub is_repeated : ℕ → Provisional → Bool
is_repeated now p = option_map_or (λ r. nat_le r.due now) p.retransmission false

-- ---- what a tick changes in it

-- from now on it isn't sent any more
abbrev pub given_up : Provisional → Provisional
given_up p = record p { retransmission = None }

-- sent again; the next interval begins at this moment
abbrev pub sent_again : ℕ → Provisional → Provisional
sent_again now p = record p {
  retransmission = option_map
      (λ r. record { due = now + interval_after (r.repeats + 1); repeats = r.repeats + 1 })
      p.retransmission;
}

-- sent again if it is due
abbrev pub after_repeat : ℕ → Provisional → Provisional
after_repeat now p = if is_repeated now p then sent_again now p else p

-- ---- for steps and laws: `run` needs none of what follows

-- the next moment at which it is sent again or given up
abbrev pub due_moment : Provisional → Option ℕ
due_moment p = option_map (λ r. min r.due (end_of p)) p.retransmission

-- ---- read from what happened after it was sent, for the law over a whole life

-- the moment of the last time that the response was sent
abbrev pub last_moment : ℕ → ℕ → Happening → ℕ
last_moment wanted last (Sends number has_body now) = last
last_moment wanted last (Repeats numbers now) = if is_among numbers wanted then now else last
last_moment wanted last GivesUp = last
last_moment wanted last (Acknowledges number) = last
last_moment wanted last Closes = last

-- when it is sent again, after what happened later; never after it was given up
abbrev pub retransmission_after : ℕ → ℕ → List Happening → Option Retransmission
retransmission_after number sent later =
    let repeats = count_by (is_repeat_of number) later in
    if list_any is_giving_up later then None
    else Some record {
      due = fold (last_moment number) sent later + interval_after repeats;
      repeats = repeats;
    }

-- a response that was sent at a moment, after all that happened later
abbrev pub sent_before : ℕ → Bool → ℕ → List Happening → Provisional
sent_before number has_body sent later =
    record {
      number = number;
      has_body = has_body;
      sent = sent;
      retransmission = retransmission_after number sent later;
    }
