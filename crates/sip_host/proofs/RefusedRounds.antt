-- A round that didn't run leaves the host as it was, unless memory ran out in its middle.
use Rattle.std.proofs.Common.{◌≡◌, ◌<◌, ℕ, true, false, length, Option, Some, None, inl, inr, refl, ap}
use Rattle.std.specs.Prelude.{IfSome, Result, Err, ◌⊎◌}
use Rattle.sip_message.specs.declared.cut.Spread.{Spread}
use Rattle.sip_round.specs.AgentState.{AgentState, EndsRound, refusal_of}
use Rattle.sip_round.specs.declared.round_fault.RoundFault.{RoundFault}
use Rattle.sip_round.specs.declared.round_fault.RoundFault.TheVariants as round_fault
use Rattle.sip_host.specs.Hosting.{Answer, RunsRound, round_at}
use Rattle.sip_host.specs.declared.host.Host.{Host}
use Rattle.sip_host.specs.declared.host_fault.HostFault.TheVariants as host_fault

module _ {O : Type 0} (moment : ℕ) (old : Host) (agent : AgentState Spread) (why : RoundFault)
    (ends : EndsRound {O = O} old.agent agent (round_at moment old) (Err why)) where
  abbrev pub new : Host
  new = record old { agent = agent }

  abbrev pub answer : Answer
  answer = Err (host_fault.Round why)

  told : (other : RoundFault) → ◌≡◌ {A = Result O RoundFault} (Err why) (Err other)
      → answer ≡ Err (host_fault.Round other)
  told other same = ap (λ (w : RoundFault). Err (host_fault.Round w)) cc

  was : (other : RoundFault) → answer ≡ Err (host_fault.Round other)
      → ◌≡◌ {A = Result O RoundFault} (Err why) (Err other)
  was other same = ap Err cc

  kept : agent ≡ old.agent → new ≡ old
  kept same = ap (λ (a : AgentState Spread). record old { agent = a }) same

  refused : (found : Option RoundFault)
      → IfSome found (λ fault.
      (◌≡◌ {A = Result O RoundFault} (Err why) (Err fault)) × (agent ≡ old.agent))
      → IfSome found (λ fault. (answer ≡ Err (host_fault.Round fault)) × (new ≡ old))
  refused None said = tt
  refused (Some other) said = (told other said.0, kept said.1)

  either : (◌≡◌ {A = Result O RoundFault} (Err why) (Err (round_fault.NoMemory false)))
      ⊎ (◌≡◌ {A = Result O RoundFault} (Err why) (Err (round_fault.NoMemory true)))
      → (answer ≡ Err (host_fault.Round (round_fault.NoMemory false)))
      ⊎ (answer ≡ Err (host_fault.Round (round_fault.NoMemory true)))
  either (inl same) = inl (told (round_fault.NoMemory false) same)
  either (inr same) = inr (told (round_fault.NoMemory true) same)

  unbroken : (¬ (answer ≡ Err (host_fault.Round (round_fault.NoMemory true))))
      → (◌≡◌ {A = Result O RoundFault} (Err why) (Err (round_fault.NoMemory false)))
      ⊎ (◌≡◌ {A = Result O RoundFault} (Err why) (Err (round_fault.NoMemory true)))
      → new ≡ old
  unbroken whole (inl same) = kept (ends.unbroken same)
  unbroken whole (inr same) = absurd (whole (told (round_fault.NoMemory true) same))

  same_host : (found : Option RoundFault) → refusal_of old.agent (round_at moment old) ≡ found
      → IfSome found (λ fault.
      (◌≡◌ {A = Result O RoundFault} (Err why) (Err fault)) × (agent ≡ old.agent))
      → (¬ (answer ≡ Err (host_fault.Round (round_fault.NoMemory true)))) → new ≡ old
  same_host None is said whole = unbroken whole (ends.memory is)
  same_host (Some other) is said whole = kept said.1

  pub round_refused : (old.taken < length old.outputs.items → ⊥) → RunsRound moment old new answer
  round_refused none_left = record {
    left = λ more. absurd (none_left more);
    refused = λ _. refused (refusal_of old.agent (round_at moment old)) ends.refused;
    memory = λ _ none. either (ends.memory none);
    same = same_host (refusal_of old.agent (round_at moment old)) refl ends.refused;
    broken = λ same. ends.broken (was (round_fault.NoMemory true) same);
    answers = tt;
  }
