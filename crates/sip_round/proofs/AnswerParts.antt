-- A round's answer in its three parts, without places.
use Rattle.std.proofs.Common.{◌≡◌, ℕ, List, [], ◌∷◌, ◌++◌, map, refl, sym, ◌∙◌, ap}
use Rattle.std.specs.List.{flat_map}
use Rattle.std.proofs.lemmas.Grind.{flat_map-append}
use Rattle.std.proofs.lemmas.List.{map-append}
use Rattle.sip_message.specs.declared.id.Id.{Id}
use Rattle.sip_message.specs.declared.key.Key.{Key}
use Rattle.keyed_machine.specs.Phase.{PhaseOutputs}
use Rattle.sip_transactions.specs.declared.output.Out.{Out}
use Rattle.sip_user.specs.declared.item.CallOut.{CallOut}
use Rattle.sip_round.specs.Arrivals.{Arrival}
use Rattle.sip_round.specs.declared.config.Config.{Config}
use Rattle.sip_round.specs.declared.output.Output.{Output}
use Rattle.sip_round.specs.declared.output.PlacedOutput.{PlacedOutput}
use Rattle.sip_round.specs.declared.round.Round.{Round}
use Rattle.sip_round.specs.Answers.{Past, answer, arrivals, calls_of, first, given_second, items_of_round, placed_answer, placed_first, placed_second, placed_third, said_by_calls, said_by_transactions, second, third}
use Rattle.sip_round.specs.Outputs.{all_said, at_place, joined, outs_of, place_of, said_at, sent_of, call_outputs}
use Rattle.sip_round.proofs.ByEvent.{by_groups}
use Rattle.sip_round.proofs.InForm.{map-flat_map, told}

abbrev alone : List PlacedOutput → List Output
alone outputs = map (λ placed. placed.output) outputs

alone_at : (place : ℕ) (outputs : List Output) → alone (at_place place outputs) ≡ outputs
alone_at place [] = refl
alone_at place (o ∷ os) = ap (λ more. o ∷ more) (alone_at place os)

module _ {O : Type 0} (says : O → List Output) where
  all_alone : (place : ℕ) (outs : List O)
      → alone (flat_map (λ out. at_place place (says out)) outs) ≡ flat_map says outs
  all_alone place outs =
      map-flat_map (λ placed. placed.output) (λ out. at_place place (says out)) outs
      ∙ (λ i. flat_map (λ out. alone_at place (says out) i) outs)

  told_alone : {W : Type 0} (place : W → ℕ) (outs : W → List O) (ticks : List O) (ws : List W)
      → alone (told says place outs ticks ws)
      ≡ flat_map says ticks ++ flat_map (λ w. flat_map says (outs w)) ws
  told_alone place outs ticks ws =
      let output = λ (placed : PlacedOutput). placed.output in
      map-append output (flat_map (λ out. at_place 0 (says out)) ticks) _
      ∙ (λ i. all_alone 0 ticks i
      ++ map-flat_map output (λ w. flat_map (λ out. at_place (place w) (says out)) (outs w)) ws i)
      ∙ (λ i. flat_map says ticks ++ flat_map (λ w. all_alone (place w) (outs w) i) ws)

-- what the first phase sends and drops
abbrev pub sent_first : PhaseOutputs Key Out → List (Id × Arrival) → List Output
sent_first told arrivals = flat_map sent_of (joined told.ticks)
    ++ flat_map (λ a. flat_map sent_of (outs_of (said_at told) a.0 a.1)) arrivals

module _ (config : Config) (number : ℕ) (past : Past) (round : Round) where
  abbrev by_calls : PhaseOutputs (List ℕ) CallOut
  by_calls = said_by_calls (calls_of config) past.calls (second config number past round)

  shown_alone : alone (placed_second by_calls (items_of_round config number past round))
      ≡ flat_map call_outputs (given_second config number past round)
  unfolding given_second
  shown_alone =
      told_alone call_outputs
      (λ said. place_of (items_of_round config number past round) (said.0).0) (λ said. said.1)
      (joined by_calls.ticks) by_calls.items
      ∙ ap (λ os. flat_map call_outputs (joined by_calls.ticks) ++ os)
      (by_groups call_outputs by_calls.items)
      ∙ sym (flat_map-append call_outputs (joined by_calls.ticks) (joined by_calls.items))

  pub answer_parts : answer config number past round
      ≡ (sent_first (said_by_transactions past.transactions (first config number past round))
      (arrivals config number past round)
      ++ flat_map call_outputs (given_second config number past round))
      ++ flat_map sent_of (all_said (said_by_transactions
      (past.transactions ++ first config number past round ∷ []) (third config number past round)))
  unfolding answer placed_answer
  answer_parts =
      let output = λ (placed : PlacedOutput). placed.output in
      let told = said_by_transactions past.transactions (first config number past round) in
      let came = arrivals config number past round in
      let sent = placed_first told came in
      let reported = placed_second by_calls (items_of_round config number past round) in
      let last = said_by_transactions (past.transactions ++ first config number past round ∷ [])
      (third config number past round) in
      map-append output (sent ++ reported) (placed_third last)
      ∙ (λ i. map-append output sent reported i ++ all_alone sent_of 0 (all_said last) i)
      ∙ (λ i. (told_alone sent_of (λ (a : Id × Arrival). (a.0).place)
      (λ a. outs_of (said_at told) a.0 a.1) (joined told.ticks) came i ++ shown_alone i)
      ++ flat_map sent_of (all_said last))
