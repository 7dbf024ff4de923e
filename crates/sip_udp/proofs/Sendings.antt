-- One send after another.
use Rattle.std.proofs.Common.{◌≡◌, ℕ, ◌+◌, ◌≤◌, Bool, true, false, List, [], ◌∷◌, ◌++◌, length, map, refl, sym, ap, ◌∙◌, append-nil, append_assoc, suc, length-append, subst, arith}
use Rattle.std.specs.Prelude.{Option, Some, None}
use Rattle.std.specs.List.{flat_map}
use Rattle.std.proofs.lemmas.Grind.{flat_map-append}
use Rattle.std.proofs.lemmas.List.{map-append}
use Rattle.sip_message.specs.declared.key.Key.{Key}
use Rattle.sip_round.specs.declared.output.Output.{Output}
use Rattle.sip_round.specs.declared.output.Output.TheVariants as output
use Rattle.sip_round.specs.declared.output.PlacedOutput.{PlacedOutput}
use Rattle.sip_round.specs.declared.round.Event.{Event}
use Rattle.sip_udp.proofs.Adding.{adds_more, adds_nothing}
use Rattle.sip_udp.specs.declared.outlet.Asked.{Asked}
use Rattle.sip_udp.specs.Prepared.{key_of}
use Rattle.sip_udp.specs.Sending.{Asks, SendsAll, calls_for, failure_of, failures_of}

abbrev pub output_of : PlacedOutput → Output
output_of placed = placed.output

-- after some of the outputs: these outputs and their keys are left, and there is room for all of the
-- failures
pub record SoFar (old now : Option (List Asked)) (outputs left : List PlacedOutput)
    (keys : List (Option Key)) (failed : List Event) (capacity : ℕ) : Type 0 where
  pub done : List PlacedOutput
  pub split : outputs ≡ done ++ left
  pub ready : keys ≡ map (λ placed. key_of placed.output) left
  pub sent : SendsAll old now (map output_of done) failed
  pub room : length failed + length left ≤ capacity

pub nothing_sent : (now : Option (List Asked)) → SendsAll now now [] []
nothing_sent now = record { answered = []; each = refl; asked = adds_nothing now; told = refl }

pub one_more : (old now next : Option (List Asked)) (done : List Output) (failed : List Event)
    (output : Output) (is_sent : Bool)
    → SendsAll old now done failed → Asks now next (calls_for (output, is_sent))
    → SendsAll old next (done ++ output ∷ []) (failed ++ failures_of (output, is_sent))
one_more old now next done failed output is_sent s asks =
    let last : List (Output × Bool) = (output, is_sent) ∷ [] in
    record {
      answered = s.answered ++ last;
      each = map-append (λ one. one.0) s.answered last ∙ ap (λ xs. xs ++ output ∷ []) s.each;
      asked = rw (
        flat_map-append calls_for s.answered last,
        append-nil (calls_for (output, is_sent)),
      )
          (adds_more old now next (flat_map calls_for s.answered)
          (calls_for (output, is_sent)) s.asked asks);
      told = ap (λ xs. xs ++ failures_of (output, is_sent)) s.told
          ∙ sym (flat_map-append failures_of s.answered last
          ∙ ap (λ xs. flat_map failures_of s.answered ++ xs)
          (append-nil (failures_of (output, is_sent))));
    }

pub begun : (now : Option (List Asked)) (outputs : List PlacedOutput)
    (keys : List (Option Key)) (failed : List Event) (capacity : ℕ)
    → keys ≡ map (λ placed. key_of placed.output) outputs → failed ≡ []
    → length outputs ≤ capacity
    → SoFar now now outputs outputs keys failed capacity
begun now outputs keys failed capacity ready none room =
    record {
      done = [];
      split = refl;
      ready = ready;
      sent = rw none (nothing_sent now);
      room = let e : length failed ≡ 0 = ap length none in omega arith;
    }

tail_of : {A : Type 0} (x y : A) (xs ys : List A) → x ∷ xs ≡ y ∷ ys → xs ≡ ys
tail_of x y xs ys e = cc

few_of : (key : Option Key) (is_sent : Bool) → length (failure_of key is_sent) ≤ 1
few_of (Some key) true = omega arith
few_of (Some key) false = omega arith
few_of None is_sent = omega arith

-- an output gives at most one failure
few : (output : Output) (is_sent : Bool) → length (failures_of (output, is_sent)) ≤ 1
few (output.Send key to bytes) is_sent = few_of key is_sent
few (output.Dropped place reason) is_sent = omega arith
few (output.Notice notice) is_sent = omega arith

-- the first of what is left was sent
pub goes_on : (old now next : Option (List Asked)) (outputs left rest : List PlacedOutput)
    (keys more : List (Option Key)) (failed after : List Event) (capacity : ℕ)
    (placed : PlacedOutput) (key : Option Key) (is_sent : Bool)
    → SoFar old now outputs left keys failed capacity → left ≡ placed ∷ rest
    → keys ≡ key ∷ more
    → Asks now next (calls_for (placed.output, is_sent))
    → after ≡ failed ++ failures_of (placed.output, is_sent)
    → SoFar old next outputs rest more after capacity
goes_on old now next outputs left rest keys more failed after capacity placed key is_sent s cut
    first asks told =
    let output : Output = placed.output in
    record {
      done = s.done ++ placed ∷ [];
      split = s.split ∙ ap (λ xs. s.done ++ xs) cut ∙ sym (append_assoc s.done (placed ∷ []) rest);
      ready = tail_of _ _ _ _
          (sym first ∙ s.ready ∙ ap (map (λ placed. key_of placed.output)) cut);
      sent = rw (told, map-append output_of s.done (placed ∷ []))
          (one_more old now next (map output_of s.done) failed output is_sent s.sent asks);
      room =
          let r = s.room in let l =
          few output is_sent in let d : length left ≡ suc (length rest) = ap length cut in
          let e : length after ≡ length failed + length (failures_of (output, is_sent)) =
          ap length told ∙ length-append failed (failures_of (output, is_sent)) in omega arith;
    }

pub all_sent : (old now : Option (List Asked)) (outputs left : List PlacedOutput)
    (keys : List (Option Key)) (failed : List Event) (capacity : ℕ)
    → SoFar old now outputs left keys failed capacity → left ≡ []
    → SendsAll old now (map output_of outputs) failed
all_sent old now outputs left keys failed capacity s none =
    rw (s.split ∙ ap (λ xs. s.done ++ xs) none ∙ append-nil s.done) s.sent
