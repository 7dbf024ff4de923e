-- One line after another.
use Rattle.std.proofs.Common.{◌≡◌, ℕ, List, [], ◌∷◌, ◌++◌, refl, sym, ap, ◌∙◌, append-nil, append_assoc}
use Rattle.std.specs.Prelude.{Option, Some, None}
use Rattle.std.specs.List.{flat_map}
use Rattle.std.specs.Io.KnownBytes.{Appends}
use Rattle.std.proofs.lemmas.List.{flat_map_more}
use Rattle.sip_round.specs.declared.output.PlacedOutput.{PlacedOutput}
use Rattle.sip_round.specs.declared.round.Event.{Event}
use Rattle.sip_files.specs.declared.version.FileKind.{FileKind}
use Rattle.sip_files.proofs.HeadedLines.{zip_push}
use Rattle.sip_udp.specs.Telling.{Tells, TellsAll}

nothing_more : (now : Option (List ℕ)) → Appends now now []
nothing_more None = tt
nothing_more (Some xs) = sym (append-nil xs)

appended_more : (a b c : Option (List ℕ)) (xs ys : List ℕ) → Appends a b xs → Appends b c ys
    → Appends a c (xs ++ ys)
appended_more None b c xs ys p q = tt
appended_more (Some before) None c xs ys p q = absurd p
appended_more (Some before) (Some now) None xs ys p q = absurd q
appended_more (Some before) (Some now) (Some next) xs ys p q =
    q ∙ ap (λ t. t ++ ys) p ∙ append_assoc before xs ys

-- the lines told for outputs so far, and what the writer has of them
abbrev pub ToldSoFar : FileKind → Option ℕ → List Event → Option (List ℕ) → Option (List ℕ)
    → List PlacedOutput → Type 0
ToldSoFar kind drops events before now outputs =
    (text : List ℕ) × TellsAll kind drops events outputs text × Appends before now text

pub none_told : (kind : FileKind) (drops : Option ℕ) (events : List Event) (now : Option (List ℕ))
    → ToldSoFar kind drops events now now []
none_told kind drops events now =
    ([], record { texts = []; each = tt; joined = refl }, nothing_more now)

pub output_told : (kind : FileKind) (drops : Option ℕ) (events : List Event)
    (before now next : Option (List ℕ)) (outputs more : List PlacedOutput) (placed : PlacedOutput)
    (text : List ℕ) → more ≡ outputs ++ placed ∷ []
    → ToldSoFar kind drops events before now outputs
    → Tells kind drops events placed text → Appends now next text
    → ToldSoFar kind drops events before next more
output_told kind drops events before now next outputs more placed text m (told, all, has) one is =
    let each = zip_push (Tells kind drops events) outputs all.texts placed text all.each one in
    let joined = ap (λ t. t ++ text) all.joined ∙ flat_map_more (λ one. one) [] all.texts text in (
      told ++ text,
      record {
        texts = all.texts ++ text ∷ [];
        each = rw m each;
        joined = joined;
      },
      appended_more before now next told text has is,
    )
