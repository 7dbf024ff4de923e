-- The ladder of a file that was read and whose rounds were run.
use Rattle.std.proofs.Common.{◌≡◌, ◌≢◌, ℕ, ◌≤◌, ◌^◌, List, ◌++◌, length, map, refl, ap, sym, ◌∙◌, subst, Result, Ok, Err, IfErr}
use Rattle.std.specs.Prelude.{Option, None, Some, IfSome, OnErr}
use Rattle.std.specs.Io.KnownBytes.{Appends}
use Rattle.std.specs.Global.{Vec}
use Rattle.sip_files.specs.EventFile.{SpellsFile}
use Rattle.sip_files.specs.declared.version.FileKind.{FileKind}
use Rattle.sip_files.specs.declared.file_replay.ReplayFault.{ReplayFault}
use Rattle.sip_files.specs.declared.file_replay.ReplayFault.TheVariants as replay_fault
use Rattle.sip_round.specs.Answers.{answers, refused}
use Rattle.sip_round.specs.declared.config.Config.{Config}
use Rattle.sip_round.specs.declared.output.Output.{Output}
use Rattle.sip_round.specs.declared.round.Round.{Round}
use Rattle.sip_ladder.specs.Drawing.{Draws, DrawsFile, DrawsFront}

pub draws_file : (kind : FileKind) (input : List ℕ) (config : Config) (rounds slice : List Round)
    (made : List (Vec Output)) (text : List ℕ) → slice ≡ rounds
    → SpellsFile kind config rounds input → length input ≤ 2 ^ 26 → refused config slice ≡ None
    → map (λ outputs. outputs.items) made ≡ answers config slice
    → Draws config.local slice (map (λ outputs. outputs.items) made) text
    → DrawsFile kind input text
draws_file kind input config rounds slice made text same spelled size unrefused given drawn =
    record {
      config = config;
      rounds = rounds;
      spelled = spelled;
      size = size;
      unrefused = ap (refused config) (sym same) ∙ unrefused;
      drawn =
          let P : List Round → Type 0 = λ rs. Draws config.local rs (answers config rs) text in
          let Q : List (List Output) → Type 0 = λ os. Draws config.local slice os text in
          subst P same (subst Q given drawn);
    }

-- the front of a ladder of what was read
pub draws_front : (kind : FileKind) (input : Option (List ℕ)) (text picture : List ℕ)
    (before after : Option (List ℕ)) → IfSome input (λ i. text ≡ i)
    → DrawsFile kind text picture
    → ((front rest : List ℕ) × (picture ≡ front ++ rest) × Appends before after front)
    → IfSome input (DrawsFront kind before after)
draws_front kind None text picture before after is drawn written = tt
draws_front kind (Some input) text picture before after is drawn written = (
  written.0,
  written.1,
  subst (λ i. DrawsFile kind i (written.0 ++ written.1)) is
      (subst (DrawsFile kind text) written.2 drawn),
  written.3,
)

-- what a result promises if it is a fault, once it is one
pub of_fault : {T E X : Type 0} (result : Result T E) (fault : E) → result ≡ Err fault
    → OnErr result X → X
of_fault {X = X} result fault is holds = subst (λ r. OnErr r X) is holds

-- a writer that nobody used is as it was
pub untouched : {T W : Type 0} (result : Result T ReplayFault) (writer : W)
    → IfErr result (λ fault. fault ≢ replay_fault.Output → writer ≡ writer)
untouched (Ok value) writer = tt
untouched (Err fault) writer = λ _. refl
