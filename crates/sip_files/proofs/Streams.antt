-- A replay in the middle of its reading, of joining moments and answers, and of its writing.
use Rattle.std.proofs.Common.{◌≡◌, ℕ, zero, suc, ◌+◌, ◌-◌, ◌<◌, ◌≤◌, ◌^◌, List, [], ◌∷◌, ◌++◌, map, length, take, drop, refl, sym, ap, ◌∙◌, append_assoc, append-nil, take-append-drop, arith, Result, Ok, Err, IfErr, IfSome, subst}
use Rattle.std.proofs.lemmas.List.{take_rest}
use Rattle.std.proofs.KnownBytes.{Appends-trans}
use Rattle.std.specs.Prelude.{Option, Some, None}
use Rattle.std.specs.List.{zip}
use Rattle.std.specs.Io.KnownBytes.{Appends, Consumes}
use Rattle.std.specs.Global.{Vec}
use Rattle.sip_files.specs.EventFile.{SpellsFile, IsFile}
use Rattle.sip_files.specs.declared.version.FileKind.{FileKind}
use Rattle.sip_files.specs.Outputs.{told, outputs_text}
use Rattle.sip_round.specs.declared.config.Config.{Config}
use Rattle.sip_round.specs.declared.output.Output.{Output}
use Rattle.sip_round.specs.declared.round.Round.{Round}
use Rattle.sip_round.specs.Answers.{answers, refused}
use Rattle.sip_files.specs.Counted.{Counts, CountsAtMost, failures_of_write}
use Rattle.sip_files.specs.Replay.{Replays, TellsReplay, answer_file}
use Rattle.sip_files.specs.declared.events_fault.EventsFault.{EventsFault}
use Rattle.sip_files.specs.declared.events_fault.EventsFault.TheVariants as events_fault
use Rattle.sip_files.specs.declared.file_replay.ReplayFault.{ReplayFault}
use Rattle.sip_files.specs.declared.file_replay.ReplayFault.TheVariants as replay_fault
use Rattle.sip_files.proofs.FileFaults.{never_bad}

-- the reader gave this text, in one read for each turn, with at least a byte at each, and not more
-- than an event file may have
pub record ReadSoFar (before now : Option (List ℕ)) (reads_before reads_now : Option ℕ)
    (failures_before failures_now : Option ℕ) (text : List ℕ) (turns : ℕ) : Type 0 where
  pub consumed : Consumes before now text
  pub counted : Counts reads_before reads_now turns
  pub failed : Counts failures_before failures_now 0
  pub progress : turns ≤ length text
  pub within : length text ≤ 2 ^ 26

counts_more : (before now after : Option ℕ) (turns : ℕ) → Counts before now turns
    → Counts now after 1 → Counts before after (turns + 1)
counts_more before now None turns so_far one = tt
counts_more before None (Some after) turns so_far one = elim one [ ]
counts_more None (Some now) (Some after) turns so_far one = elim so_far [ ]
counts_more (Some before) (Some now) (Some after) turns so_far one =
    omega (arith, so_far, one)

pub counts_both : (before now after : Option ℕ) (some more : ℕ) → Counts before now some
    → Counts now after more → Counts before after (some + more)
counts_both before now None some more so_far next = tt
counts_both before None (Some after) some more so_far next = elim next [ ]
counts_both None (Some now) (Some after) some more so_far next = elim so_far [ ]
counts_both (Some before) (Some now) (Some after) some more so_far next =
    omega (arith, so_far, next)

pub counts_none : (now : Option ℕ) → Counts now now 0
counts_none None = tt
counts_none (Some now) = omega arith

-- a write that took something didn't fail
pub took_some : {E : Type 0} (before now : Option ℕ) (result : Result ℕ E) (count : ℕ)
    → result ≡ Ok count → 0 < count → Counts before now (failures_of_write result)
    → Counts before now 0
took_some before now result zero is some counts = absurd (omega arith)
took_some before now result (suc count) is some counts =
    subst (λ r. Counts before now (failures_of_write r)) is counts

-- with one more read
pub counts_within : (before now after : Option ℕ) (turns most : ℕ) → turns < most
    → Counts before now turns → Counts now after 1 → CountsAtMost before after most
counts_within before now after turns most few so_far one =
    (turns + 1, omega arith, counts_more before now after turns so_far one)

-- the writer took the front of these bytes, and this much is left
pub record WrittenSoFar (before now : Option (List ℕ)) (failures_before failures_now : Option ℕ)
    (bytes left : List ℕ) : Type 0 where
  pub failed : Counts failures_before failures_now 0
  pub front : List ℕ
  pub split : bytes ≡ front ++ left
  pub appended : Appends before now front

-- a write takes the front of what is left
pub written_more : (before now next : Option (List ℕ)) (failures now_failed next_failed : Option ℕ)
    (bytes left : List ℕ) (count : ℕ)
    → WrittenSoFar before now failures now_failed bytes left → Appends now next (take count left)
    → Counts now_failed next_failed 0
    → WrittenSoFar before next failures next_failed bytes
    (take (length left - count) (drop count left))
written_more before now next failures now_failed next_failed bytes left count so_far taken none =
    record {
      failed = counts_both failures now_failed next_failed 0 0 so_far.failed none;
      front = so_far.front ++ take count left;
      split =
          so_far.split ∙ ap (λ l. so_far.front ++ l) (sym (take-append-drop count left))
          ∙ sym (append_assoc so_far.front (take count left) (drop count left))
          ∙ ap (λ l. (so_far.front ++ take count left) ++ l) (sym (take_rest left count));
      appended = Appends-trans _ _ _ _ _ so_far.appended taken;
    }

module _ {R V A B : Type 0} (moment : R → A) (items : V → B) where
  -- the pairs made so far are the first moments with their answers
  pub record BesideSoFar (rounds left_rounds : List R) (answers left_answers : List V)
      (made : List (A × V)) : Type 0 where
    pub whole : map (λ m. (m.0, items m.1)) made
        ++ zip (map moment left_rounds) (map items left_answers)
        ≡ zip (map moment rounds) (map items answers)

  nothing_beside : (ms : List A) (none : List B) → none ≡ [] → zip ms none ≡ []
  nothing_beside [] none e = refl
  nothing_beside (m ∷ ms) none e = ap (zip (m ∷ ms)) e

  pub all_beside : (rounds left_rounds : List R) (answers left : List V) (made : List (A × V))
      → BesideSoFar rounds left_rounds answers left made → left ≡ []
      → map (λ m. (m.0, items m.1)) made ≡ zip (map moment rounds) (map items answers)
  all_beside rounds left_rounds answers left made so_far none =
      sym (append-nil _) ∙ ap (λ l. map (λ m. (m.0, items m.1)) made ++ l)
      (sym (nothing_beside (map moment left_rounds) (map items left) (ap (map items) none)))
      ∙ so_far.whole

-- what was read, run, joined with its moments and written is what the input spells
pub replays_read : (kind : FileKind) (input : List ℕ) (config : Config) (rounds slice : List Round)
    (answered : List (Vec Output)) (made : List (ℕ × Vec Output)) (file : List ℕ) → slice ≡ rounds
    → SpellsFile kind config rounds input → length input ≤ 2 ^ 26 → refused config slice ≡ None
    → map (λ outputs. outputs.items) answered ≡ answers config slice
    → told made ≡ zip (map (λ round. round.moment) slice) (map (λ outputs. outputs.items) answered)
    → file ≡ outputs_text (told made) → Replays kind input file
unfolding answer_file
replays_read kind input config rounds slice answered made file same spelled size unrefused
    answers_made beside written = record {
      config = config;
      rounds = rounds;
      spelled = spelled;
      size = size;
      unrefused = ap (refused config) (sym same) ∙ unrefused;
      answered =
          written ∙ ap outputs_text (beside
          ∙ ap (zip (map (λ round. round.moment) slice)) answers_made)
          ∙ ap (λ rs. outputs_text (zip (map (λ round. round.moment) rs) (answers config rs))) same;
    }

-- for a file of the kind no fault of events fits but lack of memory
only_memory : {T : Type 0} (kind : FileKind) (result : Result T ReplayFault) (input : List ℕ)
    (fault : EventsFault) → IfErr result (λ told. TellsReplay kind told input) → IsFile kind input
    → result ≡ Err (replay_fault.Events fault) → fault ≡ events_fault.NoMemory
only_memory {T = T} kind result input fault tells file is =
    never_bad kind fault input
    (subst (λ (r : Result T ReplayFault). IfErr r (λ told. TellsReplay kind told input)) is tells)
    file

pub only_memory_known : {T : Type 0} (kind : FileKind) (known : Option (List ℕ))
    (result : Result T ReplayFault) → IfErr result (λ told. IfSome known (TellsReplay kind told))
    → IfSome known (λ input. IsFile kind input → (fault : EventsFault)
    → result ≡ Err (replay_fault.Events fault) → fault ≡ events_fault.NoMemory)
only_memory_known kind None result tells = tt
only_memory_known kind (Some input) result tells =
    λ file fault is. only_memory kind result input fault tells file is
