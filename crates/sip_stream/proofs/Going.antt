-- A replay round by round in the middle of its file, and how it ends.
use Rattle.std.proofs.Common.{◌≡◌, ◌≢◌, ℕ, ◌+◌, ◌-◌, ◌≤◌, ◌^◌, Bool, eqb, false, eq-eqb, true≢false, List, [], ◌∷◌, ◌++◌, length, length-append, codes, refl, sym, ap, subst, ◌∙◌, append_assoc, append-nil, arith, inl, inr}
use Rattle.std.specs.Prelude.{IfSome, IsTrue, Option, None, Some, Result, Ok, Err, ◌⊎◌}
use Rattle.std.specs.Io.KnownBytes.{Appends, Consumes, IsAtEnd, prepend_known}
use Rattle.std.proofs.KnownBytes.{Appends-nil, Appends-trans, Consumes-trans, Consumes-whole, prepend_known-nil}
use Rattle.sip_files.specs.Counted.{Counts}
use Rattle.sip_files.specs.EventFile.{SpellsFile, SpellsIn, version_line}
use Rattle.sip_files.specs.Replay.{answer_file, output_failures}
use Rattle.sip_files.specs.declared.file_replay.ReplayFault.{ReplayFault}
use Rattle.sip_files.specs.declared.file_replay.ReplayFault.TheVariants as replay_fault
use Rattle.sip_files.specs.Written.{head_in}
use Rattle.sip_files.specs.declared.version.FileKind.{FileKind}
use Rattle.sip_files.specs.declared.version.Version.{Version}
use Rattle.sip_files.proofs.FileLines.{first_line}
use Rattle.sip_files.proofs.Streams.{counts_both, counts_none}
use Rattle.sip_files.specs.Rounds.{first_round, some_config}
use Rattle.sip_round.specs.AgentState.{AgentState}
use Rattle.sip_round.specs.Answers.{StandsFor}
use Rattle.sip_round.specs.declared.config.Config.{Config}
use Rattle.sip_round.specs.declared.round.Round.{Round}
use Rattle.sip_stream.specs.Steps.{Ends, GoesOn, SoFar, Stands, Stops, StopsAt, TellsHead, TellsRound, TellsStep}
use Rattle.sip_stream.specs.Streams.{Begins, IsNext, IsRounds, StandsForFile, StreamsAll, StreamsFront, TellsStream, WritesBefore, WritesFirst, failed_reads, failed_writes}
use Rattle.sip_stream.specs.declared.stream_fault.StreamFault.{StreamFault}
use Rattle.sip_stream.specs.declared.stream_fault.StreamFault.TheVariants as fault
use Rattle.sip_stream.proofs.Chunks.{rounds_follow}
use Rattle.sip_stream.proofs.Joined.{joined}
use Rattle.sip_stream.proofs.OneRound.{index_is}
use Rattle.sip_stream.proofs.Written.{file_of_none}

-- what is said of an input that begins so, if it is known
from_front : (input pending : Option (List ℕ)) (front : List ℕ) (P : List ℕ → Type 0)
    → Consumes input pending front
    → ((whole left : List ℕ) → whole ≡ front ++ left → pending ≡ Some left → P whole)
    → IfSome input P
from_front None pending front P consumed f = tt
from_front (Some whole) None front P consumed f = elim consumed [ ]
from_front (Some whole) (Some left) front P consumed f = f whole left consumed refl

-- the same, if lines were taken of what was left
from_both : (input pending next : Option (List ℕ)) (front lines : List ℕ) (P : List ℕ → Type 0)
    → Consumes input pending front → Consumes pending next lines
    → ((whole left : List ℕ) → whole ≡ front ++ (lines ++ left) → pending ≡ Some (lines ++ left)
    → next ≡ Some left → P whole)
    → IfSome input P
from_both None pending next front lines P consumed taken f = tt
from_both (Some whole) None next front lines P consumed taken f = elim consumed [ ]
from_both (Some whole) (Some all) None front lines P consumed taken f = elim taken [ ]
from_both (Some whole) (Some all) (Some left) front lines P consumed taken f =
    f whole left (consumed ∙ ap (λ (t : List ℕ). front ++ t) taken) (ap Some taken) refl

at_known : (P : List ℕ → Type 0) (pending : Option (List ℕ)) (left : List ℕ) → pending ≡ Some left
    → IfSome pending P → P left
at_known P pending left is p = subst (λ o. IfSome o P) is p

-- the reader has given nothing yet
pub from_start : (input next : Option (List ℕ)) (text lines : List ℕ) → text ≡ []
    → Consumes (prepend_known text input) next lines → Consumes input next lines
from_start input next text lines none consumed =
    subst (λ known. Consumes known next lines) (prepend_known-nil input)
    (subst (λ (t : List ℕ). Consumes (prepend_known t input) next lines) none consumed)

-- the same texts by other names
pub same_text : (own_head own_lines head lines : List ℕ) → own_head ≡ head → own_lines ≡ lines
    → own_head ++ own_lines ≡ head ++ lines
same_text own_head own_lines head lines same_head same_lines =
    ap (λ (h : List ℕ). h ++ own_lines) same_head ∙ ap (λ (l : List ℕ). head ++ l) same_lines

pub read_as : (kind : FileKind) (round : Round) (own text : List ℕ) → own ≡ text
    → ((config : Config) × SpellsFile kind config (round ∷ []) own)
    → (config : Config) × SpellsFile kind config (round ∷ []) text
read_as kind round own text same read =
    (read.0, subst (SpellsFile kind read.0 (round ∷ [])) same read.1)

pub fits_as : (own text : List ℕ) → own ≡ text → length own ≤ 2 ^ 26 → length text ≤ 2 ^ 26
fits_as own text same fits = subst (λ (t : List ℕ). length t ≤ 2 ^ 26) same fits

-- lines that aren't none
pub some_lines : (lines : List ℕ) (len : ℕ) → len ≡ length lines → eqb len 0 ≡ false → lines ≢ []
some_lines lines len is some = λ none.
    true≢false (sym (eq-eqb len 0 (is ∙ ap length none)) ∙ some)

-- ---- whole rounds

-- lines that a file may have are all of their round
whole_lines : (lines left : List ℕ) → IsNext lines left → length lines ≤ 2 ^ 26
    → first_round (lines ++ left) ≡ lines
whole_lines lines left next fits =
    elim next.whole [
      | inl none ↦ next.front ∙ ap (λ (t : List ℕ). lines ++ t) none ∙ append-nil lines
      | inr long ↦ absurd (omega (arith, long, fits))
    ]

-- so behind them stands another round, or nothing
pub rounds_next : (pending : Option (List ℕ)) (lines : List ℕ) → IfSome pending (IsNext lines)
    → length lines ≤ 2 ^ 26 → IfSome pending IsRounds
rounds_next None lines next fits = tt
rounds_next (Some left) lines next fits =
    rounds_follow lines left (whole_lines lines left next fits)

-- ---- how it ends

-- the count that a result tells
pub counts_at : (before after : Option ℕ) (some count : ℕ) → some ≡ count
    → Counts before after some → Counts before after count
counts_at before after some count is counts = subst (Counts before after) is counts

pub write_failed : {T : Type 0} (before after : Option ℕ) (result : Result T ReplayFault)
    → result ≡ Err replay_fault.Output → Counts before after (output_failures result)
    → Counts before after 1
write_failed before after result is counts =
    subst (λ r. Counts before after (output_failures r)) is counts

-- after steps in which nothing failed
pub counts_on : (before now after : Option ℕ) (count : ℕ) → Counts before now 0
    → Counts now after count → Counts before after count
counts_on before now after count none more =
    counts_at before after (0 + count) count (omega arith)
    (counts_both before now after 0 count none more)

-- with this fault
pub stops_with : {T : Type 0} (kind : FileKind) (input before after : Option (List ℕ))
    (reads reads_now writes writes_now : Option ℕ) (flushed : Option Bool)
    (result : Result T StreamFault) (given : StreamFault) → result ≡ Err given
    → IfSome input (StopsAt kind given before after)
    → Counts reads reads_now (failed_reads given) → Counts writes writes_now (failed_writes given)
    → Ends kind input before after reads reads_now writes writes_now flushed result
stops_with kind input before after reads reads_now writes writes_now flushed result given is stops
    counts_reads counts_writes =
    subst (λ r. Ends kind input before after reads reads_now writes writes_now flushed r) (sym is)
    (record {
      all = tt;
      stops = stops;
      reads = counts_reads;
      writes = counts_writes;
      all_flushed = tt;
    })

-- a read failed, or memory ran out
abbrev pub IsUnread : StreamFault → Type 0
IsUnread given = (given ≡ fault.Input) ⊎ (given ≡ fault.NoMemory)

-- that tells nothing of the input, and no write failed
by_unread : (P : StreamFault → Type 0) (given : StreamFault) → IsUnread given → P fault.Input
    → P fault.NoMemory → P given
by_unread P given (inl is) input memory = subst P (sym is) input
by_unread P given (inr is) input memory = subst P (sym is) memory

unread_stops : {T : Type 0} (kind : FileKind) (input before after : Option (List ℕ))
    (reads reads_now writes writes_now : Option ℕ) (flushed : Option Bool)
    (result : Result T StreamFault) (given : StreamFault) → result ≡ Err given → IsUnread given
    → IfSome input (StreamsFront kind before after) → Counts reads reads_now (failed_reads given)
    → Counts writes writes_now 0
    → Ends kind input before after reads reads_now writes writes_now flushed result
unread_stops kind input before after reads reads_now writes writes_now flushed result given is
    unread front counts_reads counts_writes =
    stops_with kind input before after reads reads_now writes writes_now flushed result given is
    (by_known input front) counts_reads
    (by_unread (λ f. Counts writes writes_now (failed_writes f)) given unread counts_writes
    counts_writes)
  where
    by_known : (known : Option (List ℕ)) → IfSome known (StreamsFront kind before after)
        → IfSome known (StopsAt kind given before after)
    by_known None front = tt
    by_known (Some whole) front = record {
      front = front;
      written = by_unread (λ f. WritesBefore kind f before after whole) given unread tt tt;
      tells = by_unread (λ f. TellsStream kind f whole) given unread tt tt;
    }

-- ---- nothing was written yet

nothing_yet : (kind : FileKind) (input known : Option (List ℕ))
    → IfSome input (StreamsFront kind known known)
nothing_yet kind None known = tt
nothing_yet kind (Some whole) known = inl (Appends-nil known)

pub first_stops : {T : Type 0} (kind : FileKind) (input known : Option (List ℕ))
    (reads reads_now writes : Option ℕ) (flushed : Option Bool) (result : Result T StreamFault)
    (given : StreamFault) → result ≡ Err given → IsUnread given
    → Counts reads reads_now (failed_reads given)
    → Ends kind input known known reads reads_now writes writes flushed result
first_stops kind input known reads reads_now writes flushed result given is unread counts =
    unread_stops kind input known known reads reads_now writes writes flushed result given is unread
    (nothing_yet kind input known) counts (counts_none writes)

head_fault : (kind : FileKind) (lines left whole : List ℕ) (known : Option (List ℕ))
    (given : StreamFault) → whole ≡ lines ++ left → IsNext lines left → TellsHead kind lines given
    → StopsAt kind given known known whole
head_fault kind lines left whole known fault.Input is next tells = elim tells [ ]
head_fault kind lines left whole known (fault.Head given) is next tells = record {
  front = inl (Appends-nil known);
  written = Appends-nil known;
  tells = record {
    lines = lines;
    left = left;
    whole = is;
    next = next;
    tells = tells.0;
    cause = tells.1;
  };
}
head_fault kind lines left whole known (fault.Lines at given) is next tells = elim tells [ ]
head_fault kind lines left whole known (fault.Round at given) is next tells = elim tells [ ]
head_fault kind lines left whole known fault.Output is next tells = elim tells [ ]
head_fault kind lines left whole known fault.NoMemory is next tells =
    record { front = inl (Appends-nil known); written = tt; tells = tt }

head_failed : (kind : FileKind) (lines : List ℕ) (given : StreamFault) → TellsHead kind lines given
    → (failed_reads given ≡ 0) × (failed_writes given ≡ 0)
head_failed kind lines fault.Input tells = elim tells [ ]
head_failed kind lines (fault.Head given) tells = (refl, refl)
head_failed kind lines (fault.Lines at given) tells = elim tells [ ]
head_failed kind lines (fault.Round at given) tells = elim tells [ ]
head_failed kind lines fault.Output tells = elim tells [ ]
head_failed kind lines fault.NoMemory tells = (refl, refl)

pub head_stops : {T : Type 0} (kind : FileKind) (input pending known : Option (List ℕ))
    (reads reads_now writes : Option ℕ) (flushed : Option Bool) (result : Result T StreamFault)
    (given : StreamFault) (lines : List ℕ) → result ≡ Err given → Consumes input pending lines
    → IfSome pending (IsNext lines) → TellsHead kind lines given → Counts reads reads_now 0
    → Ends kind input known known reads reads_now writes writes flushed result
head_stops kind input pending known reads reads_now writes flushed result given lines is consumed
    next tells counts =
    let none = head_failed kind lines given tells in
    stops_with kind input known known reads reads_now writes writes flushed result given is
    (from_front input pending lines (StopsAt kind given known known) consumed
    (λ whole left parts some.
    head_fault kind lines left whole known given parts
    (at_known (IsNext lines) pending left some next) tells))
    (counts_at reads reads_now 0 (failed_reads given) (sym none.0) counts)
    (counts_at writes writes 0 (failed_writes given) (sym none.1) (counts_none writes))

module _ {C : Type 0} (shard_of : C → List ℕ → ℕ → ℕ) (kind : FileKind) where
  -- after the head, of which the first line of an output file was written
  pub begun : (agent : AgentState C) (first : ℕ) (config : Config) (head lines bytes : List ℕ)
      (input pending before after : Option (List ℕ))
      (reads reads_now writes writes_now : Option ℕ) (flushed : Option Bool)
      → SpellsFile kind config [] lines
      → ((version : Version) (rest : List ℕ) → lines ≡ version_line version ++ 10 ∷ rest
      → head ≡ head_in version some_config)
      → Consumes input pending lines → IfSome pending (IsNext lines) → length lines ≤ 2 ^ 26
      → Stands shard_of agent config [] → first ≡ config.first
      → bytes ≡ codes "sip-outputs 1\n" → Appends before after bytes
      → Counts reads reads_now 0 → Counts writes writes_now 0
      → IfSome flushed (λ all. IsTrue all)
      → SoFar shard_of kind agent first head input pending before after reads reads_now writes
      writes_now flushed
  begun agent first config head lines bytes input pending before after reads reads_now writes
      writes_now flushed spells heads consumed next fits stands is text appended counts_reads
      counts_writes all_flushed = record {
        config = config;
        rounds = [];
        file = lines;
        spelled = spells;
        consumed = consumed;
        next = rounds_next pending lines next fits;
        stands = stands;
        numbered = is;
        headed = heads spells.0 _ ((spells.2).spelled ∙ first_line spells.0 (spells.2).lines);
        appended = subst (λ (t : List ℕ). Appends before after t)
            (text ∙ sym (file_of_none config)) appended;
        reads = counts_reads;
        writes = counts_writes;
        all_flushed = all_flushed;
      }

  -- a front of the first line alone
  pub begun_stops : {T : Type 0} (config : Config) (lines bytes front more : List ℕ)
      (input pending before after : Option (List ℕ))
      (reads reads_now writes writes_now : Option ℕ) (flushed : Option Bool)
      (result : Result T StreamFault) → result ≡ Err fault.Output → SpellsFile kind config [] lines
      → Consumes input pending lines → IfSome pending (IsNext lines) → length lines ≤ 2 ^ 26
      → bytes ≡ codes "sip-outputs 1\n" → bytes ≡ front ++ more → Appends before after front
      → Counts reads reads_now 0 → Counts writes writes_now 1
      → Ends kind input before after reads reads_now writes writes_now flushed result
  begun_stops config lines bytes front more input pending before after reads reads_now writes
      writes_now flushed result err spells consumed next fits text parts appended counts_reads
      counts_writes =
      stops_with kind input before after reads reads_now writes writes_now flushed result
      fault.Output err
      (from_front input pending lines (StopsAt kind fault.Output before after) consumed
      (λ whole left is some. record {
        front = inr (
          front,
          record {
            config = config;
            rounds = [];
            left = left;
            begins = record {
              file = lines;
              whole = is;
              spelled = spells;
              next = at_known IsRounds pending left some (rounds_next pending lines next fits);
            };
            more = more;
            answered = file_of_none config ∙ sym text ∙ parts;
          },
          appended,
        );
        written = tt;
        tells = tt;
      }))
      counts_reads counts_writes

  module _ {agent : AgentState C} {first : ℕ} {head : List ℕ}
      {input pending before after : Option (List ℕ)}
      {reads reads_now writes writes_now : Option ℕ} {flushed : Option Bool}
      (s : SoFar shard_of kind agent first head input pending before after reads reads_now writes
      writes_now flushed) where
    abbrev begins_so_far : (whole left : List ℕ) → whole ≡ s.file ++ left → IsRounds left
        → Begins kind s.config s.rounds whole left
    begins_so_far whole left is next =
        record { file = s.file; whole = is; spelled = s.spelled; next = next }

    -- what was written is a front
    front_at : (whole left : List ℕ) → whole ≡ s.file ++ left → IsRounds left
        → StreamsFront kind before after whole
    front_at whole left is next =
        inr (
          answer_file s.config s.rounds,
          record {
            config = s.config;
            rounds = s.rounds;
            left = left;
            begins = begins_so_far whole left is next;
            more = [];
            answered = sym (append-nil (answer_file s.config s.rounds));
          },
          s.appended,
        )

    -- the next lines weren't read
    pub unread : {T : Type 0} (now : Option ℕ) (result : Result T StreamFault)
        (given : StreamFault) → result ≡ Err given → IsUnread given
        → Counts reads_now now (failed_reads given)
        → Ends kind input before after reads now writes writes_now flushed result
    unread now result given is device counts =
        unread_stops kind input before after reads now writes writes_now flushed result given is
        device
        (from_front input pending s.file (StreamsFront kind before after) s.consumed
        (λ whole left parts some.
        front_at whole left parts (at_known IsRounds pending left some s.next)))
        (counts_on reads reads_now now (failed_reads given) s.reads counts) s.writes

    -- the end
    pub all_written : {T : Type 0} (value : T) (next : Option (List ℕ)) (lines : List ℕ)
        (now : Option ℕ) → Consumes pending next lines → lines ≡ [] → IsAtEnd next
        → Counts reads_now now 0
        → Ends kind input before after reads now writes writes_now flushed
        (Ok value)
    all_written value next lines now consumed none ended counts =
        let file : s.file ++ lines ≡ s.file =
        ap (λ (l : List ℕ). s.file ++ l) none ∙ append-nil s.file in
        record {
          all = Consumes-whole input next s.file (StreamsAll kind before after)
              (subst (λ (f : List ℕ). Consumes input next f) file
              (Consumes-trans input pending next s.file lines s.consumed consumed)) ended (
                answer_file s.config s.rounds,
                record {
                  config = s.config;
                  rounds = s.rounds;
                  spelled = s.spelled;
                  unrefused = (s.stands).unrefused;
                  answered = refl;
                },
                s.appended,
              );
          stops = tt;
          reads = counts_on reads reads_now now 0 s.reads counts;
          writes = s.writes;
          all_flushed = s.all_flushed;
        }

    -- the agent stands for all of it
    pub stands_for_file : (agent_now : AgentState C) (next : Option (List ℕ)) (lines : List ℕ)
        → agent_now ≡ agent → Consumes pending next lines → lines ≡ [] → IsAtEnd next
        → IfSome input (StandsForFile shard_of kind agent_now)
    stands_for_file agent_now next lines same consumed none ended =
        let file : s.file ++ lines ≡ s.file =
        ap (λ (l : List ℕ). s.file ++ l) none ∙ append-nil s.file in
        Consumes-whole input next s.file (StandsForFile shard_of kind agent_now)
        (subst (λ (f : List ℕ). Consumes input next f) file
        (Consumes-trans input pending next s.file lines s.consumed consumed)) ended
        (record {
          config = s.config;
          rounds = s.rounds;
          spelled = s.spelled;
          unrefused = (s.stands).unrefused;
          stands = subst (λ a. StandsFor shard_of a s.config s.rounds) (sym same)
              (s.stands).stands;
        })

    -- ---- the next round

    module _ (next : Option (List ℕ)) (lines : List ℕ) (now : Option ℕ)
        (consumed : Consumes pending next lines) (is_next : IfSome next (IsNext lines))
        (counts : Counts reads_now now 0) where
      reads_on : Counts reads now 0
      reads_on = counts_on reads reads_now now 0 s.reads counts

      -- a front of what was written, before these lines
      front_before : (whole left : List ℕ) → whole ≡ s.file ++ (lines ++ left)
          → pending ≡ Some (lines ++ left) → StreamsFront kind before after whole
      front_before whole left parts some =
          front_at whole (lines ++ left) parts
          (at_known IsRounds pending (lines ++ left) some s.next)

      abbrev begins_before : (whole left : List ℕ) → whole ≡ s.file ++ (lines ++ left)
          → pending ≡ Some (lines ++ left) → Begins kind s.config s.rounds whole (lines ++ left)
      begins_before whole left parts some =
          begins_so_far whole (lines ++ left) parts
          (at_known IsRounds pending (lines ++ left) some s.next)

      first_written : (whole left : List ℕ) (count : ℕ) (after_now : Option (List ℕ))
          → whole ≡ s.file ++ (lines ++ left) → pending ≡ Some (lines ++ left)
          → count ≡ length s.rounds → Appends after after_now []
          → WritesFirst kind count before after_now whole
      first_written whole left count after_now parts some counted kept = record {
        config = s.config;
        rounds = s.rounds;
        left = lines ++ left;
        begins = begins_before whole left parts some;
        counted = counted;
        appended = subst (λ (t : List ℕ). Appends before after_now t)
            (append-nil (answer_file s.config s.rounds))
            (Appends-trans before after after_now (answer_file s.config s.rounds) [] s.appended
            kept);
      }

      index_now : agent.next_round - first ≡ length s.rounds
      index_now = index_is shard_of agent s.config s.rounds first (s.stands).stands s.numbered

      round_fault : (index : ℕ) (left whole : List ℕ) (given : StreamFault)
          → index ≡ length s.rounds → lines ≢ [] → whole ≡ s.file ++ (lines ++ left)
          → pending ≡ Some (lines ++ left) → IsNext lines left
          → TellsRound kind (s.spelled).0 index lines given → StopsAt kind given before after whole
      round_fault index left whole fault.Input counted some parts known next_is tells =
          elim tells [ ]
      round_fault index left whole (fault.Head given) counted some parts known next_is tells =
          elim tells [ ]
      round_fault index left whole (fault.Lines at given) counted some parts known next_is tells =
          record {
            front = front_before whole left parts known;
            written = first_written whole left at after parts known (tells.0 ∙ counted)
                (Appends-nil after);
            tells = record {
              config = s.config;
              rounds = s.rounds;
              lines = lines;
              left = left;
              begins = begins_before whole left parts known;
              counted = tells.0 ∙ counted;
              some = some;
              next = next_is;
              tells = tells.1;
            };
          }
      round_fault index left whole (fault.Round at given) counted some parts known next_is tells =
          elim tells [ ]
      round_fault index left whole fault.Output counted some parts known next_is tells =
          elim tells [ ]
      round_fault index left whole fault.NoMemory counted some parts known next_is tells =
          record { front = front_before whole left parts known; written = tt; tells = tt }

      round_failed : (version : Version) (index : ℕ) (given : StreamFault)
          → TellsRound kind version index lines given
          → (failed_reads given ≡ 0) × (failed_writes given ≡ 0)
      round_failed version index fault.Input tells = elim tells [ ]
      round_failed version index (fault.Head given) tells = elim tells [ ]
      round_failed version index (fault.Lines at given) tells = (refl, refl)
      round_failed version index (fault.Round at given) tells = elim tells [ ]
      round_failed version index fault.Output tells = elim tells [ ]
      round_failed version index fault.NoMemory tells = (refl, refl)

      pub round_stops : {T : Type 0} (result : Result T StreamFault) (given : StreamFault)
          (index : ℕ) → result ≡ Err given → lines ≢ [] → index ≡ agent.next_round - first
          → ((version : Version) → head ≡ head_in version some_config
          → TellsRound kind version index lines given)
          → Ends kind input before after reads now writes writes_now flushed result
      round_stops result given index is some at tells =
          let told = tells (s.spelled).0 s.headed in
          let none = round_failed (s.spelled).0 index given told in
          stops_with kind input before after reads now writes writes_now flushed result given is
          (from_both input pending next s.file lines (StopsAt kind given before after) s.consumed
          consumed
          (λ whole left parts known then.
          round_fault index left whole given (at ∙ index_now) some parts known
          (at_known (IsNext lines) next left then is_next) told))
          (counts_at reads now 0 (failed_reads given) (sym none.0) reads_on)
          (counts_at writes writes_now 0 (failed_writes given) (sym none.1) s.writes)

      module _ (round : Round)
          (read : (config : Config) × SpellsFile kind config (round ∷ []) (head ++ lines))
          (fits : length (head ++ lines) ≤ 2 ^ 26) where
        spelled_in : SpellsIn (s.spelled).0 s.config (s.rounds ++ round ∷ []) (s.file ++ lines)
        spelled_in =
            joined kind (s.spelled).0 s.config read.0 s.rounds (round ∷ []) s.file lines
            (s.spelled).2
            (subst (λ (h : List ℕ). SpellsFile kind read.0 (round ∷ []) (h ++ lines)) s.headed
            read.1)

        abbrev spelled_on : SpellsFile kind s.config (s.rounds ++ round ∷ []) (s.file ++ lines)
        spelled_on = ((s.spelled).0, (s.spelled).1, spelled_in)

        rounds_on : IfSome next IsRounds
        rounds_on =
            rounds_next next lines is_next (omega (arith, fits, length-append head lines))

        pub one_more : (agent_now : AgentState C) (first_now : ℕ) (bytes_now : Option (List ℕ))
            (written_now : Option ℕ) (flushed_now : Option Bool) → first_now ≡ first
            → ((config : Config) (rounds : List Round) → Stands shard_of agent config rounds
            → GoesOn shard_of agent_now after bytes_now config rounds round)
            → Counts writes_now written_now 0 → IfSome flushed_now (λ all. IsTrue all)
            → SoFar shard_of kind agent_now first_now head input next before bytes_now reads now
            writes written_now flushed_now
        one_more agent_now first_now bytes_now written_now flushed_now same goes counts_writes
            all_flushed =
            let g = goes s.config s.rounds s.stands in
            record {
              config = s.config;
              rounds = s.rounds ++ round ∷ [];
              file = s.file ++ lines;
              spelled = spelled_on;
              consumed = Consumes-trans input pending next s.file lines s.consumed consumed;
              next = rounds_on;
              stands = g.stands;
              numbered = same ∙ s.numbered;
              headed = s.headed;
              appended = subst (λ (t : List ℕ). Appends before bytes_now t) (sym g.answered)
                  (Appends-trans before after bytes_now (answer_file s.config s.rounds) g.text
                  s.appended g.appended);
              reads = reads_on;
              writes = counts_on writes writes_now written_now 0 s.writes counts_writes;
              all_flushed = all_flushed;
            }

        begins_behind : (whole left : List ℕ) → whole ≡ s.file ++ (lines ++ left)
            → next ≡ Some left → Begins kind s.config (s.rounds ++ round ∷ []) whole left
        begins_behind whole left parts then = record {
          file = s.file ++ lines;
          whole = parts ∙ sym (append_assoc s.file lines left);
          spelled = spelled_on;
          next = at_known IsRounds next left then rounds_on;
        }

        module _ (bytes_now : Option (List ℕ)) (written_now : Option ℕ)
            (stops : (config : Config) (rounds : List Round)
            → Stands shard_of agent config rounds → Stops after bytes_now config rounds round) where
          front_behind : (whole left : List ℕ) → whole ≡ s.file ++ (lines ++ left)
              → next ≡ Some left → StreamsFront kind before bytes_now whole
          front_behind whole left parts then =
              let t = stops s.config s.rounds s.stands in
              inr (
                answer_file s.config s.rounds ++ t.front,
                record {
                  config = s.config;
                  rounds = s.rounds ++ round ∷ [];
                  left = left;
                  begins = begins_behind whole left parts then;
                  more = t.more;
                  answered = t.answered
                      ∙ sym (append_assoc (answer_file s.config s.rounds) t.front t.more);
                },
                Appends-trans before after bytes_now (answer_file s.config s.rounds) t.front
                    s.appended t.appended,
              )

          step_fault : (given : StreamFault) (whole left : List ℕ)
              → whole ≡ s.file ++ (lines ++ left) → pending ≡ Some (lines ++ left)
              → next ≡ Some left → TellsStep after bytes_now s.config s.rounds round given
              → StopsAt kind given before bytes_now whole
          step_fault fault.Input whole left parts known then tells = elim tells [ ]
          step_fault (fault.Head given) whole left parts known then tells = elim tells [ ]
          step_fault (fault.Lines at given) whole left parts known then tells = elim tells [ ]
          step_fault (fault.Round at given) whole left parts known then tells = record {
            front = front_behind whole left parts then;
            written = first_written whole left at bytes_now parts known tells.0 tells.2;
            tells = record {
              config = s.config;
              rounds = s.rounds ++ round ∷ [];
              left = left;
              begins = begins_behind whole left parts then;
              refuses = tells.1;
            };
          }
          step_fault fault.Output whole left parts known then tells =
              record { front = front_behind whole left parts then; written = tt; tells = tt }
          step_fault fault.NoMemory whole left parts known then tells =
              record { front = front_behind whole left parts then; written = tt; tells = tt }

          step_failed : (given : StreamFault)
              → TellsStep after bytes_now s.config s.rounds round given → failed_reads given ≡ 0
          step_failed fault.Input tells = elim tells [ ]
          step_failed (fault.Head given) tells = elim tells [ ]
          step_failed (fault.Lines at given) tells = elim tells [ ]
          step_failed (fault.Round at given) tells = refl
          step_failed fault.Output tells = refl
          step_failed fault.NoMemory tells = refl

          pub step_stops : {T : Type 0} (flushed_now : Option Bool) (result : Result T StreamFault)
              (given : StreamFault) → result ≡ Err given
              → ((config : Config) (rounds : List Round) → Stands shard_of agent config rounds
              → first ≡ config.first → TellsStep after bytes_now config rounds round given)
              → Counts writes_now written_now (failed_writes given)
              → Ends kind input before bytes_now reads now writes written_now flushed_now result
          step_stops flushed_now result given is tells counts_writes =
              let told = tells s.config s.rounds s.stands s.numbered in
              stops_with kind input before bytes_now reads now writes written_now flushed_now result
              given is
              (from_both input pending next s.file lines (StopsAt kind given before bytes_now)
              s.consumed consumed
              (λ whole left parts known then. step_fault given whole left parts known then told))
              (counts_at reads now 0 (failed_reads given) (sym (step_failed given told)) reads_on)
              (counts_on writes writes_now written_now (failed_writes given) s.writes
              counts_writes)
