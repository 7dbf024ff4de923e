-- What a ladder is: a head, and a row for each event and each output of the rounds, in order.
use Rattle.std.specs.Prelude.{◌≡◌, ℕ, ◌≤◌, ◌^◌, List, ◌++◌, length, map, Option, None}
use Rattle.std.specs.List.{flat_map}
use Rattle.std.specs.Io.KnownBytes.{Appends}
use Rattle.sip_message.specs.declared.addr.Addr.{Addr}
use Rattle.sip_files.specs.EventFile.{SpellsFile}
use Rattle.sip_files.specs.declared.version.FileKind.{FileKind}
use Rattle.sip_round.specs.Answers.{answers, refused}
use Rattle.sip_round.specs.declared.config.Config.{Config}
use Rattle.sip_round.specs.declared.output.Output.{Output}
use Rattle.sip_round.specs.declared.round.Round.{Round}
use Rattle.sip_ladder.specs.Columns.{columns_of}
use Rattle.sip_ladder.specs.Head.{head_text}
use Rattle.sip_ladder.specs.Row.{row_line}
use Rattle.sip_ladder.specs.Shapes.{shape, shapes}
use Rattle.sip_ladder.specs.declared.line.Line.{Line}

-- The text is the ladder of the rounds and their outputs, for an agent with this address.
pub record Draws (local : Addr) (rounds : List Round) (outputs : List (List Output))
    (text : List ℕ) : Type 0 where
  pub lines : List Line
  pub as_visible : map shape lines ≡ shapes rounds outputs
  pub spelled :
      let columns = columns_of (map (λ line. line.way) lines) in
      text ≡ head_text local columns ++ flat_map (row_line columns) lines

-- the input is a file of the kind, none of its rounds is refused, and this is the ladder of its
-- rounds and their outputs
pub record DrawsFile (kind : FileKind) (input text : List ℕ) : Type 0 where
  pub config : Config
  pub rounds : List Round
  pub spelled : SpellsFile kind config rounds input
  pub size : length input ≤ 2 ^ 26
  pub unrefused : refused config rounds ≡ None
  pub drawn : Draws config.local rounds (answers config rounds) text

-- the writer took a whole ladder of the input
abbrev pub DrawsAll : FileKind → Option (List ℕ) → Option (List ℕ) → List ℕ → Type 0
DrawsAll kind old new input = (text : List ℕ) × DrawsFile kind input text × Appends old new text

-- the writer took a front of a ladder of the input
abbrev pub DrawsFront : FileKind → Option (List ℕ) → Option (List ℕ) → List ℕ → Type 0
DrawsFront kind old new input =
    (front rest : List ℕ) × DrawsFile kind input (front ++ rest) × Appends old new front
