-- The text of a line: the moment, the columns with an arrow between two of them, and a label.
use Rattle.std.specs.Prelude.{ℕ, ◌+◌, ◌-◌, ◌==◌, ◌&&◌, Bool, List, [], ◌∷◌, ◌++◌, length, take, codes, decimal, if◌then◌else◌}
use Rattle.std.specs.List.{repeat}
use Rattle.std.specs.Str.{bytes_eq}
use Rattle.sip_message.specs.declared.addr.Addr.{Addr}
use Rattle.sip_ladder.specs.declared.columns.Columns.{Columns}
use Rattle.sip_ladder.specs.declared.line.Line.{Line}
use Rattle.sip_ladder.specs.declared.line.Way.{Way}
use Rattle.sip_ladder.specs.declared.line.Way.TheVariants.{In, Out, Own}

-- at least ten characters, with the number at the right, and two blanks
unfoldable pub moment_text : ℕ → List ℕ
moment_text moment =
    repeat (10 - length (decimal moment)) (codes " ") ++ decimal moment ++ codes "  "

-- so many columns without an arrow
unfoldable pub free_columns : ℕ → ℕ → List ℕ
free_columns width count = repeat count (repeat (width - 1) (codes " ") ++ codes "|")

-- an arrow without its head and its ends, which passes so many columns
unfoldable pub shaft : ℕ → ℕ → List ℕ
shaft width passed = repeat passed (repeat width (codes "-")) ++ repeat (width - 2) (codes "-")

abbrev pub is_same_address : Addr → Addr → Bool
is_same_address one other = (one.port == other.port) && bytes_eq one.ip other.ip

-- how many columns of peers stand before that of this one; a peer without its own has the last
abbrev pub place_of : List Addr → Addr → ℕ
place_of [] address = 0
place_of (peer ∷ peers) address =
    if is_same_address peer address then 0 else 1 + place_of peers address

-- the agent's column and those of the peers, with the arrow across the first of these
unfoldable pub columns_text : Columns → Way → List ℕ
columns_text columns (In from) =
    let place = place_of columns.peers from in
    codes "|<" ++ shaft columns.width place ++ codes "|"
    ++ free_columns columns.width (columns.count - 1 - place)
columns_text columns (Out to) =
    let place = place_of columns.peers to in
    codes "|" ++ shaft columns.width place ++ codes ">|"
    ++ free_columns columns.width (columns.count - 1 - place)
columns_text columns Own = codes "*" ++ free_columns columns.width columns.count

-- at most 100 characters
unfoldable pub row_text : Columns → Line → List ℕ
row_text columns line =
    take 100 (moment_text line.moment ++ columns_text columns line.way ++ codes "  " ++ line.label)

unfoldable pub row_line : Columns → Line → List ℕ
row_line columns line = row_text columns line ++ codes "\n"
