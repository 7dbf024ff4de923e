-- The head of a ladder: whose each column is, and a row with the names of the columns.
use Rattle.std.specs.Prelude.{ℕ, ◌-◌, ◌==◌, List, [], ◌++◌, length, codes, decimal, nat_lt, if◌then◌else◌}
use Rattle.std.specs.List.{enumerate_from, flat_map, range_with_len, repeat}
use Rattle.sip_message.specs.Addr.{addr_text}
use Rattle.sip_message.specs.declared.addr.Addr.{Addr}
use Rattle.sip_ladder.specs.declared.columns.Columns.{Columns}

-- a text at the right of so many characters
unfoldable pub at_right : ℕ → List ℕ → List ℕ
at_right width text = repeat (width - length text) (codes " ") ++ text

-- the name of a column, and who has it
unfoldable pub legend_line : List ℕ → List ℕ → List ℕ
legend_line name whose = at_right 10 name ++ codes "  " ++ whose ++ codes "\n"

-- each peer with the number of its column, from 1 on
abbrev pub peer_lines : List Addr → List ℕ
peer_lines peers =
    flat_map (λ p. legend_line (decimal p.0) (addr_text p.1)) (enumerate_from 1 peers)

-- the last column, if it belongs to no single peer
abbrev pub others_line : Columns → List ℕ
others_line columns =
    if nat_lt (length columns.peers) columns.count
    then legend_line (decimal columns.count) (codes "all others") else []

-- the number above a column; the agent's name before the first one has two characters
abbrev pub column_name : ℕ → ℕ → List ℕ
column_name width number =
    at_right (if number == 1 then width - 1 else width) (decimal number)

unfoldable pub names_line : Columns → List ℕ
names_line columns =
    codes "        ms  ua" ++ flat_map (column_name columns.width) (range_with_len 1 columns.count)
    ++ codes "\n"

-- the agent with its address, its peers, an empty line and the names
unfoldable pub head_text : Addr → Columns → List ℕ
head_text local columns =
    legend_line (codes "ua") (addr_text local) ++ peer_lines columns.peers ++ others_line columns
    ++ codes "\n" ++ names_line columns
