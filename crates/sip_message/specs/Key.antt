-- The key that identifies a transaction (RFC 3261, sections 17.1.3 and 17.2.3).
use Rattle.std.specs.Prelude.{ℕ, List, [], ◌∷◌, ◌++◌}
use Rattle.std.specs.Hash as fed
use Rattle.std.specs.Hash.{HashWrites}
use Rattle.std.specs.Str.{str_to_ascii_lowercase}
use Rattle.std.specs.declared.cmp.Ordering.{Ordering}
use Rattle.std.specs.Ordering.{nat_cmp, on, then_cmp}
use Rattle.std.specs.Cmp.{IsTotalOrder}
use Rattle.std.specs.Cmp.Lexicographic.{slice_cmp}
use Rattle.std.proofs.lemmas.Cmp.{on_total, then_total, nat_cmp_total, nat_list_cmp_total}
use Rattle.sip_message.specs.declared.key.Key.{Key}
use Rattle.sip_message.specs.declared.key.Key.TheVariants.{Client, Server}

-- the key of a client transaction: the branch in lower case, and the method
abbrev pub client_key : List ℕ → List ℕ → Key
client_key branch method = Client (str_to_ascii_lowercase branch) method

-- the key of a server transaction: the branch and the host in lower case, the port, and the method
abbrev pub server_key : List ℕ → List ℕ → ℕ → List ℕ → Key
server_key branch host port method =
    Server (str_to_ascii_lowercase branch)
    (record { host = str_to_ascii_lowercase host; port = port }) method

-- client keys come first
abbrev pub side_of : Key → ℕ
side_of (Client branch method) = 0
side_of (Server branch sent_by method) = 1

-- the branch of a key
abbrev pub branch_in : Key → List ℕ
branch_in (Client branch method) = branch
branch_in (Server branch sent_by method) = branch

-- the host of the sent-by of a server transaction's key; a client's key has none
abbrev pub host_in : Key → List ℕ
host_in (Client branch method) = []
host_in (Server branch sent_by method) = sent_by.host

-- the port of that sent-by
abbrev pub port_in : Key → ℕ
port_in (Client branch method) = 0
port_in (Server branch sent_by method) = sent_by.port

-- the method of a key
abbrev pub method_in : Key → List ℕ
method_in (Client branch method) = method
method_in (Server branch sent_by method) = method

-- keys in order: by side, branch, host, port and method
abbrev pub key_cmp : Key → Key → Ordering
key_cmp =
    then_cmp (then_cmp (then_cmp (then_cmp (on side_of nat_cmp) (on branch_in (slice_cmp nat_cmp)))
    (on host_in (slice_cmp nat_cmp))) (on port_in nat_cmp)) (on method_in (slice_cmp nat_cmp))

-- what a key writes to a hasher: all its parts, each whole, since a peer chooses all of them
abbrev pub key_writes : Key → HashWrites
key_writes key = branch_in key ∷ host_in key ∷ (fed.u16 (port_in key) ++ method_in key ∷ [])

pub keys_total : IsTotalOrder key_cmp
keys_total =
    then_total (then_total (then_total
    (then_total (on_total side_of nat_cmp_total) (on_total branch_in nat_list_cmp_total))
    (on_total host_in nat_list_cmp_total)) (on_total port_in nat_cmp_total))
    (on_total method_in nat_list_cmp_total)
