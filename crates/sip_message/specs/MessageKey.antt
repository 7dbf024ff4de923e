-- The key of a message (RFC 3261, sections 17.1.3 and 17.2.3).
use Rattle.std.specs.Prelude.{ℕ, List, codes, if◌then◌else◌}
use Rattle.std.specs.Str.{bytes_eq}
use Rattle.sip_message.specs.declared.start_line.StartLine.{StartLine}
use Rattle.sip_message.specs.declared.start_line.StartLine.TheVariants.{Request, Response}
use Rattle.sip_message.specs.declared.key.Key.{Key}
use Rattle.sip_message.specs.declared.message.Message.{Message}
use Rattle.sip_message.specs.Key.{client_key, server_key}
use Rattle.sip_message.specs.TopVia.{top_branch, top_host, top_port}

-- an ACK belongs to the transaction of its INVITE
unfoldable pub transaction_method : List ℕ → List ℕ
transaction_method method = if bytes_eq method (codes "ACK") then codes "INVITE" else method

-- the key from these parts: of a request a server transaction's, of a response a client's
abbrev pub key_at : StartLine → List ℕ → List ℕ → ℕ → List ℕ → Key
key_at (Request uri) branch host port method =
    server_key branch host port (transaction_method method)
key_at (Response status reason) branch host port method = client_key branch method

-- A response: its top branch and the method of its CSeq. A request: its top branch and sent-by, and
-- its method.
unfoldable pub key_of_message : Message → Key
key_of_message m = key_at m.start (top_branch m) (top_host m) (top_port m) m.cseq.method
