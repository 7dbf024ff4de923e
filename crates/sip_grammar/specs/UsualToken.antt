-- The bytes of the tokens that most messages have.
use Rattle.std.specs.Prelude.{ℕ, List, codes}
use Rattle.sip_grammar.specs.declared.usual_token.UsualToken.{UsualToken}
use Rattle.sip_grammar.specs.declared.usual_token.UsualToken.TheVariants as usual

abbrev pub bytes_of : UsualToken → List ℕ
bytes_of usual.Udp = codes "UDP"
bytes_of usual.Tag = codes "tag"
bytes_of usual.Ack = codes "ACK"
bytes_of usual.Bye = codes "BYE"
bytes_of usual.Tcp = codes "TCP"
bytes_of usual.Tls = codes "TLS"
bytes_of usual.Info = codes "INFO"
bytes_of usual.Rport = codes "rport"
bytes_of usual.Prack = codes "PRACK"
bytes_of usual.Timer = codes "timer"
bytes_of usual.Branch = codes "branch"
bytes_of usual.Invite = codes "INVITE"
bytes_of usual.Cancel = codes "CANCEL"
bytes_of usual.Reliable = codes "100rel"
bytes_of usual.Options = codes "OPTIONS"
bytes_of usual.Received = codes "received"
