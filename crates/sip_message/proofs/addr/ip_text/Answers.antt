-- `ip_text`: the text of an IP address is the value of a parameter.
use Rattle.std.proofs.Common.{◌≡◌, rules, arith}
use Rattle.sip_message.specs.Ip.{ip_text}
use Rattle.sip_message.proofs.Stamps.{ip_is_value}
use Rattle.sip_message.proofs.addr.ip_text.Goals as goal

pub returns-clause-rule : goal.returns-clause-rule
returns-clause-rule c =
    let e : c.push_octet-4.new.text.items ≡ ip_text c.args.ip = search rules in
    rw e (ip_is_value c.args.ip (omega arith) (omega arith) (omega arith) (omega arith))
