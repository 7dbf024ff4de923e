-- `push_failed_server` writes the line of a failed send with a server's key.
use Rattle.std.proofs.Common.{rules, codes}
use Rattle.sip_files.specs.Field.{number_field, plain_field, word_field}
use Rattle.sip_files.proofs.Pushed.{after_two}
use Rattle.sip_files.proofs.events_writer.push_failed_server.Goals as goal

pub returns : goal.returns
returns c =
    after_two c.push_plain.result c.args.file.now.items c.extend_from_slice.new.self.items
    c.push_text.new.file.items c.push_sent_by.new.file.items c.push_plain.new.file.items
    (codes "failed server") (word_field c.args.branch.now)
    (word_field c.args.sent_by.now.host) (number_field c.args.sent_by.now.port)
    (plain_field c.args.method.now) c.in_ok-extend_from_slice.ensures.items (search rules)
    (search rules) (search rules)
