-- `Host::command`: an event more, or why there is none.
use Rattle.std.proofs.Common.{◌≡◌, ◌<◌, ◌+◌, ◌++◌, ◌∷◌, [], Some, ap, sym, ◌∙◌, subst, length, length-append, arith}
use Rattle.sip_files.specs.Given.{with_given}
use Rattle.sip_round.specs.declared.round.Event.TheVariants.{Command}
use Rattle.sip_host.specs.Asking.{Makes, TakesCommand, command_of, without_headers}
use Rattle.sip_host.specs.Hosting.{with_events}
use Rattle.sip_host.proofs.Commands.{err_is, is_added, not_added, not_made, room_of}
use Rattle.sip_host.proofs.Fitting.{command_fits}
use Rattle.sip_host.proofs.host.Host.command.Goals as goal

pub push-requires : goal.push-requires
push-requires c =
    command_fits c.args.fields.now c.in_ok-command.command c.in-Some.command
    c.take_headers-headers.result
    (subst (Makes (command_of c.args.fields.now)) c.in_ok-command.was c.command_of.ensures)
    (cc (c.in_ok-command-2.ensures, c.in-Some.is))

pub returns-in_err-command : goal.returns-in_err-command
returns-in_err-command c =
    let left : c.take_headers-headers.new.self ≡ without_headers c.args.self.now =
    c.take_headers-headers.ensures.left in
    let within : length c.take_headers-headers.new.self.events < 65536 =
    room_of _ _ (sym c.has_room.ensures ∙ c.in_ok-has_room.was) in
    let same = ap (λ host. length host.events) left in
    let room : length c.args.self.now.events < 65536 = omega arith in
    subst (TakesCommand (command_of c.args.fields.now) c.args.self.now
    c.take_headers-headers.new.self)
    (sym (err_is _ _ c.from_residual-in_err-command.ensures.1))
    (not_made (command_of c.args.fields.now) c.args.self.now c.take_headers-headers.new.self _
    room left (subst (Makes (command_of c.args.fields.now)) c.in_err-command.was
    c.command_of.ensures))

pub returns-in_err-push : goal.returns-in_err-push
returns-in_err-push c =
    let left : c.take_headers-headers.new.self ≡ without_headers c.args.self.now =
    c.take_headers-headers.ensures.left in
    let within : length c.take_headers-headers.new.self.events < 65536 =
    room_of _ _ (sym c.has_room.ensures ∙ c.in_ok-has_room.was) in
    let same = ap (λ host. length host.events) left in
    let room : length c.args.self.now.events < 65536 = omega arith in
    let kept : record c.take_headers-headers.new.self { events = c.push.new.self }
    ≡ without_headers c.args.self.now =
    ap (λ events. record c.take_headers-headers.new.self { events = events })
    c.in_err-push.ensures.err ∙ left in
    subst (TakesCommand (command_of c.args.fields.now) c.args.self.now
    (record c.take_headers-headers.new.self { events = c.push.new.self }))
    (sym (err_is _ _ c.from_residual-in_err-push.ensures.1))
    (not_added (command_of c.args.fields.now) c.in_ok-command.command c.args.self.now
    (record c.take_headers-headers.new.self { events = c.push.new.self }) room kept
    (subst (Makes (command_of c.args.fields.now)) c.in_ok-command.was c.command_of.ensures))

pub returns : goal.returns
returns c =
    let left : c.take_headers-headers.new.self ≡ without_headers c.args.self.now =
    c.take_headers-headers.ensures.left in
    let within : length c.take_headers-headers.new.self.events < 65536 =
    room_of _ _ (sym c.has_room.ensures ∙ c.in_ok-has_room.was) in
    let same = ap (λ host. length host.events) left in
    let room : length c.args.self.now.events < 65536 = omega arith in
    let given : with_given c.args.self.now.headers c.in_ok-command.command
    ≡ Some c.in-Some.command =
    cc (c.in_ok-command-2.ensures, c.in-Some.is, c.take_headers-headers.ensures.taken) in
    let pushed : c.push.new.self
    ≡ c.take_headers-headers.new.self.events ++ Command c.in-Some.command ∷ [] =
    c.in_ok-push.ensures.ok in
    let round : c.next_round-round.result ≡ c.args.self.now.agent.next_round =
    c.next_round-round.ensures ∙ ap (λ host. host.agent.next_round) left in
    let place : c.len-place.result ≡ length c.args.self.now.events + 1 =
    c.len-place.ensures ∙ ap length pushed
    ∙ length-append c.take_headers-headers.new.self.events (Command c.in-Some.command ∷ [])
    ∙ ap (λ host. length host.events + 1) left in
    is_added (command_of c.args.fields.now) c.in_ok-command.command c.in-Some.command
    c.args.self.now (record c.take_headers-headers.new.self { events = c.push.new.self }) _
    room (subst (Makes (command_of c.args.fields.now)) c.in_ok-command.was c.command_of.ensures)
    given
    (ap (λ events. record c.take_headers-headers.new.self { events = events }) pushed
    ∙ ap (λ host. with_events host (Command c.in-Some.command ∷ [])) left)
    cc
