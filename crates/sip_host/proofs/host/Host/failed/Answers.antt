-- `Host::failed` tells the agent of a failed send, if the send belongs to a transaction.
use Rattle.std.proofs.Common.{◌≡◌, Some, None, ap, subst, rules}
use Rattle.std.specs.List.{slice_get}
use Rattle.sip_host.specs.Hosting.{output_at}
use Rattle.std.specs.Prelude.{IsSomeAnd}
use Rattle.std.specs.Option.{option_map, option_to_list}
use Rattle.sip_host.specs.Handing.{sent_key, told_failure}
use Rattle.sip_host.proofs.Failures.{a_send, item_got, nothing_added, reported}
use Rattle.sip_host.proofs.host.Host.failed.Goals as goal

pub returns-in_default-2 : goal.returns-in_default-2
returns-in_default-2 c =
    let at : output_at c.args.self.now c.args.output ≡ Some c.in-Some.placed.now.output =
    ap (option_map (λ placed. placed.output))
    (subst (λ items. slice_get items c.args.output ≡ Some c.in-Some.placed.now)
    c.deref.ensures.value (item_got c.deref.result.now c.args.output c.in-Some.placed.now
    c.in-Some.ensures.lookup.3.0 c.in-Some.ensures.lookup.1)) in
    record {
      no_send = search rules;
      told =
          reported c.in-Some.placed.now.output None
          (subst (λ told. IsSomeAnd (sent_key (Some c.in-Some.placed.now.output))
          (λ key. option_to_list told ≡ told_failure key)) c.in_default-2.is
          c.in_ok-event.ensures.told)
          _ at c.args.self.now _ (nothing_added c.args.self.now);
      same = search rules;
      fault = search rules;
    }

pub returns-in_err-add : goal.returns-in_err-add
returns-in_err-add c =
    let at : output_at c.args.self.now c.args.output ≡ Some c.in-Some.placed.now.output =
    ap (option_map (λ placed. placed.output))
    (subst (λ items. slice_get items c.args.output ≡ Some c.in-Some.placed.now)
    c.deref.ensures.value (item_got c.deref.result.now c.args.output c.in-Some.placed.now
    c.in-Some.ensures.lookup.3.0 c.in-Some.ensures.lookup.1)) in
    record {
      no_send = λ none.
          absurd (a_send c.in-Some.placed.now.output c.in_ok-event.field-0
          c.in_ok-event.ensures.told _ at none);
      told = search rules;
      same = search rules;
      fault = search rules;
    }

pub returns : goal.returns
returns c =
    let at : output_at c.args.self.now c.args.output ≡ Some c.in-Some.placed.now.output =
    ap (option_map (λ placed. placed.output))
    (subst (λ items. slice_get items c.args.output ≡ Some c.in-Some.placed.now)
    c.deref.ensures.value (item_got c.deref.result.now c.args.output c.in-Some.placed.now
    c.in-Some.ensures.lookup.3.0 c.in-Some.ensures.lookup.1)) in
    record {
      no_send = λ none.
          absurd (a_send c.in-Some.placed.now.output c.in_ok-event.field-0
          c.in_ok-event.ensures.told _ at none);
      told =
          reported c.in-Some.placed.now.output (Some c.in-Some-2.event)
          (subst (λ told. IsSomeAnd (sent_key (Some c.in-Some.placed.now.output))
          (λ key. option_to_list told ≡ told_failure key)) c.in-Some-2.is
          c.in_ok-event.ensures.told)
          _ at c.args.self.now c.add.new.self c.in_ok-add.ensures.added;
      same = search rules;
      fault = search rules;
    }
