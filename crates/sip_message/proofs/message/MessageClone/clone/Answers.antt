-- `MessageClone::clone` gives an equal message.
use Rattle.std.proofs.Common.{rules, ◌≡◌}
use Rattle.sip_message.proofs.Copies.{copied}
use Rattle.sip_message.proofs.message.MessageClone.clone.Goals as goal

pub returns : goal.returns
returns c =
    -- first, while there is little to search in
    let rack : c.in_ok-clone-12.field-0 ≡ c.args.self.now.rack = search rules in
    let old = c.args.self.now in
    let contacts = c.in_ok-clone-7.ensures.cases in
    let record_routes = c.in_ok-clone-8.ensures.cases in
    let routes = c.in_ok-clone-9.ensures.cases in
    let require = c.in_ok-clone-10.ensures.cases in
    let supported = c.in_ok-clone-11.ensures.cases in
    let others = c.in_ok-clone-13.ensures.cases in
    let body = c.in_ok-clone-14.ensures.cases in
    record {
      cases = λ i. record old {
        start = c.in_ok-clone.ensures.cases i;
        vias = c.in_ok-clone-2.ensures.cases i;
        from = c.in_ok-clone-3.ensures.cases i;
        to = c.in_ok-clone-4.ensures.cases i;
        call_id = c.in_ok-clone-5.ensures.cases i;
        cseq = c.in_ok-clone-6.ensures.cases i;
        contacts = copied contacts.2 contacts.3 contacts.4.0 i;
        record_routes = copied record_routes.2 record_routes.3 record_routes.4.0 i;
        routes = copied routes.2 routes.3 routes.4.0 i;
        require = copied require.2 require.3 require.4.0 i;
        supported = copied supported.2 supported.3 supported.4.0 i;
        rack = rack i;
        others = copied others.2 others.3 others.4.0 i;
        body = copied body.2 body.3 body.4.0 i;
      };
    }
