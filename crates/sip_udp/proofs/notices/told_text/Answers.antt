-- `told_text` has the header lines and the line of one output.
use Rattle.std.proofs.Common.{◌++◌, ap, ◌∙◌}
use Rattle.std.specs.List.{flat_map}
use Rattle.sip_udp.specs.Telling.{spelled_header, told_line}
use Rattle.sip_udp.proofs.notices.told_text.Goals as goal

pub returns : goal.returns
returns c =
    let line = told_line c.args.telling.drops c.args.events.now c.args.placed.now.output in
    record {
      headers = c.in_ok-headers.headers;
      of_datagram = c.in_ok-headers.ensures;
      spelled = c.in_ok-extend_from_slice.ensures.items
          ∙ ap (λ back. c.in_ok-text.text.items ++ back)
          (c.deref.ensures.value ∙ c.in_ok-line.ensures)
          ∙ ap (λ front. front ++ line)
          (c.in_ok-text.ensures ∙ ap (flat_map spelled_header) c.as_slice.ensures);
    }
