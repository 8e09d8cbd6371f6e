use Rattle.std.proofs.Common.{◌≡◌, ap, ◌∙◌}
use Rattle.message.specs.Items.{rows_in, nodes_in, buffers_in, counts_in}
use Rattle.slip.specs.Shown.{lists_in}
use Rattle.slip.specs.Slips.{told}
use Rattle.slip.proofs.Meant.{rows_meant, nodes_meant, buffers_meant, counts_meant, rows_none, nodes_none, buffers_none, counts_none}
use Rattle.slip.proofs.parts.told_parts.Goals as goal

pub returns-in-Some : goal.returns-in-Some
returns-in-Some c =
    let bs = c.args.bytes.now in
    let l = lists_in c.in-Some.slip.parts in
    let s = c.in-Some.ensures.lists in
    let kind : c.told.result ≡ told 1 bs 2 = c.told.ensures ∙ ap (λ b. told 1 b 2) c.in-Some.ensures.bytes in
    record {
      rows = rows_meant bs l s c.told.result kind (lists_in c.chosen.result) c.chosen.ensures;
      nodes = nodes_meant bs l s c.told.result kind (lists_in c.chosen.result) c.chosen.ensures;
      buffers = buffers_meant bs l s c.told.result kind (lists_in c.chosen.result) c.chosen.ensures;
      counts = counts_meant bs l s c.told.result kind (lists_in c.chosen.result) c.chosen.ensures;
    }

pub returns-in-None : goal.returns-in-None
returns-in-None c =
    let bs = c.args.bytes.now in
    let s = c.in-None.ensures.lists in
    record {
      rows = ap rows_in c.default.ensures.0.0 ∙ rows_none bs s;
      nodes = ap nodes_in c.default.ensures.1.0.0 ∙ nodes_none bs s;
      buffers = ap buffers_in c.default.ensures.1.1.0.0 ∙ buffers_none bs s;
      counts = ap counts_in c.default.ensures.1.1.1.0 ∙ counts_none bs s;
    }
