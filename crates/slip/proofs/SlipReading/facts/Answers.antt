use Rattle.std.proofs.Common.{◌≡◌, Some, None, Err, rules, ◌∙◌, ap}
use Rattle.slip.specs.Shown.{lists_in}
use Rattle.slip.specs.Slips.{message_of, slip_lists}
use Rattle.message.specs.Messages.{facts_of}
use Rattle.slip.proofs.Meant.{facts_refused, facts_meant}
use Rattle.slip.proofs.SlipReading.facts.Goals as goal

pub returns-in_err-ok_or : goal.returns-in_err-ok_or
returns-in_err-ok_or c =
    let e : None ≡ slip_lists c.args.bytes.now = search rules in
    let f : c.from_residual.result ≡ Err (record {}) = search rules in
    f ∙ facts_refused c.args.bytes.now e

pub returns : goal.returns
returns c =
    let m = c.in_ok-ok_or.field-0 in
    let r : c.of.result ≡ Some m = search rules in
    let e : Some (lists_in m.parts) ≡ slip_lists c.args.bytes.now = search rules in
    let b = rw r at c.of.ensures.bytes in
    facts_meant c.args.bytes.now (lists_in m.parts) c.facts.result (c.facts.ensures ∙ ap (λ bs. facts_of (Some (message_of bs (lists_in m.parts)))) b) e
