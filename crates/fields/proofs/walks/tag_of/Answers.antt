use Rattle.std.proofs.Common.{◌+◌, ◌*◌, sym, ap, ◌∙◌, rules}
use Rattle.fields.specs.Fields.{tag_of}
use Rattle.fields.proofs.Held.{byte_read}
use Rattle.fields.proofs.walks.tag_of.Goals as goal

pub returns-in-Listed : goal.returns-in-Listed
returns-in-Listed c =
    c.unwrap_or.ensures ∙ byte_read c.args.bytes.now (c.in-Listed.at + (4 + 4 * c.args.k)) c.checked_add.result c.and_then.result (search rules) c.checked_add.ensures (search rules)
    ∙ ap (λ t. tag_of c.args.bytes.now t c.args.k) (sym c.in-Listed.is)
