use Rattle.std.proofs.Common.{ap, ◌∙◌}
use Rattle.std.specs.Option.{option_map}
use Rattle.fields.specs.Walks.{held}
use Rattle.fields.proofs.Few.{rows_by}
use Rattle.fields.proofs.walks.read_fields.Goals as goal

pub returns-in_err-ok : goal.returns-in_err-ok
returns-in_err-ok c =
    ap (option_map held) c.from_residual.ensures ∙ ap (option_map (λ u. held c.read_children.new.rows)) c.in_err-ok.ensures.value
    ∙ rows_by c.args.bytes.now c.args.fields c.read_children.result (held c.new-rows.result) (held c.read_children.new.rows) c.new-rows.ensures c.read_children.new.rows.few c.read_children.ensures

pub returns : goal.returns
returns c =
    ap (option_map (λ u. held c.read_children.new.rows)) c.in_ok-ok.ensures.value
    ∙ rows_by c.args.bytes.now c.args.fields c.read_children.result (held c.new-rows.result) (held c.read_children.new.rows) c.new-rows.ensures c.read_children.new.rows.few c.read_children.ensures
