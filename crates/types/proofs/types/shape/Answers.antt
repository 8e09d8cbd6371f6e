use Rattle.std.proofs.Common.{◌≡◌, Some, None, ap, ◌∙◌, rules}
use Rattle.std.specs.Option.{option_map}
use Rattle.types.specs.Types.{plainly, row_of, table_shape, union_shape, unknown}
use Rattle.types.proofs.ShapeBy.{shape_plain, shape_union, shape_map, shape_table}
use Rattle.types.proofs.types.shape.Goals as goal

pub returns-in-Some : goal.returns-in-Some
returns-in-Some c = ap Some c.plain.ensures ∙ shape_plain c.args.field.bytes.now c.args.field.table c.args.children c.args.number c.in-Some.row c.in-Some.ensures

pub returns-in-14 : goal.returns-in-14
returns-in-14 c =
    c.by_table.ensures (union_shape c.args.children c.args.field.bytes.now) (λ t e r p. search rules)
    ∙ shape_union c.args.field.bytes.now c.args.field.table c.args.children c.args.number c.in-14.is

pub returns-in-17 : goal.returns-in-17
returns-in-17 c = c.map_shape.ensures ∙ shape_map c.args.field.bytes.now c.args.field.table c.args.children c.args.number c.in-17.is

pub returns-in-Some-table_type : goal.returns-in-Some-table_type
unfolding table_shape
returns-in-Some-table_type c =
    c.by_table-in-Some-table_type.ensures (λ t. option_map plainly (row_of c.in-Some-table_type.of c.args.field.bytes.now t)) (λ t e r p. search rules)
    ∙ shape_table c.args.field.bytes.now c.args.field.table c.args.children c.args.number (Some c.in-Some-table_type.of) c.in_default.ensures (search rules) (search rules) c.in-Some-table_type.ensures

pub returns-in-None : goal.returns-in-None
returns-in-None c =
    let e : c.plain-in-None.result ≡ plainly unknown = search rules in
    ap Some e ∙ shape_table c.args.field.bytes.now c.args.field.table c.args.children c.args.number None c.in_default.ensures (search rules) (search rules) c.in-None.ensures
