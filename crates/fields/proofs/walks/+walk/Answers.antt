use Rattle.std.proofs.Common.{◌∙◌, sym, ap, arith, w64, SFits, rules}
use Rattle.std.proofs.lemmas.Int.{to_z-of_z}
use Rattle.fields.specs.Walks.{kids_of, row_of, walk_at}
use Rattle.fields.proofs.Walked.{refused, none_over, reads_as, no_item, field_over, field_read, none_yet, all_read, walk_none, walk_no_field, walk_plain, walk_flat, walk_indexed, plain_read, indexed_read}
use Rattle.fields.proofs.walks.+walk.Goals as goal

pub read_children-returns-in_err-at : goal.read_children-returns-in_err-at
read_children-returns-in_err-at t c =
    refused c.from_residual.result _ c.from_residual.ensures.0 (no_item c.loop-k.invariant (omega arith) (sym c.in_err-at.ensures.ok_part ∙ c.item.ensures))

pub read_children-returns-in_err-read_field : goal.read_children-returns-in_err-read_field
read_children-returns-in_err-read_field t c =
    refused c.from_residual-in_err-read_field.result _ c.from_residual-in_err-read_field.ensures.0
    (field_over c.loop-k.invariant (omega arith) (sym c.in_ok-at.ensures.ok_part ∙ c.item.ensures) c.tag_of.ensures (record { over = c.in_err-read_field.ensures }))

pub read_children-loop-k-init : goal.read_children-loop-k-init
read_children-loop-k-init t c = none_yet _ _ _ _ _ _

pub read_children-loop-k-preserved : goal.read_children-loop-k-preserved
read_children-loop-k-preserved t c =
    field_read c.loop-k.invariant (omega arith) (sym c.in_ok-at.ensures.ok_part ∙ c.item.ensures) c.tag_of.ensures _ c.in_ok-read_field.ensures

pub read_children-returns : goal.read_children-returns
read_children-returns t c = all_read c.loop-k.invariant (omega arith)

pub read_field-returns-then-depth-eq0 : goal.read_field-returns-then-depth-eq0
read_field-returns-then-depth-eq0 t c = (none_over (walk_none _ _ _ _ c.args.depth c.if-depth-eq0.true)).over

pub read_field-returns-in_err-field : goal.read_field-returns-in_err-field
read_field-returns-in_err-field t c =
    refused c.from_residual.result _ c.from_residual.ensures.0 (none_over (walk_no_field _ _ _ _ c.args.depth (sym c.in_err-field.ensures.ok_part ∙ c.field_at.ensures)))

pub read_field-returns-in-Some : goal.read_field-returns-in-Some
read_field-returns-in-Some t c =
    (none_over (walk_flat _ _ _ _ _ (sym c.in_ok-field.ensures.ok_part ∙ c.field_at.ensures) c.args.depth c.if-depth-eq1.true c.in-Some.is)).over

pub read_field-returns-in-None : goal.read_field-returns-in-None
read_field-returns-in-None t c =
    reads_as c.read_plain.result _ _ (walk_plain _ _ _ _ _ (sym c.in_ok-field.ensures.ok_part ∙ c.field_at.ensures) c.args.depth (omega arith) c.in-None.is) c.read_plain.ensures

pub read_field-returns-in-Some-2 : goal.read_field-returns-in-Some-2
read_field-returns-in-Some-2 t c =
    reads_as c.read_indexed.result _ _ (walk_indexed _ _ _ _ _ (sym c.in_ok-field.ensures.ok_part ∙ c.field_at.ensures) c.args.depth (omega arith) c.in-Some-2.is) c.read_indexed.ensures

pub read_plain-returns : goal.read_plain-returns
read_plain-returns t c =
    plain_read (kids_of (walk_at c.args.depth c.args.bytes.now) c.args.bytes.now c.args.field) c.args.tag c.args.field.shape.row _ _ _ c.in_ok-push.ensures _ _ _ _ _ c.in_ok-read_children.ensures c.len-own.ensures.value c.len-end.ensures.value c.row_of.ensures c.put.ensures

pub read_indexed-returns : goal.read_indexed-returns
read_indexed-returns t c =
    let f : SFits w64 c.args.index.id = search rules in
    let own = c.row_of.ensures ∙ ap (λ id. row_of c.args.index.row c.args.tag id c.len-end.result) (to_z-of_z w64 c.args.index.id f) in
    indexed_read (kids_of (walk_at c.args.depth c.args.bytes.now) c.args.bytes.now c.args.field) c.args.tag c.args.index c.args.field.shape.row _ _ _ c.in_ok-push.ensures _ _ c.in_ok-push-2.ensures _ _ _ _ _ _ _ c.in_ok-read_children.ensures c.len-own.ensures.value c.len-end.ensures.value own c.row_of-2.ensures c.put.ensures c.put-2.ensures
