use Rattle.std.proofs.Common.{◌≡◌, ◌*◌, ◌^◌, ◌<◌, length, ap, ◌∙◌, sym, arith, rules}
use Rattle.std.specs.Option.{option_map}
use Rattle.tables.proofs.Places.{behind, cut, long}
use Rattle.tables.proofs.vector.Goals as goal

pub returns-in_err-checked_mul : goal.returns-in_err-checked_mul
returns-in_err-checked_mul c =
    let short : length c.args.bytes.now < 2 ^ 64 = search rules in
    let large : c.in_ok-count.count * c.args.width < 2 ^ 64 → ⊥ = search rules in
    ap (option_map (λ p. p.now)) c.from_residual-in_err-checked_mul.ensures ∙ sym (long c.args.bytes.now c.args.at c.args.width c.in_ok-count.count c.in_ok-count.ensures (omega (arith, short, large)))

pub returns : goal.returns
returns c =
    let rest = behind c.args.bytes.now c.args.at c.in_ok-get.field-0 c.in_ok-items.items c.in_ok-get.ensures.lookup c.in_ok-items.ensures.lookup in
    let size : c.in_ok-checked_mul.field-0 ≡ c.in_ok-count.count * c.args.width = search rules in
    cut c.args.bytes.now c.args.at c.args.width c.in_ok-count.count c.in_ok-count.ensures c.in_ok-items.items.now c.get-3.result rest.0 rest.1 (rw size at c.get-3.ensures.lookup)
