use Rattle.std.proofs.Common.{◌≡◌, ◌*◌, ◌^◌, ◌<◌, length, ap, ◌∙◌, mul_comm, arith, rules}
use Rattle.message.proofs.Listed.{read_listed, past_listed}
use Rattle.message.proofs.lists.ItemsItemList.get.Goals as goal

pub returns-in_err-checked_mul : goal.returns-in_err-checked_mul
returns-in_err-checked_mul g c =
    let bs = c.args.self.now.bytes.now in
    let short : length bs < 2 ^ 64 = search rules in
    let large : c.args.k * g.T.Little.WIDTH < 2 ^ 64 → ⊥ = search rules in
    c.from_residual.ensures ∙ past_listed g.T.Little.WIDTH g.T.Little.number bs (g.T.Little.number_at bs) g.met.T.Little.positive (g.met.T.Little.whole bs) (g.met.T.Little.cut bs) c.args.k (omega (arith, short, large, mul_comm g.T.Little.WIDTH c.args.k))

pub returns : goal.returns
returns g c =
    let bs = c.args.self.now.bytes.now in
    let place : c.in_ok-checked_mul.field-0 ≡ c.args.k * g.T.Little.WIDTH = search rules in
    c.read_at.ensures ∙ ap (g.T.Little.number_at bs) (place ∙ mul_comm c.args.k g.T.Little.WIDTH) ∙ read_listed g.T.Little.WIDTH g.T.Little.number bs (g.T.Little.number_at bs) g.met.T.Little.positive (g.met.T.Little.whole bs) (g.met.T.Little.cut bs) c.args.k
