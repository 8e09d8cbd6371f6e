use Rattle.std.proofs.Common.{rules, tests, ◌≡◌, ◌/◌, nat_lt, length, arith, ap, ◌∙◌}
use Rattle.std.proofs.lemmas.Iterator.{YieldsList-from_slice}
use Rattle.std.proofs.lemmas.Iterator.Search.{all_from_yields_List}
use Rattle.std.specs.Simd.{first_chunks}
use Rattle.little.specs.Numbers.{le}
use Rattle.types.specs.Types.{ids_fit}
use Rattle.types.proofs.Ids.{all_fit}
use Rattle.types.proofs.unions.ids_fit.Goals as goal

pub returns : goal.returns
returns c =
    let n : length c.args.ids.now / 4 ≡ c.args.n = omega arith in
    all_from_yields_List (λ id. nat_lt (le id) 128) _ _ c.all.result c.all.ensures.ran (YieldsList-from_slice (first_chunks 4 (length c.args.ids.now / 4) c.args.ids.now) cc) (λ x b q k. search (rules, tests))
    ∙ all_fit (length c.args.ids.now / 4) c.args.ids.now ∙ ap (ids_fit c.args.ids.now) n
