-- The rows of a schema, which are few.
use Rattle.std.proofs.Common.{◌≡◌, ℕ, ◌<◌, ◌≤◌, List, [], ◌++◌, length, Some, None, Ok, Err, Option, Result, sym, refl, ap, ◌∙◌, arith}
use Rattle.std.specs.Option.{option_map}
use Rattle.std.specs.Result.{result_ok}
use Rattle.std.proofs.lemmas.Bool.{le-leb, lt-leb}
use Rattle.message.specs.declared.rows.Row.{Row}
use Rattle.types.specs.declared.shapes.Tags.TheVariants.{Zero}
use Rattle.fields.specs.declared.parts.Children.{Children}
use Rattle.fields.specs.declared.parts.Refused.{Refused}
use Rattle.fields.specs.Walks.{Reads, child_rows, few, rows_at, walk_at}

few_none : (o : Option (List Row)) → ((rows : List Row) → o ≡ Some rows → 256 < length rows) → few o ≡ None
few_none None h = refl
few_none (Some rows) h = rw (few, lt-leb (length rows) 256 (h rows refl))

few_some : (rows : List Row) → length rows ≤ 256 → few (Some rows) ≡ Some rows
few_some rows h = rw (few, le-leb (length rows) 256 h)

-- what reading into an empty table answers
pub rows_by : (bs : List ℕ) (fields : Children) (r : Result (Unit {0}) Refused) (xs xs' : List Row) → xs ≡ [] → length xs' ≤ 256 → Reads (child_rows (walk_at 16 bs) bs Zero fields.at fields.count 0 (length xs)) r xs xs' → option_map (λ u. xs') (result_ok r) ≡ rows_at bs fields
unfolding rows_at
rows_by bs fields (Err f) xs xs' e h reads =
    let all : ℕ → Option (List Row) = λ before. child_rows (walk_at 16 bs) bs Zero fields.at fields.count 0 before in
    sym (few_none (all 0) (λ rows d. let k = reads rows (ap (λ ys. all (length ys)) e ∙ d) in omega (arith, k, ap length e)))
rows_by bs fields (Ok u) xs xs' e h reads =
    let all : ℕ → Option (List Row) = λ before. child_rows (walk_at 16 bs) bs Zero fields.at fields.count 0 before in
    let is : xs' ≡ reads.0 = reads.2 ∙ ap (λ ys. ys ++ reads.0) e in
    let got : all 0 ≡ Some xs' = ap (λ ys. all (length ys)) (sym e) ∙ reads.1 ∙ ap Some (sym is) in
    sym (ap few got ∙ few_some xs' h)
