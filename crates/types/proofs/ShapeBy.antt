-- The shape of a type by its number.
use Rattle.std.proofs.Common.{◌≡◌, ℕ, cond, eqb, List, Some, None, Option, sym, ap, ◌∙◌}
use Rattle.std.proofs.lemmas.Bool.{ne_eqb}
use Rattle.tables.specs.declared.Table.{Table}
use Rattle.types.specs.declared.shapes.TableType.{TableType}
use Rattle.types.specs.declared.shapes.Typed.{Typed}
use Rattle.types.specs.Choices.{beside}
use Rattle.types.specs.Types.{plain_rows, table_types, plainly, or_plain, or_table, by_table, union_shape, map_shape, shape_of}

module _ (bs : List ℕ) (f : Table) (n : ℕ) where
  pub shape_plain : (number : ℕ) (r : Typed) → Some r ≡ beside plain_rows number → Some (plainly r) ≡ shape_of bs f number n
  unfolding shape_of
  shape_plain number r p = ap (λ o. or_plain o (cond (eqb number 14) (by_table bs f (union_shape n bs)) (cond (eqb number 17) (map_shape bs f) (or_table bs f (beside table_types number))))) p

  pub shape_union : (number : ℕ) → number ≡ 14 → by_table bs f (union_shape n bs) ≡ shape_of bs f number n
  unfolding shape_of
  shape_union number e = ap (λ k. shape_of bs f k n) (sym e)

  pub shape_map : (number : ℕ) → number ≡ 17 → map_shape bs f ≡ shape_of bs f number n
  unfolding shape_of
  shape_map number e = ap (λ k. shape_of bs f k n) (sym e)

  pub shape_table : (number : ℕ) (o : Option TableType) → None ≡ beside plain_rows number → (number ≡ 14 → ⊥) → (number ≡ 17 → ⊥) → o ≡ beside table_types number → or_table bs f o ≡ shape_of bs f number n
  unfolding shape_of
  shape_table number o p u m t =
      ap (or_table bs f) t
      ∙ ap (λ b. cond b (map_shape bs f) (or_table bs f (beside table_types number))) (sym (ne_eqb number 17 m))
      ∙ ap (λ b. cond b (by_table bs f (union_shape n bs)) (cond (eqb number 17) (map_shape bs f) (or_table bs f (beside table_types number)))) (sym (ne_eqb number 14 u))
      ∙ ap (λ q. or_plain q (cond (eqb number 14) (by_table bs f (union_shape n bs)) (cond (eqb number 17) (map_shape bs f) (or_table bs f (beside table_types number))))) p
