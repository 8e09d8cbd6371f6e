-- The fifteen kinds of rows, by their numbers.
use Rattle.std.specs.Prelude.{ℕ, List, [], ◌∷◌}
use Rattle.schemas.specs.declared.kinds.Kind.{Kind}
use Rattle.schemas.specs.declared.kinds.Kind.TheVariants.{Null, Bool, Fixed, Binary, LargeBinary, View, List as ListKind, LargeList, ListView, LargeListView, FixedSizeList, Struct, Dictionary, SparseUnion, DenseUnion}

abbrev pub kinds : List (ℕ × Kind)
kinds =
    (1, Null) ∷ (2, Bool) ∷ (3, Fixed) ∷ (4, Binary) ∷ (5, LargeBinary) ∷ (6, View) ∷ (7, ListKind) ∷ (8, LargeList)
    ∷ (9, ListView) ∷ (10, LargeListView) ∷ (11, FixedSizeList) ∷ (12, Struct) ∷ (13, Dictionary) ∷ (14, SparseUnion)
    ∷ (15, DenseUnion) ∷ []
