-- A field of a schema by its own table: the slots of Field and DictionaryEncoding in Schema.fbs.
use Rattle.std.specs.Prelude.{ℕ, ◌+◌, ◌*◌, ◌%◌, cond, List, ℤ, pos, Some, None, Option, ◌==◌}
use Rattle.std.specs.Option.{option_map}
use Rattle.little.specs.Maybe.{and_then}
use Rattle.little.specs.Numbers.{number_in, u32_at}
use Rattle.tables.specs.declared.Table.{Table}
use Rattle.tables.specs.Tables.{table_at, u8_of, i64_of, target_of, vector_at}
use Rattle.types.specs.declared.shapes.Typed.{Typed}
use Rattle.types.specs.declared.shapes.Tags.{Tags}
use Rattle.types.specs.declared.shapes.Tags.TheVariants.{Zero, Counted, Listed}
use Rattle.types.specs.Types.{int_row, shape_of, typed, unknown}
use Rattle.fields.specs.declared.parts.Children.{Children}
use Rattle.fields.specs.declared.parts.Field.{Field}
use Rattle.fields.specs.declared.parts.Index.{Index}

-- children, or the fields of a schema: a vector of offsets, which lies within the bytes
abbrev pub children_at : List ℕ → Option ℕ → Option Children
children_at bs None = Some (record { at = 0; count = 0 })
children_at bs (Some p) = and_then (vector_at 4 bs p) (λ items. option_map (λ n. record { at = p; count = n }) (u32_at bs p))

unfoldable pub children_of : List ℕ → Table → ℕ → Option Children
children_of bs t slot = and_then (target_of bs t slot) (children_at bs)

-- the row of a dictionary field has kind 13, and the width and sign of its indices
abbrev pub index_row : Typed → ℤ → Index
index_row int id = cond (int.kind == 0) (record { row = unknown; id = pos 0 }) (record { row = typed 13 int.flag int.parameter; id = id })

-- without an index type the indices are signed and have 4 bytes
abbrev pub index_type : List ℕ → Option ℕ → Option Typed
index_type bs None = Some (typed 3 1 4)
index_type bs (Some p) = and_then (table_at bs p) (int_row bs)

-- id, indexType
unfoldable pub index_at : List ℕ → ℕ → Option Index
index_at bs p =
    and_then (table_at bs p) (λ d.
    and_then (i64_of (pos 0) bs d 0) (λ id.
    and_then (target_of bs d 1) (λ o.
    option_map (λ int. index_row int id) (index_type bs o))))

abbrev pub index_of : List ℕ → Option ℕ → Option (Option Index)
index_of bs None = Some None
index_of bs (Some p) = option_map Some (index_at bs p)

-- type_type, dictionary, children; the type's own table is in slot 3
unfoldable pub field_at : List ℕ → ℕ → Option Field
field_at bs p =
    and_then (table_at bs p) (λ t.
    and_then (u8_of 0 bs t 2) (λ number.
    and_then (children_of bs t 5) (λ children.
    and_then (shape_of bs t number children.count) (λ shape.
    and_then (target_of bs t 4) (λ dictionary.
    option_map (λ index. record { shape = shape; index = index; children = children }) (index_of bs dictionary))))))

-- the tag of child k, a byte
abbrev pub tag_of : List ℕ → Tags → ℕ → ℕ
tag_of bs Zero k = 0
tag_of bs Counted k = k % 256
tag_of bs (Listed p) k = number_in 1 bs (p + (4 + 4 * k))
