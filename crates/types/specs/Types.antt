-- The row of each type of Schema.fbs, by the type's number and the slots of its table.
use Rattle.std.specs.Prelude.{◌≡◌, ℕ, zero, suc, ◌*◌, Bool, true, false, cond, ◌&&◌, ◌||◌, List, [], ◌∷◌, length, ℤ, pos, negsuc, Some, None, Option, ◌==◌, nat_le, nat_lt}
use Rattle.std.specs.Int.Signed.{le_z}
use Rattle.std.specs.Option.{option_map}
use Rattle.little.specs.Maybe.{and_then}
use Rattle.little.specs.Numbers.{number_in}
use Rattle.std.specs.List.{slice_get}
use Rattle.tables.specs.declared.Table.{Table}
use Rattle.tables.specs.declared.TableIn.{TableIn}
use Rattle.tables.specs.Tables.{table_at, i16_of, i32_of, bool_of, present_of, target_of, vector_at}
use Rattle.types.specs.declared.shapes.TableType.{TableType}
use Rattle.types.specs.declared.shapes.TableType.TheVariants.{Int, FloatingPoint, Decimal, Date, Time, Timestamp, Interval, FixedSizeBinary, FixedSizeList, Duration}
use Rattle.types.specs.declared.shapes.Typed.{Typed}
use Rattle.types.specs.declared.shapes.Tags.{Tags}
use Rattle.types.specs.declared.shapes.Tags.TheVariants.{Zero, Counted, Listed}
use Rattle.types.specs.declared.shapes.Shape.{Shape}
use Rattle.types.specs.Choices.{beside, beside_z, is, between}

abbrev pub typed : ℕ → ℕ → ℕ → Typed
typed k f n = record { kind = k; flag = f; parameter = n }

-- a type that has no row kind
abbrev pub unknown : Typed
unknown = typed 0 0 0

abbrev pub or_unknown : Option Typed → Typed
or_unknown None = unknown
or_unknown (Some t) = t

-- kind 3: so many bytes a value
abbrev pub fixed : ℕ → Option ℕ → Typed
fixed flag None = unknown
fixed flag (Some width) = typed 3 flag width

abbrev pub flag_of : Bool → ℕ
flag_of b = cond b 1 0

-- Int and the indices of a dictionary: bits and bytes
abbrev pub int_widths : List (ℕ × ℕ)
int_widths = (8, 1) ∷ (16, 2) ∷ (32, 4) ∷ (64, 8) ∷ []

-- HALF, SINGLE, DOUBLE
abbrev pub float_widths : List ℕ
float_widths = 2 ∷ 4 ∷ 8 ∷ []

-- DAY, MILLISECOND
abbrev pub date_widths : List ℕ
date_widths = 4 ∷ 8 ∷ []

-- SECOND, MILLISECOND, MICROSECOND, NANOSECOND
abbrev pub unit_widths : List ℕ
unit_widths = 8 ∷ 8 ∷ 8 ∷ 8 ∷ []

-- YEAR_MONTH, DAY_TIME, MONTH_DAY_NANO
abbrev pub interval_widths : List ℕ
interval_widths = 4 ∷ 8 ∷ 16 ∷ []

abbrev pub decimal_widths : List (ℕ × ℕ)
decimal_widths = (32, 4) ∷ (64, 8) ∷ (128, 16) ∷ (256, 32) ∷ []

-- 32 bits count seconds or milliseconds, 64 bits microseconds or nanoseconds
abbrev pub time_width : ℤ → ℤ → Option ℕ
time_width unit bits =
    cond (is bits 32 && (is unit 0 || is unit 1)) (Some 4)
    (cond (is bits 64 && (is unit 2 || is unit 3)) (Some 8) None)

-- a precision of 0 to 255 and a scale of -128 to 127
abbrev pub decimal_width : ℤ → ℤ → ℤ → Option ℕ
decimal_width precision scale bits =
    cond (le_z (pos 0) precision && (le_z precision (pos 255) && (le_z (negsuc 127) scale && le_z scale (pos 127))))
    (beside_z decimal_widths bits) None

-- bitWidth, is_signed
unfoldable pub int_row : List ℕ → Table → Option Typed
int_row bs t = and_then (i32_of (pos 0) bs t 0) (λ bits. option_map (λ signed. fixed (flag_of signed) (beside_z int_widths bits)) (bool_of false bs t 1))

-- the width by a unit, a precision or the like, which counts from 0
abbrev pub width_by : List ℕ → ℤ → Option ℕ
width_by widths (pos n) = slice_get widths n
width_by widths (negsuc n) = None

-- unit or precision, with its default
unfoldable pub unit_row : ℤ → List ℕ → List ℕ → Table → Option Typed
unit_row d widths bs t = option_map (λ unit. fixed 0 (width_by widths unit)) (i16_of d bs t 0)

-- precision, scale, bitWidth
unfoldable pub decimal_row : List ℕ → Table → Option Typed
decimal_row bs t =
    and_then (i32_of (pos 0) bs t 0) (λ precision.
    and_then (i32_of (pos 0) bs t 1) (λ scale.
    option_map (λ bits. fixed 0 (decimal_width precision scale bits)) (i32_of (pos 128) bs t 2)))

-- unit, bitWidth
unfoldable pub time_row : List ℕ → Table → Option Typed
time_row bs t = and_then (i16_of (pos 1) bs t 0) (λ unit. option_map (λ bits. fixed 0 (time_width unit bits)) (i32_of (pos 32) bs t 1))

-- byteWidth
unfoldable pub binary_row : List ℕ → Table → Option Typed
binary_row bs t = option_map (λ width. fixed 0 (between 1 1024 width)) (i32_of (pos 0) bs t 0)

abbrev pub list_of_size : Option ℕ → Typed
list_of_size None = unknown
list_of_size (Some n) = typed 11 0 n

-- listSize
unfoldable pub list_row : List ℕ → Table → Option Typed
list_row bs t = option_map (λ size. list_of_size (between 0 2147483647 size)) (i32_of (pos 0) bs t 0)

-- the first n type ids are 0 to 127
abbrev pub ids_fit : List ℕ → ℕ → Bool
ids_fit ids zero = true
ids_fit ids (suc n) = nat_lt (number_in 4 ids (4 * n)) 128 && ids_fit ids n

-- type ids, one for each of n children; without them the children count from 0
abbrev pub tags_by : ℕ → ℕ → List ℕ → Option Tags
tags_by n p ids = cond (length ids == 4 * n && ids_fit ids n) (Some (Listed p)) None

abbrev pub tags_of : List ℕ → ℕ → Option ℕ → Option (Option Tags)
tags_of bs n None = Some (cond (nat_le n 128) (Some Counted) None)
tags_of bs n (Some p) = option_map (tags_by n p) (vector_at 4 bs p)

abbrev pub plainly : Typed → Shape
plainly r = record { row = r; tags = Zero }

-- a union has its kind by its mode, Sparse or Dense, where its type ids can be used
abbrev pub union_by : Option ℕ → Option Tags → Shape
union_by None tags = plainly unknown
union_by (Some kind) None = plainly unknown
union_by (Some kind) (Some tags) = record { row = typed kind 0 0; tags = tags }

-- Sparse, Dense
abbrev pub union_kinds : List (ℕ × ℕ)
union_kinds = (0, 14) ∷ (1, 15) ∷ []

-- mode, typeIds
unfoldable pub union_shape : ℕ → List ℕ → Table → Option Shape
union_shape n bs t =
    and_then (i16_of (pos 0) bs t 0) (λ mode.
    and_then (target_of bs t 1) (λ ids.
    option_map (union_by (beside_z union_kinds mode)) (tags_of bs n ids)))

-- types whose row needs no table: Null, Bool, Binary, Utf8, LargeBinary, LargeUtf8, BinaryView, Utf8View, List,
-- LargeList, ListView, LargeListView, Struct_
abbrev pub plain_rows : List (ℕ × Typed)
plain_rows =
    (1, typed 1 0 0) ∷ (6, typed 2 0 0) ∷ (4, typed 4 0 0) ∷ (5, typed 4 1 0) ∷ (19, typed 5 0 0) ∷ (20, typed 5 1 0)
    ∷ (23, typed 6 0 0) ∷ (24, typed 6 1 0) ∷ (12, typed 7 0 0) ∷ (21, typed 8 0 0) ∷ (25, typed 9 0 0) ∷ (26, typed 10 0 0)
    ∷ (13, typed 12 0 0) ∷ []

-- types whose row is read from their table
abbrev pub table_types : List (ℕ × TableType)
table_types =
    (2, Int) ∷ (3, FloatingPoint) ∷ (7, Decimal) ∷ (8, Date) ∷ (9, Time) ∷ (10, Timestamp) ∷ (11, Interval)
    ∷ (15, FixedSizeBinary) ∷ (16, FixedSizeList) ∷ (18, Duration) ∷ []

abbrev pub row_of : TableType → List ℕ → Table → Option Typed
row_of Int = int_row
row_of FloatingPoint = unit_row (pos 0) float_widths
row_of Decimal = decimal_row
row_of Date = unit_row (pos 1) date_widths
row_of Time = time_row
row_of Timestamp = unit_row (pos 0) unit_widths
row_of Interval = unit_row (pos 0) interval_widths
row_of FixedSizeBinary = binary_row
row_of FixedSizeList = list_row
row_of Duration = unit_row (pos 1) unit_widths

-- the type's table is in slot 3 of its field; a type without the table that it needs is unknown
abbrev pub by_table : List ℕ → Table → (Table → Option Shape) → Option Shape
by_table bs f read = and_then (target_of bs f 3) (λ o. elim o [ None ↦ Some (plainly unknown) | Some p ↦ and_then (table_at bs p) read ])

-- what is answered for a table within the bytes is what is read from it
abbrev pub Tells : (TableIn → Option Shape → Type 0) → List ℕ → (Table → Option Shape) → Type 0
Tells answers bs read = (t : TableIn) → t.bytes.now ≡ bs → (r : Option Shape) → answers t r → r ≡ read t.table

unfoldable pub table_shape : List ℕ → Table → TableType → Option Shape
table_shape bs f type = by_table bs f (λ t. option_map plainly (row_of type bs t))

-- of a Map's table only the presence counts, and a Map is read as a list
abbrev pub map_row : Bool → Typed
map_row there = cond there (typed 7 0 0) unknown

unfoldable pub map_shape : List ℕ → Table → Option Shape
map_shape bs f = option_map (λ there. plainly (map_row there)) (present_of bs f 3)

abbrev pub or_plain : Option Typed → Option Shape → Option Shape
or_plain (Some r) later = Some (plainly r)
or_plain None later = later

abbrev pub or_table : List ℕ → Table → Option TableType → Option Shape
or_table bs f (Some type) = table_shape bs f type
or_table bs f None = Some (plainly unknown)

-- the shape of a field's type: its row and its children's tags, by the type's number and how many children there are
unfoldable pub shape_of : List ℕ → Table → ℕ → ℕ → Option Shape
shape_of bs f number n =
    or_plain (beside plain_rows number)
    (cond (number == 14) (by_table bs f (union_shape n bs))
    (cond (number == 17) (map_shape bs f)
    (or_table bs f (beside table_types number))))
