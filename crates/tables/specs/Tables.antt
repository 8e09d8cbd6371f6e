-- FlatBuffers: tables, their vtables, and vectors. Nothing is there that does not lie within the bytes.
use Rattle.std.specs.Prelude.{ℕ, zero, suc, ◌+◌, ◌-◌, ◌*◌, Bool, true, false, not, List, length, take, drop, ℤ, pos, negsuc, Some, None, Option, ◌==◌, nat_le}
use Rattle.std.specs.Option.{option_map}
use Rattle.little.specs.Maybe.{and_then}
use Rattle.little.specs.Numbers.{u8_at, u16_at, u32_at, i16_at, i32_at, i64_at}
use Rattle.tables.specs.declared.Table.{Table}

-- a place within the bytes, or just behind the last
unfoldable pub place_in : List ℕ → ℕ → Option ℕ
place_in bs p = elim (nat_le p (length bs)) [ true ↦ Some p | false ↦ None ]

-- a vtable lies so many bytes before its table, or behind it
abbrev pub vtable_place : List ℕ → ℕ → ℤ → Option ℕ
vtable_place bs at (pos back) = elim (nat_le back at) [ true ↦ Some (at - back) | false ↦ None ]
vtable_place bs at (negsuc n) = place_in bs (at + suc n)

-- a table begins with the signed distance back to its vtable, and a vtable with its own length
unfoldable pub table_at : List ℕ → ℕ → Option Table
table_at bs at =
    and_then (i32_at bs at) (λ back.
    and_then (vtable_place bs at back) (λ vtable.
    and_then (u16_at bs vtable) (λ size.
    Some (record { at = at; vtable = vtable; size = size }))))

-- the entry of slot 0 stands behind the vtable's length and the table's, each of 2 bytes
abbrev pub entry_of : ℕ → ℕ
entry_of slot = 4 + 2 * slot

-- an entry of 0 says that the field is absent, any other how far from the table's first byte it stands
abbrev pub field_place : List ℕ → ℕ → ℕ → Option (Option ℕ)
field_place bs at zero = Some None
field_place bs at (suc n) = option_map Some (place_in bs (at + suc n))

-- the place of the field in a slot; absent too where the vtable does not reach so far
unfoldable pub field_of : List ℕ → Table → ℕ → Option (Option ℕ)
field_of bs t slot = elim (nat_le (entry_of slot + 2) t.size) [
  | true ↦ and_then (place_in bs (t.vtable + entry_of slot)) (λ p. and_then (u16_at bs p) (field_place bs t.at))
  | false ↦ Some None
]

abbrev pub or_default : {A : Type 0} → A → (ℕ → Option A) → Option ℕ → Option A
or_default d read None = Some d
or_default d read (Some p) = read p

-- a number in a slot, or its default where the field is absent
abbrev pub scalar_of : {A : Type 0} → (List ℕ → ℕ → Option A) → A → List ℕ → Table → ℕ → Option A
scalar_of read d bs t slot = and_then (field_of bs t slot) (or_default d (read bs))

-- a Bool is a byte, true where it is not 0
abbrev pub bool_at : List ℕ → ℕ → Option Bool
bool_at bs p = option_map (λ b. not (b == 0)) (u8_at bs p)

abbrev pub u8_of : ℕ → List ℕ → Table → ℕ → Option ℕ
u8_of = scalar_of u8_at

abbrev pub i16_of : ℤ → List ℕ → Table → ℕ → Option ℤ
i16_of = scalar_of i16_at

abbrev pub i32_of : ℤ → List ℕ → Table → ℕ → Option ℤ
i32_of = scalar_of i32_at

abbrev pub i64_of : ℤ → List ℕ → Table → ℕ → Option ℤ
i64_of = scalar_of i64_at

abbrev pub bool_of : Bool → List ℕ → Table → ℕ → Option Bool
bool_of = scalar_of bool_at

-- whether a field that leads elsewhere is there; what it leads to is not looked at
abbrev pub present_of : List ℕ → Table → ℕ → Option Bool
present_of = scalar_of (λ bs p. option_map (λ o. true) (u32_at bs p)) false

-- the place that an offset leads to, counted from the offset's own place
unfoldable pub leads : List ℕ → ℕ → Option ℕ
leads bs p = and_then (u32_at bs p) (λ o. place_in bs (p + o))

-- the place of the table or vector that the field in a slot leads to
abbrev pub target_of : List ℕ → Table → ℕ → Option (Option ℕ)
target_of = scalar_of (λ bs p. option_map Some (leads bs p)) None

-- the table that the field in a slot leads to
abbrev pub table_there : List ℕ → Option ℕ → Option (Option Table)
table_there bs None = Some None
table_there bs (Some p) = option_map Some (table_at bs p)

abbrev pub child_of : List ℕ → Table → ℕ → Option (Option Table)
child_of bs t slot = and_then (target_of bs t slot) (table_there bs)

-- the items of a vector: a count, and so many items of so many bytes each
unfoldable pub vector_at : ℕ → List ℕ → ℕ → Option (List ℕ)
vector_at width bs p = and_then (u32_at bs p) (λ n. elim (nat_le (p + 4 + n * width) (length bs)) [
  | true ↦ Some (take (n * width) (drop (p + 4) bs))
  | false ↦ None
])

-- item k of a vector of offsets: the place that it leads to
unfoldable pub item_of : List ℕ → ℕ → ℕ → Option ℕ
item_of bs p k = and_then (place_in bs (p + (4 + 4 * k))) (leads bs)
