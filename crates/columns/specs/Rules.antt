-- The rules that a whole column keeps.
use Rattle.std.specs.Prelude.{ℕ, zero, suc, ◌+◌, ◌*◌, Bool, true, false, cond, ◌&&◌, List, [], ◌∷◌, length, ℤ, is_some, Some, None, Option, ◌==◌, nat_eq, nat_le}
use Rattle.message.specs.declared.rows.Row.{Row}
use Rattle.dictionaries.specs.Values.{same}
use Rattle.schemas.specs.declared.kinds.Kind.{Kind}
use Rattle.schemas.specs.declared.kinds.Kind.TheVariants.{Null, Bool as BoolKind, Fixed, Binary, LargeBinary, View, List as ListKind, LargeList, ListView, LargeListView, FixedSizeList, Struct, Dictionary, SparseUnion, DenseUnion}
use Rattle.schemas.specs.Schemas.{Fields, none, field, size}
use Rattle.columns.specs.Entries.{indexed}
use Rattle.columns.specs.Looks.{Sight, Part, Child, Look}
use Rattle.columns.specs.Slots.{buffer, bit_at, checks_validity, slot}

-- n entries of so many bytes, and n bits
abbrev pub has_entries : Part → ℕ → ℕ → Bool
has_entries p width n = nat_le (width * n) (length p.bytes)

abbrev pub has_bits : Part → ℕ → Bool
has_bits p n = nat_le n (8 * length p.bytes)

-- how far the buffers reach behind the validity, in a column of L slots: L bits, L entries, or L + 1 offsets
abbrev pub reach_of : Look → Kind → Bool
reach_of l Null = true
reach_of l BoolKind = has_bits (buffer l 1) l.long
reach_of l Fixed = has_entries (buffer l 1) l.row.parameter l.long
reach_of l Binary = has_entries (buffer l 1) 4 (l.long + 1)
reach_of l LargeBinary = has_entries (buffer l 1) 8 (l.long + 1)
reach_of l View = has_entries (buffer l 1) 16 l.long
reach_of l ListKind = has_entries (buffer l 1) 4 (l.long + 1)
reach_of l LargeList = has_entries (buffer l 1) 8 (l.long + 1)
reach_of l ListView = has_entries (buffer l 1) 4 l.long && has_entries (buffer l 2) 4 l.long
reach_of l LargeListView = has_entries (buffer l 1) 8 l.long && has_entries (buffer l 2) 8 l.long
reach_of l FixedSizeList = true
reach_of l Struct = true
reach_of l Dictionary = has_entries (buffer l 1) l.row.parameter l.long
reach_of l SparseUnion = has_entries (buffer l 0) 1 l.long
reach_of l DenseUnion = has_entries (buffer l 0) 1 l.long && has_entries (buffer l 1) 4 l.long

-- an empty column asks nothing of its buffers
abbrev pub reaches : Look → Bool
reaches l = elim (l.long == 0) [ true ↦ true | false ↦ reach_of l l.kind ]

abbrev pub validity_reaches : Look → Bool
validity_reaches l = elim (checks_validity l) [ true ↦ has_bits (buffer l 0) l.long | false ↦ true ]

-- the zeros among the first n bits
abbrev pub zero_bits : Part → ℕ → ℕ
zero_bits p zero = 0
zero_bits p (suc n) = zero_bits p n + cond (bit_at p n) 0 1

-- as many slots are absent as the null count says
abbrev pub nulls_kept : Look → Bool
nulls_kept l = elim (checks_validity l) [ true ↦ nat_eq (zero_bits (buffer l 0) l.long) l.nulls | false ↦ true ]

abbrev pub all_long : ℕ → List Child → Bool
all_long n [] = true
all_long n (c ∷ cs) = c.long == n && all_long n cs

abbrev pub first_long : ℕ → List Child → Bool
first_long n [] = true
first_long n (c ∷ cs) = nat_le n c.long

-- how long the children are
abbrev pub children_kept : Look → Kind → Bool
children_kept l Null = true
children_kept l BoolKind = true
children_kept l Fixed = true
children_kept l Binary = true
children_kept l LargeBinary = true
children_kept l View = true
children_kept l ListKind = true
children_kept l LargeList = true
children_kept l ListView = true
children_kept l LargeListView = true
children_kept l FixedSizeList = first_long (l.row.parameter * l.long) l.children
children_kept l Struct = all_long l.long l.children
children_kept l Dictionary = true
children_kept l SparseUnion = all_long l.long l.children
children_kept l DenseUnion = true

-- a row, and its number
pub record Numbered : Type 0 where
  pub number : ℕ
  pub row : Row

abbrev pub value_row : ℕ → Fields → Option Numbered
value_row k none = None
value_row k (field r kids next) = Some (record { number = k; row = r })

abbrev pub first_of : {A : Type 0} → Option A → Option A → Option A
first_of None o = o
first_of (Some x) o = Some x

-- the value row of the first dictionary field with an id, where the first field is row k: its dictionary's batches are
-- read by this row
abbrev pub value_row_of : ℤ → ℕ → Fields → Option Numbered
value_row_of i k none = None
value_row_of i k (field r kids next) = elim (indexed r && same i r.id) [
  | true ↦ value_row (k + 1) kids
  | false ↦ first_of (value_row_of i (k + 1) kids) (value_row_of i (k + 1 + size kids) next)
]

-- equal kinds, flags and parameters
abbrev pub equal_rows : Row → Row → Bool
equal_rows a b = a.kind == b.kind && (a.flag == b.flag && a.parameter == b.parameter)

abbrev pub equal_numbered : Option Numbered → Option Numbered → Bool
equal_numbered None o = true
equal_numbered (Some a) None = true
equal_numbered (Some a) (Some b) = equal_rows a.row b.row

-- a dictionary that is held was read by a value row equal to the field's own
abbrev pub values_kept : Sight → Look → Bool
values_kept s l = elim (indexed l.row && is_some (s.held.count l.row.id)) [
  | true ↦ equal_numbered (value_row 0 l.kids) (value_row_of l.row.id 0 s.fields)
  | false ↦ true
]

-- what a cell looks at again, and what is counted once
abbrev pub sound : Sight → Look → Bool
sound s l = validity_reaches l && (reaches l && (children_kept l l.kind && values_kept s l))

abbrev pub whole_kept : Sight → Look → Bool
whole_kept s l = sound s l && nulls_kept l

-- the first of n indices, from i on, that breaks a rule
abbrev pub first_broken : (ℕ → Bool) → ℕ → ℕ → Option ℕ
first_broken kept i zero = None
first_broken kept i (suc n) = elim (kept i) [ true ↦ first_broken kept (i + 1) n | false ↦ Some i ]

-- where a column breaks a rule: its length for a whole-column rule, or else the first slot that breaks one
abbrev pub broken_at : Sight → Look → Option ℕ
broken_at s l = elim (whole_kept s l) [
  | true ↦ first_broken (λ i. is_some (slot s l i)) 0 l.long
  | false ↦ Some l.long
]
