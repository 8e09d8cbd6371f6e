-- What a slot of a column holds, where it keeps the rules of its kind.
use Rattle.std.specs.Prelude.{ℕ, ◌+◌, ◌-◌, ◌*◌, ◌/◌, ◌%◌, ◌^◌, Bool, true, false, not, ◌&&◌, List, [], ◌∷◌, length, get_or, take, drop, ℤ, pos, negsuc, ◌+ℤ◌, Some, None, Option, ◌==◌, int_le, int_lt, nat_le, nat_lt, slice_index, slice_index_or}
use Rattle.std.proofs.Common.{to_z}
use Rattle.std.specs.Int.{Width, w8, w16, w32, w64}
use Rattle.std.specs.Option.{option_map}
use Rattle.little.specs.Maybe.{and_then}
use Rattle.little.specs.Numbers.{number_in}
use Rattle.message.specs.declared.rows.Row.{Row}
use Rattle.types.specs.Choices.{beside}
use Rattle.texts.specs.Utf8.{well_formed}
use Rattle.dictionaries.specs.Values.{same}
use Rattle.dictionaries.specs.Places.{Held, Stored}
use Rattle.schemas.specs.declared.kinds.Kind.{Kind}
use Rattle.schemas.specs.declared.kinds.Kind.TheVariants.{Null, Bool as BoolKind, Fixed, Binary, LargeBinary, View, List as ListKind, LargeList, ListView, LargeListView, FixedSizeList, Struct, Dictionary, SparseUnion, DenseUnion}
use Rattle.schemas.specs.Takings.{natural}
use Rattle.columns.specs.Looks.{Sight, Part, Child, Look}

-- what a cell answers: an absent slot; a bit; bytes of the body; a value of a dictionary, bytes of the store, with its
-- number; so many slots of the child at an entry, from a start on; the same slot of every child, by the entry of the
-- first; one slot of one child
pub data Cell : Type 0 where
  absent : Cell
  bit : Bool → Cell
  part : Part → Cell
  stored : Part → ℕ → Cell
  span : ℕ → ℕ → ℕ → Cell
  group : Option ℕ → ℕ → Cell
  link : ℕ → ℕ → Cell

abbrev pub no_part : Part
no_part = record { place = 0; bytes = [] }

-- buffer j of a column
abbrev pub buffer : Look → ℕ → Part
buffer l j = slice_index_or l.parts j no_part

-- bit i of a bitmap, the lowest of each byte first
abbrev pub bit_at : Part → ℕ → Bool
bit_at p i = slice_index p.bytes (i / 8) / 2 ^ (i % 8) % 2 == 1

-- number i of a buffer of signed numbers, of 1, 2, 4 or 8 bytes
abbrev pub widths : List (ℕ × Width)
widths = (1, w8) ∷ (2, w16) ∷ (4, w32) ∷ (8, w64) ∷ []

abbrev pub signed_by : Option Width → ℕ → ℤ
signed_by None n = pos n
signed_by (Some w) n = to_z w n

abbrev pub unsigned_at : ℕ → Part → ℕ → ℕ
unsigned_at width p i = number_in width p.bytes (width * i)

abbrev pub signed_at : ℕ → Part → ℕ → ℤ
signed_at width p i = signed_by (beside widths width) (unsigned_at width p i)

-- some bytes of a buffer
abbrev pub slice : Part → ℕ → ℕ → Part
slice p from n = record { place = p.place + from; bytes = take n (drop from p.bytes) }

-- a slot has a validity bit but for kinds Null and the unions; with no nulls it is not read
abbrev pub has_validity : Kind → Bool
has_validity Null = false
has_validity BoolKind = true
has_validity Fixed = true
has_validity Binary = true
has_validity LargeBinary = true
has_validity View = true
has_validity ListKind = true
has_validity LargeList = true
has_validity ListView = true
has_validity LargeListView = true
has_validity FixedSizeList = true
has_validity Struct = true
has_validity Dictionary = true
has_validity SparseUnion = false
has_validity DenseUnion = false

abbrev pub checks_validity : Look → Bool
checks_validity l = has_validity l.kind && nat_lt 0 l.nulls

-- whether slot i is absent
abbrev pub is_absent : Look → ℕ → Bool
is_absent l i = checks_validity l && not (bit_at (buffer l 0) i)

-- a start and a count
pub record Range : Type 0 where
  pub start : ℕ
  pub count : ℕ

abbrev pub range_by : Bool → ℕ → ℕ → Option Range
range_by true start n = Some (record { start = start; count = n })
range_by false start n = None

-- offsets: 0 ≤ o(i) ≤ o(i+1) ≤ the limit
abbrev pub by_offsets : ℕ → Part → ℕ → ℕ → Option Range
by_offsets width offsets limit i =
    let o = signed_at width offsets i in
    let o' = signed_at width offsets (i + 1) in
    range_by (int_le (pos 0) o && (int_le o o' && int_le o' (pos limit))) (natural o) (natural o' - natural o)

-- list views: offset and size not below 0, and their sum at most the limit
abbrev pub by_sizes : ℕ → Part → Part → ℕ → ℕ → Option Range
by_sizes width offsets sizes limit i =
    let o = signed_at width offsets i in
    let n = signed_at width sizes i in
    range_by (int_le (pos 0) o && (int_le (pos 0) n && int_le (o +ℤ n) (pos limit))) (natural o) (natural n)

abbrev pub zeros : List ℕ → Bool
zeros [] = true
zeros (b ∷ bs) = b == 0 && zeros bs

abbrev pub alike : List ℕ → List ℕ → Bool
alike [] [] = true
alike [] (y ∷ ys) = false
alike (x ∷ xs) [] = false
alike (x ∷ xs) (y ∷ ys) = x == y && alike xs ys

abbrev pub part_by : Bool → Part → Option Part
part_by true p = Some p
part_by false p = None

-- a view of at most 12 bytes has them behind its length, and zeros behind them
abbrev pub short_view : Part → ℕ → Option Part
short_view v n = part_by (zeros (drop (4 + n) v.bytes)) (slice v 4 n)

-- a longer view has its first 4 bytes, the number of a data buffer and an offset, inside which its bytes lie
abbrev pub long_view : List Part → Part → ℕ → Option Part
long_view datas v n =
    let k = signed_at 4 v 2 in
    let o = signed_at 4 v 3 in
    let data' = get_or datas (natural k) no_part in
    let p = slice data' (natural o) n in
    part_by (
    int_le (pos 0) k
    && (int_lt k (pos (length datas)) && (int_le (pos 0) o && (nat_le (natural o + n) (length data'.bytes) && alike (take 4 (drop 4 v.bytes)) (take 4 p.bytes))))
    ) p

abbrev pub view_by : List Part → Part → ℤ → Option Part
view_by datas v (pos n) = elim (nat_le n 12) [ true ↦ short_view v n | false ↦ long_view datas v n ]
view_by datas v (negsuc n) = None

-- view i, by its 16 bytes
abbrev pub view_at : Look → ℕ → Option Part
view_at l i = let v = slice (buffer l 1) (16 * i) 16 in view_by (drop 2 l.parts) v (signed_at 4 v 0)

-- text is UTF-8
abbrev pub text_kept : Row → Part → Bool
text_kept r p = elim (r.flag == 1) [ true ↦ well_formed p.bytes | false ↦ true ]

abbrev pub text_by : Row → Option Part → Option Cell
text_by r None = None
text_by r (Some p) = elim (text_kept r p) [ true ↦ Some (part p) | false ↦ None ]

abbrev pub bytes_by : Part → Option Range → Option Part
bytes_by bytes None = None
bytes_by bytes (Some g) = Some (slice bytes g.start g.count)

abbrev pub span_by : List Child → (ℕ → Option Range) → Option Cell
span_by [] range = None
span_by (c ∷ cs) range = option_map (λ g. span c.entry g.start g.count) (range c.long)

-- the first child, where there is one
abbrev pub first_entry : List Child → Option ℕ
first_entry [] = None
first_entry (c ∷ cs) = Some c.entry

-- the child with a tag
abbrev pub tagged : ℤ → List Child → Option Child
tagged t [] = None
tagged t (c ∷ cs) = elim (same t (pos c.tag)) [ true ↦ Some c | false ↦ tagged t cs ]

abbrev pub link_at : ℤ → Child → Option Cell
link_at (pos k) c = elim (nat_lt k c.long) [ true ↦ Some (link c.entry k) | false ↦ None ]
link_at (negsuc k) c = None

-- a type id is the tag of a child; its slot is below the child's length
abbrev pub link_by : Look → ℕ → ℤ → Option Cell
link_by l i slot = and_then (tagged (signed_at 1 (buffer l 0) i) l.children) (link_at slot)

abbrev pub value_cell : ℕ → Stored → Cell
value_cell k s = elim s.value [ None ↦ absent | Some bs ↦ stored (record { place = s.place; bytes = bs }) k ]

-- an index, signed or not
abbrev pub index_at : Look → ℕ → ℤ
index_at l i = elim (l.row.flag == 1) [
  | true ↦ signed_at l.row.parameter (buffer l 1) i
  | false ↦ pos (unsigned_at l.row.parameter (buffer l 1) i)
]

abbrev pub held_at : Held → ℤ → ℤ → Option Cell
held_at h id (pos k) = option_map (value_cell k) (h.value id k)
held_at h id (negsuc k) = None

-- a present index is at least 0 and below the count of the values that are held
abbrev pub value_by : Sight → Look → ℕ → Option Cell
value_by s l i = elim (is_absent l i) [ true ↦ Some absent | false ↦ held_at s.held l.row.id (index_at l i) ]

-- what slot i of a column holds; nothing where it breaks a rule
abbrev pub slot_of : Sight → Look → ℕ → Kind → Option Cell
slot_of s l i Null = Some absent
slot_of s l i BoolKind = Some (bit (bit_at (buffer l 1) i))
slot_of s l i Fixed = Some (part (slice (buffer l 1) (l.row.parameter * i) l.row.parameter))
slot_of s l i Binary = text_by l.row (bytes_by (buffer l 2) (by_offsets 4 (buffer l 1) (length (buffer l 2).bytes) i))
slot_of s l i LargeBinary = text_by l.row (bytes_by (buffer l 2) (by_offsets 8 (buffer l 1) (length (buffer l 2).bytes) i))
slot_of s l i View = text_by l.row (view_at l i)
slot_of s l i ListKind = span_by l.children (λ limit. by_offsets 4 (buffer l 1) limit i)
slot_of s l i LargeList = span_by l.children (λ limit. by_offsets 8 (buffer l 1) limit i)
slot_of s l i ListView = span_by l.children (λ limit. by_sizes 4 (buffer l 1) (buffer l 2) limit i)
slot_of s l i LargeListView = span_by l.children (λ limit. by_sizes 8 (buffer l 1) (buffer l 2) limit i)
slot_of s l i FixedSizeList = span_by l.children (λ limit. range_by (nat_le (l.row.parameter * i + l.row.parameter) limit) (l.row.parameter * i) l.row.parameter)
slot_of s l i Struct = Some (group (first_entry l.children) i)
slot_of s l i Dictionary = value_by s l i
slot_of s l i SparseUnion = link_by l i (pos i)
slot_of s l i DenseUnion = link_by l i (signed_at 4 (buffer l 1) i)

unfoldable pub slot : Sight → Look → ℕ → Option Cell
slot s l i = slot_of s l i l.kind
