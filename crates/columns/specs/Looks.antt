-- What an entry of the column table leads to: its row, its length and null count, its buffers' bytes, its children.
use Rattle.std.specs.Prelude.{ℕ, zero, suc, ◌+◌, ◌-◌, Bool, true, false, ◌&&◌, List, [], ◌∷◌, length, take, drop, ℤ, pos, negsuc, ◌+ℤ◌, Some, None, Option, int_le, nat_lt}
use Rattle.std.specs.Option.{option_map}
use Rattle.std.specs.List.{slice_get}
use Rattle.little.specs.Maybe.{and_then}
use Rattle.message.specs.declared.items.Buffer.{Buffer}
use Rattle.message.specs.declared.items.Node.{Node}
use Rattle.message.specs.declared.rows.Row.{Row}
use Rattle.types.specs.Choices.{between}
use Rattle.dictionaries.specs.Places.{Held}
use Rattle.schemas.specs.declared.kinds.Kind.{Kind}
use Rattle.schemas.specs.declared.kinds.Kind.TheVariants.{Null, Bool as BoolKind, Fixed, Binary, LargeBinary, View, List as ListKind, LargeList, ListView, LargeListView, FixedSizeList, Struct, Dictionary, SparseUnion, DenseUnion}
use Rattle.schemas.specs.Schemas.{Fields, none, field, size}
use Rattle.schemas.specs.Takings.{buffers_of, natural, kind_of}
use Rattle.schemas.specs.Queues.{is_view}
use Rattle.columns.specs.declared.entries.Column.{Column}
use Rattle.columns.specs.Entries.{indexed, entry_count}

-- all that a batch is looked at through: the fields of the schema, the lists of the message, the column table, the
-- body, and the dictionaries that are held
pub record Sight : Type 0 where
  pub fields : Fields
  pub nodes : List Node
  pub buffers : List Buffer
  pub counts : List ℤ
  pub columns : List Column
  pub body : List ℕ
  pub held : Held

-- bytes of a memory, and their place in it
pub record Part : Type 0 where
  pub place : ℕ
  pub bytes : List ℕ

-- a field with its children
pub record Found : Type 0 where
  pub row : Row
  pub kids : Fields

-- the field of row k, where the first field is row 0
abbrev pub field_at : Fields → ℕ → Option Found
field_at none k = None
field_at (field r kids next) zero = Some (record { row = r; kids = kids })
field_at (field r kids next) (suc k) = elim (nat_lt k (size kids)) [ true ↦ field_at kids k | false ↦ field_at next (k - size kids) ]

-- the longest column and batch
abbrev pub longest : ℕ
longest = 2147483647

-- a node's length L and null count N: 0 ≤ N ≤ L ≤ 2,147,483,647, and all slots of a Null column are absent
abbrev pub all_null : Kind → Node → Bool
all_null Null n = int_le n.length n.nulls
all_null BoolKind n = true
all_null Fixed n = true
all_null Binary n = true
all_null LargeBinary n = true
all_null View n = true
all_null ListKind n = true
all_null LargeList n = true
all_null ListView n = true
all_null LargeListView n = true
all_null FixedSizeList n = true
all_null Struct n = true
all_null Dictionary n = true
all_null SparseUnion n = true
all_null DenseUnion n = true

abbrev pub node_fits : Kind → Node → Bool
node_fits kind n = int_le (pos 0) n.nulls && (int_le n.nulls n.length && (int_le n.length (pos longest) && all_null kind n))

-- whether a buffer lies inside the body
abbrev pub inside : List ℕ → Buffer → Bool
inside body b = int_le (pos 0) b.offset && (int_le (pos 0) b.length && int_le (b.offset +ℤ b.length) (pos (length body)))

abbrev pub part_of : List ℕ → Buffer → Part
part_of body b = record { place = natural b.offset; bytes = take (natural b.length) (drop (natural b.offset) body) }

-- so many buffers from number n on, where each is there and lies inside the body
abbrev pub parts_from : List ℕ → List Buffer → ℕ → ℕ → Option (List Part)
parts_from body buffers n zero = Some []
parts_from body buffers n (suc more) = and_then (slice_get buffers n) (λ b. elim (inside body b) [
  | true ↦ option_map (λ ps. part_of body b ∷ ps) (parts_from body buffers (n + 1) more)
  | false ↦ None
])

abbrev pub unsigned : ℤ → Option ℕ
unsigned (pos n) = Some n
unsigned (negsuc n) = None

-- how many buffers of data a view has; no other kind counts them
abbrev pub data_count : Bool → List ℤ → ℕ → Option ℕ
data_count true counts k = and_then (slice_get counts k) unsigned
data_count false counts k = Some 0

-- how many buffers a row reads
abbrev pub buffers_read : ℕ → Kind → ℕ
buffers_read c kind = buffers_of (pos 4) c kind

-- the length of the column at an entry
abbrev pub length_at : Sight → ℕ → Option ℕ
length_at s e = and_then (slice_get s.columns e) (λ c. and_then (slice_get s.nodes c.node) (λ n. between 0 longest n.length))

-- a child: the tag by which a union selects it, its entry, and its length
pub record Child : Type 0 where
  pub tag : ℕ
  pub entry : ℕ
  pub long : ℕ

-- children side by side, the first of them at entry e
abbrev pub children_at : Sight → ℕ → Fields → Option (List Child)
children_at s e none = Some []
children_at s e (field r kids next) =
    and_then (length_at s e) (λ l. option_map (λ cs. record { tag = r.tag; entry = e; long = l } ∷ cs) (children_at s (e + entry_count (field r kids none)) next))

-- a dictionary field has no child with an entry
abbrev pub children_of : Sight → ℕ → Found → Option (List Child)
children_of s e f = elim (indexed f.row) [ true ↦ Some [] | false ↦ children_at s (e + 1) f.kids ]

pub record Look : Type 0 where
  pub row : Row
  pub kind : Kind
  pub kids : Fields
  pub long : ℕ
  pub nulls : ℕ
  pub parts : List Part
  pub children : List Child

abbrev pub look_of : Found → Kind → Node → List Part → List Child → Look
look_of f kind n ps cs = record { row = f.row; kind = kind; kids = f.kids; long = natural n.length; nulls = natural n.nulls; parts = ps; children = cs }

abbrev pub look_with : Sight → ℕ → Column → Found → Kind → Node → Option Look
look_with s e c f kind n = elim (node_fits kind n) [
  | true ↦
      and_then (data_count (is_view kind) s.counts c.count) (λ d.
      and_then (parts_from s.body s.buffers c.buffer (buffers_read d kind)) (λ ps.
      option_map (look_of f kind n ps) (children_of s e f)))
  | false ↦ None
]

-- what an entry leads to, where its row, its node, its count, its buffers and its children are there and in bounds
unfoldable pub look : Sight → ℕ → Option Look
look s e =
    and_then (slice_get s.columns e) (λ c.
    and_then (field_at s.fields c.row) (λ f.
    and_then (kind_of f.row) (λ kind.
    and_then (slice_get s.nodes c.node) (λ n. look_with s e c f kind n))))
