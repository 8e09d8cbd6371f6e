-- Which nodes, buffers and counts of a message belong to which row: those behind what the rows before it take.
use Rattle.std.specs.Prelude.{ℕ, ◌+◌, Bool, true, false, cond, List, ℤ, pos, negsuc, Some, None, Option, ◌==◌, int_lt, slice_index_or}
use Rattle.message.specs.declared.rows.Row.{Row}
use Rattle.types.specs.Choices.{beside}
use Rattle.schemas.specs.declared.kinds.Kind.{Kind}
use Rattle.schemas.specs.declared.kinds.Kind.TheVariants.{Null, Bool as BoolKind, Fixed, Binary, LargeBinary, View, List as ListKind, LargeList, ListView, LargeListView, FixedSizeList, Struct, Dictionary, SparseUnion, DenseUnion}
use Rattle.schemas.specs.Kinds.{kinds}
use Rattle.schemas.specs.Schemas.{Fields, none, field}

-- how many of each list were taken
pub record Taken : Type 0 where
  pub nodes : ℕ
  pub buffers : ℕ
  pub counts : ℕ

abbrev pub nothing_yet : Taken
nothing_yet = record { nodes = 0; buffers = 0; counts = 0 }

-- before version 4 (V5) a union has one buffer more
abbrev pub unread : ℤ → ℕ
unread version = cond (int_lt version (pos 4)) 1 0

-- validity, and then values, offsets, sizes, indices, type ids or views with their data
abbrev pub buffers_of : ℤ → ℕ → Kind → ℕ
buffers_of version c Null = 0
buffers_of version c BoolKind = 2
buffers_of version c Fixed = 2
buffers_of version c Binary = 3
buffers_of version c LargeBinary = 3
buffers_of version c View = c + 2
buffers_of version c ListKind = 2
buffers_of version c LargeList = 2
buffers_of version c ListView = 3
buffers_of version c LargeListView = 3
buffers_of version c FixedSizeList = 1
buffers_of version c Struct = 1
buffers_of version c Dictionary = 2
buffers_of version c SparseUnion = unread version + 1
buffers_of version c DenseUnion = unread version + 2

-- a view says by a count how many buffers of data it has
abbrev pub counts_of : Kind → ℕ
counts_of Null = 0
counts_of BoolKind = 0
counts_of Fixed = 0
counts_of Binary = 0
counts_of LargeBinary = 0
counts_of View = 1
counts_of ListKind = 0
counts_of LargeList = 0
counts_of ListView = 0
counts_of LargeListView = 0
counts_of FixedSizeList = 0
counts_of Struct = 0
counts_of Dictionary = 0
counts_of SparseUnion = 0
counts_of DenseUnion = 0

abbrev pub natural : ℤ → ℕ
natural (pos n) = n
natural (negsuc n) = 0

-- a row takes one node, its buffers and its count; a column that is skipped takes what one that is decoded takes
abbrev pub takes_of : ℤ → List ℤ → Option Kind → Taken → Taken
takes_of version counts None t = t
takes_of version counts (Some kind) t = record {
  nodes = t.nodes + 1;
  buffers = t.buffers + buffers_of version (natural (slice_index_or counts t.counts (pos 0))) kind;
  counts = t.counts + counts_of kind;
}

abbrev pub kind_of : Row → Option Kind
kind_of r = beside kinds r.kind

abbrev pub unless : Bool → (Taken → Taken) → Taken → Taken
unless true f t = t
unless false f t = f t

-- what is taken once some fields and all below them are read, each whole before the next; the value row of a
-- dictionary field, of kind 13, takes nothing
abbrev pub after : ℤ → List ℤ → Fields → Taken → Taken
after version counts none t = t
after version counts (field r kids next) t =
    after version counts next (unless (r.kind == 13) (after version counts kids) (takes_of version counts (kind_of r) t))
