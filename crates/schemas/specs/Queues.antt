-- The same by taking from the fronts of the three lists, as a decoder does: rows that are decoded and rows that are
-- skipped take in another order, and the same.
use Rattle.std.specs.Prelude.{◌≡◌, ℕ, ◌+◌, Bool, true, false, List, [], ◌∷◌, length, drop, ℤ, pos, negsuc, Some, None, Option, ◌==◌, nat_le}
use Rattle.std.specs.Option.{option_map}
use Rattle.little.specs.Maybe.{and_then}
use Rattle.message.specs.declared.items.Buffer.{Buffer}
use Rattle.message.specs.declared.items.Node.{Node}
use Rattle.schemas.specs.declared.kinds.Kind.{Kind}
use Rattle.schemas.specs.declared.kinds.Kind.TheVariants.{Null, Bool as BoolKind, Fixed, Binary, LargeBinary, View, List as ListKind, LargeList, ListView, LargeListView, FixedSizeList, Struct, Dictionary, SparseUnion, DenseUnion}
use Rattle.schemas.specs.Schemas.{Fields, none, field}
use Rattle.schemas.specs.Takings.{Taken, nothing_yet, buffers_of, kind_of, after}

-- what is left of the nodes, the buffers and the counts of a message
pub record Queue : Type 0 where
  pub nodes : List Node
  pub buffers : List Buffer
  pub counts : List ℤ

-- a list without its first n items, where it has so many
abbrev pub pop : {A : Type 0} → ℕ → List A → Option (List A)
pop n xs = elim (nat_le n (length xs)) [ true ↦ Some (drop n xs) | false ↦ None ]

abbrev pub pop_node : Queue → Option Queue
pop_node q = option_map (λ ns. record { nodes = ns; buffers = q.buffers; counts = q.counts }) (pop 1 q.nodes)

abbrev pub pop_buffers : ℕ → Queue → Option Queue
pop_buffers n q = option_map (λ bs. record { nodes = q.nodes; buffers = bs; counts = q.counts }) (pop n q.buffers)

-- the number of a view's data buffers, which is not below 0
abbrev pub view_count : List ℤ → Option ℕ
view_count [] = None
view_count (pos c ∷ cs) = Some c
view_count (negsuc n ∷ cs) = None

abbrev pub pop_count : Queue → Queue
pop_count q = record { nodes = q.nodes; buffers = q.buffers; counts = drop 1 q.counts }

-- a row that is decoded: a view its count, its buffers and its node, any other its node and its buffers
abbrev pub decodes : ℤ → Bool → Kind → Queue → Option Queue
decodes version true kind q = and_then (view_count q.counts) (λ c. and_then (pop_buffers (c + 2) (pop_count q)) pop_node)
decodes version false kind q = and_then (pop_node q) (pop_buffers (buffers_of version 0 kind))

-- a row that is skipped: its node first
abbrev pub skips : ℤ → Bool → Kind → Queue → Option Queue
skips version true kind q = and_then (pop_node q) (λ n. and_then (view_count n.counts) (λ c. pop_buffers (c + 2) (pop_count n)))
skips version false kind q = and_then (pop_node q) (pop_buffers (buffers_of version 0 kind))

abbrev pub is_view : Kind → Bool
is_view Null = false
is_view BoolKind = false
is_view Fixed = false
is_view Binary = false
is_view LargeBinary = false
is_view View = true
is_view ListKind = false
is_view LargeList = false
is_view ListView = false
is_view LargeListView = false
is_view FixedSizeList = false
is_view Struct = false
is_view Dictionary = false
is_view SparseUnion = false
is_view DenseUnion = false

-- a row of a column that is shown or not
abbrev pub row_takes : ℤ → Bool → Option Kind → Queue → Option Queue
row_takes version shown None q = Some q
row_takes version true (Some kind) q = decodes version (is_view kind) kind q
row_takes version false (Some kind) q = skips version (is_view kind) kind q

abbrev pub unless_so : Bool → (Queue → Option Queue) → Queue → Option Queue
unless_so true f q = Some q
unless_so false f q = f q

-- fields side by side, each whole before the next, in columns that are all shown or all not
abbrev pub fields_take : ℤ → Bool → Fields → Queue → Option Queue
fields_take version shown none q = Some q
fields_take version shown (field r kids next) q =
    and_then (row_takes version shown (kind_of r) q) (λ own. and_then (unless_so (r.kind == 13) (fields_take version shown kids) own) (fields_take version shown next))

-- the columns of a schema, each shown or not
abbrev pub columns_take : ℤ → (ℕ → Bool) → ℕ → Fields → Queue → Option Queue
columns_take version shown k none q = Some q
columns_take version shown k (field r kids next) q = and_then (fields_take version (shown k) (field r kids none) q) (columns_take version shown (k + 1) next)

-- what is left of three lists once so much is taken
abbrev pub left : Queue → Taken → Queue
left q t = record { nodes = drop t.nodes q.nodes; buffers = drop t.buffers q.buffers; counts = drop t.counts q.counts }

-- whichever columns are shown: the same is taken, or too little is there for either
abbrev pub SkipsTakeAlike : Type 0
SkipsTakeAlike = (version : ℤ) (shown others : ℕ → Bool) (fs : Fields) (q : Queue) → columns_take version shown 0 fs q ≡ columns_take version others 0 fs q

-- and what is taken is what the places say
abbrev pub TakesByPlace : Type 0
TakesByPlace = (version : ℤ) (shown : ℕ → Bool) (fs : Fields) (q q' : Queue) → columns_take version shown 0 fs q ≡ Some q' → q' ≡ left q (after version q.counts fs nothing_yet)
