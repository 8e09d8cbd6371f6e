-- Metadata as FlatBuffers: the slots and defaults of Message, Schema, DictionaryBatch and RecordBatch.
use Rattle.std.specs.Prelude.{ℕ, Bool, true, false, cond, not, ◌&&◌, List, [], ℤ, pos, is_some, Some, None, Option, ◌==◌}
use Rattle.std.specs.Option.{option_flatten, option_map, unwrap_or}
use Rattle.little.specs.Maybe.{and_then}
use Rattle.message.specs.declared.rows.Row.{Row}
use Rattle.message.specs.Items.{nodes_in, buffers_in, counts_in}
use Rattle.message.specs.Messages.{Columns, Contents, nothing, schema, dictionary, batch, other, Read}
use Rattle.tables.specs.declared.Table.{Table}
use Rattle.tables.specs.Tables.{table_at, u8_of, i16_of, i64_of, bool_of, present_of, leads, target_of, vector_at}
use Rattle.types.specs.Choices.{is}
use Rattle.fields.specs.Fields.{children_of}
use Rattle.fields.specs.Walks.{rows_at}
use Rattle.flatbuf.specs.declared.heads.Head.{Head}
use Rattle.flatbuf.specs.declared.heads.HeaderTable.{HeaderTable}
use Rattle.flatbuf.specs.declared.heads.HeaderTable.TheVariants.{Empty, Schema, DictionaryBatch, RecordBatch, Other}

-- the items of a vector in a slot, where the field is there
abbrev pub vector_in : ℕ → List ℕ → Option ℕ → Option (Option (List ℕ))
vector_in width bs None = Some None
vector_in width bs (Some p) = option_map Some (vector_at width bs p)

unfoldable pub vector_of : ℕ → List ℕ → Table → ℕ → Option (Option (List ℕ))
vector_of width bs t slot = and_then (target_of bs t slot) (vector_in width bs)

-- a RecordBatch by its length, its marks, and the bytes that its lists fill
pub record Parts : Type 0 where
  pub long : ℤ
  pub compressed : Bool
  pub missing : Bool
  pub nodes : List ℕ
  pub buffers : List ℕ
  pub counts : List ℕ

-- without nodes or buffers the batch is marked; a list that is not there is empty
abbrev pub parts_of : ℤ → Option (List ℕ) → Option (List ℕ) → Bool → Option (List ℕ) → Parts
parts_of long nodes buffers compressed counts = record {
  long = long;
  compressed = compressed;
  missing = not (is_some nodes && is_some buffers);
  nodes = unwrap_or nodes [];
  buffers = unwrap_or buffers [];
  counts = unwrap_or counts [];
}

-- length, nodes, buffers, compression, variadicBufferCounts
unfoldable pub batch_at : List ℕ → ℕ → Option Parts
batch_at bs p =
    and_then (table_at bs p) (λ t.
    and_then (i64_of (pos 0) bs t 0) (λ long.
    and_then (vector_of 16 bs t 1) (λ nodes.
    and_then (vector_of 16 bs t 2) (λ buffers.
    and_then (present_of bs t 3) (λ compressed.
    option_map (parts_of long nodes buffers compressed) (vector_of 8 bs t 4))))))

-- a dictionary without data is marked, and has neither length nor lists
abbrev pub data_at : List ℕ → Option ℕ → Option Parts
data_at bs None = Some (parts_of (pos 0) None None false None)
data_at bs (Some p) = batch_at bs p

pub record Dictionary : Type 0 where
  pub id : ℤ
  pub delta : Bool
  pub parts : Parts

-- id, data, isDelta
unfoldable pub dictionary_at : List ℕ → ℕ → Option Dictionary
dictionary_at bs p =
    and_then (table_at bs p) (λ t.
    and_then (i64_of (pos 0) bs t 0) (λ id.
    and_then (bool_of false bs t 2) (λ delta.
    and_then (target_of bs t 1) (λ o.
    option_map (λ parts. record { id = id; delta = delta; parts = parts }) (data_at bs o)))))

-- endianness, of which Big is refused; fields
unfoldable pub schema_at : List ℕ → ℕ → Option (List Row)
schema_at bs p =
    and_then (table_at bs p) (λ t.
    and_then (i16_of (pos 0) bs t 0) (λ order.
    elim (is order 1) [ true ↦ None | false ↦ and_then (children_of bs t 1) (rows_at bs) ]))

-- a header of type 1 to 3 has a table; that of another type is not looked at
unfoldable pub header_table : List ℕ → Table → ℕ → Option HeaderTable
header_table bs t number =
    let place = option_flatten (target_of bs t 2) in
    cond (number == 0) (Some Empty)
    (cond (number == 1) (option_map Schema place)
    (cond (number == 2) (option_map DictionaryBatch place)
    (cond (number == 3) (option_map RecordBatch place)
    (Some (Other number)))))

-- the root is a Message: version, header_type, header, bodyLength
unfoldable pub head_at : List ℕ → Option Head
head_at bs =
    and_then (leads bs 0) (λ p.
    and_then (table_at bs p) (λ t.
    and_then (i16_of (pos 0) bs t 0) (λ version.
    and_then (u8_of 0 bs t 1) (λ number.
    and_then (i64_of (pos 0) bs t 3) (λ body.
    option_map (λ header. record { version = version; body = body; header = header }) (header_table bs t number))))))

abbrev pub columns_in : Parts → Columns
columns_in p = record {
  long = p.long;
  compressed = p.compressed;
  missing = p.missing;
  nodes = nodes_in p.nodes;
  buffers = buffers_in p.buffers;
  counts = counts_in p.counts;
}

unfoldable pub contents_at : List ℕ → HeaderTable → Option Contents
contents_at bs Empty = Some nothing
contents_at bs (Schema p) = option_map schema (schema_at bs p)
contents_at bs (DictionaryBatch p) = option_map (λ d. dictionary d.id d.delta (columns_in d.parts)) (dictionary_at bs p)
contents_at bs (RecordBatch p) = option_map (λ p. batch (columns_in p)) (batch_at bs p)
contents_at bs (Other number) = Some (other number)

unfoldable pub flat_meaning : List ℕ → Read
flat_meaning bs = and_then (head_at bs) (λ h. option_map (λ c. record { version = h.version; body = h.body; contents = c }) (contents_at bs h.header))
