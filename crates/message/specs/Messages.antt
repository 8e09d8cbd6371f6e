-- What the metadata of a message says, whatever its form.
use Rattle.std.specs.Prelude.{ℕ, Bool, List, [], length, ℤ, Some, None, Ok, Err, Option, Result}
use Rattle.message.specs.declared.headers.BatchFacts.{BatchFacts}
use Rattle.message.specs.declared.headers.Facts.{Facts}
use Rattle.message.specs.declared.headers.Header.{Header}
use Rattle.message.specs.declared.headers.Header.TheVariants.{Empty, Schema, DictionaryBatch, RecordBatch, Other}
use Rattle.message.specs.declared.items.Buffer.{Buffer}
use Rattle.message.specs.declared.items.Node.{Node}
use Rattle.message.specs.declared.readings.Refused.{Refused}
use Rattle.message.specs.declared.rows.Row.{Row}

-- a batch of columns: its length, a node for each column, the places of their buffers in the body, how many buffers
-- each view column has; whether the body is compressed, and whether its lists are missing
pub record Columns : Type 0 where
  pub long : ℤ
  pub compressed : Bool
  pub missing : Bool
  pub nodes : List Node
  pub buffers : List Buffer
  pub counts : List ℤ

-- what a message is about, by its header type: 0 nothing, 1 the rows of a schema, 2 the values of a dictionary,
-- 3 a record batch, above 3 something that this stream does not know
pub data Contents : Type 0 where
  nothing : Contents
  schema : List Row → Contents
  dictionary : ℤ → Bool → Columns → Contents
  batch : Columns → Contents
  other : ℕ → Contents

pub record Message : Type 0 where
  pub version : ℤ
  pub body : ℤ
  pub contents : Contents

-- what bytes are read as: nothing where they are refused
abbrev pub Read : Type 0
Read = Option Message

-- a batch by its counts
abbrev pub batch_facts : Columns → BatchFacts
batch_facts c = record {
  length = c.long;
  compressed = c.compressed;
  missing = c.missing;
  nodes = length c.nodes;
  buffers = length c.buffers;
  counts = length c.counts;
}

-- the number of a header type
abbrev pub type_of : Header → ℕ
type_of Empty = 0
type_of (Schema rows) = 1
type_of (DictionaryBatch id delta facts) = 2
type_of (RecordBatch facts) = 3
type_of (Other n) = n

abbrev pub header_of : Contents → Header
header_of nothing = Empty
header_of (schema rows) = Schema (length rows)
header_of (dictionary id delta c) = DictionaryBatch id delta (batch_facts c)
header_of (batch c) = RecordBatch (batch_facts c)
header_of (other n) = Other n

abbrev pub facts_of : Read → Result Facts Refused
facts_of None = Err (record {})
facts_of (Some m) = Ok (record { version = m.version; body = m.body; header = header_of m.contents })

-- the lists: rows of a schema; nodes, buffers and counts of a batch or a dictionary; else none
abbrev pub rows_in : Contents → List Row
rows_in nothing = []
rows_in (schema rows) = rows
rows_in (dictionary id delta c) = []
rows_in (batch c) = []
rows_in (other n) = []

abbrev pub list_in : {A : Type 0} → (Columns → List A) → Contents → List A
list_in list nothing = []
list_in list (schema rows) = []
list_in list (dictionary id delta c) = list c
list_in list (batch c) = list c
list_in list (other n) = []

abbrev pub rows_of : Read → List Row
rows_of None = []
rows_of (Some m) = rows_in m.contents

abbrev pub list_of : {A : Type 0} → (Columns → List A) → Read → List A
list_of list None = []
list_of list (Some m) = list_in list m.contents

abbrev pub nodes_of : Read → List Node
nodes_of = list_of (λ c. c.nodes)

abbrev pub buffers_of : Read → List Buffer
buffers_of = list_of (λ c. c.buffers)

abbrev pub counts_of : Read → List ℤ
counts_of = list_of (λ c. c.counts)
