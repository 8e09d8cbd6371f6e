-- What a message does: it is refused; or the schema and the dictionaries are kept on; or a batch is shown.
use Rattle.std.specs.Prelude.{ℕ, zero, suc, ◌+◌, Bool, true, false, cond, not, ◌&&◌, ◌||◌, List, [], ◌∷◌, length, ℤ, Some, None, Ok, Err, Option, Result, ◌==◌, nat_le}
use Rattle.std.specs.Option.{unwrap_or}
use Rattle.message.specs.declared.faults.Refusal.{Refusal}
use Rattle.message.specs.declared.faults.Refusal.TheVariants.{HeaderType, SecondSchema, Rows, NoSchema, NoSuchId, Marks, ListLength, NoSuchColumn, CountsLeft, BatchLength, DeltaFirst, Room}
use Rattle.message.specs.declared.rows.Row.{Row}
use Rattle.message.specs.Messages.{Columns, Contents, nothing, schema, dictionary, batch, other, Message}
use Rattle.dictionaries.specs.Values.{Value}
use Rattle.dictionaries.specs.Stores.{area}
use Rattle.dictionaries.specs.Areas.{Area, held_in, renewed, enlarged, fits}
use Rattle.schemas.specs.Schemas.{Fields, none, field, count, parse, admits}
use Rattle.schemas.specs.Takings.{nothing_yet, after}
use Rattle.columns.specs.declared.entries.Column.{Column}
use Rattle.columns.specs.Entries.{Choice, shows as shows_column, numbers, named, entries, shown_entries, places_of}
use Rattle.columns.specs.Looks.{Sight, longest, length_at, unsigned}
use Rattle.columns.specs.Slots.{Cell, absent, bit, part, stored, span, group, link}
use Rattle.columns.specs.Rules.{Numbered, value_row_of}
use Rattle.columns.specs.Cells.{cell_at}
use Rattle.columns.specs.Reads.{Broken, plainly, or_else, unless_kept, fields_fault, columns_fault}

-- what is settled when a feed is opened: the lengths of the memories that are lent to it, and which columns it shows
pub record Terms : Type 0 where
  pub message : ℕ
  pub body : ℕ
  pub store : ℕ
  pub nodes : ℕ
  pub buffers : ℕ
  pub counts : ℕ
  pub columns : ℕ
  pub choice : Choice

-- what lasts from message to message: the schema, and the dictionaries as the areas of the store
pub record Kept : Type 0 where
  pub schema : Option Fields
  pub areas : List Area

-- a batch: its length, all that its cells are looked at through, and the entry of the column at each place
pub record Batch : Type 0 where
  pub long : ℕ
  pub sight : Sight
  pub places : List ℕ

pub data Outcome : Type 0 where
  refuses : Broken → Outcome
  keeps : Kept → Outcome
  shows : Kept → Batch → Outcome

-- a batch's lists fit their tables
abbrev pub lists_fit : Terms → Columns → Bool
lists_fit t c = nat_le (length c.nodes) t.nodes && (nat_le (length c.buffers) t.buffers && nat_le (length c.counts) t.counts)

-- the columns at these entries have n slots each
abbrev pub is_long : ℕ → Option ℕ → Bool
is_long n None = false
is_long n (Some l) = l == n

abbrev pub all_long : Sight → ℕ → List ℕ → Bool
all_long s n [] = true
all_long s n (e ∷ es) = is_long n (length_at s e) && all_long s n es

-- a batch's length is from 0 to 2,147,483,647, and that of every column shown
abbrev pub length_fits : Sight → List ℕ → Option ℕ → Bool
length_fits s es None = false
length_fits s es (Some n) = nat_le n longest && all_long s n es

abbrev pub sight_of : Kept → Fields → Columns → List Column → List ℕ → Sight
sight_of k fs c es body = record { fields = fs; nodes = c.nodes; buffers = c.buffers; counts = c.counts; columns = es; body = body; held = held_in k.areas }

-- the first refusal of a batch's own: a mark is set; a list is longer than its table; its columns in reading order
abbrev pub columns_read : Terms → Columns → (Unit {0} → Option Broken) → Option Broken
columns_read t c reading =
    or_else (unless_kept (not (c.compressed || c.missing)) (plainly Marks)) (λ _.
    or_else (unless_kept (lists_fit t c) (plainly ListLength)) reading)

-- and then: counts are left over; its length does not fit
abbrev pub whole_read : ℕ → Sight → List ℕ → Columns → Option Broken
whole_read taken s es c =
    or_else (unless_kept (taken == length c.counts) (plainly CountsLeft)) (λ _.
    unless_kept (length_fits s es (unsigned c.long)) (plainly BatchLength))

-- a record batch
abbrev pub batch_sight : Terms → Kept → Fields → ℤ → Columns → List ℕ → Sight
batch_sight t k fs version c body = sight_of k fs c (shown_entries version c.counts (shows_column t.choice) 0 0 fs nothing_yet) body

unfoldable pub batch_fault : Terms → Fields → ℤ → Sight → Columns → Option Broken
batch_fault t fs version s c =
    or_else (columns_read t c (λ _. columns_fault s version (shows_column t.choice) 0 0 0 fs nothing_yet)) (λ _.
    or_else (unless_kept (named (count fs) (numbers t.choice fs)) (plainly NoSuchColumn)) (λ _.
    whole_read (after version c.counts fs nothing_yet).counts s (places_of t.choice fs) c))

abbrev pub batch_by : Kept → Batch → Option Broken → Outcome
batch_by k b None = shows k b
batch_by k b (Some x) = refuses x

abbrev pub batch_of : Terms → Kept → Fields → ℤ → Columns → List ℕ → Batch
batch_of t k fs version c body = record {
  long = unwrap_or (unsigned c.long) 0;
  sight = batch_sight t k fs version c body;
  places = places_of t.choice fs;
}

abbrev pub act_batch : Terms → Kept → Fields → ℤ → Columns → List ℕ → Outcome
act_batch t k fs version c body = batch_by k (batch_of t k fs version c body) (batch_fault t fs version (batch_sight t k fs version c body) c)

-- a dictionary batch is read as one shown column, of its value row
abbrev pub value_field : Numbered → Fields
value_field v = field v.row none none

abbrev pub value_sight : Kept → Fields → Numbered → ℤ → Columns → List ℕ → Sight
value_sight k fs v version c body = sight_of k fs c (entries version c.counts v.number (value_field v) nothing_yet) body

unfoldable pub values_fault : Terms → Numbered → ℤ → Sight → Columns → Option Broken
values_fault t v version s c =
    or_else (columns_read t c (λ _. fields_fault s version true v.number 0 (value_field v) nothing_yet)) (λ _.
    whole_read (after version c.counts (value_field v) nothing_yet).counts s (0 ∷ []) c)

-- a value of a dictionary: bytes, a bit as a byte 0 or 1, or nothing where it is absent
abbrev pub value_of : Result Cell Refusal → Value
value_of (Ok absent) = None
value_of (Ok (bit b)) = Some (cond b 1 0 ∷ [])
value_of (Ok (part p)) = Some p.bytes
value_of (Ok (stored p k)) = None
value_of (Ok (span e i n)) = None
value_of (Ok (group e i)) = None
value_of (Ok (link e i)) = None
value_of (Err r) = None

abbrev pub values_from : Sight → ℕ → ℕ → List Value
values_from s i zero = []
values_from s i (suc n) = value_of (cell_at s 0 i) ∷ values_from s (i + 1) n

-- a whole batch replaces, a delta appends to what is held
abbrev pub updated : ℤ → Bool → List Value → List Area → Option (List Area)
updated id true vs areas = enlarged id (length vs) (area vs) areas
updated id false vs areas = Some (renewed id (length vs) (area vs) areas)

abbrev pub stored_by : Terms → Kept → Option (List Area) → Outcome
stored_by t k None = refuses (plainly DeltaFirst)
stored_by t k (Some areas) = elim (fits t.store areas) [
  | true ↦ keeps (record { schema = k.schema; areas = areas })
  | false ↦ refuses (plainly Room)
]

abbrev pub values_by : Terms → Kept → ℤ → Bool → Sight → ℕ → Option Broken → Outcome
values_by t k id delta s n None = stored_by t k (updated id delta (values_from s 0 n) k.areas)
values_by t k id delta s n (Some x) = refuses x

abbrev pub act_values : Terms → Kept → Fields → ℤ → ℤ → Bool → Columns → List ℕ → Option Numbered → Outcome
act_values t k fs version id delta c body None = refuses (plainly NoSuchId)
act_values t k fs version id delta c body (Some v) =
    let s = value_sight k fs v version c body in
    values_by t k id delta s (unwrap_or (unsigned c.long) 0) (values_fault t v version s c)

-- the fields of rows that are a schema
abbrev pub fields_of : List Row → Fields
fields_of rows = unwrap_or (parse (length rows) 0 (length rows) rows) none

abbrev pub act_schema : Kept → List Row → Option Fields → Outcome
act_schema k rows None = elim (admits rows) [
  | true ↦ keeps (record { schema = Some (fields_of rows); areas = k.areas })
  | false ↦ refuses (plainly Rows)
]
act_schema k rows (Some fs) = refuses (plainly SecondSchema)

-- a message by what it is about, where a schema came before it or not
abbrev pub act_on : Terms → Kept → ℤ → List ℕ → Option Fields → Contents → Outcome
act_on t k version body o nothing = keeps k
act_on t k version body o (schema rows) = act_schema k rows o
act_on t k version body None (dictionary id delta c) = refuses (plainly NoSchema)
act_on t k version body (Some fs) (dictionary id delta c) = act_values t k fs version id delta c body (value_row_of id 0 fs)
act_on t k version body None (batch c) = refuses (plainly NoSchema)
act_on t k version body (Some fs) (batch c) = act_batch t k fs version c body
act_on t k version body o (other n) = refuses (plainly HeaderType)

unfoldable pub act : Terms → Kept → Message → List ℕ → Outcome
act t k m body = act_on t k m.version body k.schema m.contents
