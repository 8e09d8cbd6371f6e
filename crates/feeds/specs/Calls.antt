-- A feed and the memories that are lent to it, and what each call answers and leaves.
use Rattle.std.specs.Prelude.{◌≡◌, ℕ, ◌-◌, Bool, true, false, ◌&&◌, List, [], ◌∷◌, length, take, drop, ℤ, Some, None, Ok, Err, Option, Result, nat_le}
use Rattle.std.specs.List.{slice_get}
use Rattle.message.specs.declared.faults.Fault.{Fault}
use Rattle.message.specs.declared.faults.Refusal.{Refusal}
use Rattle.message.specs.declared.faults.Refusal.TheVariants.{Lengths, ChoiceLength, NoBatch, OutOfRange}
use Rattle.message.specs.declared.items.Buffer.{Buffer}
use Rattle.message.specs.declared.items.Node.{Node}
use Rattle.message.specs.declared.rows.Row.{Row}
use Rattle.message.specs.Faults.{bare}
use Rattle.framing.specs.Calls.{end_at}
use Rattle.framing.specs.Moves.{Went, quiet, showed, refused}
use Rattle.framing.specs.Steps.{Stand, header, metadata, body, ended, stopped}
use Rattle.dictionaries.specs.Areas.{Area, packed, held_in}
use Rattle.schemas.specs.Schemas.{Fields, listing}
use Rattle.columns.specs.declared.entries.Column.{Column}
use Rattle.columns.specs.Entries.{Choice, all, these}
use Rattle.columns.specs.Looks.{Sight}
use Rattle.columns.specs.Slots.{Cell}
use Rattle.columns.specs.Cells.{cell_at}
use Rattle.feeds.specs.Messages.{Terms, Kept, Batch}
use Rattle.feeds.specs.Streams.{Meaning}
use Rattle.feeds.specs.Steps.{State, starting, fed}

-- the memories: two holds and a store of bytes, and tables of nodes, buffers, counts and columns
pub record Memories : Type 0 where
  pub message : List ℕ
  pub body : List ℕ
  pub store : List ℕ
  pub nodes : List Node
  pub buffers : List Buffer
  pub counts : List ℤ
  pub columns : List Column

-- they have the lengths that were settled at the opening
pub record Own (t : Terms) (m : Memories) : Type 0 where
  pub message : length m.message ≡ t.message
  pub body : length m.body ≡ t.body
  pub store : length m.store ≡ t.store
  pub nodes : length m.nodes ≡ t.nodes
  pub buffers : length m.buffers ≡ t.buffers
  pub counts : length m.counts ≡ t.counts
  pub columns : length m.columns ≡ t.columns

-- a feed, read off its own state and the memories together: where it stands with the bytes that it has gathered, what it
-- keeps, and the batch that is current
pub record Feed : Type 0 where
  pub terms : Terms
  pub state : State
  pub batch : Option Batch

-- open: a message hold of 1 to 1,048,576 bytes; a body hold and a store of at most 16,777,216; tables of at most
-- 4,096 entries, of columns at least 256; at most 64 column numbers
abbrev pub in_bounds : Terms → Bool
in_bounds t =
    nat_le 1 t.message
    && (nat_le t.message 1048576
    && (nat_le t.body 16777216
    && (nat_le t.store 16777216
    && (nat_le t.nodes 4096
    && (nat_le t.buffers 4096
    && (nat_le t.counts 4096
    && (nat_le 256 t.columns && nat_le t.columns 4096)))))))

abbrev pub few_numbers : Choice → Bool
few_numbers all = true
few_numbers (these ns) = nat_le (length ns) 64

abbrev pub opening : Terms → Feed
opening t = record { terms = t; state = starting; batch = None }

abbrev pub opened : Terms → Result Feed Fault
opened t = elim (in_bounds t) [
  | true ↦ elim (few_numbers t.choice) [ true ↦ Ok (opening t) | false ↦ Err (bare ChoiceLength) ]
  | false ↦ Err (bare Lengths)
]

-- feed: the bytes that were used, and the length of the batch at which it stops
pub record Fed : Type 0 where
  pub used : ℕ
  pub long : Option ℕ

abbrev pub answered : List ℕ → Went State Batch Fault → Result Fed Fault
answered piece (quiet s) = Ok (record { used = length piece; long = None })
answered piece (showed b s rest) = Ok (record { used = length piece - length rest; long = Some b.long })
answered piece (refused f s) = Err f

-- the batch that was current is so no longer; a batch that is shown is
abbrev pub leaves : Terms → Went State Batch Fault → Feed
leaves t (quiet s) = record { terms = t; state = s; batch = None }
leaves t (showed b s rest) = record { terms = t; state = s; batch = Some b }
leaves t (refused f s) = record { terms = t; state = s; batch = None }

-- a memory has its bytes or entries at its front, and behind them anything
abbrev pub Front : {A : Type 0} → List A → List A → Type 0
Front xs ys = take (length xs) ys ≡ xs

abbrev pub metadata_of : Stand → List ℕ
metadata_of (header p got) = []
metadata_of (metadata p marked n got) = got
metadata_of (body p marked meta facts n got) = meta
metadata_of (ended p) = []
metadata_of (stopped f) = []

abbrev pub body_of : Stand → List ℕ
body_of (header p got) = []
body_of (metadata p marked n got) = []
body_of (body p marked meta facts n got) = got
body_of (ended p) = []
body_of (stopped f) = []

-- a batch's lists, its entries and its body
pub record Shown (b : Batch) (m : Memories) : Type 0 where
  pub nodes : Front b.sight.nodes m.nodes
  pub buffers : Front b.sight.buffers m.buffers
  pub counts : Front b.sight.counts m.counts
  pub columns : Front b.sight.columns m.columns
  pub body : Front b.sight.body m.body

abbrev pub ShownBatch : Option Batch → Memories → Type 0
ShownBatch None m = Unit {0}
ShownBatch (Some b) m = Shown b m

-- the bytes that were gathered of a frame, the areas of the dictionaries, and the current batch
pub record Holds (f : Feed) (m : Memories) : Type 0 where
  pub metadata : Front (metadata_of f.state.stand) m.message
  pub body : Front (body_of f.state.stand) m.body
  pub store : Front (packed f.state.kept.areas) m.store
  pub batch : ShownBatch f.batch m

pub record Came (piece : List ℕ) (f : Feed) (w : Went State Batch Fault) (r : Result Fed Fault) (f' : Feed) (m' : Memories) : Type 0 where
  pub answer : r ≡ answered piece w
  pub feed : f' ≡ leaves f.terms w
  pub holds : Holds f' m'
  pub own : Own f.terms m'

-- memories of other lengths are refused, and nothing changes
pub record Feeds (meaning : Meaning) (f : Feed) (m : Memories) (piece : List ℕ) (r : Result Fed Fault) (f' : Feed) (m' : Memories) : Type 0 where
  pub own : Own f.terms m → Holds f m → Came piece f (fed f.terms meaning f.state piece) r f' m'
  pub other : (Own f.terms m → ⊥) → (r ≡ Err (bare Lengths)) × (f' ≡ f) × (m' ≡ m)

abbrev pub barely : {A : Type 0} → Result A Refusal → Result A Fault
barely (Ok x) = Ok x
barely (Err r) = Err (bare r)

-- place: the entry of the column at a place of the current batch
abbrev pub entry_by : Option ℕ → Result ℕ Refusal
entry_by None = Err OutOfRange
entry_by (Some e) = Ok e

abbrev pub place_in : Option Batch → ℕ → Result ℕ Refusal
place_in None j = Err NoBatch
place_in (Some b) j = entry_by (slice_get b.places j)

-- cell: a batch's own answer, and the answer that the memories give as they are now
abbrev pub cell_of : Option Batch → ℕ → ℕ → Result Cell Refusal
cell_of None e i = Err NoBatch
cell_of (Some b) e i = cell_at b.sight e i

-- the areas with the bytes that the store has now
abbrev pub recut : List Area → List ℕ → List Area
recut [] bs = []
recut (a ∷ rest) bs = record { id = a.id; count = a.count; bytes = take (length a.bytes) bs } ∷ recut rest (drop (length a.bytes) bs)

abbrev pub sight_in : Kept → Memories → Batch → Sight
sight_in k m b = record {
  fields = b.sight.fields;
  nodes = m.nodes;
  buffers = m.buffers;
  counts = m.counts;
  columns = take (length b.sight.columns) m.columns;
  body = m.body;
  held = held_in (recut k.areas m.store);
}

abbrev pub cell_in : Kept → Memories → Option Batch → ℕ → ℕ → Result Cell Refusal
cell_in k m None e i = Err NoBatch
cell_in k m (Some b) e i = cell_at (sight_in k m b) e i

pub record Cells (f : Feed) (m : Memories) (e i : ℕ) (r : Result Cell Fault) : Type 0 where
  pub own : Own f.terms m → r ≡ barely (cell_in f.state.kept m f.batch e i)
  pub other : (Own f.terms m → ⊥) → r ≡ Err (bare Lengths)

-- finish: whether the stream may stop here
abbrev pub finish_of : Feed → Result (Unit {0}) Fault
finish_of f = end_at f.state.stand

-- schema: row k of the schema, where there is one
abbrev pub row_in : Option Fields → ℕ → Option Row
row_in None k = None
row_in (Some fs) k = slice_get (listing 0 fs) k
