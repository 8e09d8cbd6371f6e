-- A batch of chosen columns beside the same batch with all columns.
use Rattle.std.specs.Prelude.{◌≡◌, ℕ, zero, suc, ◌+◌, ◌-◌, ◌<◌, true, List, length, Some, Ok, Err, Result}
use Rattle.std.specs.Option.{option_map}
use Rattle.std.specs.List.{slice_get}
use Rattle.message.specs.declared.faults.Refusal.{Refusal}
use Rattle.message.specs.Messages.{Message}
use Rattle.schemas.specs.Schemas.{Fields, none, field, count}
use Rattle.columns.specs.Entries.{Choice, all, these, named, entry_count}
use Rattle.columns.specs.Slots.{Cell, absent, bit, part, stored, span, group, link}
use Rattle.columns.specs.Cells.{cell_at}
use Rattle.feeds.specs.Messages.{Terms, Kept, Batch, Outcome, refuses, keeps, shows, act}

-- the same lengths, with another choice
abbrev pub choosing : Choice → Terms → Terms
choosing c t = record {
  message = t.message;
  body = t.body;
  store = t.store;
  nodes = t.nodes;
  buffers = t.buffers;
  counts = t.counts;
  columns = t.columns;
  choice = c;
}

-- an answer with its entries counted from a column's first
abbrev pub counted : ℕ → Cell → Cell
counted first absent = absent
counted first (bit b) = bit b
counted first (part p) = part p
counted first (stored p k) = stored p k
counted first (span e start n) = span (e - first) start n
counted first (group e i) = group (option_map (λ x. x - first) e) i
counted first (link e i) = link (e - first) i

abbrev pub counted_from : ℕ → Result Cell Refusal → Result Cell Refusal
counted_from first (Ok c) = Ok (counted first c)
counted_from first (Err r) = Err r

-- how many entries column c has
abbrev pub column_size : Fields → ℕ → ℕ
column_size none c = 0
column_size (field r kids next) zero = entry_count (field r kids none)
column_size (field r kids next) (suc c) = column_size next c

-- the column at a place of the one batch is the column at a place of the other: every entry of it and every index is
-- answered alike, refusals too, with entries counted from its first
pub record SameColumn (b : Batch) (p : ℕ) (b' : Batch) (p' : ℕ) (size : ℕ) : Type 0 where
  pub cells : (x i : ℕ) → x < size → counted_from p' (cell_at b'.sight (p' + x) i) ≡ counted_from p (cell_at b.sight (p + x) i)

-- the column at place j of the chosen batch, and the column whose number is chosen there
pub record AtPlace (b b' : Batch) (j c : ℕ) : Type 0 where
  pub from : ℕ
  pub found : slice_get b.places c ≡ Some from
  pub to : ℕ
  pub shown : slice_get b'.places j ≡ Some to
  pub same : SameColumn b from b' to (column_size b.sight.fields c)

-- as long, with a place for each number, repeats kept, at which the column with that number is shown
pub record SameColumns (ns : List ℕ) (b b' : Batch) : Type 0 where
  pub long : b'.long ≡ b.long
  pub many : length b'.places ≡ length ns
  pub places : (j c : ℕ) → slice_get ns j ≡ Some c → AtPlace b b' j c

-- what a feed for all columns takes, a feed for chosen ones takes too, where each number names a column
abbrev pub TakenToo : List ℕ → Outcome → Outcome → Type 0
TakenToo ns (refuses x) o = Unit {0}
TakenToo ns (keeps k) o = o ≡ keeps k
TakenToo ns (shows k b) o = named (count b.sight.fields) ns ≡ true → (b' : Batch) × (o ≡ shows k b') × SameColumns ns b b'

abbrev pub ChosenColumns : Type 0
ChosenColumns = (t : Terms) (ns : List ℕ) (k : Kept) (m : Message) (body : List ℕ) → TakenToo ns (act (choosing all t) k m body) (act (choosing (these ns) t) k m body)
