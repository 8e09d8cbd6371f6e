-- What holds throughout every run of calls from an accepted opening, for every reading.
use Rattle.std.specs.Prelude.{◌≡◌, ℕ, ◌+◌, ◌<◌, true, ◌⊎◌, List, [], ◌∷◌, Some, None, Ok, Err, Option, Result}
use Rattle.message.specs.declared.faults.Fault.{Fault}
use Rattle.feeds.specs.Messages.{Terms, Batch}
use Rattle.feeds.specs.Chosen.{choosing, counted, column_size}
use Rattle.feeds.specs.Streams.{Meaning, feed}
use Rattle.feeds.specs.Calls.{Memories, Own, Feed, opened}
use Rattle.columns.specs.Entries.{all, these, named}
use Rattle.columns.specs.Slots.{Cell}
use Rattle.schemas.specs.Schemas.{count}
use Rattle.std.specs.List.{slice_get}
use Rattle.feeds.specs.Runs.{Question, piece_other, place, cell, cell_other, finish, schema_row, Call, feeds, asks, Runs, Gets, lengths, first_refusal, Finished, Shows, NeverStuck}

-- no cell gets stuck; and a run that gets some bytes, in whatever pieces, shows what they tell
pub record Lawful (t : Terms) (f : Feed) : Type 0 where
  pub unstuck : (m : Meaning) (mem : Memories) → Own t mem → (cs : List Call) (run : Runs m f mem cs) → NeverStuck m f mem cs run
  pub shown : (m : Meaning) (mem : Memories) → Own t mem → (cs : List Call) → Runs m f mem cs → (bytes : List ℕ) → Gets bytes cs → Shows (feed t m bytes) bytes cs

-- the number of the batch that is current, and of the one that comes next
abbrev pub now_by : Option ℕ → ℕ → Option ℕ
now_by None n = None
now_by (Some long) n = Some n

abbrev pub next_by : Option ℕ → ℕ → ℕ
next_by None n = n
next_by (Some long) n = n + 1

-- while batch n was current this was asked, and r was the answer
abbrev pub CellBy : ℕ → ℕ → ℕ → Result Cell Fault → Option ℕ → Question → Type 0
CellBy n e i r now (piece_other p q) = ⊥
CellBy n e i r now (place j q) = ⊥
CellBy n e i r now (cell e' i' q) = (now ≡ Some n) × (e' ≡ e) × (i' ≡ i) × (q ≡ r)
CellBy n e i r now (cell_other e' i' q) = ⊥
CellBy n e i r now (finish q) = ⊥
CellBy n e i r now (schema_row k q) = ⊥

abbrev pub PlaceBy : ℕ → ℕ → Result ℕ Fault → Option ℕ → Question → Type 0
PlaceBy n j r now (piece_other p q) = ⊥
PlaceBy n j r now (place j' q) = (now ≡ Some n) × (j' ≡ j) × (q ≡ r)
PlaceBy n j r now (cell e i q) = ⊥
PlaceBy n j r now (cell_other e i q) = ⊥
PlaceBy n j r now (finish q) = ⊥
PlaceBy n j r now (schema_row k q) = ⊥

-- some question of a run was such, up to the first refusal
abbrev pub Asked : (Option ℕ → Question → Type 0) → Option ℕ → ℕ → List Call → Type 0
Asked such now next [] = ⊥
Asked such now next (feeds p (Ok s) ∷ cs) = Asked such (now_by s.long next) (next_by s.long next) cs
Asked such now next (feeds p (Err x) ∷ cs) = ⊥
Asked such now next (asks q ∷ cs) = such now q ⊎ Asked such now next cs

abbrev pub AskedCell : ℕ → ℕ → ℕ → Result Cell Fault → List Call → Type 0
AskedCell n e i r cs = Asked (CellBy n e i r) None 0 cs

abbrev pub AskedPlace : ℕ → ℕ → Result ℕ Fault → List Call → Type 0
AskedPlace n j r cs = Asked (PlaceBy n j r) None 0 cs

-- two runs on the same bytes: equally many batches, each as long in both, with places and cells answered alike; the
-- same first refusal; and the same answer to finish
pub record Alike (bytes : List ℕ) (cs ds : List Call) : Type 0 where
  pub batches : lengths cs ≡ lengths ds
  pub places : (n j : ℕ) (r q : Result ℕ Fault) → AskedPlace n j r cs → AskedPlace n j q ds → r ≡ q
  pub cells : (n e i : ℕ) (r q : Result Cell Fault) → AskedCell n e i r cs → AskedCell n e i q ds → r ≡ q
  pub refusal : first_refusal cs ≡ first_refusal ds
  pub finish : (r q : Result (Unit {0}) Fault) → Finished bytes r cs → Finished bytes q ds → r ≡ q

-- every feed that open accepts is lawful
abbrev pub OpenedLawful : Type 0
OpenedLawful = (t : Terms) (f : Feed) → opened t ≡ Ok f → Lawful t f

-- two feeds that choose alike and get the same bytes, in whatever pieces, show the same
abbrev pub PiecesAlike : Type 0
PiecesAlike =
    (t : Terms) (f : Feed) → opened t ≡ Ok f → (m : Meaning) (mem mem' : Memories) → Own t mem → Own t mem' →
    (cs ds : List Call) → Runs m f mem cs → Runs m f mem' ds → (bytes : List ℕ) → Gets bytes cs → Gets bytes ds → Alike bytes cs ds

abbrev pub counted_fault : ℕ → Result Cell Fault → Result Cell Fault
counted_fault first (Ok c) = Ok (counted first c)
counted_fault first (Err x) = Err x

-- every number names a column
abbrev pub AllNamed : List ℕ → List Batch → Type 0
AllNamed ns bs = (n : ℕ) (b : Batch) → slice_get bs n ≡ Some b → named (count b.sight.fields) ns ≡ true

-- how many entries column c of batch n has
abbrev pub size_in : Option Batch → ℕ → ℕ
size_in None c = 0
size_in (Some b) c = column_size b.sight.fields c

-- a run for all columns beside a run for chosen ones: each batch that the former takes the latter takes too, as long;
-- and at place j of the latter, where c is its j-th number, every cell of that column is answered as at place c of the
-- former, with entries counted from the column's first
pub record ChosenAlike (bs : List Batch) (ns : List ℕ) (cs ds : List Call) : Type 0 where
  pub batches : (n long : ℕ) → slice_get (lengths cs) n ≡ Some long → slice_get (lengths ds) n ≡ Some long
  pub cells : (n j c p p' x i : ℕ) (r r' : Result Cell Fault) → slice_get ns j ≡ Some c → AskedPlace n c (Ok p) cs → AskedPlace n j (Ok p') ds → x < size_in (slice_get bs n) c → AskedCell n (p + x) i r cs → AskedCell n (p' + x) i r' ds → counted_fault p' r' ≡ counted_fault p r

-- a feed for chosen columns, each number naming one, shows what a feed for all shows before its first refusal
abbrev pub ChoicesAlike : Type 0
ChoicesAlike =
    (t : Terms) (ns : List ℕ) (f g : Feed) → opened (choosing all t) ≡ Ok f → opened (choosing (these ns) t) ≡ Ok g →
    (m : Meaning) (mem mem' : Memories) → Own t mem → Own t mem' → (cs ds : List Call) → Runs m f mem cs → Runs m g mem' ds →
    (bytes : List ℕ) → Gets bytes cs → Gets bytes ds → AllNamed ns (feed (choosing all t) m bytes).batches → ChosenAlike (feed (choosing all t) m bytes).batches ns cs ds
