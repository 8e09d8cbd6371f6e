-- Runs of calls on one feed and its memories, in any number and order.
use Rattle.std.specs.Prelude.{◌≡◌, ℕ, ◌⊎◌, List, [], ◌∷◌, ◌++◌, drop, Some, None, Ok, Err, Option, Result}
use Rattle.message.specs.declared.faults.Fault.{Fault}
use Rattle.message.specs.declared.faults.Refusal.TheVariants.{Lengths}
use Rattle.message.specs.declared.rows.Row.{Row}
use Rattle.message.specs.Faults.{bare}
use Rattle.framing.specs.Runs.{refusal_of, end_of}
use Rattle.columns.specs.Looks.{Look, look}
use Rattle.columns.specs.Slots.{Cell}
use Rattle.columns.specs.Cells.{InRange, Points}
use Rattle.feeds.specs.Messages.{Batch}
use Rattle.feeds.specs.Streams.{Meaning, Told}
use Rattle.feeds.specs.Calls.{Memories, Own, Feed, Fed, Feeds, barely, place_in, cell_of, Cells, finish_of, row_in}

-- a question with its answer: what changes neither the feed nor its memories; piece_other and cell_other are a piece and
-- a cell with memories of other lengths
pub data Question : Type 0 where
  piece_other : List ℕ → Result Fed Fault → Question
  place : ℕ → Result ℕ Fault → Question
  cell : ℕ → ℕ → Result Cell Fault → Question
  cell_other : ℕ → ℕ → Result Cell Fault → Question
  finish : Result (Unit {0}) Fault → Question
  schema_row : ℕ → Option Row → Question

-- a call with its answer: a piece, or a question
pub data Call : Type 0 where
  feeds : List ℕ → Result Fed Fault → Call
  asks : Question → Call

-- the memories that a call is lent have other lengths than at the opening
abbrev pub Others : Feed → Memories → Type 0
Others f o = Own f.terms o → ⊥

-- a question is answered as it is defined; a piece with other memories leaves all as it was
abbrev pub Asks : Meaning → Feed → Memories → Question → Type 0
Asks m f mem (piece_other p r) = (o : Memories) × (f' : Feed) × (o' : Memories) × Others f o × Feeds m f o p r f' o'
Asks m f mem (place j r) = r ≡ barely (place_in f.batch j)
Asks m f mem (cell e i r) = Cells f mem e i r
Asks m f mem (cell_other e i r) = (o : Memories) × Others f o × Cells f o e i r
Asks m f mem (finish r) = r ≡ finish_of f
Asks m f mem (schema_row k r) = r ≡ row_in f.state.kept.schema k

-- the calls, one after the other, each as it is defined; nothing else changes the feed and its memories
abbrev pub Runs : Meaning → Feed → Memories → List Call → Type 0
Runs m f mem [] = Unit {0}
Runs m f mem (feeds p r ∷ cs) = (f' : Feed) × (mem' : Memories) × Feeds m f mem p r f' mem' × Runs m f' mem' cs
Runs m f mem (asks q ∷ cs) = Asks m f mem q × Runs m f mem cs

-- the feed gets these bytes, whatever the pieces: each call gets the front of what is left of them, and all are used,
-- or a call is refused
abbrev pub Gets : List ℕ → List Call → Type 0
Gets left [] = left ≡ []
Gets left (feeds p (Ok s) ∷ cs) = (later : List ℕ) × (left ≡ p ++ later) × Gets (drop s.used left) cs
Gets left (feeds p (Err x) ∷ cs) = (later : List ℕ) × (left ≡ p ++ later)
Gets left (asks q ∷ cs) = Gets left cs

-- the lengths of the batches that the calls gave, up to the first refusal
abbrev pub lengths_by : Option ℕ → List ℕ → List ℕ
lengths_by None ns = ns
lengths_by (Some n) ns = n ∷ ns

abbrev pub lengths : List Call → List ℕ
lengths [] = []
lengths (feeds p (Ok s) ∷ cs) = lengths_by s.long (lengths cs)
lengths (feeds p (Err x) ∷ cs) = []
lengths (asks q ∷ cs) = lengths cs

abbrev pub lengths_of : List Batch → List ℕ
lengths_of [] = []
lengths_of (b ∷ bs) = b.long ∷ lengths_of bs

-- the first refusal of a piece
abbrev pub first_refusal : List Call → Option Fault
first_refusal [] = None
first_refusal (feeds p (Ok s) ∷ cs) = first_refusal cs
first_refusal (feeds p (Err x) ∷ cs) = Some x
first_refusal (asks q ∷ cs) = first_refusal cs

-- the batch that is current once a feed gave one or none, and those that are still to come
abbrev pub head_of : List Batch → Option Batch
head_of [] = None
head_of (b ∷ bs) = Some b

abbrev pub tail_of : List Batch → List Batch
tail_of [] = []
tail_of (b ∷ bs) = bs

abbrev pub current_by : Option ℕ → List Batch → Option Batch
current_by None bs = None
current_by (Some n) bs = head_of bs

abbrev pub coming_by : Option ℕ → List Batch → List Batch
coming_by None bs = bs
coming_by (Some n) bs = tail_of bs

-- places and cells are answered as by the batch that is current
abbrev pub AnswerBy : Option Batch → Question → Type 0
AnswerBy b (piece_other p r) = r ≡ Err (bare Lengths)
AnswerBy b (place j r) = r ≡ barely (place_in b j)
AnswerBy b (cell e i r) = r ≡ barely (cell_of b e i)
AnswerBy b (cell_other e i r) = r ≡ Err (bare Lengths)
AnswerBy b (finish r) = Unit {0}
AnswerBy b (schema_row k r) = Unit {0}

abbrev pub AnsweredBy : Option Batch → List Batch → List Call → Type 0
AnsweredBy b bs [] = Unit {0}
AnsweredBy b bs (feeds p (Ok s) ∷ cs) = AnsweredBy (current_by s.long bs) (coming_by s.long bs) cs
AnsweredBy b bs (feeds p (Err x) ∷ cs) = AnsweredBy None [] cs
AnsweredBy b bs (asks q ∷ cs) = AnswerBy b q × AnsweredBy b bs cs

-- finish was asked once all bytes were used or one was refused, and r was the answer
abbrev pub FinishedBy : List ℕ → Result (Unit {0}) Fault → Question → Type 0
FinishedBy left r (piece_other p q) = ⊥
FinishedBy left r (place j q) = ⊥
FinishedBy left r (cell e i q) = ⊥
FinishedBy left r (cell_other e i q) = ⊥
FinishedBy left r (finish q) = (left ≡ []) × (q ≡ r)
FinishedBy left r (schema_row k q) = ⊥

abbrev pub Finished : List ℕ → Result (Unit {0}) Fault → List Call → Type 0
Finished left r [] = ⊥
Finished left r (feeds p (Ok s) ∷ cs) = Finished (drop s.used left) r cs
Finished left r (feeds p (Err x) ∷ cs) = Finished [] r cs
Finished left r (asks q ∷ cs) = FinishedBy left r q ⊎ Finished left r cs

-- after a refusal every later piece, and finish, is answered by it
abbrev pub StaysBy : Fault → Question → Type 0
StaysBy x (piece_other p r) = Unit {0}
StaysBy x (place j r) = Unit {0}
StaysBy x (cell e i r) = Unit {0}
StaysBy x (cell_other e i r) = Unit {0}
StaysBy x (finish r) = r ≡ Err x
StaysBy x (schema_row k r) = Unit {0}

abbrev pub Stays : Fault → List Call → Type 0
Stays x [] = Unit {0}
Stays x (feeds p r ∷ cs) = (r ≡ Err x) × Stays x cs
Stays x (asks q ∷ cs) = StaysBy x q × Stays x cs

abbrev pub Stopped : List Call → Type 0
Stopped [] = Unit {0}
Stopped (feeds p (Ok s) ∷ cs) = Stopped cs
Stopped (feeds p (Err x) ∷ cs) = Stays x cs
Stopped (asks q ∷ cs) = Stopped cs

-- the run shows what its bytes tell: as many batches, each as long, with its places and cells; the first refusal; and
-- what finish answers
pub record Shows (told : Told) (bytes : List ℕ) (cs : List Call) : Type 0 where
  pub batches : lengths cs ≡ lengths_of told.batches
  pub answers : AnsweredBy None told.batches cs
  pub refusal : first_refusal cs ≡ refusal_of told.close
  pub finish : (r : Result (Unit {0}) Fault) → Finished bytes r cs → r ≡ end_of told.close
  pub stopped : Stopped cs

-- a cell that is asked in range answers, and each cell that it points to is in range
abbrev pub CellStands : Option Batch → ℕ → ℕ → Result Cell Fault → Type 0
CellStands None e i r = Unit {0}
CellStands (Some b) e i r =
    InRange b.sight e i → (c : Cell) × (r ≡ Ok c) × ((l : Look) → look b.sight e ≡ Some l → (e' i' : ℕ) → Points l.children c e' i' → InRange b.sight e' i')

abbrev pub Unstuck : Option Batch → Question → Type 0
Unstuck b (piece_other p r) = Unit {0}
Unstuck b (place j r) = Unit {0}
Unstuck b (cell e i r) = CellStands b e i r
Unstuck b (cell_other e i r) = Unit {0}
Unstuck b (finish r) = Unit {0}
Unstuck b (schema_row k r) = Unit {0}

abbrev pub NeverStuck : (m : Meaning) (f : Feed) (mem : Memories) (cs : List Call) → Runs m f mem cs → Type 0
NeverStuck m f mem [] run = Unit {0}
NeverStuck m f mem (feeds p r ∷ cs) run = NeverStuck m run.0 run.1 cs run.3
NeverStuck m f mem (asks q ∷ cs) run = Unstuck f.batch q × NeverStuck m f mem cs run.1
