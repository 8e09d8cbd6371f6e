-- What is answered for a slot of an entry, and which other slots the answer points to.
use Rattle.std.specs.Prelude.{◌≡◌, ℕ, ◌+◌, ◌<◌, ◌≤◌, Bool, true, false, List, length, Some, None, Ok, Err, Option, Result, nat_lt}
use Rattle.std.specs.List.{slice_get}
use Rattle.message.specs.declared.faults.Refusal.{Refusal}
use Rattle.message.specs.declared.faults.Refusal.TheVariants.{OutOfRange, Changed}
use Rattle.columns.specs.Looks.{Sight, Child, Look, length_at, look}
use Rattle.columns.specs.Slots.{Cell, absent, bit, part, stored, span, group, link, is_absent, slot}
use Rattle.columns.specs.Rules.{sound}

abbrev pub cell_by : Bool → Option Cell → Result Cell Refusal
cell_by missing None = Err Changed
cell_by missing (Some c) = elim missing [ true ↦ Ok absent | false ↦ Ok c ]

abbrev pub cell_in : Sight → ℕ → Option Look → Result Cell Refusal
cell_in s i None = Err Changed
cell_in s i (Some l) = elim (sound s l) [ true ↦ cell_by (is_absent l i) (slot s l i) | false ↦ Err Changed ]

abbrev pub cell_below : Sight → ℕ → ℕ → Option ℕ → Result Cell Refusal
cell_below s e i None = Err Changed
cell_below s e i (Some long) = elim (nat_lt i long) [ true ↦ cell_in s i (look s e) | false ↦ Err OutOfRange ]

-- slot i of entry e: refused where the entry or the index is out of range, or where what they lead to does not keep
-- the rules
unfoldable pub cell_at : Sight → ℕ → ℕ → Result Cell Refusal
cell_at s e i = elim (nat_lt e (length s.columns)) [ true ↦ cell_below s e i (length_at s e) | false ↦ Err OutOfRange ]

-- an entry of the batch, and an index below its length
pub record InRange (s : Sight) (e i : ℕ) : Type 0 where
  pub long : ℕ
  pub entry : length_at s e ≡ Some long
  pub index : i < long

-- the cell that an answer points to: so many of a child from a start on; the same slot of each child; one slot
abbrev pub Points : List Child → Cell → ℕ → ℕ → Type 0
Points cs absent e i = ⊥
Points cs (bit b) e i = ⊥
Points cs (part p) e i = ⊥
Points cs (stored p k) e i = ⊥
Points cs (span c start n) e i = (e ≡ c) × (start ≤ i) × (i < start + n)
Points cs (group first k) e i = (j : ℕ) × (c : Child) × (slice_get cs j ≡ Some c) × (e ≡ c.entry) × (i ≡ k)
Points cs (link c k) e i = (e ≡ c) × (i ≡ k)

-- a cell answers, and each cell that it points to is in range
pub record Answers (s : Sight) (e i : ℕ) : Type 0 where
  pub cell : Cell
  pub answer : cell_at s e i ≡ Ok cell
  pub points : (l : Look) → look s e ≡ Some l → (e' i' : ℕ) → Points l.children cell e' i' → InRange s e' i'
