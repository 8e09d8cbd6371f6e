-- Which columns are read without a refusal, in no order: each row, by its place, has what it takes, and each entry keeps
-- its rules.
use Rattle.std.specs.Prelude.{◌≡◌, ℕ, ◌+◌, ◌<◌, ◌≤◌, Bool, true, false, length, ℤ, pos, is_some, Some, None, Option, slice_index_or}
use Rattle.std.specs.List.{slice_get}
use Rattle.message.specs.declared.items.Buffer.{Buffer}
use Rattle.message.specs.declared.items.Node.{Node}
use Rattle.schemas.specs.declared.kinds.Kind.{Kind}
use Rattle.schemas.specs.Schemas.{Fields, none, field, size}
use Rattle.schemas.specs.Takings.{Taken, buffers_of, natural, takes_of, kind_of, after}
use Rattle.schemas.specs.Queues.{is_view}
use Rattle.columns.specs.Entries.{indexed, entry_count}
use Rattle.columns.specs.Looks.{Sight, node_fits, inside, data_count, Look, look}
use Rattle.columns.specs.Slots.{slot}
use Rattle.columns.specs.Rules.{whole_kept}
use Rattle.columns.specs.Reads.{fields_fault}

-- a column keeps its rules, as a whole and at every slot
pub record Keeps (s : Sight) (l : Look) : Type 0 where
  pub whole : whole_kept s l ≡ true
  pub slots : (i : ℕ) → i < l.long → is_some (slot s l i) ≡ true

-- a row that takes its node, its buffers and, where it is a view, its count from these places; a row that is decoded
-- has its node in bounds, and each of its buffers inside the body
pub record Takes (s : Sight) (version : ℤ) (shown : Bool) (kind : Kind) (t : Taken) : Type 0 where
  pub node : Node
  pub there : slice_get s.nodes t.nodes ≡ Some node
  pub fits : shown ≡ true → node_fits kind node ≡ true
  pub count : is_view kind ≡ true → (c : ℕ) × (data_count true s.counts t.counts ≡ Some c) × (t.buffers + (c + 2) ≤ length s.buffers)
  pub buffers : (j : ℕ) → j < buffers_of version (natural (slice_index_or s.counts t.counts (pos 0))) kind → (b : Buffer) × (slice_get s.buffers (t.buffers + j) ≡ Some b) × (shown ≡ true → inside s.body b ≡ true)

abbrev pub TakesBy : Sight → ℤ → Bool → Option Kind → Taken → Type 0
TakesBy s version shown None t = Unit {0}
TakesBy s version shown (Some kind) t = Takes s version shown kind t

-- an entry leads to a column that keeps its rules
abbrev pub KeepsAt : Sight → Bool → ℕ → Type 0
KeepsAt s true e = (l : Look) × (look s e ≡ Some l) × Keeps s l
KeepsAt s false e = Unit {0}

abbrev pub UnlessIndexed : Bool → Type 0 → Type 0
UnlessIndexed true P = Unit {0}
UnlessIndexed false P = P

-- fields side by side, with all below them
abbrev pub Fits : Sight → ℤ → Bool → ℕ → ℕ → Fields → Taken → Type 0
Fits s version shown k e none t = Unit {0}
Fits s version shown k e (field r kids next) t =
    TakesBy s version shown (kind_of r) t
    × UnlessIndexed (indexed r) (Fits s version shown (k + 1) (e + 1) kids (takes_of version s.counts (kind_of r) t))
    × KeepsAt s shown e
    × Fits s version shown (k + 1 + size kids) (e + entry_count (field r kids none)) next (after version s.counts (field r kids none) t)

-- nothing is refused exactly when everything fits
pub record Exactly (s : Sight) (version : ℤ) (shown : Bool) (k e : ℕ) (fs : Fields) (t : Taken) : Type 0 where
  pub fits : fields_fault s version shown k e fs t ≡ None → Fits s version shown k e fs t
  pub read : Fits s version shown k e fs t → fields_fault s version shown k e fs t ≡ None

abbrev pub ReadWhenTheyFit : Type 0
ReadWhenTheyFit = (s : Sight) (version : ℤ) (shown : Bool) (k e : ℕ) (fs : Fields) (t : Taken) → Exactly s version shown k e fs t
