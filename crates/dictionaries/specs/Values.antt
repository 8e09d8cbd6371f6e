-- Dictionaries as lists of values, by their ids.
use Rattle.std.specs.Prelude.{ℕ, ◌+◌, Bool, true, false, ◌&&◌, List, [], ◌∷◌, ◌++◌, length, ℤ, pos, negsuc, Some, None, Option, ◌==◌, nat_le}

-- a value: its bytes, or nothing where it is absent
abbrev pub Value : Type 0
Value = Option (List ℕ)

pub record Dictionary : Type 0 where
  pub id : ℤ
  pub values : List Value

abbrev pub same : ℤ → ℤ → Bool
same (pos a) (pos b) = a == b
same (pos a) (negsuc b) = false
same (negsuc a) (pos b) = false
same (negsuc a) (negsuc b) = a == b

-- the values that are held under an id; dictionaries stand in the order in which their ids first came
abbrev pub held : ℤ → List Dictionary → Option (List Value)
held i [] = None
held i (d ∷ ds) = elim (same i d.id) [ true ↦ Some d.values | false ↦ held i ds ]

-- a whole batch replaces the values of its id, which keeps its place; an id that is new comes last
abbrev pub replaced : ℤ → List Value → List Dictionary → List Dictionary
replaced i vs [] = record { id = i; values = vs } ∷ []
replaced i vs (d ∷ ds) = elim (same i d.id) [
  | true ↦ record { id = d.id; values = vs } ∷ ds
  | false ↦ d ∷ replaced i vs ds
]

-- a delta appends to the values that are held, where there are some
abbrev pub extended : ℤ → List Value → Option (List Value) → List Dictionary → Option (List Dictionary)
extended i vs None ds = None
extended i vs (Some old) ds = Some (replaced i (old ++ vs) ds)

abbrev pub grown : ℤ → List Value → List Dictionary → Option (List Dictionary)
grown i vs ds = extended i vs (held i ds) ds

-- the room of a value: 4 bytes for its length, and its bytes; an absent one has 4 bytes
abbrev pub room_of : Value → ℕ
room_of None = 4
room_of (Some bs) = 4 + length bs

abbrev pub room_all : List Value → ℕ
room_all [] = 0
room_all (v ∷ vs) = room_of v + room_all vs

abbrev pub used : List Dictionary → ℕ
used [] = 0
used (d ∷ ds) = room_all d.values + used ds

-- at most 64 ids, and no more room than the store has
abbrev pub fits : ℕ → List Dictionary → Bool
fits room ds = nat_le (length ds) 64 && nat_le (used ds) room
