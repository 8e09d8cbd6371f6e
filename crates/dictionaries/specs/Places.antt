-- Questions for the values of dictionaries, as lists answer them.
use Rattle.std.specs.Prelude.{ℕ, zero, suc, ◌+◌, true, false, List, [], ◌∷◌, length, ℤ, Some, None, Option}
use Rattle.std.specs.Option.{option_map}
use Rattle.dictionaries.specs.Values.{Value, Dictionary, same, held, room_of, room_all}

-- a value, and the place of its bytes in the store
pub record Stored : Type 0 where
  pub value : Value
  pub place : ℕ

-- what can be asked of dictionaries: how many values an id has, and value k of an id
pub record Held : Type 0 where
  pub count : ℤ → Option ℕ
  pub value : ℤ → ℕ → Option Stored

-- value k of a list whose area begins at a place; a value's bytes stand behind its length
abbrev pub value_from : ℕ → List Value → ℕ → Option Stored
value_from at [] k = None
value_from at (v ∷ vs) zero = Some (record { value = v; place = at + 4 })
value_from at (v ∷ vs) (suc k) = value_from (at + room_of v) vs k

abbrev pub value_in : ℕ → ℤ → ℕ → List Dictionary → Option Stored
value_in at i k [] = None
value_in at i k (d ∷ ds) = elim (same i d.id) [ true ↦ value_from at d.values k | false ↦ value_in (at + room_all d.values) i k ds ]

abbrev pub held_by : List Dictionary → Held
held_by ds = record { count = λ i. option_map length (held i ds); value = λ i k. value_in 0 i k ds }
