-- Dictionaries as a store keeps them: for each id how many values it has, and its area, the bytes that stand for them.
use Rattle.std.specs.Prelude.{◌≡◌, ℕ, zero, suc, ◌+◌, Bool, true, false, ◌&&◌, List, [], ◌∷◌, ◌++◌, length, ℤ, Some, None, Option, nat_le, nat_lt}
use Rattle.std.specs.Option.{option_map}
use Rattle.little.specs.Maybe.{and_then}
use Rattle.dictionaries.specs.Values.{Value, Dictionary, same, replaced, grown, room_of}
use Rattle.dictionaries.specs.Stores.{area, store, Short, read_one}
use Rattle.dictionaries.specs.Places.{Stored, Held, held_by}

pub record Area : Type 0 where
  pub id : ℤ
  pub count : ℕ
  pub bytes : List ℕ

-- the areas one behind the other, from byte 0 of the store on; they stand in the order in which their ids first came
abbrev pub packed : List Area → List ℕ
packed [] = []
packed (a ∷ rest) = a.bytes ++ packed rest

abbrev pub area_in : ℤ → List Area → Option Area
area_in i [] = None
area_in i (a ∷ rest) = elim (same i a.id) [ true ↦ Some a | false ↦ area_in i rest ]

-- value k from a place on, one value read after the other
abbrev pub read_from : ℕ → ℕ → List ℕ → Option Stored
read_from at zero bs = option_map (λ r. record { value = r.value; place = at + 4 }) (read_one bs)
read_from at (suc k) bs = and_then (read_one bs) (λ r. read_from (at + room_of r.value) k r.rest)

abbrev pub read_in : ℕ → ℤ → ℕ → List Area → Option Stored
read_in at i k [] = None
read_in at i k (a ∷ rest) = elim (same i a.id) [
  | true ↦ elim (nat_lt k a.count) [ true ↦ read_from at k a.bytes | false ↦ None ]
  | false ↦ read_in (at + length a.bytes) i k rest
]

-- the answers that the areas give
abbrev pub held_in : List Area → Held
held_in all = record { count = λ i. option_map (λ a. a.count) (area_in i all); value = λ i k. read_in 0 i k all }

-- a whole batch of n values replaces the area of its id, which keeps its place; an id that is new comes last
abbrev pub renewed : ℤ → ℕ → List ℕ → List Area → List Area
renewed i n bs [] = record { id = i; count = n; bytes = bs } ∷ []
renewed i n bs (a ∷ rest) = elim (same i a.id) [
  | true ↦ record { id = a.id; count = n; bytes = bs } ∷ rest
  | false ↦ a ∷ renewed i n bs rest
]

-- a delta of n values appends to the area that is there
abbrev pub enlarged : ℤ → ℕ → List ℕ → List Area → Option (List Area)
enlarged i n bs all = option_map (λ a. renewed i (a.count + n) (a.bytes ++ bs) all) (area_in i all)

-- at most 64 ids, and no more room than the store has
abbrev pub fits : ℕ → List Area → Bool
fits room all = nat_le (length all) 64 && nat_le (length (packed all)) room

-- areas that stand for lists
abbrev pub area_of : Dictionary → Area
area_of d = record { id = d.id; count = length d.values; bytes = area d.values }

abbrev pub areas_of : List Dictionary → List Area
areas_of [] = []
areas_of (d ∷ ds) = area_of d ∷ areas_of ds

-- every value is short enough for its length not to be the mark
abbrev pub AllShort : List Value → Type 0
AllShort [] = Unit {0}
AllShort (v ∷ vs) = Short v × AllShort vs

abbrev pub EachShort : List Dictionary → Type 0
EachShort [] = Unit {0}
EachShort (d ∷ ds) = AllShort d.values × EachShort ds

-- areas say what the lists say that they stand for: how many values each id has, and each value with its place; and
-- they go on standing for lists where a batch replaces or appends
pub record StandForLists (ds : List Dictionary) : Type 0 where
  pub count : (i : ℤ) → (held_in (areas_of ds)).count i ≡ (held_by ds).count i
  pub value : EachShort ds → (i : ℤ) (k : ℕ) → (held_in (areas_of ds)).value i k ≡ (held_by ds).value i k
  pub replaces : (i : ℤ) (vs : List Value) → renewed i (length vs) (area vs) (areas_of ds) ≡ areas_of (replaced i vs ds)
  pub appends : (i : ℤ) (vs : List Value) → enlarged i (length vs) (area vs) (areas_of ds) ≡ option_map areas_of (grown i vs ds)
  pub bytes : packed (areas_of ds) ≡ store ds

abbrev pub AreasStandForLists : Type 0
AreasStandForLists = (ds : List Dictionary) → StandForLists ds
