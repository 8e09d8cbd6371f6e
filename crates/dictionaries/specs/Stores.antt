-- The bytes of a store that stand for dictionaries: the area of each id, packed from byte 0 by first arrival.
use Rattle.std.specs.Prelude.{◌≡◌, ℕ, ◌+◌, ◌/◌, ◌%◌, ◌<◌, true, false, List, [], ◌∷◌, ◌++◌, length, take, drop, ℤ, Some, None, Option, ◌==◌, nat_le}
use Rattle.std.specs.Option.{unwrap_or}
use Rattle.little.specs.Numbers.{number_in}
use Rattle.dictionaries.specs.Values.{Value, Dictionary, same, held, replaced, room_all, used}

-- a number below 2^32 in 4 bytes
abbrev pub spelled : ℕ → List ℕ
spelled n = n % 256 ∷ n / 256 % 256 ∷ n / 256 / 256 % 256 ∷ n / 256 / 256 / 256 % 256 ∷ []

-- a length and the bytes; for an absent value four bytes FF
abbrev pub written : Value → List ℕ
written None = 255 ∷ 255 ∷ 255 ∷ 255 ∷ []
written (Some bs) = spelled (length bs) ++ bs

abbrev pub area : List Value → List ℕ
area [] = []
area (v ∷ vs) = written v ++ area vs

abbrev pub store : List Dictionary → List ℕ
store [] = []
store (d ∷ ds) = area d.values ++ store ds

-- a value read from its first bytes, with what stands behind it
pub record Read : Type 0 where
  pub value : Value
  pub rest : List ℕ

-- behind a length: the mark of an absent value, or so many bytes
abbrev pub read_bytes : ℕ → List ℕ → Option Read
read_bytes n bs = elim (n == 4294967295) [
  | true ↦ Some (record { value = None; rest = bs })
  | false ↦ elim (nat_le n (length bs)) [
    | true ↦ Some (record { value = Some (take n bs); rest = drop n bs })
    | false ↦ None
  ]
]

abbrev pub read_one : List ℕ → Option Read
read_one bs = elim (nat_le 4 (length bs)) [ true ↦ read_bytes (number_in 4 bs 0) (drop 4 bs) | false ↦ None ]

-- a value is short enough for its length not to be the mark
abbrev pub Short : Value → Type 0
Short None = Unit {0}
Short (Some bs) = length bs < 4294967295

-- what is written is read, one value after the other
abbrev pub ReadBack : Type 0
ReadBack = (v : Value) (more : List ℕ) → Short v → read_one (written v ++ more) ≡ Some (record { value = v; rest = more })

-- the store is as long as the room that its dictionaries use
abbrev pub RoomIsLength : Type 0
RoomIsLength = (ds : List Dictionary) → length (store ds) ≡ used ds

-- room that a replaced list gives up is room again: what is used changes by the new values less the old
abbrev pub RoomAgain : Type 0
RoomAgain = (i : ℤ) (vs : List Value) (ds : List Dictionary) → used (replaced i vs ds) + room_all (unwrap_or (held i ds) []) ≡ used ds + room_all vs

-- a replaced list is what is then held, and no other changes
pub record Replaces : Type 0 where
  pub own : (i : ℤ) (vs : List Value) (ds : List Dictionary) → held i (replaced i vs ds) ≡ Some vs
  pub others : (i j : ℤ) (vs : List Value) (ds : List Dictionary) → same j i ≡ false → held j (replaced i vs ds) ≡ held j ds
