-- Lists of items that stand one after the other.
use Rattle.std.specs.Prelude.{◌≡◌, ℕ, ◌*◌, ◌/◌, ◌^◌, ◌<◌, min, List, ◌++◌, map, length, take, drop, Option}
use Rattle.std.specs.List.{range_with_len, slice_get}

-- the items of so many bytes each that fill a part of the bytes
unfoldable pub listed : {A : Type 0} → ℕ → (List ℕ → ℕ → A) → List ℕ → List A
listed width item part = map (λ k. item part (width * k)) (range_with_len 0 (length part / width))

-- a table with the first n items of a list at its front
abbrev pub laid : {A : Type 0} → ℕ → List A → List A → List A
laid n items table = take n items ++ drop n table

-- items go to the front of a table, as many as there are and it has room for; n is how many
pub record Lays {A : Type 0} (items before : List A) (n : ℕ) (after : List A) : Type 0 where
  pub count : n ≡ min (length items) (length before)
  pub table : after ≡ laid n items before

-- what is answered for a number is the item of that number
abbrev pub TellsItems : {A : Type 0} → (ℕ → Option A → Type 0) → List A → Type 0
TellsItems {A = A} answers items = (k : ℕ) → k < 2 ^ 64 → (r : Option A) → answers k r → r ≡ slice_get items k
