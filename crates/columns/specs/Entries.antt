-- Which rows of a batch are decoded, and which node, buffers and count belong to each: the entries of the column
-- table, in preorder.
use Rattle.std.specs.Prelude.{ℕ, ◌+◌, Bool, true, false, cond, ◌&&◌, List, [], ◌∷◌, ◌++◌, map, ℤ, Some, None, Option, ◌==◌, nat_le}
use Rattle.std.specs.List.{range_with_len}
use Rattle.std.specs.Option.{unwrap_or}
use Rattle.message.specs.declared.rows.Row.{Row}
use Rattle.schemas.specs.Schemas.{Fields, none, field, size, count, among}
use Rattle.schemas.specs.Takings.{Taken, unread, takes_of, kind_of, after}
use Rattle.columns.specs.declared.entries.Column.{Column}

-- whether a row is a dictionary field, whose one child, the value row, has no entry
abbrev pub indexed : Row → Bool
indexed r = r.kind == 13

-- how many buffers are passed over: the first of a union before version 4
abbrev pub ahead : ℤ → Row → ℕ
ahead version r = cond (nat_le 14 r.kind) (unread version) 0

-- the entry of row k, behind what the rows before it take
abbrev pub entry_of : ℤ → ℕ → Row → Taken → Column
entry_of version k r t = record { row = k; node = t.nodes; buffer = t.buffers + ahead version r; count = t.counts }

abbrev pub unless_indexed : {A : Type 0} → Bool → List A → List A
unless_indexed true xs = []
unless_indexed false xs = xs

-- the entries of fields side by side, whose first is row k, each with those below it
abbrev pub entries : ℤ → List ℤ → ℕ → Fields → Taken → List Column
entries version counts k none t = []
entries version counts k (field r kids next) t =
    entry_of version k r t
    ∷ (
    unless_indexed (indexed r) (entries version counts (k + 1) kids (takes_of version counts (kind_of r) t))
    ++ entries version counts (k + 1 + size kids) next (after version counts (field r kids none) t)
    )

-- how many there are
abbrev pub entry_count : Fields → ℕ
entry_count none = 0
entry_count (field r kids next) = 1 + (cond (indexed r) 0 (entry_count kids) + entry_count next)

-- which columns a batch shows: all, or those with these numbers, in this order
pub data Choice : Type 0 where
  all : Choice
  these : List ℕ → Choice

abbrev pub shows : Choice → ℕ → Bool
shows all c = true
shows (these ns) c = among c ns

-- the numbers of the columns shown, one for each place
abbrev pub numbers : Choice → Fields → List ℕ
numbers all fs = range_with_len 0 (count fs)
numbers (these ns) fs = ns

abbrev pub pick : {A : Type 0} → Bool → List A → List A
pick true xs = xs
pick false xs = []

-- the entries of the columns that are shown, in schema order, each column once; the first field is column c and row k
abbrev pub shown_entries : ℤ → List ℤ → (ℕ → Bool) → ℕ → ℕ → Fields → Taken → List Column
shown_entries version counts shown c k none t = []
shown_entries version counts shown c k (field r kids next) t =
    pick (shown c) (entries version counts k (field r kids none) t)
    ++ shown_entries version counts shown (c + 1) (k + 1 + size kids) next (after version counts (field r kids none) t)

-- how many they are
abbrev pub shown_count : (ℕ → Bool) → ℕ → Fields → ℕ
shown_count shown c none = 0
shown_count shown c (field r kids next) = cond (shown c) (entry_count (field r kids none)) 0 + shown_count shown (c + 1) next

-- the entry of column n, where the first field is column c, and e entries stand before it
abbrev pub start_of : (ℕ → Bool) → ℕ → ℕ → ℕ → Fields → Option ℕ
start_of shown n c e none = None
start_of shown n c e (field r kids next) = elim (n == c) [
  | true ↦ Some e
  | false ↦ start_of shown n (c + 1) (e + cond (shown c) (entry_count (field r kids none)) 0) next
]

-- the entry of the column at each place
abbrev pub places_of : Choice → Fields → List ℕ
places_of choice fs = map (λ n. unwrap_or (start_of (shows choice) n 0 0 fs) 0) (numbers choice fs)

-- whether every number names a column
abbrev pub named : ℕ → List ℕ → Bool
named many [] = true
named many (n ∷ ns) = nat_le (n + 1) many && named many ns
