-- Dictionary batches, and indices into them.
use Rattle.std.specs.Prelude.{◌≡◌, ℕ, zero, suc, ◌+◌, Bool, true, false, List, [], ◌∷◌, ◌++◌, ℤ, pos, Some, None}
use Rattle.message.specs.declared.items.Node.{Node}
use Rattle.message.specs.declared.rows.Row.{Row}
use Rattle.message.specs.Messages.{dictionary, batch}
use Rattle.dictionaries.specs.Values.{Value, Dictionary}
use Rattle.columns.specs.Entries.{all, these}
use Rattle.columns.specs.Slots.{absent}
use Rattle.examples.specs.Given.{row, leaf, node, buffer, columns, terms, keeps_on, given, line, value_at, batch_of, Done, no}

-- dictionary fields with ids 3 and 4, and signed indices of one byte: the values of 3 are bytes, those of 4 bits
abbrev pub fields : List Row
fields = row 13 1 0 1 (pos 3) 2 ∷ leaf 1 4 0 0 ∷ row 13 1 0 1 (pos 4) 4 ∷ leaf 3 2 0 0 ∷ []

abbrev pub held : ℤ → List Value → Dictionary
held id vs = record { id = id; values = vs }

-- one value of n bytes for id 3, whose offsets come first; and values of id 4
abbrev pub values3 : ℕ → List Dictionary → Bool → ℕ → List ℕ → Done
values3 room ds delta n bs =
    given (terms room all) fields ds (pos 4) (dictionary (pos 3) delta (columns (pos 1) (node 1 0 ∷ []) (buffer 0 0 ∷ buffer 0 8 ∷ buffer 8 n ∷ []) [])) (0 ∷ 0 ∷ 0 ∷ 0 ∷ n ∷ 0 ∷ 0 ∷ 0 ∷ bs)

abbrev pub six : List ℕ
six = 1 ∷ 2 ∷ 3 ∷ 4 ∷ 5 ∷ 6 ∷ []

abbrev pub bits4 : ℤ → List Dictionary → ℕ → ℕ → Done
bits4 id ds long nulls = given (terms 40 all) fields ds (pos 4) (dictionary id false (columns (pos long) (node long nulls ∷ []) (buffer 0 1 ∷ buffer 1 1 ∷ []) [])) (5 ∷ 4 ∷ [])

-- n dictionaries of no values, with ids from i on
abbrev pub empties : ℕ → ℕ → List Dictionary
empties zero i = []
empties (suc n) i = held (pos i) [] ∷ empties n (i + 1)

pub record Dictionaries : Type 0 where
  pub fits : values3 10 [] false 6 six ≡ keeps_on (Some (held (pos 3) (Some six ∷ []) ∷ []))
  pub again : values3 10 (held (pos 3) (Some six ∷ []) ∷ []) false 6 six ≡ keeps_on (Some (held (pos 3) (Some six ∷ []) ∷ []))
  pub too_long : values3 10 [] false 7 (0 ∷ six) ≡ no 24 None None
  pub grows : values3 10 (held (pos 3) (Some six ∷ []) ∷ []) true 6 six ≡ no 24 None None
  pub delta : values3 40 (held (pos 4) (None ∷ []) ∷ held (pos 3) (Some (9 ∷ []) ∷ []) ∷ []) true 6 six ≡ keeps_on (Some (held (pos 4) (None ∷ []) ∷ held (pos 3) (Some (9 ∷ []) ∷ Some six ∷ []) ∷ []))
  pub delta_first : values3 0 (held (pos 4) (None ∷ []) ∷ []) true 6 six ≡ no 23 None None
  pub keeps_place : values3 40 (held (pos 3) [] ∷ held (pos 4) [] ∷ []) false 6 six ≡ keeps_on (Some (held (pos 3) (Some six ∷ []) ∷ held (pos 4) [] ∷ []))
  pub ids64 : values3 10 (empties 63 4) false 6 six ≡ keeps_on (Some (empties 63 4 ++ (held (pos 3) (Some six ∷ []) ∷ [])))
  pub ids65 : values3 10 (empties 64 4) false 6 six ≡ no 24 None None
  pub bits : bits4 (pos 4) [] 3 1 ≡ keeps_on (Some (held (pos 4) (Some (0 ∷ []) ∷ None ∷ Some (1 ∷ []) ∷ []) ∷ []))
  pub first_row : given (terms 40 all) (row 12 0 0 0 (pos 0) 3 ∷ row 13 1 0 1 (pos 3) 3 ∷ leaf 2 4 0 0 ∷ row 13 1 0 1 (pos 3) 5 ∷ leaf 4 2 0 0 ∷ []) [] (pos 4) (dictionary (pos 3) false (columns (pos 0) [] [] [])) [] ≡ no 14 (Some 2) None
  pub no_such_id : bits4 (pos 0) [] 3 1 ≡ no 11 None None
  pub value_row : bits4 (pos 4) [] 3 2 ≡ no 19 (Some 3) (Some 3)
  pub unlike : given (terms 40 all) fields [] (pos 4) (dictionary (pos 4) false (columns (pos 2) (node 3 0 ∷ []) (buffer 0 1 ∷ buffer 1 1 ∷ []) [])) (5 ∷ 4 ∷ []) ≡ no 22 None None
  pub left : given (terms 40 all) fields [] (pos 4) (dictionary (pos 4) true (columns (pos 2) (node 3 0 ∷ []) (buffer 0 1 ∷ buffer 1 1 ∷ []) (pos 0 ∷ []))) (5 ∷ 4 ∷ []) ≡ no 21 None None
  pub unchosen : given (terms 40 (these (7 ∷ []))) fields [] (pos 4) (dictionary (pos 4) false (columns (pos 0) (node 0 0 ∷ []) (buffer 0 0 ∷ buffer 0 0 ∷ []) [])) [] ≡ keeps_on (Some (held (pos 4) [] ∷ []))

-- a batch of one slot for both fields, by their indices
abbrev pub indexed : List Dictionary → Node → ℕ → ℕ → Done
indexed ds n i j =
    given (terms 40 all) fields ds (pos 4) (batch (columns (pos 1) (n ∷ node 1 0 ∷ []) (buffer 2 1 ∷ buffer 0 1 ∷ buffer 0 0 ∷ buffer 1 1 ∷ []) [])) (i ∷ j ∷ 0 ∷ [])

abbrev pub both : List Dictionary
both = held (pos 3) (Some six ∷ None ∷ []) ∷ held (pos 4) (Some (1 ∷ []) ∷ []) ∷ []

-- the same id twice, with value rows that differ in their flag
abbrev pub twice : ℕ → List Row
twice flag = row 13 1 0 1 (pos 3) 2 ∷ leaf 1 4 0 0 ∷ row 13 0 0 1 (pos 3) 4 ∷ leaf 3 4 flag 0 ∷ []

abbrev pub twice_by : ℕ → List Dictionary → ℕ → Done
twice_by flag ds i = given (terms 40 all) (twice flag) ds (pos 4) (batch (columns (pos 1) (node 1 1 ∷ node 1 0 ∷ []) (buffer 1 1 ∷ buffer 0 1 ∷ buffer 0 0 ∷ buffer 0 1 ∷ []) [])) (i ∷ 0 ∷ [])

pub record Indices : Type 0 where
  pub found : indexed both (node 1 0) 0 0 ≡ batch_of 1 (0 ∷ 1 ∷ []) (line 0 0 (value_at 4 six 0) ∷ line 1 0 (value_at 18 (1 ∷ []) 0) ∷ [])
  pub absent_value : indexed both (node 1 0) 1 0 ≡ batch_of 1 (0 ∷ 1 ∷ []) (line 0 0 absent ∷ line 1 0 (value_at 18 (1 ∷ []) 0) ∷ [])
  pub absent_slot : indexed both (node 1 1) 99 0 ≡ batch_of 1 (0 ∷ 1 ∷ []) (line 0 0 absent ∷ line 1 0 (value_at 18 (1 ∷ []) 0) ∷ [])
  pub beyond : indexed both (node 1 0) 2 0 ≡ no 19 (Some 0) (Some 0)
  pub below_zero : indexed both (node 1 0) 255 0 ≡ no 19 (Some 0) (Some 0)
  pub none_held : indexed (held (pos 3) (Some six ∷ []) ∷ []) (node 1 0) 0 0 ≡ no 19 (Some 2) (Some 0)
  pub none_asked : indexed (held (pos 4) (Some (1 ∷ []) ∷ []) ∷ []) (node 1 1) 0 0 ≡ batch_of 1 (0 ∷ 1 ∷ []) (line 0 0 absent ∷ line 1 0 (value_at 4 (1 ∷ []) 0) ∷ [])
  pub shared : twice_by 0 (held (pos 3) (Some six ∷ []) ∷ []) 0 ≡ batch_of 1 (0 ∷ 1 ∷ []) (line 0 0 absent ∷ line 1 0 (value_at 4 six 0) ∷ [])
  pub unlike : twice_by 1 (held (pos 3) (Some six ∷ []) ∷ []) 0 ≡ no 19 (Some 2) (Some 1)
  pub unlike_not_held : twice_by 1 [] 0 ≡ no 19 (Some 2) (Some 0)
