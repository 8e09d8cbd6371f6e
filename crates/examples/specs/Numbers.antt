-- Signs and widths of numbers, and how far buffers reach.
use Rattle.std.specs.Prelude.{◌≡◌, ℕ, zero, suc, List, [], ◌∷◌, pos, Some, None}
use Rattle.message.specs.Messages.{batch}
use Rattle.dictionaries.specs.Values.{Value}
use Rattle.columns.specs.Entries.{all}
use Rattle.columns.specs.Slots.{absent}
use Rattle.examples.specs.Taken.{small}
use Rattle.examples.specs.Slots.{viewed}
use Rattle.examples.specs.Nests.{over, union}
use Rattle.examples.specs.Dictionaries.{held}
use Rattle.examples.specs.Given.{row, leaf, node, buffer, columns, terms, zeros, given, shown_for, line, bytes_at, batch_of, Done, no}

-- numbers below 0, whose bytes would pass as 0
pub record Signs : Type 0 where
  pub list : over 7 0 (pos 1) (node 1 0) (buffer 0 0 ∷ buffer 3 8 ∷ []) (255 ∷ 255 ∷ 255 ∷ 255 ∷ 1 ∷ 0 ∷ 0 ∷ 0 ∷ []) ≡ no 19 (Some 0) (Some 0)
  pub list_view : over 9 0 (pos 1) (node 1 0) (buffer 0 0 ∷ buffer 3 4 ∷ buffer 7 4 ∷ []) (255 ∷ 255 ∷ 255 ∷ 255 ∷ 1 ∷ 0 ∷ 0 ∷ 0 ∷ []) ≡ no 19 (Some 0) (Some 0)
  pub view_length : viewed (pos 0 ∷ []) [] (255 ∷ 255 ∷ 255 ∷ 255 ∷ zeros 12) ≡ no 19 (Some 0) (Some 0)
  pub view_buffer : viewed (pos 1 ∷ []) (buffer 16 13 ∷ []) (13 ∷ 0 ∷ 0 ∷ 0 ∷ 0 ∷ 0 ∷ 0 ∷ 0 ∷ 255 ∷ 255 ∷ 255 ∷ 255 ∷ zeros 17) ≡ no 19 (Some 0) (Some 0)
  pub view_offset : viewed (pos 1 ∷ []) (buffer 16 13 ∷ []) (13 ∷ 0 ∷ 0 ∷ 0 ∷ 0 ∷ 0 ∷ 0 ∷ 0 ∷ 0 ∷ 0 ∷ 0 ∷ 0 ∷ 255 ∷ 255 ∷ 255 ∷ 255 ∷ zeros 13) ≡ no 19 (Some 0) (Some 0)
  pub view_neither : viewed (pos 1 ∷ []) (buffer 16 13 ∷ []) (13 ∷ 0 ∷ 0 ∷ 0 ∷ zeros 25) ≡ batch_of 1 (0 ∷ []) (line 0 0 (bytes_at 16 (zeros 13)) ∷ [])

-- buffers that are one byte, or one bit, too short for a column
pub record Reaches : Type 0 where
  pub validity : shown_for small (columns (pos 9) (node 9 8 ∷ []) (buffer 0 1 ∷ buffer 0 9 ∷ []) []) (1 ∷ zeros 9) ≡ no 19 (Some 0) (Some 9)
  pub bits : shown_for (leaf 0 2 0 0 ∷ []) (columns (pos 9) (node 9 0 ∷ []) (buffer 0 0 ∷ buffer 0 1 ∷ []) []) (0 ∷ []) ≡ no 19 (Some 0) (Some 9)
  pub binary : shown_for (leaf 0 4 0 0 ∷ []) (columns (pos 1) (node 1 0 ∷ []) (buffer 0 0 ∷ buffer 0 7 ∷ buffer 0 0 ∷ []) []) (zeros 7) ≡ no 19 (Some 0) (Some 1)
  pub large_binary : shown_for (leaf 0 5 0 0 ∷ []) (columns (pos 1) (node 1 0 ∷ []) (buffer 0 0 ∷ buffer 0 15 ∷ buffer 0 0 ∷ []) []) (zeros 15) ≡ no 19 (Some 0) (Some 1)
  pub view : shown_for (leaf 0 6 0 0 ∷ []) (columns (pos 1) (node 1 0 ∷ []) (buffer 0 0 ∷ buffer 0 15 ∷ []) (pos 0 ∷ [])) (zeros 15) ≡ no 19 (Some 0) (Some 1)
  pub list : over 7 0 (pos 1) (node 1 0) (buffer 0 0 ∷ buffer 3 7 ∷ []) (zeros 7) ≡ no 19 (Some 0) (Some 1)
  pub large_list : over 8 0 (pos 1) (node 1 0) (buffer 0 0 ∷ buffer 3 15 ∷ []) (zeros 15) ≡ no 19 (Some 0) (Some 1)
  pub list_view_offsets : over 9 0 (pos 1) (node 1 0) (buffer 0 0 ∷ buffer 3 3 ∷ buffer 3 4 ∷ []) (zeros 4) ≡ no 19 (Some 0) (Some 1)
  pub list_view_sizes : over 9 0 (pos 1) (node 1 0) (buffer 0 0 ∷ buffer 3 4 ∷ buffer 3 3 ∷ []) (zeros 4) ≡ no 19 (Some 0) (Some 1)
  pub large_view_offsets : over 10 0 (pos 1) (node 1 0) (buffer 0 0 ∷ buffer 3 7 ∷ buffer 3 8 ∷ []) (zeros 8) ≡ no 19 (Some 0) (Some 1)
  pub large_view_sizes : over 10 0 (pos 1) (node 1 0) (buffer 0 0 ∷ buffer 3 8 ∷ buffer 3 7 ∷ []) (zeros 8) ≡ no 19 (Some 0) (Some 1)
  pub indices : given (terms 10 all) (row 13 1 0 2 (pos 3) 2 ∷ leaf 1 4 0 0 ∷ []) (held (pos 3) (None ∷ []) ∷ []) (pos 4) (batch (columns (pos 1) (node 1 0 ∷ []) (buffer 0 0 ∷ buffer 0 1 ∷ []) [])) (0 ∷ []) ≡ no 19 (Some 0) (Some 1)
  pub sparse : union 14 (pos 4) (buffer 0 0 ∷ buffer 0 0 ∷ buffer 5 1 ∷ []) (5 ∷ 0 ∷ 0 ∷ 0 ∷ 0 ∷ 9 ∷ []) ≡ no 19 (Some 0) (Some 1)
  pub dense_ids : union 15 (pos 4) (buffer 0 0 ∷ buffer 1 4 ∷ buffer 0 0 ∷ buffer 5 1 ∷ []) (5 ∷ 0 ∷ 0 ∷ 0 ∷ 0 ∷ 9 ∷ []) ≡ no 19 (Some 0) (Some 1)
  pub dense_offsets : union 15 (pos 4) (buffer 0 1 ∷ buffer 1 3 ∷ buffer 0 0 ∷ buffer 5 1 ∷ []) (5 ∷ 0 ∷ 0 ∷ 0 ∷ 0 ∷ 9 ∷ []) ≡ no 19 (Some 0) (Some 1)

-- n absent values, and an index of one byte to one of them, signed or not
abbrev pub absents : ℕ → List Value
absents zero = []
absents (suc n) = None ∷ absents n

abbrev pub index_of : ℕ → ℕ → Done
index_of flag i = given (terms 1000 all) (row 13 flag 0 1 (pos 3) 2 ∷ leaf 1 4 0 0 ∷ []) (held (pos 3) (absents 130) ∷ []) (pos 4) (batch (columns (pos 1) (node 1 0 ∷ []) (buffer 0 0 ∷ buffer 0 1 ∷ []) [])) (i ∷ [])

pub record Widths : Type 0 where
  pub unsigned : index_of 0 129 ≡ batch_of 1 (0 ∷ []) (line 0 0 absent ∷ [])
  pub unsigned_beyond : index_of 0 130 ≡ no 19 (Some 0) (Some 0)
  pub signed : index_of 1 127 ≡ batch_of 1 (0 ∷ []) (line 0 0 absent ∷ [])
  pub below_zero : index_of 1 129 ≡ no 19 (Some 0) (Some 0)
