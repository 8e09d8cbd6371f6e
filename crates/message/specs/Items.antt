-- FieldNode, Buffer and the counts of variadic buffers: signed 8-byte numbers, as Message.fbs and Schema.fbs lay them out.
use Rattle.std.specs.Prelude.{ℕ, ◌+◌, List, ℤ}
use Rattle.std.proofs.Common.{to_z}
use Rattle.std.specs.Int.{w64}
use Rattle.little.specs.Numbers.{number_in}
use Rattle.message.specs.declared.items.Node.{Node}
use Rattle.message.specs.declared.items.Buffer.{Buffer}
use Rattle.message.specs.declared.rows.Row.{Row}
use Rattle.message.specs.Listed.{listed}

abbrev pub count_at : List ℕ → ℕ → ℤ
count_at bs at = to_z w64 (number_in 8 bs at)

-- a length and a null count
abbrev pub node_at : List ℕ → ℕ → Node
node_at bs at = record { length = count_at bs at; nulls = count_at bs (at + 8) }

-- an offset and a length
abbrev pub buffer_at : List ℕ → ℕ → Buffer
buffer_at bs at = record { offset = count_at bs at; length = count_at bs (at + 8) }

abbrev pub nodes_in : List ℕ → List Node
nodes_in = listed 16 node_at

abbrev pub buffers_in : List ℕ → List Buffer
buffers_in = listed 16 buffer_at

abbrev pub counts_in : List ℕ → List ℤ
counts_in = listed 8 count_at

-- a row of 24 bytes, as the slip form has it: kind, flag, tag and an unread byte, parameter (4), id (8, signed), end (4),
-- 4 unread bytes
abbrev pub row_at : List ℕ → ℕ → Row
row_at bs at = record {
  kind = number_in 1 bs at;
  flag = number_in 1 bs (at + 1);
  tag = number_in 1 bs (at + 2);
  parameter = number_in 4 bs (at + 4);
  id = to_z w64 (number_in 8 bs (at + 8));
  end = number_in 4 bs (at + 16);
}

abbrev pub rows_in : List ℕ → List Row
rows_in = listed 24 row_at
