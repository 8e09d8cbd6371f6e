-- What rows take of a message, and which columns are shown.
use Rattle.std.specs.Prelude.{◌≡◌, ℕ, true, false, List, [], ◌∷◌, ℤ, pos, negsuc, Some, None}
use Rattle.message.specs.declared.rows.Row.{Row}
use Rattle.message.specs.Messages.{Columns, batch}
use Rattle.columns.specs.Entries.{all}
use Rattle.columns.specs.Slots.{absent}
use Rattle.examples.specs.Given.{leaf, node, buffer, columns, terms, given, shown_for, chosen, line, bytes_at, batch_of, no}

-- numbers of one byte: nodes, buffers and values over a body of 5 bytes
abbrev pub small : List Row
small = leaf 0 3 0 1 ∷ []

abbrev pub body5 : List ℕ
body5 = 0x0b ∷ 1 ∷ 2 ∷ 3 ∷ 4 ∷ []

pub record Taken : Type 0 where
  pub one_absent : shown_for small (columns (pos 4) (node 4 1 ∷ []) (buffer 0 1 ∷ buffer 1 4 ∷ []) []) body5
      ≡ batch_of 4 (0 ∷ []) (line 0 0 (bytes_at 1 (1 ∷ [])) ∷ line 0 1 (bytes_at 2 (2 ∷ [])) ∷ line 0 2 absent ∷ line 0 3 (bytes_at 4 (4 ∷ [])) ∷ [])
  pub two_absent : shown_for small (columns (pos 4) (node 4 2 ∷ []) (buffer 0 1 ∷ buffer 1 4 ∷ []) []) body5 ≡ no 19 (Some 0) (Some 4)
  pub unread_validity : shown_for small (columns (pos 1) (node 1 0 ∷ []) (buffer 0 0 ∷ buffer 1 4 ∷ []) []) body5 ≡ batch_of 1 (0 ∷ []) (line 0 0 (bytes_at 1 (1 ∷ [])) ∷ [])
  pub marked : given (terms 10 all) small [] (pos 4) (batch (record { long = pos 0; compressed = true; missing = false; nodes = []; buffers = []; counts = [] })) [] ≡ no 12 None None
  pub missing : given (terms 10 all) small [] (pos 4) (batch (record { long = pos 0; compressed = false; missing = true; nodes = []; buffers = []; counts = [] })) [] ≡ no 12 None None
  pub nodes_above : shown_for small (columns (pos 4) (node 0 0 ∷ node 0 0 ∷ node 0 0 ∷ node 0 0 ∷ node 0 0 ∷ []) [] []) [] ≡ no 13 None None
  pub counts_above : shown_for small (columns (pos 4) [] [] (pos 0 ∷ pos 0 ∷ pos 0 ∷ [])) [] ≡ no 13 None None
  pub no_node : shown_for (leaf 0 1 0 0 ∷ leaf 1 3 0 1 ∷ []) (columns (pos 0) (node 0 0 ∷ []) [] []) [] ≡ no 14 (Some 1) None
  pub node_first : shown_for small (columns (pos 0) [] [] []) [] ≡ no 14 (Some 0) None
  pub no_buffer : shown_for small (columns (pos 0) (node 0 0 ∷ []) (buffer 0 0 ∷ []) []) [] ≡ no 17 (Some 0) None
  pub nulls : shown_for small (columns (pos 1) (node 1 2 ∷ []) (buffer 0 1 ∷ buffer 1 4 ∷ []) []) body5 ≡ no 15 (Some 0) None
  pub long : shown_for small (columns (pos 1) (node 2147483648 0 ∷ []) (buffer 0 1 ∷ buffer 1 4 ∷ []) []) body5 ≡ no 15 (Some 0) None
  pub longest : shown_for small (columns (pos 1) (node 2147483647 0 ∷ []) (buffer 0 1 ∷ buffer 1 4 ∷ []) []) body5 ≡ no 19 (Some 0) (Some 2147483647)
  pub negative : shown_for small (columns (pos 1) (record { length = negsuc 0; nulls = negsuc 0 } ∷ []) (buffer 0 1 ∷ buffer 1 4 ∷ []) []) body5 ≡ no 15 (Some 0) None
  pub null_column : shown_for (leaf 0 1 0 0 ∷ []) (columns (pos 2) (node 2 1 ∷ []) [] []) [] ≡ no 15 (Some 0) None
  pub node_before_buffer : shown_for small (columns (pos 1) (node 1 2 ∷ []) [] []) [] ≡ no 15 (Some 0) None
  pub outside : shown_for small (columns (pos 1) (node 1 0 ∷ []) (buffer 0 0 ∷ buffer 5 1 ∷ []) []) body5 ≡ no 18 (Some 0) None
  pub before : shown_for small (columns (pos 1) (node 1 0 ∷ []) (record { offset = negsuc 0; length = pos 1 } ∷ buffer 1 4 ∷ []) []) body5 ≡ no 18 (Some 0) None
  pub length_below_zero : shown_for small (columns (pos 1) (node 1 0 ∷ []) (record { offset = pos 1; length = negsuc 0 } ∷ buffer 1 4 ∷ []) []) body5 ≡ no 18 (Some 0) None
  pub outside_first : shown_for small (columns (pos 1) (node 1 0 ∷ []) (buffer 6 0 ∷ []) []) body5 ≡ no 18 (Some 0) None
  pub reach : shown_for small (columns (pos 4) (node 4 0 ∷ []) (buffer 0 0 ∷ buffer 1 3 ∷ []) []) body5 ≡ no 19 (Some 0) (Some 4)
  pub unreached : shown_for small (columns (pos 0) (node 0 0 ∷ []) (buffer 0 0 ∷ buffer 0 0 ∷ []) []) [] ≡ batch_of 0 (0 ∷ []) []
  pub count_left : shown_for small (columns (pos 0) (node 0 0 ∷ []) (buffer 0 0 ∷ buffer 0 0 ∷ []) (pos 0 ∷ [])) [] ≡ no 21 None None
  pub count_before : shown_for small (columns (pos 1) (node 0 0 ∷ []) (buffer 0 0 ∷ buffer 0 0 ∷ []) (pos 0 ∷ [])) [] ≡ no 21 None None
  pub unlike : shown_for small (columns (pos 1) (node 0 0 ∷ []) (buffer 0 0 ∷ buffer 0 0 ∷ []) []) [] ≡ no 22 None None
  pub below_zero : chosen [] [] (columns (negsuc 0) [] [] []) [] ≡ no 22 None None
  pub batch_longest : chosen [] [] (columns (pos 2147483647) [] [] []) [] ≡ batch_of 2147483647 [] []
  pub batch_above : chosen [] [] (columns (pos 2147483648) [] [] []) [] ≡ no 22 None None

-- choosing
abbrev pub pair : List Row
pair = leaf 0 3 0 1 ∷ leaf 1 3 0 2 ∷ []

abbrev pub pair_of : ℤ → Columns
pair_of long = columns long (node 1 0 ∷ node 1 0 ∷ []) (buffer 0 0 ∷ buffer 0 1 ∷ buffer 0 0 ∷ buffer 1 2 ∷ []) []

pub record Chosen : Type 0 where
  pub thrice : chosen (1 ∷ 1 ∷ 0 ∷ []) pair (pair_of (pos 1)) body5 ≡ batch_of 1 (1 ∷ 1 ∷ 0 ∷ []) (line 0 0 (bytes_at 0 (0x0b ∷ [])) ∷ line 1 0 (bytes_at 1 (1 ∷ 2 ∷ [])) ∷ [])
  pub last : chosen (1 ∷ []) pair (pair_of (pos 1)) body5 ≡ batch_of 1 (0 ∷ []) (line 0 0 (bytes_at 1 (1 ∷ 2 ∷ [])) ∷ [])
  pub none : chosen [] pair (pair_of (pos 7)) body5 ≡ batch_of 7 [] []
  pub unnamed : chosen (0 ∷ 2 ∷ []) pair (pair_of (pos 1)) body5 ≡ no 20 None None
  pub unnamed_later : chosen (0 ∷ 2 ∷ []) pair (columns (pos 1) (node 1 0 ∷ []) (buffer 0 0 ∷ buffer 0 1 ∷ []) []) body5 ≡ no 14 (Some 1) None
  pub unnamed_first : chosen (2 ∷ []) pair (columns (pos 9) (node 1 0 ∷ node 1 0 ∷ []) (buffer 0 0 ∷ buffer 0 1 ∷ buffer 0 0 ∷ buffer 1 2 ∷ []) (pos 0 ∷ [])) body5 ≡ no 20 None None
  pub skipped_anything : chosen [] pair (columns (pos 0) (record { length = negsuc 4; nulls = pos 9 } ∷ node 1 7 ∷ []) (buffer 0 9 ∷ buffer 77 1 ∷ buffer 0 0 ∷ record { offset = negsuc 0; length = negsuc 0 } ∷ []) []) [] ≡ batch_of 0 [] []
  pub skipped_no_buffer : chosen [] pair (columns (pos 0) (node 0 0 ∷ node 0 0 ∷ []) (buffer 0 0 ∷ buffer 0 0 ∷ buffer 0 0 ∷ []) []) [] ≡ no 17 (Some 1) None
