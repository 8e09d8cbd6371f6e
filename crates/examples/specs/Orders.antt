-- Messages that could be refused by two numbers, and what else a reader of the formats may ask.
use Rattle.std.specs.Prelude.{◌≡◌, ℕ, true, false, List, [], ◌∷◌, pos, Some, None}
use Rattle.message.specs.declared.items.Node.{Node}
use Rattle.message.specs.Messages.{Columns, dictionary, batch}
use Rattle.columns.specs.Entries.{all}
use Rattle.columns.specs.Slots.{absent, link}
use Rattle.examples.specs.Given.{row, leaf, node, buffer, columns, terms, given, first, shown_for, line, bytes_at, batch_of, no}
use Rattle.examples.specs.Taken.{small, body5}
use Rattle.examples.specs.Dictionaries.{fields}

-- five nodes, where the table has room for four
abbrev pub many : List Node
many = node 0 0 ∷ node 0 0 ∷ node 0 0 ∷ node 0 0 ∷ node 0 0 ∷ []

abbrev pub compressed : List Node → Columns
compressed nodes = record { long = pos 0; compressed = true; missing = false; nodes = nodes; buffers = []; counts = [] }

pub record Orders : Type 0 where
  pub schema_before_mark : first (batch (compressed [])) ≡ no 10 None None
  pub schema_before_id : first (dictionary (pos 9) false (compressed [])) ≡ no 10 None None
  pub id_before_mark : given (terms 10 all) fields [] (pos 4) (dictionary (pos 9) false (compressed [])) [] ≡ no 11 None None
  pub mark_before_lists : given (terms 10 all) small [] (pos 4) (batch (compressed many)) [] ≡ no 12 None None
  pub lists_before_columns : shown_for small (columns (pos 0) many [] []) [] ≡ no 13 None None
  pub length_before_delta : given (terms 10 all) fields [] (pos 4) (dictionary (pos 4) true (columns (pos 2) (node 0 0 ∷ []) (buffer 0 0 ∷ buffer 0 0 ∷ []) [])) [] ≡ no 22 None None

-- a text column of two slots over `A`, the first of them absent, and a byte that is no text
abbrev pub texted : ℕ → List ℕ
texted b = 2 ∷ 0 ∷ 0 ∷ 0 ∷ 0 ∷ 1 ∷ 0 ∷ 0 ∷ 0 ∷ 2 ∷ 0 ∷ 0 ∷ 0 ∷ b ∷ 65 ∷ []

pub record Departs : Type 0 where
  pub absent_text : shown_for (leaf 0 4 1 0 ∷ []) (columns (pos 2) (node 2 1 ∷ []) (buffer 0 1 ∷ buffer 1 12 ∷ buffer 13 2 ∷ []) []) (texted 255) ≡ no 19 (Some 0) (Some 0)
  pub present_text : shown_for (leaf 0 4 1 0 ∷ []) (columns (pos 2) (node 2 1 ∷ []) (buffer 0 1 ∷ buffer 1 12 ∷ buffer 13 2 ∷ []) []) (texted 66) ≡ batch_of 2 (0 ∷ []) (line 0 0 absent ∷ line 0 1 (bytes_at 14 (65 ∷ [])) ∷ [])
  pub left_over : shown_for small (columns (pos 1) (node 1 0 ∷ node 7 9 ∷ []) (buffer 0 0 ∷ buffer 1 4 ∷ buffer 99 99 ∷ []) []) body5 ≡ batch_of 1 (0 ∷ []) (line 0 0 (bytes_at 1 (1 ∷ [])) ∷ [])
  pub union_nulls : shown_for (leaf 0 14 0 0 ∷ []) (columns (pos 0) (node 0 1 ∷ []) (buffer 0 0 ∷ []) []) [] ≡ no 15 (Some 0) None
  pub dense_any_order : shown_for (row 15 0 0 0 (pos 0) 2 ∷ row 3 0 5 1 (pos 0) 2 ∷ []) (columns (pos 2) (node 2 0 ∷ node 2 0 ∷ []) (buffer 0 2 ∷ buffer 2 8 ∷ buffer 0 0 ∷ buffer 0 2 ∷ []) []) (5 ∷ 5 ∷ 1 ∷ 0 ∷ 0 ∷ 0 ∷ 0 ∷ 0 ∷ 0 ∷ 0 ∷ []) ≡ batch_of 2 (0 ∷ []) (line 0 0 (link 1 1) ∷ line 0 1 (link 1 0) ∷ line 1 0 (bytes_at 0 (5 ∷ [])) ∷ line 1 1 (bytes_at 1 (5 ∷ [])) ∷ [])
