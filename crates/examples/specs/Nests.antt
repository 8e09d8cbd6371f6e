-- Lists, structs and unions.
use Rattle.std.specs.Prelude.{◌≡◌, ℕ, List, [], ◌∷◌, ◌++◌, ℤ, pos, negsuc, Some, None}
use Rattle.message.specs.declared.items.Buffer.{Buffer}
use Rattle.message.specs.declared.items.Node.{Node}
use Rattle.message.specs.Messages.{batch}
use Rattle.columns.specs.Entries.{all}
use Rattle.columns.specs.Slots.{absent, span, group, link}
use Rattle.examples.specs.Lines.{Line}
use Rattle.examples.specs.Taken.{body5}
use Rattle.examples.specs.Given.{row, leaf, node, buffer, columns, terms, given, shown_for, line, bytes_at, batch_of, Done, no}

-- a row with a child of one-byte numbers, over 1, 2, 3
abbrev pub over : ℕ → ℕ → ℤ → Node → List Buffer → List ℕ → Done
over kind parameter long own buffers body =
    shown_for (row kind 0 0 parameter (pos 0) 2 ∷ leaf 1 3 0 1 ∷ []) (columns long (own ∷ node 3 0 ∷ []) (buffers ++ (buffer 0 0 ∷ buffer 0 3 ∷ [])) []) (1 ∷ 2 ∷ 3 ∷ body)

abbrev pub threes : List Line
threes = line 1 0 (bytes_at 0 (1 ∷ [])) ∷ line 1 1 (bytes_at 1 (2 ∷ [])) ∷ line 1 2 (bytes_at 2 (3 ∷ [])) ∷ []

pub record Nests : Type 0 where
  pub list : over 7 0 (pos 1) (node 1 0) (buffer 0 0 ∷ buffer 3 8 ∷ []) (1 ∷ 0 ∷ 0 ∷ 0 ∷ 3 ∷ 0 ∷ 0 ∷ 0 ∷ []) ≡ batch_of 1 (0 ∷ []) (line 0 0 (span 1 1 2) ∷ threes)
  pub list_beyond : over 7 0 (pos 1) (node 1 0) (buffer 0 0 ∷ buffer 3 8 ∷ []) (1 ∷ 0 ∷ 0 ∷ 0 ∷ 4 ∷ 0 ∷ 0 ∷ 0 ∷ []) ≡ no 19 (Some 0) (Some 0)
  pub large : over 8 0 (pos 1) (node 1 0) (buffer 0 0 ∷ buffer 3 16 ∷ []) (0 ∷ 0 ∷ 0 ∷ 0 ∷ 0 ∷ 0 ∷ 0 ∷ 0 ∷ 2 ∷ 0 ∷ 0 ∷ 0 ∷ 0 ∷ 0 ∷ 0 ∷ 0 ∷ []) ≡ batch_of 1 (0 ∷ []) (line 0 0 (span 1 0 2) ∷ threes)
  pub view : over 9 0 (pos 1) (node 1 0) (buffer 0 0 ∷ buffer 3 4 ∷ buffer 7 4 ∷ []) (2 ∷ 0 ∷ 0 ∷ 0 ∷ 1 ∷ 0 ∷ 0 ∷ 0 ∷ []) ≡ batch_of 1 (0 ∷ []) (line 0 0 (span 1 2 1) ∷ threes)
  pub view_beyond : over 9 0 (pos 1) (node 1 0) (buffer 0 0 ∷ buffer 3 4 ∷ buffer 7 4 ∷ []) (2 ∷ 0 ∷ 0 ∷ 0 ∷ 2 ∷ 0 ∷ 0 ∷ 0 ∷ []) ≡ no 19 (Some 0) (Some 0)
  pub view_negative : over 9 0 (pos 1) (node 1 0) (buffer 0 0 ∷ buffer 3 4 ∷ buffer 7 4 ∷ []) (2 ∷ 0 ∷ 0 ∷ 0 ∷ 255 ∷ 255 ∷ 255 ∷ 255 ∷ []) ≡ no 19 (Some 0) (Some 0)
  pub view_absent : over 9 0 (pos 1) (node 1 1) (buffer 11 1 ∷ buffer 3 4 ∷ buffer 7 4 ∷ []) (0 ∷ 0 ∷ 0 ∷ 0 ∷ 3 ∷ 0 ∷ 0 ∷ 0 ∷ 0 ∷ []) ≡ batch_of 1 (0 ∷ []) (line 0 0 absent ∷ threes)
  pub large_view : over 10 0 (pos 1) (node 1 0) (buffer 0 0 ∷ buffer 3 8 ∷ buffer 11 8 ∷ []) (1 ∷ 0 ∷ 0 ∷ 0 ∷ 0 ∷ 0 ∷ 0 ∷ 0 ∷ 2 ∷ 0 ∷ 0 ∷ 0 ∷ 0 ∷ 0 ∷ 0 ∷ 0 ∷ []) ≡ batch_of 1 (0 ∷ []) (line 0 0 (span 1 1 2) ∷ threes)
  pub fixed : over 11 1 (pos 2) (node 2 0) (buffer 0 0 ∷ []) [] ≡ batch_of 2 (0 ∷ []) (line 0 0 (span 1 0 1) ∷ line 0 1 (span 1 1 1) ∷ threes)
  pub fixed_short : over 11 2 (pos 2) (node 2 0) (buffer 0 0 ∷ []) [] ≡ no 19 (Some 0) (Some 2)
  pub fixed_none : over 11 0 (pos 2) (node 2 0) (buffer 0 0 ∷ []) [] ≡ batch_of 2 (0 ∷ []) (line 0 0 (span 1 0 0) ∷ line 0 1 (span 1 0 0) ∷ threes)
  pub struct : over 12 0 (pos 3) (node 3 1) (buffer 3 1 ∷ []) (5 ∷ []) ≡ batch_of 3 (0 ∷ []) (line 0 0 (group (Some 1) 0) ∷ line 0 1 absent ∷ line 0 2 (group (Some 1) 2) ∷ threes)
  pub struct_unlike : over 12 0 (pos 2) (node 2 0) (buffer 0 0 ∷ []) [] ≡ no 19 (Some 0) (Some 2)
  pub struct_empty : shown_for (leaf 0 12 0 0 ∷ []) (columns (pos 1) (node 1 0 ∷ []) (buffer 0 0 ∷ []) []) [] ≡ batch_of 1 (0 ∷ []) (line 0 0 (group None 0) ∷ [])
  pub child_first : shown_for (row 12 0 0 0 (pos 0) 2 ∷ leaf 1 3 0 1 ∷ []) (columns (pos 2) (node 2 0 ∷ node 3 0 ∷ []) (buffer 0 0 ∷ buffer 0 0 ∷ buffer 0 2 ∷ []) []) body5 ≡ no 19 (Some 1) (Some 3)

-- a union of one column of one-byte numbers, with tag 5: type ids, offsets and the child's value 9
abbrev pub union : ℕ → ℤ → List Buffer → List ℕ → Done
union kind version buffers body =
    given (terms 10 all) (row kind 0 0 0 (pos 0) 2 ∷ row 3 0 5 1 (pos 0) 2 ∷ []) [] version (batch (columns (pos 1) (node 1 1 ∷ node 1 0 ∷ []) buffers [])) body

abbrev pub dense4 : List Buffer
dense4 = buffer 0 1 ∷ buffer 1 4 ∷ buffer 0 0 ∷ buffer 5 1 ∷ []

abbrev pub linked : Done
linked = batch_of 1 (0 ∷ []) (line 0 0 (link 1 0) ∷ line 1 0 (bytes_at 5 (9 ∷ [])) ∷ [])

pub record Unions : Type 0 where
  pub four : union 15 (pos 4) dense4 (5 ∷ 0 ∷ 0 ∷ 0 ∷ 0 ∷ 9 ∷ []) ≡ linked
  pub five : union 15 (pos 3) (buffer 0 6 ∷ dense4) (5 ∷ 0 ∷ 0 ∷ 0 ∷ 0 ∷ 9 ∷ []) ≡ linked
  pub later : union 15 (pos 5) dense4 (5 ∷ 0 ∷ 0 ∷ 0 ∷ 0 ∷ 9 ∷ []) ≡ linked
  pub below_zero : union 15 (negsuc 0) (buffer 0 6 ∷ dense4) (5 ∷ 0 ∷ 0 ∷ 0 ∷ 0 ∷ 9 ∷ []) ≡ linked
  pub four_of3 : union 15 (pos 3) dense4 (5 ∷ 0 ∷ 0 ∷ 0 ∷ 0 ∷ 9 ∷ []) ≡ no 17 (Some 1) None
  pub five_of4 : union 15 (pos 4) (buffer 0 0 ∷ dense4) (5 ∷ 0 ∷ 0 ∷ 0 ∷ 0 ∷ 9 ∷ []) ≡ no 19 (Some 1) (Some 1)
  pub unread_outside : union 15 (pos 3) (buffer 0 7 ∷ dense4) (5 ∷ 0 ∷ 0 ∷ 0 ∷ 0 ∷ 9 ∷ []) ≡ no 18 (Some 0) None
  pub tag : union 15 (pos 4) dense4 (4 ∷ 0 ∷ 0 ∷ 0 ∷ 0 ∷ 9 ∷ []) ≡ no 19 (Some 0) (Some 0)
  pub tag_below_zero : union 15 (pos 4) dense4 (251 ∷ 0 ∷ 0 ∷ 0 ∷ 0 ∷ 9 ∷ []) ≡ no 19 (Some 0) (Some 0)
  pub offset : union 15 (pos 4) dense4 (5 ∷ 1 ∷ 0 ∷ 0 ∷ 0 ∷ 9 ∷ []) ≡ no 19 (Some 0) (Some 0)
  pub offset_below_zero : union 15 (pos 4) dense4 (5 ∷ 255 ∷ 255 ∷ 255 ∷ 255 ∷ 9 ∷ []) ≡ no 19 (Some 0) (Some 0)
  pub sparse : union 14 (pos 4) (buffer 0 1 ∷ buffer 0 0 ∷ buffer 5 1 ∷ []) (5 ∷ 0 ∷ 0 ∷ 0 ∷ 0 ∷ 9 ∷ []) ≡ linked
  pub sparse3 : union 14 (pos 3) (buffer 0 0 ∷ buffer 0 1 ∷ buffer 0 0 ∷ buffer 5 1 ∷ []) (5 ∷ 0 ∷ 0 ∷ 0 ∷ 0 ∷ 9 ∷ []) ≡ linked
  pub sparse_unlike : shown_for (row 14 0 0 0 (pos 0) 2 ∷ row 3 0 5 1 (pos 0) 2 ∷ []) (columns (pos 1) (node 1 0 ∷ node 2 0 ∷ []) (buffer 0 1 ∷ buffer 0 0 ∷ buffer 0 2 ∷ []) []) (5 ∷ 6 ∷ []) ≡ no 19 (Some 0) (Some 1)
  pub childless : shown_for (leaf 0 14 0 0 ∷ []) (columns (pos 0) (node 0 0 ∷ []) (buffer 0 0 ∷ []) []) [] ≡ batch_of 0 (0 ∷ []) []
  pub childless_slot : shown_for (leaf 0 14 0 0 ∷ []) (columns (pos 1) (node 1 0 ∷ []) (buffer 0 1 ∷ []) []) (0 ∷ []) ≡ no 19 (Some 0) (Some 0)
