-- Text, bytes and views.
use Rattle.std.specs.Prelude.{◌≡◌, ℕ, List, [], ◌∷◌, ℤ, pos, negsuc, Some, None}
use Rattle.message.specs.declared.items.Buffer.{Buffer}
use Rattle.message.specs.declared.rows.Row.{Row}
use Rattle.examples.specs.Given.{leaf, node, buffer, columns, shown_for, chosen, line, bytes_at, batch_of, Done, no}

-- text and bytes by offsets 0, 3 and 3, or 2, over CAT
abbrev pub texts : ℕ → List ℕ → List Row → Done
texts last tail rows = shown_for rows (columns (pos 2) (node 2 0 ∷ []) (buffer 0 0 ∷ buffer 0 12 ∷ buffer 12 3 ∷ []) []) (0 ∷ 0 ∷ 0 ∷ 0 ∷ 3 ∷ 0 ∷ 0 ∷ 0 ∷ last ∷ 0 ∷ 0 ∷ 0 ∷ tail)

pub record Texts : Type 0 where
  pub cat : texts 3 (67 ∷ 65 ∷ 84 ∷ []) (leaf 0 4 1 0 ∷ []) ≡ batch_of 2 (0 ∷ []) (line 0 0 (bytes_at 12 (67 ∷ 65 ∷ 84 ∷ [])) ∷ line 0 1 (bytes_at 15 []) ∷ [])
  pub falling : texts 2 (67 ∷ 65 ∷ 84 ∷ []) (leaf 0 4 1 0 ∷ []) ≡ no 19 (Some 0) (Some 1)
  pub beyond : texts 4 (67 ∷ 65 ∷ 84 ∷ []) (leaf 0 4 1 0 ∷ []) ≡ no 19 (Some 0) (Some 1)
  pub not_text : texts 3 (67 ∷ 255 ∷ 84 ∷ []) (leaf 0 4 1 0 ∷ []) ≡ no 19 (Some 0) (Some 0)
  pub bytes : texts 3 (67 ∷ 255 ∷ 84 ∷ []) (leaf 0 4 0 0 ∷ []) ≡ batch_of 2 (0 ∷ []) (line 0 0 (bytes_at 12 (67 ∷ 255 ∷ 84 ∷ [])) ∷ line 0 1 (bytes_at 15 []) ∷ [])

-- a view of one slot, with so many buffers
abbrev pub viewed : List ℤ → List Buffer → List ℕ → Done
viewed counts more body = shown_for (leaf 0 6 1 0 ∷ []) (columns (pos 1) (node 1 0 ∷ []) (buffer 0 0 ∷ buffer 0 16 ∷ more) counts) body

abbrev pub empty_view : List ℕ
empty_view = 0 ∷ 0 ∷ 0 ∷ 0 ∷ 0 ∷ 0 ∷ 0 ∷ 0 ∷ 0 ∷ 0 ∷ 0 ∷ 0 ∷ 0 ∷ 0 ∷ 0 ∷ 0 ∷ []

-- "ab"; 13 bytes from byte 1 of data buffer `k` on, beginning with `b`, over 14 bytes behind the view
abbrev pub short_view : ℕ → List ℕ
short_view last = 2 ∷ 0 ∷ 0 ∷ 0 ∷ 97 ∷ 98 ∷ 0 ∷ 0 ∷ 0 ∷ 0 ∷ 0 ∷ 0 ∷ 0 ∷ 0 ∷ 0 ∷ last ∷ []

abbrev pub long_view : ℕ → ℕ → ℕ → List ℕ
long_view b k from = 13 ∷ 0 ∷ 0 ∷ 0 ∷ b ∷ 98 ∷ 99 ∷ 100 ∷ k ∷ 0 ∷ 0 ∷ 0 ∷ from ∷ 0 ∷ 0 ∷ 0 ∷ 33 ∷ 97 ∷ 98 ∷ 99 ∷ 100 ∷ 101 ∷ 102 ∷ 103 ∷ 104 ∷ 105 ∷ 106 ∷ 107 ∷ 108 ∷ 109 ∷ []

pub record Views : Type 0 where
  pub count0 : viewed (pos 0 ∷ []) [] empty_view ≡ batch_of 1 (0 ∷ []) (line 0 0 (bytes_at 4 []) ∷ [])
  pub count1 : viewed (pos 1 ∷ []) [] empty_view ≡ no 16 (Some 0) None
  pub below0 : viewed (negsuc 0 ∷ []) [] empty_view ≡ no 16 (Some 0) None
  pub no_count : viewed [] [] empty_view ≡ no 16 (Some 0) None
  pub short : viewed (pos 0 ∷ []) [] (short_view 0) ≡ batch_of 1 (0 ∷ []) (line 0 0 (bytes_at 4 (97 ∷ 98 ∷ [])) ∷ [])
  pub not_zero : viewed (pos 0 ∷ []) [] (short_view 1) ≡ no 19 (Some 0) (Some 0)
  pub long : viewed (pos 1 ∷ []) (buffer 16 14 ∷ []) (long_view 97 0 1) ≡ batch_of 1 (0 ∷ []) (line 0 0 (bytes_at 17 (97 ∷ 98 ∷ 99 ∷ 100 ∷ 101 ∷ 102 ∷ 103 ∷ 104 ∷ 105 ∷ 106 ∷ 107 ∷ 108 ∷ 109 ∷ [])) ∷ [])
  pub prefix : viewed (pos 1 ∷ []) (buffer 16 14 ∷ []) (long_view 98 0 1) ≡ no 19 (Some 0) (Some 0)
  pub number : viewed (pos 1 ∷ []) (buffer 16 14 ∷ []) (long_view 97 1 1) ≡ no 19 (Some 0) (Some 0)
  pub beyond : viewed (pos 1 ∷ []) (buffer 16 13 ∷ []) (long_view 97 0 1) ≡ no 19 (Some 0) (Some 0)
  pub count_before_node : shown_for (leaf 0 6 1 0 ∷ []) (columns (pos 1) [] [] []) [] ≡ no 16 (Some 0) None
  pub buffer_before_node : shown_for (leaf 0 6 1 0 ∷ []) (columns (pos 1) [] (buffer 1 0 ∷ buffer 0 0 ∷ []) (pos 0 ∷ [])) [] ≡ no 18 (Some 0) None
  pub node_last : shown_for (leaf 0 6 1 0 ∷ []) (columns (pos 1) [] (buffer 0 0 ∷ buffer 0 0 ∷ []) (pos 0 ∷ [])) [] ≡ no 14 (Some 0) None
  pub skipped_node : chosen [] (leaf 0 6 1 0 ∷ []) (columns (pos 1) [] [] []) [] ≡ no 14 (Some 0) None
  pub skipped_count : chosen [] (leaf 0 6 1 0 ∷ []) (columns (pos 1) (node 1 0 ∷ []) [] []) [] ≡ no 16 (Some 0) None
  pub skipped : chosen [] (leaf 0 6 1 0 ∷ []) (columns (pos 1) (node 1 5 ∷ []) (buffer 9 9 ∷ buffer 9 9 ∷ buffer 9 9 ∷ []) (pos 1 ∷ [])) [] ≡ batch_of 1 [] []
