-- Header types, and which rows are admitted.
use Rattle.std.specs.Prelude.{◌≡◌, ℕ, zero, suc, ◌+◌, false, List, [], ◌∷◌, pos, Some, None}
use Rattle.message.specs.declared.rows.Row.{Row}
use Rattle.message.specs.Messages.{nothing, schema, dictionary, batch, other}
use Rattle.columns.specs.Entries.{all}
use Rattle.examples.specs.Given.{row, leaf, columns, terms, keeps_on, given, first, no}

-- by header type, and before a schema
pub record Headers : Type 0 where
  pub passes : first nothing ≡ keeps_on None
  pub above : first (other 4) ≡ no 7 None None
  pub batch_first : first (batch (columns (pos 0) [] [] [])) ≡ no 10 None None
  pub values_first : first (dictionary (pos 0) false (columns (pos 0) [] [] [])) ≡ no 10 None None
  pub second : given (terms 10 all) [] [] (pos 4) (schema (leaf 0 0 0 0 ∷ [])) [] ≡ no 8 None None
  pub no_rows : first (schema []) ≡ keeps_on (Some [])

-- n rows one below the other, from row k on: lists, and a Null at the bottom
abbrev pub nested : ℕ → ℕ → List Row
nested zero k = leaf k 1 0 0 ∷ []
nested (suc n) k = row 7 0 0 0 (pos 0) (k + n + 2) ∷ nested n (k + 1)

-- n rows without children side by side, with tags from t on
abbrev pub flat : ℕ → ℕ → ℕ → List Row
flat zero k t = []
flat (suc n) k t = row 1 0 t 0 (pos 0) (k + 1) ∷ flat n (k + 1) (t + 1)

-- which rows are admitted
pub record Admitted : Type 0 where
  pub unknown : first (schema (leaf 0 0 0 0 ∷ [])) ≡ no 9 None None
  pub above : first (schema (leaf 0 16 0 0 ∷ [])) ≡ no 9 None None
  pub flag : first (schema (leaf 0 1 2 0 ∷ [])) ≡ no 9 None None
  pub width0 : first (schema (leaf 0 3 0 0 ∷ [])) ≡ no 9 None None
  pub width1024 : first (schema (leaf 0 3 0 1024 ∷ [])) ≡ keeps_on (Some [])
  pub width1025 : first (schema (leaf 0 3 0 1025 ∷ [])) ≡ no 9 None None
  pub size : first (schema (row 11 0 0 2147483647 (pos 0) 2 ∷ leaf 1 1 0 0 ∷ [])) ≡ keeps_on (Some [])
  pub size_above : first (schema (row 11 0 0 2147483648 (pos 0) 2 ∷ leaf 1 1 0 0 ∷ [])) ≡ no 9 None None
  pub childless : first (schema (leaf 0 7 0 0 ∷ [])) ≡ no 9 None None
  pub two_children : first (schema (row 9 0 0 0 (pos 0) 3 ∷ leaf 1 1 0 0 ∷ leaf 2 1 0 0 ∷ [])) ≡ no 9 None None
  pub beyond : first (schema (row 7 0 0 0 (pos 0) 3 ∷ leaf 1 1 0 0 ∷ [])) ≡ no 9 None None
  pub overlap : first (schema (row 12 0 0 0 (pos 0) 2 ∷ row 12 0 0 0 (pos 0) 3 ∷ leaf 2 1 0 0 ∷ [])) ≡ no 9 None None
  pub backward : first (schema (row 12 0 0 0 (pos 0) 0 ∷ [])) ≡ no 9 None None
  pub values : first (schema (row 13 1 0 4 (pos 0) 2 ∷ leaf 1 5 1 0 ∷ [])) ≡ keeps_on (Some [])
  pub view_values : first (schema (row 13 1 0 4 (pos 0) 2 ∷ leaf 1 6 1 0 ∷ [])) ≡ no 9 None None
  pub null_values : first (schema (row 13 1 0 4 (pos 0) 2 ∷ leaf 1 1 0 0 ∷ [])) ≡ no 9 None None
  pub index_width : first (schema (row 13 1 0 3 (pos 0) 2 ∷ leaf 1 5 1 0 ∷ [])) ≡ no 9 None None
  pub apart : first (schema (row 14 0 0 0 (pos 0) 3 ∷ row 1 0 5 0 (pos 0) 2 ∷ row 1 0 127 0 (pos 0) 3 ∷ [])) ≡ keeps_on (Some [])
  pub alike : first (schema (row 14 0 0 0 (pos 0) 3 ∷ row 1 0 5 0 (pos 0) 2 ∷ row 1 0 5 0 (pos 0) 3 ∷ [])) ≡ no 9 None None
  pub tag128 : first (schema (row 15 0 0 0 (pos 0) 2 ∷ row 1 0 128 0 (pos 0) 2 ∷ [])) ≡ no 9 None None
  pub children127 : first (schema (row 15 0 0 0 (pos 0) 128 ∷ flat 127 1 0)) ≡ keeps_on (Some [])
  pub children128 : first (schema (row 15 0 0 0 (pos 0) 129 ∷ flat 128 1 0)) ≡ no 9 None None
  pub empty_union : first (schema (leaf 0 14 0 0 ∷ [])) ≡ keeps_on (Some [])
  pub empty_struct : first (schema (leaf 0 12 0 0 ∷ [])) ≡ keeps_on (Some [])
  pub deep16 : first (schema (nested 15 0)) ≡ keeps_on (Some [])
  pub deep17 : first (schema (nested 16 0)) ≡ no 9 None None
  pub rows256 : first (schema (flat 256 0 0)) ≡ keeps_on (Some [])
  pub rows257 : first (schema (flat 257 0 0)) ≡ no 9 None None
