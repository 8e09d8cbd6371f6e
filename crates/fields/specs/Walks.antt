-- Nested fields, read within one another, as rows in preorder.
use Rattle.std.specs.Prelude.{◌≡◌, ℕ, zero, suc, ◌+◌, ◌<◌, cond, List, [], ◌∷◌, ◌++◌, length, ℤ, pos, Some, None, Ok, Err, Option, Result, nat_le}
use Rattle.std.specs.Option.{option_map}
use Rattle.little.specs.Maybe.{and_then}
use Rattle.message.specs.declared.rows.Row.{Row}
use Rattle.tables.specs.Tables.{item_of}
use Rattle.types.specs.declared.shapes.Typed.{Typed}
use Rattle.types.specs.declared.shapes.Tags.{Tags}
use Rattle.types.specs.declared.shapes.Tags.TheVariants.{Zero}
use Rattle.fields.specs.declared.parts.Children.{Children}
use Rattle.fields.specs.declared.parts.Field.{Field}
use Rattle.fields.specs.declared.parts.Index.{Index}
use Rattle.fields.specs.declared.parts.Refused.{Refused}
use Rattle.fields.specs.declared.rows.Rows.{Rows}
use Rattle.fields.specs.Fields.{field_at, tag_of}

-- the rows of the field at a place, with its tag, where so many rows come before
abbrev pub Walk : Type 0
Walk = ℕ → ℕ → ℕ → Option (List Row)

-- n children from child k on, each whole before the next
unfoldable pub child_rows : Walk → List ℕ → Tags → ℕ → ℕ → ℕ → ℕ → Option (List Row)
child_rows walk bs tags at zero k before = Some []
child_rows walk bs tags at (suc n) k before =
    and_then (item_of bs at k) (λ p.
    and_then (walk before p (tag_of bs tags k)) (λ rows.
    option_map (λ more. rows ++ more) (child_rows walk bs tags at n (k + 1) (before + length rows))))

abbrev pub kids_of : Walk → List ℕ → Field → ℕ → Option (List Row)
kids_of walk bs f before = child_rows walk bs f.shape.tags f.children.at f.children.count 0 before

-- a row ends behind its children
abbrev pub row_of : Typed → ℕ → ℤ → ℕ → Row
row_of t tag id end = record { kind = t.kind; flag = t.flag; tag = tag; parameter = t.parameter; id = id; end = end }

-- a field without a dictionary is one row, and its children's below it
abbrev pub plain_rows : ℕ → ℕ → Typed → List Row → List Row
plain_rows before tag t kids = row_of t tag (pos 0) (before + 1 + length kids) ∷ kids

-- one with a dictionary has a row for its indices, below it the row of its values, and below that its children's
abbrev pub index_rows : ℕ → ℕ → Index → Typed → List Row → List Row
index_rows before tag i t kids =
    let end = before + 2 + length kids in
    row_of i.row tag i.id end ∷ row_of t 0 (pos 0) end ∷ kids

-- `below` reads a field one deeper, and `deeper` one below a row that is one deeper, where there may be such a row
abbrev pub field_rows : Walk → Option Walk → List ℕ → ℕ → ℕ → Field → Option Index → Option (List Row)
field_rows below deeper bs before tag f None = option_map (plain_rows before tag f.shape.row) (kids_of below bs f (before + 1))
field_rows below deeper bs before tag f (Some i) = and_then deeper (λ walk. option_map (index_rows before tag i f.shape.row) (kids_of walk bs f (before + 2)))

-- a field with at most so many rows one below the other
unfoldable pub walk_at : ℕ → List ℕ → Walk
walk_at zero bs before p tag = None
walk_at (suc zero) bs before p tag = and_then (field_at bs p) (λ f. field_rows (walk_at zero bs) None bs before tag f f.index)
walk_at (suc (suc d)) bs before p tag = and_then (field_at bs p) (λ f. field_rows (walk_at (suc d) bs) (Some (walk_at d bs)) bs before tag f f.index)

-- a schema has at most 256 rows
abbrev pub few : Option (List Row) → Option (List Row)
few None = None
few (Some rows) = cond (nat_le (length rows) 256) (Some rows) None

-- the rows of a vector of fields, at most 16 deep
unfoldable pub rows_at : List ℕ → Children → Option (List Row)
rows_at bs fields = few (child_rows (walk_at 16 bs) bs Zero fields.at fields.count 0 0)

-- the rows in a table
abbrev pub held : Rows → List Row
held t = t.items.items

-- what reading fields into a table does: their rows stand behind those that it has, and there is room for them all;
-- or they are refused, or are more than there is room for
abbrev pub Reads : Option (List Row) → Result (Unit {0}) Refused → List Row → List Row → Type 0
Reads o (Ok u) xs xs' = (rows : List Row) × (o ≡ Some rows) × (xs' ≡ xs ++ rows)
Reads o (Err e) xs xs' = (rows : List Row) → o ≡ Some rows → 256 < length xs + length rows
