-- Which rows are a schema: fields, each with its children, in preorder.
use Rattle.std.specs.Prelude.{◌≡◌, ℕ, zero, suc, ◌+◌, ◌-◌, ◌≤◌, max, Bool, true, false, not, ◌&&◌, ◌||◌, List, [], ◌∷◌, ◌++◌, length, drop, Some, None, Option, ◌==◌, nat_le, nat_lt}
use Rattle.std.specs.Option.{option_map}
use Rattle.little.specs.Maybe.{and_then}
use Rattle.message.specs.declared.rows.Row.{Row}
use Rattle.types.specs.Choices.{beside}
use Rattle.schemas.specs.declared.kinds.Kind.{Kind}
use Rattle.schemas.specs.declared.kinds.Kind.TheVariants.{Null, Bool as BoolKind, Fixed, Binary, LargeBinary, View, List as ListKind, LargeList, ListView, LargeListView, FixedSizeList, Struct, Dictionary, SparseUnion, DenseUnion}
use Rattle.schemas.specs.Kinds.{kinds}

-- fields side by side: none; or one with its row and its children, and the fields behind it
pub data Fields : Type 0 where
  none : Fields
  field : Row → Fields → Fields → Fields

-- how many rows there are, with all below
abbrev pub size : Fields → ℕ
size none = 0
size (field r kids next) = 1 + (size kids + size next)

-- how many stand side by side
abbrev pub count : Fields → ℕ
count none = 0
count (field r kids next) = 1 + count next

-- how many stand one below the other
abbrev pub depth : Fields → ℕ
depth none = 0
depth (field r kids next) = max (1 + depth kids) (depth next)

-- the tags of those side by side
abbrev pub tags : Fields → List ℕ
tags none = []
tags (field r kids next) = r.tag ∷ tags next

abbrev pub ended : Row → ℕ → Row
ended r n = record { kind = r.kind; flag = r.flag; tag = r.tag; parameter = r.parameter; id = r.id; end = n }

-- rows in preorder from row k on, each ending behind its children
abbrev pub listing : ℕ → Fields → List Row
listing k none = []
listing k (field r kids next) = ended r (k + 1 + size kids) ∷ (listing (k + 1) kids ++ listing (k + 1 + size kids) next)

abbrev pub among : ℕ → List ℕ → Bool
among n [] = false
among n (m ∷ ms) = n == m || among n ms

-- tags of a union's children: each from 0 to 127, no two alike
abbrev pub apart : List ℕ → Bool
apart [] = true
apart (t ∷ ts) = nat_le t 127 && (not (among t ts) && apart ts)

-- a dictionary's values are of kind 2 to 5
abbrev pub values : Fields → Bool
values none = false
values (field r kids next) = nat_le 2 r.kind && nat_le r.kind 5

-- how many children a kind has, and which
abbrev pub children_fit : Kind → Fields → Bool
children_fit Null kids = count kids == 0
children_fit BoolKind kids = count kids == 0
children_fit Fixed kids = count kids == 0
children_fit Binary kids = count kids == 0
children_fit LargeBinary kids = count kids == 0
children_fit View kids = count kids == 0
children_fit ListKind kids = count kids == 1
children_fit LargeList kids = count kids == 1
children_fit ListView kids = count kids == 1
children_fit LargeListView kids = count kids == 1
children_fit FixedSizeList kids = count kids == 1
children_fit Struct kids = true
children_fit Dictionary kids = count kids == 1 && values kids
children_fit SparseUnion kids = nat_le (count kids) 127 && apart (tags kids)
children_fit DenseUnion kids = nat_le (count kids) 127 && apart (tags kids)

-- the widths of values and indices, and the size of a FixedSizeList; no other kind uses its parameter
abbrev pub parameter_fits : Kind → ℕ → Bool
parameter_fits Null n = true
parameter_fits BoolKind n = true
parameter_fits Fixed n = nat_le 1 n && nat_le n 1024
parameter_fits Binary n = true
parameter_fits LargeBinary n = true
parameter_fits View n = true
parameter_fits ListKind n = true
parameter_fits LargeList n = true
parameter_fits ListView n = true
parameter_fits LargeListView n = true
parameter_fits FixedSizeList n = nat_le n 2147483647
parameter_fits Struct n = true
parameter_fits Dictionary n = among n (1 ∷ 2 ∷ 4 ∷ 8 ∷ [])
parameter_fits SparseUnion n = true
parameter_fits DenseUnion n = true

abbrev pub kind_fits : Option Kind → Row → Fields → Bool
kind_fits None r kids = false
kind_fits (Some k) r kids = parameter_fits k r.parameter && children_fit k kids

-- a row with its children
abbrev pub row_fits : Row → Fields → Bool
row_fits r kids = nat_le r.flag 1 && kind_fits (beside kinds r.kind) r kids

abbrev pub sound : Fields → Bool
sound none = true
sound (field r kids next) = row_fits r kids && (sound kids && sound next)

-- rows are a schema: the preorder of fields, each as its kind asks, at most 256 and at most 16 deep
pub record Schema (rows : List Row) : Type 0 where
  pub fields : Fields
  pub listed : rows ≡ listing 0 fields
  pub fit : sound fields ≡ true
  pub deep : depth fields ≤ 16
  pub few : length rows ≤ 256

-- the fields that rows k up to `stop` are, where their ends nest; `rows` begins with row k, and there are at most `most`
unfoldable pub parse : ℕ → ℕ → ℕ → List Row → Option Fields
parse zero k stop rows = elim (k == stop) [ true ↦ Some none | false ↦ None ]
parse (suc most) k stop [] = elim (k == stop) [ true ↦ Some none | false ↦ None ]
parse (suc most) k stop (r ∷ rest) = elim (k == stop) [
  | true ↦ Some none
  | false ↦ elim (nat_lt k r.end && nat_le r.end stop) [
    | true ↦ and_then (parse most (k + 1) r.end rest) (λ kids. option_map (field r kids) (parse most r.end stop (drop (r.end - (k + 1)) rest)))
    | false ↦ None
  ]
]

abbrev pub admitted : List Row → Option Fields → Bool
admitted rows None = false
admitted rows (Some fields) = sound fields && (nat_le (depth fields) 16 && nat_le (length rows) 256)

-- the same as a test
unfoldable pub admits : List Row → Bool
admits rows = admitted rows (parse (length rows) 0 (length rows) rows)

-- the test finds exactly the schemas
abbrev pub AdmitsSchemas : Type 0
AdmitsSchemas = (rows : List Row) → (admits rows ≡ true → Schema rows) × (Schema rows → admits rows ≡ true)
