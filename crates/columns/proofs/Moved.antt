-- A column whose children's entries are all moved by a number keeps the same rules, and its slots hold the same with
-- the entries moved.
use Rattle.std.proofs.Common.{◌≡◌, ℕ, ◌+◌, ◌*◌, Bool, true, false, ◌&&◌, eqb, ltb, List, [], ◌∷◌, map, ℤ, pos, negsuc, is_some, Some, None, Option, refl, ap, ◌∙◌, ap₂}
use mathlib.Core.Path.{fun_ext}
use Rattle.std.specs.Option.{option_map}
use Rattle.little.specs.Maybe.{and_then}
use Rattle.message.specs.declared.rows.Row.{Row}
use Rattle.dictionaries.specs.Values.{Value, same}
use Rattle.dictionaries.specs.Places.{Held, Stored}
use Rattle.schemas.specs.declared.kinds.Kind.{Kind}
use Rattle.schemas.specs.declared.kinds.Kind.TheVariants.{Null, Bool as BoolKind, Fixed, Binary, LargeBinary, View, List as ListKind, LargeList, ListView, LargeListView, FixedSizeList, Struct, Dictionary, SparseUnion, DenseUnion}
use Rattle.columns.specs.declared.entries.Column.{Column}
use Rattle.columns.specs.Looks.{Sight, Part, Child, Look}
use Rattle.columns.specs.Slots.{Cell, absent, bit, part, stored, span, group, link, buffer, signed_at, Range, view_at, text_kept, text_by, span_by, first_entry, tagged, link_at, link_by, value_cell, index_at, held_at, is_absent, value_by, slot_of, slot}
use Rattle.columns.specs.Rules.{reach_of, validity_reaches, all_long, first_long, children_kept, values_kept, nulls_kept, sound, first_broken, broken_at}

-- the same but for its column table
abbrev pub over : Sight → List Column → Sight
over s cs = record { fields = s.fields; nodes = s.nodes; buffers = s.buffers; counts = s.counts; columns = cs; body = s.body; held = s.held }

abbrev pub moved_child : ℕ → Child → Child
moved_child p c = record { tag = c.tag; entry = p + c.entry; long = c.long }

abbrev pub moved_look : ℕ → Look → Look
moved_look p l = record { row = l.row; kind = l.kind; kids = l.kids; long = l.long; nulls = l.nulls; parts = l.parts; children = map (moved_child p) l.children }

abbrev pub moved_cell : ℕ → Cell → Cell
moved_cell p absent = absent
moved_cell p (bit b) = bit b
moved_cell p (part x) = part x
moved_cell p (stored x k) = stored x k
moved_cell p (span e start n) = span (p + e) start n
moved_cell p (group e i) = group (option_map (λ x. p + x) e) i
moved_cell p (link e i) = link (p + e) i

-- what follows from a value, where all that follows is changed
pub then_mapped : {A B C : Type 0} (h : B → C) (f : A → Option C) (g : A → Option B) → ((x : A) → f x ≡ option_map h (g x)) → (o : Option A) → and_then o f ≡ option_map h (and_then o g)
then_mapped h f g alike None = refl
then_mapped h f g alike (Some x) = alike x

some_mapped : {A B : Type 0} (f : A → B) (o : Option A) → is_some (option_map f o) ≡ is_some o
some_mapped f None = refl
some_mapped f (Some x) = refl

module _ (p : ℕ) where
  span_moves : (cs : List Child) (range : ℕ → Option Range) → span_by (map (moved_child p) cs) range ≡ option_map (moved_cell p) (span_by cs range)
  span_moves [] range = refl
  span_moves (c ∷ cs) range = by (range c.long) where
    by : (o : Option Range) → option_map (λ g. span (p + c.entry) g.start g.count) o ≡ option_map (moved_cell p) (option_map (λ g. span c.entry g.start g.count) o)
    by None = refl
    by (Some g) = refl

  first_moves : (cs : List Child) → first_entry (map (moved_child p) cs) ≡ option_map (λ x. p + x) (first_entry cs)
  first_moves [] = refl
  first_moves (c ∷ cs) = refl

  tagged_moves : (t : ℤ) (cs : List Child) → tagged t (map (moved_child p) cs) ≡ option_map (moved_child p) (tagged t cs)
  tagged_moves t [] = refl
  tagged_moves t (c ∷ cs) = by (same t (pos c.tag)) (tagged_moves t cs) where
    by : (b : Bool) → tagged t (map (moved_child p) cs) ≡ option_map (moved_child p) (tagged t cs)
        → elim b as (λ _. Option Child) [ true ↦ Some (moved_child p c) | false ↦ tagged t (map (moved_child p) cs) ] ≡ option_map (moved_child p) (elim b as (λ _. Option Child) [ true ↦ Some c | false ↦ tagged t cs ])
    by true rest = refl
    by false rest = rest

  link_at_moves : (k : ℤ) (c : Child) → link_at k (moved_child p c) ≡ option_map (moved_cell p) (link_at k c)
  link_at_moves (negsuc k) c = refl
  link_at_moves (pos k) c = by (ltb k c.long) where
    by : (b : Bool) → elim b as (λ _. Option Cell) [ true ↦ Some (link (p + c.entry) k) | false ↦ None ] ≡ option_map (moved_cell p) (elim b as (λ _. Option Cell) [ true ↦ Some (link c.entry k) | false ↦ None ])
    by true = refl
    by false = refl

  link_moves : (l : Look) (i : ℕ) (k : ℤ) → link_by (moved_look p l) i k ≡ option_map (moved_cell p) (link_by l i k)
  link_moves l i k = ap (λ o. and_then o (link_at k)) (tagged_moves t l.children) ∙ by (tagged t l.children) where
    t : ℤ
    t = signed_at 1 (buffer l 0) i

    by : (o : Option Child) → and_then (option_map (moved_child p) o) (link_at k) ≡ option_map (moved_cell p) (and_then o (link_at k))
    by None = refl
    by (Some c) = link_at_moves k c

  -- bytes and values of dictionaries name no entry
  text_stays : (r : Row) (o : Option Part) → text_by r o ≡ option_map (moved_cell p) (text_by r o)
  text_stays r None = refl
  text_stays r (Some x) = by (text_kept r x) where
    by : (b : Bool) → elim b as (λ _. Option Cell) [ true ↦ Some (part x) | false ↦ None ] ≡ option_map (moved_cell p) (elim b as (λ _. Option Cell) [ true ↦ Some (part x) | false ↦ None ])
    by true = refl
    by false = refl

  value_stays : (k place : ℕ) (v : Value) → value_cell k (record { value = v; place = place }) ≡ moved_cell p (value_cell k (record { value = v; place = place }))
  value_stays k place None = refl
  value_stays k place (Some bs) = refl

  held_stays : (h : Held) (id k : ℤ) → held_at h id k ≡ option_map (moved_cell p) (held_at h id k)
  held_stays h id (negsuc k) = refl
  held_stays h id (pos k) = by (h.value id k) where
    by : (o : Option Stored) → option_map (value_cell k) o ≡ option_map (moved_cell p) (option_map (value_cell k) o)
    by None = refl
    by (Some x) = ap Some (value_stays k x.place x.value)

  dictionary_stays : (s : Sight) (l : Look) (i : ℕ) → value_by s l i ≡ option_map (moved_cell p) (value_by s l i)
  dictionary_stays s l i = by (is_absent l i) where
    by : (b : Bool) → elim b as (λ _. Option Cell) [ true ↦ Some absent | false ↦ held_at s.held l.row.id (index_at l i) ] ≡ option_map (moved_cell p) (elim b as (λ _. Option Cell) [ true ↦ Some absent | false ↦ held_at s.held l.row.id (index_at l i) ])
    by true = refl
    by false = held_stays s.held l.row.id (index_at l i)

  all_long_moves : (n : ℕ) (cs : List Child) → all_long n (map (moved_child p) cs) ≡ all_long n cs
  all_long_moves n [] = refl
  all_long_moves n (c ∷ cs) = ap (λ b. eqb c.long n && b) (all_long_moves n cs)

  first_long_moves : (n : ℕ) (cs : List Child) → first_long n (map (moved_child p) cs) ≡ first_long n cs
  first_long_moves n [] = refl
  first_long_moves n (c ∷ cs) = refl

  module _ (s : Sight) (cs : List Column) (l : Look) where
    slot_of_moves : (i : ℕ) (kind : Kind) → slot_of (over s cs) (moved_look p l) i kind ≡ option_map (moved_cell p) (slot_of s l i kind)
    slot_of_moves i Null = refl
    slot_of_moves i BoolKind = refl
    slot_of_moves i Fixed = refl
    slot_of_moves i Binary = text_stays l.row _
    slot_of_moves i LargeBinary = text_stays l.row _
    slot_of_moves i View = text_stays l.row (view_at l i)
    slot_of_moves i ListKind = span_moves l.children _
    slot_of_moves i LargeList = span_moves l.children _
    slot_of_moves i ListView = span_moves l.children _
    slot_of_moves i LargeListView = span_moves l.children _
    slot_of_moves i FixedSizeList = span_moves l.children _
    slot_of_moves i Struct = ap (λ e. Some (group e i)) (first_moves l.children)
    slot_of_moves i Dictionary = dictionary_stays s l i
    slot_of_moves i SparseUnion = link_moves l i (pos i)
    slot_of_moves i DenseUnion = link_moves l i (signed_at 4 (buffer l 1) i)

    pub slot_moves : (i : ℕ) → slot (over s cs) (moved_look p l) i ≡ option_map (moved_cell p) (slot s l i)
    unfolding slot
    slot_moves i = slot_of_moves i l.kind

    reach_moves : (kind : Kind) → reach_of (moved_look p l) kind ≡ reach_of l kind
    reach_moves Null = refl
    reach_moves BoolKind = refl
    reach_moves Fixed = refl
    reach_moves Binary = refl
    reach_moves LargeBinary = refl
    reach_moves View = refl
    reach_moves ListKind = refl
    reach_moves LargeList = refl
    reach_moves ListView = refl
    reach_moves LargeListView = refl
    reach_moves FixedSizeList = refl
    reach_moves Struct = refl
    reach_moves Dictionary = refl
    reach_moves SparseUnion = refl
    reach_moves DenseUnion = refl

    children_move : (kind : Kind) → children_kept (moved_look p l) kind ≡ children_kept l kind
    children_move Null = refl
    children_move BoolKind = refl
    children_move Fixed = refl
    children_move Binary = refl
    children_move LargeBinary = refl
    children_move View = refl
    children_move ListKind = refl
    children_move LargeList = refl
    children_move ListView = refl
    children_move LargeListView = refl
    children_move FixedSizeList = first_long_moves (l.row.parameter * l.long) l.children
    children_move Struct = all_long_moves l.long l.children
    children_move Dictionary = refl
    children_move SparseUnion = all_long_moves l.long l.children
    children_move DenseUnion = refl

    abbrev unless_empty : Bool → Bool
    unless_empty b = elim (eqb l.long 0) [ true ↦ true | false ↦ b ]

    pub sound_moves : sound (over s cs) (moved_look p l) ≡ sound s l
    sound_moves = ap₂ (λ reach kept. validity_reaches l && (unless_empty reach && (kept && values_kept s l))) (reach_moves l.kind) (children_move l.kind)

    abbrev broken_by : Bool → (ℕ → Bool) → Option ℕ
    broken_by whole kept = elim whole [ true ↦ first_broken kept 0 l.long | false ↦ Some l.long ]

    pub broken_moves : broken_at (over s cs) (moved_look p l) ≡ broken_at s l
    broken_moves = ap₂ (λ b kept. broken_by (b && nulls_kept l) kept) sound_moves (fun_ext (λ i. ap is_some (slot_moves i) ∙ some_mapped (moved_cell p) (slot s l i)))
