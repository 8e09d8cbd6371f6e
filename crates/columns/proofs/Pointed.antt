-- The cells to which a slot points are in range.
use Rattle.std.proofs.Common.{◌≡◌, ℕ, zero, suc, ◌+◌, ◌-◌, ◌*◌, ◌<◌, ◌≤◌, Bool, true, false, ◌&&◌, eqb, ltb, leb, List, [], ◌∷◌, ℤ, pos, negsuc, ◌+ℤ◌, Some, None, Option, sym, refl, ap, ◌∙◌, subst, arith}
use lib.Signed.{le_z}
use Rattle.std.proofs.lemmas.Bool.{and_parts, leb-true, ltb-true, eqb-true}
use Rattle.std.specs.List.{slice_get}
use Rattle.little.proofs.Maybe.{mapped_is, then_is, some_same, none_some}
use Rattle.message.specs.declared.rows.Row.{Row}
use Rattle.dictionaries.specs.Values.{Value, same}
use Rattle.dictionaries.specs.Places.{Held}
use Rattle.schemas.specs.declared.kinds.Kind.{Kind}
use Rattle.schemas.specs.declared.kinds.Kind.TheVariants.{Null, Bool as BoolKind, Fixed, Binary, LargeBinary, View, List as ListKind, LargeList, ListView, LargeListView, FixedSizeList, Struct, Dictionary, SparseUnion, DenseUnion}
use Rattle.schemas.specs.Takings.{natural}
use Rattle.columns.specs.Looks.{Sight, Part, Child, Look, length_at}
use Rattle.columns.specs.Slots.{Cell, absent, part, span, group, link, buffer, signed_at, Range, range_by, by_offsets, by_sizes, view_at, text_kept, text_by, span_by, first_entry, tagged, link_at, link_by, value_cell, index_at, held_at, is_absent, value_by, slot_of}
use Rattle.columns.specs.Rules.{all_long, children_kept}
use Rattle.columns.specs.Cells.{InRange, Points}
use Rattle.columns.proofs.Looked.{Sized}

-- a range, where its test holds
range_is : (b : Bool) (start n : ℕ) (g : Range) → range_by b start n ≡ Some g → (b ≡ true) × (g ≡ record { start = start; count = n })
range_is true start n g e = (refl, sym (some_same _ g e))
range_is false start n g e = absurd (none_some g e)

abbrev Within : Range → ℕ → Type 0
Within g limit = g.start + g.count ≤ limit

range_within : (b : Bool) (start n limit : ℕ) (g : Range) → (b ≡ true → start + n ≤ limit) → range_by b start n ≡ Some g → Within g limit
range_within b start n limit g h e =
    let r = range_is b start n g e in
    subst (λ x. Within x limit) (sym r.1) (h r.0)

offsets_bound : (o o' : ℤ) (limit : ℕ) → (le_z (pos 0) o && (le_z o o' && le_z o' (pos limit))) ≡ true → natural o + (natural o' - natural o) ≤ limit
offsets_bound (pos a) (pos b) limit e =
    let p = and_parts (leb 0 a) (leb a b && leb b limit) e in
    let q = and_parts (leb a b) (leb b limit) p.1 in
    let x = leb-true a b q.0 in
    let y = leb-true b limit q.1 in
    omega arith
offsets_bound (pos a) (negsuc b) limit e =
    let p = and_parts (leb 0 a) false e in
    let z : ◌≡◌ {A = ℕ} 0 1 = let f : false ≡ true = p.1 in cc in
    absurd (omega arith)
offsets_bound (negsuc a) o' limit e = let z : ◌≡◌ {A = ℕ} 0 1 = let f : false ≡ true = e in cc in absurd (omega arith)

sizes_bound : (o n : ℤ) (limit : ℕ) → (le_z (pos 0) o && (le_z (pos 0) n && le_z (o +ℤ n) (pos limit))) ≡ true → natural o + natural n ≤ limit
sizes_bound (pos a) (pos b) limit e =
    let p = and_parts (leb 0 a) (leb 0 b && leb (a + b) limit) e in
    let q = and_parts (leb 0 b) (leb (a + b) limit) p.1 in
    leb-true (a + b) limit q.1
sizes_bound (pos a) (negsuc b) limit e =
    let p = and_parts (leb 0 a) false e in
    let z : ◌≡◌ {A = ℕ} 0 1 = let f : false ≡ true = p.1 in cc in
    absurd (omega arith)
sizes_bound (negsuc a) n limit e = let z : ◌≡◌ {A = ℕ} 0 1 = let f : false ≡ true = e in cc in absurd (omega arith)

module _ (s : Sight) where
  sized_at : (cs : List Child) (j : ℕ) (c : Child) → Sized s cs → slice_get cs j ≡ Some c → length_at s c.entry ≡ Some c.long
  sized_at [] j c k e = absurd (none_some c e)
  sized_at (x ∷ cs) zero c k e = let d = some_same x c e in subst (λ y. length_at s y.entry ≡ Some y.long) d k.0
  sized_at (x ∷ cs) (suc j) c k e = sized_at cs j c k.1 e

  long_at : (n : ℕ) (cs : List Child) (j : ℕ) (c : Child) → all_long n cs ≡ true → slice_get cs j ≡ Some c → c.long ≡ n
  long_at n [] j c k e = absurd (none_some c e)
  long_at n (x ∷ cs) zero c k e =
      let p = and_parts (eqb x.long n) (all_long n cs) k in
      ap (λ y. y.long) (sym (some_same x c e)) ∙ eqb-true x.long n p.0
  long_at n (x ∷ cs) (suc j) c k e = long_at n cs j c (and_parts (eqb x.long n) (all_long n cs) k).1 e

  tagged_at : (t : ℤ) (cs : List Child) (c : Child) → Sized s cs → tagged t cs ≡ Some c → length_at s c.entry ≡ Some c.long
  tagged_at t [] c k e = absurd (none_some c e)
  tagged_at t (x ∷ cs) c k e = by (same t (pos x.tag)) e (λ d. tagged_at t cs c k.1 d) where
    by : (b : Bool) → elim b as (λ _. Option Child) [ true ↦ Some x | false ↦ tagged t cs ] ≡ Some c → (tagged t cs ≡ Some c → length_at s c.entry ≡ Some c.long) → length_at s c.entry ≡ Some c.long
    by true e later = subst (λ y. length_at s y.entry ≡ Some y.long) (some_same x c e) k.0
    by false e later = later e

  module _ (l : Look) where
    abbrev pub Fine : Cell → Type 0
    Fine c = (e i : ℕ) → Points l.children c e i → InRange s e i

    text_fine : (r : Row) (o : Option Part) (c : Cell) → text_by r o ≡ Some c → Fine c
    text_fine r None c h = absurd (none_some c h)
    text_fine r (Some p) c h = by (text_kept r p) h where
      by : (b : Bool) → elim b as (λ _. Option Cell) [ true ↦ Some (part p) | false ↦ None ] ≡ Some c → Fine c
      by true h = subst Fine (some_same (part p) c h) (λ e i k. absurd k)
      by false h = absurd (none_some c h)

    span_fine : (cs : List Child) (range : ℕ → Option Range) (c : Cell) → Sized s cs → ((limit : ℕ) (g : Range) → range limit ≡ Some g → Within g limit) → span_by cs range ≡ Some c → Fine c
    span_fine [] range c k bound h = absurd (none_some c h)
    span_fine (x ∷ cs) range c k bound h =
        let g = mapped_is (λ g. span x.entry g.start g.count) (range x.long) c h in
        let w = bound x.long g.0 g.1 in
        subst Fine (sym g.2) (λ e i p. record { long = x.long; entry = ap (length_at s) p.0 ∙ k.0; index = omega (arith, p.2, w) })

    link_fine : (slot : ℤ) (x : Child) (c : Cell) → length_at s x.entry ≡ Some x.long → link_at slot x ≡ Some c → Fine c
    link_fine (negsuc n) x c k h = absurd (none_some c h)
    link_fine (pos n) x c k h = by (ltb n x.long) refl h where
      by : (b : Bool) → ltb n x.long ≡ b → elim b as (λ _. Option Cell) [ true ↦ Some (link x.entry n) | false ↦ None ] ≡ Some c → Fine c
      by true lt h = subst Fine (some_same _ c h) (λ e i p. record { long = x.long; entry = ap (length_at s) p.0 ∙ k; index = let m = ltb-true n x.long lt in omega (arith, p.1, m) })
      by false lt h = absurd (none_some c h)

    union_fine : (i : ℕ) (slot : ℤ) (c : Cell) → Sized s l.children → link_by l i slot ≡ Some c → Fine c
    union_fine i slot c k h =
        let x = then_is (tagged (signed_at 1 (buffer l 0) i) l.children) (link_at slot) c h in
        link_fine slot x.0 c (tagged_at (signed_at 1 (buffer l 0) i) l.children x.0 k x.1) x.2

    value_fine : (k : ℕ) (place : ℕ) (v : Value) → Fine (value_cell k (record { value = v; place = place }))
    value_fine k place None e i p = absurd p
    value_fine k place (Some bs) e i p = absurd p

    held_fine : (h : Held) (id : ℤ) (index : ℤ) (c : Cell) → held_at h id index ≡ Some c → Fine c
    held_fine h id (pos k) c e =
        let st = mapped_is (value_cell k) (h.value id k) c e in
        subst Fine (sym st.2) (value_fine k st.0.place st.0.value)
    held_fine h id (negsuc k) c e = absurd (none_some c e)

    dictionary_fine : (i : ℕ) (c : Cell) → value_by s l i ≡ Some c → Fine c
    dictionary_fine i c h = by (is_absent l i) h where
      by : (b : Bool) → elim b as (λ _. Option Cell) [ true ↦ Some absent | false ↦ held_at s.held l.row.id (index_at l i) ] ≡ Some c → Fine c
      by true h = subst Fine (some_same absent c h) (λ e i k. absurd k)
      by false h = held_fine s.held l.row.id (index_at l i) c h

    struct_fine : (i : ℕ) (c : Cell) → i < l.long → all_long l.long l.children ≡ true → Sized s l.children → group (first_entry l.children) i ≡ c → Fine c
    struct_fine i c lt kept k h = subst Fine h (λ e j p. record {
      long = p.1.long;
      entry = ap (length_at s) p.3 ∙ sized_at l.children p.0 p.1 k p.2;
      index = omega (arith, p.4, long_at l.long l.children p.0 p.1 kept p.2);
    })

    by_offsets_lem : (width : ℕ) (i limit : ℕ) (g : Range) → by_offsets width (buffer l 1) limit i ≡ Some g → Within g limit
    by_offsets_lem width i limit g h = range_within _ _ _ limit g (offsets_bound (signed_at width (buffer l 1) i) (signed_at width (buffer l 1) (i + 1)) limit) h

    by_sizes_lem : (width : ℕ) (i limit : ℕ) (g : Range) → by_sizes width (buffer l 1) (buffer l 2) limit i ≡ Some g → Within g limit
    by_sizes_lem width i limit g h = range_within _ _ _ limit g (sizes_bound (signed_at width (buffer l 1) i) (signed_at width (buffer l 2) i) limit) h

    -- what a slot holds, in a column whose children are as long as they have to be
    pub fine : (i : ℕ) (kind : Kind) (c : Cell) → i < l.long → children_kept l kind ≡ true → Sized s l.children → slot_of s l i kind ≡ Some c → Fine c
    fine i Null c lt kept k h = subst Fine (some_same absent c h) (λ e i k. absurd k)
    fine i BoolKind c lt kept k h = subst Fine (some_same _ c h) (λ e i k. absurd k)
    fine i Fixed c lt kept k h = subst Fine (some_same _ c h) (λ e i k. absurd k)
    fine i Binary c lt kept k h = text_fine l.row _ c h
    fine i LargeBinary c lt kept k h = text_fine l.row _ c h
    fine i View c lt kept k h = text_fine l.row (view_at l i) c h
    fine i ListKind c lt kept k h = span_fine l.children _ c k (by_offsets_lem 4 i) h
    fine i LargeList c lt kept k h = span_fine l.children _ c k (by_offsets_lem 8 i) h
    fine i ListView c lt kept k h = span_fine l.children _ c k (by_sizes_lem 4 i) h
    fine i LargeListView c lt kept k h = span_fine l.children _ c k (by_sizes_lem 8 i) h
    fine i FixedSizeList c lt kept k h =
        let n = l.row.parameter in
        span_fine l.children _ c k (λ limit g e. range_within (leb (n * i + n) limit) (n * i) n limit g (leb-true (n * i + n) limit) e) h
    fine i Struct c lt kept k h = struct_fine i c lt kept k (some_same _ c h)
    fine i Dictionary c lt kept k h = dictionary_fine i c h
    fine i SparseUnion c lt kept k h = union_fine i (pos i) c k h
    fine i DenseUnion c lt kept k h = union_fine i (signed_at 4 (buffer l 1) i) c k h
