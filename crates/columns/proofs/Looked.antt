-- What is known of an entry that leads to a column.
use Rattle.std.proofs.Common.{◌≡◌, ℕ, zero, suc, ◌+◌, ◌<◌, Bool, true, false, cond, ◌&&◌, leb, List, [], ◌∷◌, length, ℤ, pos, negsuc, Some, None, Option, sym, refl, ap, ◌∙◌, arith}
use lib.Signed.{le_z}
use Rattle.std.proofs.lemmas.Bool.{and_parts, le-leb}
use Rattle.std.specs.Option.{option_map}
use Rattle.std.specs.List.{slice_get}
use Rattle.little.specs.Maybe.{and_then}
use Rattle.little.proofs.Maybe.{mapped_is, then_is, some_same, none_some}
use Rattle.message.specs.declared.items.Node.{Node}
use Rattle.types.specs.Choices.{between}
use Rattle.schemas.specs.declared.kinds.Kind.{Kind}
use Rattle.schemas.specs.Schemas.{Fields, none, field}
use Rattle.schemas.specs.Takings.{natural, kind_of}
use Rattle.schemas.specs.Queues.{is_view}
use Rattle.columns.specs.declared.entries.Column.{Column}
use Rattle.columns.specs.Entries.{indexed, entry_count}
use Rattle.columns.specs.Looks.{Sight, Found, field_at, longest, all_null, node_fits, parts_from, data_count, buffers_read, length_at, Child, children_at, children_of, Look, look_of, look_with, look}

pub nth_within : {A : Type 0} (xs : List A) (k : ℕ) (x : A) → slice_get xs k ≡ Some x → k < length xs
nth_within [] k x e = absurd (none_some x e)
nth_within (y ∷ ys) zero x e = omega arith
nth_within (y ∷ ys) (suc k) x e = let h = nth_within ys k x e in omega arith

-- a node in bounds has its length
fits_length : (kind : Kind) (n : Node) → node_fits kind n ≡ true → between 0 longest n.length ≡ Some (natural n.length)
fits_length kind n e = by n.nulls n.length (all_null kind n) e where
  by : (m l : ℤ) (b : Bool) → (le_z (pos 0) m && (le_z m l && (le_z l (pos longest) && b))) ≡ true → between 0 longest l ≡ Some (natural l)
  by (pos m) (pos l) b e =
      let a = and_parts (le_z (pos 0) (pos m)) (le_z (pos m) (pos l) && (le_z (pos l) (pos longest) && b)) e in
      let c = and_parts (le_z (pos m) (pos l)) (le_z (pos l) (pos longest) && b) a.1 in
      let d = and_parts (leb l longest) b c.1 in
      let o : leb 0 l ≡ true = le-leb 0 l (omega arith) in
      ap (λ t. cond (t && leb l longest) (Some l) None) o ∙ ap (λ t. cond t (Some l) None) d.0
  by (pos m) (negsuc l) b e =
      let a = and_parts (le_z (pos 0) (pos m)) false e in
      let z : ◌≡◌ {A = ℕ} 0 1 = let f : false ≡ true = a.1 in cc in
      absurd (omega arith)
  by (negsuc m) l b e = let z : ◌≡◌ {A = ℕ} 0 1 = let f : false ≡ true = e in cc in absurd (omega arith)

-- each child is as long as its entry says
abbrev pub Sized : Sight → List Child → Type 0
Sized s [] = Unit {0}
Sized s (c ∷ cs) = (length_at s c.entry ≡ Some c.long) × Sized s cs

children_sized : (s : Sight) (kids : Fields) (e : ℕ) (cs : List Child) → children_at s e kids ≡ Some cs → Sized s cs
children_sized s none e cs h = let p : cs ≡ [] = sym (some_same [] cs h) in by cs p where
  by : (cs : List Child) → cs ≡ [] → Sized s cs
  by [] p = tt
  by (c ∷ cs) p = let z : ◌≡◌ {A = ℕ} 0 1 = cc in absurd (omega arith)
children_sized s (field r kids next) e cs h =
    let l = then_is (length_at s e) _ cs h in
    let m = mapped_is _ (children_at s (e + entry_count (field r kids none)) next) cs l.2 in
    by cs l.0 m.0 m.2 l.1 (children_sized s next (e + entry_count (field r kids none)) m.0 m.1) where
      by : (cs : List Child) (l : ℕ) (ds : List Child) → cs ≡ record { tag = r.tag; entry = e; long = l } ∷ ds → length_at s e ≡ Some l → Sized s ds → Sized s cs
      by [] l ds p q k = let z : ◌≡◌ {A = ℕ} 0 1 = cc in absurd (omega arith)
      by (c ∷ cs) l ds p q k =
          let c-is : c ≡ record { tag = r.tag; entry = e; long = l } = cc in
          let d-is : ds ≡ cs = cc in
          (ap (λ x. length_at s x.entry) c-is ∙ q ∙ ap (λ x. Some x.long) (sym c-is), rw d-is at k)

-- an entry that leads to a column: it is there, it is as long as its node says, and so are its children
pub record Known (s : Sight) (e : ℕ) (l : Look) : Type 0 where
  pub within : e < length s.columns
  pub long : length_at s e ≡ Some l.long
  pub sized : Sized s l.children

module _ (s : Sight) (e : ℕ) where
  of_children : (b : Bool) (kids : Fields) (cs : List Child) → elim b as (λ _. Option (List Child)) [ true ↦ Some [] | false ↦ children_at s (e + 1) kids ] ≡ Some cs → Sized s cs
  of_children true kids cs h = children_sized s none 0 cs h
  of_children false kids cs h = children_sized s kids (e + 1) cs h

  with_look : (b : Bool) (c : Column) (f : Found) (kind : Kind) (n : Node) (l : Look) → slice_get s.columns e ≡ Some c → slice_get s.nodes c.node ≡ Some n → node_fits kind n ≡ b → look_with s e c f kind n ≡ Some l → Known s e l
  with_look b c f kind n l is at fits h = by b fits (ap (λ t. elim t as (λ _. Option Look) [ true ↦ and_then (data_count (is_view kind) s.counts c.count) (λ d. and_then (parts_from s.body s.buffers c.buffer (buffers_read d kind)) (λ ps. option_map (look_of f kind n ps) (children_of s e f))) | false ↦ None ]) (sym fits) ∙ h) where
    by : (b : Bool) → node_fits kind n ≡ b → elim b as (λ _. Option Look) [ true ↦ and_then (data_count (is_view kind) s.counts c.count) (λ d. and_then (parts_from s.body s.buffers c.buffer (buffers_read d kind)) (λ ps. option_map (look_of f kind n ps) (children_of s e f))) | false ↦ None ] ≡ Some l → Known s e l
    by false fits h = absurd (none_some l h)
    by true fits h =
        let d = then_is (data_count (is_view kind) s.counts c.count) _ l h in
        let ps = then_is (parts_from s.body s.buffers c.buffer (buffers_read d.0 kind)) _ l d.2 in
        let cs = mapped_is (look_of f kind n ps.0) (children_of s e f) l ps.2 in
        record {
          within = nth_within s.columns e c is;
          long =
              ap (λ o. and_then o (λ c. and_then (slice_get s.nodes c.node) (λ n. between 0 longest n.length))) is
              ∙ ap (λ o. and_then o (λ n. between 0 longest n.length)) at
              ∙ fits_length kind n fits
              ∙ ap (λ x. Some x.long) (sym cs.2);
          sized = rw cs.2 (of_children (indexed f.row) f.kids cs.0 cs.1);
        }

  pub known : (l : Look) → look s e ≡ Some l → Known s e l
  unfolding look
  known l h =
      let c = then_is (slice_get s.columns e) _ l h in
      let f = then_is (field_at s.fields c.0.row) _ l c.2 in
      let k = then_is (kind_of f.0.row) _ l f.2 in
      let n = then_is (slice_get s.nodes c.0.node) _ l k.2 in
      with_look (node_fits k.0 n.0) c.0 f.0 k.0 n.0 l c.1 n.1 refl n.2
