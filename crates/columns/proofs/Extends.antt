-- What stands behind the lists and the body of a batch does not count.
use Rattle.std.proofs.Common.{◌≡◌, ℕ, zero, suc, ◌+◌, ◌<◌, ◌≤◌, Bool, true, false, ◌&&◌, ltb, leb, List, [], ◌∷◌, ◌++◌, length, take, drop, ℤ, pos, negsuc, ◌+ℤ◌, Some, None, Err, Option, Result, sym, refl, ap, ◌∙◌, inl, inr, arith, length-append, length-drop}
use lib.Signed.{le_z}
use lib.Seq.{take-append-le, drop-append-le}
use Rattle.std.proofs.lemmas.Bool.{and_parts, leb-true, le-leb, le-ltb, cases_lt}
use Rattle.std.specs.Option.{option_map}
use Rattle.std.specs.List.{slice_get}
use Rattle.little.specs.Maybe.{and_then}
use Rattle.little.proofs.Maybe.{mapped_is, then_is, none_some}
use Rattle.message.specs.declared.faults.Refusal.{Refusal}
use Rattle.message.specs.declared.faults.Refusal.TheVariants.{OutOfRange}
use Rattle.message.specs.declared.items.Buffer.{Buffer}
use Rattle.message.specs.declared.items.Node.{Node}
use Rattle.types.specs.Choices.{between}
use Rattle.schemas.specs.declared.kinds.Kind.{Kind}
use Rattle.schemas.specs.Schemas.{Fields, none, field}
use Rattle.schemas.specs.Takings.{natural, kind_of}
use Rattle.schemas.specs.Queues.{is_view}
use Rattle.columns.specs.declared.entries.Column.{Column}
use Rattle.columns.specs.Entries.{indexed, entry_count}
use Rattle.columns.specs.Looks.{Sight, Part, Found, field_at, longest, node_fits, inside, part_of, parts_from, unsigned, data_count, buffers_read, length_at, Child, children_at, children_of, Look, look_of, look_with, look}
use Rattle.columns.specs.Slots.{Cell, slot}
use Rattle.columns.specs.Cells.{cell_in, cell_below, cell_at}
use Rattle.columns.specs.Reads.{rule_fault}
use Rattle.columns.specs.Extended.{extended}
use Rattle.columns.proofs.Looked.{known}
use Rattle.columns.proofs.Answered.{rule_held}

nth_front : {A : Type 0} (xs ys : List A) (k : ℕ) (x : A) → slice_get xs k ≡ Some x → slice_get (xs ++ ys) k ≡ Some x
nth_front [] ys k x e = absurd (none_some x e)
nth_front (y ∷ xs) ys zero x e = e
nth_front (y ∷ xs) ys (suc k) x e = nth_front xs ys k x e

-- bytes inside the body
bytes_front : (xs ys : List ℕ) (from n : ℕ) → from + n ≤ length xs → take n (drop from (xs ++ ys)) ≡ take n (drop from xs)
bytes_front xs ys from n h =
    let l = length-drop from xs in
    ap (take n) (drop-append-le from xs ys (omega arith)) ∙ take-append-le n (drop from xs) ys (omega (arith, l))

-- a buffer inside the body, by its numbers
inside_at : (body : List ℕ) (o n : ℤ) → (le_z (pos 0) o && (le_z (pos 0) n && le_z (o +ℤ n) (pos (length body)))) ≡ true → natural o + natural n ≤ length body
inside_at body (pos a) (pos b) e =
    let p = and_parts (leb 0 a) (leb 0 b && leb (a + b) (length body)) e in
    let q = and_parts (leb 0 b) (leb (a + b) (length body)) p.1 in
    leb-true (a + b) (length body) q.1
inside_at body (pos a) (negsuc b) e =
    let p = and_parts (leb 0 a) false e in
    let z : ◌≡◌ {A = ℕ} 0 1 = let f : false ≡ true = p.1 in cc in
    absurd (omega arith)
inside_at body (negsuc a) n e = let z : ◌≡◌ {A = ℕ} 0 1 = let f : false ≡ true = e in cc in absurd (omega arith)

inside_longer : (body more : List ℕ) (o n : ℤ) → (le_z (pos 0) o && (le_z (pos 0) n && le_z (o +ℤ n) (pos (length body)))) ≡ true → (le_z (pos 0) o && (le_z (pos 0) n && le_z (o +ℤ n) (pos (length (body ++ more))))) ≡ true
inside_longer body more (pos a) (pos b) e =
    let p = and_parts (leb 0 a) (leb 0 b && leb (a + b) (length body)) e in
    let q = and_parts (leb 0 b) (leb (a + b) (length body)) p.1 in
    let h = leb-true (a + b) (length body) q.1 in
    let l = length-append body more in
    ap (λ t. t && (leb 0 b && leb (a + b) (length (body ++ more)))) p.0
    ∙ ap (λ t. t && leb (a + b) (length (body ++ more))) q.0
    ∙ le-leb (a + b) (length (body ++ more)) (omega (arith, h, l))
inside_longer body more (pos a) (negsuc b) e =
    let p = and_parts (leb 0 a) false e in
    let z : ◌≡◌ {A = ℕ} 0 1 = let f : false ≡ true = p.1 in cc in
    absurd (omega arith)
inside_longer body more (negsuc a) n e = let z : ◌≡◌ {A = ℕ} 0 1 = let f : false ≡ true = e in cc in absurd (omega arith)

part_front : (body more : List ℕ) (b : Buffer) → inside body b ≡ true → part_of (body ++ more) b ≡ part_of body b
part_front body more b e = ap (λ bs. record { place = natural b.offset; bytes = bs }) (bytes_front body more (natural b.offset) (natural b.length) (inside_at body b.offset b.length e))

abbrev one_part : Bool → Part → Option (List Part) → Option (List Part)
one_part t p o = elim t [ true ↦ option_map (λ ps. p ∷ ps) o | false ↦ None ]

part_step : (body more : List ℕ) (b : Buffer) (t : Bool) (o o' : Option (List Part)) (ps : List Part) → inside body b ≡ t → ((qs : List Part) → o ≡ Some qs → o' ≡ Some qs) → one_part t (part_of body b) o ≡ Some ps → one_part (inside (body ++ more) b) (part_of (body ++ more) b) o' ≡ Some ps
part_step body more b false o o' ps is h e = absurd (none_some ps e)
part_step body more b true o o' ps is h e =
    let q = mapped_is (λ qs. part_of body b ∷ qs) o ps e in
    ap (λ t. one_part t (part_of (body ++ more) b) o') (inside_longer body more b.offset b.length is)
    ∙ ap (λ p. option_map (λ qs. p ∷ qs) o') (part_front body more b is)
    ∙ ap (option_map (λ qs. part_of body b ∷ qs)) (h q.0 q.1)
    ∙ ap Some (sym q.2)

parts_front : (body more : List ℕ) (bs bs' : List Buffer) (c n : ℕ) (ps : List Part) → parts_from body bs n c ≡ Some ps → parts_from (body ++ more) (bs ++ bs') n c ≡ Some ps
parts_front body more bs bs' zero n ps e = e
parts_front body more bs bs' (suc c) n ps e =
    let b = then_is (slice_get bs n) _ ps e in
    ap (λ o. and_then o (λ b. one_part (inside (body ++ more) b) (part_of (body ++ more) b) (parts_from (body ++ more) (bs ++ bs') (n + 1) c))) (nth_front bs bs' n b.0 b.1)
    ∙ part_step body more b.0 (inside body b.0) (parts_from body bs (n + 1) c) (parts_from (body ++ more) (bs ++ bs') (n + 1) c) ps refl (λ qs. parts_front body more bs bs' c (n + 1) qs) b.2

count_front : (view : Bool) (cs cs' : List ℤ) (k d : ℕ) → data_count view cs k ≡ Some d → data_count view (cs ++ cs') k ≡ Some d
count_front true cs cs' k d e =
    let c = then_is (slice_get cs k) unsigned d e in
    ap (λ o. and_then o unsigned) (nth_front cs cs' k c.0 c.1) ∙ c.2
count_front false cs cs' k d e = e

module _ (s : Sight) (ns : List Node) (bs : List Buffer) (cs : List ℤ) (more : List ℕ) where
  abbrev longer : Sight
  longer = extended s ns bs cs more

  length_front : (e l : ℕ) → length_at s e ≡ Some l → length_at longer e ≡ Some l
  length_front e l h =
      let c = then_is (slice_get s.columns e) _ l h in
      let n = then_is (slice_get s.nodes c.0.node) _ l c.2 in
      ap (λ o. and_then o (λ c. and_then (slice_get (s.nodes ++ ns) c.node) (λ n. between 0 longest n.length))) c.1
      ∙ ap (λ o. and_then o (λ n. between 0 longest n.length)) (nth_front s.nodes ns c.0.node n.0 n.1)
      ∙ n.2

  children_front : (kids : Fields) (e : ℕ) (ks : List Child) → children_at s e kids ≡ Some ks → children_at longer e kids ≡ Some ks
  children_front none e ks h = h
  children_front (field r kids next) e ks h =
      let l = then_is (length_at s e) _ ks h in
      let k = mapped_is (λ ks. record { tag = r.tag; entry = e; long = l.0 } ∷ ks) (children_at s (e + entry_count (field r kids none)) next) ks l.2 in
      ap (λ o. and_then o (λ l. option_map (λ ks. record { tag = r.tag; entry = e; long = l } ∷ ks) (children_at longer (e + entry_count (field r kids none)) next))) (length_front e l.0 l.1)
      ∙ ap (option_map (λ ks. record { tag = r.tag; entry = e; long = l.0 } ∷ ks)) (children_front next (e + entry_count (field r kids none)) k.0 k.1)
      ∙ ap Some (sym k.2)

  of_front : (t : Bool) (kids : Fields) (e : ℕ) (ks : List Child) → elim t as (λ _. Option (List Child)) [ true ↦ Some [] | false ↦ children_at s e kids ] ≡ Some ks → elim t as (λ _. Option (List Child)) [ true ↦ Some [] | false ↦ children_at longer e kids ] ≡ Some ks
  of_front true kids e ks h = h
  of_front false kids e ks h = children_front kids e ks h

  abbrev if_fits : Bool → Option Look → Option Look
  if_fits t o = elim t [ true ↦ o | false ↦ None ]

  fits_front : (t : Bool) (o o' : Option Look) (l : Look) → (o ≡ Some l → o' ≡ Some l) → if_fits t o ≡ Some l → if_fits t o' ≡ Some l
  fits_front true o o' l h e = h e
  fits_front false o o' l h e = e

  with_front : (e : ℕ) (c : Column) (f : Found) (kind : Kind) (n : Node) (l : Look) → look_with s e c f kind n ≡ Some l → look_with longer e c f kind n ≡ Some l
  with_front e c f kind n l h = fits_front (node_fits kind n) _ _ l (λ g.
      let d = then_is (data_count (is_view kind) s.counts c.count) _ l g in
      let ps = then_is (parts_from s.body s.buffers c.buffer (buffers_read d.0 kind)) _ l d.2 in
      let ks = mapped_is (look_of f kind n ps.0) (children_of s e f) l ps.2 in
      ap (λ o. and_then o (λ d. and_then (parts_from (s.body ++ more) (s.buffers ++ bs) c.buffer (buffers_read d kind)) (λ ps. option_map (look_of f kind n ps) (children_of longer e f)))) (count_front (is_view kind) s.counts cs c.count d.0 d.1)
      ∙ ap (λ o. and_then o (λ ps. option_map (look_of f kind n ps) (children_of longer e f))) (parts_front s.body more s.buffers bs (buffers_read d.0 kind) c.buffer ps.0 ps.1)
      ∙ ap (option_map (look_of f kind n ps.0)) (of_front (indexed f.row) f.kids (e + 1) ks.0 ks.1)
      ∙ ap Some (sym ks.2)) h

  look_front : (e : ℕ) (l : Look) → look s e ≡ Some l → look longer e ≡ Some l
  unfolding look
  look_front e l h =
      let c = then_is (slice_get s.columns e) _ l h in
      let f = then_is (field_at s.fields c.0.row) _ l c.2 in
      let k = then_is (kind_of f.0.row) _ l f.2 in
      let n = then_is (slice_get s.nodes c.0.node) _ l k.2 in
      ap (λ o. and_then o (λ c. and_then (field_at s.fields c.row) (λ f. and_then (kind_of f.row) (λ kind. and_then (slice_get (s.nodes ++ ns) c.node) (λ n. look_with longer e c f kind n))))) c.1
      ∙ ap (λ o. and_then o (λ f. and_then (kind_of f.row) (λ kind. and_then (slice_get (s.nodes ++ ns) c.0.node) (λ n. look_with longer e c.0 f kind n)))) f.1
      ∙ ap (λ o. and_then o (λ kind. and_then (slice_get (s.nodes ++ ns) c.0.node) (λ n. look_with longer e c.0 f.0 kind n))) k.1
      ∙ ap (λ o. and_then o (λ n. look_with longer e c.0 f.0 k.0 n)) (nth_front s.nodes ns c.0.node n.0 n.1)
      ∙ with_front e c.0 f.0 k.0 n.0 l n.2

  -- what a slot holds is looked up in the column alone, and in the dictionaries
  in_front : (i : ℕ) (l : Look) → cell_in longer i (Some l) ≡ cell_in s i (Some l)
  unfolding slot
  in_front i l = refl

  abbrev if_there : Bool → Result Cell Refusal → Result Cell Refusal
  if_there t r = elim t [ true ↦ r | false ↦ Err OutOfRange ]

  -- an entry whose rules hold, and any index
  entry_front : (e i k : ℕ) → rule_fault s true k e ≡ None → cell_below longer e i (length_at longer e) ≡ cell_below s e i (length_at s e)
  entry_front e i k h =
      let r = rule_held s k e h in
      let l = r.0 in
      let there = (known s e l r.1).long in
      ap (cell_below longer e i) (length_front e l.long there)
      ∙ ap (λ o. if_there (ltb i l.long) (cell_in longer i o)) (look_front e l r.1)
      ∙ ap (if_there (ltb i l.long)) (in_front i l)
      ∙ ap (λ o. if_there (ltb i l.long) (cell_in s i o)) (sym r.1)
      ∙ ap (cell_below s e i) (sym there)

  -- cells of a batch whose rules hold are the same through longer memories
  pub cells_front : ((e : ℕ) → e < length s.columns → (k : ℕ) × (rule_fault s true k e ≡ None)) → (e i : ℕ) → cell_at longer e i ≡ cell_at s e i
  unfolding cell_at
  cells_front sound e i = elim (cases_lt e (length s.columns)) [
    | inl lt ↦ let k = sound e lt in ap (if_there (ltb e (length s.columns))) (entry_front e i k.0 k.1)
    | inr ge ↦ ap (λ t. if_there t (cell_below longer e i (length_at longer e))) (le-ltb e (length s.columns) ge) ∙ sym (ap (λ t. if_there t (cell_below s e i (length_at s e))) (le-ltb e (length s.columns) ge))
  ]
