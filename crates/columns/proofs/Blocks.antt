-- Entries that stand somewhere in a column table are read, and their cells are answered, as where they are the whole
-- table, with all entries moved.
use Rattle.std.proofs.Common.{◌≡◌, ℕ, zero, suc, ◌+◌, ◌<◌, ◌≤◌, Bool, true, false, cond, ltb, List, [], ◌∷◌, map, length, ℤ, Some, None, Ok, Err, Option, Result, sym, refl, ap, ◌∙◌, ap₂, arith}
use mathlib.Core.Path.{fun_ext}
use Rattle.std.proofs.lemmas.Bool.{lt-ltb}
use Rattle.std.specs.Option.{option_map}
use Rattle.std.specs.List.{slice_get}
use Rattle.little.specs.Maybe.{and_then}
use Rattle.message.specs.declared.faults.Refusal.{Refusal}
use Rattle.message.specs.declared.faults.Refusal.TheVariants.{OutOfRange, Changed}
use Rattle.message.specs.declared.items.Node.{Node}
use Rattle.types.specs.Choices.{between}
use Rattle.schemas.specs.declared.kinds.Kind.{Kind}
use Rattle.schemas.specs.Schemas.{Fields, none, field, size}
use Rattle.schemas.specs.Takings.{Taken, takes_of, kind_of, after}
use Rattle.schemas.specs.Queues.{is_view}
use Rattle.columns.specs.declared.entries.Column.{Column}
use Rattle.columns.specs.Entries.{indexed, entry_count}
use Rattle.columns.specs.Looks.{Sight, Part, Found, field_at, longest, node_fits, parts_from, data_count, buffers_read, length_at, Child, children_at, children_of, Look, look_of, look_with, look}
use Rattle.columns.specs.Slots.{Cell, is_absent, slot}
use Rattle.columns.specs.Rules.{sound}
use Rattle.columns.specs.Cells.{cell_by, cell_in, cell_below, cell_at}
use Rattle.columns.specs.Reads.{Broken, or_else, unless_fault, buffer_by, buffers_fault, count_fault, node_fault, takes_fault, row_fault, rule_at, rule_by, rule_fault, fields_fault}
use Rattle.columns.proofs.Looked.{nth_within}
use Rattle.columns.proofs.Answered.{when_in}
use Rattle.columns.proofs.Moved.{over, moved_child, moved_look, moved_cell, then_mapped, slot_moves, sound_moves, broken_moves}
use Rattle.columns.proofs.Standing.{Stands, Leads, Closed}

or_else_same : (o o' : Option Broken) (later later' : Unit {0} → Option Broken) → o ≡ o' → later tt ≡ later' tt → or_else o later ≡ or_else o' later'
or_else_same o o' later later' p q = ap₂ or_else p (fun_ext (λ u. q))

kids_same : (b : Bool) (later later' : Unit {0} → Option Broken) (x n most : ℕ) → x + cond b 0 n ≤ most → (x + n ≤ most → later tt ≡ later' tt) → unless_fault b later ≡ unless_fault b later'
kids_same true later later' x n most le same = refl
kids_same false later later' x n most le same = same le

abbrev pub moved_answer : ℕ → Result Cell Refusal → Result Cell Refusal
moved_answer p (Ok c) = Ok (moved_cell p c)
moved_answer p (Err r) = Err r

by_moves : (p : ℕ) (b : Bool) (o : Option Cell) → cell_by b (option_map (moved_cell p) o) ≡ moved_answer p (cell_by b o)
by_moves p b None = refl
by_moves p true (Some c) = refl
by_moves p false (Some c) = refl

when_moves : (p : ℕ) (b : Bool) (r r' : Result Cell Refusal) (f : Refusal) → r ≡ moved_answer p r' → when_in b r f ≡ moved_answer p (when_in b r' f)
when_moves p true r r' f is = is
when_moves p false r r' f is = refl

module _ (s : Sight) (p : ℕ) (block : List Column) (stands : Stands s.columns p block) (closed : Closed s.fields block) where
  abbrev alone : Sight
  alone = over s block

  pub length_alone : (x : ℕ) → x < length block → length_at s (p + x) ≡ length_at alone x
  length_alone x lt = ap (λ o. and_then o (λ c. and_then (slice_get s.nodes c.node) (λ n. between 0 longest n.length))) (stands x lt)

  children_alone : (kids : Fields) (x : ℕ) → x + entry_count kids ≤ length block → children_at s (p + x) kids ≡ option_map (map (moved_child p)) (children_at alone x kids)
  children_alone none x le = refl
  children_alone (field r kids next) x le =
      let e : p + x + entry_count (field r kids none) ≡ p + (x + entry_count (field r kids none)) = omega arith in
      let later = ap (λ e. children_at s e next) e ∙ children_alone next (x + entry_count (field r kids none)) (omega arith) in
      let rest = children_at s (p + x + entry_count (field r kids none)) next in
      let rest' = children_at alone (x + entry_count (field r kids none)) next in
      ap (λ o. and_then o (λ l. option_map (put (p + x) l) rest)) (length_alone x (omega arith))
      ∙ then_mapped (map (moved_child p)) _ (λ l. option_map (put x l) rest') (λ l. ap (option_map (put (p + x) l)) later ∙ by l rest') (length_at alone x) where
        put : ℕ → ℕ → List Child → List Child
        put e l cs = record { tag = r.tag; entry = e; long = l } ∷ cs

        by : (l : ℕ) (o : Option (List Child)) → option_map (put (p + x) l) (option_map (map (moved_child p)) o) ≡ option_map (map (moved_child p)) (option_map (put x l) o)
        by l None = refl
        by l (Some cs) = refl

  children_of_alone : (b : Bool) (kids : Fields) (x : ℕ) → x + 1 + cond b 0 (entry_count kids) ≤ length block
      → elim b as (λ _. Option (List Child)) [ true ↦ Some [] | false ↦ children_at s (p + x + 1) kids ] ≡ option_map (map (moved_child p)) (elim b as (λ _. Option (List Child)) [ true ↦ Some [] | false ↦ children_at alone (x + 1) kids ])
  children_of_alone true kids x le = refl
  children_of_alone false kids x le =
      let e : p + x + 1 ≡ p + (x + 1) = omega arith in
      ap (λ e. children_at s e kids) e ∙ children_alone kids (x + 1) (omega arith)

  module _ (x : ℕ) (lt : x < length block) where
    lead : Leads s.fields block (length block) x
    lead = closed x lt

    column_there : slice_get s.columns (p + x) ≡ Some lead.column
    column_there = stands x lt ∙ lead.entry

    with_alone : (kind : Kind) (n : Node) → look_with s (p + x) lead.column lead.found kind n ≡ option_map (moved_look p) (look_with alone x lead.column lead.found kind n)
    with_alone kind n = by (node_fits kind n) where
      c : Column
      c = lead.column

      f : Found
      f = lead.found

      looked : (ps : List Part) (o : Option (List Child)) → option_map (look_of f kind n ps) (option_map (map (moved_child p)) o) ≡ option_map (moved_look p) (option_map (look_of f kind n ps) o)
      looked ps None = refl
      looked ps (Some cs) = refl

      children : children_of s (p + x) f ≡ option_map (map (moved_child p)) (children_of alone x f)
      children = children_of_alone (indexed f.row) f.kids x lead.within

      by : (b : Bool) → elim b as (λ _. Option Look) [
        | true ↦ and_then (data_count (is_view kind) s.counts c.count) (λ d. and_then (parts_from s.body s.buffers c.buffer (buffers_read d kind)) (λ ps. option_map (look_of f kind n ps) (children_of s (p + x) f)))
        | false ↦ None
      ] ≡ option_map (moved_look p) (elim b as (λ _. Option Look) [
        | true ↦ and_then (data_count (is_view kind) s.counts c.count) (λ d. and_then (parts_from s.body s.buffers c.buffer (buffers_read d kind)) (λ ps. option_map (look_of f kind n ps) (children_of alone x f)))
        | false ↦ None
      ])
      by false = refl
      by true = then_mapped (moved_look p) _ _ (λ d. then_mapped (moved_look p) _ _ (λ ps. ap (option_map (look_of f kind n ps)) children ∙ looked ps (children_of alone x f)) (parts_from s.body s.buffers c.buffer (buffers_read d kind))) (data_count (is_view kind) s.counts c.count)

    abbrev look_from : Sight → ℕ → Column → Found → Option Look
    look_from v e c f = and_then (kind_of f.row) (λ kind. and_then (slice_get s.nodes c.node) (λ n. look_with v e c f kind n))

    look_from_lem : (v : Sight) (e : ℕ) → v.fields ≡ s.fields → v.nodes ≡ s.nodes → slice_get v.columns e ≡ Some lead.column → look v e ≡ look_from v e lead.column lead.found
    unfolding look
    look_from_lem v e same-fields same_nodes there =
        ap (λ o. and_then o (λ c. and_then (field_at v.fields c.row) (λ f. and_then (kind_of f.row) (λ kind. and_then (slice_get v.nodes c.node) (λ n. look_with v e c f kind n))))) there
        ∙ ap (λ o. and_then o (λ f. and_then (kind_of f.row) (λ kind. and_then (slice_get v.nodes lead.column.node) (λ n. look_with v e lead.column f kind n)))) (ap (λ fs. field_at fs lead.column.row) same-fields ∙ lead.row)
        ∙ ap (λ nodes. and_then (kind_of lead.found.row) (λ kind. and_then (slice_get nodes lead.column.node) (λ n. look_with v e lead.column lead.found kind n))) same_nodes

    pub look_alone : look s (p + x) ≡ option_map (moved_look p) (look alone x)
    look_alone =
        look_from_lem s (p + x) refl refl column_there
        ∙ then_mapped (moved_look p) _ _ (λ kind. then_mapped (moved_look p) _ _ (with_alone kind) (slice_get s.nodes lead.column.node)) (kind_of lead.found.row)
        ∙ ap (option_map (moved_look p)) (sym (look_from_lem alone x refl refl lead.entry))

    pub rule_alone : (k : ℕ) → rule_fault s true k (p + x) ≡ rule_fault alone true k x
    rule_alone k = ap (rule_by s k) look_alone ∙ by (look alone x) where
      by : (o : Option Look) → rule_by s k (option_map (moved_look p) o) ≡ rule_by alone k o
      by None = refl
      by (Some l) = ap (rule_at k) (broken_moves p alone s.columns l)

    in_alone : (i : ℕ) (o : Option Look) → cell_in s i (option_map (moved_look p) o) ≡ moved_answer p (cell_in alone i o)
    in_alone i None = refl
    in_alone i (Some l) =
        ap (λ b. when_in b (cell_by (is_absent l i) (slot s (moved_look p l) i)) Changed) (sound_moves p alone s.columns l)
        ∙ when_moves p (sound alone l) _ (cell_by (is_absent l i) (slot alone l i)) Changed (ap (cell_by (is_absent l i)) (slot_moves p alone s.columns l i) ∙ by_moves p (is_absent l i) (slot alone l i))

    below_alone : (i : ℕ) (o : Option ℕ) → cell_below s (p + x) i o ≡ moved_answer p (cell_below alone x i o)
    below_alone i None = refl
    below_alone i (Some long) = when_moves p (ltb i long) (cell_in s i (look s (p + x))) (cell_in alone i (look alone x)) OutOfRange (ap (cell_in s i) look_alone ∙ in_alone i (look alone x))

    pub cell_alone : (i : ℕ) → cell_at s (p + x) i ≡ moved_answer p (cell_at alone x i)
    unfolding cell_at
    cell_alone i =
        ap (λ b. when_in b (cell_below s (p + x) i (length_at s (p + x))) OutOfRange) (lt-ltb (p + x) (length s.columns) (nth_within s.columns (p + x) lead.column column_there))
        ∙ ap (cell_below s (p + x) i) (length_alone x lt)
        ∙ below_alone i (length_at alone x)
        ∙ ap (λ b. moved_answer p (when_in b (cell_below alone x i (length_at alone x)) OutOfRange)) (sym (lt-ltb x (length block) lt))

  buffers_alone : (k n more : ℕ) → buffers_fault s true k n more ≡ buffers_fault alone true k n more
  buffers_alone k n zero = refl
  buffers_alone k n (suc more) = or_else_same (buffer_by s.body true k (slice_get s.buffers n)) _ _ _ refl (buffers_alone k (n + 1) more)

  takes_alone : (version : ℤ) (k : ℕ) (kind : Kind) (view : Bool) (t : Taken) → takes_fault s version true k kind view t ≡ takes_fault alone version true k kind view t
  takes_alone version k kind true t = or_else_same (count_fault s k t) _ _ _ refl (ap (λ o. or_else o (λ _. node_fault s true k kind t)) (buffers_alone k t.buffers _))
  takes_alone version k kind false t = or_else_same (node_fault s true k kind t) _ _ _ refl (buffers_alone k t.buffers _)

  row_alone : (version : ℤ) (k : ℕ) (o : Option Kind) (t : Taken) → row_fault s version true k o t ≡ row_fault alone version true k o t
  row_alone version k None t = refl
  row_alone version k (Some kind) t = takes_alone version k kind (is_view kind) t

  pub fields_alone : (version : ℤ) (fs : Fields) (k x : ℕ) (t : Taken) → x + entry_count fs ≤ length block → fields_fault s version true k (p + x) fs t ≡ fields_fault alone version true k x fs t
  fields_alone version none k x t le = refl
  fields_alone version (field r kids next) k x t le =
      let inner : p + x + 1 ≡ p + (x + 1) = omega arith in
      let outer : p + x + entry_count (field r kids none) ≡ p + (x + entry_count (field r kids none)) = omega arith in
      let own = takes_of version s.counts (kind_of r) t in
      let done = after version s.counts (field r kids none) t in
      let shown = λ (u : Unit {0}). fields_fault s version true (k + 1) (p + x + 1) kids own in
      let shown' = λ (u : Unit {0}). fields_fault alone version true (k + 1) (x + 1) kids own in
      let below = kids_same (indexed r) shown shown' (x + 1) (entry_count kids) (length block) (omega arith) (λ le. ap (λ e. fields_fault s version true (k + 1) e kids own) inner ∙ fields_alone version kids (k + 1) (x + 1) own le) in
      let later = ap (λ e. fields_fault s version true (k + 1 + size kids) e next done) outer ∙ fields_alone version next (k + 1 + size kids) (x + entry_count (field r kids none)) done (omega arith) in
      or_else_same _ _ _ _ (row_alone version k (kind_of r) t) (or_else_same _ _ _ _ below (or_else_same _ _ _ _ (rule_alone x (omega arith) k) later))
