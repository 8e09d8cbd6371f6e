-- Where nothing of all columns is refused, nothing of chosen ones is; and the entries of a column stand at its place.
use Rattle.std.proofs.Common.{◌≡◌, ℕ, zero, suc, ◌+◌, ◌<◌, ◌≤◌, Bool, true, false, cond, eqb, List, [], ◌++◌, length, ℤ, Some, None, Option, unwrap_or, sym, refl, ap, ◌∙◌, subst, arith}
use Rattle.std.proofs.lemmas.Bool.{eq-eqb, ne_eqb}
use Rattle.std.specs.List.{slice_get}
use Rattle.message.specs.declared.items.Buffer.{Buffer}
use Rattle.message.specs.declared.items.Node.{Node}
use Rattle.message.specs.declared.rows.Row.{Row}
use Rattle.schemas.specs.declared.kinds.Kind.{Kind}
use Rattle.schemas.specs.Schemas.{Fields, none, field, size, count}
use Rattle.schemas.specs.Takings.{Taken, takes_of, kind_of, after}
use Rattle.schemas.specs.Queues.{is_view}
use Rattle.columns.specs.declared.entries.Column.{Column}
use Rattle.columns.specs.Entries.{indexed, entries, entry_count, all, shows, pick, shown_entries, start_of}
use Rattle.columns.specs.Looks.{Sight}
use Rattle.columns.specs.Reads.{Broken, or_else, unless_fault, node_by, node_fault, buffer_by, buffers_fault, count_fault, own_buffers, takes_fault, row_fault, rule_fault, fields_fault, columns_fault}
use Rattle.columns.proofs.Visited.{neither}
use Rattle.columns.proofs.Answered.{pick_length, entries_length}
use Rattle.columns.proofs.Moved.{over}
use Rattle.columns.proofs.Standing.{Stands, stands_front, stands_behind, Rooted, rooted_one, rooted_next, Closed, entries_closed}
use Rattle.columns.proofs.Blocks.{fields_alone}

-- nothing is refused where neither part refuses
pub none_of : (o : Option Broken) (later : Unit {0} → Option Broken) → o ≡ None → later tt ≡ None → or_else o later ≡ None
none_of o later first rest = ap (λ x. or_else x later) first ∙ rest

-- a column that is skipped is asked for less than one that is shown
node_skips : (k : ℕ) (kind : Kind) (o : Option Node) → node_by true k kind o ≡ None → node_by false k kind o ≡ None
node_skips k kind None h = h
node_skips k kind (Some n) h = refl

buffer_skips : (body : List ℕ) (k : ℕ) (o : Option Buffer) → buffer_by body true k o ≡ None → buffer_by body false k o ≡ None
buffer_skips body k None h = h
buffer_skips body k (Some b) h = refl

kids_skip : (b : Bool) (shown skipped : Unit {0} → Option Broken) → (shown tt ≡ None → skipped tt ≡ None) → unless_fault b shown ≡ None → unless_fault b skipped ≡ None
kids_skip true shown skipped ih h = refl
kids_skip false shown skipped ih h = ih h

module _ (s : Sight) (cs : List Column) (version : ℤ) where
  buffers_skip : (k n more : ℕ) → buffers_fault s true k n more ≡ None → buffers_fault (over s cs) false k n more ≡ None
  buffers_skip k n zero h = refl
  buffers_skip k n (suc more) h =
      let a = neither (buffer_by s.body true k (slice_get s.buffers n)) _ h in
      none_of _ _ (buffer_skips s.body k (slice_get s.buffers n) a.0) (buffers_skip k (n + 1) more a.1)

  takes_skip : (k : ℕ) (kind : Kind) (view : Bool) (t : Taken) → takes_fault s version true k kind view t ≡ None → takes_fault (over s cs) version false k kind view t ≡ None
  takes_skip k kind true t h =
      let a = neither (count_fault s k t) _ h in
      let b = neither (own_buffers s version true k kind t) _ a.1 in
      none_of _ _ (node_skips k kind (slice_get s.nodes t.nodes) b.1) (none_of _ _ a.0 (buffers_skip k t.buffers _ b.0))
  takes_skip k kind false t h =
      let a = neither (node_fault s true k kind t) _ h in
      none_of _ _ (node_skips k kind (slice_get s.nodes t.nodes) a.0) (buffers_skip k t.buffers _ a.1)

  row_skips : (k : ℕ) (o : Option Kind) (t : Taken) → row_fault s version true k o t ≡ None → row_fault (over s cs) version false k o t ≡ None
  row_skips k None t h = refl
  row_skips k (Some kind) t h = takes_skip k kind (is_view kind) t h

  fields_skip : (fs : Fields) (k e e' : ℕ) (t : Taken) → fields_fault s version true k e fs t ≡ None → fields_fault (over s cs) version false k e' fs t ≡ None
  fields_skip none k e e' t h = refl
  fields_skip (field r kids next) k e e' t h =
      let own = takes_of version s.counts (kind_of r) t in
      let done = after version s.counts (field r kids none) t in
      let row = neither (row_fault s version true k (kind_of r) t) _ h in
      let below = neither (unless_fault (indexed r) (λ _. fields_fault s version true (k + 1) (e + 1) kids own)) _ row.1 in
      let rule = neither (rule_fault s true k e) _ below.1 in
      let shown = λ (u : Unit {0}). fields_fault s version true (k + 1) (e + 1) kids own in
      let skipped = λ (u : Unit {0}). fields_fault (over s cs) version false (k + 1) (e' + 1) kids own in
      let inner = kids_skip (indexed r) shown skipped (fields_skip kids (k + 1) (e + 1) (e' + 1) own) below.0 in
      let later = fields_skip next (k + 1 + size kids) (e + entry_count (field r kids none)) (e' + entry_count (field r kids none)) done rule.1 in
      none_of _ _ (row_skips k (kind_of r) t row.0) (none_of _ _ inner later)

  -- one column, shown or skipped
  column_chosen : (b : Bool) (r : Row) (kids : Fields) (k e e' : ℕ) (t : Taken) (rest rest' : List Column)
      → Rooted s.fields k (field r kids none)
      → Stands s.columns e (entries version s.counts k (field r kids none) t ++ rest)
      → Stands cs e' (pick b (entries version s.counts k (field r kids none) t) ++ rest')
      → fields_fault s version true k e (field r kids none) t ≡ None
      → fields_fault (over s cs) version b k e' (field r kids none) t ≡ None
  column_chosen false r kids k e e' t rest rest' rooted stands stands' h = fields_skip (field r kids none) k e e' t h
  column_chosen true r kids k e e' t rest rest' rooted stands stands' h =
      let block = entries version s.counts k (field r kids none) t in
      let closed = entries_closed s.fields version s.counts (field r kids none) k t rooted in
      let long = entries_length version s.counts (field r kids none) k t in
      let le : 0 + entry_count (field r kids none) ≤ length block = omega arith in
      let at : e + 0 ≡ e = omega arith in
      let at' : e' ≡ e' + 0 = omega arith in
      ap (λ x. fields_fault (over s cs) version true k x (field r kids none) t) at'
      ∙ fields_alone (over s cs) e' block (stands_front cs e' block rest' stands') closed version (field r kids none) k 0 t le
      ∙ sym (fields_alone s e block (stands_front s.columns e block rest stands) closed version (field r kids none) k 0 t le)
      ∙ ap (λ x. fields_fault s version true k x (field r kids none) t) at
      ∙ h

  pub columns_chosen : (shown : ℕ → Bool) (fs : Fields) (c k e e' : ℕ) (t : Taken)
      → Rooted s.fields k fs
      → Stands s.columns e (shown_entries version s.counts (shows all) c k fs t)
      → Stands cs e' (shown_entries version s.counts shown c k fs t)
      → columns_fault s version (shows all) c k e fs t ≡ None
      → columns_fault (over s cs) version shown c k e' fs t ≡ None
  columns_chosen shown none c k e e' t rooted stands stands' h = refl
  columns_chosen shown (field r kids next) c k e e' t rooted stands stands' h =
      let own = entries version s.counts k (field r kids none) t in
      let done = after version s.counts (field r kids none) t in
      let rest = shown_entries version s.counts (shows all) (c + 1) (k + 1 + size kids) next done in
      let rest' = shown_entries version s.counts shown (c + 1) (k + 1 + size kids) next done in
      let n = entry_count (field r kids none) in
      let long = entries_length version s.counts (field r kids none) k t in
      let one = neither (fields_fault s version true k e (field r kids none) t) _ h in
      let behind = stands_behind s.columns e own rest stands n long in
      let behind' = stands_behind cs e' (pick (shown c) own) rest' stands' (cond (shown c) n 0) (pick_length version s.counts (shown c) own n long) in
      let first = column_chosen (shown c) r kids k e e' t rest rest' (rooted_one s.fields k r kids next rooted) stands stands' one.0 in
      let later = columns_chosen shown next (c + 1) (k + 1 + size kids) (e + n) (e' + cond (shown c) n 0) done (rooted_next s.fields k r kids next rooted) behind behind' one.1 in
      none_of _ _ first later

module _ (version : ℤ) (counts : List ℤ) where
  -- the entries of column m, where the first field is row k
  abbrev pub column_entries : ℕ → Fields → Taken → ℕ → List Column
  column_entries k none t m = []
  column_entries k (field r kids next) t zero = entries version counts k (field r kids none) t
  column_entries k (field r kids next) t (suc m) = column_entries (k + 1 + size kids) next (after version counts (field r kids none) t) m

  pub column_closed : (whole fs : Fields) (k : ℕ) (t : Taken) (m : ℕ) → Rooted whole k fs → Closed whole (column_entries k fs t m)
  column_closed whole none k t m rooted = λ x lt. absurd (omega arith)
  column_closed whole (field r kids next) k t zero rooted = entries_closed whole version counts (field r kids none) k t (rooted_one whole k r kids next rooted)
  column_closed whole (field r kids next) k t (suc m) rooted = column_closed whole next (k + 1 + size kids) (after version counts (field r kids none) t) m (rooted_next whole k r kids next rooted)

  -- a column has an entry
  pub column_there : (fs : Fields) (k : ℕ) (t : Taken) (m : ℕ) → m < count fs → 0 < length (column_entries k fs t m)
  column_there none k t m lt = absurd (omega arith)
  column_there (field r kids next) k t zero lt = let n = entries_length version counts (field r kids none) k t in omega arith
  column_there (field r kids next) k t (suc m) lt = column_there next (k + 1 + size kids) (after version counts (field r kids none) t) m (omega arith)

  abbrev place_by : (ℕ → Bool) → ℕ → ℕ → ℕ → Row → Fields → Fields → Bool → ℕ
  place_by shown n c e r kids next b = unwrap_or (elim b as (λ _. Option ℕ) [
    | true ↦ Some e
    | false ↦ start_of shown n (c + 1) (e + cond (shown c) (entry_count (field r kids none)) 0) next
  ]) 0

  -- the entries of a column that is shown stand at its place
  pub column_stands : (shown : ℕ → Bool) (cs : List Column) (fs : Fields) (n c k e : ℕ) (t : Taken) (m : ℕ) → m < count fs → n ≡ c + m → shown n ≡ true
      → Stands cs e (shown_entries version counts shown c k fs t) → Stands cs (unwrap_or (start_of shown n c e fs) 0) (column_entries k fs t m)
  column_stands shown cs none n c k e t m lt at is stands = absurd (omega arith)
  column_stands shown cs (field r kids next) n c k e t zero lt at is stands =
      let own = entries version counts k (field r kids none) t in
      let rest = shown_entries version counts shown (c + 1) (k + 1 + size kids) next (after version counts (field r kids none) t) in
      let same : c ≡ n = omega arith in
      let here : e ≡ place_by shown n c e r kids next (eqb n c) = ap (place_by shown n c e r kids next) (sym (eq-eqb n c (sym same))) in
      subst (λ p. Stands cs p own) here (stands_front cs e own rest (subst (λ b. Stands cs e (pick b own ++ rest)) (ap shown same ∙ is) stands))
  column_stands shown cs (field r kids next) n c k e t (suc m) lt at is stands =
      let own = entries version counts k (field r kids none) t in
      let done = after version counts (field r kids none) t in
      let rest = shown_entries version counts shown (c + 1) (k + 1 + size kids) next done in
      let type_size = entry_count (field r kids none) in
      let long = pick_length version counts (shown c) own type_size (entries_length version counts (field r kids none) k t) in
      let there : place_by shown n c e r kids next false ≡ place_by shown n c e r kids next (eqb n c) = ap (place_by shown n c e r kids next) (sym (ne_eqb n c (λ same. omega arith))) in
      let behind = stands_behind cs e (pick (shown c) own) rest stands (cond (shown c) type_size 0) long in
      let later = column_stands shown cs next n (c + 1) (k + 1 + size kids) (e + cond (shown c) type_size 0) done m (omega arith) (omega arith) is behind in
      subst (λ p. Stands cs p (column_entries (k + 1 + size kids) next done m)) there later
