-- Columns are read without a refusal exactly when they fit.
use Rattle.std.proofs.Common.{◌≡◌, ℕ, zero, suc, ◌+◌, ◌<◌, ◌≤◌, Bool, true, false, not, ◌||◌, leb, length, get_or, ℤ, pos, is_some, Some, None, Option, sym, refl, ap, ◌∙◌, add-zero, arith}
use Rattle.std.proofs.lemmas.Bool.{leb-true, le-leb}
use Rattle.std.specs.List.{slice_get}
use Rattle.little.proofs.Maybe.{none_some}
use Rattle.message.specs.declared.faults.Refusal.TheVariants.{NodeRange, ViewCount, BufferRange}
use Rattle.message.specs.declared.items.Buffer.{Buffer}
use Rattle.message.specs.declared.items.Node.{Node}
use Rattle.schemas.specs.declared.kinds.Kind.{Kind}
use Rattle.schemas.specs.Schemas.{Fields, none, field, size}
use Rattle.schemas.specs.Takings.{Taken, buffers_of, natural, takes_of, kind_of, after}
use Rattle.schemas.specs.Queues.{is_view}
use Rattle.columns.specs.Entries.{indexed, entry_count}
use Rattle.columns.specs.Looks.{Sight, node_fits, inside, data_count}
use Rattle.columns.specs.Slots.{slot}
use Rattle.columns.specs.Rules.{first_broken}
use Rattle.columns.specs.Reads.{Broken, in_row, or_else, unless_kept, node_by, node_fault, buffer_by, buffers_fault, count_by, count_fault, own_buffers, takes_fault, row_fault, rule_at, rule_by, rule_fault, unless_fault, fields_fault}
use Rattle.columns.specs.Fits.{TakesBy, KeepsAt, UnlessIndexed, Fits, Exactly}
use Rattle.columns.proofs.Visited.{neither}
use Rattle.columns.proofs.Answered.{rule_held}

-- both of two refusals are none
both : (o : Option Broken) (later : Unit {0} → Option Broken) → o ≡ None → later tt ≡ None → or_else o later ≡ None
both o later e h = ap (λ x. or_else x later) e ∙ h

kept_true : (b : Bool) (x : Broken) → unless_kept b x ≡ None → b ≡ true
kept_true true x e = refl
kept_true false x e = absurd (none_some x (sym e))

-- a test that only a shown row is put to
if_shown : (shown b : Bool) → (not shown || b) ≡ true → shown ≡ true → b ≡ true
if_shown true b e h = e
if_shown false b e h = let z : ◌≡◌ {A = ℕ} 0 1 = cc in absurd (omega arith)

shown_if : (shown b : Bool) → (shown ≡ true → b ≡ true) → (not shown || b) ≡ true
shown_if true b h = h refl
shown_if false b h = refl

module _ (s : Sight) (version : ℤ) (shown : Bool) (k : ℕ) where
  abbrev NodeFits : Kind → Taken → Type 0
  NodeFits kind t = (n : Node) × (slice_get s.nodes t.nodes ≡ Some n) × (shown ≡ true → node_fits kind n ≡ true)

  node_fits_lem : (kind : Kind) (t : Taken) → node_fault s shown k kind t ≡ None → NodeFits kind t
  node_fits_lem kind t h = by (slice_get s.nodes t.nodes) refl h where
    by : (o : Option Node) → slice_get s.nodes t.nodes ≡ o → node_by shown k kind o ≡ None → NodeFits kind t
    by None is h = absurd (none_some _ (sym h))
    by (Some n) is h = (n, is, if_shown shown (node_fits kind n) (kept_true (not shown || node_fits kind n) _ h))

  node_read : (kind : Kind) (t : Taken) → NodeFits kind t → node_fault s shown k kind t ≡ None
  node_read kind t f = ap (node_by shown k kind) f.1 ∙ ap (λ b. unless_kept b (in_row k NodeRange)) (shown_if shown (node_fits kind f.0) f.2)

  abbrev BuffersFit : ℕ → ℕ → Type 0
  BuffersFit n many = (j : ℕ) → j < many → (b : Buffer) × (slice_get s.buffers (n + j) ≡ Some b) × (shown ≡ true → inside s.body b ≡ true)

  buffer_fits : (n : ℕ) (o : Option Buffer) → slice_get s.buffers n ≡ o → buffer_by s.body shown k o ≡ None → (b : Buffer) × (slice_get s.buffers n ≡ Some b) × (shown ≡ true → inside s.body b ≡ true)
  buffer_fits n None is h = absurd (none_some _ (sym h))
  buffer_fits n (Some b) is h = (b, is, if_shown shown (inside s.body b) (kept_true (not shown || inside s.body b) _ h))

  buffers_fit : (many n : ℕ) → buffers_fault s shown k n many ≡ None → BuffersFit n many
  buffers_fit zero n h j lt = absurd (omega arith)
  buffers_fit (suc many) n h zero lt =
      let p = neither (buffer_by s.body shown k (slice_get s.buffers n)) (λ _. buffers_fault s shown k (n + 1) many) h in
      let f = buffer_fits n (slice_get s.buffers n) refl p.0 in
      (f.0, ap (slice_get s.buffers) (add-zero n) ∙ f.1, f.2)
  buffers_fit (suc many) n h (suc j) lt =
      let p = neither (buffer_by s.body shown k (slice_get s.buffers n)) (λ _. buffers_fault s shown k (n + 1) many) h in
      let f = buffers_fit many (n + 1) p.1 j (omega arith) in
      let at : n + suc j ≡ n + 1 + j = omega arith in
      (f.0, ap (slice_get s.buffers) at ∙ f.1, f.2)

  buffers_read_lem : (many n : ℕ) → BuffersFit n many → buffers_fault s shown k n many ≡ None
  buffers_read_lem zero n f = refl
  buffers_read_lem (suc many) n f =
      let own = f 0 (omega arith) in
      let at : n ≡ n + 0 = sym (add-zero n) in
      both (buffer_by s.body shown k (slice_get s.buffers n)) (λ _. buffers_fault s shown k (n + 1) many)
      (ap (λ o. buffer_by s.body shown k (slice_get s.buffers o)) at ∙ ap (buffer_by s.body shown k) own.1 ∙ ap (λ b. unless_kept b (in_row k BufferRange)) (shown_if shown (inside s.body own.0) own.2))
      (buffers_read_lem many (n + 1) (λ j lt. let g = f (suc j) (omega arith) in let to : n + 1 + j ≡ n + suc j = omega arith in (g.0, ap (slice_get s.buffers) to ∙ g.1, g.2)))

  abbrev CountFits : Taken → Type 0
  CountFits t = (c : ℕ) × (data_count true s.counts t.counts ≡ Some c) × (t.buffers + (c + 2) ≤ length s.buffers)

  count_fits : (t : Taken) → count_fault s k t ≡ None → CountFits t
  count_fits t h = by (data_count true s.counts t.counts) refl h where
    by : (o : Option ℕ) → data_count true s.counts t.counts ≡ o → count_by k t.buffers (length s.buffers) o ≡ None → CountFits t
    by None is h = absurd (none_some _ (sym h))
    by (Some c) is h = (c, is, leb-true (t.buffers + (c + 2)) (length s.buffers) (kept_true (leb (t.buffers + (c + 2)) (length s.buffers)) _ h))

  count_read : (t : Taken) → CountFits t → count_fault s k t ≡ None
  count_read t f = ap (count_by k t.buffers (length s.buffers)) f.1 ∙ ap (λ b. unless_kept b (in_row k ViewCount)) (le-leb (t.buffers + (f.0 + 2)) (length s.buffers) f.2)

  -- the parts of a row's takings, whichever comes first
  abbrev Parts : Kind → Bool → Taken → Type 0
  Parts kind view t = (view ≡ true → count_fault s k t ≡ None) × (own_buffers s version shown k kind t ≡ None) × (node_fault s shown k kind t ≡ None)

module _ (s : Sight) (version : ℤ) (k : ℕ) where
  parts_of_lem : (shown view : Bool) (kind : Kind) (t : Taken) → takes_fault s version shown k kind view t ≡ None → Parts s version shown k kind view t
  parts_of_lem true true kind t h =
      let c = neither (count_fault s k t) (λ _. or_else (own_buffers s version true k kind t) (λ _. node_fault s true k kind t)) h in
      let b = neither (own_buffers s version true k kind t) (λ _. node_fault s true k kind t) c.1 in
      (λ _. c.0, b.0, b.1)
  parts_of_lem false true kind t h =
      let n = neither (node_fault s false k kind t) (λ _. or_else (count_fault s k t) (λ _. own_buffers s version false k kind t)) h in
      let c = neither (count_fault s k t) (λ _. own_buffers s version false k kind t) n.1 in
      (λ _. c.0, c.1, n.0)
  parts_of_lem true false kind t h =
      let n = neither (node_fault s true k kind t) (λ _. own_buffers s version true k kind t) h in
      (λ e. let z : ◌≡◌ {A = ℕ} 0 1 = cc in absurd (omega arith), n.1, n.0)
  parts_of_lem false false kind t h =
      let n = neither (node_fault s false k kind t) (λ _. own_buffers s version false k kind t) h in
      (λ e. let z : ◌≡◌ {A = ℕ} 0 1 = cc in absurd (omega arith), n.1, n.0)

  of_parts : (shown view : Bool) (kind : Kind) (t : Taken) → Parts s version shown k kind view t → takes_fault s version shown k kind view t ≡ None
  of_parts true true kind t p = both (count_fault s k t) _ (p.0 refl) (both (own_buffers s version true k kind t) _ p.1 p.2)
  of_parts false true kind t p = both (node_fault s false k kind t) _ p.2 (both (count_fault s k t) _ (p.0 refl) p.1)
  of_parts true false kind t p = both (node_fault s true k kind t) _ p.2 p.1
  of_parts false false kind t p = both (node_fault s false k kind t) _ p.2 p.1

  row_fits_lem : (shown : Bool) (o : Option Kind) (t : Taken) → row_fault s version shown k o t ≡ None → TakesBy s version shown o t
  row_fits_lem shown None t h = tt
  row_fits_lem shown (Some kind) t h =
      let p = parts_of_lem shown (is_view kind) kind t h in
      let n = node_fits_lem s version shown k kind t p.2 in
      record {
        node = n.0;
        there = n.1;
        fits = n.2;
        count = λ view. count_fits s version shown k t (p.0 view);
        buffers = buffers_fit s version shown k (buffers_of version (natural (get_or s.counts t.counts (pos 0))) kind) t.buffers p.1;
      }

  row_read : (shown : Bool) (o : Option Kind) (t : Taken) → TakesBy s version shown o t → row_fault s version shown k o t ≡ None
  row_read shown None t f = refl
  row_read shown (Some kind) t f = of_parts shown (is_view kind) kind t (
    λ view. count_read s version shown k t (f.count view),
    buffers_read_lem s version shown k (buffers_of version (natural (get_or s.counts t.counts (pos 0))) kind) t.buffers f.buffers,
    node_read s version shown k kind t (f.node, f.there, f.fits),
  )

-- the rules of an entry
none_breaks : (kept : ℕ → Bool) (n i : ℕ) → ((x : ℕ) → i ≤ x → x < i + n → kept x ≡ true) → first_broken kept i n ≡ None
none_breaks kept zero i h = refl
none_breaks kept (suc n) i h = ap (λ b. elim b as (λ _. Option ℕ) [ true ↦ first_broken kept (i + 1) n | false ↦ Some i ]) (h i (omega arith) (omega arith)) ∙ none_breaks kept n (i + 1) (λ x lo hi. h x (omega arith) (omega arith))

rule_fits : (s : Sight) (shown : Bool) (k e : ℕ) → rule_fault s shown k e ≡ None → KeepsAt s shown e
rule_fits s true k e h = rule_held s k e h
rule_fits s false k e h = tt

rule_read : (s : Sight) (shown : Bool) (k e : ℕ) → KeepsAt s shown e → rule_fault s shown k e ≡ None
rule_read s true k e f =
    let l = f.0 in
    ap (rule_by s k) f.1
    ∙ ap (λ b. rule_at k (elim b as (λ _. Option ℕ) [ true ↦ first_broken (λ i. is_some (slot s l i)) 0 l.long | false ↦ Some l.long ])) f.2.whole
    ∙ ap (rule_at k) (none_breaks (λ i. is_some (slot s l i)) l.long 0 (λ x lo hi. f.2.slots x (omega arith)))
rule_read s false k e f = refl

unless_fits : (b : Bool) (later : Unit {0} → Option Broken) (P : Type 0) → (later tt ≡ None → P) → unless_fault b later ≡ None → UnlessIndexed b P
unless_fits true later P h e = tt
unless_fits false later P h e = h e

unless_read : (b : Bool) (later : Unit {0} → Option Broken) (P : Type 0) → (P → later tt ≡ None) → UnlessIndexed b P → unless_fault b later ≡ None
unless_read true later P h f = refl
unless_read false later P h f = h f

module _ (s : Sight) (version : ℤ) (shown : Bool) where
  pub fits : (fs : Fields) (k e : ℕ) (t : Taken) → fields_fault s version shown k e fs t ≡ None → Fits s version shown k e fs t
  fits none k e t h = tt
  fits (field r kids next) k e t h =
      let kids-fault = λ (_ : Unit {0}). fields_fault s version shown (k + 1) (e + 1) kids (takes_of version s.counts (kind_of r) t) in
      let own = neither (row_fault s version shown k (kind_of r) t) _ h in
      let below = neither (unless_fault (indexed r) kids-fault) _ own.1 in
      let rule = neither (rule_fault s shown k e) _ below.1 in (
        row_fits_lem s version k shown (kind_of r) t own.0,
        unless_fits (indexed r) kids-fault _ (fits kids (k + 1) (e + 1) (takes_of version s.counts (kind_of r) t)) below.0,
        rule_fits s shown k e rule.0,
        fits next (k + 1 + size kids) (e + entry_count (field r kids none)) (after version s.counts (field r kids none) t) rule.1,
      )

  pub reads : (fs : Fields) (k e : ℕ) (t : Taken) → Fits s version shown k e fs t → fields_fault s version shown k e fs t ≡ None
  reads none k e t f = refl
  reads (field r kids next) k e t f =
      let kids-fault = λ (_ : Unit {0}). fields_fault s version shown (k + 1) (e + 1) kids (takes_of version s.counts (kind_of r) t) in
      both (row_fault s version shown k (kind_of r) t) _ (row_read s version k shown (kind_of r) t f.0)
      (both (unless_fault (indexed r) kids-fault) _ (unless_read (indexed r) kids-fault _ (reads kids (k + 1) (e + 1) (takes_of version s.counts (kind_of r) t)) f.1)
      (both (rule_fault s shown k e) _ (rule_read s shown k e f.2)
      (reads next (k + 1 + size kids) (e + entry_count (field r kids none)) (after version s.counts (field r kids none) t) f.3)))

pub exactly : (s : Sight) (version : ℤ) (shown : Bool) (k e : ℕ) (fs : Fields) (t : Taken) → Exactly s version shown k e fs t
exactly s version shown k e fs t = record { fits = fits s version shown fs k e t; read = reads s version shown fs k e t }
