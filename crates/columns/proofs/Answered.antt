-- Every cell in range of columns that are not refused answers, and points in range.
use Rattle.std.proofs.Common.{◌≡◌, ℕ, zero, suc, ◌+◌, ◌<◌, ◌≤◌, Bool, true, false, cond, ◌&&◌, List, [], ◌∷◌, length, ℤ, is_some as option_is_some, Some, None, Ok, Err, Option, Result, sym, refl, ap, ◌∙◌, subst, inl, inr, arith, length-append}
use Rattle.std.proofs.lemmas.Bool.{and_parts, cases_eq, lt-ltb}
use Rattle.message.specs.declared.faults.Refusal.{Refusal}
use Rattle.message.specs.declared.faults.Refusal.TheVariants.{OutOfRange, Changed}
use Rattle.little.proofs.Maybe.{some_same, none_some}
use Rattle.schemas.specs.Schemas.{Fields, none, field, size}
use Rattle.schemas.specs.Takings.{Taken, takes_of, kind_of, after}
use Rattle.columns.specs.declared.entries.Column.{Column}
use Rattle.columns.specs.Entries.{indexed, unless_indexed, entries, entry_count, pick, shown_entries, shown_count}
use Rattle.columns.specs.Looks.{Sight, Look, length_at, look}
use Rattle.columns.specs.Slots.{Cell, absent, slot, is_absent}
use Rattle.columns.specs.Rules.{sound, whole_kept, nulls_kept, validity_reaches, reaches, children_kept, values_kept, first_broken, broken_at}
use Rattle.columns.specs.Cells.{cell_by, cell_in, cell_below, cell_at, InRange, Points, Answers}
use Rattle.columns.specs.Reads.{rule_at, rule_by, rule_fault}
use Rattle.columns.specs.Fits.{Keeps}
use Rattle.columns.proofs.Looked.{known}
use Rattle.columns.proofs.Pointed.{fine}

is_some : {A : Type 0} (o : Option A) → option_is_some o ≡ true → (x : A) × (o ≡ Some x)
is_some None e = let z : ◌≡◌ {A = ℕ} 0 1 = cc in absurd (omega arith)
is_some (Some x) e = (x, refl)

-- no index breaks a rule
none_broken : (kept : ℕ → Bool) (n i : ℕ) → first_broken kept i n ≡ None → (x : ℕ) → i ≤ x → x < i + n → kept x ≡ true
none_broken kept zero i h x lo hi = absurd (omega arith)
none_broken kept (suc n) i h x lo hi = by (kept i) refl h (λ d lower. none_broken kept n (i + 1) d x lower (omega arith)) where
  by : (b : Bool) → kept i ≡ b → elim b as (λ _. Option ℕ) [ true ↦ first_broken kept (i + 1) n | false ↦ Some i ] ≡ None → (first_broken kept (i + 1) n ≡ None → i + 1 ≤ x → kept x ≡ true) → kept x ≡ true
  by true is h later = elim (cases_eq x i) [
    | inl e ↦ ap kept e ∙ is
    | inr e ↦ later h (omega arith)
  ]
  by false is h later = absurd (none_some i (sym h))

not_broken : (s : Sight) (l : Look) → broken_at s l ≡ None → Keeps s l
not_broken s l h = by (whole_kept s l) refl h where
  by : (b : Bool) → whole_kept s l ≡ b → elim b as (λ _. Option ℕ) [ true ↦ first_broken (λ i. option_is_some (slot s l i)) 0 l.long | false ↦ Some l.long ] ≡ None → Keeps s l
  by true is h = record { whole = is; slots = λ i lt. none_broken (λ i. option_is_some (slot s l i)) l.long 0 h i (omega arith) (omega arith) }
  by false is h = absurd (none_some l.long (sym h))

no_rule : (k : ℕ) (o : Option ℕ) → rule_at k o ≡ None → o ≡ None
no_rule k None h = refl
no_rule k (Some i) h = absurd (none_some _ (sym h))

pub rule_held : (s : Sight) (k e : ℕ) → rule_fault s true k e ≡ None → (l : Look) × (look s e ≡ Some l) × Keeps s l
rule_held s k e h = by (look s e) refl h where
  by : (o : Option Look) → look s e ≡ o → rule_by s k o ≡ None → (l : Look) × (look s e ≡ Some l) × Keeps s l
  by None is h = absurd (none_some _ (sym h))
  by (Some l) is h = (l, is, not_broken s l (no_rule k (broken_at s l) h))

-- an answer where a test holds
abbrev pub when_in : Bool → Result Cell Refusal → Refusal → Result Cell Refusal
when_in b r f = elim b [ true ↦ r | false ↦ Err f ]

module _ (s : Sight) (e i : ℕ) (l : Look) (is : look s e ≡ Some l) (held : Keeps s l) (range : InRange s e i) where
  lt : i < l.long
  lt =
      let k = known s e l is in
      let d = some_same range.long l.long (sym range.entry ∙ k.long) in
      omega (arith, d, range.index)

  is_sound : sound s l ≡ true
  is_sound = (and_parts (sound s l) (nulls_kept l) held.whole).0

  children_kept_lem : children_kept l l.kind ≡ true
  children_kept_lem =
      let a = and_parts (validity_reaches l) (reaches l && (children_kept l l.kind && values_kept s l)) is_sound in
      let b = and_parts (reaches l) (children_kept l l.kind && values_kept s l) a.1 in
      (and_parts (children_kept l l.kind) (values_kept s l) b.1).0

  abbrev given : Bool → Cell → Cell
  given true c = absent
  given false c = c

  by_absent : (b : Bool) (c : Cell) → cell_by b (Some c) ≡ Ok (given b c)
  by_absent true c = refl
  by_absent false c = refl

  cell_is : (c : Cell) → slot s l i ≡ Some c → cell_at s e i ≡ Ok (given (is_absent l i) c)
  unfolding cell_at
  cell_is c h =
      let k = known s e l is in
      ap (λ b. when_in b (cell_below s e i (length_at s e)) OutOfRange) (lt-ltb e (length s.columns) k.within)
      ∙ ap (cell_below s e i) k.long
      ∙ ap (λ b. when_in b (cell_in s i (look s e)) OutOfRange) (lt-ltb i l.long lt)
      ∙ ap (cell_in s i) is
      ∙ ap (λ b. when_in b (cell_by (is_absent l i) (slot s l i)) Changed) is_sound
      ∙ ap (cell_by (is_absent l i)) h
      ∙ by_absent (is_absent l i) c

  given_fine : (b : Bool) (c : Cell) → slot s l i ≡ Some c → (e' i' : ℕ) → Points l.children (given b c) e' i' → InRange s e' i'
  unfolding slot
  given_fine true c h e' i' p = absurd p
  given_fine false c h e' i' p = fine s l i l.kind c lt children_kept_lem (known s e l is).sized h e' i' p

  pub answers : Answers s e i
  answers =
      let c = is_some (slot s l i) (held.slots i lt) in
      record {
        cell = given (is_absent l i) c.0;
        answer = cell_is c.0 c.1;
        points = λ l' is' e' i' p.
            let d = some_same l' l (sym is' ∙ is) in
            given_fine (is_absent l i) c.0 c.1 e' i' (subst (λ x. Points x.children (given (is_absent l i) c.0) e' i') d p);
      }

-- an entry in range is there
pub entry_there : (s : Sight) (e i : ℕ) → InRange s e i → e < length s.columns
entry_there s e i range = by s.columns e range.entry where
  by : (cs : List Column) (e : ℕ) → length_at (record { fields = s.fields; nodes = s.nodes; buffers = s.buffers; counts = s.counts; columns = cs; body = s.body; held = s.held }) e ≡ Some range.long → e < length cs
  by [] e h = absurd (none_some range.long h)
  by (c ∷ cs) zero h = omega arith
  by (c ∷ cs) (suc e) h = let k = by cs e h in omega arith

-- as many entries as there are rows that have one
module _ (version : ℤ) (counts : List ℤ) where
  pub unless_length : (b : Bool) (xs : List Column) (n : ℕ) → length xs ≡ n → length (unless_indexed b xs) ≡ cond b 0 n
  unless_length true xs n e = refl
  unless_length false xs n e = e

  pub entries_length : (fs : Fields) (k : ℕ) (t : Taken) → length (entries version counts k fs t) ≡ entry_count fs
  entries_length none k t = refl
  entries_length (field r kids next) k t =
      let below = unless_indexed (indexed r) (entries version counts (k + 1) kids (takes_of version counts (kind_of r) t)) in
      let later = entries version counts (k + 1 + size kids) next (after version counts (field r kids none) t) in
      let a = unless_length (indexed r) _ (entry_count kids) (entries_length kids (k + 1) (takes_of version counts (kind_of r) t)) in
      let b = entries_length next (k + 1 + size kids) (after version counts (field r kids none) t) in
      let l = length-append below later in
      omega (arith, a, b, l)

  pub pick_length : (b : Bool) (xs : List Column) (n : ℕ) → length xs ≡ n → length (pick b xs) ≡ cond b n 0
  pick_length true xs n e = e
  pick_length false xs n e = refl

  pub shown_length : (shown : ℕ → Bool) (fs : Fields) (c k : ℕ) (t : Taken) → length (shown_entries version counts shown c k fs t) ≡ shown_count shown c fs
  shown_length shown none c k t = refl
  shown_length shown (field r kids next) c k t =
      let own = pick (shown c) (entries version counts k (field r kids none) t) in
      let later = shown_entries version counts shown (c + 1) (k + 1 + size kids) next (after version counts (field r kids none) t) in
      let a = pick_length (shown c) _ (entry_count (field r kids none)) (entries_length (field r kids none) k t) in
      let b = shown_length shown next (c + 1) (k + 1 + size kids) (after version counts (field r kids none) t) in
      length-append own later ∙ ap (λ n. n + length later) a ∙ ap (λ n. cond (shown c) (entry_count (field r kids none)) 0 + n) b

-- cells of an entry whose rules hold
pub entry_answers : (s : Sight) (k e i : ℕ) → rule_fault s true k e ≡ None → InRange s e i → Answers s e i
entry_answers s k e i h range =
    let r = rule_held s k e h in
    answers s e i r.0 r.1 r.2 range
