-- Where nothing is refused, the rules of every entry were looked at, and hold.
use Rattle.std.proofs.Common.{◌≡◌, ℕ, ◌+◌, ◌<◌, ◌≤◌, Bool, true, false, cond, ℤ, Some, None, Option, refl, ap, ◌∙◌, inl, inr, arith}
use Rattle.std.proofs.lemmas.Bool.{cases_lt, cases_eq}
use Rattle.schemas.specs.Schemas.{Fields, none, field, size}
use Rattle.schemas.specs.Takings.{Taken, takes_of, kind_of, after}
use Rattle.columns.specs.Entries.{indexed, entry_count, shown_count}
use Rattle.columns.specs.Looks.{Sight}
use Rattle.columns.specs.Reads.{Broken, or_else, unless_fault, row_fault, rule_fault, fields_fault, columns_fault}

-- neither of two refusals
pub neither : (o : Option Broken) (later : Unit {0} → Option Broken) → or_else o later ≡ None → (o ≡ None) × (later tt ≡ None)
neither None later e = (refl, e)
neither (Some b) later e = let z : ◌≡◌ {A = ℕ} 0 1 = cc in absurd (omega arith)

module _ (s : Sight) (version : ℤ) where
  -- the rules of an entry hold, for its row
  abbrev pub Kept : ℕ → Type 0
  Kept e = (k : ℕ) × (rule_fault s true k e ≡ None)

  abbrev pub Visits : ℕ → ℕ → Type 0
  Visits e n = (x : ℕ) → e ≤ x → x < e + n → Kept x

  kids_visit : (b : Bool) (later : Unit {0} → Option Broken) (e n : ℕ) → unless_fault b later ≡ None → (later tt ≡ None → Visits e n) → Visits e (cond b 0 n)
  kids_visit true later e n none_of ih x lo hi = absurd (omega arith)
  kids_visit false later e n none_of ih x lo hi = ih none_of x lo hi

  pub visits : (fs : Fields) (k e : ℕ) (t : Taken) → fields_fault s version true k e fs t ≡ None → Visits e (entry_count fs)
  visits none k e t h x lo hi = absurd (omega arith)
  visits (field r kids next) k e t h x lo hi =
      let own = neither (row_fault s version true k (kind_of r) t) _ h in
      let below = neither (unless_fault (indexed r) (λ _. fields_fault s version true (k + 1) (e + 1) kids (takes_of version s.counts (kind_of r) t))) _ own.1 in
      let rule = neither (rule_fault s true k e) _ below.1 in
      let inner : Visits (e + 1) (cond (indexed r) 0 (entry_count kids)) = kids_visit (indexed r) _ (e + 1) (entry_count kids) below.0 (visits kids (k + 1) (e + 1) (takes_of version s.counts (kind_of r) t)) in
      let later : Visits (e + entry_count (field r kids none)) (entry_count next) = visits next (k + 1 + size kids) (e + entry_count (field r kids none)) (after version s.counts (field r kids none) t) rule.1 in
      elim (cases_eq x e) [
        | inl is ↦ (k, ap (rule_fault s true k) is ∙ rule.0)
        | inr other ↦ elim (cases_lt x (e + entry_count (field r kids none))) [
          | inl lt ↦ inner x (omega arith) (omega arith)
          | inr ge ↦ later x ge (omega arith)
        ]
      ]

  column_visits : (b : Bool) (fs : Fields) (k e : ℕ) (t : Taken) → fields_fault s version b k e fs t ≡ None → Visits e (cond b (entry_count fs) 0)
  column_visits true fs k e t h x lo hi = visits fs k e t h x lo hi
  column_visits false fs k e t h x lo hi = absurd (omega arith)

  pub columns_visit : (shown : ℕ → Bool) (fs : Fields) (c k e : ℕ) (t : Taken) → columns_fault s version shown c k e fs t ≡ None → Visits e (shown_count shown c fs)
  columns_visit shown none c k e t h x lo hi = absurd (omega arith)
  columns_visit shown (field r kids next) c k e t h x lo hi =
      let one = neither (fields_fault s version (shown c) k e (field r kids none) t) _ h in
      let own = column_visits (shown c) (field r kids none) k e t one.0 in
      let later = columns_visit shown next (c + 1) (k + 1 + size kids) (e + cond (shown c) (entry_count (field r kids none)) 0) (after version s.counts (field r kids none) t) one.1 in
      elim (cases_lt x (e + cond (shown c) (entry_count (field r kids none)) 0)) [
        | inl lt ↦ own x lo lt
        | inr ge ↦ later x ge (omega arith)
      ]
