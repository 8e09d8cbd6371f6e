-- Entries that stand in a column table from a place on, and each of which leads to a field whose children's entries
-- stand there too.
use Rattle.std.proofs.Common.{◌≡◌, ℕ, zero, suc, ◌+◌, ◌-◌, ◌<◌, ◌≤◌, Bool, true, false, cond, List, [], ◌∷◌, ◌++◌, length, ℤ, Some, Option, sym, refl, ap, ◌∙◌, subst, inl, inr, arith, length-append}
use Rattle.std.proofs.lemmas.Bool.{cases_lt, lt-ltb, le-ltb}
use Rattle.std.specs.List.{slice_get as nth}
use Rattle.message.specs.declared.rows.Row.{Row}
use Rattle.schemas.specs.Schemas.{Fields, none, field, size}
use Rattle.schemas.specs.Takings.{Taken, takes_of, kind_of, after}
use Rattle.columns.specs.declared.entries.Column.{Column}
use Rattle.columns.specs.Entries.{indexed, unless_indexed, entry_of, entries, entry_count}
use Rattle.columns.specs.Looks.{Found, field_at}
use Rattle.columns.proofs.Answered.{unless_length, entries_length}

nth_front : {A : Type 0} (xs ys : List A) (x : ℕ) → x < length xs → nth (xs ++ ys) x ≡ nth xs x
nth_front [] ys x lt = absurd (omega arith)
nth_front (a ∷ xs) ys zero lt = refl
nth_front (a ∷ xs) ys (suc x) lt = nth_front xs ys x (omega arith)

nth_behind : {A : Type 0} (xs ys : List A) (x : ℕ) → nth (xs ++ ys) (length xs + x) ≡ nth ys x
nth_behind [] ys x = ap (nth ys) (omega arith)
nth_behind (a ∷ xs) ys x =
    let e : suc (length xs) + x ≡ suc (length xs + x) = omega arith in
    ap (nth (a ∷ (xs ++ ys))) e ∙ nth_behind xs ys x

-- entries stand in a column table from a place on
abbrev pub Stands : List Column → ℕ → List Column → Type 0
Stands cs p block = (x : ℕ) → x < length block → nth cs (p + x) ≡ nth block x

pub stands_whole : (cs : List Column) → Stands cs 0 cs
stands_whole cs x lt = ap (nth cs) (omega arith)

module _ (cs : List Column) (p : ℕ) (front behind : List Column) (stands : Stands cs p (front ++ behind)) where
  pub stands_front : Stands cs p front
  stands_front x lt = stands x (let l = length-append front behind in omega arith) ∙ nth_front front behind x lt

  pub stands_behind : (n : ℕ) → length front ≡ n → Stands cs (p + n) behind
  stands_behind n is x lt =
      let e : p + n + x ≡ p + (length front + x) = omega arith in
      ap (nth cs) e ∙ stands (length front + x) (let l = length-append front behind in omega arith) ∙ nth_behind front behind x

-- fields are those of a schema from row k on
abbrev pub Rooted : Fields → ℕ → Fields → Type 0
Rooted whole k fs = (i : ℕ) → i < size fs → field_at whole (k + i) ≡ field_at fs i

pub rooted_whole : (fs : Fields) → Rooted fs 0 fs
rooted_whole fs i lt = ap (field_at fs) (omega arith)

module _ (whole : Fields) (k : ℕ) (r : Row) (kids next : Fields) (rooted : Rooted whole k (field r kids next)) where
  abbrev inner : ℕ → Bool → Option Found
  inner i b = elim b [ true ↦ field_at kids i | false ↦ field_at next (i - size kids) ]

  pub rooted_first : field_at whole k ≡ Some (record { row = r; kids = kids })
  rooted_first = ap (field_at whole) (omega arith) ∙ rooted 0 (omega arith)

  pub rooted_kids : Rooted whole (k + 1) kids
  rooted_kids i lt =
      let e : k + 1 + i ≡ k + suc i = omega arith in
      ap (field_at whole) e ∙ rooted (suc i) (omega arith) ∙ ap (inner i) (lt-ltb i (size kids) lt)

  pub rooted_next : Rooted whole (k + 1 + size kids) next
  rooted_next i lt =
      let e : k + 1 + size kids + i ≡ k + suc (size kids + i) = omega arith in
      let d : size kids + i - size kids ≡ i = omega arith in
      ap (field_at whole) e
      ∙ rooted (suc (size kids + i)) (omega arith)
      ∙ ap (inner (size kids + i)) (le-ltb (size kids + i) (size kids) (omega arith))
      ∙ ap (field_at next) d

-- one field of several side by side
pub rooted_one : (whole : Fields) (k : ℕ) (r : Row) (kids next : Fields) → Rooted whole k (field r kids next) → Rooted whole k (field r kids none)
rooted_one whole k r kids next rooted zero lt = rooted 0 (omega arith)
rooted_one whole k r kids next rooted (suc i) lt =
    let below = lt-ltb i (size kids) (omega arith) in
    rooted (suc i) (omega arith) ∙ ap (λ b. elim b as (λ _. Option Found) [ true ↦ field_at kids i | false ↦ field_at next (i - size kids) ]) below
    ∙ sym (ap (λ b. elim b as (λ _. Option Found) [ true ↦ field_at kids i | false ↦ field_at none (i - size kids) ]) below)

-- entry x of a list leads to a field whose children's entries are among the first n
pub record Leads (whole : Fields) (block : List Column) (n x : ℕ) : Type 0 where
  pub column : Column
  pub entry : nth block x ≡ Some column
  pub found : Found
  pub row : field_at whole column.row ≡ Some found
  pub within : x + 1 + cond (indexed found.row) 0 (entry_count found.kids) ≤ n

-- every entry leads to a field whose children's entries are in the list
abbrev pub Closed : Fields → List Column → Type 0
Closed whole block = (x : ℕ) → x < length block → Leads whole block (length block) x

leads_behind : (whole : Fields) (xs : List Column) (n m : ℕ) (ys : List Column) (x : ℕ) → Leads whole ys n x → length xs + n ≤ m → Leads whole (xs ++ ys) m (length xs + x)
leads_behind whole xs n m ys x l le = record {
  column = l.column;
  entry = nth_behind xs ys x ∙ l.entry;
  found = l.found;
  row = l.row;
  within = let w = l.within in omega arith;
}

leads_front : (whole : Fields) (xs : List Column) (n m : ℕ) (ys : List Column) (x : ℕ) → x < length xs → Leads whole xs n x → n ≤ m → Leads whole (xs ++ ys) m x
leads_front whole xs n m ys x lt l le = record {
  column = l.column;
  entry = nth_front xs ys x lt ∙ l.entry;
  found = l.found;
  row = l.row;
  within = let w = l.within in omega arith;
}

leads_kids : (whole : Fields) (b : Bool) (xs ys : List Column) (n m : ℕ) → length xs ≡ n → ((x : ℕ) → x < n → Leads whole xs n x) → (x : ℕ) → x < cond b 0 n → cond b 0 n ≤ m → Leads whole (unless_indexed b xs ++ ys) m x
leads_kids whole true xs ys n m is ih x lt le = absurd (omega arith)
leads_kids whole false xs ys n m is ih x lt le = leads_front whole xs n m ys x (omega arith) (ih x lt) le

module _ (whole : Fields) (version : ℤ) (counts : List ℤ) where
  leads : (fs : Fields) (k : ℕ) (t : Taken) → Rooted whole k fs → (x : ℕ) → x < entry_count fs → Leads whole (entries version counts k fs t) (entry_count fs) x
  leads none k t rooted x lt = absurd (omega arith)
  leads (field r kids next) k t rooted zero lt = record {
    column = entry_of version k r t;
    entry = refl;
    found = record { row = r; kids = kids };
    row = rooted_first whole k r kids next rooted;
    within = omega arith;
  }
  leads (field r kids next) k t rooted (suc x) lt = up (elim (cases_lt x below) [
    | inl less ↦ leads_kids whole (indexed r) inside later (entry_count kids) (below + entry_count next) (entries_length version counts kids (k + 1) within_taken) (leads kids (k + 1) within_taken (rooted_kids whole k r kids next rooted)) x less (omega arith)
    | inr more ↦ behind more (leads next (k + 1 + size kids) next_taken (rooted_next whole k r kids next rooted))
  ]) where
    below : ℕ
    below = cond (indexed r) 0 (entry_count kids)

    within_taken : Taken
    within_taken = takes_of version counts (kind_of r) t

    next_taken : Taken
    next_taken = after version counts (field r kids none) t

    inside : List Column
    inside = entries version counts (k + 1) kids within_taken

    later : List Column
    later = entries version counts (k + 1 + size kids) next next_taken

    behind : below ≤ x → ((y : ℕ) → y < entry_count next → Leads whole later (entry_count next) y) → Leads whole (unless_indexed (indexed r) inside ++ later) (below + entry_count next) x
    behind more ih =
        let l = unless_length version counts (indexed r) inside (entry_count kids) (entries_length version counts kids (k + 1) within_taken) in
        let y : length (unless_indexed (indexed r) inside) + (x - below) ≡ x = omega arith in
        let lead = leads_behind whole (unless_indexed (indexed r) inside) (entry_count next) (below + entry_count next) later (x - below) (ih (x - below) (omega arith)) (omega arith) in
        subst (Leads whole (unless_indexed (indexed r) inside ++ later) (below + entry_count next)) y lead

    up : Leads whole (unless_indexed (indexed r) inside ++ later) (below + entry_count next) x → Leads whole (entries version counts k (field r kids next) t) (entry_count (field r kids next)) (suc x)
    up l = record {
      column = l.column;
      entry = l.entry;
      found = l.found;
      row = l.row;
      within = let w = l.within in omega arith;
    }

  pub entries_closed : (fs : Fields) (k : ℕ) (t : Taken) → Rooted whole k fs → Closed whole (entries version counts k fs t)
  entries_closed fs k t rooted x lt =
      let n = entries_length version counts fs k t in
      subst (λ n. Leads whole (entries version counts k fs t) n x) (sym n) (leads fs k t rooted x (omega arith))
