-- Where a column stands in a batch of all columns and in a batch of chosen ones, and that its cells are answered alike.
use Rattle.std.proofs.Common.{◌≡◌, ℕ, zero, suc, ◌+◌, ◌<◌, true, eqb, leb, List, [], ◌∷◌, map, length, ℤ, Some, None, Ok, Err, Result, sym, refl, ap, ◌∙◌, arith}
use Rattle.std.proofs.lemmas.Bool.{and_parts, and_from, or_left, or_right, eq-eqb, leb-true}
use Rattle.std.specs.List.{slice_get}
use Rattle.little.proofs.Maybe.{some_same, none_some}
use Rattle.message.specs.declared.faults.Refusal.{Refusal}
use Rattle.schemas.specs.Schemas.{Fields, none, field, size, among}
use Rattle.schemas.specs.Takings.{Taken, after}
use Rattle.columns.specs.declared.entries.Column.{Column}
use Rattle.columns.specs.Entries.{named}
use Rattle.columns.specs.Looks.{Sight, length_at}
use Rattle.columns.specs.Slots.{Cell, absent, bit, part, stored, span, group, link}
use Rattle.columns.specs.Cells.{cell_at}
use Rattle.columns.proofs.Answered.{entries_length}
use Rattle.columns.proofs.Moved.{over, moved_cell}
use Rattle.columns.proofs.Standing.{Stands, Closed}
use Rattle.columns.proofs.Blocks.{moved_answer, length_alone, cell_alone}
use Rattle.columns.proofs.Chosen.{column_entries}
use Rattle.feeds.specs.Messages.{is_long, all_long}
use Rattle.feeds.specs.Chosen.{counted, counted_from, column_size}

pub nth_map : {A B : Type 0} (f : A → B) (xs : List A) (j : ℕ) (x : A) → slice_get xs j ≡ Some x → slice_get (map f xs) j ≡ Some (f x)
nth_map f [] j x e = absurd (none_some x e)
nth_map f (y ∷ xs) zero x e = ap (λ z. Some (f z)) (some_same y x e)
nth_map f (y ∷ xs) (suc j) x e = nth_map f xs j x e

-- a number of a list is among its numbers, and names a column where all do
pub nth_among : (ns : List ℕ) (j c : ℕ) → slice_get ns j ≡ Some c → among c ns ≡ true
nth_among [] j c e = absurd (none_some c e)
nth_among (n ∷ ns) zero c e = or_left (eqb c n) (among c ns) (eq-eqb c n (sym (some_same n c e)))
nth_among (n ∷ ns) (suc j) c e = or_right (eqb c n) (among c ns) (nth_among ns j c e)

pub nth_named : (many : ℕ) (ns : List ℕ) (j c : ℕ) → named many ns ≡ true → slice_get ns j ≡ Some c → c < many
nth_named many [] j c h e = absurd (none_some c e)
nth_named many (n ∷ ns) zero c h e =
    let a = and_parts (leb (n + 1) many) (named many ns) h in
    let le = leb-true (n + 1) many a.0 in
    let same = some_same n c e in
    omega arith
nth_named many (n ∷ ns) (suc j) c h e = nth_named many ns j c (and_parts (leb (n + 1) many) (named many ns) h).1 e

-- each of several columns is as long as the batch
module _ (s : Sight) (n : ℕ) where
  pub long_nth : (es : List ℕ) (j e : ℕ) → all_long s n es ≡ true → slice_get es j ≡ Some e → is_long n (length_at s e) ≡ true
  long_nth [] j e h is = absurd (none_some e is)
  long_nth (x ∷ es) zero e h is = ap (λ y. is_long n (length_at s y)) (sym (some_same x e is)) ∙ (and_parts (is_long n (length_at s x)) (all_long s n es) h).0
  long_nth (x ∷ es) (suc j) e h is = long_nth es j e (and_parts (is_long n (length_at s x)) (all_long s n es) h).1 is

  pub long_all : (f : ℕ → ℕ) (ns : List ℕ) → ((j c : ℕ) → slice_get ns j ≡ Some c → is_long n (length_at s (f c)) ≡ true) → all_long s n (map f ns) ≡ true
  long_all f [] each = refl
  long_all f (c ∷ ns) each = and_from (is_long n (length_at s (f c))) (all_long s n (map f ns)) (each 0 c refl) (long_all f ns (λ j d e. each (suc j) d e))

-- entries that were moved, counted from where they were moved to
counted_moved : (p : ℕ) (c : Cell) → counted p (moved_cell p c) ≡ c
counted_moved p absent = refl
counted_moved p (bit b) = refl
counted_moved p (part x) = refl
counted_moved p (stored x k) = refl
counted_moved p (span e start n) = ap (λ e. span e start n) (omega arith)
counted_moved p (group None i) = refl
counted_moved p (group (Some e) i) = ap (λ e. group (Some e) i) (omega arith)
counted_moved p (link e i) = ap (λ e. link e i) (omega arith)

counted_answer : (p : ℕ) (r : Result Cell Refusal) → counted_from p (moved_answer p r) ≡ r
counted_answer p (Ok c) = ap Ok (counted_moved p c)
counted_answer p (Err r) = refl

-- the entries of a column in two column tables
module _ (s : Sight) (cs block : List Column) (p p' : ℕ) (stands : Stands s.columns p block) (stands' : Stands cs p' block) (closed : Closed s.fields block) where
  pub cells_alike : (x i : ℕ) → x < length block → counted_from p' (cell_at (over s cs) (p' + x) i) ≡ counted_from p (cell_at s (p + x) i)
  cells_alike x i lt =
      ap (counted_from p') (cell_alone (over s cs) p' block stands' closed x lt i)
      ∙ counted_answer p' (cell_at (over s block) x i)
      ∙ sym (ap (counted_from p) (cell_alone s p block stands closed x lt i) ∙ counted_answer p (cell_at (over s block) x i))

  pub lengths_alike : 0 < length block → length_at (over s cs) p' ≡ length_at s p
  lengths_alike lt =
      let at : p + 0 ≡ p = omega arith in
      let at' : p' ≡ p' + 0 = omega arith in
      ap (length_at (over s cs)) at' ∙ length_alone (over s cs) p' block stands' closed 0 lt ∙ sym (length_alone s p block stands closed 0 lt) ∙ ap (length_at s) at

pub column_size_lem : (version : ℤ) (counts : List ℤ) (fs : Fields) (k : ℕ) (t : Taken) (m : ℕ) → length (column_entries version counts k fs t m) ≡ column_size fs m
column_size_lem version counts none k t m = refl
column_size_lem version counts (field r kids next) k t zero = entries_length version counts (field r kids none) k t
column_size_lem version counts (field r kids next) k t (suc m) = column_size_lem version counts next (k + 1 + size kids) (after version counts (field r kids none) t) m
