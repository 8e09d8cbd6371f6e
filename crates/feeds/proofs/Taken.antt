-- What a feed for all columns takes, a feed for chosen ones takes too.
use Rattle.std.proofs.Common.{◌≡◌, ℕ, ◌<◌, Bool, true, false, not, ◌||◌, eqb, leb, List, length, ℤ, Some, None, Option, unwrap_or, sym, refl, ap, ◌∙◌, subst, arith}
use lib.ListN.{length-map}
use Rattle.std.proofs.lemmas.Bool.{and_parts, and_from}
use Rattle.std.specs.List.{slice_get}
use Rattle.little.proofs.Maybe.{none_some}
use Rattle.message.specs.declared.faults.Refusal.TheVariants.{NoSuchColumn, CountsLeft, BatchLength, Marks, ListLength}
use Rattle.message.specs.declared.rows.Row.{Row}
use Rattle.message.proofs.Listed.{nth_counted}
use Rattle.message.specs.Messages.{Columns, Contents, nothing, schema, dictionary, batch, other}
use Rattle.dictionaries.specs.Areas.{Area, fits}
use Rattle.schemas.specs.Schemas.{Fields, count, admits}
use Rattle.schemas.specs.Takings.{nothing_yet, after}
use Rattle.columns.specs.declared.entries.Column.{Column}
use Rattle.columns.specs.Entries.{Choice, all, these, shows as shows_column, numbers, named, start_of, places_of}
use Rattle.columns.specs.Looks.{Sight, longest, length_at, unsigned}
use Rattle.columns.specs.Rules.{Numbered, value_row_of}
use Rattle.columns.specs.Reads.{Broken, plainly, unless_kept, columns_fault}
use Rattle.columns.proofs.Visited.{neither}
use Rattle.columns.proofs.Standing.{Stands, stands_whole, rooted_whole, Closed}
use Rattle.columns.proofs.Chosen.{none_of, columns_chosen, column_entries, column_closed, column_there, column_stands}
use Rattle.feeds.specs.Messages.{Terms, Kept, Outcome, refuses, keeps, shows, lists_fit, is_long, all_long, length_fits, columns_read, batch_sight, batch_fault, batch_by, batch_of, value_sight, values_fault, values_from, updated, stored_by, values_by, act_values, act_schema, act_on, act}
use Rattle.feeds.specs.Chosen.{choosing, AtPlace, TakenToo, ChosenColumns}
use Rattle.feeds.proofs.Places.{nth_map, nth_among, nth_named, long_nth, long_all, cells_alike, lengths_alike, column_size_lem}

kept_by : (b : Bool) (x : Broken) → unless_kept b x ≡ None → b ≡ true
kept_by true x h = refl
kept_by false x h = absurd (none_some x (sym h))

kept_so : (b : Bool) (x : Broken) → b ≡ true → unless_kept b x ≡ None
kept_so b x is = ap (λ b. unless_kept b x) is

module _ (t : Terms) (ns : List ℕ) (k : Kept) (fs : Fields) (version : ℤ) (c : Columns) (body : List ℕ) where
  abbrev whole : Sight
  whole = batch_sight (choosing all t) k fs version c body

  abbrev part : Sight
  part = batch_sight (choosing (these ns) t) k fs version c body

  abbrev from : ℕ → ℕ
  from n = unwrap_or (start_of (shows_column all) n 0 0 fs) 0

  abbrev to : ℕ → ℕ
  to n = unwrap_or (start_of (shows_column (these ns)) n 0 0 fs) 0

  abbrev block : ℕ → List Column
  block n = column_entries version c.counts 0 fs nothing_yet n

  module _ (named-all : named (count fs) ns ≡ true) (j n : ℕ) (chosen : slice_get ns j ≡ Some n) where
    is_column : n < count fs
    is_column = nth_named (count fs) ns j n named-all chosen

    found_at : slice_get (places_of all fs) n ≡ Some (from n)
    found_at = nth_counted from 0 (count fs) n is_column ∙ ap (λ i. Some (from i)) (omega arith)

    stands_whole_at : Stands whole.columns (from n) (block n)
    stands_whole_at = column_stands version c.counts (shows_column all) whole.columns fs n 0 0 0 nothing_yet n is_column (omega arith) refl (stands_whole whole.columns)

    stands_part_at : Stands part.columns (to n) (block n)
    stands_part_at = column_stands version c.counts (shows_column (these ns)) part.columns fs n 0 0 0 nothing_yet n is_column (omega arith) (nth_among ns j n chosen) (stands_whole part.columns)

    closed_at : Closed fs (block n)
    closed_at = column_closed version c.counts fs fs 0 nothing_yet n (rooted_whole fs)

    same_length : length_at part (to n) ≡ length_at whole (from n)
    same_length = lengths_alike whole part.columns (block n) (from n) (to n) stands_whole_at stands_part_at closed_at (column_there version c.counts fs 0 nothing_yet n is_column)

    at_place : AtPlace (batch_of (choosing all t) k fs version c body) (batch_of (choosing (these ns) t) k fs version c body) j n
    at_place = record {
      from = from n;
      found = found_at;
      to = to n;
      shown = nth_map to ns j n chosen;
      same = record {
        cells = λ x i lt. cells_alike whole part.columns (block n) (from n) (to n) stands_whole_at stands_part_at closed_at x i (let l = column_size_lem version c.counts fs 0 nothing_yet n in omega arith);
      };
    }

  fits_too : named (count fs) ns ≡ true → (o : Option ℕ) → length_fits whole (places_of all fs) o ≡ true → length_fits part (places_of (these ns) fs) o ≡ true
  fits_too named-all None h = h
  fits_too named-all (Some l) h =
      let a = and_parts (leb l longest) (all_long whole l (places_of all fs)) h in
      let each = λ (j n : ℕ) (chosen : slice_get ns j ≡ Some n). ap (is_long l) (same_length named-all j n chosen) ∙ long_nth whole l (places_of all fs) n (from n) a.1 (found_at named-all j n chosen) in
      and_from (leb l longest) (all_long part l (places_of (these ns) fs)) a.0 (long_all part l to ns each)

  not_refused : named (count fs) ns ≡ true → batch_fault (choosing all t) fs version whole c ≡ None → batch_fault (choosing (these ns) t) fs version part c ≡ None
  unfolding batch_fault
  not_refused named-all h =
      let a = neither (columns_read (choosing all t) c (λ _. columns_fault whole version (shows_column all) 0 0 0 fs nothing_yet)) _ h in
      let marks = neither (unless_kept (not (c.compressed || c.missing)) (plainly Marks)) _ a.0 in
      let lists = neither (unless_kept (lists_fit t c) (plainly ListLength)) _ marks.1 in
      let names = neither (unless_kept (named (count fs) (numbers all fs)) (plainly NoSuchColumn)) _ a.1 in
      let left = neither (unless_kept (eqb (after version c.counts fs nothing_yet).counts (length c.counts)) (plainly CountsLeft)) _ names.1 in
      let long = kept_by (length_fits whole (places_of all fs) (unsigned c.long)) (plainly BatchLength) left.1 in
      let columns = columns_chosen whole part.columns version (shows_column (these ns)) fs 0 0 0 0 nothing_yet (rooted_whole fs) (stands_whole whole.columns) (stands_whole part.columns) lists.1 in
      let names' = kept_so (named (count fs) ns) (plainly NoSuchColumn) named-all in
      let long' = kept_so (length_fits part (places_of (these ns) fs) (unsigned c.long)) (plainly BatchLength) (fits_too named-all (unsigned c.long) long) in
      none_of _ _ (none_of _ _ marks.0 (none_of _ _ lists.0 columns)) (none_of _ _ names' (none_of _ _ left.0 long'))

  batch_taken : TakenToo ns (act_on (choosing all t) k version body (Some fs) (batch c)) (act_on (choosing (these ns) t) k version body (Some fs) (batch c))
  batch_taken = by (batch_fault (choosing all t) fs version whole c) refl where
    by : (o : Option Broken) → batch_fault (choosing all t) fs version whole c ≡ o
        → TakenToo ns (batch_by k (batch_of (choosing all t) k fs version c body) o) (batch_by k (batch_of (choosing (these ns) t) k fs version c body) (batch_fault (choosing (these ns) t) fs version part c))
    by (Some x) is = tt
    by None is = λ named-all. (
      batch_of (choosing (these ns) t) k fs version c body,
      ap (batch_by k (batch_of (choosing (these ns) t) k fs version c body)) (not_refused named-all is),
      record { long = refl; many = length-map ns to; places = at_place named-all },
    )

-- an outcome that shows no batch
abbrev Plain : Outcome → Type 0
Plain (refuses x) = Unit {0}
Plain (keeps k) = Unit {0}
Plain (shows k b) = ⊥

plain_taken : (ns : List ℕ) (o : Outcome) → Plain o → TakenToo ns o o
plain_taken ns (refuses x) plain = tt
plain_taken ns (keeps k) plain = refl
plain_taken ns (shows k b) plain = absurd plain

plain_either : (b : Bool) (k : Kept) (x : Broken) → Plain (elim b as (λ _. Outcome) [ true ↦ keeps k | false ↦ refuses x ])
plain_either true k x = tt
plain_either false k x = tt

plain_schema : (k : Kept) (rows : List Row) (o : Option Fields) → Plain (act_schema k rows o)
plain_schema k rows (Some fs) = tt
plain_schema k rows None = plain_either (admits rows) _ _

module _ (t : Terms) (k : Kept) where
  plain_stored : (o : Option (List Area)) → Plain (stored_by t k o)
  plain_stored None = tt
  plain_stored (Some ds) = plain_either (fits t.store ds) _ _

  plain_values : (id : ℤ) (delta : Bool) (s : Sight) (n : ℕ) (o : Option Broken) → Plain (values_by t k id delta s n o)
  plain_values id delta s n None = plain_stored (updated id delta (values_from s 0 n) k.areas)
  plain_values id delta s n (Some x) = tt

-- dictionaries are read without looking at which columns are shown
values_same : (t : Terms) (a b : Choice) (v : Numbered) (version : ℤ) (s : Sight) (c : Columns) → values_fault (choosing a t) v version s c ≡ values_fault (choosing b t) v version s c
unfolding values_fault
values_same t a b v version s c = refl

module _ (t : Terms) (ns : List ℕ) (k : Kept) (version : ℤ) (body : List ℕ) where
  values_taken : (fs : Fields) (id : ℤ) (delta : Bool) (c : Columns) (o : Option Numbered) → TakenToo ns (act_values (choosing all t) k fs version id delta c body o) (act_values (choosing (these ns) t) k fs version id delta c body o)
  values_taken fs id delta c None = tt
  values_taken fs id delta c (Some v) =
      let s = value_sight k fs v version c body in
      let n = unwrap_or (unsigned c.long) 0 in
      let o = values_fault (choosing all t) v version s c in
      let same = plain_taken ns (values_by t k id delta s n o) (plain_values t k id delta s n o) in
      subst (λ o'. TakenToo ns (values_by t k id delta s n o) (values_by t k id delta s n o')) (values_same t all (these ns) v version s c) same

  taken_on : (o : Option Fields) (x : Contents) → TakenToo ns (act_on (choosing all t) k version body o x) (act_on (choosing (these ns) t) k version body o x)
  taken_on o nothing = refl
  taken_on o (schema rows) = plain_taken ns (act_schema k rows o) (plain_schema k rows o)
  taken_on None (dictionary id delta c) = tt
  taken_on (Some fs) (dictionary id delta c) = values_taken fs id delta c (value_row_of id 0 fs)
  taken_on None (batch c) = tt
  taken_on (Some fs) (batch c) = batch_taken t ns k fs version c body
  taken_on o (other n) = tt

pub chosen_columns : ChosenColumns
unfolding act
chosen_columns t ns k m body = taken_on t ns k m.version body k.schema m.contents
