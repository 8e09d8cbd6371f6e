-- Batches that a message shows are sound.
use Rattle.std.proofs.Common.{◌≡◌, ℕ, ◌<◌, Bool, true, false, not, ◌||◌, List, length, ℤ, Some, None, Option, unwrap_or, refl, subst, arith}
use Rattle.message.specs.declared.faults.Refusal.TheVariants.{Marks, ListLength, Room, Rows}
use Rattle.message.specs.declared.rows.Row.{Row}
use Rattle.message.specs.Messages.{Columns, Contents, nothing, schema, dictionary, batch, other, Message}
use Rattle.dictionaries.specs.Areas.{Area, held_in, fits}
use Rattle.schemas.specs.Schemas.{Fields, admits}
use Rattle.schemas.specs.Takings.{nothing_yet}
use Rattle.columns.specs.Entries.{shows as shows_column}
use Rattle.columns.specs.Looks.{Sight, unsigned}
use Rattle.columns.specs.Rules.{Numbered, value_row_of}
use Rattle.columns.specs.Cells.{InRange, Answers}
use Rattle.columns.specs.Reads.{Broken, plainly, or_else, unless_kept, rule_fault, columns_fault}
use Rattle.columns.proofs.Visited.{neither, columns_visit}
use Rattle.columns.proofs.Answered.{entry_there, shown_length, entry_answers}
use Rattle.feeds.specs.Messages.{Terms, Kept, Batch, Outcome, refuses, keeps, shows, lists_fit, fields_of, columns_read, batch_sight, batch_fault, batch_by, batch_of, value_sight, values_fault, updated, values_from, stored_by, values_by, act_values, act_schema, act_on, act}

-- the rules of every entry hold
abbrev pub Sound : Sight → Type 0
Sound s = (e : ℕ) → e < length s.columns → (k : ℕ) × (rule_fault s true k e ≡ None)

module _ (t : Terms) (k : Kept) where
  -- what is kept fits the store; a batch is sound, and is looked at through the dictionaries kept
  abbrev pub Good : Outcome → Type 0
  Good (refuses x) = Unit {0}
  Good (keeps k') = fits t.store k.areas ≡ true → fits t.store k'.areas ≡ true
  Good (shows k' b) = (k' ≡ k) × Sound b.sight × (b.sight.held ≡ held_in k'.areas)

  either : (x : Bool) (o p : Outcome) → (x ≡ true → Good o) → Good p → Good (elim x as (λ _. Outcome) [ true ↦ o | false ↦ p ])
  either true o p f g = f refl
  either false o p f g = g

  batch_sound : (fs : Fields) (version : ℤ) (c : Columns) (body : List ℕ) → batch_fault t fs version (batch_sight t k fs version c body) c ≡ None → Sound (batch_sight t k fs version c body)
  unfolding batch_fault
  batch_sound fs version c body h e lt =
      let s = batch_sight t k fs version c body in
      let reading = λ (_ : Unit {0}). columns_fault s version (shows_column t.choice) 0 0 0 fs nothing_yet in
      let read = neither (columns_read t c reading) _ h in
      let marks = neither (unless_kept (not (c.compressed || c.missing)) (plainly Marks)) (λ _. or_else (unless_kept (lists_fit t c) (plainly ListLength)) reading) read.0 in
      let lists = neither (unless_kept (lists_fit t c) (plainly ListLength)) reading marks.1 in
      let l = shown_length version c.counts (shows_column t.choice) fs 0 0 nothing_yet in
      columns_visit s version (shows_column t.choice) fs 0 0 0 nothing_yet lists.1 e (omega arith) (omega (arith, l, lt))

  batch_good : (fs : Fields) (version : ℤ) (c : Columns) (body : List ℕ) (o : Option Broken) → batch_fault t fs version (batch_sight t k fs version c body) c ≡ o → Good (batch_by k (batch_of t k fs version c body) o)
  batch_good fs version c body None is = (refl, batch_sound fs version c body is, refl)
  batch_good fs version c body (Some x) is = tt

  stored_good : (o : Option (List Area)) → Good (stored_by t k o)
  stored_good None = tt
  stored_good (Some areas) = either (fits t.store areas) (keeps (record { schema = k.schema; areas = areas })) (refuses (plainly Room)) (λ e _. e) tt

  values_good : (id : ℤ) (delta : Bool) (s : Sight) (n : ℕ) (o : Option Broken) → Good (values_by t k id delta s n o)
  values_good id delta s n None = stored_good (updated id delta (values_from s 0 n) k.areas)
  values_good id delta s n (Some x) = tt

  row_good : (fs : Fields) (version id : ℤ) (delta : Bool) (c : Columns) (body : List ℕ) (o : Option Numbered) → Good (act_values t k fs version id delta c body o)
  row_good fs version id delta c body None = tt
  row_good fs version id delta c body (Some v) = values_good id delta (value_sight k fs v version c body) (unwrap_or (unsigned c.long) 0) (values_fault t v version (value_sight k fs v version c body) c)

  schema_good : (rows : List Row) (o : Option Fields) → Good (act_schema k rows o)
  schema_good rows None = either (admits rows) (keeps (record { schema = Some (fields_of rows); areas = k.areas })) (refuses (plainly Rows)) (λ _ was. was) tt
  schema_good rows (Some fs) = tt

  on_good : (version : ℤ) (body : List ℕ) (o : Option Fields) (x : Contents) → Good (act_on t k version body o x)
  on_good version body o nothing = λ was. was
  on_good version body o (schema rows) = schema_good rows o
  on_good version body None (dictionary id delta c) = tt
  on_good version body (Some fs) (dictionary id delta c) = row_good fs version id delta c body (value_row_of id 0 fs)
  on_good version body None (batch c) = tt
  on_good version body (Some fs) (batch c) = batch_good fs version c body (batch_fault t fs version (batch_sight t k fs version c body) c) refl
  on_good version body o (other n) = tt

  pub act_good : (m : Message) (body : List ℕ) → Good (act t k m body)
  unfolding act
  act_good m body = on_good m.version body k.schema m.contents

-- every cell in range of a sound batch answers
pub sound_answers : (s : Sight) → Sound s → (e i : ℕ) → InRange s e i → Answers s e i
sound_answers s sound e i range =
    let k = sound e (entry_there s e i range) in
    entry_answers s k.0 e i k.1 range

pub batches_answer : (t : Terms) (k k' : Kept) (m : Message) (body : List ℕ) (b : Batch) → act t k m body ≡ shows k' b → (e i : ℕ) → InRange b.sight e i → Answers b.sight e i
batches_answer t k k' m body b h e i range =
    let good : Good t k (shows k' b) = subst (Good t k) h (act_good t k m body) in
    sound_answers b.sight good.1 e i range
