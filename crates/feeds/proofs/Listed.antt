-- The areas that a feed keeps stand for lists.
use Rattle.std.proofs.Common.{◌≡◌, ℕ, ◌<◌, Bool, true, false, leb, List, [], ◌∷◌, length, ℤ, Some, None, Option, unwrap_or, sym, refl, ap, ◌∙◌, subst, arith}
use Rattle.std.proofs.lemmas.Bool.{and_parts, leb-true, le-leb}
use Rattle.std.specs.Option.{option_map}
use Rattle.message.specs.declared.faults.Place.{Place}
use Rattle.message.specs.declared.faults.Refusal.TheVariants.{Room, Rows}
use Rattle.message.specs.declared.rows.Row.{Row}
use Rattle.message.specs.Messages.{Columns, Contents, nothing, schema, dictionary, batch, other, Message, Read}
use Rattle.framing.specs.Frames.{Shown, frame, end}
use Rattle.framing.specs.Streams.{Close, stream}
use Rattle.dictionaries.specs.Values.{Value, Dictionary, replaced, grown, used}
use Rattle.dictionaries.specs.Stores.{area}
use Rattle.dictionaries.specs.Areas.{Area, packed, renewed, enlarged, areas_of, fits, EachShort}
use Rattle.dictionaries.proofs.Read.{packed_is, stand_for_lists}
use Rattle.dictionaries.proofs.Shorts.{each_short}
use Rattle.dictionaries.proofs.Stored.{room_is_length}
use Rattle.schemas.specs.Schemas.{Fields, admits}
use Rattle.columns.specs.Looks.{unsigned}
use Rattle.columns.specs.Rules.{Numbered, value_row_of}
use Rattle.columns.specs.Reads.{Broken, plainly}
use Rattle.feeds.specs.Messages.{Terms, Kept, Batch, Outcome, refuses, keeps, shows, fields_of, batch_fault, batch_sight, batch_of, batch_by, value_sight, values_fault, updated, stored_by, values_by, act_values, act_schema, act_on, act}
use Rattle.feeds.specs.Streams.{Meaning, envelope, holds_of, nothing_kept, act_read, Told, tells, messages, feed}
use Rattle.feeds.specs.Lists.{values_in, ListBy, Updates, ListsBy, ListsAfter, KeptWell}
use Rattle.feeds.proofs.Sound.{Good, act_good}

module _ (t : Terms) (k : Kept) (m : Message) (body : List ℕ) (ds : List Dictionary) (are : k.areas ≡ areas_of ds) where
  -- what is kept stands for lists that changed in such a way
  abbrev After : (List Dictionary → Type 0) → Outcome → Type 0
  After P (refuses x) = Unit {0}
  After P (keeps k') = (ds' : List Dictionary) × (k'.areas ≡ areas_of ds') × P ds'
  After P (shows k' b) = k'.areas ≡ areas_of ds

  either : (P : List Dictionary → Type 0) (b : Bool) (o p : Outcome) → After P o → After P p → After P (elim b as (λ _. Outcome) [ true ↦ o | false ↦ p ])
  either P true o p f g = f
  either P false o p f g = g

  kept_lists : (P : List Dictionary → Type 0) (ds' : List Dictionary) → P ds' → After P (stored_by t k (Some (areas_of ds')))
  kept_lists P ds' h = either P (fits t.store (areas_of ds')) (keeps (record { schema = k.schema; areas = areas_of ds' })) (refuses (plainly Room)) (ds', refl, h) tt

  maybe_lists : (P : List Dictionary → Type 0) (o : Option (List Dictionary)) → ((ds' : List Dictionary) → o ≡ Some ds' → P ds') → After P (stored_by t k (option_map areas_of o))
  maybe_lists P None h = tt
  maybe_lists P (Some ds') h = kept_lists P ds' (h ds' refl)

  -- a dictionary batch of these values
  updated_lists : (i : ℤ) (delta : Bool) (vs : List Value) (P : List Dictionary → Type 0) → ((ds' : List Dictionary) → ListBy i delta vs ds ds' → P ds') → After P (stored_by t k (updated i delta vs k.areas))
  updated_lists i true vs P h =
      let e : updated i true vs k.areas ≡ option_map areas_of (grown i vs ds) = ap (enlarged i (length vs) (area vs)) are ∙ (stand_for_lists ds).appends i vs in
      subst (λ o. After P (stored_by t k o)) (sym e) (maybe_lists P (grown i vs ds) h)
  updated_lists i false vs P h =
      let e : updated i false vs k.areas ≡ Some (areas_of (replaced i vs ds)) = ap Some (ap (renewed i (length vs) (area vs)) are ∙ (stand_for_lists ds).replaces i vs) in
      subst (λ o. After P (stored_by t k o)) (sym e) (kept_lists P (replaced i vs ds) (h (replaced i vs ds) refl))

  module _ (i : ℤ) (delta : Bool) (c : Columns) (fs : Fields) (is : k.schema ≡ Some fs) where
    abbrev Such : List Dictionary → Type 0
    Such ds' = Updates k m i delta c body ds ds'

    values_lists : (v : Numbered) → value_row_of i 0 fs ≡ Some v → (o : Option Broken) → After Such (values_by t k i delta (value_sight k fs v m.version c body) (unwrap_or (unsigned c.long) 0) o)
    values_lists v row None = updated_lists i delta (values_in k fs v m c body) Such (λ ds' h. record { fields = fs; value = v; schema = is; row = row; lists = h })
    values_lists v row (Some x) = tt

    row_lists : (o : Option Numbered) → value_row_of i 0 fs ≡ o → After Such (act_values t k fs m.version i delta c body o)
    row_lists None row = tt
    row_lists (Some v) row = values_lists v row (values_fault t v m.version (value_sight k fs v m.version c body) c)

  batch_lists : (P : List Dictionary → Type 0) (b : Batch) (o : Option Broken) → After P (batch_by k b o)
  batch_lists P b None = are
  batch_lists P b (Some x) = tt

  schema_lists : (rows : List Row) (o : Option Fields) → After (λ ds'. ds' ≡ ds) (act_schema k rows o)
  schema_lists rows None = either (λ ds'. ds' ≡ ds) (admits rows) (keeps (record { schema = Some (fields_of rows); areas = k.areas })) (refuses (plainly Rows)) (ds, are, refl) tt
  schema_lists rows (Some fs) = tt

  on_lists : (o : Option Fields) (x : Contents) → k.schema ≡ o → After (λ ds'. ListsBy k m body ds ds' x) (act_on t k m.version body o x)
  on_lists o nothing is = (ds, are, refl)
  on_lists o (schema rows) is = schema_lists rows o
  on_lists None (dictionary i delta c) is = tt
  on_lists (Some fs) (dictionary i delta c) is = row_lists i delta c fs is (value_row_of i 0 fs) refl
  on_lists None (batch c) is = tt
  on_lists (Some fs) (batch c) is = batch_lists (λ _. ⊥) (batch_of t k fs m.version c body) (batch_fault t fs m.version (batch_sight t k fs m.version c body) c)
  on_lists o (other n) is = tt

  as_after : (o : Outcome) → After (λ ds'. ListsBy k m body ds ds' m.contents) o → ListsAfter k m body ds o
  as_after (refuses x) h = tt
  as_after (keeps k') h = h
  as_after (shows k' b) h = h

  pub message_lists : ListsAfter k m body ds (act t k m body)
  unfolding act
  message_lists = as_after (act_on t k m.version body k.schema m.contents) (on_lists k.schema m.contents refl)

-- values that fit a store are short
fits_short : (t : Terms) (areas : List Area) (ds : List Dictionary) → areas ≡ areas_of ds → fits t.store areas ≡ true → t.store < 4294967295 → EachShort ds
fits_short t areas ds are room small =
    let p = and_parts (leb (length areas) 64) (leb (length (packed areas)) t.store) room in
    let q = leb-true (length (packed areas)) t.store p.1 in
    let l : length (packed areas) ≡ used ds = ap (λ x. length (packed x)) are ∙ ap length (packed_is ds) ∙ room_is_length ds in
    each_short ds (omega (arith, q, l, small))

well : (t : Terms) (k : Kept) (ds : List Dictionary) → k.areas ≡ areas_of ds → fits t.store k.areas ≡ true → KeptWell t k
well t k ds are room = record { lists = ds; stand = are; room = room; short = fits_short t k.areas ds are room }

module _ (t : Terms) (m : Meaning) (close : Close) where
  outcome_listed : (k : Kept) (x : Message) (body : List ℕ) (p : Place) (later : Kept → Told) → ((k' : Kept) → KeptWell t k' → KeptWell t (later k').kept) → (w : KeptWell t k) → (o : Outcome) → Good t k o → ListsAfter k x body w.lists o → KeptWell t (tells later k p o).kept
  outcome_listed k x body p later ih w (refuses b) good h = w
  outcome_listed k x body p later ih w (keeps k') good h = ih k' (well t k' h.0 h.1 (good w.room))
  outcome_listed k x body p later ih w (shows k' b) good h = ih k' (well t k' w.lists h (subst (λ y. fits t.store y.areas ≡ true) (sym good.0) w.room))

  read_listed : (k : Kept) (body : List ℕ) (p : Place) (later : Kept → Told) → ((k' : Kept) → KeptWell t k' → KeptWell t (later k').kept) → KeptWell t k → (r : Read) → KeptWell t (tells later k p (act_read t k body r)).kept
  read_listed k body p later ih w None = w
  read_listed k body p later ih w (Some x) = outcome_listed k x body p later ih w (act t k x body) (act_good t k x body) (message_lists t k x body w.lists w.stand)

  messages_listed : (xs : List Shown) (k : Kept) → KeptWell t k → KeptWell t (messages t m close k xs).kept
  messages_listed [] k w = w
  messages_listed (frame f ∷ xs) k w = read_listed k f.body f.place (λ k'. messages t m close k' xs) (messages_listed xs) w (m f.metadata)
  messages_listed (end p ∷ xs) k w = messages_listed xs k w

nothing_well : (t : Terms) → KeptWell t nothing_kept
nothing_well t = well t nothing_kept [] refl (le-leb 0 t.store (omega arith))

pub streams_listed : (t : Terms) (m : Meaning) (bytes : List ℕ) → KeptWell t (feed t m bytes).kept
unfolding feed
streams_listed t m bytes = let s = stream (holds_of t) (envelope m) bytes in messages_listed t m s.close s.shown nothing_kept (nothing_well t)
