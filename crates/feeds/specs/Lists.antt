-- Dictionaries as lists of values: what the areas that a feed keeps stand for.
use Rattle.std.specs.Prelude.{◌≡◌, ℕ, ◌<◌, Bool, true, false, List, ℤ, Some}
use Rattle.std.specs.Option.{unwrap_or}
use Rattle.message.specs.Messages.{Columns, Contents, nothing, schema, dictionary, batch, other, Message}
use Rattle.dictionaries.specs.Values.{Value, Dictionary, replaced, grown}
use Rattle.dictionaries.specs.Areas.{areas_of, fits, EachShort}
use Rattle.schemas.specs.Schemas.{Fields}
use Rattle.columns.specs.Looks.{unsigned}
use Rattle.columns.specs.Rules.{Numbered, value_row_of}
use Rattle.feeds.specs.Messages.{Terms, Kept, Outcome, refuses, keeps, shows, value_sight, values_from, act}
use Rattle.feeds.specs.Streams.{Meaning, feed}

-- the values of a dictionary batch: what the slots of its one column hold, read by its value row
abbrev pub values_in : Kept → Fields → Numbered → Message → Columns → List ℕ → List Value
values_in k fs v m c body = values_from (value_sight k fs v m.version c body) 0 (unwrap_or (unsigned c.long) 0)

-- a whole batch replaces the list of its id, a delta appends to it
abbrev pub ListBy : ℤ → Bool → List Value → List Dictionary → List Dictionary → Type 0
ListBy i true vs ds ds' = grown i vs ds ≡ Some ds'
ListBy i false vs ds ds' = ds' ≡ replaced i vs ds

pub record Updates (k : Kept) (m : Message) (i : ℤ) (delta : Bool) (c : Columns) (body : List ℕ) (ds ds' : List Dictionary) : Type 0 where
  pub fields : Fields
  pub value : Numbered
  pub schema : k.schema ≡ Some fields
  pub row : value_row_of i 0 fields ≡ Some value
  pub lists : ListBy i delta (values_in k fields value m c body) ds ds'

-- how the lists change with a message that is kept
abbrev pub ListsBy : Kept → Message → List ℕ → List Dictionary → List Dictionary → Contents → Type 0
ListsBy k m body ds ds' nothing = ds' ≡ ds
ListsBy k m body ds ds' (schema rows) = ds' ≡ ds
ListsBy k m body ds ds' (dictionary i delta c) = Updates k m i delta c body ds ds'
ListsBy k m body ds ds' (batch c) = ⊥
ListsBy k m body ds ds' (other n) = ⊥

-- areas that stand for lists go on standing for lists
abbrev pub ListsAfter : Kept → Message → List ℕ → List Dictionary → Outcome → Type 0
ListsAfter k m body ds (refuses x) = Unit {0}
ListsAfter k m body ds (keeps k') = (ds' : List Dictionary) × (k'.areas ≡ areas_of ds') × ListsBy k m body ds ds' m.contents
ListsAfter k m body ds (shows k' b) = k'.areas ≡ areas_of ds

abbrev pub MessagesKeepLists : Type 0
MessagesKeepLists = (t : Terms) (k : Kept) (m : Message) (body : List ℕ) (ds : List Dictionary) → k.areas ≡ areas_of ds → ListsAfter k m body ds (act t k m body)

-- what is kept stands for lists, and fits the store; so its values are short enough to be told from absent ones
pub record KeptWell (t : Terms) (k : Kept) : Type 0 where
  pub lists : List Dictionary
  pub stand : k.areas ≡ areas_of lists
  pub room : fits t.store k.areas ≡ true
  pub short : t.store < 4294967295 → EachShort lists

-- whatever a stream brings
abbrev pub StreamsKeepLists : Type 0
StreamsKeepLists = (t : Terms) (m : Meaning) (bytes : List ℕ) → KeptWell t (feed t m bytes).kept
