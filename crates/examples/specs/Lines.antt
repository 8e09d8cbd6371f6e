-- What a stream tells as plain lines: the rows of its schema, its batches with their places and cells, and how it ends.
use Rattle.std.specs.Prelude.{ℕ, zero, suc, ◌+◌, ◌/◌, ◌%◌, min, List, [], ◌∷◌, ◌++◌, length, Some, None, Option, Result}
use Rattle.std.specs.Option.{option_map, unwrap_or}
use Rattle.message.specs.declared.faults.Fault.{Fault}
use Rattle.message.specs.declared.faults.Place.{Place}
use Rattle.message.specs.declared.faults.Refusal.{Refusal}
use Rattle.message.specs.declared.rows.Row.{Row}
use Rattle.message.specs.Faults.{number_of}
use Rattle.schemas.specs.Schemas.{listing}
use Rattle.columns.specs.Looks.{Sight, length_at}
use Rattle.columns.specs.Slots.{Cell}
use Rattle.columns.specs.Cells.{cell_at}
use Rattle.framing.specs.Streams.{Close, well, short, by}
use Rattle.feeds.specs.Messages.{Terms, Batch}
use Rattle.feeds.specs.Streams.{Told, Meaning, feed}

-- n bytes from a number, the lowest first
unfoldable pub spelled : ℕ → ℕ → List ℕ
spelled zero number = []
spelled (suc n) number = number % 256 ∷ spelled n (number / 256)

-- slot `index` of entry `entry`, and what is answered for it
pub record Line : Type 0 where
  pub entry : ℕ
  pub index : ℕ
  pub cell : Result Cell Refusal

abbrev pub slot_lines : Sight → ℕ → ℕ → ℕ → List Line
slot_lines s e i zero = []
slot_lines s e i (suc n) = record { entry = e; index = i; cell = cell_at s e i } ∷ slot_lines s e (i + 1) n

-- at most `cells` cells of each of n entries, from entry e on
abbrev pub entry_lines : Sight → ℕ → ℕ → ℕ → List Line
entry_lines s cells e zero = []
entry_lines s cells e (suc n) = slot_lines s e 0 (min cells (unwrap_or (length_at s e) 0)) ++ entry_lines s cells (e + 1) n

pub record Shown : Type 0 where
  pub long : ℕ
  pub places : List ℕ
  pub lines : List Line

abbrev pub shown : ℕ → Batch → Shown
shown cells b = record { long = b.long; places = b.places; lines = entry_lines b.sight cells 0 (length b.sight.columns) }

abbrev pub shown_all : ℕ → List Batch → List Shown
shown_all cells [] = []
shown_all cells (b ∷ bs) = shown cells b ∷ shown_all cells bs

-- how a stream ends; a refusal with its number, the frame's number and position, and the row
pub data Ending : Type 0 where
  ok : Ending
  cut : Ending
  refused : ℕ → ℕ → ℕ → Option ℕ → Ending
  bare : ℕ → Ending

abbrev pub ending_at : Fault → Option Place → Ending
ending_at f None = bare (number_of f.refusal)
ending_at f (Some p) = refused (number_of f.refusal) p.message p.position f.row

abbrev pub ending : Close → Ending
ending well = ok
ending short = cut
ending (by f) = ending_at f f.place

pub record Lines : Type 0 where
  pub rows : Option (List Row)
  pub batches : List Shown
  pub close : Ending

abbrev pub lines_of : ℕ → Told → Lines
lines_of cells t = record { rows = option_map (listing 0) t.kept.schema; batches = shown_all cells t.batches; close = ending t.close }

unfoldable pub trace : ℕ → Terms → Meaning → List ℕ → Lines
trace cells t m bytes = lines_of cells (feed t m bytes)
