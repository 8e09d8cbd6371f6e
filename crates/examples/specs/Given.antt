-- Messages given by their contents, and what they do.
use Rattle.std.specs.Prelude.{ℕ, zero, suc, ◌+◌, false, List, [], ◌∷◌, length, ℤ, pos, Some, None, Ok, Option}
use Rattle.message.specs.declared.items.Buffer.{Buffer}
use Rattle.message.specs.declared.items.Node.{Node}
use Rattle.message.specs.declared.rows.Row.{Row}
use Rattle.message.specs.Faults.{number_of}
use Rattle.message.specs.Messages.{Columns, Contents, batch}
use Rattle.dictionaries.specs.Values.{Dictionary}
use Rattle.columns.specs.Entries.{Choice, all, these}
use Rattle.columns.specs.Slots.{Cell, part, stored}
use Rattle.feeds.specs.Messages.{Terms, Kept, Outcome, refuses, keeps, shows, fields_of, act}
use Rattle.examples.specs.Lines.{Line, Shown, shown}
use Rattle.dictionaries.specs.Areas.{Area, areas_of}
use Rattle.std.specs.Option.{option_map}

abbrev pub row : ℕ → ℕ → ℕ → ℕ → ℤ → ℕ → Row
row kind flag tag parameter id end = record { kind = kind; flag = flag; tag = tag; parameter = parameter; id = id; end = end }

-- row k, without children, by its kind, flag and parameter
abbrev pub leaf : ℕ → ℕ → ℕ → ℕ → Row
leaf k kind flag parameter = row kind flag 0 parameter (pos 0) (k + 1)

abbrev pub node : ℕ → ℕ → Node
node l n = record { length = pos l; nulls = pos n }

abbrev pub buffer : ℕ → ℕ → Buffer
buffer o l = record { offset = pos o; length = pos l }

abbrev pub columns : ℤ → List Node → List Buffer → List ℤ → Columns
columns long nodes buffers counts = record { long = long; compressed = false; missing = false; nodes = nodes; buffers = buffers; counts = counts }

abbrev pub terms : ℕ → Choice → Terms
terms room choice = record { message = 100; body = 100; store = room; nodes = 4; buffers = 6; counts = 2; columns = 256; choice = choice }

-- n bytes 0
abbrev pub zeros : ℕ → List ℕ
zeros zero = []
zeros (suc n) = 0 ∷ zeros n

-- what a message does: it is refused, by a number, a row and an index; it changes the dictionaries; it shows a batch
pub data Done : Type 0 where
  no : ℕ → Option ℕ → Option ℕ → Done
  keeps_areas : Option (List Area) → Done
  shows_it : Shown → Done

-- the schema is there, with these dictionaries, or it is not
abbrev pub keeps_on : Option (List Dictionary) → Done
keeps_on o = keeps_areas (option_map areas_of o)

abbrev pub areas_in : Kept → Option (List Area)
areas_in k = elim k.schema [ None ↦ None | Some fs ↦ Some k.areas ]

abbrev pub done : Outcome → Done
done (refuses b) = no (number_of b.refusal) b.row b.index
done (keeps k) = keeps_areas (areas_in k)
done (shows k b) = shows_it (shown 64 b)

-- a message behind a schema of these rows, with these dictionaries held
abbrev pub given : Terms → List Row → List Dictionary → ℤ → Contents → List ℕ → Done
given t rows ds version contents body =
    done (act t (record { schema = Some (fields_of rows); areas = areas_of ds }) (record { version = version; body = pos (length body); contents = contents }) body)

-- a message before any schema
abbrev pub first : Contents → Done
first contents = done (act (terms 10 all) (record { schema = None; areas = [] }) (record { version = pos 4; body = pos 0; contents = contents }) [])

-- a batch of version 4, all columns shown, no dictionaries
abbrev pub shown_for : List Row → Columns → List ℕ → Done
shown_for rows c body = given (terms 10 all) rows [] (pos 4) (batch c) body

-- the same with some columns chosen
abbrev pub chosen : List ℕ → List Row → Columns → List ℕ → Done
chosen ns rows c body = given (terms 10 (these ns)) rows [] (pos 4) (batch c) body

abbrev pub line : ℕ → ℕ → Cell → Line
line e i c = record { entry = e; index = i; cell = Ok c }

abbrev pub bytes_at : ℕ → List ℕ → Cell
bytes_at place bs = part (record { place = place; bytes = bs })

abbrev pub value_at : ℕ → List ℕ → ℕ → Cell
value_at place bs k = stored (record { place = place; bytes = bs }) k

abbrev pub batch_of : ℕ → List ℕ → List Line → Done
batch_of long places lines = shows_it (record { long = long; places = places; lines = lines })
