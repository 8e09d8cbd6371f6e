-- Questions for cells, and whole feeds of bytes.
use Rattle.std.specs.Prelude.{◌≡◌, ℕ, List, [], ◌∷◌, ◌++◌, take, Some, None, Ok, Err, Option, Result}
use Rattle.message.specs.declared.faults.Refusal.{Refusal}
use Rattle.message.specs.declared.faults.Refusal.TheVariants.{OutOfRange, Changed}
use Rattle.message.specs.declared.rows.Row.{Row}
use Rattle.slip.specs.Slips.{slip_meaning}
use Rattle.columns.specs.Entries.{all}
use Rattle.columns.specs.Slots.{Cell, absent}
use Rattle.columns.specs.Cells.{cell_at}
use Rattle.feeds.specs.Messages.{fields_of}
use Rattle.examples.specs.Lines.{Lines, Ending, ok, cut, refused, trace}
use Rattle.dictionaries.specs.Areas.{held_in}
use Rattle.examples.specs.Given.{leaf, node, buffer, terms, zeros, bytes_at}

-- a text column of two slots, the first of them absent, asked for a cell over these bytes: validity, offsets, data
abbrev pub asked : List ℕ → ℕ → ℕ → Result Cell Refusal
asked bytes e i =
    cell_at (record {
      fields = fields_of (leaf 0 4 1 0 ∷ []);
      nodes = node 2 1 ∷ [];
      buffers = buffer 0 1 ∷ buffer 1 12 ∷ buffer 13 3 ∷ [];
      counts = [];
      columns = record { row = 0; node = 0; buffer = 0; count = 0 } ∷ [];
      body = bytes;
      held = held_in [];
    }) e i

abbrev pub answered : ℕ → ℕ → List ℕ → List ℕ
answered valid last data' = valid ∷ 0 ∷ 0 ∷ 0 ∷ 0 ∷ 0 ∷ 0 ∷ 0 ∷ 0 ∷ last ∷ 0 ∷ 0 ∷ 0 ∷ data'

pub record Questions : Type 0 where
  pub absent_slot : asked (answered 2 3 (67 ∷ 65 ∷ 84 ∷ [])) 0 0 ≡ Ok absent
  pub text : asked (answered 2 3 (67 ∷ 65 ∷ 84 ∷ [])) 0 1 ≡ Ok (bytes_at 13 (67 ∷ 65 ∷ 84 ∷ []))
  pub no_entry : asked (answered 2 3 (67 ∷ 65 ∷ 84 ∷ [])) 1 0 ≡ Err OutOfRange
  pub no_slot : asked (answered 2 3 (67 ∷ 65 ∷ 84 ∷ [])) 0 2 ≡ Err OutOfRange
  pub offset : asked (answered 2 4 (67 ∷ 65 ∷ 84 ∷ [])) 0 1 ≡ Err Changed
  pub other_offset : asked (answered 2 4 (67 ∷ 65 ∷ 84 ∷ [])) 0 0 ≡ Ok absent
  pub not_text : asked (answered 2 3 (67 ∷ 255 ∷ 84 ∷ [])) 0 1 ≡ Err Changed
  pub outside : asked (answered 2 3 (67 ∷ 65 ∷ [])) 0 1 ≡ Err Changed
  pub validity : asked (answered 0 3 (67 ∷ 65 ∷ 84 ∷ [])) 0 1 ≡ Ok absent

-- a frame of a slip of header type 1 or 4 without lists, with these bytes for the length of its body
abbrev pub framed : ℕ → List ℕ → List ℕ
framed type body = 64 ∷ 0 ∷ 0 ∷ 0 ∷ 4 ∷ 0 ∷ type ∷ 0 ∷ (body ++ (zeros 48 ++ (83 ∷ 76 ∷ 80 ∷ 49 ∷ [])))

abbrev pub fed : List ℕ → Lines
fed bytes = trace 64 (terms 10 all) slip_meaning bytes

abbrev pub told : Option (List Row) → Ending → Lines
told rows close = record { rows = rows; batches = []; close = close }

abbrev pub marker : List ℕ
marker = 255 ∷ 255 ∷ 255 ∷ 255 ∷ []

pub record Fed : Type 0 where
  pub mark : fed (marker ++ zeros 4) ≡ told None ok
  pub behind : fed (marker ++ (zeros 4 ++ (7 ∷ []))) ≡ told None (refused 3 1 8 None)
  pub long : fed (marker ++ marker) ≡ told None (refused 4 0 0 None)
  pub no_bytes : fed [] ≡ told None ok
  pub schema_only : fed (framed 1 (zeros 8)) ≡ told (Some []) ok
  pub short : fed (take 67 (framed 1 (zeros 8))) ≡ told None cut
  pub then_mark : fed (framed 1 (zeros 8) ++ zeros 4) ≡ told (Some []) ok
  pub then_half : fed (framed 1 (zeros 8) ++ zeros 3) ≡ told (Some []) cut
  pub twice : fed (framed 1 (zeros 8) ++ framed 1 (zeros 8)) ≡ told (Some []) (refused 8 1 68 None)
  pub header : fed (framed 4 (zeros 8)) ≡ told None (refused 7 0 0 None)
  pub header_at_body : fed (framed 4 (1 ∷ zeros 7)) ≡ told None cut
  pub body_above : fed (framed 4 (101 ∷ zeros 7)) ≡ told None (refused 6 0 0 None)
  pub body_below_zero : fed (framed 4 (255 ∷ 255 ∷ 255 ∷ 255 ∷ 255 ∷ 255 ∷ 255 ∷ 255 ∷ [])) ≡ told None (refused 6 0 0 None)
  pub unread : fed (1 ∷ 0 ∷ 0 ∷ 0 ∷ 9 ∷ []) ≡ told None (refused 5 0 0 None)
