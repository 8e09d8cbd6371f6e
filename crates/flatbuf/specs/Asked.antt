-- What each question answers, by the header type.
use Rattle.std.specs.Prelude.{List, [], Option}
use Rattle.std.specs.Option.{option_map, unwrap_or}
use Rattle.message.specs.declared.headers.Facts.{Facts}
use Rattle.message.specs.Messages.{Message, Read, header_of}

abbrev pub told : Message → Facts
told m = record { version = m.version; body = m.body; header = header_of m.contents }

-- the facts of what was read
abbrev pub told_by : Read → Option Facts
told_by = option_map told

-- a list of no items where there is none
abbrev pub or_none : {A : Type 0} → Option (List A) → List A
or_none o = unwrap_or o []
