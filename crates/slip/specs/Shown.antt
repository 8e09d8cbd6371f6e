-- Parts of the bytes, with the bytes themselves in the place of the references to them.
use Rattle.std.specs.Option.{option_map}
use Rattle.std.specs.Prelude.{Option}
use Rattle.slip.specs.declared.parts.Parts.{Parts}
use Rattle.slip.specs.Slips.{Lists}

abbrev pub lists_in : Parts → Lists
lists_in p = record { rows = p.rows.bytes.now; nodes = p.nodes.bytes.now; buffers = p.buffers.bytes.now; counts = p.counts.bytes.now }

abbrev pub shown_parts : Option Parts → Option Lists
shown_parts = option_map lists_in
