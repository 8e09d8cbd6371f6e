-- Of the lists of a slip those that a message of a header type has.
use Rattle.std.specs.Prelude.{ℕ, cond, ◌||◌, [], ◌==◌}
use Rattle.slip.specs.Slips.{Lists}

-- rows of a schema; nodes, buffers and counts of a dictionary or a record batch
abbrev pub chosen_lists : ℕ → Lists → Lists
chosen_lists type l = record {
  rows = cond (type == 1) l.rows [];
  nodes = cond (type == 2 || type == 3) l.nodes [];
  buffers = cond (type == 2 || type == 3) l.buffers [];
  counts = cond (type == 2 || type == 3) l.counts [];
}
