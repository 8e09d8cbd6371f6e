-- The same batch seen through longer memories: what stands behind its lists and its body does not count.
use Rattle.std.specs.Prelude.{ℕ, List, ◌++◌, ℤ}
use Rattle.message.specs.declared.items.Buffer.{Buffer}
use Rattle.message.specs.declared.items.Node.{Node}
use Rattle.columns.specs.Looks.{Sight}

abbrev pub extended : Sight → List Node → List Buffer → List ℤ → List ℕ → Sight
extended s ns bs cs more = record {
  fields = s.fields;
  nodes = s.nodes ++ ns;
  buffers = s.buffers ++ bs;
  counts = s.counts ++ cs;
  columns = s.columns;
  body = s.body ++ more;
  held = s.held;
}
