use Rattle.std.proofs.Common.{List}
use Rattle.message.specs.Listed.{TellsItems}
use Rattle.message.proofs.Laid.{Laying}
use Rattle.message.proofs.lists.lay.Given as goal

abbrev pub invariant-loop-n : goal.invariant-loop-n
invariant-loop-n g l = (items : List g.row.T.Denot) → TellsItems (goal.F-post g l.item) items → Laying items l.initial.table l.n l.table
