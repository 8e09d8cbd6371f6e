use Rattle.std.proofs.Common.{rules}
use Rattle.message.proofs.Laid.{laying_more, laying_none}
use Rattle.message.proofs.lists.lay.Goals as goal

pub loop-n-preserved : goal.loop-n-preserved
loop-n-preserved g c = λ items tells.
    laying_more items c.args.table.now c.loop-n.table c.loop-n.n c.in-Some.item (c.loop-n.invariant items tells) (search rules) (tells c.loop-n.n (search rules) _ c.in-Some.ensures)

pub returns-in-None : goal.returns-in-None
returns-in-None g c = λ items tells.
    laying_none items c.args.table.now c.loop-n.table c.loop-n.n (c.loop-n.invariant items tells) (tells c.loop-n.n (search rules) _ c.in-None.ensures)
