use Rattle.little.proofs.Spelled.{made_inside}
use Rattle.message.specs.Items.{node_at}
use Rattle.message.proofs.Parts.{node_part}
use Rattle.message.proofs.items.NodeLittle.read_at.Goals as goal

pub returns : goal.returns
returns c = made_inside 16 c.args.bytes.now c.args.at (λ bs. node_at bs 0) (node_at c.args.bytes.now c.args.at) c.bytes_at.result c.map.result c.bytes_at.ensures c.map.ensures.cases (λ h. node_part c.args.bytes.now c.args.at)
