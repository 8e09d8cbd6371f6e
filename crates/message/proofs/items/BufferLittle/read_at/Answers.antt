use Rattle.little.proofs.Spelled.{made_inside}
use Rattle.message.specs.Items.{buffer_at}
use Rattle.message.proofs.Parts.{buffer_part}
use Rattle.message.proofs.items.BufferLittle.read_at.Goals as goal

pub returns : goal.returns
returns c = made_inside 16 c.args.bytes.now c.args.at (λ bs. buffer_at bs 0) (buffer_at c.args.bytes.now c.args.at) c.bytes_at.result c.map.result c.bytes_at.ensures c.map.ensures.cases (λ h. buffer_part c.args.bytes.now c.args.at)
