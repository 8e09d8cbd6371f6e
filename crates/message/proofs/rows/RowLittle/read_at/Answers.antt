use Rattle.little.proofs.Spelled.{made_inside}
use Rattle.message.specs.Items.{row_at}
use Rattle.message.proofs.Parts.{row_part}
use Rattle.message.proofs.rows.RowLittle.read_at.Goals as goal

pub returns : goal.returns
returns c = made_inside 24 c.args.bytes.now c.args.at (λ bs. row_at bs 0) (row_at c.args.bytes.now c.args.at) c.bytes_at.result c.map.result c.bytes_at.ensures c.map.ensures.cases (λ h. row_part c.args.bytes.now c.args.at)
