use Rattle.little.proofs.Spelled.{signed_read, from_le_2}
use Rattle.std.proofs.Common.{w16}
use Rattle.std.specs.Int.{from_le_bytes}
use Rattle.little.proofs.I16Little.read_at.Goals as goal

pub returns : goal.returns
returns c = signed_read 2 c.args.bytes.now c.args.at (from_le_bytes w16) c.bytes_at.result w16 c.map.result from_le_2 c.bytes_at.ensures c.map.ensures.cases
