use Rattle.little.proofs.Spelled.{signed_read, from_le_4}
use Rattle.std.proofs.Common.{w32}
use Rattle.std.specs.Int.{from_le_bytes}
use Rattle.little.proofs.I32Little.read_at.Goals as goal

pub returns : goal.returns
returns c = signed_read 4 c.args.bytes.now c.args.at (from_le_bytes w32) c.bytes_at.result w32 c.map.result from_le_4 c.bytes_at.ensures c.map.ensures.cases
