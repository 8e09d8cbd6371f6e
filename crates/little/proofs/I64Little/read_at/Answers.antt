use Rattle.little.proofs.Spelled.{signed_read, from_le_8}
use Rattle.std.proofs.Common.{w64}
use Rattle.std.specs.Int.{from_le_bytes}
use Rattle.little.proofs.I64Little.read_at.Goals as goal

pub returns : goal.returns
returns c = signed_read 8 c.args.bytes.now c.args.at (from_le_bytes w64) c.bytes_at.result w64 c.map.result from_le_8 c.bytes_at.ensures c.map.ensures.cases
