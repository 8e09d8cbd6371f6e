use Rattle.std.proofs.Common.{sym}
use Rattle.message.proofs.Listed.{length_listed}
use Rattle.message.proofs.lists.Items.len.Goals as goal

pub returns : goal.returns
returns g c = rw c.WIDTH.ensures (sym (length_listed g.T.Little.WIDTH g.T.Little.number c.args.self.now.bytes.now))
