use Rattle.framing.proofs.MovesOf.{opening_sized}
use Rattle.framing.proofs.state.FrameDecoder.opened.Goals as goal

pub returns-in-Ok : goal.returns-in-Ok
returns-in-Ok c = opening_sized c.args.self.now c.sized.new.self _ c.in-Ok.opening c.sized.result c.in-Ok.ensures c.sized.ensures
