use Rattle.std.proofs.Common.{◌+◌, refl, ap, ◌∙◌, arith}
use Rattle.framing.specs.Frames.{behind}
use Rattle.framing.proofs.MovesOf.{frame_whole}
use Rattle.framing.proofs.state.FrameDecoder.filled.Goals as goal

pub returns : goal.returns
returns c =
    let head = c.args.head in
    let place = c.behind-self.ensures ∙ ap (λ n. behind head.place (n + (head.opening.size + head.body))) c.len.ensures in
    frame_whole c.args.self.now _ head c.args.got (omega arith) (record { metadata = refl; body = refl }) _ c.default.ensures refl place
