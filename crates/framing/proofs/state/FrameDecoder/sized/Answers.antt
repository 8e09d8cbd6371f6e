use Rattle.std.proofs.Common.{refl, ap, ◌∙◌}
use Rattle.framing.specs.Frames.{behind}
use Rattle.framing.proofs.MovesOf.{at_end}
use Rattle.framing.proofs.state.FrameDecoder.sized.Goals as goal

pub returns-then-opening-eq0 : goal.returns-then-opening-eq0
returns-then-opening-eq0 c =
    at_end c.args.self.now _ c.args.opening c.if-opening-eq0.true (record { metadata = refl; body = refl }) refl (c.behind-self.ensures ∙ ap (behind c.args.self.now.place) c.len.ensures)
