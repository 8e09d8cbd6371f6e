use Rattle.std.proofs.Common.{refl, arith}
use Rattle.framing.specs.Frames.{Holds}
use Rattle.framing.specs.Runs.{Begins}
use Rattle.framing.proofs.RunOf.{lawful}
use Rattle.framing.proofs.Stands.{at_start}
use Rattle.framing.proofs.state.FrameDecoder.new.Goals as goal

pub returns : goal.returns
returns c =
    let h : Holds = record { metadata = c.args.metadata; body = c.args.body } in
    let at = at_start c.default-2.result c.default.result c.default-2.ensures.0 c.default-2.ensures.1 c.default.ensures in
    let b : Begins h _ = record { holds = refl; stand = λ m b. at } in
    (record { some = omega arith; metadata = omega arith; body = omega arith }, b, lawful h _ b)
