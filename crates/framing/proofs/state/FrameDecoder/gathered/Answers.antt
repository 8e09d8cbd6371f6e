use Rattle.std.proofs.Common.{refl, sym, arith}
use Rattle.message.specs.Messages.{facts_of}
use Rattle.framing.proofs.MovesOf.{metadata_whole}
use Rattle.framing.proofs.state.FrameDecoder.gathered.Goals as goal

pub returns : goal.returns
returns g c = metadata_whole (λ bs. facts_of (g.R.Reading.meaning c.args.reading.now bs)) _ _ _ _ _ _ c.requires.own c.requires.size (omega arith) refl (sym c.in-Ok.ensures) (sym c.in-Some.ensures) c.filled.ensures
