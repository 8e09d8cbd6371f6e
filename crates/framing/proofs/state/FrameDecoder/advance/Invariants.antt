use Rattle.std.proofs.Common.{length}
use Rattle.message.specs.Messages.{facts_of}
use Rattle.framing.specs.Views.{stand_of, holds_of}
use Rattle.framing.proofs.AdvanceOf.{Sofar}
use Rattle.framing.proofs.state.FrameDecoder.advance.Given as goal

abbrev pub invariant-loop-turn : goal.invariant-loop-turn
invariant-loop-turn g l = Sofar (λ bs. facts_of (g.R.Reading.meaning l.reading bs)) (holds_of l.initial.self) (stand_of l.initial.self l.initial.metadata l.initial.body) l.piece l.rest l.self l.metadata l.body

abbrev pub decreases-loop-turn : goal.decreases-loop-turn
decreases-loop-turn g l = length l.rest
