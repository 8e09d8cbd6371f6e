use Rattle.framing.proofs.Parted.{exactly}
use Rattle.framing.proofs.laws.frames_are_their_parts.Goals as goal

pub returns : goal.returns
returns c = exactly
