use Rattle.feeds.proofs.Told.{steps_tell}
use Rattle.feeds.proofs.laws.steps_tell.Goals as goal

pub returns : goal.returns
returns c = steps_tell
