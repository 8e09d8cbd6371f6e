use Rattle.columns.proofs.Fitted.{exactly}
use Rattle.columns.proofs.laws.columns_are_read_when_they_fit.Goals as goal

pub returns : goal.returns
returns c = exactly
