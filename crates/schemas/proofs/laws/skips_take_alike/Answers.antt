use Rattle.schemas.proofs.Alike.{skips_take_alike}
use Rattle.schemas.proofs.laws.skips_take_alike.Goals as goal

pub returns : goal.returns
returns c = skips_take_alike
