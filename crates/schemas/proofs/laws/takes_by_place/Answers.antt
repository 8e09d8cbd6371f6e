use Rattle.schemas.proofs.Alike.{takes_by_place}
use Rattle.schemas.proofs.laws.takes_by_place.Goals as goal

pub returns : goal.returns
returns c = takes_by_place
