use Rattle.dictionaries.proofs.Held.{replaces}
use Rattle.dictionaries.proofs.replacing_is_local.Goals as goal

pub returns : goal.returns
returns c = replaces
