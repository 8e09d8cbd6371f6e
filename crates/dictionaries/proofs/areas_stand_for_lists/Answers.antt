use Rattle.dictionaries.proofs.Read.{stand_for_lists}
use Rattle.dictionaries.proofs.areas_stand_for_lists.Goals as goal

pub returns : goal.returns
returns c = stand_for_lists
