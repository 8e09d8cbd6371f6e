use Rattle.dictionaries.proofs.Stored.{read_back}
use Rattle.dictionaries.proofs.values_read_back.Goals as goal

pub returns : goal.returns
returns c = read_back
