use Rattle.feeds.proofs.Taken.{chosen_columns}
use Rattle.feeds.proofs.laws.chosen_columns_alike.Goals as goal

pub returns : goal.returns
returns c = chosen_columns
