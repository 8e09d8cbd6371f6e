use Rattle.feeds.proofs.Choices.{choices_alike}
use Rattle.feeds.proofs.Taken.{chosen_columns}
use Rattle.feeds.proofs.promises.choices_show_alike.Goals as goal

pub returns : goal.returns
returns c = choices_alike chosen_columns
