use Rattle.feeds.proofs.Listed.{streams_listed}
use Rattle.feeds.proofs.laws.streams_keep_lists.Goals as goal

pub returns : goal.returns
returns c = streams_listed
