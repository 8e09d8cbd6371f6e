use Rattle.feeds.proofs.RunOf.{lawful}
use Rattle.feeds.proofs.promises.opened_feeds_are_lawful.Goals as goal

pub returns : goal.returns
returns c = lawful
