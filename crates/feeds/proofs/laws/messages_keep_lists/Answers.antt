use Rattle.feeds.proofs.Listed.{message_lists}
use Rattle.feeds.proofs.laws.messages_keep_lists.Goals as goal

pub returns : goal.returns
returns c = message_lists
