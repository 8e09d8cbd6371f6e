use Rattle.feeds.proofs.Sound.{batches_answer}
use Rattle.feeds.proofs.laws.batches_answer.Goals as goal

pub returns : goal.returns
returns c = batches_answer
