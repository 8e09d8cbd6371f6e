use Rattle.feeds.proofs.Alike.{pieces_alike}
use Rattle.feeds.proofs.promises.pieces_show_alike.Goals as goal

pub returns : goal.returns
returns c = pieces_alike
