use Rattle.dictionaries.proofs.Held.{room_again}
use Rattle.dictionaries.proofs.room_is_filled_again.Goals as goal

pub returns : goal.returns
returns c = room_again
