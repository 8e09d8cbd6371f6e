use Rattle.dictionaries.proofs.Stored.{room_is_length}
use Rattle.dictionaries.proofs.room_is_length.Goals as goal

pub returns : goal.returns
returns c = room_is_length
