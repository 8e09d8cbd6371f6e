-- Values that fit a store of less than 2^32 - 1 bytes are short.
use Rattle.std.proofs.Common.{◌<◌, List, [], ◌∷◌, Some, None, arith}
use Rattle.dictionaries.specs.Values.{Value, Dictionary, room_of, room_all, used}
use Rattle.dictionaries.specs.Stores.{Short}
use Rattle.dictionaries.specs.Areas.{AllShort, EachShort}

short : (v : Value) → room_of v < 4294967295 → Short v
short None h = tt
short (Some bs) h = omega arith

all_short : (vs : List Value) → room_all vs < 4294967295 → AllShort vs
all_short [] h = tt
all_short (v ∷ vs) h = (short v (omega arith), all_short vs (omega arith))

pub each_short : (ds : List Dictionary) → used ds < 4294967295 → EachShort ds
each_short [] h = tt
each_short (d ∷ ds) h = (all_short d.values (omega arith), each_short ds (omega arith))
