-- Values that may be missing.
use Rattle.std.specs.Prelude.{Some, None, Option}

-- what follows from a value, where there is one
abbrev pub and_then : {A B : Type 0} → Option A → (A → Option B) → Option B
and_then None f = None
and_then (Some x) f = f x
