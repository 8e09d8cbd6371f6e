use Rattle.std.proofs.Common.{◌+◌, ◌<◌, length, take, set, ◌∙◌, sym, arith, rules, length-set}
use Rattle.std.proofs.lemmas.List.{length-take-le}
use Rattle.framing.proofs.MovesOf.{not_whole}
use Rattle.framing.proofs.openings.OpeningBytes.with.Goals as goal

pub invariant_of-result : goal.invariant_of-result
invariant_of-result c =
    let s = c.args.self in
    let room : s.got < length s.bytes = search rules in
    let bytes = set s.bytes s.got c.args.b in
    let l = length-take-le (s.got + 1) bytes (omega (arith, length-set s.bytes s.got c.args.b)) in
    let b = not_whole (take (s.got + 1) bytes) (sym c.opening_in.ensures ∙ c.in-None.is) in
    record { more = omega (arith, b.more) }
