use Rattle.std.proofs.Common.{◌-◌, ap, take, ◌∙◌, rules}
use Rattle.framing.specs.Frames.{opening}
use Rattle.framing.proofs.Fills.{opening_filled}
use Rattle.framing.proofs.OpeningOf.{is_marked}
use Rattle.framing.proofs.openings.OpeningBytes.fill.Goals as goal

pub invariant_of-self : goal.invariant_of-self
invariant_of-self c =
    let s = c.args.self.now in
    let marked = c.is_some-marked.ensures ∙ is_marked (take s.got s.bytes) c.behind_marker.result c.behind_marker.ensures in
    let last = ap (λ n. n - 1) (c.opening_len-last.ensures ∙ ap opening marked) in
    record { more = opening_filled s _ c.fill-used.new.hold c.fill-used.result _ (search rules) last c.fill-used.ensures }
