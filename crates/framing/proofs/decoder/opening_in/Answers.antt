use Rattle.std.proofs.Common.{is_some, Some, refl, sym, ap, ◌∙◌}
use Rattle.std.specs.Option.{option_map}
use Rattle.framing.proofs.OpeningOf.{opening_read}
use Rattle.framing.proofs.decoder.opening_in.Goals as goal

pub returns-in_err-size : goal.returns-in_err-size
returns-in_err-size c =
    c.from_residual.ensures ∙ ap (option_map _) (sym c.in_err-size.was)
    ∙ opening_read c.args.bytes.now c.behind_marker-marker.result c.args.bytes _ c.read_at.result refl c.behind_marker-marker.ensures c.unwrap_or.ensures c.read_at.ensures

pub returns : goal.returns
returns c =
    ap (λ b. Some (record { marked = b; size = c.in_ok-size.size })) c.is_some.ensures
    ∙ ap (option_map (λ n. record { marked = is_some c.behind_marker-marker.result; size = n })) (sym c.in_ok-size.was)
    ∙ opening_read c.args.bytes.now c.behind_marker-marker.result c.args.bytes _ c.read_at.result refl c.behind_marker-marker.ensures c.unwrap_or.ensures c.read_at.ensures
