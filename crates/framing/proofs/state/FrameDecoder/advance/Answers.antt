use Rattle.std.proofs.Common.{sym, ◌∙◌, inl, inr, rules}
use Rattle.std.proofs.lemmas.List.{nil_from_length}
use Rattle.std.proofs.lemmas.Result.{err_from_is_err_and}
use Rattle.framing.proofs.AdvanceOf.{one_more, ends_with, refuses}
use Rattle.framing.proofs.state.FrameDecoder.advance.Goals as goal
use Rattle.framing.proofs.state.FrameDecoder.advance.Goals.{then-is_some-via-then-is_some, then-is_some-via-else-is_some+then-is_empty}

pub returns-in_err-turn : goal.returns-in_err-turn
returns-in_err-turn g c =
    let p = err_from_is_err_and c.from_residual.result c.from_residual.ensures.1 in
    rw (p.1, p.2) (refuses _ _ _ _ _ _ _ _ _ (c.if-metadata-self.false, c.if-body-self.false) c.loop-turn.invariant _ _ _ (c.turn.auto.metadata ∙ c.loop-turn.auto.metadata) (c.turn.auto.body ∙ c.loop-turn.auto.body) _ c.in_err-turn.ensures)

pub returns-then-is_some : goal.returns-then-is_some
returns-then-is_some g c =
    ends_with _ _ _ _ _ _ _ _ _ (c.if-metadata-self.false, c.if-body-self.false) c.loop-turn.invariant _ _ _ (c.turn.auto.metadata ∙ c.loop-turn.auto.metadata) (c.turn.auto.body ∙ c.loop-turn.auto.body) _ _
    (elim c.then-is_some.branch [
      | then-is_some-via-then-is_some w ↦ inl w.if-is_some.ensures
      | then-is_some-via-else-is_some+then-is_empty w ↦ inr (nil_from_length _ (search rules))
    ])
    c.in_ok-turn.ensures

pub loop-turn-preserved : goal.loop-turn-preserved
loop-turn-preserved g c =
    one_more _ c.args.self.now _ _ _ _ c.loop-turn.self _ _ (c.if-metadata-self.false, c.if-body-self.false) c.loop-turn.invariant c.turn.new.self _ _ (c.turn.auto.metadata ∙ c.loop-turn.auto.metadata) (c.turn.auto.body ∙ c.loop-turn.auto.body) _ _ (sym c.if-is_some.ensures) c.in_ok-turn.ensures
