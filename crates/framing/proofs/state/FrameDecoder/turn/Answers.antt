use Rattle.std.proofs.Common.{ap, arith, rules}
use Rattle.std.proofs.lemmas.List.{nil_from_length}
use Rattle.std.proofs.lemmas.Result.{err_from_is_err_and}
use Rattle.framing.specs.Within.{reach, spans}
use Rattle.framing.proofs.TurnOf.{turn_ok, turn_err, opening_turn, metadata_turn, body_turn, behind_end, no_byte}
use Rattle.framing.proofs.state.FrameDecoder.turn.Goals as goal

pub returns-in_err-event-in-Header-len1-up : goal.returns-in_err-event-in-Header-len1-up
returns-in_err-event-in-Header-len1-up g c =
    let p = err_from_is_err_and c.from_residual.result c.from_residual.ensures.1 in
    rw (p.1, p.2) (turn_err (opening_turn c.fill-last.new.self c.in-Header-len1-up.is-0 c.fill-last.ensures.count c.fill-last.ensures.bytes) (c.in_err-event-in-Header-len1-up.ensures c.args.metadata.now c.args.body.now))

pub returns-in_err-event-in-Message-default : goal.returns-in_err-event-in-Message-default
returns-in_err-event-in-Message-default g c =
    let p = err_from_is_err_and c.from_residual-in_err-event-in-Message-default.result c.from_residual-in_err-event-in-Message-default.ensures.1 in
    rw (p.1, p.2) (turn_err (metadata_turn c.in-Message-default.is-0 c.requires c.fill-used.ensures) (c.in_err-event-in-Message-default.ensures c.args.body.now c.requires.1))

pub returns-in_ok-event-in-Header-len1-up : goal.returns-in_ok-event-in-Header-len1-up
returns-in_ok-event-in-Header-len1-up g c =
    turn_ok (opening_turn c.fill-last.new.self c.in-Header-len1-up.is-0 c.fill-last.ensures.count c.fill-last.ensures.bytes) (c.in_ok-event-in-Header-len1-up.ensures c.args.metadata.now c.args.body.now)

pub returns-in_ok-event-in-Message-default : goal.returns-in_ok-event-in-Message-default
returns-in_ok-event-in-Message-default g c =
    turn_ok (metadata_turn c.in-Message-default.is-0 c.requires c.fill-used.ensures) (c.in_ok-event-in-Message-default.ensures c.args.body.now c.requires.1)

pub returns-in-Body-default : goal.returns-in-Body-default
returns-in-Body-default g c =
    let d = c.args.self.now in
    let r = ap reach c.in-Body-default.is-0 in
    let s = ap spans c.in-Body-default.is-0 in
    let l = c.fill-used-in-Body-default.auto.hold in
    let body = c.fill-used-in-Body-default.new.hold in
    turn_ok (body_turn c.in-Body-default.is-0 c.requires c.fill-used-in-Body-default.ensures) (c.filled-event.ensures c.args.metadata.now body (omega (arith, d.size, c.requires.0)) (omega (arith, d.length, c.requires.1)))

pub returns-in-Finished-len1-up : goal.returns-in-Finished-len1-up
returns-in-Finished-len1-up g c = behind_end (search rules) c.in-Finished-len1-up.is-0 c.stop.ensures

pub returns-in-Header-empty : goal.returns-in-Header-empty
returns-in-Header-empty g c = no_byte (nil_from_length c.args.rest.now (search rules)) c.default.ensures.0 c.default.ensures.1 (λ f is. search rules)
