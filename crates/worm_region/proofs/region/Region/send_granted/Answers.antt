use Rattle.std.proofs.Common.{◌*◌, ◌+◌, Some, None, length}
use Rattle.std.proofs.lemmas.Result.{err_from_is_err_and}
use Rattle.worm_region.specs.Replies.{Attempts}
use Rattle.worm_region.specs.Turns.{Each, granted_send}
use Rattle.worm_region.proofs.Passages.{does_nothing, loop_cut, loop_more}
use Rattle.worm_region.proofs.PassIsGrants.{there_still}
use Rattle.worm_region.proofs.GrantedSent.{sent_all, sent_by, sent_grant, sent_more, sent_place, sent_start, sent_still}
use Rattle.worm_region.proofs.GrantedSent.{sent_to, was_granted}
use Rattle.worm_region.proofs.TurnInParts.{sends_all}
use Rattle.worm_region.proofs.AllOwned.{sends_within}
use Rattle.worm_region.proofs.ReachedBySteps.{whole_after}
use Rattle.worm_region.proofs.region.Region.send_granted.Goals as goal

pub loop-port-init : goal.loop-port-init
loop-port-init c = λ grants _.
    sent_start c.args.node c.args.granted c.args.self.now c.recall.ensures c.requires.there
    (does_nothing c.args.self.now)

pub send-requires-clause-there : goal.send-requires-clause-there
send-requires-clause-there c =
    let some = c.requires.granted in
    let sent = c.loop-port.invariant some.0 some.1 in
    let first = c.in-Some.ensures in
    there_still c.args.self.now c.loop-port.self c.args.node c.in-Some.port c.in-Some.vc
    sent.walked.done.reaches.config
    (c.requires.there c.in-Some.port c.in-Some.vc first.port_in first.channel_in (was_granted some.0 some.1 sent first))

pub send-requires-clause-within : goal.send-requires-clause-within
send-requires-clause-within c =
    let sent = c.loop-port.invariant c.requires.granted.0 c.requires.granted.1 in
    sends_within c.loop-port.self c.args.node c.in-Some.port c.in-Some.vc
    (whole_after c.args.self.now c.loop-port.self sent.walked.done.reaches.config c.requires.whole)

pub loop-port-preserved : goal.loop-port-preserved
loop-port-preserved c = λ grants are.
    let sent = c.loop-port.invariant grants are in
    let first = c.in-Some.ensures in
    let x = c.args.node in
    let a = c.args.self.now in
    let b = c.loop-port.self in
    let answered = sent_by x grants c.in-Some.port c.in-Some.vc b c.send.new.self c.send.result None
    (sent_grant grants are sent first) c.send.ensures c.in_ok-tried.ensures in
    sent_more grants are sent (sent_still x grants a b) first
    (λ before. loop_more (λ p. Each Attempts (granted_send grants x p)) c.in-Some.port a b c.send.new.self None
    before answered)

pub returns-in_err-tried : goal.returns-in_err-tried
returns-in_err-tried c = λ grants are.
    let sent = c.loop-port.invariant grants are in
    let first = c.in-Some.ensures in
    let x = c.args.node in
    let a = c.args.self.now in
    let b = c.loop-port.self in
    let fault = c.in_err-tried.field-0.0 in
    let answered = sent_by x grants c.in-Some.port c.in-Some.vc b c.send.new.self c.send.result (Some fault)
    (sent_grant grants are sent first) c.send.ensures c.in_err-tried.ensures in
    let p = err_from_is_err_and c.from_residual.result c.from_residual.ensures.1 in
    rw (p.1, p.2) (sends_all grants x a c.send.new.self (Some fault)
    (loop_cut (λ p. Each Attempts (granted_send grants x p)) c.in-Some.port (2 * length a.mesh + 1) a b
    c.send.new.self fault (sent_place grants are sent first).1
    (sent_to grants are sent (sent_still x grants a b) first) answered))

pub returns : goal.returns
returns c = λ grants are.
    let x = c.args.node in
    let a = c.args.self.now in
    let b = c.loop-port.self in
    sends_all grants x a b None
    (sent_all grants are (c.loop-port.invariant grants are) (sent_still x grants a b) c.in_default.ensures.0)
