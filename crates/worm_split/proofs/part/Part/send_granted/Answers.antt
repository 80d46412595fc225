use Rattle.std.proofs.Common.{◌≡◌, ◌*◌, ◌+◌, None, Some, length, true, sym, subst}
use Rattle.std.proofs.lemmas.Result.{err_from_is_err_and}
use Rattle.worm_region.specs.Owned.{owned_by}
use Rattle.worm_region.specs.Workable.{IsWorkable}
use Rattle.worm_region.specs.declared.owner.Owner.{Owner}
use Rattle.worm_region.proofs.GrantedSent.{sent_all, sent_grant, sent_more, sent_place, sent_start, sent_to}
use Rattle.worm_region.proofs.GrantedSent.{was_granted}
use Rattle.worm_region.proofs.PassIsGrants.{there_still}
use Rattle.worm_split.specs.PartState.{PartState}
use Rattle.worm_split.specs.PartTurns.{SendsGrant}
use Rattle.worm_split.proofs.GrantsSent.{one_sent, sent_none, sent_still}
use Rattle.worm_split.proofs.PartLoops.{of_end, of_more, same_on}
use Rattle.worm_split.proofs.part.Part.send_granted.Goals as goal

pub loop-port-init : goal.loop-port-init
loop-port-init g c =
    let net : IsWorkable c.args.self.now.net =
    subst (λ (p : PartState). IsWorkable p.net) c.self.view_is c.recall.ensures in
    λ grants _.
    sent_start c.args.node c.args.granted c.args.self.now.net net c.requires.there
    (sent_none c.args.node grants c.args.self.now)

pub send-requires-clause-own : goal.send-requires-clause-own
send-requires-clause-own g c =
    let some = c.requires.granted in
    let sent = c.loop-port.invariant some.0 some.1 in
    subst (λ (w : Owner). owned_by w c.args.node ≡ true) (sym sent.walked.done.same.config.own) c.requires.own

pub send-requires-clause-there : goal.send-requires-clause-there
send-requires-clause-there g c =
    let some = c.requires.granted in
    let sent = c.loop-port.invariant some.0 some.1 in
    let first = c.in-Some.ensures in
    there_still c.args.self.now.net c.loop-port.self.net c.args.node c.in-Some.port c.in-Some.vc
    sent.walked.done.same.config
    (c.requires.there c.in-Some.port c.in-Some.vc first.port_in first.channel_in (was_granted some.0 some.1 sent first))

pub loop-port-preserved : goal.loop-port-preserved
loop-port-preserved g c = λ grants are.
    let sent = c.loop-port.invariant grants are in
    let first = c.in-Some.ensures in
    let x = c.args.node in
    let a = c.args.self.now in
    let b = c.loop-port.self in
    let one = c.in_ok-send.ensures in
    sent_more grants are sent (sent_still x grants a b) first
    (λ before. record {
      each = of_more (SendsGrant grants x) c.in-Some.port a b c.send.new.self before.each
          (one_sent x grants c.in-Some.port c.in-Some.vc b c.send.new.self None
          (sent_grant grants are sent first) one.sends);
      same = same_on a b c.send.new.self before.same one.same;
    })

pub returns-in_err-send-clause-sends : goal.returns-in_err-send-clause-sends
returns-in_err-send-clause-sends g c = λ grants are.
    let sent = c.loop-port.invariant grants are in
    let first = c.in-Some.ensures in
    let x = c.args.node in
    let a = c.args.self.now in
    let b = c.loop-port.self in
    let fault = c.in_err-send.field-0.0 in
    let p = err_from_is_err_and c.from_residual.result c.from_residual.ensures.1 in
    rw (p.1, p.2) (of_end (SendsGrant grants x) c.in-Some.port (2 * length a.net.mesh + 1) a b c.send.new.self fault
    (sent_place grants are sent first).1 (sent_to grants are sent (sent_still x grants a b) first).each
    (one_sent x grants c.in-Some.port c.in-Some.vc b c.send.new.self (Some fault) (sent_grant grants are sent first)
    c.in_err-send.ensures.sends))

pub returns-in_err-send-clause-same : goal.returns-in_err-send-clause-same
returns-in_err-send-clause-same g c =
    let sent = c.loop-port.invariant c.requires.granted.0 c.requires.granted.1 in
    same_on c.args.self.now c.loop-port.self c.send.new.self sent.walked.done.same c.in_err-send.ensures.same

pub returns-clause-sends : goal.returns-clause-sends
returns-clause-sends g c = λ grants are.
    (sent_all grants are (c.loop-port.invariant grants are)
    (sent_still c.args.node grants c.args.self.now c.loop-port.self) c.in_default.ensures.0).each

pub returns-clause-same : goal.returns-clause-same
returns-clause-same g c =
    (c.loop-port.invariant c.requires.granted.0 c.requires.granted.1).walked.done.same
