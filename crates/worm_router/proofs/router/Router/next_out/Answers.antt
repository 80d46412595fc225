use Rattle.std.proofs.Common.{◌≡◌, Some, subst, sym, ◌∙◌}
use Rattle.worm_flit.specs.Stamps.{with_channel}
use Rattle.worm_router.specs.Router.{IsRouter, leaving}
use Rattle.worm_router.proofs.ChangesSound.{input_read}
use Rattle.worm_router.proofs.Leaving.{may_leave}
use Rattle.worm_router.proofs.ReadyOuts.{leaves_by_hold}
use Rattle.worm_router.proofs.router.Router.next_out.Goals as goal

-- the front leaves by the output channel that the channel holds
by_hold : (c : goal.In-Some)
    → leaving c.args.self.now c.args.port c.args.vc
    ≡ Some (c.in-Active.out, with_channel c.in-Some.flit c.in-Active.out_vc)
by_hold c =
    leaves_by_hold c.args.self.now c.args.port c.args.vc c.in-Active.out c.in-Active.out_vc
    c.index-channel.result.now c.in-Some.flit c.requires.ready
    (input_read _ c.args.self.now c.args.port c.args.vc c.line.result c.index-channel.result.now
    c.self.view_is c.index-channel.ensures c.line.ensures.value c.line.ensures.in_inputs)
    (sym c.state.ensures ∙ c.in-Active.is) (sym c.flit_at.ensures ∙ c.in-Some.is)

pub returns-clause-leaves : goal.returns-clause-leaves
returns-clause-leaves c = sym (by_hold c)

pub returns-clause-room : goal.returns-clause-room
returns-clause-room c =
    may_leave c.args.self.now c.args.port c.args.vc _
    (subst IsRouter c.self.view_is c.self.invariant.router) c.requires.place (by_hold c)
