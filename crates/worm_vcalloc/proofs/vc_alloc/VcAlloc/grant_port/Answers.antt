use Rattle.std.proofs.Common.{◌≡◌, arith, ◌∙◌, ap, fold}
use Rattle.std.specs.List.{range_with_len}
use Rattle.worm_vcalloc.specs.Asked.{IsFiled}
use Rattle.worm_vcalloc.specs.VcAlloc.{VcPass, port_pass, vc_step}
use Rattle.worm_vcalloc.proofs.PassAgrees.{channel_offered, channel_passed}
use Rattle.worm_vcalloc.proofs.vc_alloc.VcAlloc.grant_port.Goals as goal
use Rattle.worm_vcalloc.proofs.vc_alloc.VcAlloc.grant_port.Goals.{then-free-out, else-free-out}

pub loop-channel-preserved : goal.loop-channel-preserved
loop-channel-preserved c = λ waiting filed.
    let start : VcPass = record { alloc = c.args.self.now; grants = c.args.grants.now } in
    let here : VcPass = record { alloc = c.loop-channel.self; grants = c.loop-channel.grants } in
    let there : VcPass = record { alloc = c.if-free-out.self; grants = c.if-free-out.grants } in
    let reached = c.loop-channel.invariant waiting filed in
    elim c.if-free-out.branch [
      | then-free-out w ↦
          let is : there ≡ record { alloc = w.offer.new.self; grants = w.offer.new.grants } = cc in
          let filed_here : IsFiled waiting c.loop-channel.self.ports c.loop-channel.self.vcs c.args.asked.now =
          rw (reached.ports, reached.vcs) filed in
          channel_offered waiting c.args.free.now c.args.self.now start here there c.args.out c.loop-channel.channel
          reached w.if-free-out.true (is ∙ w.offer.ensures.pass waiting filed_here)
          (ap (λ p. p.alloc.ports) is ∙ w.offer.ensures.ports)
          (ap (λ p. p.alloc.vcs) is ∙ w.offer.ensures.vcs)
      | else-free-out w ↦
          channel_passed waiting c.args.free.now c.args.self.now start here there c.args.out c.loop-channel.channel
          reached w.if-free-out.false (cc)
    ]

pub returns-clause-pass : goal.returns-clause-pass
unfolding port_pass
returns-clause-pass c = λ waiting filed.
    let last : c.loop-channel.channel ≡ c.self.inside.vcs = omega arith in
    let reached = c.loop-channel.invariant waiting filed in
    reached.is
    ∙ ap (λ n. fold (vc_step waiting c.args.free.now c.args.out)
    (record { alloc = c.args.self.now; grants = c.args.grants.now }) (range_with_len 0 n))
    (last ∙ ap (λ s. s.vcs) c.self.view_is)
