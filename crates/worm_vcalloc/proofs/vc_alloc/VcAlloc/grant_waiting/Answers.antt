use Rattle.std.proofs.Common.{◌∙◌, ap}
use Rattle.worm_vcalloc.specs.Asked.{IsFiled}
use Rattle.worm_vcalloc.specs.Places.{arbiters_at}
use Rattle.worm_vcalloc.specs.VcAlloc.{VcAllocState, VcPass, vc_pass}
use Rattle.worm_vcalloc.proofs.AskedPassed.{passed_start, passed_more, passed_all}
use Rattle.worm_vcalloc.proofs.PassMatches.{matching_of}
use Rattle.worm_vcalloc.proofs.PlacesKept.{IsVcAlloc-placed}
use Rattle.worm_vcalloc.proofs.vc_alloc.VcAlloc.grant_waiting.Goals as goal

pub loop-out-init : goal.loop-out-init
loop-out-init c =
    let start : VcPass = record { alloc = c.args.self.now; grants = c.args.grants.now } in
    let filed : IsFiled c.args.waiting.now c.args.self.now.ports c.args.self.now.vcs c.file.new.self =
    rw (← c.self.view_is) c.file.ensures in
    rw c.ports-left.ensures (passed_start c.args.waiting.now c.args.free.now start c.file.new.self
    (rw (← c.self.view_is)
    (IsVcAlloc-placed c.self.inside.ports c.self.inside.vcs c.self.inside.places c.self.invariant)) filed)

pub loop-out-preserved : goal.loop-out-preserved
loop-out-preserved c =
    let start : VcPass = record { alloc = c.args.self.now; grants = c.args.grants.now } in
    let here : VcPass = record { alloc = c.loop-out.self; grants = c.loop-out.grants } in
    let there : VcPass = record { alloc = c.grant_port.new.self; grants = c.grant_port.new.grants } in
    let filed : IsFiled c.args.waiting.now c.args.self.now.ports c.args.self.now.vcs c.file.new.self =
    rw (← c.self.view_is) c.file.ensures in
    let filed_here : IsFiled c.args.waiting.now c.loop-out.self.ports c.loop-out.self.vcs c.file.new.self =
    rw (c.loop-out.invariant.reached.ports, c.loop-out.invariant.reached.vcs) filed in
    let first = c.in-Some.ensures in
    passed_more c.args.waiting.now c.args.free.now start here there c.loop-out.left c.pop_first.new.self c.in-Some.out
    c.loop-out.invariant first (c.loop-out.invariant.within c.in-Some.out first.in_range first.was_in)
    (c.grant_port.ensures.pass c.args.waiting.now filed_here) c.grant_port.ensures.ports c.grant_port.ensures.vcs

pub returns-clause-pass : goal.returns-clause-pass
returns-clause-pass c =
    let start : VcPass = record { alloc = c.args.self.now; grants = c.args.grants.now } in
    let here : VcPass = record { alloc = c.loop-out.self; grants = c.loop-out.grants } in
    passed_all c.args.waiting.now c.args.free.now start here c.loop-out.left c.loop-out.invariant c.in_default.ensures.0

pub returns-clause-matching : goal.returns-clause-matching
returns-clause-matching c = λ none.
    let s : VcAllocState = record {
      ports = c.self.inside.ports;
      vcs = c.self.inside.vcs;
      arbiters = arbiters_at c.self.inside.ports c.self.inside.vcs c.self.inside.places;
    } in
    rw (← c.self.view_is) (matching_of c.args.waiting.now c.args.free.now s c.loop-out.self c.loop-out.grants
    (IsVcAlloc-placed c.self.inside.ports c.self.inside.vcs c.self.inside.places c.self.invariant)
    (rw c.self.view_is (returns-clause-pass c
    ∙ ap (λ g. vc_pass c.args.waiting.now c.args.free.now (record { alloc = c.args.self.now; grants = g })) none)))
