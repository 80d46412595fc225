use Rattle.std.proofs.Common.{◌≡◌, Some, None, sym, ◌∙◌, refl, subst, arith, replicate, slice_set}
use Rattle.std.proofs.lemmas.List.{length-set}
use Rattle.worm_swalloc.specs.declared.grant.SwGrant.{SwGrant}
use Rattle.worm_swalloc.specs.SwAlloc.{IsSwitchMatching, all_named, sw_grants}
use Rattle.worm_swalloc.proofs.ApartAreGranted.{apart_all, apart_granted, apart_requested, each_more}
use Rattle.worm_swalloc.proofs.ApartAreGranted.{each_start}
use Rattle.worm_swalloc.proofs.GrantsOfSet.{below_more}
use Rattle.worm_swalloc.proofs.SwitchPass.{asked_all, matching, named_within, pass_is}
use Rattle.worm_swalloc.proofs.sw_alloc.SwAlloc.grant_each.Goals as goal

pub loop-port-init : goal.loop-port-init
loop-port-init c = (
  each_start c.args.self.now c.args.ready.now (rw (← c.self.view_is) c.self.invariant) c.requires.apart
      c.keys-among.result (replicate 7 None)
      (rw (← c.self.view_is) (let few = c.self.invariant.few_ports in omega arith))
      (rw (← c.self.view_is) (let few = c.self.invariant.few_ports in omega arith)) refl,
  refl,
)

pub loop-port-preserved : goal.loop-port-preserved
loop-port-preserved c =
    let long = c.loop-port.invariant.1 in
    let grant : SwGrant = record { vc = c.in-Some.vc; out = c.out_port-out.result } in (
      each_more c.args.self.now c.args.ready.now (rw (← c.self.view_is) c.self.invariant) c.requires.apart
          c.keys-among.result c.loop-port.left c.pop_first.new.self c.in-Some.port c.in-Some.vc c.out_port-out.result
          c.loop-port.requests (slice_set c.loop-port.requests c.in-Some.port (Some grant)) c.loop-port.self
          c.move_past.new.self (rw (← c.self.view_is) (let few = c.self.invariant.few_ports in omega arith))
          (rw (← c.self.view_is) (let few = c.self.invariant.few_ports in omega arith)) (omega arith)
          c.keys-among.ensures c.loop-port.invariant.0 c.in-Some.ensures (sym c.out_port-out.ensures) refl
          c.move_past.ensures,
      length-set c.loop-port.requests c.in-Some.port (Some grant) ∙ long,
    )

-- all channels have come out of the set, so that each port has named what it has
named_are : (c : goal.In_default) → c.loop-port.requests ≡ all_named c.args.self.now c.args.ready.now
named_are c =
    asked_all c.args.self.now c.args.ready.now c.keys-among.result c.loop-port.left c.loop-port.requests
    (rw (← c.self.view_is) c.self.invariant) c.keys-among.ensures c.loop-port.invariant.0.asked c.in_default.ensures.0

pub among-requires-clause-below : goal.among-requires-clause-below
among-requires-clause-below c =
    below_more c.args.self.now.vcs 8 c.loop-port.requests (rw (← c.self.view_is) c.self.invariant.few_channels)
    (named_within c.args.self.now c.args.ready.now c.loop-port.requests (rw (← c.self.view_is) c.self.invariant)
    (named_are c))

pub among-requires-clause-requested : goal.among-requires-clause-requested
among-requires-clause-requested c =
    apart_requested c.args.self.now c.args.ready.now (rw (← c.self.view_is) c.self.invariant) c.requires.apart
    c.keys-among.result c.loop-port.requests c.keys-among.ensures (named_are c)

named_still : (c : goal.After-among) → c.loop-port.requests ≡ all_named c.args.self.now c.args.ready.now
named_still c =
    asked_all c.args.self.now c.args.ready.now c.keys-among.result c.loop-port.left c.loop-port.requests
    (rw (← c.self.view_is) c.self.invariant) c.keys-among.ensures c.loop-port.invariant.0.asked c.in_default.ensures.0

-- the grants are those of the pass
granted_are : (c : goal.After-among) → c.among.result ≡ sw_grants c.args.self.now c.args.ready.now
granted_are c =
    c.among.ensures
    ∙ apart_all c.args.self.now c.args.ready.now (rw (← c.self.view_is) c.self.invariant) c.requires.apart
    c.keys-among.result c.loop-port.requests c.keys-among.ensures (named_still c)

pub returns-clause-grants : goal.returns-clause-grants
returns-clause-grants c = granted_are c

pub returns-clause-after : goal.returns-clause-after
returns-clause-after c =
    pass_is c.args.self.now c.loop-port.self c.args.ready.now c.loop-port.requests c.loop-port.requests
    (rw (← c.self.view_is) (let few = c.self.invariant.few_ports in omega arith)) (named_still c)
    (named_still c ∙ sym (apart_granted c.args.self.now c.args.ready.now (rw (← c.self.view_is) c.self.invariant)
    c.requires.apart))
    c.loop-port.invariant.0.state

pub returns-clause-matching : goal.returns-clause-matching
returns-clause-matching c =
    subst (IsSwitchMatching c.args.self.now c.args.ready.now) (sym (granted_are c))
    (matching c.args.self.now c.args.ready.now (rw (← c.self.view_is) c.self.invariant))
