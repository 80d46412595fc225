use Rattle.std.proofs.Common.{refl, sym, subst, ap, ◌∙◌, ◌≡◌, ℕ, Bool, List, Option, None, replicate}
use Rattle.worm_vcalloc.specs.VcAlloc.{VcAllocState, vc_pass}
use Rattle.worm_vcalloc.specs.declared.request.VcRequest.{VcRequest}
use Rattle.worm_router.specs.Router.{RouterState}
use Rattle.worm_router.specs.Allocation.{IsSameSize, AreHeld, LeavesRest}
use Rattle.worm_router.proofs.NothingWaits.{nothing_granted, nothing_matched}
use Rattle.worm_router.proofs.GrantsWritten.{writing_begins, has_grant}
use Rattle.worm_router.proofs.Grantable.{grantable}
use Rattle.worm_router.proofs.GrantsHeld.{IsPassed, passed_by, next_place, next_held, next_waits, next_written}
use Rattle.worm_router.proofs.NothingLeft.{nothing_left}
use Rattle.worm_router.proofs.router.Router.grant_waiting.Goals as goal

pub returns-then-allocates_nothing-clause-grants : goal.returns-then-allocates_nothing-clause-grants
returns-then-allocates_nothing-clause-grants c =
    nothing_granted c.args.self.now c.new.result (c.allocates_nothing.ensures.asked c.if-allocates_nothing.true)
    c.new.ensures

pub returns-then-allocates_nothing-clause-matching : goal.returns-then-allocates_nothing-clause-matching
returns-then-allocates_nothing-clause-matching c =
    nothing_matched c.args.self.now c.new.result (c.allocates_nothing.ensures.asked c.if-allocates_nothing.true)
    c.new.ensures

pub loop-port-init : goal.loop-port-init
loop-port-init c = writing_begins _ _ _ c.keys-left.ensures

pub in_record-requires : goal.in_record-requires
in_record-requires c =
    let given = grantable _ _ _ _ _ _ _ c.self.invariant c.requests-requests.ensures c.free-free.ensures
    (c.grant_waiting.ensures.matching c.new-grants.ensures) in
    next_place _ c.grant_waiting.new.self _ given _ _ _ _ _ c.loop-port.invariant c.in-Some.ensures

pub number-out_vc-requires-clause-within : goal.number-out_vc-requires-clause-within
number-out_vc-requires-clause-within c = has_grant _ _ _ _ c.loop-port.invariant _ _ _ c.in-Some.ensures

pub hold-requires-clause-place : goal.hold-requires-clause-place
hold-requires-clause-place c =
    let given = grantable _ _ _ _ _ _ _ c.self.invariant c.requests-requests.ensures c.free-free.ensures
    (c.grant_waiting.ensures.matching c.new-grants.ensures) in
    next_place _ c.grant_waiting.new.self _ given _ _ _ _ _ c.loop-port.invariant c.in-Some.ensures

pub hold-requires-clause-out_place : goal.hold-requires-clause-out_place
hold-requires-clause-out_place c =
    let given = grantable _ _ _ _ _ _ _ c.self.invariant c.requests-requests.ensures c.free-free.ensures
    (c.grant_waiting.ensures.matching c.new-grants.ensures) in
    (next_held _ c.grant_waiting.new.self _ given _ _ _ _ _ c.loop-port.invariant c.in-Some.ensures _ _
    (sym c.number-out_vc.ensures) (sym c.in_record.ensures ∙ c.in-Waiting.is)).out_place

pub hold-requires-clause-free : goal.hold-requires-clause-free
hold-requires-clause-free c =
    let given = grantable _ _ _ _ _ _ _ c.self.invariant c.requests-requests.ensures c.free-free.ensures
    (c.grant_waiting.ensures.matching c.new-grants.ensures) in
    (next_held _ c.grant_waiting.new.self _ given _ _ _ _ _ c.loop-port.invariant c.in-Some.ensures _ _
    (sym c.number-out_vc.ensures) (sym c.in_record.ensures ∙ c.in-Waiting.is)).free

pub loop-port-preserved : goal.loop-port-preserved
loop-port-preserved c =
    let given = grantable _ _ _ _ _ _ _ c.self.invariant c.requests-requests.ensures c.free-free.ensures
    (c.grant_waiting.ensures.matching c.new-grants.ensures) in
    next_written _ c.grant_waiting.new.self _ given _ _ _ _ _ c.loop-port.invariant c.in-Some.ensures _ _
    (sym c.number-out_vc.ensures) (sym c.in_record.ensures ∙ c.in-Waiting.is) _ c.hold.ensures

pub unreachable-requires : goal.unreachable-requires
unreachable-requires c =
    let given = grantable _ _ _ _ _ _ _ c.self.invariant c.requests-requests.ensures c.free-free.ensures
    (c.grant_waiting.ensures.matching c.new-grants.ensures) in
    let waits = next_waits _ c.grant_waiting.new.self _ given _ _ _ _ _ c.loop-port.invariant c.in-Some.ensures _
    (sym c.number-out_vc.ensures) in
    absurd (c.in_default-in_record.not-Waiting waits.0 (c.in_record.ensures ∙ waits.1))

-- the table was empty
from_none : (waiting : List (List (Option VcRequest))) (free : List (List Bool)) (a : VcAllocState)
    (grants : List (List (Option ℕ))) → grants ≡ replicate 7 (replicate 8 None)
    → vc_pass waiting free (record { alloc = a; grants = grants })
    ≡ vc_pass waiting free (record { alloc = a; grants = replicate 7 (replicate 8 None) })
from_none waiting free a grants = ap (λ g. vc_pass waiting free (record { alloc = a; grants = g }))

pub set_grants_nothing-requires : goal.set_grants_nothing-requires
set_grants_nothing-requires c =
    let given = grantable _ _ _ _ _ _ _ c.self.invariant c.requests-requests.ensures c.free-free.ensures
    (c.grant_waiting.ensures.matching c.new-grants.ensures) in
    nothing_left _ _ _ _ _ given (passed_by _ _ _ _ _ _ _ _ _ _ _ refl c.self.invariant c.requests-requests.ensures
    c.free-free.ensures (c.grant_waiting.ensures.pass ∙ from_none _ _ _ _ c.new-grants.ensures)
    (c.grant_waiting.ensures.matching c.new-grants.ensures) c.loop-port.invariant
    c.in_default.ensures.0) c.self-2.view_is c.self-2.invariant.demand

passed : (c : goal.After-set_grants_nothing) → IsPassed c.args.self.now c.loop-port.self c.grant_waiting.new.grants
passed c =
    passed_by _ c.args.self.now _ _ _ _ _ _ _ _ _ c.self.view_is c.self.invariant c.requests-requests.ensures
    c.free-free.ensures (c.grant_waiting.ensures.pass ∙ from_none _ _ _ _ c.new-grants.ensures)
    (c.grant_waiting.ensures.matching c.new-grants.ensures) c.loop-port.invariant c.in_default.ensures.0

pub returns-clause-after : goal.returns-clause-after
returns-clause-after c = c.self-2.view_is ∙ (passed c).after

pub returns-clause-same : goal.returns-clause-same
returns-clause-same c = subst (IsSameSize c.args.self.now) (sym c.self-2.view_is) (passed c).same

pub returns-clause-held : goal.returns-clause-held
returns-clause-held c =
    subst (λ (r : RouterState). AreHeld c.args.self.now r c.grant_waiting.new.grants) (sym c.self-2.view_is)
    (passed c).held

pub returns-clause-rest : goal.returns-clause-rest
returns-clause-rest c =
    subst (λ (r : RouterState). LeavesRest c.args.self.now r c.grant_waiting.new.grants) (sym c.self-2.view_is)
    (passed c).rest
