use Rattle.std.proofs.Common.{◌≡◌, ◌∙◌, ℕ, Option, Some, None, inl, inr, refl, sym, subst}
use Rattle.worm_flit.specs.declared.Flit.{Flit}
use Rattle.worm_router.specs.Router.{leaving}
use Rattle.worm_region.specs.State.{router_at}
use Rattle.worm_split.specs.PartState.{PartState}
use Rattle.worm_split.specs.PartTurns.{LeavesBy, StaysWithin}
use Rattle.worm_split.proofs.part.Part.send.Goals as goal

-- what leaves by a port that leads to no other worker stays within the part
stays_by : (p : PartState) (x out : ℕ) (flit : Flit) (way : Option (ℕ × Flit)) → way ≡ Some (out, flit)
    → (LeavesBy p x out → ⊥) → StaysWithin p x way
stays_by p x out flit way at none = subst (λ (w : Option (ℕ × Flit)). StaysWithin p x w) (sym at) none

-- and so does nothing
stays_none : (p : PartState) (x : ℕ) (way : Option (ℕ × Flit)) → way ≡ None → StaysWithin p x way
stays_none p x way at = subst (λ (w : Option (ℕ × Flit)). StaysWithin p x w) (sym at) tt

pub returns-in_default-clause-sends : goal.returns-in_default-clause-sends
returns-in_default-clause-sends g c =
    let none = subst (λ (q : PartState). leaving (router_at q.net c.args.node) c.args.port c.args.vc ≡ None)
    c.self.view_is (sym c.ready.ensures ∙ c.in_default.is) in
    inr (stays_none c.args.self.now c.args.node _ none, c.send_within.ensures.sends)

pub returns-then-not-leaves-clause-sends : goal.returns-then-not-leaves-clause-sends
returns-then-not-leaves-clause-sends g c =
    let at = subst (λ (q : PartState). leaving (router_at q.net c.args.node) c.args.port c.args.vc
    ≡ Some (c.in-Some.out, c.in-Some.flit)) c.self.view_is (sym c.ready.ensures ∙ c.in-Some.is) in
    let stays = stays_by c.args.self.now c.args.node c.in-Some.out c.in-Some.flit _ at
    (λ leaves. let led = c.leaves.ensures.1 leaves in let not = c.if-not-leaves.true in absurd (cc)) in
    inr (stays, c.send_within-then-not-leaves.ensures.sends)

pub send_within-requires-clause-stays : goal.send_within-requires-clause-stays
send_within-requires-clause-stays g c =
    stays_none c.args.self.now c.args.node _ (subst (λ (q : PartState).
    leaving (router_at q.net c.args.node) c.args.port c.args.vc ≡ None) c.self.view_is
    (sym c.ready.ensures ∙ c.in_default.is))

pub send_within-requires-then-not-leaves-clause-stays : goal.send_within-requires-then-not-leaves-clause-stays
send_within-requires-then-not-leaves-clause-stays g c =
    let at = subst (λ (q : PartState). leaving (router_at q.net c.args.node) c.args.port c.args.vc
    ≡ Some (c.in-Some.out, c.in-Some.flit)) c.self.view_is (sym c.ready.ensures ∙ c.in-Some.is) in
    stays_by c.args.self.now c.args.node c.in-Some.out c.in-Some.flit _ at
    (λ leaves. let led = c.leaves.ensures.1 leaves in let not = c.if-not-leaves.true in absurd (cc))

pub send_across-requires-clause-ready : goal.send_across-requires-clause-ready
send_across-requires-clause-ready g c =
    subst (λ (q : PartState). leaving (router_at q.net c.args.node) c.args.port c.args.vc
    ≡ Some (c.in-Some.out, c.in-Some.flit)) c.self.view_is (sym c.ready.ensures ∙ c.in-Some.is)

pub send_across-requires-clause-leaves : goal.send_across-requires-clause-leaves
send_across-requires-clause-leaves g c = c.leaves.ensures.0 c.if-not-leaves.false

pub returns-clause-sends : goal.returns-clause-sends
returns-clause-sends g c = inl (refl, c.send_across.ensures.sends)

pub returns-clause-same : goal.returns-clause-same
returns-clause-same g c = c.send_across.ensures.same
