use Rattle.std.proofs.Common.{◌≡◌, ℕ, ◌<◌, ◌∙◌, Some, sym, subst}
use Rattle.worm_router.specs.Router.{leaving}
use Rattle.worm_theory.specs.Steps.{Send, IsThere}
use Rattle.worm_region.specs.State.{router_at, shape}
use Rattle.worm_region.specs.declared.owner.Owner.{Owner}
use Rattle.worm_split.specs.Apart.{IsKept}
use Rattle.worm_split.specs.PartState.{PartState, IsPart, part_state}
use Rattle.worm_split.specs.PartTurns.{LeavesBy}
use Rattle.worm_split.proofs.GoesByEnd.{IsGoing, ends_elsewhere, may_go, went, stayed}
use Rattle.worm_split.proofs.EndsKnown.{HasLinks, out_end_bound}
use Rattle.worm_split.proofs.NothingCame.{still_same}
use Rattle.worm_split.proofs.part.Part.send_across.Goals as goal
use Rattle.worm_split.proofs.part.Part.send_across.Goals.{After-index_mut}
use Rattle.worm_split.proofs.part.Part.send_across.Given as given

-- the flit that leaves, and its link
going : (g : given.Over) (c : After-index_mut g)
    → let i = c.self.inside in
    IsGoing (part_state i.region i.ends.items i.opening.value i.pairs.value.items) c.args.node c.args.port c.args.vc
    c.args.out c.args.flit c.links_beyond-links.result c.from.result c.index_mut.result.now
going g c =
    let back = sym c.self.view_is in
    record {
      has = record {
        part = c.self.invariant.0;
        framed = c.recall.ensures.framed;
        at = c.links_beyond-links.ensures;
      };
      leaves = subst (λ (q : PartState). LeavesBy q c.args.node c.args.out) back c.requires.leaves;
      there = subst (λ (q : PartState). IsThere (shape q.net) (Send c.args.node c.args.port c.args.vc)) back
          c.requires.there;
      ready = subst (λ (q : PartState). leaving (router_at q.net c.args.node) c.args.port c.args.vc
          ≡ Some (c.args.out, c.args.flit)) back c.requires.ready;
      number = c.from.ensures;
      looked = c.index_mut.ensures.value;
    }

pub push_flit-requires : goal.push_flit-requires
push_flit-requires g c = may_go (going g (goal.at.push_flit-requires g c).After-index_mut)

pub sent-requires-clause-crosses : goal.sent-requires-clause-crosses
sent-requires-clause-crosses g c =
    ends_elsewhere (going g (goal.at.sent-requires-clause-crosses g c).After-index_mut)

pub invariant_of-self : goal.invariant_of-self
invariant_of-self g c =
    let i = c.self.inside in
    let landed = went (going g (goal.at.invariant_of-self g c).After-index_mut) c.push_flit.new.end
    c.sent.new.self c.if-push_flit.ensures c.sent.ensures in
    (landed.0, subst (λ (w : Owner). IsKept i.opening.value w i.kept) (sym landed.2.config.own) c.self.invariant.1)

pub returns-then-push_flit-clause-sends : goal.returns-then-push_flit-clause-sends
returns-then-push_flit-clause-sends g c =
    let landed = went (going g (goal.at.returns-then-push_flit-clause-sends g c).After-index_mut) c.push_flit.new.end
    c.sent.new.self c.if-push_flit.ensures c.sent.ensures in
    rw (← c.self.view_is) landed.1

-- where the push came back

pub invariant_of-self-else-push_flit : goal.invariant_of-self-else-push_flit
invariant_of-self-else-push_flit g c =
    let kept = stayed (going g (goal.at.invariant_of-self-else-push_flit g c).After-index_mut) c.push_flit.new.end
    c.if-push_flit.ensures in
    (subst IsPart (sym kept.0) c.self.invariant.0, c.self.invariant.1)

pub returns-else-push_flit-clause-sends : goal.returns-else-push_flit-clause-sends
returns-else-push_flit-clause-sends g c =
    let kept = stayed (going g (goal.at.returns-else-push_flit-clause-sends g c).After-index_mut) c.push_flit.new.end
    c.if-push_flit.ensures in
    rw (← c.self.view_is) kept.1

pub returns-then-push_flit-clause-same : goal.returns-then-push_flit-clause-same
returns-then-push_flit-clause-same g c =
    let landed = went (going g (goal.at.returns-then-push_flit-clause-same g c).After-index_mut) c.push_flit.new.end
    c.sent.new.self c.if-push_flit.ensures c.sent.ensures in
    rw (← c.self.view_is) landed.2

pub returns-else-push_flit-clause-same : goal.returns-else-push_flit-clause-same
returns-else-push_flit-clause-same g c =
    let kept = stayed (going g (goal.at.returns-else-push_flit-clause-same g c).After-index_mut) c.push_flit.new.end
    c.if-push_flit.ensures in
    still_same c.args.self.now _ (kept.0 ∙ c.self.view_is)

pub index_mut-requires : goal.index_mut-requires
index_mut-requires g c =
    let i = c.self.inside in
    let has : HasLinks (part_state i.region i.ends.items i.opening.value i.pairs.value.items) c.args.node c.args.out
    c.links_beyond-links.result
    = record { part = c.self.invariant.0; framed = c.recall.ensures.framed; at = c.links_beyond-links.ensures } in
    subst (λ (len : ℕ). c.from.result < len) (sym i.ends.ok.0) (out_end_bound has _ c.from.ensures)
